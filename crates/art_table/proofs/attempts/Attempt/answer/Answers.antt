use Rattle.std.proofs.Common.{Option, Some, None, rules}
use Rattle.std.proofs.lemmas.Option.{IfSome_then}
use Rattle.std.specs.Prelude.{IfSome, OnSome}
use Rattle.art_table.proofs.Answered.{ends}
use Rattle.art_table.proofs.attempts.Attempt.answer.Goals as goal

on_some : {A : Type 0} (P : A → Type 0) (Q : Type 0) → ((x : A) → P x → Q) → (o : Option A) → IfSome o P → OnSome o Q
on_some P Q f (Some x) p = f x p
on_some P Q f None p = tt

pub ended-requires : goal.ended-requires
ended-requires c = let r = c.requires in (r.0, r.1, r.1, r.2, r.3.goes_on c.in-None.is)

pub returns-in-None-clause-pass : goal.returns-in-None-clause-pass
returns-in-None-clause-pass c =
    let r = c.requires in
    on_some _ _ (λ x e. (e r.0 r.1 r.1 r.2 (r.3.goes_on c.in-None.is)).pass) c.ended.result c.ended.ensures.ended

pub returns-in-None-clause-ends : goal.returns-in-None-clause-ends
returns-in-None-clause-ends c =
    IfSome_then c.ended.result c.ended.ensures.ended (λ x e j turns p at.
    let way = at.goes_on c.in-None.is in
    ends c.args.table.now j turns p x c.args.self.now.pass way.stands (e j turns turns p way))

pub returns-in-Some-clause-at : goal.returns-in-Some-clause-at
returns-in-Some-clause-at c = rw c.in-Some.is

pub returns-in-Some-clause-ends : goal.returns-in-Some-clause-ends
returns-in-Some-clause-ends c = search rules
