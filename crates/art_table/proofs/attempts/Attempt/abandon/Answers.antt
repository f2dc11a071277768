use Rattle.std.proofs.Common.{◌≡◌, ◌∙◌, false, true, Some, None, sym, refl, ap, subst}
use Rattle.std.specs.Option.{is_some}
use Rattle.std.specs.Prelude.{Option}
use Rattle.std.specs.Box.{with_value}
use Rattle.art_change.specs.declared.callers.Caller.{Caller}
use Rattle.art_change.specs.Calls.{HoldsOrTold}
use Rattle.art_table.proofs.GivenUp.{given_way, idle_free, nothing_made, refused_none, was_free, why_not}
use Rattle.art_table.proofs.attempts.Attempt.abandon.Goals as goal
use Rattle.art_table.specs.Attempts.{IsGivenUp}
use Rattle.art_table.specs.Tables.{view_of}
use Rattle.art_table.specs.declared.passes.Pass.{Pass}

none_is : {A : Type 0} (o : Option A) → is_some o ≡ false → o ≡ None
none_is None e = refl
none_is (Some x) e = cc

some_is : {A : Type 0} (o : Option A) → is_some o ≡ true → (x : A) × (o ≡ Some x)
some_is (Some x) e = (x, refl)
some_is None e = cc

pub returns-then-not-give_up-clause-back : goal.returns-then-not-give_up-clause-back
returns-then-not-give_up-clause-back c =
    let a = c.args.self in
    ap (λ (x : Caller). record { pass = record { seat = a.pass.seat; caller = with_value a.pass.caller x }; refused = a.refused }) (c.give_up.ensures.kept c.if-not-give_up.true ∙ c.deref_mut.ensures.value)

pub returns-then-not-give_up-clause-why : goal.returns-then-not-give_up-clause-why
returns-then-not-give_up-clause-why c j turns p at =
    let a = c.args.self in
    let none = none_is a.refused (sym c.is_some.ensures ∙ c.if-is_some.false) in
    why_not c.args.table.now a.pass c.deref_mut.result.now c.deref_mut.ensures.value j turns p (at.goes_on none) (c.give_up.ensures.why c.if-not-give_up.true)

pub run-requires : goal.run-requires
run-requires c =
    let a = c.args.self in
    let r = c.requires in
    let none = none_is a.refused (sym c.is_some.ensures ∙ c.if-is_some.false) in
    let e = c.give_up.ensures in
    let way = given_way c.args.table.now a.pass c.deref_mut.result.now c.deref_mut.ensures.value r.0 r.1 r.2 (r.3.goes_on none) c.give_up.new.self (e.given c.if-not-give_up.false) e.apart in
    (r.0, r.1, way.0, r.2, way.1)

pub returns-then-is_some-clause-given : goal.returns-then-is_some-clause-given
returns-then-is_some-clause-given c j turns p at =
    let some = some_is c.args.self.refused (sym c.is_some.ensures ∙ c.if-is_some.true) in
    subst (λ (q : Pass). IsGivenUp c.args.table.now turns p q) (sym (at.refused some.0 some.1)) (nothing_made c.args.table.now turns p at.began)

pub returns-clause-given : goal.returns-clause-given
returns-clause-given c j turns p at =
    let a = c.args.self in
    let none = none_is a.refused (sym c.is_some.ensures ∙ c.if-is_some.false) in
    let e = c.give_up.ensures in
    let way = given_way c.args.table.now a.pass c.deref_mut.result.now c.deref_mut.ensures.value j turns p (at.goes_on none) c.give_up.new.self (e.given c.if-not-give_up.false) e.apart in
    let k = c.run.ensures.ended j turns way.0 p way.1 in
    record {
      pass = k.pass;
      same = k.same;
      sees = refused_none c.args.table.now j p c.run.new.self c.run.result (c.run.ensures.refused (e.refuses c.if-not-give_up.false)) k.sees;
      steps = k.steps;
    }

pub returns-then-is_some-clause-free : goal.returns-then-is_some-clause-free
returns-then-is_some-clause-free c j turns p at =
    let some = some_is c.args.self.refused (sym c.is_some.ensures ∙ c.if-is_some.true) in
    subst (λ (q : Pass). HoldsOrTold (view_of p) (view_of q) → ⊥) (sym (at.refused some.0 some.1)) (idle_free c.args.table.now p at.began)

pub returns-clause-free : goal.returns-clause-free
returns-clause-free c j turns p at =
    let a = c.args.self in
    let none = none_is a.refused (sym c.is_some.ensures ∙ c.if-is_some.false) in
    was_free c.args.table.now a.pass c.deref_mut.result.now c.deref_mut.ensures.value j turns p (at.goes_on none) (c.give_up.ensures.free c.if-not-give_up.false)
