use Rattle.std.proofs.Common.{◌≡◌, ◌∙◌, false, Some, None, sym, refl, rules}
use Rattle.std.specs.Option.{is_some}
use Rattle.std.specs.Prelude.{Option}
use Rattle.art_table.proofs.attempts.Attempt.step.Goals as goal

none_is : {A : Type 0} (o : Option A) → is_some o ≡ false → o ≡ None
none_is None e = refl
none_is (Some x) e = cc

pub step-requires : goal.step-requires
step-requires c =
    let r = c.requires in
    (r.0, r.1, r.1, r.2, r.3.goes_on (none_is c.args.self.now.refused (sym c.is_some.ensures ∙ c.if-is_some.false)))

pub returns-in-Some-clause-goes_on : goal.returns-in-Some-clause-goes_on
returns-in-Some-clause-goes_on c j turns p at =
    let none = none_is c.args.self.now.refused (sym c.is_some.ensures ∙ c.if-is_some.false) in
    record {
      began = at.began;
      fault = at.fault;
      refused = λ f is. cc;
      goes_on = λ _. c.step.ensures.goes_on j turns turns p (at.goes_on none);
    }

pub returns-in-None-clause-goes_on : goal.returns-in-None-clause-goes_on
returns-in-None-clause-goes_on c j turns p at =
    let none = none_is c.args.self.now.refused (sym c.is_some.ensures ∙ c.if-is_some.false) in
    record {
      began = at.began;
      fault = at.fault;
      refused = λ f is. cc;
      goes_on = λ _. c.step.ensures.goes_on j turns turns p (at.goes_on none);
    }

pub returns-in-Some-clause-made : goal.returns-in-Some-clause-made
returns-in-Some-clause-made c = search rules
