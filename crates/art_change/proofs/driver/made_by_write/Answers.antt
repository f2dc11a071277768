use Rattle.std.proofs.Common.{◌≡◌, ◌+◌, ℕ, Bool, ◌∙◌, ⊎_elim, ap, sym, subst, arith}
use Rattle.art_change.proofs.Events.{makes_any, none_made, one_or_none}
use Rattle.art_change.proofs.StepKinds.{is_step}
use Rattle.art_change.proofs.driver.made_by_write.Goals as goal
use Rattle.art_change.specs.Kinds.{IsStep}
use Rattle.art_change.specs.Made.{MakesAny}
use Rattle.art_step.proofs.Counting.{steps_made}
use Rattle.art_step.specs.Acting.{steps_in}
use Rattle.art_step.specs.declared.step_kinds.StepKind.{StepKind}

pub returns-then-steps-eq0-clause-none : goal.returns-then-steps-eq0-clause-none
returns-then-steps-eq0-clause-none c z o v w row =
    none_made z o c.args.stepped.action c.args.stepped.answer v w (sym c.steps.ensures ∙ c.if-steps-eq0.true) row

pub returns-clause-some : goal.returns-clause-some
returns-clause-some c z o v w may row =
    let a = c.args.stepped.action in
    let r = c.args.stepped.answer in
    let some = c.if-steps-eq0.false in
    let same = c.steps.ensures in
    let one : steps_in r ≡ 1 = ⊎_elim (λ (e : steps_in r ≡ 0). absurd (omega (arith, e, some, same))) (λ (e : steps_in r ≡ 1). e) (one_or_none r) in
    record {
      kind = subst (λ (k : StepKind). IsStep k z v w) (sym c.kind.ensures) (is_step z o a r v w may row);
      event = subst (λ (b : Bool). MakesAny b v w) (sym c.tells.ensures) (makes_any z o a r v w may row);
      one = steps_made z o a r v w may row ∙ ap (λ (n : ℕ). v.steps + n) one;
    }
