use Rattle.std.proofs.Common.{Bool, sym, subst}
use Rattle.art_change.proofs.SoughtSteps.{sought_any, sought_step}
use Rattle.art_change.proofs.driver.made_by_seek.Goals as goal
use Rattle.art_change.specs.Kinds.{IsStep}
use Rattle.art_change.specs.Made.{MakesAny}
use Rattle.art_look.specs.Walks.{Settles}
use Rattle.art_step.specs.declared.step_kinds.StepKind.{StepKind}

pub returns : goal.returns
returns c z d walk k t answer v w is may row one =
    let so = Settles walk k t in
    let a = c.args.made.action in
    record {
      kind = subst (λ (q : StepKind). IsStep q z v w) (sym c.kind.ensures) (sought_step z so d a answer v w may row);
      event = subst (λ (b : Bool). MakesAny b v w) (sym c.is_told.ensures) (sought_any z so d a answer v w c.args.made.stepped is may row);
      one = one;
    }
