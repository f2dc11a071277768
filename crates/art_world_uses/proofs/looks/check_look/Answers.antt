use Rattle.std.proofs.Common.{sym, subst}
use Rattle.art_change.specs.Calls.{IsCaller}
use Rattle.art_step.specs.declared.views.Sizes.{Sizes}
use Rattle.art_world.specs.Stepper.{only_sizes, view_of}
use Rattle.art_world_uses.proofs.looks.check_look.Goals as goal

pub returns-clause-may : goal.returns-clause-may
returns-clause-may g c =
    let b = c.look-reached.new.steps in
    let e = c.look-reached.ensures in
    subst (λ (z : Sizes). IsCaller z (view_of b) c.look-reached.new.self) (sym (only_sizes c.args.stepper.now b e.only)) e.called.1.caller
