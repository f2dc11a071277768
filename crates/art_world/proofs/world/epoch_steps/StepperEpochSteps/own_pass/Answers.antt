-- The pass is one that there is, and its view has its number.
use Rattle.std.proofs.Common.{◌≡◌, ap, arith, sym}
use Rattle.art_step.specs.declared.views.Sizes.{Sizes}
use Rattle.art_world.specs.Stepper.{pass_of, view_of, world_of}
use Rattle.art_world.proofs.ViewLists.{at_view}
use Rattle.art_world.proofs.world.epoch_steps.StepperEpochSteps.own_pass.Goals as goal

pub overflow_cast-result : goal.overflow_cast-result
overflow_cast-result c =
    let low = c.args.self.now.inside in
    let count = c.stays_sound.ensures.passes in
    let same : c.sizes.result.passes ≡ (world_of c.args.self.now).sizes.passes = ap (λ (z : Sizes). z.passes) c.sizes.ensures in
    omega (arith, low, count, same)

pub returns-clause-is : goal.returns-clause-is
returns-clause-is c =
    let s = c.args.self.now in
    sym (c.stays_sound.ensures.sound.history.tells (pass_of s) (view_of s) (at_view (world_of s).views (pass_of s) s.inside)).pass
