-- A word is found.
use Rattle.art_world.specs.Stepper.{pass_of, view_of, world_of}
use Rattle.art_step.specs.WordRows.{views_of}
use Rattle.art_world.proofs.ViewLists.{at_view}
use Rattle.art_step.proofs.Moves.{moves_reads_leaf}
use Rattle.art_world.proofs.world.steps.StepperSteps.read_leaf.Goals as goal

pub find-requires-clause-moves : goal.find-requires-clause-moves
find-requires-clause-moves c i =
    let s = c.args.self.now in
    let k = world_of s in
    moves_reads_leaf k.sizes k.words (views_of k.views) (pass_of s) (view_of s) i.sound (at_view k.views (pass_of s) s.inside) i.long c.args.stamp c.args.leaf c.args.place c.word-value.result c.requires.may c.word-value.ensures
