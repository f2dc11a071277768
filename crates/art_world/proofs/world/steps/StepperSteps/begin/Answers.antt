-- A version word is found.
use Rattle.std.proofs.Common.{arith, rules}
use Rattle.art_world.specs.Stepper.{pass_of, view_of, world_of}
use Rattle.art_step.specs.WordRows.{views_of}
use Rattle.art_world.proofs.ViewLists.{at_view}
use Rattle.art_step.proofs.Moves.{moves_begins}
use Rattle.art_world.proofs.world.steps.StepperSteps.begin.Goals as goal

pub find-requires-clause-moves : goal.find-requires-clause-moves
find-requires-clause-moves c i =
    let s = c.args.self.now in
    let k = world_of s in
    moves_begins k.sizes k.words (views_of k.views) (pass_of s) (view_of s) i.sound (at_view k.views (pass_of s) s.inside) i.long c.args.cell c.version-found.result.word c.requires.may c.version-found.ensures

pub returns-clause-row : goal.returns-clause-row
returns-clause-row c = (search rules, grind arith, search rules)
