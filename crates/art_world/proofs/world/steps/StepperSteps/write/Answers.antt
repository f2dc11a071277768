-- The cell of the one holding is written.
use Rattle.art_world.specs.Stepper.{pass_of, view_of, world_of}
use Rattle.art_step.specs.WordRows.{views_of}
use Rattle.art_world.proofs.ViewLists.{at_view}
use Rattle.std.proofs.Common.{subst, ◌<◌}
use Rattle.art_cell.specs.declared.cells.Cell.{Cell}
use Rattle.art_step.specs.Views.{size_of}
use Rattle.art_step.proofs.Changing.{moves_writes}
use Rattle.art_world.proofs.Moving.{word_low}
use Rattle.art_world.proofs.world.steps.StepperSteps.write.Goals as goal

pub put-requires-clause-place : goal.put-requires-clause-place
put-requires-clause-place c i =
    let k = world_of c.args.self.now in
    let may = c.requires.may in
    rw (c.place_of-first.ensures, c.sizes.ensures, c.cell-cell.ensures) (word_low k _ c.args.place i c.requires.inside (subst (λ (d : Cell). c.args.place < size_of d) may.1 may.2.place.1))

pub put-requires-clause-moves : goal.put-requires-clause-moves
put-requires-clause-moves c i =
    let s = c.args.self.now in
    let k = world_of s in
    let may = c.requires.may in
    rw (c.place_of-first.ensures, c.sizes.ensures, c.cell-cell.ensures) (moves_writes k.sizes k.words (views_of k.views) (pass_of s) (view_of s) i.sound (at_view k.views (pass_of s) s.inside) i.long _ may.0 c.args.place c.args.value c.requires.inside may.1 may.2 c.requires.form)
