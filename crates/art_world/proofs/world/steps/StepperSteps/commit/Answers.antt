-- The cell of the one holding is unlocked first, with the pins that stand.
use Rattle.art_world.specs.Stepper.{pass_of, view_of, world_of}
use Rattle.art_step.specs.WordRows.{views_of}
use Rattle.art_world.proofs.ViewLists.{at_view}
use Rattle.std.proofs.Common.{arith, sym}
use Rattle.art_step.specs.Tokens.{links_of}
use Rattle.art_step.proofs.Changing.{moves_commits, released_fits}
use Rattle.art_world.proofs.Moving.{version_low}
use Rattle.art_world.proofs.Standing.{standing}
use Rattle.art_world.proofs.world.steps.StepperSteps.commit.Goals as goal

pub released-unlocked-requires : goal.released-unlocked-requires
released-unlocked-requires c =
    let s = c.args.self.now in
    let k = world_of s in
    let first = c.requires.first in
    let sound = c.stays_sound.ensures in
    let fits = released_fits k.sizes k.words (views_of k.views) (pass_of s) (view_of s) sound.sound (at_view k.views (pass_of s) s.inside) sound.words _ first.0 first.1 first.2.held in
    rw (c.version.ensures, c.spend-cell.ensures) (omega (arith, fits))

pub put-requires-clause-place : goal.put-requires-clause-place
put-requires-clause-place c i = rw (c.place_of-place.ensures, c.sizes.ensures, c.spend-cell.ensures) (version_low (world_of c.args.self.now) _ i c.requires.inside)

pub put-requires-clause-moves : goal.put-requires-clause-moves
put-requires-clause-moves c i =
    let s = c.args.self.now in
    let k = world_of s in
    let first = c.requires.first in
    let pins = standing k.views (λ q u is. (i.sound.history.tells q u is).pass) in
    rw (c.place_of-place.ensures, c.sizes.ensures, c.released-unlocked.ensures, c.version.ensures, c.spend-cell.ensures, c.spent-leaf.ensures)
    (moves_commits k.sizes k.words (views_of k.views) (pass_of s) (view_of s) i.sound (at_view k.views (pass_of s) s.inside) i.long _ first.0 c.args.deed.now (links_of c.args.unlinked.now) _ c.args.obsolete first.1 pins first.2 c.requires.may c.requires.inside)

pub returns-clause-row : goal.returns-clause-row
returns-clause-row c h holds = rw (sym c.spent-leaf.ensures) (c.put.ensures.row h (rw c.spend-cell.ensures holds))
