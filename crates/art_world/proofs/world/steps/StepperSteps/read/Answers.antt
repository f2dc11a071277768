-- A word is found.
use Rattle.art_world.specs.Stepper.{pass_of, view_of, world_of}
use Rattle.art_step.specs.WordRows.{views_of}
use Rattle.art_world.proofs.ViewLists.{at_view}
use Rattle.art_step.proofs.Moves.{moves_reads}
use Rattle.art_world.proofs.Moving.{stamp_place, stamp_word_low, word_at}
use Rattle.art_world.proofs.world.steps.StepperSteps.read.Goals as goal

pub load-value-requires : goal.load-value-requires
load-value-requires c =
    let s = c.args.self.now in
    stamp_word_low (world_of s) (pass_of s) s.inside (record { long = c.stays_sound.ensures.words; count = c.stays_sound.ensures.passes; sound = c.stays_sound.ensures.sound; lasting = c.stays_sound.ensures.lasting }) c.args.stamp c.args.place c.requires.may.stamp c.requires.inside c.requires.may.place.1

pub find-requires-clause-moves : goal.find-requires-clause-moves
find-requires-clause-moves c i =
    let s = c.args.self.now in
    let k = world_of s in
    moves_reads k.sizes k.words (views_of k.views) (pass_of s) (view_of s) i.sound (at_view k.views (pass_of s) s.inside) i.long c.args.stamp c.args.place c.load-value.result c.requires.may (word_at k c.args.stamp.cell c.args.place c.args.stamp.first c.load-value.result c.requires.inside c.requires.may.place.0 c.requires.may.place.1 (stamp_place k (pass_of s) s.inside i c.args.stamp c.requires.may.stamp) c.load-value.ensures)
