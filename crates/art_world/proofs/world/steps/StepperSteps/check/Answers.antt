-- A version word is found, the stamped one or another.
use Rattle.std.proofs.Common.{◌∙◌, ℕ, ap, arith, get_or}
use Rattle.std.proofs.Math.Nat.{add-zero}
use Rattle.art_world.specs.Stepper.{pass_of, world_of}
use Rattle.std.specs.Option.{option_map}
use Rattle.art_world.proofs.Moving.{checks, stamp_low, stamp_place, version_at}
use Rattle.art_step.proofs.AtSteps.{at_step_then}
use Rattle.art_world.proofs.world.steps.StepperSteps.check.Goals as goal

pub load-found-requires : goal.load-found-requires
load-found-requires c =
    let s = c.args.self.now in
    let low = stamp_low (world_of s) (pass_of s) s.inside (record { long = c.stays_sound.ensures.words; count = c.stays_sound.ensures.passes; sound = c.stays_sound.ensures.sound; lasting = c.stays_sound.ensures.lasting }) c.args.stamp c.requires.may.stamp c.requires.inside in
    omega (arith, low)

pub find-requires-clause-moves : goal.find-requires-clause-moves
find-requires-clause-moves c i =
    let s = c.args.self.now in
    let k = world_of s in
    checks k (pass_of s) s.inside i c.args.stamp (option_map (λ d. d.now) c.args.deed) c.load-found.result (version_at k c.args.stamp.cell c.args.stamp.first c.load-found.result c.requires.inside (stamp_place k (pass_of s) s.inside i c.args.stamp c.requires.may.stamp) (c.load-found.ensures ∙ ap (λ (i : ℕ). get_or k.words i 0) (add-zero c.args.stamp.first))) c.requires.may

pub returns-then-found-stamp-clause-at_once : goal.returns-then-found-stamp-clause-at_once
returns-then-found-stamp-clause-at_once c = rw c.changed.ensures (at_step_then (λ m f m' f' s. s.1 c.if-found-stamp.true) c.find.ensures.at_once)

pub returns-clause-at_once : goal.returns-clause-at_once
returns-clause-at_once c = at_step_then (λ m f m' f' s. s.0 c.if-found-stamp.false) c.find.ensures.at_once

pub returns-clause-keys : goal.returns-clause-keys
returns-clause-keys c =
    let vouched = (c.find.ensures.row.0 c.if-found-stamp.false).vouched in
    record { cells = vouched.0; shape = vouched.1; holds = vouched.2; keys = λ k value row. tt }

pub returns-clause-row : goal.returns-clause-row
returns-clause-row c = c.find.ensures.row.0 c.if-found-stamp.false
