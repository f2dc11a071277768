-- A version word is found, the stamped one or another.
use Rattle.std.specs.Option.{option_map}
use Rattle.art_shared.specs.Stepper.{basis_of, known_by, sizes_of}
use Rattle.art_shared.proofs.CellTurns.{turns_check, version_low}
use Rattle.art_shared.proofs.Stamps.{stamp_at}
use Rattle.art_shared.proofs.Typed.{asked_typed}
use Rattle.art_shared.proofs.TypedRows.{found_among}
use Rattle.art_shared.proofs.steps.StepperSteps.check.Goals as goal

pub load-found-requires-clause-place : goal.load-found-requires-clause-place
load-found-requires-clause-place c = let s = c.args.self.now in rw (stamp_at s c.args.stamp c.requires.may.stamp) (version_low (sizes_of s) c.args.stamp.cell c.requires.inside)

pub load-found-requires-clause-may : goal.load-found-requires-clause-may
load-found-requires-clause-may c =
    let s = c.args.self.now in
    turns_check (basis_of s) (known_by s) c.args.stamp (option_map (λ d. d.now) c.args.deed) _ (stamp_at s c.args.stamp c.requires.may.stamp) c.requires.inside c.requires.may
    (asked_typed (basis_of s).schema (λ d. d.now) c.args.deed c.requires.admitted)

pub returns-clause-keys : goal.returns-clause-keys
returns-clause-keys c =
    let s = c.args.self.now in
    let made = c.load-found.ensures.turn.made in
    found_among (basis_of s) (known_by s) c.load-found.new.self.seat.me.0 c.args.stamp _ made (made.was.0 c.if-found-stamp.false).found

pub returns-clause-row : goal.returns-clause-row
returns-clause-row c = c.load-found.ensures.turn.row.0 c.if-found-stamp.false
