-- The places before the one that is looked at may go.
use Rattle.std.proofs.Common.{◌≡◌, drop}
use Rattle.art_epoch.specs.Enter.{first_label}
use Rattle.art_epoch.proofs.enter.first_label.Given as goal

abbrev pub invariant-loop-place : goal.invariant-loop-place
invariant-loop-place l = first_label l.fn.least l.fn.places ≡ first_label l.fn.least (drop l.place-index l.fn.places)
