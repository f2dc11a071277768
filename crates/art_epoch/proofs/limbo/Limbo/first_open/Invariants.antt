-- No place before the one that is looked at may go.
use Rattle.std.proofs.Common.{◌≡◌, ◌<◌, ℕ, false, get_or}
use Rattle.art_epoch.specs.Limbo.{lets_go, no_place, places_of}
use Rattle.art_epoch.proofs.limbo.Limbo.first_open.Given as goal

abbrev pub invariant-loop-index : goal.invariant-loop-index
invariant-loop-index l = (j : ℕ) → j < l.index → lets_go l.fn.least (get_or (places_of l.self) j no_place).label ≡ false
