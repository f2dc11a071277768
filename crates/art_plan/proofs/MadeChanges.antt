-- What the functions that fill in a change make of it, one after another.
use Rattle.std.proofs.Common.{ℕ, ◌+◌, ◌≤◌, Bool, List, [], ◌∷◌, ◌++◌, length, Some}
use Rattle.art_cell.specs.declared.cells.Write.{Write}
use Rattle.art_plan.specs.Puts.{IsFree, IsTaken, puts_of}
use Rattle.art_plan.specs.declared.changes.Change.{Change}
use Rattle.art_plan.specs.declared.changes.Site.{Site}
use Rattle.art_plan.specs.declared.changes.Site.TheVariants.{Root, Slot}
use Rattle.art_step.specs.declared.views.Stamp.{Stamp}
use Rattle.art_plan.proofs.SiteWords.{HasMeaning}

-- a cell more is locked, a node is made, a cell is unlinked
abbrev pub with_target : Stamp → Bool → Change → Change
with_target x obsolete c = record c { targets = record { items = c.targets.items ++ record { stamp = x; obsolete = obsolete } ∷ [] } }

abbrev pub with_made : ℕ → Change → Change
with_made number c = record c { node = Some number }

abbrev pub with_unlinked : ℕ → Change → Change
with_unlinked child c = record c { effects = record c.effects { unlinked = record { items = c.effects.unlinked.items ++ child ∷ [] } } }

-- words are planned, and they are put
abbrev pub with_writes : List Write → Change → Change
with_writes ws c = record c { writes = record { items = ws } }

abbrev pub with_puts_of : ℕ → Change → Change
with_puts_of i c = record c { puts = record { items = c.puts.items ++ puts_of i c.writes.items } }

-- there is room for the words that are planned
abbrev pub WordsFit : Change → Type 0
WordsFit c = length c.puts.items + length c.writes.items ≤ 32

-- ---- a site

pub free_meaning : (site : Site) → IsFree site → HasMeaning site
free_meaning (Root x) free = tt
free_meaning (Slot x body byte) free = free.meaning

pub taken_meaning : (site : Site) → IsTaken site → HasMeaning site
taken_meaning (Root x) taken = tt
taken_meaning (Slot x body byte) taken = taken.meaning
