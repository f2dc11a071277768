-- What is known while all words of a cell are read.
use Rattle.std.specs.Prelude.{◌≡◌, ◌≤◌, ◌<◌, ◌⊎◌, ℕ, nat_lt, List, Option, Some, None, if◌then◌else◌}
use Rattle.art_cell.specs.Reads.{word_read}
use Rattle.art_step.specs.Acting.{HasPath}
use Rattle.art_step.specs.declared.actions.Action.{Action}
use Rattle.art_step.specs.declared.actions.Action.TheVariants.{Read}
use Rattle.art_find.specs.Kept.{IsKept}
use Rattle.art_find.specs.declared.read_sets.Rereading.{Rereading}
use Rattle.art_step.specs.Shows.{HasStamp}
use Rattle.art_step.specs.Views.{IsNotHeld, size_of}
use Rattle.art_step.specs.declared.views.Sizes.{Sizes}
use Rattle.art_step.specs.declared.views.Stamp.{Stamp}
use Rattle.art_step.specs.declared.views.View.{View}

-- the words at all places from the first to before the second are known
abbrev pub AreKnown : List (Option ℕ) → ℕ → ℕ → Type 0
AreKnown reads from end = (place : ℕ) → from ≤ place → place < end → (word : ℕ) × (word_read reads place ≡ Some word)

-- the next read
abbrev pub reads_next : Stamp → Rereading → Option Action
reads_next x m = if nat_lt m.place (size_of x.cell) then Some (Read x m.place) else None

-- the cell is stamped and not held, and a path to it was noted; what is kept of it has all words before the place, and not the one at
-- the place
pub record RereadingFits (z : Sizes) (v : View) (x : Stamp) (m : Rereading) (reads : List (Option ℕ)) : Type 0 where
  pub free : IsNotHeld v.held x.cell
  pub stamp : HasStamp z v x
  pub path : HasPath v x
  pub kept : IsKept z v x reads
  pub after : 0 < m.place
  pub known : AreKnown reads 1 m.place
  pub unknown : m.place < 266 → word_read reads m.place ≡ None

-- all words of the cell are known, or one turn is left
abbrev pub IsWholeOrLast : Stamp → Rereading → ℕ → Type 0
IsWholeOrLast x m left = (size_of x.cell ≤ m.place) ⊎ (left ≡ 1)
