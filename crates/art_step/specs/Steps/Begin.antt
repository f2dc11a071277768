-- Begin: the version word of the anchor or of a node is found. A clear one gives a stamp.
use Rattle.std.specs.Prelude.{ℕ, List, [], ◌∷◌, if◌then◌else◌, ◌%◌, ◌==◌, ◌+◌, ◌++◌, ◌≢◌, ◌≡◌, Result, Ok, Err}
use Rattle.art_cell.specs.declared.cells.Cell.TheVariants as cell
use Rattle.art_cell.specs.declared.cells.Cell.{Cell}
use Rattle.art_step.specs.Sound.{KeepsSound}
use Rattle.art_step.specs.WordPlaces.{place_of}
use Rattle.art_step.specs.Views.{IsNamed, note_of, found_version, Memory, Views, SetsView, IsClear}
use Rattle.art_step.specs.declared.faults.Locked.{Locked}
use Rattle.art_step.specs.declared.views.Fact.TheVariants.{Starts}
use Rattle.art_step.specs.declared.views.Note.{Note}
use Rattle.art_step.specs.declared.views.Sizes.{Sizes}
use Rattle.art_step.specs.declared.views.Stamp.{Stamp}
use Rattle.art_step.specs.declared.views.View.{View}

-- the pass is pinned; a leaf has no version word
pub record May (v : View) (c : Cell) : Type 0 where
  pub pinned : v.pin ≢ 0
  pub named : IsNamed v c

-- the stamp of a cell, with the place of its first word
abbrev pub stamp_of : Sizes → Cell → ℕ → Stamp
stamp_of z c x = record { cell = c; version = x; first = place_of z c }

-- of the anchor the path is known at once
abbrev pub first_notes : Sizes → Cell → ℕ → List Note
first_notes z cell.Anchor x = note_of (stamp_of z cell.Anchor x) (Starts []) ∷ []
first_notes z (cell.Leaf l) x = []
first_notes z (cell.Node n) x = []

-- a clear word gives a stamp; at another all stamps go
abbrev pub view_after : Sizes → View → Cell → ℕ → View
view_after z v c x =
    if x % 4 == 0
    then record v { steps = v.steps + 1; stamps = stamp_of z c x ∷ v.stamps; notes = first_notes z c x ++ v.notes; found = found_version v c x }
    else record v { steps = v.steps + 1; failures = v.failures + 1; stamps = []; notes = []; found = found_version v c x }

pub record Step (z : Sizes) (p : ℕ) (v : View) (m : Memory) (f : Views) (m' : Memory) (f' : Views) : Type 0 where
  pub cell : Cell
  pub may : May v cell
  pub words : m' ≡ m
  pub view : SetsView f p (view_after z v cell (m.version cell)) f'

-- the word that was found
abbrev pub word_found : Result Stamp Locked → ℕ
word_found (Ok x) = x.version
word_found (Err l) = l.found

abbrev pub Outcome : Sizes → View → View → Cell → Result Stamp Locked → Type 0
Outcome z v w c (Ok x) = (x ≡ stamp_of z c x.version) × IsClear x.version × (w ≡ view_after z v c x.version)
Outcome z v w c (Err l) = (l.cell ≡ c) × (IsClear l.found → ⊥) × (w ≡ view_after z v c l.found)

abbrev pub Law : Type 0
Law = KeepsSound Step
