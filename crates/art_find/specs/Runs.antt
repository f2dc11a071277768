-- What is known after words of one cell were read one after another.
use Rattle.std.specs.Prelude.{◌≡◌, ◌+◌, ◌<◌, ◌≤◌, ℕ, List, Option, get_or, length}
use Rattle.art_find.specs.Kept.{Grows, StaysRead, WasReadAt}
use Rattle.art_find.specs.Rereadings.{AreKnown, RereadingFits}
use Rattle.art_find.specs.declared.read_sets.Rereading.{Rereading}
use Rattle.art_step.specs.Acting.{HasPath}
use Rattle.art_step.specs.Shows.{HasStamp, OnlyReads}
use Rattle.art_step.specs.Views.{IsNotHeld, size_of}
use Rattle.art_step.specs.declared.views.Sizes.{Sizes}
use Rattle.art_step.specs.declared.views.Stamp.{Stamp}
use Rattle.art_step.specs.declared.views.View.{View}

-- so many words from the place on may be read, which are words of the stamped cell after its version; a path to the cell was noted
pub record MayReadRun (z : Sizes) (v : View) (x : Stamp) (place n : ℕ) : Type 0 where
  pub stamp : HasStamp z v x
  pub path : HasPath v x
  pub free : IsNotHeld v.held x.cell
  pub after : 0 < place
  pub inside : place + n ≤ size_of x.cell

-- the second view comes of the first by so many reads, of which none can fail
pub record HasReadOnly (v w : View) (n : ℕ) : Type 0 where
  pub rest : OnlyReads v w
  pub failures : w.failures ≡ v.failures
  pub steps : w.steps ≡ v.steps + n
  pub found : w.found ≡ v.found
  pub grows : Grows v w

-- these are the words from the place on
abbrev pub WereRead : Sizes → View → Stamp → ℕ → List ℕ → Type 0
WereRead z v x place words = (i : ℕ) → i < length words → WasReadAt z v x (place + i) (get_or words i 0)

-- a rereading went on by so many reads: what was known stays, nothing is read where all is known, and the rereading stands where
-- single steps would have brought it
pub record HasReadOn (z : Sizes) (x : Stamp) (n : ℕ) (v : View) (m : Rereading) (reads : List (Option ℕ)) (w : View) (m' : Rereading)
    (reads' : List (Option ℕ)) : Type 0 where
  pub only : HasReadOnly v w n
  pub further : m.place + n ≤ m'.place
  pub few : m.place ≤ 266 → m'.place ≤ 266
  pub stays : StaysRead reads reads'
  pub whole : AreKnown reads 1 (size_of x.cell) → reads' ≡ reads
  pub fits : RereadingFits z w x m' reads'
