-- What is known of words that are kept: each was noted under the stamp of its cell.
use Rattle.std.specs.Prelude.{◌≡◌, ◌<◌, ℕ, List, Option, Some, length}
use Rattle.art_cell.specs.Reads.{word_read}
use Rattle.art_step.specs.Views.{IsWordOf, Member, note_of, size_of}
use Rattle.art_step.specs.declared.views.Fact.TheVariants.{Word}
use Rattle.art_step.specs.declared.views.Note.{Note}
use Rattle.art_step.specs.declared.views.Sizes.{Sizes}
use Rattle.art_step.specs.declared.views.Stamp.{Stamp}
use Rattle.art_step.specs.declared.views.View.{View}

-- the second view has the stamps and the notes of the first
pub record Grows (v w : View) : Type 0 where
  pub stamps : (x : Stamp) → Member x v.stamps → Member x w.stamps
  pub notes : (y : Note) → Member y v.notes → Member y w.notes

-- the word at the place of the stamp's cell was read, and has the form of its place
pub record WasReadAt (z : Sizes) (v : View) (x : Stamp) (place word : ℕ) : Type 0 where
  pub after : 0 < place
  pub inside : place < size_of x.cell
  pub noted : Member (note_of x (Word place word)) v.notes
  pub form : IsWordOf z x.cell place word

-- so was each of these words; there is room for those of any cell
pub record IsKept (z : Sizes) (v : View) (x : Stamp) (reads : List (Option ℕ)) : Type 0 where
  pub room : length reads ≡ 266
  pub each : (place word : ℕ) → word_read reads place ≡ Some word → WasReadAt z v x place word

-- each word that was known before is known after, and the same
abbrev pub StaysRead : List (Option ℕ) → List (Option ℕ) → Type 0
StaysRead old new = (place word : ℕ) → word_read old place ≡ Some word → word_read new place ≡ Some word
