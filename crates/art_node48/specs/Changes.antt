-- What one change of a child writes, and which place a new child takes.
use Rattle.std.specs.Prelude.{◌≡◌, ◌≢◌, ℕ, ◌+◌, ◌/◌, ◌%◌, ◌^◌, ◌<◌, ◌≤◌, ◌==◌, List, [], ◌∷◌, Option, Some, None, if◌then◌else◌}
use Rattle.art_cell.specs.Lemmas.Packed.{with_byte}
use Rattle.art_cell.specs.declared.cells.Write.{Write}
use Rattle.art_cell.specs.Words.{Words, key_byte}

-- the header, the index entry of one byte and the child of one place are written, and nothing else
pub record Wrote (w after : Words) (header byte entry place child : ℕ) : Type 0 where
  pub wrote_header : after 1 ≡ header
  pub wrote_entry : key_byte after byte ≡ entry
  pub entries : (b : ℕ) → b < 256 → b ≢ byte → key_byte after b ≡ key_byte w b
  pub wrote_child : after (42 + place) ≡ child
  pub children : (p : ℕ) → p < 48 → p ≢ place → after (42 + p) ≡ w (42 + p)
  pub version : w 0 ≡ after 0
  pub prefix : (p : ℕ) → 2 ≤ p → p < 10 → after p ≡ w p
  pub outside : (p : ℕ) → 90 ≤ p → w p ≡ after p
  pub below : ((p : ℕ) → w p < 2 ^ 64) → header < 2 ^ 64 → child < 2 ^ 64 → (p : ℕ) → after p < 2 ^ 64

-- the bit of the place is 0, and those of the places before it are 1
pub record IsLowestFree (header place : ℕ) : Type 0 where
  pub within : place < 48
  pub free : header / 2 ^ (16 + place) % 2 ≡ 0
  pub least : (p : ℕ) → p < place → header / 2 ^ (16 + p) % 2 ≡ 1

-- the lowest free place of a header, if one is free
abbrev pub IsFreePlace : ℕ → Option ℕ → Type 0
IsFreePlace header None = (p : ℕ) → p < 48 → header / 2 ^ (16 + p) % 2 ≡ 1
IsFreePlace header (Some place) = IsLowestFree header place

-- the words that a child which comes or goes changes, in ascending place: the header, the index word of the byte, the child of the place
abbrev pub three_words : Words → ℕ → ℕ → ℕ → ℕ → ℕ → List Write
three_words w header byte entry place child =
    record { place = 1; value = header }
    ∷ record { place = 10 + byte / 8; value = with_byte (w (10 + byte / 8)) (byte % 8) entry }
    ∷ record { place = 42 + place; value = child }
    ∷ []

-- the word at a place, where it was another one
abbrev pub child_words : ℕ → ℕ → ℕ → List Write
child_words had place child = if had == child then [] else record { place = place; value = child } ∷ []
