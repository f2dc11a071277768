-- The lines of a stream of bytes, and what a write of a text leaves.
use Rattle.std.specs.Prelude.{◌≡◌, ◌≢◌, ℕ, ◌==◌, Bool, true, false, List, [], ◌∷◌, ◌++◌, All, Option, Result, OnOk}
use Rattle.std.specs.Io.KnownBytes.{Appends}

-- a byte in front of the first line, or of the rest where there is no line
abbrev pub onto_front : ℕ → List (List ℕ) → List ℕ → List (List ℕ) × List ℕ
onto_front b [] rest = ([], b ∷ rest)
onto_front b (line ∷ lines) rest = ((b ∷ line) ∷ lines, rest)

-- a line feed ends an empty line in front of the others
abbrev pub split_after : Bool → ℕ → List (List ℕ) × List ℕ → List (List ℕ) × List ℕ
split_after true b split = ([] ∷ split.0, split.1)
split_after false b split = onto_front b split.0 split.1

-- the lines that a line feed (byte 10) ends, without their feeds, and the bytes after the last feed
abbrev pub split_lines : List ℕ → List (List ℕ) × List ℕ
split_lines [] = ([], [])
split_lines (b ∷ bs) = split_after (b == 10) b (split_lines bs)

abbrev pub whole_lines : List ℕ → List (List ℕ)
whole_lines bytes = (split_lines bytes).0

abbrev pub last_part : List ℕ → List ℕ
last_part bytes = (split_lines bytes).1

-- bytes after the last feed are a line where there is at least one
abbrev pub last_line : List ℕ → List (List ℕ)
last_line [] = []
last_line (b ∷ bs) = (b ∷ bs) ∷ []

-- a line is the bytes before a line feed, or before the end of the input where there is at least one
abbrev pub lines_of : List ℕ → List (List ℕ)
lines_of bytes = whole_lines bytes ++ last_line (last_part bytes)

abbrev pub HasNoFeed : List ℕ → Type 0
HasNoFeed line = All (λ b. b ≢ 10) line

abbrev pub with_feed : List ℕ → List ℕ
with_feed line = line ++ 10 ∷ []

-- a part of the text from its front was appended, and all of it where the result is Ok
pub record WritesFront {A E : Type 0} (text : List ℕ) (old new : Option (List ℕ)) (result : Result A E) : Type 0 where
  pub part : List ℕ
  pub rest : List ℕ
  pub whole : text ≡ part ++ rest
  pub appends : Appends old new part
  pub done : OnOk result (rest ≡ [])
