-- What contracts see of the lines of a reader, and what its steps do.
use Rattle.std.specs.Prelude.{◌≡◌, ℕ, ◌+◌, ◌<◌, ◌≤◌, Bool, true, false, List, [], ◌∷◌, ◌++◌, length, take, Option, Some, None, Result, Ok, Err}
use Rattle.std.specs.List.{slice_get}
use Rattle.std.specs.Io.KnownBytes.{Consumes, IsAtEnd, Keeps}
use Rattle.art_server.specs.Streams.{whole_lines}

-- all that was read, how many of its whole lines were given, and the one that was given last, if one was since the last read
pub record LinesRead : Type 0 where
  pub taken : List ℕ
  pub given : ℕ
  pub line : List ℕ

-- a line is given up to its 4,097th byte
pub record IsLineAt (lines : List (List ℕ)) (n : ℕ) (line : List ℕ) : Type 0 where
  pub whole : List ℕ
  pub stands : slice_get lines n ≡ Some whole
  pub front : line ≡ take 4097 whole

-- each whole line was given
abbrev pub AllAreGiven : LinesRead → Type 0
AllAreGiven now = now.given ≡ length (whole_lines now.taken)

-- the next line was given, or none was left
abbrev pub GoesOn : LinesRead → LinesRead → Bool → Type 0
GoesOn old new true = (new.taken ≡ old.taken) × (new.given ≡ old.given + 1) × IsLineAt (whole_lines old.taken) old.given new.line
GoesOn old new false = (new ≡ old) × AllAreGiven old

-- one read gave bytes
pub record ReadsBytes (left left_after : Option (List ℕ)) (account account_after : List (Option ℕ)) (taken taken_after : List ℕ)
    : Type 0 where
  pub bytes : List ℕ
  pub some : 0 < length bytes
  pub few : length bytes ≤ 4096
  pub consumes : Consumes left left_after bytes
  pub taken_is : taken_after ≡ taken ++ bytes
  pub account_is : account_after ≡ account ++ Some (length bytes) ∷ []

-- one read found the end of the input
pub record ReadsEnd (left left_after : Option (List ℕ)) (account account_after : List (Option ℕ)) (taken taken_after : List ℕ)
    : Type 0 where
  pub consumes : Consumes left left_after []
  pub end : IsAtEnd left_after
  pub taken_is : taken_after ≡ taken
  pub account_is : account_after ≡ account ++ Some 0 ∷ []

-- one read failed
pub record ReadFails (left left_after : Option (List ℕ)) (account account_after : List (Option ℕ)) (taken taken_after : List ℕ)
    : Type 0 where
  pub keeps : Keeps left left_after
  pub taken_is : taken_after ≡ taken
  pub account_is : account_after ≡ account ++ None ∷ []

-- what one read gave: whether bytes came
abbrev pub ReadsOnce : {E : Type 0} → Option (List ℕ) → Option (List ℕ) → List (Option ℕ) → List (Option ℕ) → List ℕ → List ℕ
    → Result Bool E → Type 0
ReadsOnce left left_after account account_after taken taken_after (Ok true) =
    ReadsBytes left left_after account account_after taken taken_after
ReadsOnce left left_after account account_after taken taken_after (Ok false) =
    ReadsEnd left left_after account account_after taken taken_after
ReadsOnce left left_after account account_after taken taken_after (Err error) =
    ReadFails left left_after account account_after taken taken_after
