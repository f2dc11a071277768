-- The reads that a session makes: each gives bytes, until the input ends or a read fails.
use Rattle.std.specs.Prelude.{◌≡◌, ℕ, ◌<◌, ◌≤◌, List, [], ◌∷◌, ◌++◌, length, All, Option, Some, None, ⊤, ◌⊎◌}
use Rattle.art_server.specs.declared.sessions.EndCause.{EndCause}
use Rattle.art_server.specs.declared.sessions.EndCause.TheVariants.{Ended, ReadFault, WriteFault, NoMemory, ReadsUsed}

-- one byte to 4,096 bytes came
abbrev pub GaveBytes : Option ℕ → Type 0
GaveBytes None = ⊥
GaveBytes (Some count) = (0 < count) × (count ≤ 4096)

-- the last read gave this, and each read before it gave bytes
pub record LastGave (last : Option ℕ) (made : List (Option ℕ)) : Type 0 where
  pub before : List (Option ℕ)
  pub split : made ≡ before ++ last ∷ []
  pub bytes : All GaveBytes before

-- The reads of a session that ends for a cause: the first that gives no byte ends the input, and the first that fails ends
-- the session. A line can stop a session after any read, or at the end of the input.
abbrev pub ReadsUntil : EndCause → List (Option ℕ) → Type 0
ReadsUntil Ended made = LastGave (Some 0) made
ReadsUntil ReadFault made = LastGave None made
ReadsUntil WriteFault made = All GaveBytes made ⊎ LastGave (Some 0) made
ReadsUntil NoMemory made = All GaveBytes made ⊎ LastGave (Some 0) made
ReadsUntil ReadsUsed made = All GaveBytes made × (length made ≡ 1000000)

-- at most 1,000,000 reads were made
pub record AddsReads (old new : List (Option ℕ)) : Type 0 where
  pub made : List (Option ℕ)
  pub account : new ≡ old ++ made
  pub most : length made ≤ 1000000

-- what a session that ends for a cause adds to the account of its reader
pub record MakesReads (old new : List (Option ℕ)) (why : EndCause) : Type 0 where
  pub adds : AddsReads old new
  pub until : ReadsUntil why adds.made

-- the causes for which a session can end where its input did
abbrev pub EndsAtInput : EndCause → Type 0
EndsAtInput Ended = ⊤
EndsAtInput ReadFault = ⊥
EndsAtInput WriteFault = ⊤
EndsAtInput NoMemory = ⊤
EndsAtInput ReadsUsed = ⊥
