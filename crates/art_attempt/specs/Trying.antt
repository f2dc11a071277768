-- What every attempt knows of the view: nothing is told, nothing is held, and few steps were made.
use Rattle.std.specs.Prelude.{◌≡◌, ◌≢◌, ℕ, ◌<◌, ◌≤◌, ◌^◌, List, [], length, get_or}
use Rattle.art_epoch.specs.Taking.{MadeFew}
use Rattle.art_attempt.specs.Validate.{FoundAt}
use Rattle.art_find.specs.Findings.{IsStanding}
use Rattle.art_find.specs.declared.read_sets.ReadSet.{ReadSet}
use Rattle.art_find.specs.declared.findings.Position.{Position}
use Rattle.art_step.specs.Shows.{rest_of}
use Rattle.art_step.specs.declared.views.Sizes.{Sizes}
use Rattle.art_step.specs.declared.views.Stamp.{Stamp}
use Rattle.art_step.specs.declared.views.View.{View}

-- the bytes of a key
pub record IsKey (k : List ℕ) : Type 0 where
  pub bytes : (i : ℕ) → get_or k i 0 < 256
  pub short : length k ≤ 64

-- no step is taken back, and no failure
pub record IsLater (u v : View) : Type 0 where
  pub steps : u.steps ≤ v.steps
  pub failures : u.failures ≤ v.failures

-- since the view u nothing is told, and nothing is held; the pass is pinned
pub record StillTries (u v : View) : Type 0 where
  pub rest : rest_of (record v { hand = u.hand; committed = u.committed }) ≡ rest_of u
  pub free : v.held ≡ []
  pub pinned : v.pin ≢ 0
  pub later : IsLater u v

-- since the view u, and not after v, the version word of the stamp's cell was found as it is stamped
pub record WasChecked (u : View) (x : Stamp) (v : View) : Type 0 where
  pub step : ℕ
  pub after : u.steps < step
  pub done : step ≤ v.steps
  pub found : FoundAt x step v

-- ---- the last check that succeeded

-- what the pass knew when its last check succeeded
abbrev pub at_check : View → View
at_check v = record v { stamps = v.checked.stamps; notes = v.checked.notes }

-- that check was of the stamp: its version word was found at that step
abbrev pub IsCheckOf : Stamp → View → Type 0
IsCheckOf x v = FoundAt x v.checked.step v

-- that check came after the view u, and by what the pass knew then the key stood there
pub record StoodAtCheck (z : Sizes) (u : View) (k : List ℕ) (t : Position) (read_set : ReadSet) (v : View) : Type 0 where
  pub after : u.steps < v.checked.step
  pub done : v.checked.step ≤ v.steps
  pub standing : IsStanding z k t read_set (at_check v)

-- ---- how many steps it made

-- as many numbers of each pool as a table may have
pub record IsLimited (z : Sizes) : Type 0 where
  pub leaves : z.leaves ≤ 2 ^ 20
  pub n4 : z.n4 ≤ 2 ^ 18
  pub n16 : z.n16 ≤ 2 ^ 16
  pub n48 : z.n48 ≤ 2 ^ 14
  pub n256 : z.n256 ≤ 2 ^ 12

-- in such a table so many steps were made at most since the view u, and one more for each that failed
abbrev pub HasSpent : Sizes → View → ℕ → View → Type 0
HasSpent z u n v = IsLimited z → MadeFew u v n
