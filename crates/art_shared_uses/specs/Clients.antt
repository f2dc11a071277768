-- Passes of a table, as tests have them.
use Rattle.art_key.specs.Spelling.{IsKeyOf}
use Rattle.std.specs.Prelude.{◌≡◌, ℕ, List, Some}
use Rattle.std.specs.List.{slice_get}
use Rattle.art_change.specs.Calls.{IsCaller}
use Rattle.art_change.specs.declared.callers.Caller.{Caller}
use Rattle.art_shared.specs.declared.pass.Pass.{Pass}
use Rattle.art_shared.specs.declared.shared.Shared.{Shared}
use Rattle.art_shared.specs.Passes.{newcomer_known}
use Rattle.art_shared.specs.Tables.{IsPassOf, basis_in, known_to, schema_in, sizes_in, view_of_pass}

-- a pass that made no step yet
pub record IsNew (t : Shared) (a : Pass) : Type 0 where
  pub of : IsPassOf t a
  pub number : ℕ
  pub new : known_to a ≡ newcomer_known (basis_in t) number

abbrev pub AreNew : Shared → List Pass → Type 0
AreNew t passes = (p : ℕ) (a : Pass) → slice_get passes p ≡ Some a → IsNew t a

-- passes of the table, whatever each of them did
abbrev pub AreOf : Shared → List Pass → Type 0
AreOf t passes = (p : ℕ) (a : Pass) → slice_get passes p ≡ Some a → IsPassOf t a

-- one that may call
pub record Writes (t : Shared) (a : Pass) (c : Caller) : Type 0 where
  pub of : IsPassOf t a
  pub may : IsCaller (sizes_in t) (view_of_pass a) c

-- the key is one of the table's schema
abbrev pub IsKey : Shared → List ℕ → Type 0
IsKey t k = IsKeyOf (schema_in t) k
