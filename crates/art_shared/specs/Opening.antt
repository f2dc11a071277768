-- A table that just opened.
use Rattle.std.specs.Prelude.{◌≡◌, ℕ, List, length, Some}
use Rattle.std.specs.List.{slice_get}
use Rattle.art_shared.specs.declared.law.Basis.{Basis}
use Rattle.art_shared.specs.declared.pass.Pass.{Pass}
use Rattle.art_shared.specs.declared.shared.Shared.{Shared}
use Rattle.art_shared.specs.Passes.{newcomer_known}
use Rattle.art_shared.specs.Tables.{IsPassOf, basis_in, known_to}

-- a table with this basis, and its passes, each of which knows nothing. By the rule of such a table the anchor's counter is just that of
-- the basis until one of them makes a step
pub record OpensWith (b : Basis) (t : Shared) (passes : List Pass) : Type 0 where
  pub basis : basis_in t ≡ b
  pub count : length passes ≡ b.sizes.passes
  pub each : (p : ℕ) (a : Pass) → slice_get passes p ≡ Some a → IsPassOf t a × (known_to a ≡ newcomer_known b p)
