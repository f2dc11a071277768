-- The law of a pass that was lent to its table.
use Rattle.std.specs.Prelude.{◌≡◌}
use Rattle.art_shared.specs.declared.pass.Pass.{Pass}
use Rattle.art_shared.specs.declared.shared.Shared.{Shared}
use Rattle.art_shared.specs.declared.stepper.Stepper.{Stepper}
use Rattle.art_shared.specs.Stepper.{OnlyStepped, basis_of, pass_of}
use Rattle.art_shared.specs.Tables.{IsPassOf, basis_in}

-- a pass p of the table t that was lent to it as the stepper a, of which only steps made b, is a pass of that table still
abbrev pub LentPassesStay : Type 0
LentPassesStay = (t : Shared) (p : Pass) (a b : Stepper) → IsPassOf t p → pass_of a ≡ p → basis_of a ≡ basis_in t → OnlyStepped a b → IsPassOf t (pass_of b)
