-- What contracts see of a table, and of a pass.
use Rattle.art_key.specs.Spelling.{IsKeyOf}
use Rattle.art_step.specs.Histories.{AreAdmitted}
use Rattle.std.specs.Prelude.{◌≡◌, ℕ, List}
use Rattle.art_key.specs.declared.columns.Column.{Column}
use Rattle.art_step.specs.declared.views.Sizes.{Sizes}
use Rattle.art_step.specs.declared.views.View.{View}
use Rattle.art_shared.specs.declared.law.Basis.{Basis}
use Rattle.art_shared.specs.declared.law.Known.{Known}
use Rattle.art_shared.specs.declared.pass.Pass.{Pass}
use Rattle.art_shared.specs.declared.shared.Shared.{Shared}
use Rattle.art_shared.specs.Passes.{view_in}
use Rattle.art_shared.specs.Rule.{AreBelow}

-- what the table was opened with: how many cells it has, what spells its keys, and at which counter its anchor began
abbrev pub basis_in : Shared → Basis
basis_in t = t.basis

abbrev pub sizes_in : Shared → Sizes
sizes_in t = (basis_in t).sizes

abbrev pub schema_in : Shared → List Column
schema_in t = (basis_in t).schema

-- the counter at which the anchor's version word began
abbrev pub counter_in : Shared → ℕ
counter_in t = (basis_in t).counter_start

-- what the seat of the pass knows, and what the pass knows
abbrev pub known_to : Pass → Known
known_to a = a.seat.me.0

abbrev pub view_of_pass : Pass → View
view_of_pass a = view_in (known_to a)

-- the pass is one of the table, and what it has seen are commands with keys of its schema, by passes of the table
pub record IsPassOf (t : Shared) (a : Pass) : Type 0 where
  pub table : a.seat.table_id ≡ t.table.shared.table_id
  pub basis : (known_to a).basis ≡ basis_in t
  pub typed : AreAdmitted (IsKeyOf (schema_in t)) (view_of_pass a).seen
  pub below : AreBelow (sizes_in t).passes (view_of_pass a).seen
