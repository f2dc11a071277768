-- What contracts see of a pass that is lent to a table.
use Rattle.art_key.specs.Spelling.{IsKeyOf}
use Rattle.art_step.specs.Histories.{AreAdmitted}
use Rattle.std.specs.Prelude.{◌≡◌, ◌↔◌, ℕ, List, refl}
use Rattle.std.proofs.Common.{◌∙◌, ap, subst, sym}
use Rattle.art_key.specs.declared.columns.Column.{Column}
use Rattle.art_step.specs.declared.views.Sizes.{Sizes}
use Rattle.art_step.specs.declared.views.View.{View}
use Rattle.art_step.specs.Effects.{Instant}
use Rattle.art_shared.specs.declared.law.Basis.{Basis}
use Rattle.art_shared.specs.declared.law.Known.{Known}
use Rattle.art_shared.specs.declared.pass.Pass.{Pass}
use Rattle.art_shared.specs.declared.stepper.Stepper.{Stepper}
use Rattle.art_shared.specs.Passes.{view_in}
use Rattle.art_shared.specs.SamePass.{SamePass}
use Rattle.art_shared.specs.Rule.{AreBelow}
use Rattle.art_shared.specs.Tables.{known_to}
use Rattle.art_shared.specs.Turns.{Moment}

-- the borrow of the pass
abbrev pub lender : Stepper → ℕ
lender a = a.pass.ghost_name

-- the pass, as it is now
abbrev pub pass_of : Stepper → Pass
pass_of a = a.pass.now

-- what its seat knows
abbrev pub known_by : Stepper → Known
known_by a = known_to (pass_of a)

-- what the pass knows
abbrev pub view_of : Stepper → View
view_of a = view_in (known_by a)

-- how many cells there are, and what spells all keys
abbrev pub basis_of : Stepper → Basis
basis_of a = a.shared.now.basis

abbrev pub sizes_of : Stepper → Sizes
sizes_of a = (basis_of a).sizes

abbrev pub schema_of : Stepper → List Column
schema_of a = (basis_of a).schema

-- the table just before a step of the pass between the two, and just after it
abbrev pub instants_of : Stepper → Stepper → Instant
instants_of a b = Moment (basis_of a) (known_by a) (known_by b)

-- it is the same borrow of the same pass; and if all that it had seen are commands with keys of the schema, so is all that it has seen;
-- and if they are of passes of the table, so are these
pub record OnlyStepped (a b : Stepper) : Type 0 where
  pub lender : lender b ≡ lender a
  pub pass : SamePass (pass_of a) (pass_of b)
  pub basis : basis_of b ≡ basis_of a
  pub typed : AreAdmitted (IsKeyOf (schema_of a)) (view_of a).seen → AreAdmitted (IsKeyOf (schema_of b)) (view_of b).seen
  pub below : AreBelow (sizes_of a).passes (view_of a).seen → AreBelow (sizes_of b).passes (view_of b).seen

pub only_same : (a : Stepper) → OnlyStepped a a
only_same a = record {
  lender = refl;
  pass = record { number = refl; table = refl; seat = refl; basis = refl; told = refl };
  basis = refl;
  typed = λ t. t;
  below = λ t. t;
}

pub only_then : (a b c : Stepper) → OnlyStepped a b → OnlyStepped b c → OnlyStepped a c
only_then a b c x y = record {
  lender = y.lender ∙ x.lender;
  pass = record {
    number = y.pass.number ∙ x.pass.number;
    table = y.pass.table ∙ x.pass.table;
    seat = y.pass.seat ∙ x.pass.seat;
    basis = y.pass.basis ∙ x.pass.basis;
    told = y.pass.told ∙ x.pass.told;
  };
  basis = y.basis ∙ x.basis;
  typed = λ t. y.typed (x.typed t);
  below = λ t. y.below (x.below t);
}

pub only_sizes : (a b : Stepper) → OnlyStepped a b → sizes_of b ≡ sizes_of a
only_sizes a b x = ap (λ (s : Basis). s.sizes) x.basis

pub only_keys : (a b : Stepper) (k : List ℕ) → OnlyStepped a b → (IsKeyOf (schema_of b) k ↔ IsKeyOf (schema_of a) k)
only_keys a b k x = (subst (λ (s : Basis). IsKeyOf s.schema k) x.basis, subst (λ (s : Basis). IsKeyOf s.schema k) (sym x.basis))
