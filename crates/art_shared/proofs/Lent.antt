-- A pass that was lent to its table is one of it still.
use Rattle.art_key.specs.Spelling.{IsKeyOf}
use Rattle.std.proofs.Common.{◌∙◌, subst, sym}
use Rattle.art_shared.specs.declared.law.Basis.{Basis}
use Rattle.art_shared.specs.Laws.{LentPassesStay}
use Rattle.art_shared.specs.Rule.{AreBelow}
use Rattle.art_shared.specs.Stepper.{pass_of, view_of}
use Rattle.art_shared.specs.Tables.{IsPassOf}
use Rattle.art_step.specs.Histories.{AreAdmitted}

pub lent_passes_stay : LentPassesStay
lent_passes_stay t p a b of lent same only =
    let is : IsPassOf t (pass_of a) = subst (IsPassOf t) (sym lent) of in
    record {
      table = only.pass.table ∙ is.table;
      basis = only.pass.basis ∙ is.basis;
      typed = subst (λ (s : Basis). AreAdmitted (IsKeyOf s.schema) (view_of b).seen) (only.basis ∙ same)
          (only.typed (subst (λ (s : Basis). AreAdmitted (IsKeyOf s.schema) (view_of a).seen) (sym same) is.typed));
      below = subst (λ (s : Basis). AreBelow s.sizes.passes (view_of b).seen) (only.basis ∙ same)
          (only.below (subst (λ (s : Basis). AreBelow s.sizes.passes (view_of a).seen) (sym same) is.below));
    }
