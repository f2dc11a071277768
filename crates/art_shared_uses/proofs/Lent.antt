-- A pass that was lent to its table is one of it still, and may call if it may as it was lent.
use Rattle.std.proofs.Common.{◌≡◌, ap, subst}
use Rattle.art_change.specs.Calls.{IsCaller}
use Rattle.art_change.specs.declared.callers.Caller.{Caller}
use Rattle.art_shared.specs.declared.law.Basis.{Basis}
use Rattle.art_shared.specs.declared.pass.Pass.{Pass}
use Rattle.art_shared.specs.declared.shared.Shared.{Shared}
use Rattle.art_shared.specs.declared.stepper.Stepper.{Stepper}
use Rattle.art_shared.specs.Stepper.{OnlyStepped, basis_of, pass_of, sizes_of, view_of}
use Rattle.art_shared.specs.Tables.{IsPassOf, basis_in}
use Rattle.art_shared.proofs.Lent.{lent_passes_stay}
use Rattle.art_shared_uses.specs.Clients.{Writes}
use Rattle.art_step.specs.declared.views.Sizes.{Sizes}

module _ (t : Shared) (p : Pass) (a b : Stepper) (of : IsPassOf t p) (lent : pass_of a ≡ p) (same : basis_of a ≡ basis_in t) (only : OnlyStepped a b) where
  pub writes_still : (c : Caller) → IsCaller (sizes_of a) (view_of b) c → Writes t (pass_of b) c
  writes_still c may = record {
    of = lent_passes_stay t p a b of lent same only;
    may = subst (λ (z : Sizes). IsCaller z (view_of b) c) (ap (λ (s : Basis). s.sizes) same) may;
  }
