-- A pass that made no step yet.
use Rattle.std.proofs.Common.{◌≡◌, ◌+◌, ◌<◌, ℕ, zero, suc, refl, ap, arith}
use Rattle.std.specs.Prelude.{slice_index_or}
use Rattle.art_change.specs.Writes.{IsFresh}
use Rattle.art_step.specs.Opening.{newcomer}
use Rattle.art_step.specs.WordRows.{newcomers, view_at}
use Rattle.art_step.specs.declared.views.Sizes.{Sizes}

pub newcomer_fresh : (z : Sizes) (p : ℕ) → p < z.passes → IsFresh z (newcomer p) p
newcomer_fresh z p inside = record { own_is = refl; inside = inside; may = record { idle = refl; free = refl }; hand = refl; limbo = refl }

newcomer_from : (k n p q : ℕ) → q ≡ k + p → slice_index_or (newcomers k n) p (newcomer q) ≡ newcomer q
newcomer_from k zero p q is = refl
newcomer_from k (suc n) zero q is = let same : k ≡ q = omega (arith, is) in ap newcomer same
newcomer_from k (suc n) (suc p) q is = newcomer_from (suc k) n p q (omega (arith, is))

-- the view of each pass of a world that just opened
pub newcomer_at : (n p : ℕ) → view_at (newcomers 0 n) p ≡ newcomer p
newcomer_at n p = newcomer_from 0 n p p (omega arith)
