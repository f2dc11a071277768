-- Steps that come before a change, and more of them.
use Rattle.std.proofs.Common.{◌≡◌, ◌+◌, ◌-◌, ◌<◌, ◌≤◌, ℕ, refl, subst, sym}
use Rattle.art_attempt.proofs.Spending.{spends_none, spends_on, spends_one}
use Rattle.art_attempt.proofs.Stages.{same_on}
use Rattle.art_attempt.specs.Attempts.{Fits, IsSameTry}
use Rattle.art_attempt.specs.Parts.{Prepares}
use Rattle.art_attempt.specs.declared.attempts.Attempt.{Attempt}
use Rattle.art_attempt.specs.declared.attempts.Room.{Room}
use Rattle.art_step.specs.declared.views.Sizes.{Sizes}
use Rattle.art_step.specs.declared.views.View.{View}

-- none yet
pub prepares_none : (z : Sizes) (m : Attempt) (r : Room) (left : ℕ) (v : View) → 0 < left → Prepares z m r left v m r left v
prepares_none z m r left v some = record {
  kept = record { job = refl; key = refl; value = refl };
  turns = spends_none v left some;
  fits = λ u fits. fits;
}

-- and then those of a part, whose carrier has the sizes that the first had
module _ {z y : Sizes} {l m n : Attempt} {q r s : Room} {a b c : ℕ} {u v w : View} where
  pub prepares_on : Prepares z l q a u m r b v → y ≡ z → IsSameTry m n r s → 0 < c → c ≤ b → w.steps + c ≡ v.steps + b
      → ((e : View) → Fits y e m r v → Fits y e n s w) → Prepares z l q a u n s c w
  prepares_on before same kept some less made fits =
      let on = subst (λ (x : Sizes). (e : View) → Fits x e m r v → Fits x e n s w) same fits in
      record {
        kept = same_on l m n q r s before.kept kept;
        turns = spends_on u v w a b c before.turns (record { some = some; less = less; made = made });
        fits = λ e fits. on e (before.fits e fits);
      }

-- and then one more
module _ {z : Sizes} {l m n : Attempt} {q r s : Room} {a b : ℕ} {u v w : View} where
  pub prepares_one : Prepares z l q a u m r b v → IsSameTry m n r s → w.steps ≡ v.steps + 1 → 1 < b → ((e : View) → Fits z e m r v → Fits z e n s w)
      → Prepares z l q a u n s (b - 1) w
  prepares_one before kept one more fits = record {
    kept = same_on l m n q r s before.kept kept;
    turns = spends_one u v w a b before.turns one more;
    fits = λ e known. fits e (before.fits e known);
  }

-- what a part knew, the one after it knows, of a carrier whose sizes are the same
module _ {z y : Sizes} {m n : Attempt} {r s : Room} {v w : View} where
  pub fits_on : y ≡ z → (u : View) × Fits z u m r v → ((u : View) → Fits z u m r v → Fits z u n s w) → (u : View) × Fits y u n s w
  fits_on same known fits = (known.0, subst (λ (x : Sizes). Fits x known.0 n s w) (sym same) (fits known.0 known.1))
