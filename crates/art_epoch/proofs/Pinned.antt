-- An epoch that was noted may be stored, and raised; a pass that is being pinned has locked and told nothing more.
use Rattle.std.proofs.Common.{◌≡◌, ℕ, ◌+◌, ◌^◌, ◌<◌, Some, inr, sym, refl, ap, subst}
use Rattle.art_epoch.specs.Pins.{Fits, IsNoting, asks}
use Rattle.art_step.specs.declared.actions.Action.{Action}
use Rattle.art_epoch.specs.declared.enter.Pinning.{Pinning}
use Rattle.art_epoch.specs.declared.enter.Pinning.TheVariants.{Noting, Storing, Ended}
use Rattle.art_step.specs.declared.views.Sizes.{Sizes}
use Rattle.art_step.specs.declared.views.View.{View}
use Rattle.art_step.specs.Steps.Advance as advance
use Rattle.art_step.specs.Steps.Epoch as epoch
use Rattle.art_step.specs.Steps.Pin as pin

-- the noted epoch may be stored
pub may_store : (z : Sizes) (v0 v : View) (x : ℕ) → IsNoting z v0 v x → pin.May v x
may_store z v0 v x k = subst (λ (u : View). pin.May u x) (sym k.is) record {
  free = k.may.free;
  word = inr (k.may.idle, (record { epoch = x; step = v0.steps + 1 }, refl, refl));
}

-- an epoch that was noted below its top may be raised
pub may_raise : (z : Sizes) (v w : View) (x : ℕ) → epoch.Outcome z v w x → x < 2 ^ 62 → advance.May w
may_raise z v w x row low = subst advance.May (sym row.is) record { note = record { epoch = x; step = v.steps + 1 }; noted = refl; early = low }

-- it is not pinned yet, and holds and has told what it did
pub pinning_same : (z : Sizes) (u v : View) (p : Pinning) → Fits z u p v → (a : Action) × (asks p ≡ Some a) → (v.held ≡ u.held) × (v.own ≡ u.own)
pinning_same z u v Noting fits on = (ap (λ (t : View). t.held) fits.1, ap (λ (t : View). t.own) fits.1)
pinning_same z u v (Storing x) fits on = (ap (λ (t : View). t.held) fits.is, ap (λ (t : View). t.own) fits.is)
pinning_same z u v Ended fits on = let is = on.1 in cc
