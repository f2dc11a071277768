-- What a walk stands at whose answer the next check settles.
use Rattle.std.proofs.Common.{◌≡◌, ℕ, List, Option, Some, ap, subst}
use Rattle.std.specs.Prelude.{IfSome}
use Rattle.art_find.proofs.Allowed.{allowed as allowed_descent}
use Rattle.art_find.specs.Asking.{MayLook}
use Rattle.art_find.specs.Descents as descents
use Rattle.art_find.specs.Driven.{get_done}
use Rattle.art_find.specs.declared.descents.Stage.{Stage}
use Rattle.art_key.specs.declared.bounds.Bound.{Bound as KeyBound}
use Rattle.art_look.proofs.Allowed.{allowed as allowed_look}
use Rattle.art_look.specs.Looks as looks
use Rattle.art_look.specs.Settlings.{StandsAt, stamp_of}
use Rattle.art_look.specs.Walks.{Fits, Settles, asks}
use Rattle.art_look.specs.declared.looks.LookStage.{LookStage}
use Rattle.art_look.specs.declared.path_buffers.PathBuffer.{PathBuffer}
use Rattle.art_look.specs.declared.walks.Settling.{Settling}
use Rattle.art_look.specs.declared.walks.Settling.TheVariants as settling
use Rattle.art_look.specs.declared.walks.Walk.{Walk}
use Rattle.art_look.specs.declared.walks.Walk.TheVariants.{Key, Range}
use Rattle.art_step.specs.declared.actions.Action.{Action}
use Rattle.art_step.specs.declared.actions.Action.TheVariants.{Settle}
use Rattle.art_step.specs.declared.views.Sizes.{Sizes}
use Rattle.art_step.specs.declared.views.View.{View}

-- it asks for that check
pub settling_asks : (s : Settling) (w : Walk) → StandsAt s w → asks w ≡ Some (Settle (stamp_of s))
settling_asks (settling.Key x r) (Key m) at = ap (λ (s : Stage). descents.asks s) at
settling_asks (settling.Range x r o) (Range m) at = ap (λ (s : LookStage). looks.asks s) at
settling_asks (settling.Key x r) (Range m) at = absurd at
settling_asks (settling.Range x r o) (Key m) at = absurd at

-- which may be made
pub settling_may : (z : Sizes) (k : List ℕ) (hi : KeyBound) (t : PathBuffer) (u v : View) (n : ℕ) (s : Settling) (w : Walk) → StandsAt s w → Fits z k hi u w t n v
    → MayLook z (Settles w k t) v (Settle (stamp_of s))
settling_may z k hi t u v n s (Key m) at fits =
    subst (λ (o : Option Action). IfSome o (MayLook z (Settles (Key m) k t) v)) (settling_asks s (Key m) at) (allowed_descent z k (get_done k) m.depth m.stage u v fits.fits)
settling_may z k hi t u v n s (Range m) at fits =
    subst (λ (o : Option Action). IfSome o (MayLook z (Settles (Range m) k t) v)) (settling_asks s (Range m) at) (allowed_look z k hi m.depth t m.stage u v fits.fits)
