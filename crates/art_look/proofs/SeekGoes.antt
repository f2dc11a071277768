-- A seek that goes on by steps of its own.
use Rattle.std.proofs.Common.{◌≡◌, ◌∙◌, ℕ, List, refl, sym, subst, arith}
use Rattle.art_key.specs.declared.bounds.Bound.{Bound as KeyBound}
use Rattle.art_look.specs.declared.path_buffers.PathBuffer.{PathBuffer}
use Rattle.art_look.specs.Seeks.{Fits, GoesTo, IsUnderWay}
use Rattle.art_look.specs.declared.seeks.Seek.{Seek}
use Rattle.art_step.specs.declared.views.Sizes.{Sizes}
use Rattle.art_step.specs.declared.views.View.{View}

pub goes_none : (z : Sizes) (k : List ℕ) (hi : KeyBound) (m : Seek) (t : PathBuffer) (v : View) → GoesTo z k hi m t v m t v
goes_none z k hi m t v = record { aim = refl; turns = refl; refuses = λ busy. busy; less = omega arith; left = omega arith; fits = λ u fits. fits }

-- and then by more of them, where the sizes are the same
module _ (z z' : Sizes) (same : z' ≡ z) (k : List ℕ) (hi : KeyBound) (m : Seek) (t : PathBuffer) (v : View) (m' : Seek) (t' : PathBuffer) (v' : View) (first : GoesTo z k hi m t v m' t' v') where
  pub goes_then : (n : Seek) (s : PathBuffer) (w : View) → GoesTo z' k hi m' t' v' n s w → GoesTo z k hi m t v n s w
  goes_then n s w next =
      let then : GoesTo z k hi m' t' v' n s w = subst (λ (y : Sizes). GoesTo y k hi m' t' v' n s w) same next in
      let less = first.less in
      let less' = then.less in
      let left = first.left in
      let left' = then.left in
      record {
        aim = then.aim ∙ first.aim;
        turns = then.turns ∙ first.turns;
        refuses = λ busy. then.refuses (first.refuses busy);
        less = omega (arith, less, less');
        left = omega (arith, left, left');
        fits = λ u fits. then.fits u (first.fits u fits);
      }

  pub still_on : IsUnderWay z k hi m t v → IsUnderWay z' k hi m' t' v'
  still_on on = (on.0, subst (λ (y : Sizes). Fits y k hi on.0 m' t' v') (sym same) (first.fits on.0 on.1))
