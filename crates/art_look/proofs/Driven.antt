-- A look that is driven, step by step and once it has ended.
use Rattle.std.proofs.Common.{◌≡◌, ◌⊎◌, ℕ, ◌<◌, true, List, [], ◌∷◌, get_or, Option, Some, None, sym, subst}
use Rattle.std.specs.Prelude.{IfSome, suc}
use Rattle.art_key.specs.Bounds.{is_before}
use Rattle.art_key.specs.declared.bounds.Bound.{Bound as KeyBound}
use Rattle.art_look.specs.Driven.{LookEnds, LookFits}
use Rattle.art_look.specs.Looks.{has_ended, seen_at}
use Rattle.art_look.specs.Seen.{bound_at}
use Rattle.art_look.specs.declared.looks.Look.{Look}
use Rattle.art_look.specs.declared.looks.Seen.{Seen}
use Rattle.art_look.specs.declared.path_buffers.PathBuffer.{PathBuffer}
use Rattle.art_look.proofs.Stages.{has_seen, look_ends, seen_after, seen_within}
use Rattle.art_look.proofs.Table.{before_below}
use Rattle.art_step.specs.Deeds.{bound_of}
use Rattle.art_step.specs.declared.views.Sizes.{Sizes}
use Rattle.art_step.specs.declared.views.View.{View}
use Rattle.art_tree.specs.Looks.{AreBytes, IsBelow}
use Rattle.art_tree.specs.declared.bounds.Bound.TheVariants.{To}

-- a step keeps what fits, where the sizes are the same
pub stepped : (y z : Sizes) → y ≡ z → (lo : List ℕ) (hi : KeyBound) (u v w : View) (m m' : Look) (t t' : PathBuffer) (n k : ℕ)
    → (LookFits y lo hi u v m t n → LookFits y lo hi u w m' t' k) → LookFits z lo hi u v m t n → LookFits z lo hi u w m' t' k
stepped y z same lo hi u v w m m' t t' n k step fits = subst (λ (s : Sizes). LookFits s lo hi u w m' t' k) same (step (subst (λ (s : Sizes). LookFits s lo hi u v m t n) (sym same) fits))

bytes_are : (xs : List ℕ) → ((i : ℕ) → get_or xs i 0 < 256) → AreBytes xs
bytes_are [] low = tt
bytes_are (a ∷ xs) low = (low 0, bytes_are xs (λ i. low (suc i)))

module _ (z : Sizes) (lo : List ℕ) (hi : KeyBound) (u w : View) where
  -- once it has ended
  module _ (m : Look) (t : PathBuffer) (n : ℕ) (ended : has_ended m.stage ≡ true) (fits : LookFits z lo hi u w m t n) where
    pub ended_with : (o : Option Seen) → seen_at lo hi t m.stage ≡ o → LookEnds z lo hi u w o
    ended_with (Some seen) is = look_ends z lo hi m.depth t m.stage seen u w ended is fits.fits
    ended_with None is = absurd (has_seen lo hi t m.stage ended is)

  -- what it saw goes on after the lower end, and not past the upper one
  pub sees_after : (o : Option Seen) → ((i : ℕ) → get_or lo i 0 < 256) → is_before (bound_at (To lo)) hi ≡ true → LookEnds z lo hi u w o → IfSome o (λ seen. IsBelow lo (bound_of seen.hi))
  sees_after (Some seen) bytes before ends = seen_after z lo hi seen (bytes_are lo bytes) (before_below lo hi before) ends.2
  sees_after None bytes before ends = tt

  pub sees_within : (o : Option Seen) → LookEnds z lo hi u w o → IfSome o (λ seen. (seen.hi ≡ hi) ⊎ (is_before seen.hi hi ≡ true))
  sees_within (Some seen) ends = seen_within z lo hi seen ends.2
  sees_within None ends = tt
