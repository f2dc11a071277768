-- A seek that has ended is closed, and what a look has told and seen then.
use Rattle.std.proofs.Common.{◌≡◌, ℕ, ◌≤◌, List, length, Some, None, refl, subst}
use Rattle.std.specs.Option.{option_map}
use Rattle.art_key.specs.declared.bounds.Bound.{Bound as KeyBound}
use Rattle.art_look.proofs.Driven.{ended_with}
use Rattle.art_look.proofs.Stages.{has_seen, still_reading}
use Rattle.art_look.specs.Driven.{LookEnds}
use Rattle.art_look.specs.Looks as looks
use Rattle.art_look.specs.Seen.{look_done}
use Rattle.art_look.specs.declared.path_buffers.PathBuffer.{PathBuffer}
use Rattle.art_look.proofs.Closes.{closed_sought}
use Rattle.art_look.proofs.SeekEnds.{range_going, range_not_absent, range_not_found, range_seen}
use Rattle.art_look.specs.Seeks.{Fits, HasSought, WentIdle, StageFits, ended_at, outcome_at, seen_by}
use Rattle.art_look.specs.Walks as walks
use Rattle.art_look.specs.Walks.{IsEnd, aim_of, told_of}
use Rattle.art_look.specs.declared.seeks.Seek.{Seek}
use Rattle.art_look.specs.declared.seeks.SeekStage.{SeekStage}
use Rattle.art_look.specs.declared.seeks.SeekStage.TheVariants as stage
use Rattle.art_look.specs.declared.walks.Aim.TheVariants as aim
use Rattle.art_look.specs.declared.walks.Outcome.{Outcome}
use Rattle.art_look.specs.declared.walks.Outcome.TheVariants.{Found, Absent, Seen, Busy}
use Rattle.art_look.specs.declared.walks.Walk.{Walk}
use Rattle.art_look.specs.declared.walks.Walk.TheVariants.{Key, Range}
use Rattle.art_step.specs.declared.views.Sizes.{Sizes}
use Rattle.art_step.specs.declared.views.View.{View}

-- ---- a seek that has ended is closed

ended_stage : (s : SeekStage) (p o : Outcome) → outcome_at s p ≡ Some o → (s ≡ stage.Ended) × (p ≡ o)
ended_stage stage.Ended p o is = (refl, cc)
ended_stage stage.Pinning p o is = cc
ended_stage stage.Walking p o is = cc
ended_stage stage.Closing p o is = cc

module _ (z : Sizes) (k : List ℕ) (hi : KeyBound) (u : View) (m : Seek) (t : PathBuffer) (v : View) (o : Outcome) (is : ended_at m ≡ Some o) (fits : Fits z k hi u m t v) where
  pub ended_closed : WentIdle z k hi u m t v
  ended_closed = subst (λ (s : SeekStage). StageFits z k hi u s m t v) (ended_stage m.stage m.outcome o is).0 fits

  pub ended_end : IsEnd m.walk m.left o
  ended_end = subst (λ (p : Outcome). IsEnd m.walk m.left p) (ended_stage m.stage m.outcome o is).1 ended_closed.over.ends

  pub ended_sought : length k ≤ 64 → HasSought k hi u m t o v
  ended_sought short = subst (λ (p : Outcome). HasSought k hi u m t p v) (ended_stage m.stage m.outcome o is).1 (closed_sought z k hi u m t v ended_closed short)

module _ (k : List ℕ) (hi : KeyBound) (t : PathBuffer) (left : ℕ) where
  pub look_told : (w : Walk) (o : Outcome) → aim_of w ≡ aim.Range → IsEnd w left o → told_of o k hi t w ≡ option_map look_done (seen_by (Some o) w k hi t)
  look_told w Seen look ends = refl
  look_told w Busy look ends = refl
  look_told (Key m) (Found value) look ends = cc
  look_told (Key m) Absent look ends = cc
  look_told (Range m) (Found value) look ends = absurd (range_not_found m left value ends)
  look_told (Range m) Absent look ends = absurd (range_not_absent m left ends)

  pub seen_busy : (w : Walk) (o : Outcome) → aim_of w ≡ aim.Range → IsEnd w left o → seen_by (Some o) w k hi t ≡ None → o ≡ Busy
  seen_busy w Busy look ends is = refl
  seen_busy (Range m) Seen look ends is = absurd (has_seen k hi t m.stage (range_seen m left ends) is)
  seen_busy (Range m) (Found value) look ends is = absurd (range_not_found m left value ends)
  seen_busy (Range m) Absent look ends is = absurd (range_not_absent m left ends)
  seen_busy (Key m) o look ends is = cc

  -- and it ended as a look of its own would have
  pub look_ends : (z : Sizes) (u v : View) (n : ℕ) (w : Walk) (o : Outcome) → aim_of w ≡ aim.Range → IsEnd w left o → walks.Fits z k hi u w t n v → LookEnds z k hi u v (seen_by (Some o) w k hi t)
  look_ends z u v n (Range m) Seen look ends fits = ended_with z k hi u v m t n (range_seen m left ends) fits (looks.seen_at k hi t m.stage) refl
  look_ends z u v n (Range m) Busy look ends fits = (still_reading z k hi m.depth t m.stage u v (range_going m left ends) fits.fits).only
  look_ends z u v n (Range m) (Found value) look ends fits = absurd (range_not_found m left value ends)
  look_ends z u v n (Range m) Absent look ends fits = absurd (range_not_absent m left ends)
  look_ends z u v n (Key m) o look ends fits = cc
