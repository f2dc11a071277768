-- A walk, from step to step.
use Rattle.std.proofs.Common.{◌≡◌, ℕ, ◌+◌, ◌<◌, ◌≤◌, true, List, length, Some, None, refl, sym, subst, arith}
use Rattle.art_look.proofs.Going.{asks_look}
use Rattle.art_step.proofs.Counting.{look_counts}
use Rattle.art_find.proofs.Counting.{answers_count, counts_on, few_steps}
use Rattle.art_find.specs.Asking.{MaySettle}
use Rattle.art_step.specs.Acting.{Answers, goes_on, telling}
use Rattle.art_find.specs.Descents as descents
use Rattle.art_find.specs.Driven.{GetFits, get_done, restarts_after}
use Rattle.art_step.specs.declared.actions.Answer.{Answer}
use Rattle.art_step.specs.declared.actions.Action.{Action}
use Rattle.art_step.specs.declared.actions.Action.TheVariants.{Settle}
use Rattle.art_find.specs.declared.descents.Descent.{Descent}
use Rattle.art_find.specs.declared.descents.Stage.{Stage}
use Rattle.art_find.specs.declared.descents.Stage.TheVariants as stage
use Rattle.art_key.specs.declared.bounds.Bound.{Bound as KeyBound}
use Rattle.art_look.proofs.Counting.{few_steps as few_look_steps}
use Rattle.art_look.proofs.Stages.{settled_row}
use Rattle.art_look.specs.Driven.{LookFits}
use Rattle.art_look.specs.Looks as looks
use Rattle.art_look.specs.Seen.{look_done}
use Rattle.art_look.specs.declared.looks.Look.{Look}
use Rattle.art_look.specs.declared.looks.LookStage.{LookStage}
use Rattle.art_look.specs.declared.looks.LookStage.TheVariants as look_stage
use Rattle.art_look.specs.declared.looks.Seen.{Seen}
use Rattle.art_look.specs.declared.path_buffers.PathBuffer.{PathBuffer}
use Rattle.art_look.specs.Walks.{Settles, asks, deed_at}
use Rattle.art_look.specs.declared.walks.Walk.{Walk}
use Rattle.art_look.specs.declared.walks.Walk.TheVariants.{Key, Range}
use Rattle.art_step.proofs.Shows.{get_settles}
use Rattle.art_step.specs.Steps.Check as check
use Rattle.art_step.specs.declared.deeds.Deed.{Deed}
use Rattle.art_step.specs.declared.views.Sizes.{Sizes}
use Rattle.art_step.specs.declared.views.Stamp.{Stamp}
use Rattle.art_step.specs.declared.views.View.{View}

-- ---- where a descent asks for a step, it goes on

descent_going : (s : Stage) (a : Action) → descents.asks s ≡ Some a → descents.ended_at s ≡ None
descent_going (stage.Ended o) a is = cc
descent_going s a is = refl

-- ---- each step counts

module _ (z : Sizes) (k : List ℕ) (u v w : View) (n : ℕ) (asked : Action) (answer : Answer) where
  pub key_on : (m m' : Descent) → length k ≤ 64 → descents.asks m.stage ≡ Some asked → Answers z (telling (get_done k (descents.answer_at m.stage))) asked answer v w
      → (goes_on answer ≡ true → descents.most_steps m.depth m.stage < descents.most_steps m'.depth m'.stage) → descents.Fits z k (get_done k) m' u w
      → GetFits z k u v m n → GetFits z k u w m' (restarts_after n (goes_on answer))
  key_on m m' short is row further fits before =
      let few = few_steps z k (get_done k) m.depth m.stage u v short (descent_going m.stage asked is) before.fits in
      record {
        fits = fits;
        counts = counts_on u v w (descents.most_steps m.depth m.stage) (descents.most_steps m'.depth m'.stage) n (goes_on answer) further (omega (arith, few))
            (answers_count z (get_done k (descents.answer_at m.stage)) m.stage asked answer v w is row) before.counts;
      }

  pub range_on : (hi : KeyBound) (m m' : Look) (t t' : PathBuffer) → looks.asks m.stage ≡ Some asked → Answers z (telling (looks.deed_at k hi t m.stage)) asked answer v w
      → (goes_on answer ≡ true → looks.most_steps m.depth m.stage < looks.most_steps m'.depth m'.stage) → looks.Fits z k hi m' t' u w
      → looks.least_steps m'.stage ≤ looks.least_steps m.stage + 1
      → LookFits z k hi u v m t n → LookFits z k hi u w m' t' (restarts_after n (goes_on answer))
  range_on hi m m' t t' is row further fits more before =
      let counted = look_counts z (looks.deed_at k hi t m.stage) asked answer v w (asks_look m.stage asked is) row in
      let one = counted.steps in
      let least = before.least in
      record {
        fits = fits;
        counts = counts_on u v w (looks.most_steps m.depth m.stage) (looks.most_steps m'.depth m'.stage) n (goes_on answer) further
            (few_look_steps z k hi m.depth t m.stage u v before.fits) counted before.counts;
        least = omega (arith, one, least, more);
      }

-- ---- what it settles, its event says

settling_seen : (lo : List ℕ) (hi : KeyBound) (t : PathBuffer) (s : LookStage) (x : Stamp) → looks.asks s ≡ Some (Settle x)
    → (seen : Seen) × (looks.seen_at lo hi t s ≡ Some seen) × (looks.deed_at lo hi t s ≡ look_done seen)
settling_seen lo hi t (look_stage.Decided y r o) x is = (_, refl, refl)
settling_seen lo hi t look_stage.Start x is = cc
settling_seen lo hi t (look_stage.Anchor y) x is = cc
settling_seen lo hi t (look_stage.Child y d) x is = cc
settling_seen lo hi t (look_stage.Below y n) x is = cc
settling_seen lo hi t (look_stage.Both y a n) x is = cc
settling_seen lo hi t (look_stage.Header y n) x is = cc
settling_seen lo hi t (look_stage.Prefix a i) x is = cc
settling_seen lo hi t (look_stage.Keys a f i) x is = cc
settling_seen lo hi t (look_stage.Slot a) x is = cc
settling_seen lo hi t (look_stage.Value y l) x is = cc
settling_seen lo hi t (look_stage.Length y l value) x is = cc
settling_seen lo hi t (look_stage.Bytes a i) x is = cc
settling_seen lo hi t (look_stage.Ended r o) x is = cc

pub may_settle : (z : Sizes) (k : List ℕ) (hi : KeyBound) (t : PathBuffer) (v : View) (w : Walk) (x : Stamp) → asks w ≡ Some (Settle x) → MaySettle z (Settles w k t) v x
    → check.May z v x (Some (deed_at w k hi t))
may_settle z k hi t v (Key m) x is may = record { stamp = may.stamp; tells = get_settles z v x k (descents.answer_at m.stage) may.shows }
may_settle z k hi t v (Range m) x is may =
    let q = settling_seen k hi t m.stage x is in
    subst (λ (d : Deed). check.May z v x (Some d)) (sym q.2) (record {
      stamp = may.stamp;
      tells = λ s rows shape has holds. (settled_row z k hi t m.stage x q.0 is q.1 s rows shape has (may.shows s shape holds), refl);
    })
