-- Where all keys spell tuples of a schema, no op meets a key that begins its own, or that its own begins: in a tree of such a world there
-- is none.
use Rattle.std.proofs.Common.{◌≡◌, ◌≢◌, ◌∙◌, ℕ, true, List, [], ◌∷◌, Option, Some, None, length, inl, inr, refl, sym, ap, subst, arith, ⊎_elim}
use Rattle.std.proofs.lemmas.Bool.{cases_eq}
use Rattle.std.proofs.lemmas.Option.{same_Some, slice_get_within}
use Rattle.std.specs.List.{slice_get}
use Rattle.std.specs.Option.{option_map}
use Rattle.std.specs.Prelude.{slice_set}
use Rattle.arrayvec.specs.ArrayVec.{ArrayVec}
use Rattle.art_change.proofs.ArtAttempt.Overlaps.{none_overlaps}
use Rattle.art_change.proofs.Overlaps.{overlap_counts}
use Rattle.art_change.specs.Writes as writes
use Rattle.art_change.specs.declared.writes.WriteOutcome.{WriteOutcome}
use Rattle.art_change.specs.declared.writes.WriteOutcome.TheVariants as wrote
use Rattle.art_change.specs.declared.writes.Stage.{Stage}
use Rattle.art_change.specs.declared.writes.Stage.TheVariants as stage
use Rattle.art_change.specs.ArtLook.declared.looks.Seen.{Seen}
use Rattle.art_change.specs.ArtLook.declared.walks.Outcome.{Outcome as SeekOutcome}
use Rattle.art_change.specs.ArtLook.declared.walks.Outcome.TheVariants as sought
use Rattle.art_change.specs.Calls.{FindsOverlap, Get, GoesOn, Insert, IsAdmitted, Look, Remove, StaysApart, Wish, finds_overlap, outcome_of, stays_apart}
use Rattle.art_change.specs.Outcomes.{of_seek, of_write}
use Rattle.art_change.specs.declared.callers.Call.{Call}
use Rattle.art_change.specs.declared.callers.Call.TheVariants as call
use Rattle.art_change.specs.declared.callers.Caller.{Caller}
use Rattle.art_change.specs.declared.outcomes.Outcome.TheVariants as outcome
use Rattle.art_key.specs.Spelling.{IsKeyOf}
use Rattle.art_key.specs.declared.columns.Column.{Column}
use Rattle.art_runs.proofs.Found.{found_is}
use Rattle.art_runs.proofs.Histories.{OwnAdmitted, StaysSound, all_admitted, own_typed}
use Rattle.art_runs.specs.Ops.{Goes, IsApart, IsRunOfOps, IsUnderWay, caller_in, has_ended}
use Rattle.art_runs.specs.TypedOps.{AreTyped, IsTypedOp}
use Rattle.art_runs.specs.declared.ops.Op.{Op}
use Rattle.art_step.proofs.AdmittedRows.{holds_among}
use Rattle.art_step.proofs.SetsView.{member_front}
use Rattle.art_step.specs.Histories.{AreAdmitted}
use Rattle.art_step.specs.Steps.{OneStep}
use Rattle.art_step.specs.Views.{Member}
use Rattle.art_step.specs.WordRows.{view_at, views_of}
use Rattle.art_step.specs.declared.views.Sizes.{Sizes}
use Rattle.art_step.specs.declared.views.View.{View}
use Rattle.art_typed.proofs.Keys.{keys_apart}
use Rattle.art_world.proofs.TakenTurns.{fits_on, placed_here, placed_there, run_keeps}
use Rattle.art_world.proofs.ViewLists.{at_view}
use Rattle.art_world.specs.Contents.{AtOnce, Contents, memory_now}
use Rattle.art_world.specs.Turns.{IsTurn, TakesTurn}

-- ---- how a call that stays apart ends

some_mapped : {A B : Type 0} (f : A → B) (o : Option A) (y : B) → option_map f o ≡ Some y → (x : A) × (o ≡ Some x) × (f x ≡ y)
some_mapped f None y is = absurd (cc)
some_mapped f (Some x) y is = (x, refl, same_Some (f x) y is)

wrote_overlap : (o : WriteOutcome) → of_write o ≡ outcome.Overlaps → o ≡ wrote.Overlaps
wrote_overlap wrote.New is = cc
wrote_overlap (wrote.Present value) is = cc
wrote_overlap (wrote.Gone value) is = cc
wrote_overlap wrote.Absent is = cc
wrote_overlap (wrote.Full pool) is = cc
wrote_overlap (wrote.Exhausted c) is = cc
wrote_overlap wrote.Overlaps is = refl
wrote_overlap wrote.Busy is = cc
wrote_overlap (wrote.Crowded b) is = cc

sought_none : (o : SeekOutcome) (seen : Option Seen) → of_seek o seen ≢ outcome.Overlaps
sought_none (sought.Found value) seen is = cc
sought_none sought.Absent seen is = cc
sought_none sought.Seen (Some x) is = cc
sought_none sought.Seen None is = cc
sought_none sought.Busy seen is = cc

ended_in : (s : Stage) (o : WriteOutcome) → writes.outcome_at s ≡ Some o → writes.outcome_in s ≡ Some o
ended_in (stage.Enter e) o is = cc
ended_in (stage.Trying t) o is = cc
ended_in (stage.Exit x a) o is = cc
ended_in (stage.Ended a) o is = is

ends_apart : (c : Caller) (m : Call) → stays_apart m → outcome_of c m ≢ Some outcome.Overlaps
ends_apart c (call.Write m) apart is =
    let o = some_mapped of_write (writes.ended_at m) outcome.Overlaps is in
    apart (ended_in m.stage o.0 o.1 ∙ ap (λ (a : WriteOutcome). Some a) (wrote_overlap o.0 o.2))
ends_apart c (call.Seek m) apart is = let o = some_mapped _ _ outcome.Overlaps is in absurd (sought_none o.0 _ o.2)

is_apart : (a : Op) → StaysApart (caller_in a) → IsApart a
is_apart a apart = record { call = apart; outcome = ends_apart (caller_in a) (caller_in a).call apart }

-- ---- the key of a call that finds an overlap

module _ (A : List ℕ → Type 0) (z : Sizes) (turns : ℕ) (u v : View) (c : Caller) (x w : View) where
  -- the key is admitted, by which one is found
  abbrev FindsAdmitted : Type 0
  FindsAdmitted = (k : List ℕ) × A k × writes.FindsOverlap z k x w

  by_key : (k : ArrayVec ℕ) → c.room.row.key ≡ k → A k.items → writes.FindsOverlap z c.room.row.key.items x w → FindsAdmitted
  by_key k key_is is o = (k.items, is, subst (λ (a : ArrayVec ℕ). writes.FindsOverlap z a.items x w) key_is o)

  by_wish : (wish : Wish) (m : Call) → GoesOn z wish turns u c m v → IsAdmitted A wish → finds_overlap z c m x w → FindsAdmitted
  by_wish (Insert k value) (call.Write m) goes is o = by_key k goes.key_is is o
  by_wish (Remove k) (call.Write m) goes is o = by_key k goes.key_is is o
  by_wish (Get k) (call.Write m) goes is o = absurd goes
  by_wish (Look lo hi) (call.Write m) goes is o = absurd goes
  by_wish wish (call.Seek m) goes is o = absurd o

module _ (schema : List Column) where
  -- ---- typed ops at one turn

  -- the history of a world of typed ops has keys that spell tuples
  log_typed : (k : Contents) (xs : List Op) → AreTyped schema k xs → (r : StaysSound k) → AreAdmitted (IsKeyOf schema) r.log
  log_typed k xs typed r = all_admitted (IsKeyOf schema) r.log (views_of k.views) r.history (λ p v is e here own.
      let low = slice_get_within k.views p v is in
      let same : view_at k.views p ≡ v = same_Some (view_at k.views p) v (sym (at_view k.views p low) ∙ is) in
      typed.seen p low e (subst (λ (w : View). Member e w.seen) (sym same) here))

  -- so no check of a step finds one
  step_none : (p : ℕ) (k l : Contents) (xs : List Op) → AreTyped schema k xs → StaysSound k → AtOnce (OneStep k.sizes p) k l → length l.views ≡ length k.views → (key : List ℕ) → IsKeyOf schema key
      → writes.FindsOverlap k.sizes key (view_at k.views p) (view_at l.views p) → ⊥
  step_none p k l xs typed sound step count key is o =
      let v : View = view_at k.views p in
      let w : View = view_at l.views p in
      let low = slice_get_within k.views p step.view step.before in
      let here = at_view k.views p low in
      let after = at_view l.views p (omega (arith, low, count)) in
      let same = found_is k.sizes p v w (memory_now k) (views_of k.views) (memory_now l) (views_of l.views) step here after _ (ap (λ (x : View). x.found) o.checked.is) in
      let among = holds_among (IsKeyOf schema) k.sizes p v (memory_now k) (views_of k.views) o.stamp here sound (log_typed k xs typed sound) same in
      none_overlaps (IsKeyOf schema) k.sizes v (keys_apart schema) o.stamp key is among o.shows

  abbrev Takes : ℕ → Contents → List Op → Contents → List Op → Type 0
  Takes t k xs m zs = TakesTurn (λ a z v. IsUnderWay z a v) has_ended Goes t k xs m zs

  module _ (t : ℕ) (k : Contents) (xs : List Op) (m : Contents) (zs : List Op) (typed : AreTyped schema k xs) (g : Takes t k xs m zs) where
    was : IsTypedOp schema k.sizes g.before (view_at k.views t)
    was = typed.ops t g.before g.named

    turn_none : FindsOverlap k.sizes (caller_in g.before) (view_at k.views t) (view_at m.views t) → ⊥
    turn_none o =
        let key = by_wish (IsKeyOf schema) k.sizes was.turns was.began (view_at k.views t) (caller_in g.before) (view_at k.views t) (view_at m.views t) was.wish (caller_in g.before).call was.calling.goes_on was.typed o in
        ⊎_elim
        (λ (step : AtOnce (OneStep k.sizes t) k m). step_none t k m xs typed g.sound_before step g.only.count key.0 key.1 key.2)
        (λ (none : (m ≡ k) × (has_ended g.now ≡ true)).
        let count = overlap_counts k.sizes key.0 (view_at k.views t) (view_at m.views t) key.2 in
        let still = ap (λ (c : Contents). (view_at c.views t).steps) none.0 in
        absurd (omega (arith, count, still)))
        g.step

    turn_apart : StaysApart (caller_in g.before) → StaysApart (caller_in g.now)
    turn_apart apart = g.turn.apart turn_none apart

    -- and typed ops stay so
    still_typed : AreTyped schema m zs
    still_typed =
        let run : IsRunOfOps (t ∷ []) k xs m zs = (m, zs, inr g, (refl, refl)) in
        let log = all_admitted (IsKeyOf schema) g.sound.log (views_of m.views) g.sound.history (λ p v is.
        let low = slice_get_within m.views p v is in
        let count = g.only.count in
        let same : view_at m.views p ≡ v = same_Some (view_at m.views p) v (sym (at_view m.views p low) ∙ is) in
        subst (λ (w : View). OwnAdmitted (IsKeyOf schema) p w.seen) same (own_typed schema (t ∷ []) k xs m zs run typed p (omega (arith, low, count)) (slice_get xs p) refl)) in
        let mine : IsTypedOp schema m.sizes g.now (view_at m.views t) = record {
          wish = was.wish;
          given = was.given;
          turns = was.turns;
          began = was.began;
          calling = g.turn.calling was.wish was.given was.turns was.began was.calling;
          typed = was.typed;
        } in
        record {
          seen = λ p low e here.
              let starts = (g.sound.history.tells p (view_at m.views p) (at_view m.views p low)).starts in
              log e (subst (Member e) (sym starts.1) (member_front e (view_at m.views p).seen starts.0 here));
          ops = λ q a is. fits_on (λ (b : Op) (z : Sizes) (v : View). IsTypedOp schema z b v) k m xs t g.now (slice_get_within xs t g.before g.named) g.only mine typed.ops q a
              (subst (λ (l : List Op). slice_get l q ≡ Some a) g.actors is);
        }

  -- ---- over a list of turns

  -- all ops are typed, and that of the pass p stays apart
  record AreApart (p : ℕ) (k : Contents) (xs : List Op) : Type 0 where
    typed : AreTyped schema k xs
    op : Op
    is : slice_get xs p ≡ Some op
    apart : StaysApart (caller_in op)

  module _ (p t : ℕ) (k : Contents) (xs : List Op) (m : Contents) (zs : List Op) where
    own_turn : Takes t k xs m zs → AreApart p k xs → t ≡ p → AreApart p m zs
    own_turn g c same =
        let low = slice_get_within xs p c.op c.is in
        let one : c.op ≡ g.before = same_Some c.op g.before (sym c.is ∙ (ap (slice_get xs) (sym same) ∙ g.named)) in
        record {
          typed = still_typed t k xs m zs c.typed g;
          op = g.now;
          is = ap (λ (l : List Op). slice_get l p) g.actors ∙ subst (λ (i : ℕ). slice_get (slice_set xs i g.now) p ≡ Some g.now) (sym same) (placed_here xs p g.now low);
          apart = turn_apart t k xs m zs c.typed g (subst (λ (a : Op). StaysApart (caller_in a)) one c.apart);
        }

    others_turn : Takes t k xs m zs → AreApart p k xs → t ≢ p → AreApart p m zs
    others_turn g c other = record {
      typed = still_typed t k xs m zs c.typed g;
      op = c.op;
      is = ap (λ (l : List Op). slice_get l p) g.actors ∙ (placed_there xs t p g.now (λ e. other (sym e)) ∙ c.is);
      apart = c.apart;
    }

    any_turn : IsTurn (λ a z v. IsUnderWay z a v) has_ended Goes t k xs m zs → AreApart p k xs → AreApart p m zs
    any_turn (inl n) c = record {
      typed = subst (λ (w : Contents × List Op). AreTyped schema w.0 w.1) (λ i. (sym n.1 i, sym n.2 i)) c.typed;
      op = c.op;
      is = ap (λ (l : List Op). slice_get l p) n.2 ∙ c.is;
      apart = c.apart;
    }
    any_turn (inr g) c = ⊎_elim (λ (same : t ≡ p). own_turn g c same) (λ (other : t ≢ p). others_turn g c other) (cases_eq t p)

  -- an op that stood apart does so after any turns, and has not ended as an overlap
  pub run_apart : (p : ℕ) (ts : List ℕ) (k : Contents) (xs : List Op) (l : Contents) (ys : List Op) → IsRunOfOps ts k xs l ys → AreTyped schema k xs → (a b : Op) → slice_get xs p ≡ Some a → slice_get ys p ≡ Some b
      → StaysApart (caller_in a) → IsApart b
  run_apart p ts k xs l ys run typed a b was is apart =
      let c = run_keeps (λ a z v. IsUnderWay z a v) has_ended Goes (λ m zs. AreApart p m zs) (λ t k xs m zs turn at. any_turn p t k xs m zs turn at) ts k xs l ys run
      record { typed = typed; op = a; is = was; apart = apart } in
      is_apart b (subst (λ (x : Op). StaysApart (caller_in x)) (same_Some c.op b (sym c.is ∙ is)) c.apart)
