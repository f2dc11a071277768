-- A look goes on by a step that settles nothing.
use Rattle.std.proofs.Common.{◌≡◌, ◌∙◌, ◌+◌, ◌<◌, ◌≤◌, ℕ, Bool, List, true, false, Option, Some, None, inl, inr, sym, ap, subst, arith}
use Rattle.std.proofs.lemmas.Bool.{cases_Bool}
use Rattle.std.proofs.lemmas.Option.{same_Some}
use Rattle.art_cell.specs.declared.cells.Cell.TheVariants as cell
use Rattle.std.specs.Prelude.{IfSome, Err}
use Rattle.art_cell.specs.declared.cells.Cell.{Cell}
use Rattle.art_step.proofs.Counting.{Counted, look_counts}
use Rattle.art_find.proofs.Counting.{counts_on}
use Rattle.art_find.proofs.Driven.{restarts_few}
use Rattle.art_find.proofs.Stages.{reads_on}
use Rattle.art_find.specs.Asking.{MayLook, WantsCheck, WantsVersion}
use Rattle.art_step.specs.Acting.{Answers, IsLook, goes_on, telling}
use Rattle.art_find.specs.Descents.{IsReading}
use Rattle.art_find.specs.Driven.{restarts_after}
use Rattle.art_step.specs.declared.actions.Answer.{Answer}
use Rattle.art_step.specs.declared.actions.Action.{Action}
use Rattle.art_step.specs.declared.actions.Action.TheVariants.{Begin, Read, ReadLeaf, Check, Settle}
use Rattle.art_find.specs.declared.straight.Tally.{Tally}
use Rattle.art_key.specs.declared.bounds.Bound.{Bound as KeyBound}
use Rattle.art_key.specs.declared.bounds.Bound.TheVariants as key_bound
use Rattle.art_look.proofs.Allowed.{allowed}
use Rattle.art_look.proofs.Counting.{ended_least, few_steps}
use Rattle.art_look.proofs.Stages.{begun_again, checked_again}
use Rattle.art_look.specs.Driven.{LookFits}
use Rattle.art_look.specs.Looks.{Fits, IsSettling, Settles, asks, deed_at, has_ended, least_steps, most_steps}
use Rattle.art_look.specs.Straight.{HasGone, IsUnderWay}
use Rattle.art_look.specs.declared.looks.Look.{Look}
use Rattle.art_look.specs.declared.looks.LookStage.{LookStage}
use Rattle.art_look.specs.declared.looks.LookStage.TheVariants.{Start, Anchor, Child, Below, Both, Header, Prefix, Keys, Slot, Value, Length, Bytes, Decided, Ended}
use Rattle.art_look.specs.declared.path_buffers.PathBuffer.{PathBuffer}
use Rattle.art_step.proofs.Shows.{begun_rest, failed_rest}
use Rattle.art_step.specs.Steps.Begin as begin
use Rattle.art_step.specs.Steps.Check as check
use Rattle.art_step.specs.declared.deeds.Deed.{Deed}
use Rattle.art_step.specs.declared.faults.Changed.{Changed}
use Rattle.art_step.specs.declared.faults.Locked.{Locked}
use Rattle.art_step.specs.declared.views.Sizes.{Sizes}
use Rattle.art_step.specs.declared.views.Stamp.{Stamp}
use Rattle.art_step.specs.declared.views.View.{View}

-- what a look asks for may be made
may_make : (z : Sizes) (lo : List ℕ) (hi : KeyBound) (u v : View) (m : Look) (t : PathBuffer) (a : Action) → asks m.stage ≡ Some a → Fits z lo hi m t u v → MayLook z (Settles lo t m.stage) v a
may_make z lo hi u v m t a is fits = subst (λ (o : Option Action). IfSome o (MayLook z (Settles lo t m.stage) v)) is (allowed z lo hi m.depth t m.stage u v fits)

-- at this stage
pub may_go : (z : Sizes) (lo : List ℕ) (v : View) (m : Look) (t : PathBuffer) (c : Tally) → IsUnderWay z lo v m t c → (stage : LookStage) → m.stage ≡ stage → (a : Action) → asks stage ≡ Some a → MayLook z (Settles lo t m.stage) v a
may_go z lo v m t c way stage at a is = may_make z lo way.0 way.1 v m t a (ap (λ (s : LookStage). asks s) at ∙ is) way.2.fits

-- ---- a version word was locked, obsolete or changed

pub begun_fails : (z : Sizes) (lo : List ℕ) (hi : KeyBound) (m : Look) (t : PathBuffer) (u v w : View) (c : Cell) (e : Locked) → asks m.stage ≡ Some (Begin c) → Fits z lo hi m t u v → begin.Outcome z v w c (Err e) → IsReading u w
begun_fails z lo hi m t u v w c e is fits row =
    reads_on u v w (begun_rest z v w c e.found row.2) (begun_again z lo hi m.depth t m.stage u v (subst (λ (o : Option Action). WantsVersion o) (sym is) tt) fits)

pub check_fails : (z : Sizes) (lo : List ℕ) (hi : KeyBound) (m : Look) (t : PathBuffer) (u v w : View) (x : Stamp) (e : Changed) → asks m.stage ≡ Some (Check x) → Fits z lo hi m t u v → check.Outcome {A = Unit {0}} z v w x None (Err e) → IsReading u w
check_fails z lo hi m t u v w x e is fits row =
    reads_on u v w (failed_rest v w x e.found row.3) (checked_again z lo hi m.depth t m.stage u v (subst (λ (o : Option Action). WantsCheck o) (sym is) tt) fits)

-- ---- it has not ended

pub anew_going : (stage : LookStage) → least_steps stage ≡ 0 → has_ended stage ≡ false
anew_going stage none = elim (cases_Bool (has_ended stage)) [
  | inl ended ↦ (let three = ended_least stage ended in absurd (omega (arith, none, three)))
  | inr going ↦ going
]

-- a check that settles nothing ends nothing
pub still_going : (stage next : LookStage) (x : Stamp) → asks stage ≡ Some (Check x) → (has_ended next ≡ true → IsSettling stage) → has_ended next ≡ false
still_going stage next x is ends = elim (cases_Bool (has_ended next)) [
  | inl ended ↦ (let y = ends ended in let same = sym is ∙ y.1 in cc)
  | inr going ↦ going
]

-- a look asks for looks alone
pub asks_look : (stage : LookStage) (a : Action) → asks stage ≡ Some a → IsLook a
asks_look Start a e = subst IsLook (same_Some (Begin cell.Anchor) a e) tt
asks_look (Anchor x) a e = subst IsLook (same_Some (Read x 1) a e) tt
asks_look (Child x d) a e = subst IsLook (same_Some (Check x) a e) tt
asks_look (Below x n) a e = subst IsLook (same_Some (Begin (cell.Node n)) a e) tt
asks_look (Both x y n) a e = subst IsLook (same_Some (Check x) a e) tt
asks_look (Header y n) a e = subst IsLook (same_Some (Read y 1) a e) tt
asks_look (Prefix seen i) a e = subst IsLook (same_Some (Read seen.stamp (2 + i)) a e) tt
asks_look (Keys seen f i) a e = subst IsLook (same_Some (Read seen.stamp (10 + i)) a e) tt
asks_look (Slot s) a e = subst IsLook (same_Some (Read s.seen.stamp s.place) a e) tt
asks_look (Value x l) a e = subst IsLook (same_Some (ReadLeaf x l 0) a e) tt
asks_look (Length x l value) a e = subst IsLook (same_Some (ReadLeaf x l 1) a e) tt
asks_look (Bytes seen i) a e = subst IsLook (same_Some (ReadLeaf seen.stamp seen.leaf (2 + i)) a e) tt
asks_look (Decided x r o) a e = subst IsLook (same_Some (Settle x) a e) tt
asks_look (Ended r o) a e = absurd (cc)

-- ---- one step more

module _ (z : Sizes) (lo : List ℕ) (v w : View) (m m' : Look) (t t' : PathBuffer) (a : Action) (answer : Answer) (on : Bool) (is : on ≡ goes_on answer) (row : (d : Deed) → Answers z (telling d) a answer v w) (look : IsLook a) where
  -- a step that was made and heard keeps what fits
  further : (hi : KeyBound) (u : View) (n : ℕ) → (on ≡ true → most_steps m.depth m.stage < most_steps m'.depth m'.stage) → least_steps m'.stage ≤ least_steps m.stage + 1
      → Fits z lo hi m' t' u w → LookFits z lo hi u v m t n → LookFits z lo hi u w m' t' (restarts_after n on)
  further hi u n more low fits before =
      let counted = look_counts z (deed_at lo hi t m.stage) a answer v w look (row (deed_at lo hi t m.stage)) in
      let step = counted.steps in
      let least = before.least in
      record {
        fits = fits;
        counts = counts_on u v w (most_steps m.depth m.stage) (most_steps m'.depth m'.stage) n on more (few_steps z lo hi m.depth t m.stage u v before.fits)
            (subst (λ (b : Bool). Counted v w b) (sym is) counted) before.counts;
        least = omega (arith, step, least, low);
      }

  pub has_gone : (c c' : Tally) → has_ended m'.stage ≡ false → (on ≡ true → most_steps m.depth m.stage < most_steps m'.depth m'.stage) → least_steps m'.stage ≤ least_steps m.stage + 1
      → ((hi : KeyBound) (u : View) → Fits z lo hi m t u v → Fits z lo hi m' t' u w)
      → c'.left + 1 ≡ c.left → c'.restarts ≡ restarts_after c.restarts on → HasGone z lo v m t c w m' t' c'
  has_gone c c' going more low fits left restarts =
      let few = restarts_few c.restarts on in
      record {
        going = going;
        left = left;
        few = omega (arith, left, restarts, few);
        one = (look_counts z (deed_at lo key_bound.End t m.stage) a answer v w look (row (deed_at lo key_bound.End t m.stage))).steps;
        fits = λ hi u before. subst (λ (n : ℕ). LookFits z lo hi u w m' t' n) (sym restarts) (further hi u c.restarts more low (fits hi u before.fits) before);
      }
