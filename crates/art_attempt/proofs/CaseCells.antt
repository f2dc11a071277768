-- The cells that are written are read and checked.
use Rattle.std.proofs.Common.{◌≡◌, ℕ, ◌<◌, ◌≤◌, Bool, true, false, List, Option, Some, refl, sym, ap, ◌∙◌, subst, arith, ⊎_elim}
use Rattle.std.proofs.lemmas.Bool.{cases_Bool}
use Rattle.std.proofs.lemmas.Option.{same_Some}
use Rattle.std.specs.Option.{unwrap_or}
use Rattle.arrayvec.specs.ArrayVec.{ArrayVec}
use Rattle.art_attempt.proofs.Chosen.{known_on, stood_now}
use Rattle.art_attempt.proofs.Finds.{within_so}
use Rattle.art_attempt.proofs.Looks.{no_fewer}
use Rattle.art_attempt.proofs.Tries.{checked_since, still_reads, stock_reads}
use Rattle.art_attempt.specs.Attempts.{EndsSo, EndsWithin, HasHand, IsValidating}
use Rattle.art_attempt.specs.Cases.{HasLeaf, IsLockedBy, LocksChecked, cells_of}
use Rattle.art_attempt.specs.Rooms.{number_for}
use Rattle.art_attempt.specs.Trying.{HasSpent, IsKey, IsLater, StillTries, StoodAtCheck, WasChecked}
use Rattle.art_attempt.specs.declared.attempts.Job.{Job}
use Rattle.art_attempt.specs.declared.attempts.Case.{Case}
use Rattle.art_attempt.specs.declared.attempts.Case.TheVariants.{NewLeaf, DropLeaf, Shrink, MergeLeaf, MergeNode, Torn}
use Rattle.art_attempt.specs.declared.attempts.Room.{Room}
use Rattle.art_cell.specs.declared.cells.Layout.{Layout}
use Rattle.art_cell.specs.declared.cells.Layout.TheVariants.{Node4}
use Rattle.art_commit.specs.CommitLaws.{HasNode}
use Rattle.art_find.specs.Descents.{IsReading}
use Rattle.art_find.specs.Findings.{IsStanding}
use Rattle.art_find.specs.ReadSets.{above_of}
use Rattle.art_find.specs.Rereadings.{AreKnown}
use Rattle.art_find.specs.declared.findings.Above.{Above as CellAbove}
use Rattle.art_find.specs.declared.findings.Position.{Position}
use Rattle.art_find.specs.declared.read_sets.ReadSet.{ReadSet}
use Rattle.art_epoch.specs.Stocks.{node_in, words_written}
use Rattle.art_attempt.proofs.Asked.{validate_asks_look}
use Rattle.art_attempt.proofs.LowerSeen.{lower_may_merge, lower_seen, lower_still}
use Rattle.art_attempt.proofs.Validates.{over_stamp, was_vouched}
use Rattle.art_attempt.specs.Naming.{StillStands}
use Rattle.art_attempt.specs.Reserve.{HasAll, StayFound}
use Rattle.art_attempt.specs.Validate as validate
use Rattle.art_attempt.specs.Validate.{CheckedSince, IsValidated, Knows, NodeStays, stamp_of}
use Rattle.art_attempt.specs.declared.validate.Cells.{Cells}
use Rattle.art_attempt.specs.declared.validate.Role.TheVariants.{Above, Here, Lower}
use Rattle.art_attempt.specs.declared.validate.Validate.{Validate}
use Rattle.art_attempt.specs.declared.validate.Validate.TheVariants as checks
use Rattle.art_attempt.specs.declared.validate.Validated.{Validated}
use Rattle.art_attempt.specs.declared.validate.Validated.TheVariants.{Unchanged, Changed}
use Rattle.art_step.proofs.Counting.{Counted, look_counts}
use Rattle.art_step.specs.Acting.{Answers, goes_on, telling}
use Rattle.art_step.specs.declared.actions.Action.{Action}
use Rattle.art_step.specs.declared.actions.Answer.{Answer}
use Rattle.art_epoch.proofs.PackedLeaves.{packed_leaf}
use Rattle.art_epoch.specs.LeafWriter.{IsPacked}
use Rattle.art_plan.specs.ChooseInsert.Needs.{needs_of}
use Rattle.art_plan.specs.ChooseInsert.Plans.{HasNeeded, IsLockedAt, LocksOnly}
use Rattle.art_plan.specs.ChooseInsert.Seen.{IsSeen as IsSeenWhole, WasVouched}
use Rattle.art_plan.specs.ChooseRemove.Losses.{loss_at}
use Rattle.art_plan.specs.ChooseRemove.Plans.{HasSmaller, IsAnyAt, IsEitherAt, IsNodeAt, MayNotMerge}
use Rattle.art_plan.specs.ChooseRemove.Seen.{AreSeen, IsLowerSeen, IsSeen, StillKnown}
use Rattle.art_plan.specs.declared.choose_remove.Lower.{Lower as LowerNode}
use Rattle.art_plan.specs.Insert.Cases.{IsInHand}
use Rattle.art_plan.specs.declared.changes.Change.{Change}
use Rattle.art_plan.specs.declared.choose_remove.Loss.{Loss}
use Rattle.art_plan.specs.declared.choose_remove.Loss.TheVariants as loss
use Rattle.art_step.specs.Views.{size_of}
use Rattle.art_step.specs.declared.deeds.Deed.{Deed}
use Rattle.art_step.specs.declared.views.Sizes.{Sizes}
use Rattle.art_step.specs.declared.views.Stamp.{Stamp}
use Rattle.art_step.specs.declared.views.View.{View}

-- ---- they are validated from now on

pub stands_begins : (z : Sizes) (u : View) (n : ℕ) (t : Position) (r : Room) (v : View) → EndsWithin z u n r v → IsStanding z r.row.key.items t r.read_set v → StillStands z r.row.key.items t r.read_set v v
stands_begins z u n t r v so standing = record {
  reads = record { only = refl; free = so.still.free; pinned = so.still.pinned };
  later = omega arith;
  standing = standing;
}

-- while words were read, nothing else happened
module _ (z : Sizes) (u early : View) (base : StillTries u early) (r : Room) (v : View) (later : IsLater early v) (has : HasHand z early r) (reads : IsReading early v) where
  pub reading_so : (n : ℕ) → HasSpent z u n v → EndsWithin z u n r v
  reading_so n spent = record {
    still = still_reads u early base v later reads.only;
    spent = spent;
    has = stock_reads z r.row.key.items r.row.value early v r.stock reads.only has;
  }

-- ---- how it ends

pub validated_as : (m : Validate) (e : Validated) → validate.ended_at m ≡ Some e → m ≡ checks.Ended e
validated_as (checks.Ended r) e is = ap checks.Ended (same_Some {A = Validated} r e is)
validated_as (checks.Read role r) e is = cc
validated_as (checks.Header r) e is = cc
validated_as (checks.Check role) e is = cc
validated_as checks.Torn e is = cc

-- a validation that has not ended met no failure
going_failures : (t : Position) (o : Cells) (m : Validate) (a : Action) (n : ℕ) → validate.asks t o m ≡ Some a → validate.failures_of m n ≡ n
going_failures t o (checks.Read role r) a n is = refl
going_failures t o (checks.Header r) a n is = refl
going_failures t o (checks.Check role) a n is = refl
going_failures t o checks.Torn a n is = refl
going_failures t o (checks.Ended e) a n is = cc

-- so where it ends as changed, it is the answer that does not go on
pub changed_by : (z : Sizes) (k : List ℕ) (t : Position) (o : Cells) (m m' : Validate) (read_set read_set' : ReadSet) (lower lower' : List (Option ℕ)) (d : Deed) (a : Action) (r : Answer) (u v w : View)
    → validate.Fits z k t o m read_set lower u v → validate.Fits z k t o m' read_set' lower' u w → validate.asks t o m ≡ Some a → Answers z (telling d) a r v w → validate.ended_at m' ≡ Some Changed → goes_on r ≡ false
changed_by z k t o m m' read_set read_set' lower lower' d a r u v w before after is row ended = ⊎_elim
    (λ (on : goes_on r ≡ true).
    let step : Counted v w true = subst (Counted v w) on (look_counts z d a r v w (validate_asks_look t o m a is) row) in
    let same = step.failures in
    let old = before.failures ∙ going_failures t o m a u.failures is in
    let new = after.failures ∙ ap (λ (s : Validate). validate.failures_of s u.failures) (validated_as m' Changed ended) in
    absurd (omega (arith, same, old, new)))
    (λ (off : goes_on r ≡ false). off)
    (cases_Bool (goes_on r))

-- as long as it goes on it has only read
pub validate_reads : (z : Sizes) (k : List ℕ) (t : Position) (o : Cells) (m : Validate) (read_set : ReadSet) (lower : List (Option ℕ)) (u v : View) → validate.StageFits z k t o m read_set lower u v → IsReading u v
validate_reads z k t o (checks.Read role r) read_set lower u v fits = fits.0.stands.reads
validate_reads z k t o (checks.Header r) read_set lower u v fits = fits.0.stands.reads
validate_reads z k t o (checks.Check role) read_set lower u v fits = fits.0.stands.reads
validate_reads z k t o checks.Torn read_set lower u v fits = fits.0.stands.reads
validate_reads z k t o (checks.Ended Unchanged) read_set lower u v fits = fits.0.stands.reads
validate_reads z k t o (checks.Ended Changed) read_set lower u v fits = fits

module _ (z : Sizes) (u : View) (j : Job) (t : Position) (c : Case) (s : Validate) (r : Room) (v : View) (h : IsValidating z u j t c s r v) where
  abbrev k : List ℕ
  k = r.row.key.items

  abbrev o : Cells
  o = cells_of c t.verdict

  -- it goes on
  pub validating_on : (w : View) (next : Validate) (read_set : ReadSet) (lower : List (Option ℕ)) → v.steps ≤ w.steps → StayFound v w → NodeStays t r.read_set read_set → validate.Fits z k t o next read_set lower h.early w
      → IsValidating z u j t c next (record r { read_set = read_set; lower = lower }) w
  validating_on w next read_set lower more found node fits =
      let before = h.later.steps in
      let same = fits.failures in
      let few = no_fewer next h.early.failures in
      record {
        early = h.early;
        base = h.base;
        later = record { steps = omega (arith, before, more); failures = omega (arith, same, few) };
        spent = h.spent;
        has = h.has;
        case = h.case;
        known = known_on z u t r read_set lower v w found node.stays node.whole c h.known;
        fits = fits;
      }

  -- by the cells that it goes by
  module _ (p : Cells) (cells : p ≡ o) where
    pub may_validate : validate.Fits z k t p s r.read_set r.lower h.early v
    may_validate = subst (λ (p : Cells). validate.Fits z k t p s r.read_set r.lower h.early v) (sym cells) h.fits

    pub is_validating_on : (w : View) (next : Validate) (read_set : ReadSet) (lower : List (Option ℕ)) → v.steps ≤ w.steps → StayFound v w → NodeStays t r.read_set read_set → validate.Fits z k t p next read_set lower h.early w
        → IsValidating z u j t c next (record r { read_set = read_set; lower = lower }) w
    is_validating_on w next read_set lower more found node fits = validating_on w next read_set lower more found node (subst (λ (p : Cells). validate.Fits z k t p next read_set lower h.early w) cells fits)

  pub validating_so : EndsWithin z u 22500 r v
  validating_so = reading_so z u h.early h.base r v h.later h.has (validate_reads z k t o s r.read_set r.lower h.early v h.fits.stage) 22500
      (λ limited. let spent = h.spent limited in let steps = h.fits.steps in let more = h.later.failures in omega (arith, spent, steps, more))

  pub validating_changed : validate.ended_at s ≡ Some Changed → EndsSo z u r v × (u.failures < v.failures)
  validating_changed is =
      let more = h.fits.failures ∙ ap (λ (q : Validate). validate.failures_of q h.early.failures) (validated_as s Changed is) in
      let before = h.base.later.failures in
      (within_so z u 22500 r v (omega arith) validating_so, omega (arith, more, before))

-- ---- all words were known, and each cell was checked

module _ (z : Sizes) (u : View) (j : Job) (at : Position) (case : Case) (r : Room) (v : View) (h : IsValidating z u j at case (checks.Ended Unchanged) r v) where
  abbrev key : List ℕ
  key = r.row.key.items

  abbrev cells : Cells
  cells = cells_of case at.verdict

  knows : Knows z key at cells r.read_set r.lower h.early v
  knows = h.fits.stage.0

  done : IsValidated z key at cells r.read_set r.lower h.early v
  done = h.fits.stage.1

  pub validated_so : EndsWithin z u 22500 r v
  validated_so = validating_so z u j at case (checks.Ended Unchanged) r v h

  pub validated_standing : IsStanding z key at r.read_set v
  validated_standing = knows.stands.standing

  pub validated_stood : StoodAtCheck z u key at r.read_set v
  validated_stood = stood_now z u key at r.read_set h.early v h.base done.just validated_standing

  was : (x : Stamp) → CheckedSince z key at cells r.read_set r.lower h.early x v → WasChecked u x v
  was x checked = checked_since u h.early h.base z key at cells r.read_set r.lower x v checked

  node_checked : (x : Stamp) → IsNodeAt at x → WasChecked u x v
  node_checked x is = subst (λ (y : Stamp). WasChecked u y v) (sym is) (was at.stamp (done.checked Here at.stamp refl))

  above_checked : cells.above ≡ true → (a : CellAbove) → at.above ≡ Some a → (x : Stamp) → x ≡ a.stamp → WasChecked u x v
  above_checked wide a is x same = subst (λ (y : Stamp). WasChecked u y v) (sym same) (was a.stamp (done.checked Above a.stamp (over_stamp at cells a wide is)))

  either_checked : cells.above ≡ true → (x : Stamp) → IsEitherAt at x → WasChecked u x v
  either_checked wide x = ⊎_elim (node_checked x) (λ (q : (a : CellAbove) × (at.above ≡ Some a) × (x ≡ a.stamp)). above_checked wide q.0 q.1 x q.2)

  new_checked : case ≡ NewLeaf → (x : Stamp) → IsLockedAt at x → WasChecked u x v
  new_checked is x = ⊎_elim (node_checked x)
      (λ (q : (a : CellAbove) × (at.above ≡ Some a) × ((needs_of at.verdict).above ≡ true) × (x ≡ a.stamp)). above_checked (ap (λ (c : Case). (cells_of c at.verdict).above) is ∙ q.2) q.0 q.1 x q.3)

  any_checked : (l : LowerNode) → case ≡ MergeNode l → (x : Stamp) → IsAnyAt at l x → WasChecked u x v
  any_checked l is x = ⊎_elim (either_checked (ap (λ (c : Case). (cells_of c at.verdict).above) is) x)
      (λ (same : x ≡ l.stamp). subst (λ (y : Stamp). WasChecked u y v) (sym same)
      (was l.stamp (done.checked Lower l.stamp (ap (λ (c : Case). stamp_of at (cells_of c at.verdict) Lower) is))))

  each_checked : (c : Case) → case ≡ c → (x : Stamp) → IsLockedBy c at x → WasChecked u x v
  each_checked NewLeaf is x locked = new_checked is x locked
  each_checked DropLeaf is x locked = node_checked x locked
  each_checked (Shrink layout) is x locked = either_checked (ap (λ (c : Case). (cells_of c at.verdict).above) is) x locked
  each_checked (MergeLeaf other) is x locked = either_checked (ap (λ (c : Case). (cells_of c at.verdict).above) is) x locked
  each_checked (MergeNode l) is x locked = any_checked l is x locked
  each_checked Torn is x locked = absurd locked

  -- each cell that a plan of this case locks was checked in this attempt
  pub validated_locks : (change : Change) → LocksOnly (IsLockedBy case at) change → LocksOnly (LocksChecked u case at v) change
  validated_locks change only i x there = let by = only i x there in record { by = by; checked = each_checked case refl x.stamp by }

  vouched : (x : Stamp) → CheckedSince z key at cells r.read_set r.lower h.early x v → WasVouched z key at r.read_set x
  vouched x checked = was_vouched z key at cells r.read_set r.lower h.early x v checked

  seen_key : IsSeen z key at r.read_set
  seen_key = (vouched at.stamp (done.checked Here at.stamp refl), done.words Here at.stamp refl)

  above_seen : cells.above ≡ true → (a : CellAbove) → at.above ≡ Some a → WasVouched z key at r.read_set a.stamp × AreKnown (above_of r.read_set) 1 (size_of a.stamp.cell)
  above_seen wide a is = let there = over_stamp at cells a wide is in (vouched a.stamp (done.checked Above a.stamp there), done.words Above a.stamp there)

  -- all that is written was seen: of an insert
  pub seen_new : case ≡ NewLeaf → IsSeenWhole z key at r.read_set
  seen_new is = record {
    vouched = seen_key.0;
    whole = seen_key.1;
    above = λ a there wants. above_seen (ap (λ (c : Case). (cells_of c at.verdict).above) is ∙ wants) a there;
  }

  -- and of a removal
  module _ (leaf : HasLeaf at r) where
    pub seen_here : IsSeen z r.gone.key.items at r.read_set
    seen_here = subst (λ (a : ArrayVec ℕ). IsSeen z a.items at r.read_set) (sym leaf.key) seen_key

    pub seen_both : cells.above ≡ true → AreSeen z r.gone.key.items at r.read_set
    seen_both wide = subst (λ (a : ArrayVec ℕ). AreSeen z a.items at r.read_set) (sym leaf.key) (record { node = seen_key; above = above_seen wide })

    pub gone_standing : IsStanding z r.gone.key.items at r.read_set v
    gone_standing = subst (λ (a : ArrayVec ℕ). IsStanding z a.items at r.read_set v) (sym leaf.key) validated_standing

  -- with the node below
  module _ (l : LowerNode) (is : case ≡ MergeNode l) where
    below_is : cells.lower ≡ Some l
    below_is = ap (λ (c : Case). (cells_of c at.verdict).lower) is

    pub below_seen : IsLowerSeen z l r.lower
    below_seen = lower_seen z key at cells r.read_set r.lower l below_is h.early v knows done

    pub below_still : StillKnown z v l r.lower
    below_still = lower_still z key at cells r.read_set r.lower l below_is h.early v knows done

    pub below_merges : MayNotMerge at r.read_set l r.lower → ⊥
    below_merges = lower_may_merge z key at cells r.read_set r.lower l below_is h.early v knows done (ap (λ (c : Case). (cells_of c at.verdict).above) is)

-- ---- what a leaf that comes needs

module _ (z : Sizes) (v : View) (r : Room) (t : Position) (has : HasHand z v r) (all : HasAll (record { leaf = true; node = (needs_of t.verdict).node; sizes = z }) r.stock) where
  -- it is in hand, with its words
  pub leaf_ready : IsKey r.row.key.items → (l : ℕ) → r.stock.leaf ≡ Some l → IsInHand z v (record r.row { number = l })
  leaf_ready key l at =
      let words = (all.leaf refl).written in
      let packed : IsPacked z v l r.row.key.items r.row.value 10 =
      subst (IsPacked z v l r.row.key.items r.row.value) (ap (λ (b : Bool). words_written (record r.stock { written = b })) words) (has.leaf l at) in
      packed_leaf z v l r.row.key.items r.row.value key.bytes key.short packed

  -- and so is the node that is needed
  pub node_ready : HasNeeded z v t.verdict (number_for r.stock (needs_of t.verdict).node)
  node_ready layout wanted =
      let there = all.node layout wanted in
      let number : number_for r.stock (needs_of t.verdict).node ≡ there.0 = ap (number_for r.stock) wanted ∙ ap (λ (o : Option ℕ). unwrap_or o 0) there.1 in
      subst (λ (i : ℕ). HasNode z v (record { layout = layout; number = i })) (sym number) (has.nodes (record { layout = layout; number = there.0 }) there.1)

-- ---- a smaller node

abbrev layout_in : Loss → Layout
layout_in (loss.Shrinks k) = k
layout_in o = Node4

pub smaller_ready : (z : Sizes) (v : View) (t : Position) (r : Room) (layout : Layout) (made : ℕ) → HasHand z v r → loss_at t r.read_set ≡ loss.Shrinks layout
    → (i : ℕ) × (node_in r.stock layout ≡ Some i) → made ≡ number_for r.stock (Some layout) → HasSmaller z v t r.read_set made
smaller_ready z v t r layout made has shrinks there is k at =
    let same : layout ≡ k = ap layout_in (sym shrinks ∙ at) in
    let number : made ≡ there.0 = is ∙ ap (λ (o : Option ℕ). unwrap_or o 0) there.1 in
    subst (λ (l : Layout). HasNode z v (record { layout = l; number = made })) same
    (subst (λ (i : ℕ). HasNode z v (record { layout = layout; number = i })) (sym number) (has.nodes (record { layout = layout; number = there.0 }) there.1))
