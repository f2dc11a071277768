-- The place of the key is sought, and checked.
use Rattle.std.proofs.Common.{◌≡◌, ℕ, ◌+◌, ◌<◌, ◌≤◌, length, Bool, true, false, List, Option, Some, None, refl, sym, ap, ◌∙◌, subst, arith}
use Rattle.std.specs.Prelude.{IfSome, Ok, Err, ⊤}
use Rattle.std.specs.Option.{option_map, unwrap_or}
use Rattle.std.proofs.lemmas.Option.{same_Some}
use Rattle.art_attempt.proofs.Steps.{cell_fails}
use Rattle.art_attempt.proofs.LastCheck.{check_is, stood_then}
use Rattle.art_attempt.proofs.Tries.{event_since, later_then, rest_told, still_later, still_reads, stock_reads}
use Rattle.art_attempt.specs.Asking.{MayAsk}
use Rattle.art_attempt.specs.Attempts.{EndsBy, EndsSo, EndsWithin, HasSettled, IsFinding, WasPlaced, asks_place, check_as, check_of, deed_by, entered_by, finding_asks, present}
use Rattle.art_attempt.specs.Attempts.{settled_by, settled_of, settles, told_as, value_found}
use Rattle.art_attempt.specs.Cases.{ComesThere}
use Rattle.art_attempt.specs.Trying.{HasSpent, IsCheckOf, IsLater, StoodAtCheck}
use Rattle.art_attempt.specs.declared.attempts.Ending.{Ending}
use Rattle.art_attempt.specs.declared.attempts.Ending.TheVariants.{Present, Overlaps as overlaps}
use Rattle.art_attempt.specs.declared.attempts.Job.{Job}
use Rattle.art_attempt.specs.declared.attempts.Job.TheVariants.{Insert, Remove}
use Rattle.art_attempt.specs.declared.attempts.Case.TheVariants.{NewLeaf}
use Rattle.art_attempt.specs.declared.attempts.Room.{Room}
use Rattle.art_cell.specs.declared.cells.Link.{Link}
use Rattle.art_cell.specs.declared.cells.Link.TheVariants.{Leaf as leaf, Node as node}
use Rattle.art_plan.specs.ChooseInsert.Plans.{Comes}
use Rattle.art_find.proofs.Counting.{few_steps}
use Rattle.art_find.proofs.Stages.{reads_on, tells_free}
use Rattle.art_find.proofs.Allowed.{allowed}
use Rattle.art_find.specs.Asking.{MayLook, WantsWord}
use Rattle.art_find.specs.Descents.{IsReading, StageFits, Stays, answer_at, asks, decided_at, ended_at, most_steps, stage_begun, stage_below, stage_checked, stands_on}
use Rattle.art_find.specs.Verdicts.{Says, value_of}
use Rattle.art_find.specs.declared.descents.Descent.{Descent}
use Rattle.art_find.specs.declared.descents.Stage.{Stage}
use Rattle.art_find.specs.declared.descents.Stage.TheVariants.{Start, Anchor, Child, Below, Both, Header, Prefix, Keys, Slot, Value, Length, Bytes, Decided, Ended}
use Rattle.art_find.specs.declared.descents.Verdict.{Verdict}
use Rattle.art_find.specs.declared.descents.Verdict.TheVariants.{Found, Empty, LeafMismatch, PrefixMismatch, NoChild, Overlaps, Torn}
use Rattle.art_epoch.proofs.Stocked.{stock_same}
use Rattle.art_step.proofs.AnswerKinds.{answers_plain, finds_word}
use Rattle.art_step.specs.Acting.{Answers, IsLook, IsPlain, goes_on, passed, telling}
use Rattle.art_step.specs.declared.actions.Action.{Action}
use Rattle.art_step.specs.declared.actions.Action.TheVariants.{Begin, Read, ReadLeaf, Check, Settle, Upgrade, Claim, Write, WriteLeaf, Commit, Release}
use Rattle.art_step.specs.declared.actions.Action.TheVariants.{ClearBit, GiveBack, ReadEpoch, StorePin, RaiseEpoch, ReadPin}
use Rattle.art_step.specs.declared.actions.Action.TheVariants as action
use Rattle.art_step.specs.declared.actions.Answer.{Answer}
use Rattle.art_step.specs.declared.actions.Answer.TheVariants.{Begun, Word, Checked, Upgraded, Done}
use Rattle.art_plan.proofs.Told.{map_some}
use Rattle.art_find.proofs.FoundPlaces.{standing_grows}
use Rattle.art_find.proofs.Keeping.{passed_grows}
use Rattle.art_find.specs.Findings.{FindingFits, IsPlaced, IsStanding, PlaceFits, position_at, position_of}
use Rattle.art_find.specs.declared.read_sets.ReadSet.{ReadSet}
use Rattle.art_find.specs.declared.findings.Finding.{Finding}
use Rattle.art_find.specs.declared.findings.Position.{Position}
use Rattle.art_step.proofs.Shows.{failed_rest, insert_settles, passed_rest, remove_settles, told_rest}
use Rattle.art_step.specs.Shows.{HasValue, OnlyReads, Rest, Shows}
use Rattle.art_step.specs.Steps.Check as check
use Rattle.art_step.specs.WordPlaces.{HasVersion}
use Rattle.art_step.specs.declared.deeds.Deed.{Deed}
use Rattle.art_step.specs.declared.views.Sizes.{Sizes}
use Rattle.art_step.specs.declared.views.Stamp.{Stamp}
use Rattle.art_step.specs.declared.views.View.{View}
use Rattle.art_tree.specs.Heaps.{Cells}

-- ---- what is asked

pub no_place : (j : Job) (m : Finding) (o : Option Action) (a : Action) → position_at m ≡ None → asks_place j (position_at m) o ≡ Some a → o ≡ Some a
no_place j m o a nowhere is = sym (ap (λ (t : Option Position). asks_place j t o) nowhere) ∙ is

pub at_place : (j : Job) (m : Finding) (o : Option Action) (a : Action) (t : Position) → position_at m ≡ Some t → asks_place j (position_at m) o ≡ Some a → check_of j t ≡ a
at_place j m o a t at is = same_Some {A = Action} (check_of j t) a (sym (ap (λ (s : Option Position). asks_place j s o) at) ∙ is)

map_none : {A B : Type 0} (f : A → B) (o : Option A) → option_map f o ≡ None → o ≡ None
map_none f (Some x) is = cc
map_none f None is = refl

pub undecided : (m : Finding) → position_at m ≡ None → decided_at m.descent.stage ≡ None
undecided m is = map_none (position_of m) (decided_at m.descent.stage) is

-- only where a place is settled does an answer speak of a deed
pub place_plain : (s : Stage) → decided_at s ≡ None → (a : Action) → asks s ≡ Some a → IsPlain a
place_plain Start none a is = subst IsPlain (same_Some {A = Action} _ a is) tt
place_plain (Anchor x) none a is = subst IsPlain (same_Some {A = Action} _ a is) tt
place_plain (Child x d) none a is = subst IsPlain (same_Some {A = Action} _ a is) tt
place_plain (Below x n) none a is = subst IsPlain (same_Some {A = Action} _ a is) tt
place_plain (Both x y n) none a is = subst IsPlain (same_Some {A = Action} _ a is) tt
place_plain (Header y n) none a is = subst IsPlain (same_Some {A = Action} _ a is) tt
place_plain (Prefix seen i r) none a is = subst IsPlain (same_Some {A = Action} _ a is) tt
place_plain (Keys seen i) none a is = subst IsPlain (same_Some {A = Action} _ a is) tt
place_plain (Slot seen place) none a is = subst IsPlain (same_Some {A = Action} _ a is) tt
place_plain (Value x l) none a is = subst IsPlain (same_Some {A = Action} _ a is) tt
place_plain (Length x l value) none a is = subst IsPlain (same_Some {A = Action} _ a is) tt
place_plain (Bytes seen i r) none a is = subst IsPlain (same_Some {A = Action} _ a is) tt
place_plain (Decided x found) none a is = cc
place_plain (Ended o) none a is = cc

pub any_deed : (z : Sizes) (d e : Deed) (s : Stage) (a : Action) (r : Answer) (v w : View) → decided_at s ≡ None → asks s ≡ Some a → Answers z (telling d) a r v w → Answers z (telling e) a r v w
any_deed z d e s a r v w none is row = answers_plain z (telling d) (telling e) a r v w (place_plain s none a is) row

-- ---- the descent goes on

pub zero_going : (depth : ℕ) (s : Stage) → most_steps depth s ≡ 0 → ended_at s ≡ None
zero_going depth Start is = refl
zero_going depth (Anchor x) is = refl
zero_going depth (Child x d) is = refl
zero_going depth (Below x n) is = refl
zero_going depth (Both x y n) is = refl
zero_going depth (Header y n) is = refl
zero_going depth (Prefix seen i r) is = refl
zero_going depth (Keys seen i) is = refl
zero_going depth (Slot seen place) is = refl
zero_going depth (Value x l) is = refl
zero_going depth (Length x l value) is = refl
zero_going depth (Bytes seen i r) is = refl
zero_going depth (Decided x found) is = refl
zero_going depth (Ended o) is = absurd (omega (arith, is))

begun_going : (y : Stamp) (s : Stage) → ended_at s ≡ None → ended_at (stage_begun y s) ≡ None
begun_going y Start is = refl
begun_going y (Anchor x) is = refl
begun_going y (Child x d) is = refl
begun_going y (Below x n) is = refl
begun_going y (Both x z n) is = refl
begun_going y (Header x n) is = refl
begun_going y (Prefix seen i r) is = refl
begun_going y (Keys seen i) is = refl
begun_going y (Slot seen place) is = refl
begun_going y (Value x l) is = refl
begun_going y (Length x l value) is = refl
begun_going y (Bytes seen i r) is = refl
begun_going y (Decided x found) is = refl
begun_going y (Ended o) is = is

below_going : (x : Stamp) (d : Link) → ended_at (stage_below x d) ≡ None
below_going x (leaf l) = refl
below_going x (node n) = refl

checked_going : (s : Stage) → decided_at s ≡ None → ended_at s ≡ None → ended_at (stage_checked s) ≡ None
checked_going Start none is = refl
checked_going (Anchor x) none is = refl
checked_going (Child x d) none is = below_going x d
checked_going (Below x n) none is = refl
checked_going (Both x y n) none is = refl
checked_going (Header x n) none is = refl
checked_going (Prefix seen i r) none is = refl
checked_going (Keys seen i) none is = refl
checked_going (Slot seen place) none is = refl
checked_going (Value x l) none is = refl
checked_going (Length x l value) none is = refl
checked_going (Bytes seen i r) none is = refl
checked_going (Decided x found) none is = cc
checked_going (Ended o) none is = is

stands_some : (s : Stage) → WantsWord (asks s) → (x : Stamp) × (stands_on s ≡ Some x)
stands_some Start demand = absurd demand
stands_some (Anchor x) demand = (x, refl)
stands_some (Child x d) demand = (x, refl)
stands_some (Below x n) demand = (x, refl)
stands_some (Both x y n) demand = (x, refl)
stands_some (Header x n) demand = (x, refl)
stands_some (Prefix seen i r) demand = (seen.stamp, refl)
stands_some (Keys seen i) demand = (seen.stamp, refl)
stands_some (Slot seen place) demand = (seen.stamp, refl)
stands_some (Value x l) demand = (x, refl)
stands_some (Length x l value) demand = (x, refl)
stands_some (Bytes seen i r) demand = (seen.stamp, refl)
stands_some (Decided x found) demand = (x, refl)
stands_some (Ended o) demand = absurd demand

standing_going : (s : Stage) (x : Stamp) → stands_on s ≡ Some x → ended_at s ≡ None
standing_going Start x is = refl
standing_going (Anchor y) x is = refl
standing_going (Child y d) x is = refl
standing_going (Below y n) x is = refl
standing_going (Both y z n) x is = refl
standing_going (Header y n) x is = refl
standing_going (Prefix seen i r) x is = refl
standing_going (Keys seen i) x is = refl
standing_going (Slot seen place) x is = refl
standing_going (Value y l) x is = refl
standing_going (Length y l value) x is = refl
standing_going (Bytes seen i r) x is = refl
standing_going (Decided y found) x is = refl
standing_going (Ended o) x is = cc

-- a descent that has not decided does not end at its next answer
pub still_going : (z : Sizes) (d : Deed) (a : Action) (r : Answer) (v w : View) (m m' : Descent) → Stays r m m' → asks m.stage ≡ Some a → Answers z (telling d) a r v w
    → decided_at m.stage ≡ None → ended_at m.stage ≡ None → goes_on r ≡ true → ended_at m'.stage ≡ None
still_going z d a (Begun (Ok x)) v w m m' stays is row none going on = ap (λ (n : Descent). ended_at n.stage) stays ∙ begun_going x m.stage going
still_going z d a (Begun (Err e)) v w m m' stays is row none going on = cc
still_going z d a (Word word) v w m m' stays is row none going on =
    let some = stands_some m.stage (subst WantsWord (sym is) (finds_word z (telling d) a word v w row)) in
    standing_going m'.stage some.0 (stays ∙ some.1)
still_going z d a (Checked (Ok x)) v w m m' stays is row none going on = ap (λ (n : Descent). ended_at n.stage) stays ∙ checked_going m.stage none going
still_going z d a (Checked (Err e)) v w m m' stays is row none going on = cc
still_going z d a (Upgraded s) v w m m' stays is row none going on = absurd stays
still_going z d a Done v w m m' stays is row none going on = absurd stays

-- ---- the place is known

decided_stage : (s : Stage) (p : Stamp × Verdict) → decided_at s ≡ Some p → s ≡ Decided p.0 p.1
decided_stage (Decided x found) p is = let same = same_Some {A = Stamp × Verdict} (x, found) p is in ap (λ (q : Stamp × Verdict). Decided q.0 q.1) same
decided_stage Start p is = cc
decided_stage (Anchor x) p is = cc
decided_stage (Child x d) p is = cc
decided_stage (Below x n) p is = cc
decided_stage (Both x y n) p is = cc
decided_stage (Header x n) p is = cc
decided_stage (Prefix seen i r) p is = cc
decided_stage (Keys seen i) p is = cc
decided_stage (Slot seen place) p is = cc
decided_stage (Value x l) p is = cc
decided_stage (Length x l value) p is = cc
decided_stage (Bytes seen i r) p is = cc
decided_stage (Ended o) p is = cc

pub record StandsThere (z : Sizes) (k : List ℕ) (m : Finding) (read_set : ReadSet) (early v : View) (t : Position) : Type 0 where
  pub reads : IsReading early v
  pub standing : IsStanding z k t read_set v
  pub settles : asks m.descent.stage ≡ Some (Settle t.stamp)
  pub answers : answer_at m.descent.stage ≡ value_of t.verdict

module _ (z : Sizes) (k : List ℕ) (what : Option ℕ → Deed) (m : Finding) (read_set : ReadSet) (early v : View) (fits : FindingFits z k what m read_set early v) where
  pub stands_there : (t : Position) → position_at m ≡ Some t → StandsThere z k m read_set early v t
  stands_there t is =
      let p = map_some (position_of m) (decided_at m.descent.stage) t is in
      let at = decided_stage m.descent.stage p.0 p.1 in
      let f : StageFits z k what m.descent.depth (Decided p.0.0 p.0.1) early v = subst (λ (s : Stage). StageFits z k what m.descent.depth s early v) at fits.descent in
      let place : IsPlaced z k m.above read_set v p.0.0 = subst (λ (s : Stage). PlaceFits z k m.above read_set v (stands_on s)) at fits.place in
      let standing : IsStanding z k (position_of m p.0) read_set v = record { stamp = f.2; deep = f.1; says = f.3; place = place } in
      record {
        reads = f.0;
        standing = subst (λ (s : Position). IsStanding z k s read_set v) p.2 standing;
        settles = ap asks at ∙ ap (λ (s : Position). Some (Settle s.stamp)) p.2;
        answers = ap answer_at at ∙ ap (λ (s : Position). value_of s.verdict) p.2;
      }

-- ---- the place is checked

-- the check of a place is a look
pub check_look : (b : Bool) (x : Stamp) → IsLook (check_as b x)
check_look true x = tt
check_look false x = tt

settle_passed : (z : Sizes) (d : Deed) (x : Stamp) (r : Answer) (v w : View) → Answers z (telling d) (Settle x) r v w → passed r ≡ true → check.Unchanged z v w x (Some d)
settle_passed z d x (Begun r) v w row is = absurd row
settle_passed z d x (Word y) v w row is = absurd row
settle_passed z d x (Upgraded s) v w row is = absurd row
settle_passed z d x Done v w row is = absurd row
settle_passed z d x (Checked (Ok done)) v w row is = row
settle_passed z d x (Checked (Err e)) v w row is = cc

check_passed : (z : Sizes) (d : Deed) (x : Stamp) (r : Answer) (v w : View) → Answers z (telling d) (Check x) r v w → passed r ≡ true → check.Unchanged z v w x None
check_passed z d x (Begun r) v w row is = absurd row
check_passed z d x (Word y) v w row is = absurd row
check_passed z d x (Upgraded s) v w row is = absurd row
check_passed z d x Done v w row is = absurd row
check_passed z d x (Checked (Ok done)) v w row is = row
check_passed z d x (Checked (Err e)) v w row is = cc

pub place_passed : (z : Sizes) (d : Deed) (b : Bool) (x : Stamp) (r : Answer) (v w : View) → Answers z (telling d) (check_as b x) r v w → passed r ≡ true → check.Unchanged z v w x (told_as b d)
place_passed z d true x r v w row is = settle_passed z d x r v w row is
place_passed z d false x r v w row is = check_passed z d x r v w row is

settle_failed : (z : Sizes) (d : Deed) (x : Stamp) (r : Answer) (v w : View) → Answers z (telling d) (Settle x) r v w → passed r ≡ false → OnlyReads v w
settle_failed z d x (Begun r) v w row is = absurd row
settle_failed z d x (Word y) v w row is = absurd row
settle_failed z d x (Upgraded s) v w row is = absurd row
settle_failed z d x Done v w row is = absurd row
settle_failed z d x (Checked (Ok done)) v w row is = cc
settle_failed z d x (Checked (Err e)) v w row is = failed_rest v w x e.found row.3

check_failed : (z : Sizes) (d : Deed) (x : Stamp) (r : Answer) (v w : View) → Answers z (telling d) (Check x) r v w → passed r ≡ false → OnlyReads v w
check_failed z d x (Begun r) v w row is = absurd row
check_failed z d x (Word y) v w row is = absurd row
check_failed z d x (Upgraded s) v w row is = absurd row
check_failed z d x Done v w row is = absurd row
check_failed z d x (Checked (Ok done)) v w row is = cc
check_failed z d x (Checked (Err e)) v w row is = failed_rest v w x e.found row.3

place_failed : (z : Sizes) (d : Deed) (b : Bool) (x : Stamp) (r : Answer) (v w : View) → Answers z (telling d) (check_as b x) r v w → passed r ≡ false → OnlyReads v w
place_failed z d true x r v w row is = settle_failed z d x r v w row is
place_failed z d false x r v w row is = check_failed z d x r v w row is

-- so it does not go on
settle_off : (z : Sizes) (d : Deed) (x : Stamp) (r : Answer) (v w : View) → Answers z (telling d) (Settle x) r v w → passed r ≡ false → goes_on r ≡ false
settle_off z d x (Begun r) v w row is = absurd row
settle_off z d x (Word y) v w row is = absurd row
settle_off z d x (Upgraded s) v w row is = absurd row
settle_off z d x Done v w row is = absurd row
settle_off z d x (Checked (Ok done)) v w row is = cc
settle_off z d x (Checked (Err e)) v w row is = refl

check_off : (z : Sizes) (d : Deed) (x : Stamp) (r : Answer) (v w : View) → Answers z (telling d) (Check x) r v w → passed r ≡ false → goes_on r ≡ false
check_off z d x (Begun r) v w row is = absurd row
check_off z d x (Word y) v w row is = absurd row
check_off z d x (Upgraded s) v w row is = absurd row
check_off z d x Done v w row is = absurd row
check_off z d x (Checked (Ok done)) v w row is = cc
check_off z d x (Checked (Err e)) v w row is = refl

pub place_off : (z : Sizes) (d : Deed) (b : Bool) (x : Stamp) (r : Answer) (v w : View) → Answers z (telling d) (check_as b x) r v w → passed r ≡ false → goes_on r ≡ false
place_off z d true x r v w row is = settle_off z d x r v w row is
place_off z d false x r v w row is = check_off z d x r v w row is

-- a leaf may come there, or it is known how the attempt ends
pub place_comes : (z : Sizes) (k : List ℕ) (depth : ℕ) (x : Stamp) (o : Option Deed) (found : Verdict) (v w : View) → entered_by found ≡ None → Says z k depth x found v
    → check.Unchanged z v w x o → Comes found
place_comes z k depth x o (Found l value) v w none says p = cc
place_comes z k depth x o Empty v w none says p = tt
place_comes z k depth x o (LeafMismatch l at byte) v w none says p = tt
place_comes z k depth x o (PrefixMismatch n header at) v w none says p = tt
place_comes z k depth x o (NoChild n header) v w none says p = tt
place_comes z k depth x o Overlaps v w none says p = cc
place_comes z k depth x o Torn v w none says p = absurd (says p.vouched.0 p.vouched.1 p.vouched.2)

-- ---- few steps

pub within_more : (z : Sizes) (u : View) (n more : ℕ) (r : Room) (v : View) → n ≤ more → EndsWithin z u n r v → EndsWithin z u more r v
within_more z u n more r v fewer so = record {
  still = so.still;
  spent = λ limited. (let spent = so.spent limited in omega (arith, spent, fewer));
  has = so.has;
}

pub within_so : (z : Sizes) (u : View) (n : ℕ) (r : Room) (v : View) → n ≤ 23100 → EndsWithin z u n r v → EndsSo z u r v
within_so z u n r v fewer so = within_more z u n 23100 r v fewer so

-- until a place is settled few steps were made
finding_few : (z : Sizes) (u : View) (j : Job) (m : Finding) (r : Room) (v : View) → length r.row.key.items ≤ 64 → IsFinding z u j m r v → HasSpent z u 1200 v
finding_few z u j m r v short f limited =
    let few = few_steps z r.row.key.items (settled_of j r.row) m.descent.depth m.descent.stage f.early v short f.going f.fits.descent in
    let spent = f.spent limited in
    omega (arith, few, spent)

module _ (z : Sizes) (u : View) (j : Job) (m : Finding) (r : Room) (v w : View) (short : length r.row.key.items ≤ 64) (f : IsFinding z u j m r v) (later : IsLater v w) (one : w.steps ≤ v.steps + 1) where
  past : IsLater f.early w
  past = later_then f.early v w f.later later

  finding_spent : HasSpent z u 1201 w
  finding_spent limited =
      let spent = finding_few z u j m r v short f limited in
      let more = later.failures in
      omega (arith, spent, one, more)

  -- the attempt ends, and nothing was told
  pub ends_reading : OnlyReads f.early w → EndsWithin z u 1201 r w
  ends_reading only = record {
    still = still_reads u f.early f.base w past only;
    spent = finding_spent;
    has = stock_reads z r.row.key.items r.row.value f.early w r.stock only f.has;
  }

  module _ (t : Position) (s : StandsThere z r.row.key.items m r.read_set f.early v t) where
    only_then : OnlyReads v w → OnlyReads f.early w
    only_then only = (reads_on f.early v w only s.reads).only

    pub fails_there : (d : Deed) (b : Bool) (a : Answer) → Answers z (telling d) (check_as b t.stamp) a v w → passed a ≡ false → EndsSo z u r w × (u.failures < w.failures)
    fails_there d b a row off =
        let more = cell_fails z d (check_as b t.stamp) a v w (check_look b t.stamp) row (place_off z d b t.stamp a v w row off) in
        let before = (still_later u f.early f.base v f.later).failures in
        (within_so z u 1201 r w (omega arith) (ends_reading (only_then (place_failed z d b t.stamp a v w row off))), omega (arith, more, before))

    -- the check succeeded
    module _ (o : Option Deed) (p : check.Unchanged z v w t.stamp o) where
      pub checked_still : IsCheckOf t.stamp w
      checked_still = check_is z v w t.stamp o p

      pub stands_still : IsStanding z r.row.key.items t r.read_set w
      stands_still = standing_grows z r.row.key.items t r.read_set v w (passed_grows z v w t.stamp o p) s.standing

      pub stood_still : StoodAtCheck z u r.row.key.items t r.read_set w
      stood_still = stood_then z v w t.stamp o p u r.row.key.items t r.read_set (still_later u f.early f.base v f.later).steps stands_still

      -- and told nothing
      pub told_nothing : o ≡ None → EndsWithin z u 1201 r w
      told_nothing none = ends_reading (only_then (passed_rest z v w t.stamp (subst (check.Unchanged z v w t.stamp) none p)))

      -- or this
      pub told_deed : (d : Deed) → o ≡ Some d → HasSettled z u r d w
      told_deed d some =
          let k = told_rest z f.early v w t.stamp d s.reads.only (subst (check.Unchanged z v w t.stamp) some p) in
          record {
            event = event_since u f.early f.base w d k.0;
            rest = rest_told u f.early f.base w k.1;
            free = tells_free f.early w k.1 f.base.free;
            later = still_later u f.early f.base w past;
            has = stock_same z r.row.key.items r.row.value f.early w r.stock (ap (λ (o : Rest). o.hand) k.1) f.has;
          }

-- the deed that the check of a place may tell
pub deed_there : (j : Job) (m : Finding) (r : Room) (t : Position) → position_at m ≡ Some t → deed_by j m r ≡ settled_by j r.row (unwrap_or (value_of t.verdict) 0)
deed_there j m r t is = ap (λ (o : Option Position). settled_by j r.row (value_found o)) is

-- a check that was made of the place that was found
module _ (z : Sizes) (u : View) (j : Job) (t : Position) (r : Room) (v w : View) (short : length r.row.key.items ≤ 64) (p : WasPlaced z u j t r v w) where
  there : StandsThere z r.row.key.items p.by r.read_set p.finding.early v t
  there = stands_there z r.row.key.items (settled_of j r.row) p.by r.read_set p.finding.early v p.finding.fits t p.there

  abbrev told : Option Deed
  told = told_as (settles j t.verdict) (deed_by j p.by r)

  pub placed_within : settles j t.verdict ≡ false → EndsWithin z u 1201 r w
  placed_within none = told_nothing z u j p.by r v w short p.finding p.later p.step t there told p.checked (ap (λ (b : Bool). told_as b (deed_by j p.by r)) none)

  pub placed_tells : (d : Deed) → settles j t.verdict ≡ true → deed_by j p.by r ≡ d → HasSettled z u r d w
  placed_tells d some is = told_deed z u j p.by r v w short p.finding p.later p.step t there told p.checked d (ap (λ (b : Bool). told_as b (deed_by j p.by r)) some ∙ ap (λ (e : Deed). Some e) is)

  pub placed_standing : IsStanding z r.row.key.items t r.read_set w
  placed_standing = stands_still z u j p.by r v w short p.finding p.later p.step t there told p.checked

  pub placed_stood : StoodAtCheck z u r.row.key.items t r.read_set w
  placed_stood = stood_still z u j p.by r v w short p.finding p.later p.step t there told p.checked

  pub placed_checked : IsCheckOf t.stamp w
  placed_checked = checked_still z u j p.by r v w short p.finding p.later p.step t there told p.checked

  -- a leaf may come
  pub placed_comes : entered_by t.verdict ≡ None → ComesThere z u t r w
  placed_comes none = record {
    stood = placed_stood;
    checked = placed_checked;
    comes = place_comes z r.row.key.items t.depth t.stamp told t.verdict v w none there.standing.says p.checked;
  }

  -- how an insert ends at a place where no leaf may come
  pub placed_ends : j ≡ Insert → (found : Verdict) → t.verdict ≡ found → (e : Ending) → entered_by found ≡ Some e → EndsBy z u j t NewLeaf r e w
  placed_ends job (Found l value) is e at =
      let so : settles j t.verdict ≡ true = ap (λ (i : Job). settles i t.verdict) job ∙ ap (settles Insert) is in
      let deed : deed_by j p.by r ≡ present r.row value =
      deed_there j p.by r t p.there ∙ (ap (λ (i : Job). settled_by i r.row (unwrap_or (value_of t.verdict) 0)) job ∙ ap (λ (f : Verdict). present r.row (unwrap_or (value_of f) 0)) is) in
      subst (λ (b : Ending). EndsBy z u j t NewLeaf r b w) (same_Some {A = Ending} (Present value) e at) (job, placed_tells (present r.row value) so deed)
  placed_ends job Overlaps is e at =
      let so : settles j t.verdict ≡ false = ap (λ (i : Job). settles i t.verdict) job ∙ ap (settles Insert) is in
      subst (λ (b : Ending). EndsBy z u j t NewLeaf r b w) (same_Some {A = Ending} overlaps e at)
      (job, within_so z u 1201 r w (omega arith) (placed_within so), record { stood = placed_stood; checked = placed_checked; overlaps = is })
  placed_ends job Empty is e at = cc
  placed_ends job (LeafMismatch l i byte) is e at = cc
  placed_ends job (PrefixMismatch b header i) is e at = cc
  placed_ends job (NoChild b header) is e at = cc
  placed_ends job Torn is e at = cc

-- where no leaf may come but for an overlap, the check settles the answer of an insert; nothing else does
pub insert_settles_not : (found : Verdict) → entered_by found ≡ None → settles Insert found ≡ false
insert_settles_not (Found l value) none = cc
insert_settles_not Empty none = refl
insert_settles_not (LeafMismatch l i byte) none = refl
insert_settles_not (PrefixMismatch b header i) none = refl
insert_settles_not (NoChild b header) none = refl
insert_settles_not Overlaps none = cc
insert_settles_not Torn none = refl

pub remove_settles_other : (found : Verdict) → ((l value : ℕ) → found ≡ Found l value → ⊥) → settles Remove found ≡ true
remove_settles_other (Found l value) other = absurd (other l value refl)
remove_settles_other Empty other = refl
remove_settles_other (LeafMismatch l i byte) other = refl
remove_settles_other (PrefixMismatch b header i) other = refl
remove_settles_other (NoChild b header) other = refl
remove_settles_other Overlaps other = refl
remove_settles_other Torn other = refl

-- ---- each step may be made

pub not_settling : (z : Sizes) (d : Deed) (so : Cells → Type 0) (v : View) (a : Action) → IsPlain a → MayLook z so v a → MayAsk z d v a
not_settling z d so v (Begin c) none may = may
not_settling z d so v (Read x i) none may = may
not_settling z d so v (ReadLeaf x l i) none may = may
not_settling z d so v (Check x) none may = may
not_settling z d so v (Settle x) none may = absurd none
not_settling z d so v (Upgrade x) none may = absurd may
not_settling z d so v (Claim n) none may = absurd may
not_settling z d so v (Write b i word) none may = absurd may
not_settling z d so v (WriteLeaf l i word) none may = absurd may
not_settling z d so v (Commit b o) none may = absurd may
not_settling z d so v (Release b o) none may = absurd may
not_settling z d so v (ClearBit p i o) none may = absurd may
not_settling z d so v (GiveBack e) none may = absurd may
not_settling z d so v (action.Free e) none may = absurd may
not_settling z d so v ReadEpoch none may = absurd may
not_settling z d so v (StorePin word) none may = absurd may
not_settling z d so v RaiseEpoch none may = absurd may
not_settling z d so v (ReadPin q) none may = absurd may

module _ (z : Sizes) (u : View) (j : Job) (m : Finding) (r : Room) (v : View) (f : IsFinding z u j m r v) where
  abbrev k : List ℕ
  k = r.row.key.items

  abbrev so : Cells → Type 0
  so s = HasValue s k (answer_at m.descent.stage)

  descent_allowed : (a : Action) → asks m.descent.stage ≡ Some a → MayLook z so v a
  descent_allowed a is = subst (λ (o : Option Action). IfSome o (MayLook z so v)) is (allowed z k (settled_of j r.row) m.descent.depth m.descent.stage f.early v f.fits.descent)

  module _ (t : Position) (s : StandsThere z k m r.read_set f.early v t) where
    plain : HasVersion z t.stamp.cell × check.May z v t.stamp None
    plain = (s.standing.stamp.inside, record { stamp = s.standing.stamp.stamp; tells = tt })

    shown : (o : Option ℕ) → value_of t.verdict ≡ o → Shows z v t.stamp (λ c. HasValue c k o)
    shown o at = subst (λ (o : Option ℕ). Shows z v t.stamp (λ c. HasValue c k o)) (s.answers ∙ at) (descent_allowed (Settle t.stamp) s.settles).1.shows

    settling : (i : Job) (found : Verdict) → t.verdict ≡ found → settles i found ≡ true → check.May z v t.stamp (Some (settled_by i r.row (unwrap_or (value_of found) 0)))
    settling Insert (Found l value) at is = record { stamp = s.standing.stamp.stamp; tells = insert_settles z v t.stamp k r.row.value value (shown (Some value) (ap value_of at)) }
    settling Insert Empty at is = cc
    settling Insert (LeafMismatch l i byte) at is = cc
    settling Insert (PrefixMismatch n header i) at is = cc
    settling Insert (NoChild n header) at is = cc
    settling Insert Overlaps at is = cc
    settling Insert Torn at is = cc
    settling Remove (Found l value) at is = cc
    settling Remove Empty at is = record { stamp = s.standing.stamp.stamp; tells = remove_settles z v t.stamp k (shown None (ap value_of at)) }
    settling Remove (LeafMismatch l i byte) at is = record { stamp = s.standing.stamp.stamp; tells = remove_settles z v t.stamp k (shown None (ap value_of at)) }
    settling Remove (PrefixMismatch n header i) at is = record { stamp = s.standing.stamp.stamp; tells = remove_settles z v t.stamp k (shown None (ap value_of at)) }
    settling Remove (NoChild n header) at is = record { stamp = s.standing.stamp.stamp; tells = remove_settles z v t.stamp k (shown None (ap value_of at)) }
    settling Remove Overlaps at is = record { stamp = s.standing.stamp.stamp; tells = remove_settles z v t.stamp k (shown None (ap value_of at)) }
    settling Remove Torn at is = record { stamp = s.standing.stamp.stamp; tells = remove_settles z v t.stamp k (shown None (ap value_of at)) }

    check_allowed : (b : Bool) → settles j t.verdict ≡ b → MayAsk z (settled_by j r.row (unwrap_or (value_of t.verdict) 0)) v (check_as b t.stamp)
    check_allowed true is = (s.standing.stamp.inside, settling j t.verdict refl is)
    check_allowed false is = plain

  place_allowed : (o : Option Position) (a : Action) → position_at m ≡ o → asks_place j o (asks m.descent.stage) ≡ Some a → MayAsk z (deed_by j m r) v a
  place_allowed (Some t) a at is =
      let s = stands_there z k (settled_of j r.row) m r.read_set f.early v f.fits t at in
      let may : MayAsk z (deed_by j m r) v (check_of j t) = subst (λ (d : Deed). MayAsk z d v (check_of j t)) (sym (deed_there j m r t at)) (check_allowed t s (settles j t.verdict) refl) in
      subst (MayAsk z (deed_by j m r) v) (same_Some {A = Action} (check_of j t) a is) may
  place_allowed None a at is =
      not_settling z (deed_by j m r) so v a (place_plain m.descent.stage (undecided m at) a is) (descent_allowed a is)

  pub finding_allowed : (a : Action) → finding_asks j m ≡ Some a → MayAsk z (deed_by j m r) v a
  finding_allowed a is = place_allowed (position_at m) a refl is

-- what may be asked of a place may be asked of a look, where it tells nothing of a row
pub may_look : (z : Sizes) (d : Deed) (v : View) (a : Action) → MayAsk z d v a → MayLook z (λ s. ⊤) v a
may_look z d v (Begin c) may = may
may_look z d v (Read x i) may = may
may_look z d v (ReadLeaf x l i) may = may
may_look z d v (Check x) may = may
may_look z d v (Settle x) may = (may.0, record { stamp = may.1.stamp; shows = λ s shape holds. tt })
may_look z d v (Upgrade x) may = absurd may
may_look z d v (Claim n) may = absurd may
may_look z d v (Write b i word) may = absurd may
may_look z d v (WriteLeaf l i word) may = absurd may
may_look z d v (Commit b o) may = absurd may
may_look z d v (Release b o) may = absurd may
may_look z d v (ClearBit p i o) may = absurd may
may_look z d v (GiveBack e) may = absurd may
may_look z d v (action.Free e) may = absurd may
may_look z d v ReadEpoch may = absurd may
may_look z d v (StorePin word) may = absurd may
may_look z d v RaiseEpoch may = absurd may
may_look z d v (ReadPin q) may = absurd may

-- where the place is known, its check is asked for
pub asks_check : (j : Job) (m : Finding) (t : Position) → position_at m ≡ Some t → finding_asks j m ≡ Some (check_of j t)
asks_check j m t is = ap (λ (o : Option Position). asks_place j o (asks m.descent.stage)) is

-- ---- while it goes on a step is asked for

pub stage_asks : (s : Stage) → ended_at s ≡ None → (a : Action) × (asks s ≡ Some a)
stage_asks Start going = (_, refl)
stage_asks (Anchor x) going = (_, refl)
stage_asks (Child x d) going = (_, refl)
stage_asks (Below x n) going = (_, refl)
stage_asks (Both x y n) going = (_, refl)
stage_asks (Header y n) going = (_, refl)
stage_asks (Prefix seen i r) going = (_, refl)
stage_asks (Keys seen i) going = (_, refl)
stage_asks (Slot seen place) going = (_, refl)
stage_asks (Value x l) going = (_, refl)
stage_asks (Length x l value) going = (_, refl)
stage_asks (Bytes seen i r) going = (_, refl)
stage_asks (Decided x found) going = (_, refl)
stage_asks (Ended o) going = absurd (cc)

place_asks : (j : Job) (o : Option Position) (s : Stage) → ended_at s ≡ None → (a : Action) × (asks_place j o (asks s) ≡ Some a)
place_asks j (Some t) s going = (check_of j t, refl)
place_asks j None s going = stage_asks s going

pub finding_going : (j : Job) (m : Finding) → ended_at m.descent.stage ≡ None → (a : Action) × (finding_asks j m ≡ Some a)
finding_going j m going = place_asks j (position_at m) m.descent.stage going
