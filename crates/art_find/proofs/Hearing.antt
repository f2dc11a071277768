-- A finding that made a step and heard it has looked on.
use Rattle.std.proofs.Common.{◌≡◌, ◌≢◌, ◌<◌, ℕ, Bool, true, false, List, Option, Some, None, refl, sym, ap, ◌∙◌, subst, arith}
use Rattle.std.proofs.lemmas.Option.{same_Some}
use Rattle.std.specs.Prelude.{IfSome, Ok, Err, ⊤}
use Rattle.art_cell.specs.declared.cells.Cell.{Cell}
use Rattle.art_cell.specs.declared.cells.Link.{Link}
use Rattle.art_cell.specs.declared.cells.Link.TheVariants.{Leaf as leaf, Node as node}
use Rattle.art_find.proofs.Allowed.{allowed}
use Rattle.art_find.specs.Asking.{MayLook, WantsCheck, WantsVersion, WantsWord}
use Rattle.art_step.specs.Acting.{Answers, goes_on, telling}
use Rattle.art_find.proofs.Stages.{reads_on, still_reading, wants_check, wants_version, wants_word}
use Rattle.art_find.specs.Descents.{Fits, IsReading, Stays, answer_at, asks, ended_at, most_steps, stage_begun, stage_below, stage_checked, stands_on}
use Rattle.art_step.specs.declared.actions.Answer.{Answer}
use Rattle.art_step.specs.declared.actions.Answer.TheVariants.{Begun, Word, Checked, Upgraded, Done}
use Rattle.art_step.specs.declared.actions.Action.{Action}
use Rattle.art_step.specs.declared.actions.Action.TheVariants.{Begin, ReadLeaf, Check, Settle}
use Rattle.art_find.specs.declared.descents.Descent.{Descent}
use Rattle.art_find.specs.declared.descents.Stage.{Stage}
use Rattle.art_find.specs.declared.descents.Stage.TheVariants.{Start, Anchor, Child, Below, Both, Header, Prefix, Keys, Slot, Value, Length, Bytes, Decided, Ended}
use Rattle.art_find.proofs.Looks.{looked}
use Rattle.art_find.proofs.Placing.{told_fits}
use Rattle.art_find.specs.Findings.{FindingFits, HasHeard, IsHeard, Keeps, LookedOn, PlaceFits}
use Rattle.art_find.specs.declared.read_sets.ReadSet.{ReadSet}
use Rattle.art_find.specs.declared.findings.Finding.{Finding}
use Rattle.art_step.proofs.Shows.{begun_rest, failed_rest}
use Rattle.art_step.specs.Shows.{HasValue}
use Rattle.art_step.specs.Steps.Begin as begin
use Rattle.art_step.specs.Steps.Check as check
use Rattle.art_step.specs.Steps.Read as read
use Rattle.art_step.specs.declared.deeds.Deed.{Deed}
use Rattle.art_step.specs.declared.faults.Changed.{Changed}
use Rattle.art_step.specs.declared.faults.Locked.{Locked}
use Rattle.art_step.specs.declared.views.Sizes.{Sizes}
use Rattle.art_step.specs.declared.views.Stamp.{Stamp}
use Rattle.art_step.specs.declared.views.View.{View}
use Rattle.art_tree.specs.Heaps.{Cells}

-- ---- what is asked for

-- what its descent asks for may be made, where nothing is settled
pub may_look : (z : Sizes) (k : List ℕ) (what : Option ℕ → Deed) (m : Finding) (read_set : ReadSet) (u v : View) (a : Action) → asks m.descent.stage ≡ Some a → FindingFits z k what m read_set u v → MayLook z (λ s. ⊤) v a
may_look z k what m read_set u v a is fits =
    let so : Cells → Type 0 = λ s. HasValue s k (answer_at m.descent.stage) in
    looked z v so a (subst (λ (o : Option Action). IfSome o (MayLook z so v)) is (allowed z k what m.descent.depth m.descent.stage u v fits.descent))

-- ---- it has not ended after an answer that settles nothing

pub begun_going : (stage : Stage) (y : Stamp) → WantsVersion (asks stage) → ended_at (stage_begun y stage) ≡ None
begun_going Start y wants = refl
begun_going (Below x n) y wants = refl
begun_going (Anchor x) y wants = absurd wants
begun_going (Child x d) y wants = absurd wants
begun_going (Both x a n) y wants = absurd wants
begun_going (Header x n) y wants = absurd wants
begun_going (Prefix seen i r) y wants = absurd wants
begun_going (Keys seen i) y wants = absurd wants
begun_going (Slot seen place) y wants = absurd wants
begun_going (Value x l) y wants = absurd wants
begun_going (Length x l value) y wants = absurd wants
begun_going (Bytes seen i r) y wants = absurd wants
begun_going (Decided x found) y wants = absurd wants
begun_going (Ended o) y wants = absurd wants

below_going : (x : Stamp) (d : Link) → ended_at (stage_below x d) ≡ None
below_going x (leaf l) = refl
below_going x (node n) = refl

pub checked_going : (stage : Stage) → WantsCheck (asks stage) → ((x : Stamp) → asks stage ≢ Some (Settle x)) → ended_at (stage_checked stage) ≡ None
checked_going (Child y d) wants other = below_going y d
checked_going (Both y a n) wants other = refl
checked_going Start wants other = absurd wants
checked_going (Anchor y) wants other = absurd wants
checked_going (Below y n) wants other = absurd wants
checked_going (Header y n) wants other = absurd wants
checked_going (Prefix seen i r) wants other = absurd wants
checked_going (Keys seen i) wants other = absurd wants
checked_going (Slot seen place) wants other = absurd wants
checked_going (Value y l) wants other = absurd wants
checked_going (Length y l value) wants other = absurd wants
checked_going (Bytes seen i r) wants other = absurd wants
checked_going (Decided y found) wants other = absurd (other y refl)
checked_going (Ended o) wants other = absurd wants

-- a word is read where it stands on a cell
word_stands : (stage : Stage) → WantsWord (asks stage) → stands_on stage ≢ None
word_stands Start wants = absurd wants
word_stands (Anchor x) wants = λ e. cc
word_stands (Child x d) wants = absurd wants
word_stands (Below x n) wants = absurd wants
word_stands (Both x y n) wants = absurd wants
word_stands (Header x n) wants = λ e. cc
word_stands (Prefix seen i r) wants = λ e. cc
word_stands (Keys seen i) wants = λ e. cc
word_stands (Slot seen place) wants = λ e. cc
word_stands (Value x l) wants = λ e. cc
word_stands (Length x l value) wants = λ e. cc
word_stands (Bytes seen i r) wants = λ e. cc
word_stands (Decided x found) wants = absurd wants
word_stands (Ended o) wants = absurd wants

-- and where it stands on one, or made no step yet, it has not ended
standing_going : (stage : Stage) → stands_on stage ≢ None → ended_at stage ≡ None
standing_going Start on = refl
standing_going (Anchor x) on = refl
standing_going (Child x d) on = refl
standing_going (Below x n) on = refl
standing_going (Both x y n) on = refl
standing_going (Header x n) on = refl
standing_going (Prefix seen i r) on = refl
standing_going (Keys seen i) on = refl
standing_going (Slot seen place) on = refl
standing_going (Value x l) on = refl
standing_going (Length x l value) on = refl
standing_going (Bytes seen i r) on = refl
standing_going (Decided x found) on = refl
standing_going (Ended o) on = absurd (on refl)

fresh_going : (depth : ℕ) (stage : Stage) → most_steps depth stage ≡ 0 → ended_at stage ≡ None
fresh_going depth Start none = refl
fresh_going depth (Anchor x) none = refl
fresh_going depth (Child x d) none = refl
fresh_going depth (Below x n) none = refl
fresh_going depth (Both x y n) none = refl
fresh_going depth (Header x n) none = refl
fresh_going depth (Prefix seen i r) none = refl
fresh_going depth (Keys seen i) none = refl
fresh_going depth (Slot seen place) none = refl
fresh_going depth (Value x l) none = refl
fresh_going depth (Length x l value) none = refl
fresh_going depth (Bytes seen i r) none = refl
fresh_going depth (Decided x found) none = refl
fresh_going depth (Ended o) none = absurd (omega (arith, none))

pub told_going : (z : Sizes) (d : Deed) (m n : Descent) (a : Action) (r : Answer) (v w : View) → asks m.stage ≡ Some a → ((x : Stamp) → a ≢ Settle x) → Answers z (telling d) a r v w
    → Stays r m n → (goes_on r ≡ false → most_steps n.depth n.stage ≡ 0) → ended_at n.stage ≡ None
told_going z d m n a (Word word) v w is other row stays anew =
    standing_going n.stage (λ e. word_stands m.stage (subst WantsWord (sym is) (wants_word z d a word v w row)) (sym stays ∙ e))
told_going z d m n a (Begun (Ok y)) v w is other row stays anew =
    ap (λ (s : Descent). ended_at s.stage) stays ∙ begun_going m.stage y (subst WantsVersion (sym is) (wants_version z d a (Ok y) v w row))
told_going z d m n a (Begun (Err e)) v w is other row stays anew = fresh_going n.depth n.stage (anew refl)
told_going z d m n a (Checked (Ok t)) v w is other row stays anew =
    ap (λ (s : Descent). ended_at s.stage) stays ∙ checked_going m.stage (subst WantsCheck (sym is) (wants_check z d a (Ok t) v w row)) (λ x e. other x (same_Some {A = Action} a (Settle x) (sym is ∙ e)))
told_going z d m n a (Checked (Err e)) v w is other row stays anew = fresh_going n.depth n.stage (anew refl)
told_going z d m n a (Upgraded r) v w is other row stays anew = absurd stays
told_going z d m n a Done v w is other row stays anew = absurd stays

-- ---- a version word was locked, obsolete or changed

-- what asks for a step has not ended
asks_going : (stage : Stage) (a : Action) → asks stage ≡ Some a → ended_at stage ≡ None
asks_going Start a is = refl
asks_going (Anchor x) a is = refl
asks_going (Child x d) a is = refl
asks_going (Below x n) a is = refl
asks_going (Both x y n) a is = refl
asks_going (Header y n) a is = refl
asks_going (Prefix seen i r) a is = refl
asks_going (Keys seen i) a is = refl
asks_going (Slot seen place) a is = refl
asks_going (Value x l) a is = refl
asks_going (Length x l value) a is = refl
asks_going (Bytes seen i r) a is = refl
asks_going (Decided x found) a is = refl
asks_going (Ended o) a is = cc

module _ (z : Sizes) (k : List ℕ) (what : Option ℕ → Deed) (m : Descent) (u v w : View) (fits : Fits z k what m u v) where
  pub begun_fails : (c : Cell) (e : Locked) → asks m.stage ≡ Some (Begin c) → begin.Outcome z v w c (Err e) → IsReading u w
  begun_fails c e is row = reads_on u v w (begun_rest z v w c e.found row.2) (still_reading z k what m.depth m.stage u v (asks_going m.stage (Begin c) is) fits)

  pub check_fails : (x : Stamp) (e : Changed) → asks m.stage ≡ Some (Check x) → check.Outcome {A = Unit {0}} z v w x None (Err e) → IsReading u w
  check_fails x e is row = reads_on u v w (failed_rest v w x e.found row.3) (still_reading z k what m.depth m.stage u v (asks_going m.stage (Check x) is) fits)

-- ---- a step was made and heard

-- what its descent came to by an answer, which it has now
pub record CameTo (z : Sizes) (k : List ℕ) (asked : Action) (answer : Answer) (m n : Descent) (v w : View) : Type 0 where
  pub further : goes_on answer ≡ true → most_steps m.depth m.stage < most_steps n.depth n.stage
  pub anew : goes_on answer ≡ false → most_steps n.depth n.stage ≡ 0
  pub stays : Stays answer m n
  pub going : ended_at n.stage ≡ None
  pub fits : (what : Option ℕ → Deed) (u : View) → Fits z k what m u v → Fits z k what n u w

module _ (z : Sizes) (k : List ℕ) (on : Bool) (m m' : Finding) (read_set read_set' : ReadSet) (v w : View) (asked : Action) (answer : Answer)
    (is : asks m.descent.stage ≡ Some asked) (row : (d : Deed) → Answers z (telling d) asked answer v w) where
  placed : (n : Descent) → m'.descent ≡ n → CameTo z k asked answer m.descent n v w → Keeps answer (asks m.descent.stage) (asks n.stage) n.depth m.above read_set m'.above read_set'
      → (what : Option ℕ → Deed) (u : View) → FindingFits z k what m read_set u v → PlaceFits z k m'.above read_set' w (stands_on m'.descent.stage)
  placed n same came keeps what u before =
      let so : Cells → Type 0 = λ s. HasValue s k (answer_at m.descent.stage) in
      let may : MayLook z so v asked = subst (λ (o : Option Action). IfSome o (MayLook z so v)) is (allowed z k what m.descent.depth m.descent.stage u v before.descent) in
      subst (λ (d : Descent). PlaceFits z k m'.above read_set' w (stands_on d.stage)) (sym same)
      (told_fits z k what u v w m.above m'.above read_set read_set' m.descent n so asked is answer (row (what (answer_at m.descent.stage))) may before.descent came.stays came.anew keeps before.place)

  pub heard : (n : Descent) → m'.descent ≡ n → CameTo z k asked answer m.descent n v w → Keeps answer (asks m.descent.stage) (asks n.stage) n.depth m.above read_set m'.above read_set'
      → HasHeard z k answer m read_set v m' read_set' w
  heard n same came keeps = record {
    further = λ goes. subst (λ (d : Descent). most_steps m.descent.depth m.descent.stage < most_steps d.depth d.stage) (sym same) (came.further goes);
    anew = λ off. subst (λ (d : Descent). most_steps d.depth d.stage ≡ 0) (sym same) (came.anew off);
    stays = subst (Stays answer m.descent) (sym same) came.stays;
    going = subst (λ (d : Descent). ended_at d.stage ≡ None) (sym same) came.going;
    fits = λ what u before. record {
      descent = subst (λ (d : Descent). Fits z k what d u w) (sym same) (came.fits what u before.descent);
      place = placed n same came keeps what u before;
    };
  }

  pub looked_on : on ≡ goes_on answer → HasHeard z k answer m read_set v m' read_set' w → LookedOn z k on m read_set v m' read_set' w
  looked_on goes has = (asked, answer, record { asked_it = is; row = row }, has, goes)

-- a word was heard
pub word_came : (z : Sizes) (k : List ℕ) (v w : View) (m n : Descent) (asked : Action) (word : ℕ) → asks m.stage ≡ Some asked → ((d : Deed) → Answers z (telling d) asked (Word word) v w)
    → most_steps m.depth m.stage < most_steps n.depth n.stage → stands_on n.stage ≡ stands_on m.stage → ended_at n.stage ≡ None
    → ((y : Sizes) (what : Option ℕ → Deed) (u before after : View) (a : Action) → Fits y k what m u before → asks m.stage ≡ Some a → Answers y (telling (what (answer_at m.stage))) a (Word word) before after → Fits y k what n u after)
    → CameTo z k asked (Word word) m n v w
word_came z k v w m n asked word is row further stays going fits = record {
  further = λ on. further;
  anew = λ off. absurd (cc);
  stays = stays;
  going = going;
  fits = λ what u before. fits z what u v w asked before is (row (what (answer_at m.stage)));
}

-- nothing is kept of a word of a leaf
pub leaf_heard : (z : Sizes) (k : List ℕ) (v w : View) (m : Finding) (n : Descent) (read_set : ReadSet) (x : Stamp) (l i word : ℕ) → asks m.descent.stage ≡ Some (ReadLeaf x l i) → read.LeafOutcome v w x l i word
    → CameTo z k (ReadLeaf x l i) (Word word) m.descent n v w → LookedOn z k true m read_set v (record m { descent = n }) read_set w
leaf_heard z k v w m n read_set x l i word is row came =
    let kept : IsHeard (asks m.descent.stage) word read_set read_set = subst (λ (o : Option Action). IsHeard o word read_set read_set) (sym is) (record { node = refl; above = refl }) in
    looked_on z k true m (record m { descent = n }) read_set read_set v w (ReadLeaf x l i) (Word word) is (λ d. row) refl
    (heard z k true m (record m { descent = n }) read_set read_set v w (ReadLeaf x l i) (Word word) is (λ d. row) n refl came (refl, kept))
