-- Words of the cells are read one cell after another, and then each of them is checked.
use Rattle.std.proofs.Common.{◌≡◌, ℕ, ◌+◌, ◌<◌, ◌≤◌, arith, Bool, true, false, List, Option, Some, None, refl, sym, ap, ◌∙◌, subst}
use Rattle.std.specs.Prelude.{IfSome, Ok, Err, ⊤, if◌then◌else◌}
use Rattle.std.specs.Option.{option_map, option_and_then}
use Rattle.std.proofs.lemmas.Bool.{lt-ltb}
use Rattle.std.proofs.lemmas.Option.{same_Some}
use Rattle.art_cell.specs.Reads.{word_read}
use Rattle.art_cell.specs.declared.cells.Cell.{Cell}
use Rattle.art_cell.specs.declared.cells.Cell.TheVariants as cell
use Rattle.art_find.proofs.Allowed.{none_held}
use Rattle.art_find.proofs.Keeping.{Grows, cell_fits, kept_grows, passed_grows}
use Rattle.art_find.proofs.Stages.{reads_on}
use Rattle.art_find.specs.Asking.{MayLook}
use Rattle.art_find.specs.Kept.{IsKept, StaysRead}
use Rattle.art_find.specs.ReadSets.{above_of, node_of}
use Rattle.art_find.specs.Rereadings.{AreKnown, RereadingFits, reads_next}
use Rattle.art_find.specs.Runs.{HasReadOnly}
use Rattle.art_find.specs.declared.findings.Above.{Above as CellAbove}
use Rattle.art_find.specs.declared.findings.Position.{Position}
use Rattle.art_find.specs.declared.read_sets.ReadSet.{ReadSet}
use Rattle.art_find.specs.declared.read_sets.Rereading.{Rereading}
use Rattle.art_attempt.proofs.LowerBegins.{check_allowed}
use Rattle.art_attempt.proofs.RereadsGoOn.{more_reads}
use Rattle.art_attempt.proofs.Standing.{above_after, below_grows, here_after, leads_grow, names_on, passed_found, passed_just, passed_later, passed_stays, stands_grows, under_over}
use Rattle.art_attempt.specs.Naming.{IsBelow, KnowsHere, StillStands}
use Rattle.art_attempt.specs.Reserve.{StayFound}
use Rattle.art_attempt.specs.Validate.{BelowFits, CheckedSince, Each, Fits, HasLeft, IsRereading, Knows, KnowsWords, NodeStays, OthersStay, StageFits, Until, RoleWasChecked}
use Rattle.art_attempt.specs.Validate.{after_check, asks, check_below, checks_of, first_check, left_from, next_check, reads_by, reads_of, stamp_above, stamp_below, stamp_of}
use Rattle.art_attempt.specs.declared.validate.Cells.{Cells}
use Rattle.art_attempt.specs.declared.validate.Role.{Role}
use Rattle.art_attempt.specs.declared.validate.Role.TheVariants.{Above, Here, Lower}
use Rattle.art_attempt.specs.declared.validate.Validate.{Validate}
use Rattle.art_attempt.specs.declared.validate.Validate.TheVariants.{Read, Header, Check, Torn, Ended}
use Rattle.art_attempt.specs.declared.validate.Validated.TheVariants.{Unchanged}
use Rattle.art_step.proofs.Words.{word_row}
use Rattle.art_step.specs.Acting.{Answers, HasPath, telling, word_in}
use Rattle.art_step.specs.declared.actions.Action.{Action}
use Rattle.art_step.specs.declared.actions.Action.TheVariants as action
use Rattle.art_step.specs.declared.actions.Answer.{Answer}
use Rattle.art_step.specs.declared.actions.Answer.TheVariants.{Begun, Word, Checked, Upgraded, Done}
use Rattle.art_plan.specs.ChooseInsert.Seen.{WasVouched}
use Rattle.art_plan.specs.declared.choose_remove.Lower.{Lower as LowerNode}
use Rattle.art_step.proofs.Shows.{failed_rest, passed_rest}
use Rattle.art_step.specs.Shows.{HasStamp, OnlyReads}
use Rattle.art_step.specs.Steps.Check as check
use Rattle.art_step.specs.Steps.Read as read
use Rattle.art_step.specs.Views.{IsNotHeld, size_of}
use Rattle.art_step.specs.WordPlaces.{HasVersion, IsInside}
use Rattle.art_step.specs.declared.deeds.Deed.{Deed}
use Rattle.art_step.specs.declared.views.Sizes.{Sizes}
use Rattle.art_step.specs.declared.views.Stamp.{Stamp}
use Rattle.art_step.specs.declared.views.View.{View}

-- ---- the cells

above_by : (b : Bool) (o : Option CellAbove) (x : Stamp) → (if b then option_map stamp_above o else None) ≡ Some x → (a : CellAbove) × (o ≡ Some a) × (a.stamp ≡ x)
above_by true (Some a) x is = (a, refl, same_Some {A = Stamp} a.stamp x is)
above_by true None x is = cc
above_by false o x is = cc

pub is_above : (t : Position) (o : Cells) (x : Stamp) → stamp_of t o Above ≡ Some x → (a : CellAbove) × (t.above ≡ Some a) × (a.stamp ≡ x)
is_above t o x is = above_by o.above t.above x is

over_by : (b : Bool) (o : Option CellAbove) (a : CellAbove) → b ≡ true → o ≡ Some a → (if b then option_map stamp_above o else None) ≡ Some a.stamp
over_by true o a wide is = ap (option_map stamp_above) is
over_by false o a wide is = cc

pub over_stamp : (t : Position) (o : Cells) (a : CellAbove) → o.above ≡ true → t.above ≡ Some a → stamp_of t o Above ≡ Some a.stamp
over_stamp t o a wide is = over_by o.above t.above a wide is

pub lower_by : (o : Option LowerNode) (x : Stamp) → option_map stamp_below o ≡ Some x → (l : LowerNode) × (o ≡ Some l) × (l.stamp ≡ x)
lower_by (Some l) x is = (l, refl, same_Some {A = Stamp} l.stamp x is)
lower_by None x is = cc

module _ (z : Sizes) (k : List ℕ) (t : Position) (o : Cells) (read_set : ReadSet) (lower : List (Option ℕ)) (u v : View) (knows : Knows z k t o read_set lower u v) where
  below_known : (b : Option LowerNode) → BelowFits z k t read_set b lower u v → (l : LowerNode) → b ≡ Some l → IsBelow z k t read_set l.node l.stamp lower v
  below_known (Some m) below l is = subst (λ (a : LowerNode). IsBelow z k t read_set a.node a.stamp lower v) (same_Some {A = LowerNode} m l is) below.1
  below_known None below l is = cc

  -- each is stamped, a path to it was noted, and what is kept of it was read
  pub cell_known : (role : Role) (x : Stamp) → stamp_of t o role ≡ Some x → HasStamp z v x × HasPath v x × IsKept z v x (reads_of read_set lower role)
  cell_known Above x is =
      let a = is_above t o x is in
      let over = under_over z k t.above (above_of read_set) v t.stamp.cell a.0 knows.stands.standing.place.under a.1 in
      (subst (HasStamp z v) a.2 over.stamp, subst (HasPath v) a.2 over.path, subst (λ (y : Stamp). IsKept z v y (above_of read_set)) a.2 over.kept)
  cell_known Here x is =
      let one : t.stamp ≡ x = same_Some {A = Stamp} t.stamp x is in
      let at = knows.stands.standing in
      (subst (HasStamp z v) one at.stamp, subst (HasPath v) one at.place.path, subst (λ (y : Stamp). IsKept z v y (node_of read_set)) one at.place.kept)
  cell_known Lower x is =
      let l = lower_by o.lower x is in
      let below = below_known o.lower knows.below l.0 l.1 in
      (subst (HasStamp z v) l.2 below.on.stamp, subst (HasPath v) l.2 below.path, subst (λ (y : Stamp). IsKept z v y lower) l.2 below.on.kept)

  -- so it may be read
  pub begins : (role : Role) (x : Stamp) (r : Rereading) (reads : List (Option ℕ)) → stamp_of t o role ≡ Some x → reads ≡ reads_of read_set lower role
      → (IsNotHeld v.held x.cell → HasStamp z v x → HasPath v x → IsKept z v x reads → RereadingFits z v x r reads) → RereadingFits z v x r (reads_of read_set lower role)
  begins role x r reads is same fits =
      let known = cell_known role x is in
      subst (RereadingFits z v x r) same (fits (none_held v x.cell knows.stands.reads.free) known.0 known.1 (subst (IsKept z v x) (sym same) known.2))

-- ---- what is known stays so

module _ (z : Sizes) (k : List ℕ) (t : Position) (read_set read_set' : ReadSet) (lower lower' : List (Option ℕ)) (u v w : View) (grows : Grows v w) (same : node_of read_set' ≡ node_of read_set)
    (stands : StillStands z k t read_set' u w) where
  below_on : (b : Option LowerNode) → ((l : LowerNode) → b ≡ Some l → IsBelow z k t read_set l.node l.stamp lower v → IsKept z w l.stamp lower') → BelowFits z k t read_set b lower u v → BelowFits z k t read_set' b lower' u w
  below_on None kept below = tt
  below_on (Some l) kept below = (
    names_on z k t l.node read_set read_set' same u v w stands below.0,
    below_grows z k t l.node read_set read_set' same v w grows l.stamp lower lower' (kept l refl below.1) below.1,
    leads_grow z k t l.node read_set read_set' same v w grows below.2,
  )

module _ (z : Sizes) (k : List ℕ) (t : Position) (o : Cells) where
  pub knows_grows : (read_set : ReadSet) (lower : List (Option ℕ)) (u v w : View) → Grows v w → OnlyReads v w → v.steps ≤ w.steps → Knows z k t o read_set lower u v → Knows z k t o read_set lower u w
  knows_grows read_set lower u v w grows only later knows =
      let stands = stands_grows z k t read_set u v w grows only later knows.stands in
      record {
        stands = stands;
        below = below_on z k t read_set read_set lower lower u v w grows refl stands o.lower (λ l is below. kept_grows z v w l.stamp lower grows below.on.kept) knows.below;
      }

  none_below : (read_set : ReadSet) (lower : List (Option ℕ)) (u v : View) (b : Option LowerNode) → ¬ KnowsHere t read_set → BelowFits z k t read_set b lower u v → b ≡ None
  none_below read_set lower u v None not below = refl
  none_below read_set lower u v (Some l) not below = absurd (not below.0.whole)

  -- words of the cell in this role were read
  module _ (read_set read_set' : ReadSet) (lower lower' : List (Option ℕ)) (u v w : View) (n : ℕ) (only : HasReadOnly v w n) (knows : Knows z k t o read_set lower u v) where
    abbrev KnowsThen : List (Option ℕ) → Type 0
    KnowsThen reads = Knows z k t o read_set' reads u w

    pub knows_read : (role : Role) (x : Stamp) → stamp_of t o role ≡ Some x → OthersStay role read_set lower read_set' lower' → IsKept z w x (reads_of read_set' lower' role)
        → (role ≡ Here → ¬ KnowsHere t read_set) → Knows z k t o read_set' lower' u w
    knows_read Above x is others kept not =
        let a = is_above t o x is in
        let stands = above_after z k t read_set read_set' u v w n only knows.stands a.0 a.1 others.0 (subst (λ (y : Stamp). IsKept z w y (above_of read_set')) (sym a.2) kept) in
        subst KnowsThen (sym others.1) (record {
          stands = stands;
          below = below_on z k t read_set read_set' lower lower u v w only.grows others.0 stands o.lower (λ l is below. kept_grows z v w l.stamp lower only.grows below.on.kept) knows.below;
        })
    knows_read Here x is others kept not =
        let one : t.stamp ≡ x = same_Some {A = Stamp} t.stamp x is in
        let none = none_below read_set lower u v o.lower (not refl) knows.below in
        record {
          stands = here_after z k t read_set read_set' u v w n only knows.stands others.0 (subst (λ (y : Stamp). IsKept z w y (node_of read_set')) (sym one) kept);
          below = subst (λ (b : Option LowerNode). BelowFits z k t read_set' b lower' u w) (sym none) tt;
        }
    knows_read Lower x is others kept not =
        let l = lower_by o.lower x is in
        let later : v.steps ≤ w.steps = let step = only.steps in omega (arith, step) in
        let stands = stands_grows z k t read_set u v w only.grows only.rest later knows.stands in
        subst (λ (s : ReadSet). Knows z k t o s lower' u w) (sym others) (record {
          stands = stands;
          below = below_on z k t read_set read_set lower lower' u v w only.grows refl stands o.lower
              (λ m at below.
              let one : l.0 ≡ m = same_Some {A = LowerNode} l.0 m (sym l.1 ∙ at) in
              subst (λ (y : Stamp). IsKept z w y lower') (sym l.2 ∙ ap (λ (a : LowerNode). a.stamp) one) kept)
              knows.below;
        })

    -- those of the cells above are known still
    pub until_read : (role : Role) → OthersStay role read_set lower read_set' lower' → Until (KnowsWords t o read_set lower) role → Until (KnowsWords t o read_set' lower') role
    until_read Above others known = tt
    until_read Here others known = λ x is. subst (λ (reads : List (Option ℕ)). AreKnown reads 1 (size_of x.cell)) (sym others.0) (known x is)
    until_read Lower others known = subst (λ (s : ReadSet). Until (KnowsWords t o s lower') Lower) (sym others) known

-- ---- steps are counted

-- fewer are left
pub left_less : (u v : View) (left less most : ℕ) → less ≤ left → HasLeft u v left most → HasLeft u v less most
left_less u v left less most fewer has = let a = has.steps in record { failures = has.failures; steps = omega (arith, fewer, a) }

-- so many were made, and none can fail
pub left_after_reads : (u v w : View) (n left less most : ℕ) → HasReadOnly v w n → less + n ≤ left → HasLeft u v left most → HasLeft u w less most
left_after_reads u v w n left less most only fewer has =
    let a = has.steps in
    let step = only.steps in
    record { failures = only.failures ∙ has.failures; steps = omega (arith, step, fewer, a) }

-- ---- a word was read

-- the word that is read was not known
pub not_known : (z : Sizes) (v : View) (x : Stamp) (r : Rereading) (reads : List (Option ℕ)) → RereadingFits z v x r reads → r.place < size_of x.cell → word_read reads r.place ≡ None
not_known z v x r reads fits more = fits.unknown (omega (arith, more, cell_fits x.cell))

-- the answer to a read that was asked for has the word
pub read_told : (z : Sizes) (d : Deed) (x : Stamp) (r : Rereading) (asked : Action) (answer : Answer) (v w : View) → r.place < size_of x.cell → reads_next x r ≡ Some asked
    → Answers z (telling d) asked answer v w → read.Outcome z v w x r.place (word_in answer)
read_told z d x r asked answer v w more is row =
    let at : action.Read x r.place ≡ asked = same_Some {A = Action} (action.Read x r.place) asked (sym (more_reads x r more) ∙ is) in
    word_row z (telling d) (action.Read x r.place) answer v w tt (subst (λ (a : Action). Answers z (telling d) a answer v w) (sym at) row)

module _ (z : Sizes) (t : Position) (o : Cells) (read_set : ReadSet) (lower : List (Option ℕ)) (v : View) (role : Role) (r : Rereading) (reading : IsRereading z t o read_set lower v role r) where
  -- so where it is of the cell where the key stands, these are not all known
  pub not_all_known : role ≡ Here → ¬ KnowsHere t read_set
  not_all_known is known = by_role role reading.stamp is reading.is reading.fits reading.more
    where
      by_role : (q : Role) (x : Stamp) → q ≡ Here → stamp_of t o q ≡ Some x → RereadingFits z v x r (reads_of read_set lower q) → r.place < size_of x.cell → ⊥
      by_role Here x at there fits more =
          let same : t.stamp ≡ x = same_Some {A = Stamp} t.stamp x there in
          let unknown = not_known z v x r (node_of read_set) fits more in
          let one = known r.place (omega (arith, fits.after)) (subst (λ (y : Stamp). r.place < size_of y.cell) (sym same) more) in
          let no : None ≡ Some one.0 = sym unknown ∙ one.1 in cc
      by_role Above x at there fits more = cc
      by_role Lower x at there fits more = cc

  -- the stamp is that of the cell
  pub same_stamp : (x : Stamp) → stamp_of t o role ≡ Some x → reading.stamp ≡ x
  same_stamp x is = same_Some {A = Stamp} reading.stamp x (sym reading.is ∙ is)

  pub inside : r.place < 266
  inside = let more = reading.more in omega (arith, more, cell_fits reading.stamp.cell)

  pub read_row : (d : Deed) (asked : Action) (answer : Answer) (w : View) → asks t o (Read role r) ≡ Some asked → Answers z (telling d) asked answer v w → read.Outcome z v w reading.stamp r.place (word_in answer)
  read_row d asked answer w is row = read_told z d reading.stamp r asked answer v w reading.more (sym (ap (option_and_then (reads_by r)) reading.is) ∙ is) row

-- what stays of the words of the cell where the key stands
pub node_stays : (t : Position) (o : Cells) (role : Role) (read_set read_set' : ReadSet) (lower lower' : List (Option ℕ)) → OthersStay role read_set lower read_set' lower' → StaysRead (node_of read_set) (node_of read_set')
    → (role ≡ Here → KnowsHere t read_set → node_of read_set' ≡ node_of read_set) → NodeStays t read_set read_set'
node_stays t o Above read_set read_set' lower lower' others stays whole = record { stays = stays; whole = λ known. others.0 }
node_stays t o Here read_set read_set' lower lower' others stays whole = record { stays = stays; whole = whole refl }
node_stays t o Lower read_set read_set' lower lower' others stays whole = record { stays = stays; whole = λ known. ap node_of others }

-- by a run of reads
pub node_run : (t : Position) (o : Cells) (role : Role) (read_set read_set' : ReadSet) (lower lower' : List (Option ℕ)) → OthersStay role read_set lower read_set' lower'
    → StaysRead (reads_of read_set lower role) (reads_of read_set' lower' role) → (role ≡ Here → ¬ KnowsHere t read_set) → NodeStays t read_set read_set'
node_run t o Above read_set read_set' lower lower' others stays not = record {
  stays = λ place word is. ap (λ (reads : List (Option ℕ)). word_read reads place) others.0 ∙ is;
  whole = λ known. others.0;
}
node_run t o Here read_set read_set' lower lower' others stays not = record { stays = stays; whole = λ known. absurd (not refl known) }
node_run t o Lower read_set read_set' lower lower' others stays not = record {
  stays = λ place word is. ap (λ (s : ReadSet). word_read (node_of s) place) others ∙ is;
  whole = λ known. ap node_of others;
}

pub node_then : (t : Position) (a b c : ReadSet) → NodeStays t a b → NodeStays t b c → NodeStays t a c
node_then t a b c first more = record {
  stays = λ place word is. more.stays place word (first.stays place word is);
  whole = λ known.
      let same = first.whole known in
      more.whole (subst (λ (reads : List (Option ℕ)). AreKnown reads 1 (size_of t.stamp.cell)) (sym same) known) ∙ same;
}

-- ---- the checks begin

pub each_of : (so : Role → Type 0) → so Above → so Here → so Lower → Each so
each_of so above here lower Above = above
each_of so above here lower Here = here
each_of so above here lower Lower = lower

module _ (z : Sizes) (k : List ℕ) (t : Position) (o : Cells) (read_set : ReadSet) (lower : List (Option ℕ)) (u v : View) (knows : Knows z k t o read_set lower u v) (words : Each (KnowsWords t o read_set lower)) where
  first_by : (x : Option Stamp) → stamp_of t o Above ≡ x → HasLeft u v 3 798 → Fits z k t o (first_check x) read_set lower u v
  first_by (Some x) is left = record { stage = (knows, words, tt, (x, is)); failures = left.failures; steps = left.steps }
  first_by None is left =
      let fewer = left_less u v 3 2 798 (omega arith) left in
      record { stage = (knows, words, (λ x at. let no : None ≡ Some x = sym is ∙ at in cc), (t.stamp, refl)); failures = fewer.failures; steps = fewer.steps }

  pub checks_begin : HasLeft u v 3 798 → Fits z k t o (first_check (stamp_of t o Above)) read_set lower u v
  checks_begin left = first_by (stamp_of t o Above) refl left

-- ---- a check was made

module _ (z : Sizes) (k : List ℕ) (t : Position) (o : Cells) (read_set : ReadSet) (lower : List (Option ℕ)) (u v w : View) where
  abbrev So : View → Role → Type 0
  So s = RoleWasChecked z k t o read_set lower u s

  -- one that succeeded stays so
  was_on : v.steps ≤ w.steps → StayFound v w → (role : Role) → So v role → So w role
  was_on more stay role was x is =
      let c = was x is in
      let done = c.done in
      record { before = c.before; knows = c.knows; after = c.after; passed = c.passed; done = omega (arith, done, more); found = stay _ c.found }

  module _ (knows : Knows z k t o read_set lower u v) (words : Each (KnowsWords t o read_set lower)) (x : Stamp) (passed : check.Unchanged z v w x None) where
    -- it succeeded: what is known stays so, and at this step it held in a tree
    was_now : (role : Role) → stamp_of t o role ≡ Some x → So w role
    was_now role is y at =
        let one : x ≡ y = same_Some {A = Stamp} x y (sym is ∙ at) in
        subst (λ (a : Stamp). CheckedSince z k t o read_set lower u a w) one
        (record { before = v; knows = knows; after = w; passed = passed; done = omega arith; found = passed_found z v w x passed })

    still : Knows z k t o read_set lower u w
    still = knows_grows z k t o read_set lower u v w (passed_grows z v w x None passed) (passed_rest z v w x passed) (passed_later z v w x passed) knows

    stays : (role : Role) → So v role → So w role
    stays = was_on (passed_later z v w x passed) (passed_stays z v w x passed)

    after_one : (left less : ℕ) → less < left → HasLeft u v left 798 → HasLeft u w less 798
    after_one left less fewer has =
        let a = has.steps in
        let step = ap (λ (y : View). y.steps) passed.is in
        record { failures = ap (λ (y : View). y.failures) passed.is ∙ has.failures; steps = omega (arith, step, fewer, a) }

    all_checked : Each (So w) → HasLeft u w 0 798 → Fits z k t o (Ended Unchanged) read_set lower u w
    all_checked each left = record {
      stage = (still, record { words = words; checked = each; just = passed_just z v w x passed u knows.stands.later });
      failures = left.failures;
      steps = left.steps;
    }

    lower_next : (b : Option LowerNode) → o.lower ≡ b → So w Above → So w Here → HasLeft u w 1 798 → Fits z k t o (check_below b) read_set lower u w
    lower_next (Some l) is above here left = record {
      stage = (still, words, (above, here), (l.stamp, ap (option_map stamp_below) is));
      failures = left.failures;
      steps = left.steps;
    }
    lower_next None is above here left =
        all_checked (each_of (So w) above here (λ y at. let no : None ≡ Some y = sym (ap (option_map stamp_below) is) ∙ at in cc)) (left_less u w 1 0 798 (omega arith) left)

    pub check_passed : (role : Role) → stamp_of t o role ≡ Some x → Until (So v) role → HasLeft u v (left_from role) 798 → Fits z k t o (next_check o role) read_set lower u w
    check_passed Above is was left =
        let fewer = after_one 3 2 (omega arith) left in
        record { stage = (still, words, was_now Above is, (t.stamp, refl)); failures = fewer.failures; steps = fewer.steps }
    check_passed Here is was left = lower_next o.lower refl (stays Above was) (was_now Here is) (after_one 2 1 (omega arith) left)
    check_passed Lower is was left = all_checked (each_of (So w) (stays Above was.0) (stays Here was.1) (was_now Lower is)) (after_one 1 0 (omega arith) left)

  check_answered : (role : Role) (d : Deed) (x : Stamp) (answer : Answer) (fits : Fits z k t o (Check role) read_set lower u v) → stamp_of t o role ≡ Some x → Answers z (telling d) (action.Check x) answer v w
      → Fits z k t o (after_check answer (next_check o role)) read_set lower u w
  check_answered role d x (Begun r) fits is row = absurd row
  check_answered role d x (Word word) fits is row = absurd row
  check_answered role d x (Upgraded r) fits is row = absurd row
  check_answered role d x Done fits is row = absurd row
  check_answered role d x (Checked (Ok done)) fits is row = check_passed fits.stage.0 fits.stage.1 x row role is fits.stage.2 (record { failures = fits.failures; steps = fits.steps })
  check_answered role d x (Checked (Err e)) fits is row = record {
    stage = reads_on u v w (failed_rest v w x e.found row.3) fits.stage.0.stands.reads;
    failures = ap (λ (y : View). y.failures) row.3.is ∙ ap (λ (n : ℕ). n + 1) fits.failures;
    steps = let step = ap (λ (y : View). y.steps) row.3.is in let few = fits.steps in let some = checks_left role in omega (arith, step, few, some);
  }
    where
      checks_left : (q : Role) → 0 < left_from q
      checks_left Above = omega arith
      checks_left Here = omega arith
      checks_left Lower = omega arith

  pub check_told : (role : Role) (d : Deed) (asked : Action) (answer : Answer) → Fits z k t o (Check role) read_set lower u v → asks t o (Check role) ≡ Some asked → Answers z (telling d) asked answer v w
      → Fits z k t o (after_check answer (next_check o role)) read_set lower u w
  check_told role d asked answer fits is row =
      let x = fits.stage.3 in
      let at : action.Check x.0 ≡ asked = same_Some {A = Action} (action.Check x.0) asked (sym (ap (option_map checks_of) x.1) ∙ is) in
      check_answered role d x.0 answer fits x.1 (subst (λ (a : Action). Answers z (telling d) a answer v w) (sym at) row)

-- at a check that succeeded all that was noted under the stamp held in a tree
pub was_vouched : (z : Sizes) (k : List ℕ) (t : Position) (o : Cells) (read_set : ReadSet) (lower : List (Option ℕ)) (u : View) (x : Stamp) (v : View) → CheckedSince z k t o read_set lower u x v → WasVouched z k t read_set x
was_vouched z k t o read_set lower u x v checked =
    let passed = checked.passed in
    record { view = checked.before; standing = checked.knows.stands.standing; tree = passed.vouched.0; shape = passed.vouched.1; holds = passed.vouched.2 }

-- what is kept of a stamped cell may be read on, where the key stands
pub here_begins : (z : Sizes) (k : List ℕ) (t : Position) (read_set : ReadSet) (u v : View) (r : Rereading) (reads : List (Option ℕ)) → StillStands z k t read_set u v → reads ≡ node_of read_set
    → (IsNotHeld v.held t.stamp.cell → HasStamp z v t.stamp → HasPath v t.stamp → IsKept z v t.stamp reads → RereadingFits z v t.stamp r reads) → RereadingFits z v t.stamp r (node_of read_set)
here_begins z k t read_set u v r reads stands is begins = subst (RereadingFits z v t.stamp r) is
    (begins (none_held v t.stamp.cell stands.reads.free) stands.standing.stamp stands.standing.place.path (subst (IsKept z v t.stamp) (sym is) stands.standing.place.kept))

-- ---- what it asks for may be done

cell_inside : (z : Sizes) (c : Cell) → HasVersion z c → IsInside z c
cell_inside z cell.Anchor inside = tt
cell_inside z (cell.Leaf l) inside = absurd inside
cell_inside z (cell.Node n) inside = inside

read_allowed : (z : Sizes) (v : View) (x : Stamp) (r : Rereading) (reads : List (Option ℕ)) → RereadingFits z v x r reads → r.place < size_of x.cell
    → IfSome (reads_next x r) (MayLook z (λ s. ⊤) v)
read_allowed z v x r reads fits more =
    rw (lt-ltb r.place (size_of x.cell) more)
    (cell_inside z x.cell fits.stamp.inside, record { stamp = fits.stamp.stamp; free = fits.free; place = (fits.after, more) }, fits.path)

-- at each stage, and until it has ended it asks for a step
module _ (z : Sizes) (k : List ℕ) (t : Position) (o : Cells) (read_set : ReadSet) (lower : List (Option ℕ)) (u v : View) where
  pub allowed : (m : Validate) → StageFits z k t o m read_set lower u v → IfSome (asks t o m) (MayLook z (λ s. ⊤) v)
  allowed (Read role r) fits =
      let reading = fits.2 in
      subst (λ (x : Option Stamp). IfSome (option_and_then (reads_by r) x) (MayLook z (λ s. ⊤) v)) (sym reading.is)
      (read_allowed z v reading.stamp r (reads_of read_set lower role) reading.fits reading.more)
  allowed (Header r) fits =
      let reading = fits.2 in
      subst (λ (x : Option Stamp). IfSome (option_and_then (reads_by r) x) (MayLook z (λ s. ⊤) v)) (sym reading.is)
      (read_allowed z v reading.stamp r lower reading.fits reading.more)
  allowed (Check role) fits =
      let x = fits.3 in
      subst (λ (y : Option Stamp). IfSome (option_map checks_of y) (MayLook z (λ s. ⊤) v)) (sym x.1)
      (check_allowed z v x.0 (cell_known z k t o read_set lower u v fits.0 role x.0 x.1).0)
  allowed Torn fits =
      let x = fits.3 in
      subst (λ (y : Option Stamp). IfSome (option_map checks_of y) (MayLook z (λ s. ⊤) v)) (sym x.1)
      (check_allowed z v x.0 (cell_known z k t o read_set lower u v fits.0 Lower x.0 x.1).0)
  allowed (Ended e) fits = tt
