-- The header of the node below tells how long its path is with its prefix. Where that is too long its check fails, since no tree has such a node.
use Rattle.std.proofs.Common.{◌≡◌, ℕ, ◌+◌, ◌-◌, ◌<◌, ◌≤◌, ◌++◌, ◌∷◌, [], nat_lt, List, length, take, Option, Some, None, inl, inr, refl, sym, ap, ◌∙◌, subst, arith}
use Rattle.std.specs.Prelude.{Ok, Err, unwrap_or}
use Rattle.std.specs.Option.{option_map}
use Rattle.std.proofs.lemmas.Bool.{cases_lt, cond_both, ltb-false, ltb-true}
use Rattle.std.proofs.lemmas.List.{length-append, length-take-le}
use Rattle.std.proofs.lemmas.List.FromFn.{length-map-range_with_len}
use Rattle.std.proofs.lemmas.Option.{same_Some}
use Rattle.art_cell.specs.Reads.{word_of, word_read}
use Rattle.art_cell.specs.Words.{packed, prefix_len, prefix_of}
use Rattle.art_cell.specs.declared.cells.Body.{Body}
use Rattle.art_cell.specs.declared.cells.Cell.{Cell}
use Rattle.art_cell.specs.declared.cells.Cell.TheVariants as cell
use Rattle.art_cell.specs.declared.cells.Link.TheVariants.{Node as node}
use Rattle.art_cell.specs.declared.cells.Node.{Node}
use Rattle.art_find.proofs.Stages.{reads_on}
use Rattle.art_find.specs.Kept.{StaysRead}
use Rattle.art_find.specs.ReadSets.{node_of}
use Rattle.art_find.specs.Rereadings.{RereadingFits}
use Rattle.art_find.specs.Ways.{count_in}
use Rattle.art_find.specs.declared.findings.Above.{Above as CellAbove}
use Rattle.art_find.specs.declared.findings.Position.{Position}
use Rattle.art_find.specs.declared.read_sets.ReadSet.{ReadSet}
use Rattle.art_find.specs.declared.read_sets.Rereading.{Rereading}
use Rattle.art_attempt.proofs.Validates.{left_less, lower_by}
use Rattle.art_attempt.specs.Naming.{IsBelow}
use Rattle.art_attempt.specs.Validate.{BelowFits, Fits, HasLeft, IsLong, IsRereading, IsShort, Knows, KnowsWords, MayRead, OthersStay, Until}
use Rattle.art_attempt.specs.Validate.{after_header, asks, checks_of, depth_under, ended_at, path_below, prefix_in, reads_of, stamp_of, steps_left}
use Rattle.art_attempt.specs.declared.validate.Cells.{Cells as CellsOf}
use Rattle.art_attempt.specs.declared.validate.Role.{Role}
use Rattle.art_attempt.specs.declared.validate.Role.TheVariants.{Above, Here, Lower}
use Rattle.art_attempt.specs.declared.validate.Validate.{Validate}
use Rattle.art_attempt.specs.declared.validate.Validate.TheVariants.{Read, Header, Torn, Ended}
use Rattle.art_attempt.specs.declared.validate.Validated.TheVariants.{Changed}
use Rattle.art_step.specs.Acting.{Answers, telling}
use Rattle.art_step.specs.declared.actions.Action.{Action}
use Rattle.art_step.specs.declared.actions.Action.TheVariants as action
use Rattle.art_step.specs.declared.actions.Answer.{Answer}
use Rattle.art_step.specs.declared.actions.Answer.TheVariants.{Begun, Word, Checked, Upgraded, Done}
use Rattle.art_plan.proofs.WholeCells.{above_is, body_read, has_above, has_read}
use Rattle.art_plan.proofs.WordsWithin.{past_prefix}
use Rattle.art_plan.specs.declared.choose_remove.Lower.{Lower as LowerNode}
use Rattle.art_step.proofs.Shows.{failed_rest, prefix_on}
use Rattle.art_step.specs.Knowledge.{CellAt, HoldsAll, IsShape}
use Rattle.art_step.specs.Steps.Check as check
use Rattle.art_step.specs.Views.{note_of}
use Rattle.art_step.specs.declared.deeds.Deed.{Deed}
use Rattle.art_step.specs.declared.views.Fact.TheVariants as fact
use Rattle.art_step.specs.declared.views.Sizes.{Sizes}
use Rattle.art_step.specs.declared.views.Stamp.{Stamp}
use Rattle.art_step.specs.declared.views.View.{View}
use Rattle.art_tree.specs.Heaps.{Cells, heap_of}
use Rattle.art_tree.specs.Tree.{StandsAt}

-- ---- no tree has such a node

module _ (z : Sizes) (k : List ℕ) (t : Position) (o : CellsOf) (read_set : ReadSet) (lower : List (Option ℕ)) (u v : View) (knows : Knows z k t o read_set lower u v) (l : LowerNode) (is : o.lower ≡ Some l) where
  below : IsBelow z k t read_set l.node l.stamp lower v
  below = (subst (λ (b : Option LowerNode). BelowFits z k t read_set b lower u v) is knows.below).1

  abbrev here : Node
  here = below.parent.here

  over : (a : CellAbove) × (t.above ≡ Some a)
  over = has_above z k t read_set v knows.stands.standing here below.parent.is

  abbrev upper : Body
  upper = body_read here (node_of read_set)

  -- the path that was noted under its stamp
  abbrev path : List ℕ
  path = take over.0.depth k ++ prefix_of (word_of upper) ++ below.parent.byte ∷ []

  path_length : length path ≡ over.0.depth + prefix_in (node_of read_set) + 1
  path_length =
      let front = length-take-le over.0.depth k (above_is z k t read_set v knows.stands.standing here below.parent.is over.0 over.1).deep in
      let middle : length (prefix_of (word_of upper)) ≡ prefix_in (node_of read_set) =
      length-map-range_with_len (packed (word_of upper) 2) 0 (prefix_len (word_of upper)) ∙ ap count_in ((has_read here (node_of read_set)).words 1 (omega (arith, past_prefix here.layout))) in
      omega (arith, front, middle, length-append (take over.0.depth k ++ prefix_of (word_of upper)) (below.parent.byte ∷ []), length-append (take over.0.depth k) (prefix_of (word_of upper)))

  module _ (s : Cells) (shape : IsShape z s) (holds : HoldsAll v l.stamp s) (header : ℕ) (known : word_read lower 1 ≡ Some header) where
    stands_there : StandsAt (heap_of s) (node l.node) path
    stands_there =
        let has = has_read here (node_of read_set) in
        subst (λ (c : Cell). CellAt s c path) below.on.cell
        (holds (note_of l.stamp (fact.Starts path)) (below.led here over.0 upper below.parent.byte below.parent.is over.1 has (below.parent.has upper has)) refl)

    prefix_length : length ((heap_of s).prefix l.node) ≡ count_in header
    prefix_length =
        let word : s (cell.Node l.node) 1 ≡ header =
        subst (λ (c : Cell). s c 1 ≡ header) below.on.cell (holds (note_of l.stamp (fact.Word 1 header)) (below.on.kept.each 1 header known).noted refl) in
        ap length (prefix_on z s l.node path shape stands_there) ∙ length-map-range_with_len (packed (s (cell.Node l.node)) 2) 0 (prefix_len (s (cell.Node l.node))) ∙ ap count_in word

    -- in a tree that has all that was noted under its stamp, the path that its header tells is short
    short_there : path_below t read_set lower ≤ 63
    short_there =
        let short = shape.tree.short l.node path stands_there in
        let front : depth_under t.above ≡ over.0.depth = ap depth_under over.1 in
        let own : prefix_in lower ≡ count_in header = ap (λ (w : Option ℕ). count_in (unwrap_or w 0)) known in
        omega (arith, short, path_length, prefix_length, front, own)

-- so its check does not succeed
pub never_unchanged : (z : Sizes) (k : List ℕ) (t : Position) (o : CellsOf) (read_set : ReadSet) (lower : List (Option ℕ)) (u v w : View) (x : Stamp) → Knows z k t o read_set lower u v → stamp_of t o Lower ≡ Some x
    → IsLong t read_set lower → check.Unchanged z v w x None → ⊥
never_unchanged z k t o read_set lower u v w x knows is long passed =
    let l = lower_by o.lower x is in
    let s = passed.vouched in
    let holds : HoldsAll v l.0.stamp s.0 = subst (λ (y : Stamp). HoldsAll v y s.0) (sym l.2) s.2 in
    let short = short_there z k t o read_set lower u v knows l.0 l.1 s.0 s.1 holds long.header long.known in
    let more = long.long in
    omega (arith, short, more)

-- ---- by the header, which stays known

short_stays : (t : Position) (read_set read_set' : ReadSet) (lower lower' : List (Option ℕ)) → read_set' ≡ read_set → StaysRead lower lower' → IsShort t read_set lower → IsShort t read_set' lower'
short_stays t read_set read_set' lower lower' same stays short =
    let known = stays 1 short.header short.known in
    let bytes : path_below t read_set lower' ≡ path_below t read_set lower =
    ap (λ (w : Option ℕ). depth_under t.above + prefix_in (node_of read_set) + 1 + count_in (unwrap_or w 0)) (known ∙ sym short.known) in
    subst (λ (s : ReadSet). IsShort t s lower') (sym same)
    (record { header = short.header; known = known; short = subst (λ (n : ℕ). n ≤ 63) (sym bytes) short.short })

pub may_read_on : (t : Position) (role : Role) (read_set read_set' : ReadSet) (lower lower' : List (Option ℕ)) → OthersStay role read_set lower read_set' lower' → StaysRead lower lower'
    → MayRead t read_set lower role → MayRead t read_set' lower' role
may_read_on t Above read_set read_set' lower lower' others stays may = tt
may_read_on t Here read_set read_set' lower lower' others stays may = tt
may_read_on t Lower read_set read_set' lower lower' others stays may = short_stays t read_set read_set' lower lower' others stays may

-- what was known of the node below stays so, where it does of the cell that is read
pub lower_stays : (role : Role) (read_set read_set' : ReadSet) (lower lower' : List (Option ℕ)) → OthersStay role read_set lower read_set' lower' → StaysRead (reads_of read_set lower role) (reads_of read_set' lower' role)
    → StaysRead lower lower'
lower_stays Above read_set read_set' lower lower' others stays place word is = ap (λ (reads : List (Option ℕ)). word_read reads place) others.1 ∙ is
lower_stays Here read_set read_set' lower lower' others stays place word is = ap (λ (reads : List (Option ℕ)). word_read reads place) others.1 ∙ is
lower_stays Lower read_set read_set' lower lower' others stays place word is = stays place word is

-- ---- what comes after it

pub after_goes : (bytes : ℕ) (next : Validate) → ended_at next ≡ None → ended_at (after_header bytes next) ≡ None
after_goes bytes next going = cond_both (nat_lt 63 bytes) Torn next (λ (m : Validate). ended_at m ≡ None) (λ e. refl) (λ e. going)

pub after_few : (bytes most : ℕ) (next : Validate) → 0 < most → steps_left next ≤ most → steps_left (after_header bytes next) ≤ most
after_few bytes most next some few = cond_both (nat_lt 63 bytes) Torn next (λ (m : Validate). steps_left m ≤ most) (λ e. omega (arith, some)) (λ e. few)

-- the header is the first word that is not known
header_first : (z : Sizes) (v : View) (x : Stamp) (r : Rereading) (reads : List (Option ℕ)) → RereadingFits z v x r reads → word_read reads 1 ≡ None → r.place ≡ 1
header_first z v x r reads fits unknown = elim (cases_lt 1 r.place) [
  | inl later ↦
      let one = fits.known 1 (omega arith) later in
      let no : None ≡ Some one.0 = sym unknown ∙ one.1 in
      absurd (cc)
  | inr now ↦ let after = fits.after in omega (arith, now, after)
]

module _ (z : Sizes) (k : List ℕ) (t : Position) (o : CellsOf) (read_set : ReadSet) (lower : List (Option ℕ)) (u v : View) (knows : Knows z k t o read_set lower u v) (until : Until (KnowsWords t o read_set lower) Lower) where
  -- it is known: the other words are read only where it tells a short path
  pub after_fits : (next : Validate) (x : Stamp) (header left : ℕ) → stamp_of t o Lower ≡ Some x → word_read lower 1 ≡ Some header → 0 < left → HasLeft u v left 798
      → (IsShort t read_set lower → Fits z k t o next read_set lower u v) → Fits z k t o (after_header (path_below t read_set lower) next) read_set lower u v
  after_fits next x header left is known some has short =
      let bytes = path_below t read_set lower in
      let one = left_less u v left 1 798 (omega (arith, some)) has in
      cond_both (nat_lt 63 bytes) Torn next (λ (m : Validate). Fits z k t o m read_set lower u v)
      (λ long. record {
        stage = (knows, until, record { header = header; known = known; long = ltb-true 63 bytes long }, (x, is));
        failures = one.failures;
        steps = one.steps;
      })
      (λ few. short (record { header = header; known = known; short = ltb-false 63 bytes few }))

  module _ (r : Rereading) (reading : IsRereading z t o read_set lower v Lower r) (has : HasLeft u v 268 798) where
    left_now : HasLeft u v (266 - r.place + 3) 798
    left_now = let after = reading.fits.after in left_less u v 268 (266 - r.place + 3) 798 (omega (arith, after)) has

    -- it is not known: it is read
    pub header_fits : word_read lower 1 ≡ None → Fits z k t o (Header r) read_set lower u v
    header_fits unknown = record {
      stage = (knows, until, reading, header_first z v reading.stamp r lower reading.fits unknown);
      failures = left_now.failures;
      steps = left_now.steps;
    }

    pub others_fit : IsShort t read_set lower → Fits z k t o (Read Lower r) read_set lower u v
    others_fit short = record { stage = (knows, until, reading, short); failures = left_now.failures; steps = left_now.steps }

-- ---- the check of such a node

module _ (z : Sizes) (k : List ℕ) (t : Position) (o : CellsOf) (read_set : ReadSet) (lower : List (Option ℕ)) (u v w : View) where
  torn_answered : (d : Deed) (x : Stamp) (answer : Answer) → Fits z k t o Torn read_set lower u v → stamp_of t o Lower ≡ Some x → Answers z (telling d) (action.Check x) answer v w → Fits z k t o (Ended Changed) read_set lower u w
  torn_answered d x (Begun r) fits is row = absurd row
  torn_answered d x (Word word) fits is row = absurd row
  torn_answered d x (Upgraded r) fits is row = absurd row
  torn_answered d x Done fits is row = absurd row
  torn_answered d x (Checked (Ok done)) fits is row = absurd (never_unchanged z k t o read_set lower u v w x fits.stage.0 is fits.stage.2 row)
  torn_answered d x (Checked (Err e)) fits is row = record {
    stage = reads_on u v w (failed_rest v w x e.found row.3) fits.stage.0.stands.reads;
    failures = ap (λ (y : View). y.failures) row.3.is ∙ ap (λ (n : ℕ). n + 1) fits.failures;
    steps = let step = ap (λ (y : View). y.steps) row.3.is in let few = fits.steps in omega (arith, step, few);
  }

  pub torn_told : (d : Deed) (asked : Action) (answer : Answer) → Fits z k t o Torn read_set lower u v → asks t o Torn ≡ Some asked → Answers z (telling d) asked answer v w → Fits z k t o (Ended Changed) read_set lower u w
  torn_told d asked answer fits is row =
      let x = fits.stage.3 in
      let at : action.Check x.0 ≡ asked = same_Some {A = Action} (action.Check x.0) asked (sym (ap (option_map checks_of) x.1) ∙ is) in
      torn_answered d x.0 answer fits x.1 (subst (λ (a : Action). Answers z (telling d) a answer v w) (sym at) row)
