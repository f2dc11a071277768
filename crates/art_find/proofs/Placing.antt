-- Where a finding stands, from stage to stage: what it knows of the words that it keeps.
use Rattle.std.proofs.Common.{◌≡◌, ℕ, false, List, Option, Some, None, take, refl, sym, ap, ◌∙◌, subst, arith}
use Rattle.std.specs.Prelude.{Ok, Err}
use Rattle.std.proofs.lemmas.Option.{same_Some}
use Rattle.art_cell.specs.declared.cells.Cell.{Cell}
use Rattle.art_cell.specs.declared.cells.Cell.TheVariants as cell
use Rattle.art_cell.specs.declared.cells.Link.{Link}
use Rattle.art_cell.specs.declared.cells.Link.TheVariants.{Leaf as leaf, Node as node}
use Rattle.art_cell.specs.declared.cells.Node.{Node}
use Rattle.art_find.specs.Asking.{MayLook, WantsCheck, WantsVersion}
use Rattle.art_step.specs.Acting.{Answers, HasPath, goes_on, telling}
use Rattle.art_find.specs.Descents.{IsChild, StageFits, Stays, answer_at, asks, most_steps, stage_begun, stage_below, stage_checked, stands_on}
use Rattle.art_step.specs.declared.actions.Answer.{Answer}
use Rattle.art_step.specs.declared.actions.Answer.TheVariants.{Begun, Word as word_told, Checked, Upgraded, Done}
use Rattle.art_step.specs.declared.actions.Action.{Action}
use Rattle.art_step.specs.declared.actions.Action.TheVariants.{Begin, Read, ReadLeaf, Check, Settle, Upgrade, Claim, Write, WriteLeaf, Commit, Release, ClearBit, GiveBack, Free, ReadEpoch, StorePin, RaiseEpoch, ReadPin}
use Rattle.art_find.specs.declared.descents.Descent.{Descent}
use Rattle.art_find.specs.declared.descents.Stage.{Stage}
use Rattle.art_find.specs.declared.descents.Stage.TheVariants.{Start, Anchor, Child, Below, Both, Header, Prefix, Keys, Slot, Value, Length, Bytes, Decided, Ended}
use Rattle.art_find.proofs.Stages.{wants_check, wants_version}
use Rattle.art_find.specs.ReadSets.{above_of, node_of}
use Rattle.art_find.specs.Findings.{Enters, IsAboveOf, IsCleared, IsHeard, IsPlaced, IsUnder, Keeps, PlaceFits}
use Rattle.art_find.specs.Kept.{IsKept}
use Rattle.art_find.specs.declared.read_sets.ReadSet.{ReadSet}
use Rattle.art_find.specs.declared.findings.Above.{Above}
use Rattle.art_find.proofs.Keeping.{Grows, anchor_path, begun_grows, cell_fits, kept_grows, kept_noted, nothing_kept, passed_grows, path_grows, path_passed, read_grows, stamp_grows}
use Rattle.art_step.specs.Shows.{HasChild, HasStamp}
use Rattle.art_step.specs.Steps.Check as check
use Rattle.art_step.specs.Steps.Read as read
use Rattle.art_step.specs.Views.{Member, note_of}
use Rattle.art_step.specs.declared.deeds.Deed.{Deed}
use Rattle.art_step.specs.declared.views.Fact.TheVariants.{Starts, Word, LeafWord}
use Rattle.art_step.specs.declared.views.Sizes.{Sizes}
use Rattle.art_step.specs.declared.views.Stamp.{Stamp}
use Rattle.art_step.specs.declared.views.View.{View}
use Rattle.art_step.proofs.Shows.{shows_more}
use Rattle.art_tree.specs.Heaps.{Cells}

-- ---- all of it stays known

module _ (z : Sizes) (k : List ℕ) (v w : View) (grows : Grows v w) where
  above_grows : (a : Above) (n : Node) → IsAboveOf z k v a n → IsAboveOf z k w a n
  above_grows a n at = record {
    on = stamp_grows z v w a.stamp grows at.on;
    path = path_grows v w a.stamp grows at.path;
    deep = at.deep;
    shows = shows_more z v w a.stamp (λ s. HasChild s a.stamp.cell (node n) _) grows.notes at.shows;
  }

  pub under_grows : (above : Option Above) (reads : List (Option ℕ)) (c : Cell) → IsUnder z k above reads v c → IsUnder z k above reads w c
  under_grows above reads cell.Anchor under = under
  under_grows above reads (cell.Leaf l) under = under
  under_grows above reads (cell.Node n) under = (under.0, under.1, above_grows under.0 n under.2, kept_grows z v w under.0.stamp reads grows under.3)

  pub placed_grows : (above : Option Above) (read_set : ReadSet) (y : Stamp) → IsPlaced z k above read_set v y → IsPlaced z k above read_set w y
  placed_grows above read_set y placed = record {
    kept = kept_grows z v w y (node_of read_set) grows placed.kept;
    path = path_grows v w y grows placed.path;
    led = λ a is. grows.notes _ (placed.led a is);
    under = under_grows above (above_of read_set) y.cell placed.under;
  }

  pub place_grows : (above : Option Above) (read_set : ReadSet) (o : Option Stamp) → PlaceFits z k above read_set v o → PlaceFits z k above read_set w o
  place_grows above read_set None fits = tt
  place_grows above read_set (Some y) fits = placed_grows above read_set y fits

-- ---- a word was read

-- a read is of the cell where it stands, or of a leaf which that names
reads_there : (stage : Stage) (x : Stamp) (i : ℕ) → asks stage ≡ Some (Read x i) → stands_on stage ≡ Some x
reads_there Start x i is = cc
reads_there (Anchor y) x i is = cc
reads_there (Child y d) x i is = cc
reads_there (Below y n) x i is = cc
reads_there (Both a y n) x i is = cc
reads_there (Header y n) x i is = cc
reads_there (Prefix seen j r) x i is = cc
reads_there (Keys seen j) x i is = cc
reads_there (Slot seen place) x i is = cc
reads_there (Value y l) x i is = cc
reads_there (Length y l value) x i is = cc
reads_there (Bytes seen j r) x i is = cc
reads_there (Decided y found) x i is = cc
reads_there (Ended o) x i is = cc

leaf_there : (stage : Stage) (x : Stamp) (l i : ℕ) → asks stage ≡ Some (ReadLeaf x l i) → stands_on stage ≡ Some x
leaf_there Start x l i is = cc
leaf_there (Anchor y) x l i is = cc
leaf_there (Child y d) x l i is = cc
leaf_there (Below y n) x l i is = cc
leaf_there (Both a y n) x l i is = cc
leaf_there (Header y n) x l i is = cc
leaf_there (Prefix seen j r) x l i is = cc
leaf_there (Keys seen j) x l i is = cc
leaf_there (Slot seen place) x l i is = cc
leaf_there (Value y m) x l i is = cc
leaf_there (Length y m value) x l i is = cc
leaf_there (Bytes seen j r) x l i is = cc
leaf_there (Decided y found) x l i is = cc
leaf_there (Ended o) x l i is = cc

module _ (z : Sizes) (k : List ℕ) (v w : View) (above : Option Above) (read_set read_set' : ReadSet) (word : ℕ) where
  placed_read : (x : Stamp) (i : ℕ) → read.May v x i → read.Outcome z v w x i word → IsHeard (Some (Read x i)) word read_set read_set' → IsPlaced z k above read_set v x → IsPlaced z k above read_set' w x
  placed_read x i may row heard placed =
      let grows : Grows v w = read_grows v w x (Word i word) row.is in
      let inside = may.place.1 in
      let fits = cell_fits x.cell in
      record {
        kept = subst (IsKept z w x) (sym heard.node) (kept_noted (node_of read_set) placed.kept.room i word (omega (arith, inside, fits)) z v w x may.place.0 inside row placed.kept);
        path = path_grows v w x grows placed.path;
        led = λ a at. grows.notes _ (placed.led a at);
        under = subst (λ (r : List (Option ℕ)). IsUnder z k above r w x.cell) (sym heard.above) (under_grows z k v w grows above (above_of read_set) x.cell placed.under);
      }

  placed_leaf : (x : Stamp) (l i : ℕ) → read.LeafOutcome v w x l i word → IsHeard (Some (ReadLeaf x l i)) word read_set read_set' → IsPlaced z k above read_set v x → IsPlaced z k above read_set' w x
  placed_leaf x l i is heard placed =
      let grows : Grows v w = read_grows v w x (LeafWord l i word) is in
      record {
        kept = subst (IsKept z w x) (sym heard.node) (kept_grows z v w x (node_of read_set) grows placed.kept);
        path = path_grows v w x grows placed.path;
        led = λ a at. grows.notes _ (placed.led a at);
        under = subst (λ (r : List (Option ℕ)). IsUnder z k above r w x.cell) (sym heard.above) (under_grows z k v w grows above (above_of read_set) x.cell placed.under);
      }

  heard_fits : (so : Cells → Type 0) (d : Deed) (stage : Stage) (a : Action) → asks stage ≡ Some a → MayLook z so v a → Answers z (telling d) a (word_told word) v w
      → IsHeard (Some a) word read_set read_set' → PlaceFits z k above read_set v (stands_on stage) → PlaceFits z k above read_set' w (stands_on stage)
  heard_fits so d stage (Read x i) is may row heard fits =
      let there = reads_there stage x i is in
      subst (PlaceFits z k above read_set' w) (sym there) (placed_read x i may.1 row heard (subst (PlaceFits z k above read_set v) there fits))
  heard_fits so d stage (ReadLeaf x l i) is may row heard fits =
      let there = leaf_there stage x l i is in
      subst (PlaceFits z k above read_set' w) (sym there) (placed_leaf x l i row heard (subst (PlaceFits z k above read_set v) there fits))
  heard_fits so d stage (Begin c) is may row heard fits = absurd row
  heard_fits so d stage (Check x) is may row heard fits = absurd row
  heard_fits so d stage (Settle x) is may row heard fits = absurd row
  heard_fits so d stage (Upgrade x) is may row heard fits = absurd may
  heard_fits so d stage (Claim n) is may row heard fits = absurd may
  heard_fits so d stage (Write c i y) is may row heard fits = absurd may
  heard_fits so d stage (WriteLeaf l i y) is may row heard fits = absurd may
  heard_fits so d stage (Commit c b) is may row heard fits = absurd may
  heard_fits so d stage (Release c b) is may row heard fits = absurd may
  heard_fits so d stage (ClearBit p i b) is may row heard fits = absurd may
  heard_fits so d stage (GiveBack d') is may row heard fits = absurd may
  heard_fits so d stage (Free d') is may row heard fits = absurd may
  heard_fits so d stage ReadEpoch is may row heard fits = absurd may
  heard_fits so d stage (StorePin y) is may row heard fits = absurd may
  heard_fits so d stage RaiseEpoch is may row heard fits = absurd may
  heard_fits so d stage (ReadPin q) is may row heard fits = absurd may

-- ---- a version word was clear, or unchanged

module _ (z : Sizes) (k : List ℕ) (u v w : View) (above above' : Option Above) (read_set read_set' : ReadSet) where
  -- what is kept stays as it was
  stays_there : (o : Option Stamp) → Grows v w → (above' ≡ above) × (read_set' ≡ read_set) → PlaceFits z k above read_set v o → PlaceFits z k above' read_set' w o
  stays_there o grows same fits =
      subst (λ (a : Option Above). PlaceFits z k a read_set' w o) (sym same.0)
      (subst (λ (d : ReadSet). PlaceFits z k above d w o) (sym same.1) (place_grows z k v w grows above read_set o fits))

  -- the anchor was stamped
  anchor_entered : (y : Stamp) → y.cell ≡ cell.Anchor → HasPath w y → above' ≡ None → IsCleared (above_of read_set) read_set' → IsPlaced z k above' read_set' w y
  anchor_entered y at path none cleared = record {
    kept = nothing_kept z w y (node_of read_set') cleared.node;
    path = path;
    led = λ a is. let no : None ≡ Some a = sym none ∙ is in cc;
    under = subst (IsUnder z k above' (above_of read_set') w) (sym at) none;
  }

  -- the cell that names a node was checked: it is above now
  node_entered : (depth : ℕ) (x y : Stamp) (n : Node) → check.Unchanged z v w x None → HasStamp z v y → y.cell ≡ cell.Node n → IsChild z k depth x (node n) v → above' ≡ Some (record { stamp = x; depth = depth })
      → IsCleared (node_of read_set) read_set' → IsPlaced z k above read_set v x → IsPlaced z k above' read_set' w y
  node_entered depth x y n row has at child is cleared placed =
      let grows : Grows v w = passed_grows z v w x None row in
      let led = path_passed z v w x y None n (take depth k) row has.stamp at child.shows in
      record {
        kept = nothing_kept z w y (node_of read_set') cleared.node;
        path = (take depth k, led);
        led = λ a here.
            let one : record { stamp = x; depth = depth } ≡ a = same_Some {A = Above} (record { stamp = x; depth = depth }) a (sym is ∙ here) in
            subst (λ (b : Above). Member (note_of y (Starts (take b.depth k))) w.notes) one led;
        under = subst (IsUnder z k above' (above_of read_set') w) (sym at) (
          record { stamp = x; depth = depth },
          is,
          record {
            on = stamp_grows z v w x grows child.stamp;
            path = path_grows v w x grows placed.path;
            deep = child.deep;
            shows = shows_more z v w x (λ s. HasChild s x.cell (node n) _) grows.notes child.shows;
          },
          subst (IsKept z w x) (sym cleared.above) (kept_grows z v w x (node_of read_set) grows placed.kept),
        );
      }

  begun_fits : (depth : ℕ) (d : Deed) (stage : Stage) (y : Stamp) → WantsVersion (asks stage) → ((a : Action) → asks stage ≡ Some a → Answers z (telling d) a (Begun (Ok y)) v w)
      → Enters (asks stage) (asks (stage_begun y stage)) depth above read_set above' read_set' → PlaceFits z k above read_set v (stands_on stage) → PlaceFits z k above' read_set' w (stands_on (stage_begun y stage))
  begun_fits depth d Start y wants rows enters fits =
      let row = rows (Begin cell.Anchor) refl in
      anchor_entered y (ap (λ (a : Stamp). a.cell) row.0) (anchor_path z v w y y.version row.0 row.1 row.2) enters.0 enters.1
  begun_fits depth d (Below x n) y wants rows enters fits =
      let row = rows (Begin (cell.Node n)) refl in
      stays_there (Some x) (begun_grows z v w (cell.Node n) y.version row.1 row.2) enters fits
  begun_fits depth d (Anchor x) y wants rows enters fits = absurd wants
  begun_fits depth d (Child x e) y wants rows enters fits = absurd wants
  begun_fits depth d (Both x a n) y wants rows enters fits = absurd wants
  begun_fits depth d (Header a n) y wants rows enters fits = absurd wants
  begun_fits depth d (Prefix seen i r) y wants rows enters fits = absurd wants
  begun_fits depth d (Keys seen i) y wants rows enters fits = absurd wants
  begun_fits depth d (Slot seen place) y wants rows enters fits = absurd wants
  begun_fits depth d (Value x l) y wants rows enters fits = absurd wants
  begun_fits depth d (Length x l value) y wants rows enters fits = absurd wants
  begun_fits depth d (Bytes seen i r) y wants rows enters fits = absurd wants
  begun_fits depth d (Decided x found) y wants rows enters fits = absurd wants
  begun_fits depth d (Ended o) y wants rows enters fits = absurd wants

  child_fits : (depth : ℕ) (x : Stamp) (e : Link) → Grows v w → Enters (Some (Check x)) (asks (stage_below x e)) depth above read_set above' read_set' → PlaceFits z k above read_set v (Some x) → PlaceFits z k above' read_set' w (stands_on (stage_below x e))
  child_fits depth x (leaf l) grows enters fits = stays_there (Some x) grows enters fits
  child_fits depth x (node n) grows enters fits = stays_there (Some x) grows enters fits

  checked_fits : (what : Option ℕ → Deed) (depth : ℕ) (d : Deed) (stage : Stage) (t : Unit {0}) → WantsCheck (asks stage) → ((a : Action) → asks stage ≡ Some a → Answers z (telling d) a (Checked (Ok t)) v w)
      → StageFits z k what depth stage u v → Enters (asks stage) (asks (stage_checked stage)) depth above read_set above' read_set' → PlaceFits z k above read_set v (stands_on stage) → PlaceFits z k above' read_set' w (stands_on (stage_checked stage))
  checked_fits what depth d (Child x e) t wants rows known enters fits = child_fits depth x e (passed_grows z v w x None (rows (Check x) refl)) enters fits
  checked_fits what depth d (Both x y n) t wants rows known enters fits = node_entered depth x y n (rows (Check x) refl) known.0.stamp known.0.cell known.1 enters.0 enters.1 fits
  checked_fits what depth d (Decided x found) t wants rows known enters fits = tt
  checked_fits what depth d Start t wants rows known enters fits = absurd wants
  checked_fits what depth d (Anchor x) t wants rows known enters fits = absurd wants
  checked_fits what depth d (Below x n) t wants rows known enters fits = absurd wants
  checked_fits what depth d (Header y n) t wants rows known enters fits = absurd wants
  checked_fits what depth d (Prefix seen i r) t wants rows known enters fits = absurd wants
  checked_fits what depth d (Keys seen i) t wants rows known enters fits = absurd wants
  checked_fits what depth d (Slot seen place) t wants rows known enters fits = absurd wants
  checked_fits what depth d (Value x l) t wants rows known enters fits = absurd wants
  checked_fits what depth d (Length x l value) t wants rows known enters fits = absurd wants
  checked_fits what depth d (Bytes seen i r) t wants rows known enters fits = absurd wants
  checked_fits what depth d (Ended o) t wants rows known enters fits = absurd wants

-- ---- it restarts

pub stands_nowhere : (depth : ℕ) (stage : Stage) → most_steps depth stage ≡ 0 → stands_on stage ≡ None
stands_nowhere depth Start none = refl
stands_nowhere depth (Anchor x) none = absurd (omega (arith, none))
stands_nowhere depth (Child x d) none = absurd (omega (arith, none))
stands_nowhere depth (Below x n) none = absurd (omega (arith, none))
stands_nowhere depth (Both x y n) none = absurd (omega (arith, none))
stands_nowhere depth (Header y n) none = absurd (omega (arith, none))
stands_nowhere depth (Prefix seen i r) none = absurd (omega (arith, none))
stands_nowhere depth (Keys seen i) none = absurd (omega (arith, none))
stands_nowhere depth (Slot seen place) none = absurd (omega (arith, none))
stands_nowhere depth (Value x l) none = absurd (omega (arith, none))
stands_nowhere depth (Length x l value) none = absurd (omega (arith, none))
stands_nowhere depth (Bytes seen i r) none = absurd (omega (arith, none))
stands_nowhere depth (Decided x found) none = absurd (omega (arith, none))
stands_nowhere depth (Ended o) none = refl

-- ---- whatever was answered

module _ (z : Sizes) (k : List ℕ) (what : Option ℕ → Deed) (u v w : View) (above above' : Option Above) (read_set read_set' : ReadSet) (m m' : Descent) (so : Cells → Type 0) (a : Action) (is : asks m.stage ≡ Some a) where
  -- what was asked for is known by the stage
  rows_of : (answer : Answer) → Answers z (telling (what (answer_at m.stage))) a answer v w → (b : Action) → asks m.stage ≡ Some b → Answers z (telling (what (answer_at m.stage))) b answer v w
  rows_of answer row b at = subst (λ (c : Action). Answers z (telling (what (answer_at m.stage))) c answer v w) (same_Some {A = Action} a b (sym is ∙ at)) row

  pub told_fits : (answer : Answer) → Answers z (telling (what (answer_at m.stage))) a answer v w → MayLook z so v a → StageFits z k what m.depth m.stage u v
      → Stays answer m m' → (goes_on answer ≡ false → most_steps m'.depth m'.stage ≡ 0) → Keeps answer (asks m.stage) (asks m'.stage) m'.depth above read_set above' read_set'
      → PlaceFits z k above read_set v (stands_on m.stage) → PlaceFits z k above' read_set' w (stands_on m'.stage)
  told_fits (word_told word) row may known stays anew keeps fits =
      subst (λ (o : Option Stamp). PlaceFits z k above' read_set' w o) (sym stays)
      (subst (λ (o : Option Above). PlaceFits z k o read_set' w (stands_on m.stage)) (sym keeps.0)
      (heard_fits z k v w above read_set read_set' word so (what (answer_at m.stage)) m.stage a is may row (subst (λ (o : Option Action). IsHeard o word read_set read_set') is keeps.1) fits))
  told_fits (Begun (Ok y)) row may known stays anew keeps fits =
      let now : m'.stage ≡ stage_begun y m.stage = ap (λ (n : Descent). n.stage) stays in
      let still = subst (λ (i : ℕ). Enters (asks m.stage) (asks m'.stage) i above read_set above' read_set') (ap (λ (n : Descent). n.depth) stays) keeps in
      subst (λ (t : Stage). PlaceFits z k above' read_set' w (stands_on t)) (sym now)
      (begun_fits z k u v w above above' read_set read_set' m.depth (what (answer_at m.stage)) m.stage y (subst WantsVersion (sym is) (wants_version z (what (answer_at m.stage)) a (Ok y) v w row)) (rows_of (Begun (Ok y)) row)
      (subst (λ (t : Stage). Enters (asks m.stage) (asks t) m.depth above read_set above' read_set') now still) fits)
  told_fits (Begun (Err e)) row may known stays anew keeps fits = subst (PlaceFits z k above' read_set' w) (sym (stands_nowhere m'.depth m'.stage (anew refl))) tt
  told_fits (Checked (Ok t)) row may known stays anew keeps fits =
      let now : m'.stage ≡ stage_checked m.stage = ap (λ (n : Descent). n.stage) stays in
      let still = subst (λ (i : ℕ). Enters (asks m.stage) (asks m'.stage) i above read_set above' read_set') (ap (λ (n : Descent). n.depth) stays) keeps in
      subst (λ (t : Stage). PlaceFits z k above' read_set' w (stands_on t)) (sym now)
      (checked_fits z k u v w above above' read_set read_set' what m.depth (what (answer_at m.stage)) m.stage t (subst WantsCheck (sym is) (wants_check z (what (answer_at m.stage)) a (Ok t) v w row)) (rows_of (Checked (Ok t)) row) known
      (subst (λ (t : Stage). Enters (asks m.stage) (asks t) m.depth above read_set above' read_set') now still) fits)
  told_fits (Checked (Err e)) row may known stays anew keeps fits = subst (PlaceFits z k above' read_set' w) (sym (stands_nowhere m'.depth m'.stage (anew refl))) tt
  told_fits (Upgraded r) row may known stays anew keeps fits = absurd stays
  told_fits Done row may known stays anew keeps fits = absurd stays
