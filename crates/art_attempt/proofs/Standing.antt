-- Where the key stands, and what stands below it, stays known while cells are only read and checked.
use Rattle.std.proofs.Common.{◌≡◌, ℕ, ◌≤◌, arith, List, Option, Some, None, inl, inr, refl, sym, ap, ◌∙◌, subst}
use Rattle.std.proofs.lemmas.Option.{same_Some}
use Rattle.art_cell.specs.Reads.{word_read}
use Rattle.art_cell.specs.declared.cells.Body.{Body}
use Rattle.art_cell.specs.declared.cells.Cell.{Cell}
use Rattle.art_cell.specs.declared.cells.Cell.TheVariants as cell
use Rattle.art_cell.specs.declared.cells.Node.{Node}
use Rattle.art_find.proofs.FoundPlaces.{placed_above, placed_node, standing_grows, standing_stays}
use Rattle.art_find.proofs.Keeping.{Grows, kept_grows, path_grows, stamp_grows}
use Rattle.art_find.proofs.Stages.{reads_on}
use Rattle.art_find.specs.Findings.{IsUnder}
use Rattle.art_find.specs.Kept.{IsKept}
use Rattle.art_find.specs.ReadSets.{above_of, node_of}
use Rattle.art_find.specs.Rereadings.{AreKnown}
use Rattle.art_find.specs.Runs.{HasReadOnly}
use Rattle.art_find.specs.declared.findings.Above.{Above as CellAbove}
use Rattle.art_find.specs.declared.findings.Position.{Position}
use Rattle.art_find.specs.declared.read_sets.ReadSet.{ReadSet}
use Rattle.art_attempt.specs.Naming.{IsBelow, IsLed, IsLower, IsParent, StillNames, StillStands, WouldLead}
use Rattle.art_attempt.specs.Reserve.{StayFound}
use Rattle.art_attempt.specs.Validate.{FoundAt, HasJustChecked}
use Rattle.art_step.specs.Acting.{HasPath}
use Rattle.art_plan.specs.ChooseInsert.Bodies.{HasWords}
use Rattle.art_step.specs.Shows.{HasStamp, OnlyReads}
use Rattle.art_step.specs.Steps.Check as check
use Rattle.art_step.specs.Views.{Member, size_of}
use Rattle.art_step.specs.declared.views.Found.{Found}
use Rattle.art_step.specs.declared.views.Sizes.{Sizes}
use Rattle.art_step.specs.declared.views.Stamp.{Stamp}
use Rattle.art_step.specs.declared.views.View.{View}

-- ---- the cell above

-- it is stamped, with its path, and what is kept of it was read; the cell below it is a node
pub record IsOver (z : Sizes) (v : View) (a : CellAbove) (reads : List (Option ℕ)) (c : Cell) : Type 0 where
  pub stamp : HasStamp z v a.stamp
  pub path : HasPath v a.stamp
  pub kept : IsKept z v a.stamp reads
  pub node : Node
  pub is : c ≡ cell.Node node

pub under_over : (z : Sizes) (k : List ℕ) (o : Option CellAbove) (reads : List (Option ℕ)) (v : View) (c : Cell) (a : CellAbove) → IsUnder z k o reads v c → o ≡ Some a → IsOver z v a reads c
under_over z k o reads v cell.Anchor a under is = let no : None ≡ Some a = sym under ∙ is in cc
under_over z k o reads v (cell.Leaf l) a under is = absurd under
under_over z k o reads v (cell.Node n) a under is =
    let one : under.0 ≡ a = same_Some {A = CellAbove} under.0 a (sym under.1 ∙ is) in
    record {
      stamp = subst (λ (y : CellAbove). HasStamp z v y.stamp) one under.2.on;
      path = subst (λ (y : CellAbove). HasPath v y.stamp) one under.2.path;
      kept = subst (λ (y : CellAbove). IsKept z v y.stamp reads) one under.3;
      node = n;
      is = refl;
    }

-- ---- a check that succeeded

module _ (z : Sizes) (v w : View) (x : Stamp) (passed : check.Unchanged z v w x None) where
  -- it is a step
  pub passed_later : v.steps ≤ w.steps
  passed_later = let step = ap (λ (y : View). y.steps) passed.is in omega (arith, step)

  -- by which the word was found, and none is forgotten
  pub passed_stays : StayFound v w
  passed_stays y there = subst (λ (found : List Found). Member y found) (sym (ap (λ (s : View). s.found) passed.is)) (inr there)

  pub passed_found : FoundAt x w.steps w
  passed_found = subst (λ (s : View). FoundAt x s.steps s) (sym passed.is) (inl refl)

  -- what the pass knows is what it knew at the check
  pub passed_just : (u : View) → u.steps ≤ v.steps → HasJustChecked u w
  passed_just u later =
      let step = ap (λ (y : View). y.steps) passed.is in
      let at = ap (λ (y : View). y.checked.step) passed.is in
      record {
        stamps = ap (λ (y : View). y.checked.stamps) passed.is ∙ sym (ap (λ (y : View). y.stamps) passed.is);
        notes = ap (λ (y : View). y.checked.notes) passed.is ∙ sym (ap (λ (y : View). y.notes) passed.is);
        after = omega (arith, later, at);
        done = omega (arith, at, step);
      }

-- ---- where the key stands

pub stands_grows : (z : Sizes) (k : List ℕ) (t : Position) (read_set : ReadSet) (u v w : View) → Grows v w → OnlyReads v w → v.steps ≤ w.steps → StillStands z k t read_set u v → StillStands z k t read_set u w
stands_grows z k t read_set u v w grows only later stands = record {
  reads = reads_on u v w only stands.reads;
  later = let before = stands.later in omega (arith, before, later);
  standing = standing_grows z k t read_set v w grows stands.standing;
}

module _ (z : Sizes) (k : List ℕ) (t : Position) (read_set read_set' : ReadSet) (u v w : View) (n : ℕ) (only : HasReadOnly v w n) (p : StillStands z k t read_set u v) where
  later_reads : u.steps ≤ w.steps
  later_reads = let steps = only.steps in let before = p.later in omega (arith, steps, before)

  -- words of the cell where the key stands were read
  pub here_after : above_of read_set' ≡ above_of read_set → IsKept z w t.stamp (node_of read_set') → StillStands z k t read_set' u w
  here_after same kept = record {
    reads = reads_on u v w only.rest p.reads;
    later = later_reads;
    standing = standing_stays z k t read_set read_set' v w only.grows (placed_node z k v w t.above read_set read_set' t.stamp only.grows same kept p.standing.place) p.standing;
  }

  -- or of the cell above
  pub above_after : (a : CellAbove) → t.above ≡ Some a → node_of read_set' ≡ node_of read_set → IsKept z w a.stamp (above_of read_set') → StillStands z k t read_set' u w
  above_after a at same kept =
      let over = under_over z k t.above (above_of read_set) v t.stamp.cell a p.standing.place.under at in
      record {
        reads = reads_on u v w only.rest p.reads;
        later = later_reads;
        standing = standing_stays z k t read_set read_set' v w only.grows (placed_above z k v w t.above read_set read_set' t.stamp only.grows a over.node at over.is same kept p.standing.place) p.standing;
      }

-- ---- the node below

module _ (z : Sizes) (k : List ℕ) (t : Position) (n : Node) (read_set read_set' : ReadSet) (same : node_of read_set' ≡ node_of read_set) where
  -- it is named by the same words
  pub names_on : (u v w : View) → StillStands z k t read_set' u w → StillNames z k t n read_set u v → StillNames z k t n read_set' u w
  names_on u v w stands names = record {
    stands = stands;
    whole = subst (λ (reads : List (Option ℕ)). AreKnown reads 1 (size_of t.stamp.cell)) (sym same) names.whole;
    here = names.here;
    is = names.is;
    named = record {
      place = names.named.place;
      child = names.named.child;
      word = names.named.word;
      read = ap (λ (reads : List (Option ℕ)). word_read reads names.named.place) same ∙ names.named.read;
      names = names.named.names;
    };
  }

  has_grown : (here : Node) (body : Body) → HasWords here (node_of read_set') body → HasWords here (node_of read_set) body
  has_grown here body has = subst (λ (reads : List (Option ℕ)). HasWords here reads body) same has

  parent_grows : IsParent t read_set n → IsParent t read_set' n
  parent_grows parent = record {
    here = parent.here;
    is = parent.is;
    byte = parent.byte;
    meaning = λ body has. parent.meaning body (has_grown parent.here body has);
    has = λ body has. parent.has body (has_grown parent.here body has);
  }

  module _ (v w : View) (grows : Grows v w) where
    led_grows : (x : Stamp) → IsLed k t read_set n v x → IsLed k t read_set' n w x
    led_grows x led here a body byte is above has lower = grows.notes _ (led here a body byte is above (has_grown here body has) lower)

    pub leads_grow : WouldLead k t read_set n v → WouldLead k t read_set' n w
    leads_grow leads a is at = led_grows a.stamp (leads a is at)

    -- also as more words of it are known
    pub below_grows : (x : Stamp) (lower lower' : List (Option ℕ)) → IsKept z w x lower' → IsBelow z k t read_set n x lower v → IsBelow z k t read_set' n x lower' w
    below_grows x lower lower' kept below = record {
      on = record { cell = below.on.cell; stamp = stamp_grows z v w x grows below.on.stamp; kept = kept };
      parent = parent_grows below.parent;
      other = below.other;
      path = path_grows v w x grows below.path;
      led = led_grows x below.led;
    }

pub lower_grows : (z : Sizes) (n : Node) (v w : View) (x : Stamp) (lower : List (Option ℕ)) → Grows v w → IsLower z n x lower v → IsLower z n x lower w
lower_grows z n v w x lower grows on = record { cell = on.cell; stamp = stamp_grows z v w x grows on.stamp; kept = kept_grows z v w x lower grows on.kept }
