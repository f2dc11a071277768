-- What was found stays found while more words of the two cells are read.
use Rattle.std.proofs.Common.{◌≡◌, ℕ, List, Option, Some, sym, ◌∙◌, subst}
use Rattle.std.proofs.lemmas.Option.{same_Some}
use Rattle.art_find.specs.Verdicts.{Says}
use Rattle.art_find.specs.declared.descents.Verdict.{Verdict}
use Rattle.art_find.specs.declared.descents.Verdict.TheVariants.{Found, Empty, LeafMismatch, PrefixMismatch, NoChild, Overlaps, Torn}
use Rattle.art_find.specs.ReadSets.{above_of, node_of}
use Rattle.art_find.specs.Findings.{IsPlaced, IsStanding, IsUnder}
use Rattle.art_find.specs.Kept.{IsKept}
use Rattle.art_find.specs.declared.read_sets.ReadSet.{ReadSet}
use Rattle.art_find.specs.declared.findings.Above.{Above}
use Rattle.art_find.specs.declared.findings.Position.{Position}
use Rattle.art_find.proofs.Keeping.{Grows, kept_grows, path_grows, stamp_grows}
use Rattle.art_find.proofs.Placing.{placed_grows, under_grows}
use Rattle.art_cell.specs.declared.cells.Cell.TheVariants as cell
use Rattle.art_cell.specs.declared.cells.Node.{Node}
use Rattle.art_step.specs.declared.views.Sizes.{Sizes}
use Rattle.art_step.specs.declared.views.Stamp.{Stamp}
use Rattle.art_step.specs.declared.views.View.{View}
use Rattle.art_step.proofs.Shows.{shows_more}

-- what a verdict says stays so as more is noted
pub says_grows : (z : Sizes) (k : List ℕ) (depth : ℕ) (x : Stamp) (found : Verdict) (v w : View) → Grows v w → Says z k depth x found v → Says z k depth x found w
says_grows z k depth x (Found l value) v w grows says = (says.0, shows_more z v w x _ grows.notes says.1)
says_grows z k depth x Empty v w grows says = (says.0, shows_more z v w x _ grows.notes says.1)
says_grows z k depth x (LeafMismatch l at byte) v w grows says = (says.0, says.1, shows_more z v w x _ grows.notes says.2)
says_grows z k depth x (PrefixMismatch n header at) v w grows says = (says.0, says.1, says.2, shows_more z v w x _ grows.notes says.3)
says_grows z k depth x (NoChild n header) v w grows says = (says.0, says.1, shows_more z v w x _ grows.notes says.2)
says_grows z k depth x Overlaps v w grows says = shows_more z v w x _ grows.notes says
says_grows z k depth x Torn v w grows says = shows_more z v w x _ grows.notes says

module _ (z : Sizes) (k : List ℕ) (v w : View) (above : Option Above) (read_set read_set' : ReadSet) (y : Stamp) (grows : Grows v w) where
  -- more of the cell is kept
  pub placed_node : above_of read_set' ≡ above_of read_set → IsKept z w y (node_of read_set') → IsPlaced z k above read_set v y → IsPlaced z k above read_set' w y
  placed_node rest kept placed = record {
    kept = kept;
    path = path_grows v w y grows placed.path;
    led = λ a is. grows.notes _ (placed.led a is);
    under = subst (λ (r : List (Option ℕ)). IsUnder z k above r w y.cell) (sym rest) (under_grows z k v w grows above (above_of read_set) y.cell placed.under);
  }

  -- or of the cell above it
  pub placed_above : (x : Above) (n : Node) → above ≡ Some x → y.cell ≡ cell.Node n → node_of read_set' ≡ node_of read_set → IsKept z w x.stamp (above_of read_set') → IsPlaced z k above read_set v y
      → IsPlaced z k above read_set' w y
  placed_above x n is at rest kept placed =
      let under : IsUnder z k above (above_of read_set) w (cell.Node n) = under_grows z k v w grows above (above_of read_set) (cell.Node n) (subst (IsUnder z k above (above_of read_set) v) at placed.under) in
      let one : under.0 ≡ x = same_Some {A = Above} under.0 x (sym under.1 ∙ is) in
      record {
        kept = subst (IsKept z w y) (sym rest) (kept_grows z v w y (node_of read_set) grows placed.kept);
        path = path_grows v w y grows placed.path;
        led = λ a here. grows.notes _ (placed.led a here);
        under = subst (IsUnder z k above (above_of read_set') w) (sym at) (under.0, under.1, under.2, subst (λ (a : Above). IsKept z w a.stamp (above_of read_set')) (sym one) kept);
      }

-- where the key stands stays known as stamps and notes are added
pub standing_grows : (z : Sizes) (k : List ℕ) (t : Position) (read_set : ReadSet) (v w : View) → Grows v w → IsStanding z k t read_set v → IsStanding z k t read_set w
standing_grows z k t read_set v w grows at = record {
  stamp = stamp_grows z v w t.stamp grows at.stamp;
  deep = at.deep;
  says = says_grows z k t.depth t.stamp t.verdict v w grows at.says;
  place = placed_grows z k v w grows t.above read_set t.stamp at.place;
}

-- and as more of the two cells is kept
pub standing_stays : (z : Sizes) (k : List ℕ) (t : Position) (read_set read_set' : ReadSet) (v w : View) → Grows v w → IsPlaced z k t.above read_set' w t.stamp → IsStanding z k t read_set v
    → IsStanding z k t read_set' w
standing_stays z k t read_set read_set' v w grows placed at = record {
  stamp = stamp_grows z v w t.stamp grows at.stamp;
  deep = at.deep;
  says = says_grows z k t.depth t.stamp t.verdict v w grows at.says;
  place = placed;
}
