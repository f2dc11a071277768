-- The cell above has the node as its child: the site of the node, and what a plan that writes both knows.
use Rattle.std.proofs.Common.{◌≡◌, ◌≢◌, ℕ, ◌-◌, ◌<◌, List, get_or, take, Some, refl, sym, ◌∙◌, subst}
use Rattle.std.specs.Borrow.{Bor}
use Rattle.art_cell.specs.Children.{child_word}
use Rattle.art_cell.specs.declared.cells.Body.{Body}
use Rattle.art_cell.specs.declared.cells.Cell.{Cell}
use Rattle.art_cell.specs.declared.cells.Cell.TheVariants as cell
use Rattle.art_cell.specs.declared.cells.Link.{Link}
use Rattle.art_cell.specs.declared.cells.Link.TheVariants.{Node as node}
use Rattle.art_cell.specs.declared.cells.Node.{Node}
use Rattle.art_plan.specs.ChooseInsert.Bodies.{IsFilled, site_in}
use Rattle.art_plan.specs.ChooseInsert.Seen.{WasSeen}
use Rattle.art_plan.proofs.SiteWords.{site_apart}
use Rattle.art_plan.specs.Seen.{HasBelow}
use Rattle.art_plan.specs.Puts.{IsTaken}
use Rattle.art_find.specs.ReadSets.{above_of, node_of}
use Rattle.art_find.specs.Findings.{IsStanding}
use Rattle.art_find.specs.Rereadings.{AreKnown}
use Rattle.art_find.specs.declared.read_sets.ReadSet.{ReadSet}
use Rattle.art_find.specs.declared.findings.Above.{Above}
use Rattle.art_find.specs.declared.findings.Position.{Position}
use Rattle.art_plan.specs.Seen.{SiteFits, site_stamp}
use Rattle.art_plan.specs.declared.changes.Site.{Site}
use Rattle.art_step.specs.Knowledge.{CellAt, HoldsAll, IsShape}
use Rattle.art_step.specs.Shows.{HasChild, Shows}
use Rattle.art_step.specs.Views.{note_of, size_of}
use Rattle.art_step.specs.declared.views.Fact.TheVariants.{Starts}
use Rattle.art_step.specs.declared.views.Sizes.{Sizes}
use Rattle.art_step.specs.declared.views.Stamp.{Stamp}
use Rattle.art_step.specs.declared.views.View.{View}
use Rattle.art_tree.proofs.ChildWords.{link_exact}
use Rattle.art_tree.proofs.Meanings.{words_mean}
use Rattle.art_tree.specs.Heaps.{Cells, heap_of}
use Rattle.art_tree.specs.Tree.{StandsAt}
use Rattle.art_tree.specs.WordChanges.{FitsWord}
use Rattle.art_plan.proofs.ChildSites.{site_deep, site_fits, site_taken, stamp_in}
use Rattle.art_plan.proofs.NewWords.{IsOtherRoot, IsSiteOf, site_of}
use Rattle.art_plan.proofs.RootWords.{root_other}
use Rattle.art_plan.proofs.SeenBodies.{child_fits}
use Rattle.art_plan.proofs.WholeCells.{IsWhole, above_is, above_whole, node_whole, read_whole}

-- the number of a child takes 32 bits: a word names it
pub named_fits : (z : Sizes) (s : Cells) (c : Cell) (d : Link) (p : List ℕ) → IsShape z s → HasChild s c d p → FitsWord d
named_fits z s cell.Anchor d p shape has = (link_exact (s cell.Anchor 1) d (sym (words_mean s).root ∙ has.names)).1
named_fits z s (cell.Leaf l) d p shape has = let no = has.names in absurd (cc)
named_fits z s (cell.Node m) d p shape has = child_fits z s shape m has.path has.there has.byte d has.names

-- what a pass knows of the cell above, where it has the node n
module _ (z : Sizes) (k : List ℕ) (t : Position) (read_set : ReadSet) (n : Node) (on : t.stamp.cell ≡ cell.Node n) (a : Above) (is : t.above ≡ Some a) where
  abbrev byte : ℕ
  byte = get_or k (a.depth - 1) 0

  -- the path by which it has the node was noted of the node
  pub led_there : (u : View) (s : Cells) → IsStanding z k t read_set u → HoldsAll u t.stamp s → StandsAt (heap_of s) (node n) (take a.depth k)
  led_there u s standing holds = subst (λ (c : Cell). CellAt s c (take a.depth k)) on (holds (note_of t.stamp (Starts (take a.depth k))) (standing.place.led a is) refl)

  module _ (u : View) (standing : IsStanding z k t read_set u) (known : AreKnown (above_of read_set) 1 (size_of a.stamp.cell)) where
    whole : IsWhole z u a.stamp (above_of read_set)
    whole = above_whole z k t read_set u standing n on a is known

    shows : Shows z u a.stamp (λ s. HasChild s a.stamp.cell (node n) (take a.depth k))
    shows = (above_is z k t read_set u standing n on a is).shows

    fits : (body : Bor Body) → IsFilled a.stamp.cell (above_of read_set) body.now → byte < 256 → SiteFits z u (site_in a.stamp body byte) k a.depth (Some (node n))
    fits = site_fits z u a.stamp (above_of read_set) whole (node n) k a.depth (above_is z k t read_set u standing n on a is).deep shows

  module _ (old : WasSeen z k t read_set a.stamp (above_of read_set)) where
    pub above_deep : (m : Node) → a.stamp.cell ≡ cell.Node m → 0 < a.depth
    above_deep = site_deep z old.0.view a.stamp (above_of read_set) (whole old.0.view old.0.standing old.1) (node n) k a.depth (above_is z k t read_set old.0.view old.0.standing n on a is).deep
        (shows old.0.view old.0.standing old.1) old.0.tree old.0.shape old.0.holds

    pub above_taken : (body : Bor Body) → IsFilled a.stamp.cell (above_of read_set) body.now → IsTaken (site_in a.stamp body byte)
    above_taken = site_taken z old.0.view a.stamp (above_of read_set) (whole old.0.view old.0.standing old.1) (node n) k a.depth (above_is z k t read_set old.0.view old.0.standing n on a is).deep
        (shows old.0.view old.0.standing old.1) old.0.tree old.0.shape old.0.holds

    above_names : HasChild old.0.tree a.stamp.cell (node n) (take a.depth k)
    above_names = shows old.0.view old.0.standing old.1 old.0.tree old.0.shape old.0.holds

    -- where it is the anchor, the word that was read names the node, and no other cell
    pub above_root : (d : Link) → node n ≢ d → IsOtherRoot a.stamp (above_of read_set) (child_word d)
    above_root =
        root_other z old.0.view a.stamp (above_of read_set) (whole old.0.view old.0.standing old.1) old.0.tree old.0.shape old.0.holds
        (node n) (take a.depth k) above_names

    pub above_site : (body : Bor Body) → IsFilled a.stamp.cell (above_of read_set) body.now → (site : Site)
        → site ≡ site_in a.stamp body byte → IsSiteOf a.stamp (above_of read_set) site
    above_site body = site_of z a.stamp (above_of read_set) (whole old.0.view old.0.standing old.1).stamp.inside body byte

    -- the two are different cells, and both were read whole
    module _ (known : AreKnown (node_of read_set) 1 (size_of t.stamp.cell)) (upper lower : Bor Body) (upper-filled : IsFilled a.stamp.cell (above_of read_set) upper.now)
        (lower-filled : IsFilled t.stamp.cell (node_of read_set) lower.now) where
      apart : byte < 256 → (site_stamp (site_in a.stamp upper byte)).cell ≢ cell.Node n
      apart low = site_apart z old.0.tree old.0.shape old.0.view k a.depth n (site_in a.stamp upper byte) (fits old.0.view old.0.standing old.1 upper upper-filled low)
          (subst (λ (x : Stamp). HoldsAll old.0.view x old.0.tree) (sym (stamp_in a.stamp upper byte)) old.0.holds)

      pub below_there : (u : View) → IsStanding z k t read_set u → byte < 256 → HasBelow z u (site_in a.stamp upper byte) k a.depth (record { node = n; stamp = t.stamp; body = lower })
      below_there u standing low = record {
        place = fits u standing old.1 upper upper-filled low;
        read = read_whole z u t.stamp (node_of read_set) (node_whole z k t read_set u standing known) n on lower.now lower-filled;
        apart = apart low;
        fits = named_fits z old.0.tree a.stamp.cell (node n) (take a.depth k) old.0.shape above_names;
      }
