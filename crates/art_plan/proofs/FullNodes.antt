-- The node has no child at the key's next byte, and is full: what its growth needs.
use Rattle.std.proofs.Common.{Bool, if◌then◌else◌, ◌≡◌, ◌≢◌, ℕ, ◌-◌, true, List, [], ◌∷◌, ◌++◌, get_or, take, Some, sym, ap, ◌∙◌, subst}
use Rattle.std.specs.Borrow.{Bor}
use Rattle.art_cell.specs.Children.{child_word}
use Rattle.art_cell.specs.Reads.{word_of}
use Rattle.art_cell.specs.Words.{prefix_of}
use Rattle.art_cell.specs.declared.cells.Body.{Body}
use Rattle.art_cell.specs.declared.cells.Cell.TheVariants as cell
use Rattle.art_cell.specs.declared.cells.Link.TheVariants.{Node as node}
use Rattle.art_cell.specs.declared.cells.Node.{Node}
use Rattle.art_cell.specs.declared.cells.Layout.{Layout}
use Rattle.art_plan.specs.ArtCommit.CommitLaws.{HasNode}
use Rattle.art_plan.specs.ChooseInsert.Bodies.{IsFilled, site_in}
use Rattle.art_plan.specs.ChooseInsert.Needs.{needs_of}
use Rattle.art_plan.specs.ChooseInsert.Plans.{HasNeeded, gives_way}
use Rattle.art_plan.specs.ChooseInsert.Seen.{IsSeen}
use Rattle.art_find.specs.declared.descents.Verdict.{Verdict}
use Rattle.art_find.specs.declared.descents.Verdict.TheVariants.{NoChild}
use Rattle.art_plan.proofs.MadeNodes.{key_small}
use Rattle.art_plan.proofs.ForkNodes.{begins_at}
use Rattle.art_plan.specs.Seen.{HasBelow}
use Rattle.art_plan.specs.Insert.Cases.{IsGrow, IsInHand}
use Rattle.art_plan.specs.Insert.Puts.{larger_node}
use Rattle.art_plan.specs.declared.insert.NewLeaf.{NewLeaf}
use Rattle.art_node.specs.Sizes.{larger}
use Rattle.art_find.specs.ReadSets.{above_of, node_of}
use Rattle.art_find.specs.Findings.{IsStanding}
use Rattle.art_find.specs.declared.read_sets.ReadSet.{ReadSet}
use Rattle.art_find.specs.declared.findings.Above.{Above}
use Rattle.art_find.specs.declared.findings.Position.{Position}
use Rattle.art_plan.specs.declared.changes.Site.{Site}
use Rattle.art_step.specs.declared.views.Sizes.{Sizes}
use Rattle.art_step.specs.declared.views.View.{View}
use Rattle.art_tree.proofs.Places.{one_path}
use Rattle.art_tree.specs.Heaps.{heap_of}
use Rattle.art_tree.specs.Tree.{Begins}
use Rattle.art_plan.proofs.AboveSites.{below_there, led_there}
use Rattle.art_plan.proofs.FreeBytes.{free_inside, free_on, free_there, free_whole, needs_full, needs_other}
use Rattle.art_plan.proofs.SeenBodies.{seen_prefix}

module _ (z : Sizes) (t : Position) (read_set : ReadSet) (new : NewLeaf) (n : Node) (header made : ℕ) (is : t.verdict ≡ NoChild n header) (a : Above) (at : t.above ≡ Some a) (writes : (needs_of t.verdict).above ≡ true)
    (seen : IsSeen z new.key.items t read_set) where
  abbrev k : List ℕ
  k = new.key.items

  on : t.stamp.cell ≡ cell.Node n
  on = free_on z k t read_set n header is seen

  -- the larger node is another
  pub full_apart : (body : Body) → IsFilled t.stamp.cell (node_of read_set) body → node n ≢ node (larger_node body made)
  full_apart body filled same =
      let one : n ≡ larger_node body made = cc in
      needs_other n header (sym (ap (λ (f : Verdict). (needs_of f).above) is) ∙ writes)
      (ap larger (sym (filled n on).layout) ∙ sym (ap (λ (m : Node). m.layout) one))

  module _ (upper lower : Bor Body) (upper-filled : IsFilled a.stamp.cell (above_of read_set) upper.now) (lower-filled : IsFilled t.stamp.cell (node_of read_set) lower.now) where
    -- the bytes that lead to the node, with its prefix, are those up to the free one
    whole_path : take a.depth k ++ prefix_of (word_of lower.now) ≡ take t.depth k
    whole_path =
        let s = seen.vouched.tree in
        let v = seen.vouched.view in
        let past = (free_there z k t read_set n header is seen).past in
        let one : past.place ≡ take a.depth k =
        one_path (heap_of s) (node n) past.place (take a.depth k) seen.vouched.shape.tree.once past.at (led_there z k t read_set n on a at v s seen.vouched.standing seen.vouched.holds) in
        ap (λ (p : List ℕ). take a.depth k ++ p) (seen_prefix z v t.stamp (node_of read_set) (free_whole z k t read_set n header is seen) s seen.vouched.shape seen.vouched.holds n on lower.now lower-filled)
        ∙ ap (λ (q : List ℕ). q ++ (heap_of s).prefix n) (sym one)
        ∙ past.is

    way : Begins (take a.depth k ++ prefix_of (word_of lower.now) ++ get_or k t.depth 0 ∷ []) k
    way = subst (λ (bytes : List ℕ). Begins (bytes ++ get_or k t.depth 0 ∷ []) k) (sym whole_path) (begins_at k t.depth (free_inside z k t read_set n header is seen))

    pub full_knows : (u : View) (site : Site) → site ≡ site_in a.stamp upper (get_or k (a.depth - 1) 0) → IsStanding z k t read_set u → IsInHand z u new → HasNeeded z u t.verdict made
        → (byte : ℕ) → byte ≡ get_or k t.depth 0 → IsGrow z u site new a.depth (record { node = n; stamp = t.stamp; body = lower }) byte (larger_node lower.now made)
    full_knows u site named standing hand needed byte free = record {
      there = subst (λ (p : Site). HasBelow z u p new.key.items a.depth (record { node = n; stamp = t.stamp; body = lower })) (sym named)
          (below_there z k t read_set n on a at (seen.above a at writes) seen.whole upper lower upper-filled lower-filled u standing (key_small z u new.number k new.value (a.depth - 1) hand));
      way = subst (λ (b : ℕ). Begins (take a.depth k ++ prefix_of (word_of lower.now) ++ b ∷ []) k) (sym free) way;
      made = subst (λ (l : Layout). HasNode z u (record { layout = larger l; number = made })) (sym (lower-filled n on).layout)
          (needed (larger n.layout) (ap (λ (f : Verdict). (needs_of f).node) is ∙ (needs_full n header (sym (ap (λ (f : Verdict). (needs_of f).above) is) ∙ writes)).1));
      new_leaf = hand;
    }

-- where the node is full, it is what gives way
pub full_gives_way : (t : Position) (n : Node) (header : ℕ) (is : t.verdict ≡ NoChild n header) → (needs_of t.verdict).above ≡ true →
    gives_way t.verdict ≡ child_word (node n) ∷ []
full_gives_way t n header is above =
    ap gives_way is ∙ ap (λ (b : Bool). if b then child_word (node n) ∷ [] else []) (sym (ap (λ v. (needs_of v).above) is) ∙ above)
