-- The node has no child at the key's next byte: the site of the byte, and whether the node is full.
use Rattle.std.proofs.Common.{◌≡◌, ◌≢◌, ℕ, ◌+◌, ◌%◌, ◌<◌, Bool, true, false, cond, eqb, List, [], ◌∷◌, ◌++◌, length, get_or, take, Some, None, refl, sym, ap, ◌∙◌, subst, arith, add-one, take-suc, eq-eqb, eqb-true}
use Rattle.std.specs.Borrow.{Bor}
use Rattle.art_cell.specs.Bodies.{IsBody, IsFull}
use Rattle.art_cell.specs.Reads.{word_of}
use Rattle.art_cell.specs.Words.{child_of, places}
use Rattle.art_cell.specs.declared.cells.Body.{Body}
use Rattle.art_cell.specs.declared.cells.Cell.TheVariants as cell
use Rattle.art_cell.specs.declared.cells.Node.{Node}
use Rattle.art_cell.specs.declared.cells.Layout.{Layout}
use Rattle.art_cell.specs.declared.cells.Layout.TheVariants.{Node4, Node16, Node48, Node256}
use Rattle.art_plan.specs.ChooseInsert.Bodies.{IsFilled}
use Rattle.art_plan.specs.ChooseInsert.Needs.{full_needs, needs_of, nothing}
use Rattle.art_plan.specs.ChooseInsert.Seen.{IsSeen}
use Rattle.art_plan.specs.declared.choose_insert.Needs.{Needs}
use Rattle.art_find.specs.Ways.{IsPastPrefix}
use Rattle.art_find.specs.Verdicts.{IsFree, Says}
use Rattle.art_find.specs.declared.descents.Verdict.{Verdict}
use Rattle.art_find.specs.declared.descents.Verdict.TheVariants.{NoChild}
use Rattle.art_plan.proofs.GrownNodes.{not_largest}
use Rattle.art_plan.proofs.MadeNodes.{key_small}
use Rattle.art_plan.proofs.WordsWithin.{past_prefix}
use Rattle.art_plan.specs.Insert.Cases.{IsAdd, IsInHand}
use Rattle.art_plan.specs.Puts.{HasRoom, IsCrowded}
use Rattle.art_plan.specs.declared.insert.NewLeaf.{NewLeaf}
use Rattle.art_node.specs.Sizes.{larger}
use Rattle.art_find.specs.ReadSets.{node_of}
use Rattle.art_find.specs.Findings.{IsStanding}
use Rattle.art_find.specs.declared.read_sets.ReadSet.{ReadSet}
use Rattle.art_find.specs.declared.findings.Position.{Position}
use Rattle.art_plan.specs.Seen.{HasAt}
use Rattle.art_plan.specs.declared.changes.Site.{Site}
use Rattle.art_plan.specs.declared.changes.Site.TheVariants.{Slot}
use Rattle.art_step.specs.declared.views.Sizes.{Sizes}
use Rattle.art_step.specs.declared.views.Stamp.{Stamp}
use Rattle.art_step.specs.declared.views.View.{View}
use Rattle.art_tree.specs.Heaps.{Cells, heap_of}
use Rattle.art_tree.specs.Tree.{path_past}
use Rattle.art_tree.specs.Tree as tree
use Rattle.art_plan.proofs.SeenBodies.{same_words, seen_body, seen_free}
use Rattle.art_plan.proofs.WholeCells.{IsWhole, node_whole, read_whole}

-- the site of the byte, and the bytes of the key, by the names that they have in code
pub slot_named : (x : Stamp) (body : Bor Body) (key k : List ℕ) (depth : ℕ) (site : Site) → site ≡ Slot x body (get_or key depth 0) → key ≡ k → site ≡ Slot x body (get_or k depth 0)
slot_named x body key k depth site is same = is ∙ ap (λ (bytes : List ℕ). Slot x body (get_or bytes depth 0)) same

-- ---- in a tree

-- the key's bytes up to the free one are the path of its place
pub free_path : (s : Cells) (n : Node) (k : List ℕ) (depth header : ℕ) → depth < length k → (past : IsPastPrefix s n k depth header) → take (depth + 1) k ≡ path_past (heap_of s) n past.place (get_or k depth 0)
free_path s n k depth header low past =
    ap (λ (i : ℕ). take i k) (add-one depth)
    ∙ take-suc k depth 0 low
    ∙ ap (λ (xs : List ℕ). xs ++ get_or k depth 0 ∷ []) (sym past.is)

free_has : (s : Cells) (n : Node) (k : List ℕ) (depth header : ℕ) → depth < length k → IsFree s n k depth header → HasAt (tree.Slot n (get_or k depth 0)) (take (depth + 1) k) None s
free_has s n k depth header low is = ((is.past.place, is.past.at, free_path s n k depth header low is.past), is.free)

-- ---- full, or not

-- what a node needs by whether its header says that it is full
abbrev by_full : Bool → Layout → Needs
by_full full k = cond full (full_needs k) nothing

full_above : (full : Bool) (k : Layout) → (by_full full k).above ≡ true → (full ≡ true) × ((by_full full k).node ≡ Some (larger k))
full_above true Node4 e = (refl, refl)
full_above true Node16 e = (refl, refl)
full_above true Node48 e = (refl, refl)
full_above true Node256 e = absurd (cc)
full_above false k e = absurd (cc)

full_below : (full : Bool) (k : Layout) → (by_full full k).above ≡ false → ((by_full full k).node ≡ None) × (full ≡ true → k ≡ Node256)
full_below true Node4 e = absurd (cc)
full_below true Node16 e = absurd (cc)
full_below true Node48 e = absurd (cc)
full_below true Node256 e = (refl, λ is. refl)
full_below false k e = (refl, λ is. absurd (cc))

-- where the cell above is written the node is full, and it needs the next larger one
pub needs_full : (n : Node) (header : ℕ) → (needs_of (NoChild n header)).above ≡ true → (header % 512 ≡ places n.layout) × ((needs_of (NoChild n header)).node ≡ Some (larger n.layout))
needs_full n header above =
    let is = full_above (eqb (header % 512) (places n.layout)) n.layout above in
    (eqb-true (header % 512) (places n.layout) is.0, is.1)

-- else it needs none, and is not full: if it were, it would be one of the largest
pub needs_room : (n : Node) (header : ℕ) → (needs_of (NoChild n header)).above ≡ false → ((needs_of (NoChild n header)).node ≡ None) × (header % 512 ≡ places n.layout → n.layout ≡ Node256)
needs_room n header above =
    let is = full_below (eqb (header % 512) (places n.layout)) n.layout above in
    (is.0, λ full. is.1 (eq-eqb (header % 512) (places n.layout) full))

-- and that is another layout
full_other : (full : Bool) (k : Layout) → (by_full full k).above ≡ true → larger k ≢ k
full_other true Node4 e same = absurd (cc)
full_other true Node16 e same = absurd (cc)
full_other true Node48 e same = absurd (cc)
full_other true Node256 e same = absurd (cc)
full_other false k e same = absurd (cc)

pub needs_other : (n : Node) (header : ℕ) → (needs_of (NoChild n header)).above ≡ true → larger n.layout ≢ n.layout
needs_other n header = full_other (eqb (header % 512) (places n.layout)) n.layout

-- ---- where it stands, and what was seen

module _ (z : Sizes) (k : List ℕ) (t : Position) (read_set : ReadSet) (n : Node) (header : ℕ) (is : t.verdict ≡ NoChild n header) where
  pub free_says : (u : View) → IsStanding z k t read_set u → Says z k t.depth t.stamp (NoChild n header) u
  free_says u standing = subst (λ (f : Verdict). Says z k t.depth t.stamp f u) is standing.says

  module _ (seen : IsSeen z k t read_set) where
    pub free_there : IsFree seen.vouched.tree n k t.depth header
    free_there = (free_says seen.vouched.view seen.vouched.standing).2 seen.vouched.tree seen.vouched.shape seen.vouched.holds

    pub free_on : t.stamp.cell ≡ cell.Node n
    free_on = (free_says seen.vouched.view seen.vouched.standing).0

    pub free_inside : t.depth < length k
    free_inside = (free_says seen.vouched.view seen.vouched.standing).1

    pub free_whole : IsWhole z seen.vouched.view t.stamp (node_of read_set)
    free_whole = node_whole z k t read_set seen.vouched.view seen.vouched.standing seen.whole

    module _ (body : Body) (filled : IsFilled t.stamp.cell (node_of read_set) body) (low : get_or k t.depth 0 < 256) where
      layout_is : body.layout ≡ n.layout
      layout_is = (filled n free_on).layout

      header_is : word_of body 1 ≡ header
      header_is = same_words z seen.vouched.view t.stamp (node_of read_set) free_whole seen.vouched.tree seen.vouched.shape seen.vouched.holds n free_on body filled 1 (omega arith) (let high = past_prefix n.layout in omega (arith, high))
          ∙ free_there.past.is_header

      meaning : IsBody body.layout (word_of body)
      meaning = seen_body z seen.vouched.view t.stamp (node_of read_set) free_whole seen.vouched.tree seen.vouched.shape seen.vouched.holds n free_on body filled

      no_child : child_of body.layout (word_of body) (get_or k t.depth 0) ≡ None
      no_child = seen_free z seen.vouched.view t.stamp (node_of read_set) free_whole seen.vouched.tree seen.vouched.shape seen.vouched.holds n free_on body filled (get_or k t.depth 0) low free_there.free

      -- the body is full where the header says so
      full_by : header % 512 ≡ places n.layout → IsFull body.layout (word_of body)
      full_by full = ap (λ (h : ℕ). h % 512) header_is ∙ full ∙ ap places (sym layout_is)

      crowded : IsFull body.layout (word_of body) → IsCrowded body (get_or k t.depth 0)
      crowded full = record { meaning = meaning; free = no_child; full = full }

      pub byte_crowded : (needs_of t.verdict).above ≡ true → IsCrowded body (get_or k t.depth 0)
      byte_crowded above = crowded (full_by (needs_full n header (sym (ap (λ (f : Verdict). (needs_of f).above) is) ∙ above)).0)

      pub byte_room : (needs_of t.verdict).above ≡ false → HasRoom body (get_or k t.depth 0)
      byte_room above = record {
        meaning = meaning;
        free = no_child;
        room = λ full.
            let by_header : header % 512 ≡ places n.layout = ap (λ (h : ℕ). h % 512) (sym header_is) ∙ full ∙ ap places layout_is in
            let largest = (needs_room n header (sym (ap (λ (f : Verdict). (needs_of f).above) is) ∙ above)).1 by_header in
            not_largest body (get_or k t.depth 0) low (crowded full) (layout_is ∙ largest);
      }

-- ---- the plan where there is room

module _ (z : Sizes) (t : Position) (read_set : ReadSet) (new : NewLeaf) (n : Node) (header : ℕ) (is : t.verdict ≡ NoChild n header) (body : Bor Body) (filled : IsFilled t.stamp.cell (node_of read_set) body.now) where
  abbrev k : List ℕ
  k = new.key.items

  pub byte_knows : (u : View) → IsSeen z k t read_set → IsStanding z k t read_set u → IsInHand z u new → IsAdd z u (Slot t.stamp body (get_or k t.depth 0)) new (t.depth + 1)
  byte_knows u seen standing hand =
      let says = free_says z k t read_set n header is u standing in
      record {
        place = record {
          node = n;
          read = read_whole z u t.stamp (node_of read_set) (node_whole z k t read_set u standing seen.whole) n says.0 body.now filled;
          low = key_small z u new.number k new.value t.depth hand;
          shows = λ s shape holds. free_has s n k t.depth header says.1 (says.2 s shape holds);
        };
        new_leaf = hand;
      }
