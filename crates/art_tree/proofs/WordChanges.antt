-- Words that a change writes make the change of the tree that they stand for.
use Rattle.std.proofs.Common.{◌≡◌, ◌≢◌, ◌⊎◌, ℕ, ◌<◌, List, ◌∷◌, ◌++◌, Option, Some, None, refl, sym, ap, ap₂, ◌∙◌, ⊎_elim, eq-eqb, ne_eqb}
use Rattle.art_cell.specs.declared.cells.Node.{Node}
use Rattle.art_cell.specs.declared.cells.Link.{Link}
use Rattle.art_cell.specs.declared.cells.Link.TheVariants.{Leaf as leaf, Node as node}
use Rattle.art_cell.specs.declared.cells.Cell.TheVariants as cell
use Rattle.art_tree.specs.Changes.{NamedOnlyAt, Edits, GivesWay, Renews}
use Rattle.art_tree.specs.Heaps.{Cells, node_prefix, heap_of}
use Rattle.art_tree.specs.Tree.{Place, Top, Slot, child_at_place, path_past}
use Rattle.art_tree.specs.WordChanges.{at_byte, two_children, cell_of, PlaceByWords, WayByWords, AddByWords, DropByWords, ReplaceByWords, WayPremises, GrowByWords, ShrinkByWords, CopyByWords, ForkedByWords, MergedByWords}
use Rattle.art_cell.specs.Words.{child_of}
use Rattle.art_tree.proofs.ByteTexts.{child_byte}
use Rattle.art_tree.proofs.Frame.{only_held, only_unlinked}
use Rattle.art_tree.proofs.Places.{at_place}
use Rattle.art_tree.proofs.Meanings.{held_same, prefix_same, same_leaves, child_is, prefix_is, written_child, written_prefix, Fits, child_named, no_child, byte_put, byte_rest, IsNodeOf, not_node, kept_prefix, kept_rest, no_leaf, held_put, held_rest, prefix_rest}

-- ---- one place alone

-- all else stays as it was
module _ (cells after : Cells) (x : Place) (o : Option Link) (w : PlaceByWords cells after x o) where
  place_rest : (y : Place) → y ≢ x → child_at_place (heap_of after) y ≡ child_at_place (heap_of cells) y
  place_rest y other = held_rest cells after x y o w.put other (λ elsewhere. held_same cells after y (w.rest (cell_of y) elsewhere))

  place_prefix : (k : Node) → (heap_of after).prefix k ≡ (heap_of cells).prefix k
  place_prefix k = prefix_rest cells after x k o w.put (λ elsewhere. prefix_same cells after k (w.rest (cell.Node k) elsewhere))

  -- a leaf, or none, comes to the place
  place_edits : (l : ℕ) → Fits o → ((d : Link) → child_at_place (heap_of cells) x ≡ Some d → d ≡ leaf l) → ((d : Link) → o ≡ Some d → d ≡ leaf l) → NamedOnlyAt (heap_of cells) (leaf l) x
      → Edits (heap_of cells) (heap_of after) x l × (child_at_place (heap_of after) x ≡ o)
  place_edits l fits old new only =
      let now = held_put cells after x o w.put fits in (
        record {
          old = old;
          new = λ d e. new d (sym now ∙ e);
          rest = place_rest;
          prefixes = place_prefix;
          leaves = same_leaves cells after (λ c. c ≡ cell_of x) w.rest (no_leaf x);
          only = only;
        },
        now,
      )

-- a leaf comes to a free place
pub add_by_words : AddByWords
add_by_words cells after x l w fits free new =
    place_edits cells after x (Some (leaf l)) w l fits (λ d e. absurd (cc)) (λ d e. cc) (only_unlinked (heap_of cells) x (leaf l) new)

-- a leaf goes from its place
pub drop_by_words : DropByWords
drop_by_words cells after x l r w once at was =
    place_edits cells after x None w l tt (λ d e. cc) (λ d e. absurd (cc)) (only_held (heap_of cells) x r (leaf l) once at was)

-- a leaf gives way to another
pub replace_by_words : ReplaceByWords
replace_by_words cells after x l i w fits was new = record {
  was = was;
  now = held_put cells after x (Some (leaf i)) w.put fits;
  rest = place_rest cells after x (Some (leaf i)) w;
  prefixes = place_prefix cells after x (Some (leaf i)) w;
  leaves = same_leaves cells after (λ c. c ≡ cell_of x) w.rest (no_leaf x);
  new = new;
}

-- ---- a node gives way to another

in_node : (y : Place) (m : Node) → cell_of y ≡ cell.Node m → (a : ℕ) × (y ≡ Slot m a)
in_node Top m e = absurd (cc)
in_node (Slot k a) m e = (a, let same : k ≡ m = cc in ap (λ z. Slot z a) same)

module _ (cells after : Cells) (x : Place) (r : List ℕ) (n m : Node) (child : ℕ → Option ℕ) (w : WayByWords cells after x n m child) (is : WayPremises cells x r n m) where
  gives_way : GivesWay (heap_of cells) (heap_of after) x n m
  gives_way = record {
    was = is.2;
    now = held_put cells after x (Some (node m)) w.put is.4;
    prefix = written_prefix after m (node_prefix (cells (cell.Node n))) child w.made ∙ sym (prefix_is cells n);
    rest = λ y other not_m. held_rest cells after x y (Some (node m)) w.put other (λ elsewhere.
        held_same cells after y (w.rest (cell_of y) (λ t. ⊎_elim (λ (e : cell_of y ≡ cell.Node m). let i = in_node y m e in not_m i.0 i.1) elsewhere t)));
    prefixes = λ k other. prefix_rest cells after x k (Some (node m)) w.put (λ elsewhere.
        prefix_same cells after k (w.rest (cell.Node k) (λ t. ⊎_elim (λ (e : cell.Node k ≡ cell.Node m). other (cc)) elsewhere t)));
    leaves = same_leaves cells after (λ c. (c ≡ cell.Node m) ⊎ (c ≡ cell_of x)) w.rest (λ l t. ⊎_elim (λ (e : cell.Leaf l ≡ cell.Node m). absurd (cc)) (no_leaf x l) t);
    fresh = is.3;
  }

-- with another child, or none, at a byte
way_renews : (cells after : Cells) (x : Place) (r : List ℕ) (n m : Node) (b l : ℕ) (o : Option Link) → WayByWords cells after x n m (at_byte (child_of n.layout (cells (cell.Node n))) b o) → WayPremises cells x r n m
    → b < 256 → Fits o → ((d : Link) → (heap_of cells).child n b ≡ Some d → d ≡ leaf l) → ((d : Link) → o ≡ Some d → d ≡ leaf l) → NamedOnlyAt (heap_of cells) (leaf l) (Slot n b)
    → Renews (heap_of cells) (heap_of after) x n m b l × ((heap_of after).child m b ≡ o)
way_renews cells after x r n m b l o w is low fits old new only =
    let p = node_prefix (cells (cell.Node n)) in
    let child = child_of n.layout (cells (cell.Node n)) in
    let now = byte_put after m p child b o low fits w.made in (
      record {
        gives_way = gives_way cells after x r n m (at_byte child b o) w is;
        old = old;
        new = λ d e. new d (sym now ∙ e);
        same = λ a other. byte_rest cells after n m p b o a other w.made;
        only = only;
      },
      now,
    )

-- a node gives way to one with a leaf more
pub grow_by_words : GrowByWords
grow_by_words cells after x r n m b l w is low fits new free =
    way_renews cells after x r n m b l (Some (leaf l)) w is low fits (λ d e. absurd (cc)) (λ d e. cc) (only_unlinked (heap_of cells) (Slot n b) (leaf l) new)

-- a node gives way to one with a leaf less
pub shrink_by_words : ShrinkByWords
shrink_by_words cells after x r n m b l w is was =
    let h = heap_of cells in
    way_renews cells after x r n m b l None w is (child_byte cells n b (leaf l) was) tt (λ d e. cc) (λ d e. absurd (cc))
    (only_held h (Slot n b) (path_past h n r b) (leaf l) is.0 (r, at_place h x (node n) r is.1 is.2, refl) was)

-- a node gives way to one with the same children
pub copy_by_words : CopyByWords
copy_by_words cells after x r n m w is =
    let child = child_of n.layout (cells (cell.Node n)) in
    record {
      gives_way = gives_way cells after x r n m child w is;
      same = λ a. written_child after m (node_prefix (cells (cell.Node n))) child a w.made ∙ sym (child_is cells n a);
    }

-- ---- a node comes between, or goes

-- a new node comes between a place and what it held, which has a new leaf beside it
pub fork_by_words : ForkedByWords
fork_by_words cells after x r c m l a b q w once at was fresh new a-low b-low apart c-fits m-fits l-fits =
    let child = two_children a c b (leaf l) in
    let prefix = written_prefix after m q child w.made in (
      record {
        was = was;
        now = held_put cells after x (Some (node m)) w.put m-fits;
        one = written_child after m q child a w.made ∙ child_named child a c a-low c-fits (rw (eq-eqb a a refl) refl);
        two = written_child after m q child b w.made ∙ child_named child b (leaf l) b-low l-fits (rw (ne_eqb b a (λ e. apart (sym e)), eq-eqb b b refl) refl);
        none = λ e not_a not_b. written_child after m q child e w.made ∙ no_child child e (rw (ne_eqb e a not_a, ne_eqb e b not_b) refl);
        apart = apart;
        short = λ n is. prefix_is cells n ∙ kept_prefix cells after c (λ n p. node_prefix (cells (cell.Node n)) ≡ q ++ a ∷ p) n w.cut is ∙ ap (λ z. z ++ a ∷ (heap_of after).prefix n) (sym prefix);
        rest = λ y other not_m. held_rest cells after x y (Some (node m)) w.put other (λ elsewhere. kept_rest cells after c _ y w.cut (λ not_c.
            held_same cells after y (w.rest (cell_of y) (λ t. ⊎_elim (λ (e : cell_of y ≡ cell.Node m). let i = in_node y m e in not_m i.0 i.1) (⊎_elim elsewhere not_c) t))));
        prefixes = λ k other not_c. prefix_rest cells after x k (Some (node m)) w.put (λ elsewhere.
            prefix_same cells after k (w.rest (cell.Node k) (λ t. ⊎_elim (λ (e : cell.Node k ≡ cell.Node m). other (cc)) (⊎_elim elsewhere (not_node c k not_c)) t)));
        leaves = same_leaves cells after _ w.rest (λ l t. ⊎_elim (λ (e : cell.Leaf l ≡ cell.Node m). absurd (cc)) (⊎_elim (no_leaf x l) (λ (i : IsNodeOf c (cell.Leaf l)). let e = i.2 in absurd (cc))) t);
        fresh = fresh;
        new = new;
      },
      prefix,
    )

-- a node that would come down to one child gives way to it
pub merge_by_words : MergedByWords
merge_by_words cells after x r c n l a b w once at was one two apart none fits = record {
  was = was;
  one = one;
  two = two;
  none = none;
  apart = apart;
  now = held_put cells after x (Some c) w.put fits;
  longer = λ k is. kept_prefix cells after c (λ k p. p ≡ node_prefix (cells (cell.Node n)) ++ a ∷ node_prefix (cells (cell.Node k))) k w.gains is ∙ sym (ap₂ (λ u v. u ++ a ∷ v) (prefix_is cells n) (prefix_is cells k));
  rest = λ y other. held_rest cells after x y (Some c) w.put other (λ elsewhere. kept_rest cells after c _ y w.gains (λ not_c. held_same cells after y (w.rest (cell_of y) (λ t. ⊎_elim elsewhere not_c t))));
  prefixes = λ k not_c. prefix_rest cells after x k (Some c) w.put (λ elsewhere. prefix_same cells after k (w.rest (cell.Node k) (λ t. ⊎_elim elsewhere (not_node c k not_c) t)));
  leaves = same_leaves cells after _ w.rest (λ l t. ⊎_elim (no_leaf x l) (λ (i : IsNodeOf c (cell.Leaf l)). let e = i.2 in absurd (cc)) t);
}
