-- The laws of the tree, from their parts.
use Rattle.std.proofs.Common.{◌≡◌, ℕ, List, [], ◌∷◌, ◌++◌, Some, refl, ◌∙◌, subst}
use Rattle.art_cell.specs.declared.cells.Node.{Node}
use Rattle.art_cell.specs.declared.cells.Link.TheVariants.{Leaf as leaf, Node as node}
use Rattle.art_tree.specs.Tree.{Slot, Heap, child_at_place, StandsAt, Begins, Row, IsTree}
use Rattle.art_tree.specs.Below.{RowsStandBelow}
use Rattle.art_tree.specs.Changes.{SameTree}
use Rattle.art_tree.specs.Descents.{BeginsNone, Descends, Parts}
use Rattle.art_tree.specs.Laws.{AddLaw, DropLaw, ReplaceLaw, GrowLaw, ShrinkLaw, CopyLaw, ForkLaw, MergeLaw, FrameLaw}
use Rattle.art_tree.specs.declared.bounds.Bound.{Bound}
use Rattle.art_tree.specs.Looks.{LooksAtAnchor, LooksAtNode}
use Rattle.art_tree.specs.Rows.{IsOneToOne}
use Rattle.art_tree.proofs.Places.{at_place, one_path}
use Rattle.art_tree.proofs.Paths.{one_cell_at, begins_more}
use Rattle.art_tree.proofs.Lookup.{absent_empty, absent_other, absent_differs, absent_ends, absent_entry, absent_free}
use Rattle.art_tree.proofs.Sound.{two_filled}
use Rattle.art_tree.proofs.Edit.{edit_moves, hang_rows, cut_rows}
use Rattle.art_tree.proofs.Replace.{replace_moves, replace_rows}
use Rattle.art_tree.proofs.Renew.{grow_does, shrink_does, copy_does}
use Rattle.art_tree.proofs.Fork.{absent_forked, fork_moves, fork_rows}
use Rattle.art_tree.proofs.Merge.{merge_moves, merge_rows}
use Rattle.art_tree.proofs.Frame.{frame_paths, frame_sound, frame_rows}
use Rattle.art_tree.proofs.Looking.{starts_at_byte, starts_at_zero, seen_empty, seen_alone, seen_short, seen_none, seen_leaf, seen_before}
use Rattle.art_tree.proofs.Part.{node_parts, leaves_part}
use Rattle.art_tree.proofs.Rooted.{row_below}

pub one_to_one : (h : Heap) → IsTree h → IsOneToOne h
one_to_one h s = ((λ c d p. one_cell_at h c d p), (λ c p r. one_path h c p r s.once))

pub rows_stand_below : (h : Heap) → IsTree h → RowsStandBelow h
rows_stand_below h s k v = row_below h k v s

pub frame_law : (h h' : Heap) → SameTree h h' → FrameLaw h h'
frame_law h h' w = record { paths = frame_paths h h' w; sound = frame_sound h h' w; rows = frame_rows h h' w }

pub descends : (h : Heap) (k : List ℕ) → IsTree h → Descends h k
descends h k s = record {
  empty = absent_empty h k;
  found = λ l p at same. record { number = l; path = p; at = at; key = same; value = refl };
  other = λ l p at f. absent_other h l p k s at f;
  differs = λ n p at f. absent_differs h n p k s at f;
  ends = λ n p at. absent_ends h n p k s at;
  free = λ n p b at f. absent_entry h n p k b s at f;
}

pub parts : (h : Heap) (k : List ℕ) → IsTree h → BeginsNone h k → Parts h k
parts h k s none = record {
  at_node = λ n p at f differs. node_parts h n p k s at f (λ j v o. (none j v o).0) differs;
  at_leaf = λ l p at f g.
      let o : Row h (h.key l) (h.value l) = record { number = l; path = p; at = at; key = refl; value = refl } in
      leaves_part p (h.key l) k g f (none (h.key l) (h.value l) o).1 (none (h.key l) (h.value l) o).0;
}

pub looks_at_anchor : (h : Heap) (lo : List ℕ) (hi : Bound) → IsTree h → LooksAtAnchor h lo hi
looks_at_anchor h lo hi s = record { empty = seen_empty h lo hi; alone = λ l is. seen_alone h lo hi l s is }

pub looks_at_node : (h : Heap) (n : Node) (r lo : List ℕ) → IsTree h → StandsAt h (node n) r → Begins r lo → LooksAtNode h n r lo
looks_at_node h n r lo s at front = record {
  short = λ hi. seen_short h n r lo s at front hi;
  none = λ hi b f. seen_none h n r lo s at front hi b (starts_at_byte h n r lo b f) (begins_more (r ++ h.prefix n) (b ∷ []) lo f);
  a_leaf = λ hi b c l f. seen_leaf h n r lo s at front hi b c l (starts_at_byte h n r lo b f);
  a_node = λ b c f. seen_before h n r lo s at front b c (starts_at_byte h n r lo b f);
  first_leaf = λ hi c l. seen_leaf h n r lo s at front hi 0 c l (starts_at_zero h n r lo);
  first_node = λ c. seen_before h n r lo s at front 0 c (starts_at_zero h n r lo);
}

pub add_law : AddLaw
add_law h h' x l r f s at w free hung new begins = record {
  moves = edit_moves h h' x l r w at s
      (λ n b is. two_filled h h' n (λ a d e. (d, w.rest (Slot n a) (λ same. let e' : child_at_place h x ≡ Some d = subst (λ z. child_at_place h z ≡ Some d) same e in cc) ∙ e)))
      begins;
  rows = λ rows. hang_rows h h' x l r w at s f rows (absent_free h x r (h.key l) s at free begins) new hung;
}

pub drop_law : DropLaw
drop_law h h' x l r f s at w was cut two = record {
  moves = edit_moves h h' x l r w at s (λ n b is _. two n b is) (s.spelled l r (at_place h x (leaf l) r at was));
  rows = λ rows. cut_rows h h' x l r w at s f rows was cut;
}

pub replace_law : ReplaceLaw
replace_law h h' x l i r f s at w same = record {
  moves = replace_moves h h' x l i r w at s same;
  rows = replace_rows h h' x l i r w at s same f;
}

pub grow_law : GrowLaw
grow_law h h' x n m b l r f s at w added new begins = grow_does h h' x n m b l r w at s f added new begins

pub shrink_law : ShrinkLaw
shrink_law h h' x n m b l r f s at w was gone two = shrink_does h h' x n m b l r w at s f was gone two

pub copy_law : CopyLaw
copy_law h h' x n m r f s at w = copy_does h h' x n m r w at s f

pub fork_law : ForkLaw
fork_law h h' x c m l a b r f s at w begins_c begins_l fits = record {
  moves = fork_moves h h' x c m l a b r w at s.once s begins_c begins_l fits;
  rows = λ rows. fork_rows h h' x c m l a b r w at s.once s f rows (absent_forked h h' x c m l a b r (h.key l) s at w begins_c begins_l);
}

pub merge_law : MergeLaw
merge_law h h' x c n l a b r f s at w = record {
  moves = merge_moves h h' x c n l a b r w at s.once s;
  rows = λ rows. merge_rows h h' x c n l a b r w at s.once s f rows;
}
