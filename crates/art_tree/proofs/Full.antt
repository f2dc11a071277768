-- No part of a tree is empty, and its rows are listed in one way.
use Rattle.std.proofs.Common.{◌≡◌, ℕ, zero, suc, ◌+◌, ◌<◌, List, [], ◌∷◌, ◌++◌, length, Option, Some, None, refl, sym, ap, ◌∙◌, arith, nat_cmp}
use Rattle.std.specs.Cmp.Lexicographic.{slice_cmp}
use Rattle.std.specs.FinMap.{get, entries, find, from_sorted, get-from_sorted, entries-from_sorted, same_map, slice_cmp-IsAntisymmetric, nat_cmp-IsAntisymmetric}
use Rattle.std.proofs.lemmas.Cmp.{nat_list_cmp_total}
use Rattle.art_cell.specs.declared.cells.Node.{Node}
use Rattle.art_cell.specs.declared.cells.Link.{Link}
use Rattle.art_cell.specs.declared.cells.Link.TheVariants.{Leaf as leaf, Node as node}
use Rattle.art_tree.specs.Tree.{Heap, path_past, StandsAt, down, Begins, Row, IsTree}
use Rattle.art_tree.specs.Rows.{ByteMap, HasRows}
use Rattle.art_tree.specs.Laws.{IsAscending, ListsRows, RowFrom}
use Rattle.art_tree.specs.Looks.{Caps, after, AreBytes}
use Rattle.art_tree.proofs.Paths.{begins_more, begins_trans, length_past}
use Rattle.art_tree.proofs.After.{after_caps}

-- each linked cell has a row that begins with its path: steps bounds how deep the cell may lie above a leaf
row_within : (h : Heap) (s : IsTree h) (steps : ℕ) (c : Link) (p : List ℕ) → StandsAt h c p → 64 < length p + steps → RowFrom h p
row_within h s steps (leaf n) p at deep = record { key = h.key n; value = h.value n; row = record { number = n; path = p; at = at; key = refl; value = refl }; begins = s.spelled n p at }
row_within h s zero (node n) p at deep = absurd (omega (arith, s.short n p at))
row_within h s (suc steps) (node n) p at deep =
    let two = s.splits n p at in
    let r = row_within h s steps two.2 (path_past h n p two.0) (down two.0 at two.5 refl) (omega (arith, length_past h n p two.0)) in
    record { key = r.key; value = r.value; row = r.row; begins = begins_more p (h.prefix n) r.key (begins_more (p ++ h.prefix n) (two.0 ∷ []) r.key r.begins) }

pub row_below_cell : (h : Heap) (c : Link) (p : List ℕ) → IsTree h → StandsAt h c p → RowFrom h p
row_below_cell h c p s at = row_within h s 65 c p at (omega arith)

-- a key that begins no key of a row does not end within a node's path and prefix
pub no_end_within : (h : Heap) (n : Node) (p k : List ℕ) → IsTree h → StandsAt h (node n) p → ((j : List ℕ) (v : ℕ) → Row h j v → Begins k j → ⊥) → Begins k (p ++ h.prefix n) → ⊥
no_end_within h n p k s at apart f =
    let two = s.splits n p at in
    let r = row_below_cell h two.2 (path_past h n p two.0) s (down two.0 at two.5 refl) in
    apart r.key r.value r.row (begins_trans k (p ++ h.prefix n) r.key f (begins_more (p ++ h.prefix n) (two.0 ∷ []) r.key r.begins))

-- where the keys of the rows are byte texts, `after` caps
pub caps_after : (h : Heap) (p : List ℕ) → AreBytes p → ((k : List ℕ) (v : ℕ) → Row h k v → AreBytes k) → Caps h p (after p)
caps_after h p bp rows k v o below = (after_caps p k bp (rows k v o)).0 below

-- an ascending list that has the rows is the map's
pub listed : (h : Heap) (m : ByteMap) (es : List (List ℕ × ℕ)) → HasRows h m → IsAscending es → ListsRows h es → entries m ≡ es
listed h m es rows sorted has =
    ap entries (same_map nat_list_cmp_total (slice_cmp-IsAntisymmetric nat_cmp-IsAntisymmetric) m (from_sorted es)
    (λ k. each k (get m k) (find (slice_cmp nat_cmp) k es) refl refl ∙ sym (get-from_sorted (slice_cmp nat_cmp) es k sorted)))
    ∙ entries-from_sorted (slice_cmp nat_cmp) es sorted
  where
    each : (k : List ℕ) (x y : Option ℕ) → get m k ≡ x → find (slice_cmp nat_cmp) k es ≡ y → get m k ≡ find (slice_cmp nat_cmp) k es
    each k None None e f = e ∙ sym f
    each k None (Some v) e f = let g = (rows k v).0 ((has k v).1 f) in cc
    each k (Some v) y e f = let g = (has k v).0 ((rows k v).1 e) in cc
