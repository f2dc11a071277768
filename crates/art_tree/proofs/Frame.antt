-- What is not linked does not matter.
use Rattle.std.proofs.Common.{◌≡◌, ◌↔◌, ℕ, ◌+◌, ◌<◌, List, [], ◌∷◌, ◌++◌, length, Option, Some, None, refl, sym, ap, ◌∙◌, subst}
use Rattle.std.specs.FinMap.{get, empty, get-empty, same_map, slice_cmp-IsAntisymmetric, nat_cmp-IsAntisymmetric}
use Rattle.std.specs.Cmp.Lexicographic.{slice_cmp}
use Rattle.std.proofs.lemmas.Cmp.{nat_list_cmp_total}
use Rattle.std.specs.Ordering.{nat_cmp}
use Rattle.art_cell.specs.declared.cells.Link.{Link}
use Rattle.art_cell.specs.declared.cells.Link.TheVariants.{Leaf as leaf, Node as node}
use Rattle.art_tree.specs.Tree.{Place, Top, Slot, Heap, child_at_place, StandsAt, top, down, PathBy, PlaceAt, Begins, NamesOnce, IsTree}
use Rattle.art_tree.specs.Rows.{ByteMap, HasRows}
use Rattle.art_tree.specs.Changes.{IsUnlinked, NamedOnlyAt, SameTree}
use Rattle.art_tree.proofs.Places.{least, at_place, one_path}
use Rattle.art_tree.proofs.Patch.{names_once}

module _ (h h' : Heap) (w : SameTree h h') where
  frame_on : (d : Link) (r : List ℕ) → StandsAt h d r → StandsAt h' d r
  frame_on d r (top e ep) = top (w.root ∙ e) ep
  frame_on d r (down {n = n} {p = p} b up e ep) = down b (frame_on (node n) p up) (w.child n p b up ∙ e) (ep ∙ sym (ap (λ q. p ++ q ++ b ∷ []) (w.prefix n p up)))

  frame_back : (d : Link) (r : List ℕ) → StandsAt h' d r → StandsAt h d r
  frame_back d r (top e ep) = top (sym w.root ∙ e) ep
  frame_back d r (down {n = n} {p = p} b up e ep) =
      let was = frame_back (node n) p up in
      down b was (sym (w.child n p b was) ∙ e) (ep ∙ ap (λ q. p ++ q ++ b ∷ []) (w.prefix n p was))

  pub frame_paths : (d : Link) (r : List ℕ) → StandsAt h d r ↔ StandsAt h' d r
  frame_paths d r = (frame_on d r, frame_back d r)

  pub frame_sound : IsTree h → IsTree h'
  frame_sound s = record {
    once = names_once h' (λ c p r a b. one_path h c p r s.once (frame_back c p a) (frame_back c r b));
    splits = λ n p at. let was = frame_back (node n) p at in let t = s.splits n p was in
        (t.0, t.1, t.2, t.3, t.4, w.child n p t.0 was ∙ t.5, w.child n p t.1 was ∙ t.6);
    short = λ n p at. let was = frame_back (node n) p at in subst (λ q. length p + length q < 64) (sym (w.prefix n p was)) (s.short n p was);
    spelled = λ n p at. let was = frame_back (leaf n) p at in subst (Begins p) (sym (w.key n p was)) (s.spelled n p was);
  }

  pub frame_rows : (m : ByteMap) → HasRows h m → HasRows h' m
  frame_rows m rows k v = (
    (λ o. let was = frame_back (leaf o.number) o.path o.at in
        (rows k v).0 (record { number = o.number; path = o.path; at = was; key = sym (w.key o.number o.path was) ∙ o.key; value = sym (w.value o.number o.path was) ∙ o.value })),
    (λ e. let o = (rows k v).1 e in
        record { number = o.number; path = o.path; at = frame_on (leaf o.number) o.path o.at; key = w.key o.number o.path o.at ∙ o.key; value = w.value o.number o.path o.at ∙ o.value }),
  )

-- at opening
no_cell : (h : Heap) → h.root ≡ None → (c : Link) (r : List ℕ) → StandsAt h c r → ⊥
no_cell h empty = least h (λ c r. ⊥) step
  where
    step : (y : Place) (d : Link) (r : List ℕ) → PathBy h (λ c r. ⊥) y r → child_at_place h y ≡ Some d → ⊥
    step Top d r i e = cc
    step (Slot n b) d r i e = i.1

pub opened_unlinked : (h : Heap) (c : Link) → h.root ≡ None → IsUnlinked h c
opened_unlinked h c none r at = no_cell h none c r at

pub opened_sound : (h : Heap) → h.root ≡ None → IsTree h
opened_sound h empty = record {
  once = names_once h (λ c p r a b. absurd (no_cell h empty c p a));
  splits = λ n p at. absurd (no_cell h empty (node n) p at);
  short = λ n p at. absurd (no_cell h empty (node n) p at);
  spelled = λ n p at. absurd (no_cell h empty (leaf n) p at);
}

pub opened_rows : (h : Heap) → h.root ≡ None → HasRows h empty
opened_rows h none k v = ((λ o. absurd (no_cell h none (leaf o.number) o.path o.at)), (λ e. let f = get-empty {X = ℕ} (slice_cmp nat_cmp) k in absurd (cc)))

-- a heap has the rows of one map alone
pub one_map : (h : Heap) (m n : ByteMap) → HasRows h m → HasRows h n → m ≡ n
one_map h m n a b = same_map nat_list_cmp_total (slice_cmp-IsAntisymmetric nat_cmp-IsAntisymmetric) m n (λ k. each k (get m k) (get n k) refl refl)
  where
    each : (k : List ℕ) (x y : Option ℕ) → get m k ≡ x → get n k ≡ y → get m k ≡ get n k
    each k None None e f = e ∙ sym f
    each k None (Some v) e f = let g = (a k v).0 ((b k v).1 f) in cc
    each k (Some v) y e f = let g = (b k v).0 ((a k v).1 e) in cc

-- what a place of the tree holds, no other names; nor what is not linked
pub only_held : (h : Heap) (x : Place) (r : List ℕ) (c : Link) → NamesOnce h → PlaceAt h x r → child_at_place h x ≡ Some c → NamedOnlyAt h c x
only_held h x r c once at was y s i e = once y x s r c i at e was

pub only_unlinked : (h : Heap) (x : Place) (c : Link) → IsUnlinked h c → NamedOnlyAt h c x
only_unlinked h x c free y s i e = absurd (free s (at_place h y c s i e))
