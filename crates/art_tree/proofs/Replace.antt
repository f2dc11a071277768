-- A leaf gives way to another with its key.
use Rattle.std.proofs.Common.{◌≡◌, ◌≢◌, ◌⊎◌, ℕ, List, Some, refl, sym, ap, ◌∙◌, subst, subst₂, inl, inr, ⊎_elim, nat_cmp}
use Rattle.std.specs.FinMap.{get, insert}
use Rattle.std.specs.Ordering.{eq_by_cmp}
use Rattle.std.specs.Cmp.Lexicographic.{slice_cmp}
use Rattle.std.proofs.Common.{false}
use Rattle.art_cell.specs.declared.cells.Node.{Node}
use Rattle.art_cell.specs.declared.cells.Link.{Link}
use Rattle.art_cell.specs.declared.cells.Link.TheVariants.{Leaf as leaf, Node as node}
use Rattle.art_tree.specs.Tree.{Place, Heap, StandsAt, PlaceAt, Begins, Row, IsTree}
use Rattle.art_tree.specs.Rows.{ByteMap, HasRows}
use Rattle.art_tree.specs.Changes.{Replaces, Moves}
use Rattle.art_tree.proofs.Places.{at_place, same_link}
use Rattle.art_tree.proofs.Patch.{Patch}
use Rattle.art_tree.proofs.Sound.{patch_sound, row_back, row_on, row_new, patch_moves, no_nodes, stays_two, row_of_leaf, key_test, get_added, get_added_other}

module _ (h h' : Heap) (x : Place) (l i : ℕ) (r₀ : List ℕ) (w : Replaces h h' x l i) (at : PlaceAt h x r₀) (s : IsTree h) where
  abbrev pub ReplaceT : Link → Type 0
  ReplaceT d = (d ≡ leaf l) ⊎ (d ≡ leaf i)

  abbrev pub ReplaceE : Link → List ℕ → Type 0
  ReplaceE d r = (d ≡ leaf i) × (r ≡ r₀)

  no_node : (n : Node) → ReplaceT (node n) → ⊥
  no_node n t = ⊎_elim (λ (e : node n ≡ leaf l). cc) (λ (e : node n ≡ leaf i). cc) t

  replace_patch : Patch h h' x r₀ ReplaceT ReplaceE
  replace_patch = record {
    at = at;
    outside = no_nodes ReplaceT no_node x;
    decided = λ d. ⊎_elim (λ (e : d ≡ leaf l). inl (inl e)) (λ (f : d ≢ leaf l). ⊎_elim (λ (e : d ≡ leaf i). inl (inr e)) (λ (g : d ≢ leaf i). inr (λ t. ⊎_elim f g t)) (same_link d (leaf i))) (same_link d (leaf l));
    old = λ d e. let f = w.was in inl (cc);
    new = λ d e. let f = w.now in let g : d ≡ leaf i = cc in (inr g, (g, refl));
    rest = λ y other _. w.rest y other;
    prefixes = λ n _. w.prefixes n;
    only = λ y r d other _ j e t. ⊎_elim
        (λ (f : d ≡ leaf l). other (s.once y x r r₀ (leaf l) j at (e ∙ ap Some f) w.was))
        (λ (f : d ≡ leaf i). w.new r (subst (λ z. StandsAt h z r) f (at_place h y d r j e))) t;
    inside = λ n b p d t _ e. absurd (no_node n t);
    exits = λ n b p d t _ e _ _. absurd (no_node n t);
    there = λ d r e j. (inr e.0, subst₂ (StandsAt h') (sym e.0) (sym e.1) (at_place h' x (leaf i) r₀ j w.now));
    keys = w.leaves.keys;
    values = w.leaves.values;
    one = λ d r s e f. e.1 ∙ sym f.1;
  }

  module _ (same : h.key i ≡ h.key l) where
    at_l : StandsAt h (leaf l) r₀
    at_l = at_place h x (leaf l) r₀ at w.was

    pub replace_moves : Moves h h' ReplaceT ReplaceE
    replace_moves = patch_moves h h' x r₀ ReplaceT ReplaceE replace_patch s
        (patch_sound h h' x r₀ ReplaceT ReplaceE replace_patch s
        (λ n p t _. absurd (no_node n t))
        (λ n b p is a. stays_two h h' x r₀ ReplaceT ReplaceE replace_patch (leaf i) w.now n b is (s.splits n p a))
        (λ n p t _. absurd (no_node n t))
        (λ n p t e. let ni : n ≡ i = cc (e.0) in subst₂ Begins (sym e.1) (sym (ap h.key ni ∙ same)) (s.spelled l r₀ at_l)))

    pub replace_rows : (m : ByteMap) → HasRows h m → HasRows h' (insert m (h.key i) (h.value i))
    replace_rows m rows j u = ⊎_elim
        (λ (key : j ≡ h.key i).
        let has : get (insert m (h.key i) (h.value i)) j ≡ Some (h.value i) = ap (get (insert m (h.key i) (h.value i))) key ∙ get_added m (h.key i) (h.value i) in (
          (λ o. ⊎_elim
              (λ f. let ni : f.0 ≡ i = cc (f.2.0) in has ∙ ap Some (sym (ap h.value ni) ∙ f.4))
              (λ f. absurd (gone j u f.0 (key ∙ same) f.1))
              (row_back h h' x r₀ ReplaceT ReplaceE replace_patch s j u o)),
          (λ e. let v : h.value i ≡ u = cc in subst₂ (Row h') (sym key) v (row_new h h' x r₀ ReplaceT ReplaceE replace_patch s i r₀ (refl, refl))),
        ))
        (λ (other : (j ≢ h.key i) × (eq_by_cmp (slice_cmp nat_cmp) j (h.key i) ≡ false)).
        let has = get_added_other m (h.key i) (h.value i) j other.1 in (
          (λ o. ⊎_elim
              (λ f. let ni : f.0 ≡ i = cc (f.2.0) in absurd (other.0 (sym f.3 ∙ ap h.key ni)))
              (λ f. has ∙ (rows j u).0 f.0)
              (row_back h h' x r₀ ReplaceT ReplaceE replace_patch s j u o)),
          (λ e. let o = (rows j u).1 (sym has ∙ e) in
              row_on h h' x r₀ ReplaceT ReplaceE replace_patch s j u o (λ t. ⊎_elim
              (λ (f : leaf o.number ≡ leaf l). let nl : o.number ≡ l = cc (f) in other.0 (sym o.key ∙ (ap h.key nl ∙ sym same)))
              (λ (f : leaf o.number ≡ leaf i). w.new o.path (subst (λ z. StandsAt h z o.path) f o.at)) t)),
        ))
        (key_test j (h.key i))
      where
        gone : (j : List ℕ) (u : ℕ) (o : Row h j u) → j ≡ h.key l → (ReplaceT (leaf o.number) → ⊥) → ⊥
        gone j u o key f = f (inl (ap leaf (row_of_leaf h l r₀ s at_l u (record { number = o.number; path = o.path; at = o.at; key = o.key ∙ key; value = o.value }))))
