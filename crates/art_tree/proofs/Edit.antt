-- A leaf comes to a place, or goes from it.
use Rattle.std.proofs.Common.{◌≡◌, ℕ, List, Some, None, refl, sym, ap, ◌∙◌, subst, inl, inr, ⊎_elim}
use Rattle.std.specs.FinMap.{insert, remove}
use Rattle.art_cell.specs.declared.cells.Node.{Node}
use Rattle.art_cell.specs.declared.cells.Link.{Link}
use Rattle.art_cell.specs.declared.cells.Link.TheVariants.{Leaf as leaf}
use Rattle.art_tree.specs.Tree.{Place, Slot, Heap, child_at_place, StandsAt, PlaceAt, Begins, Row, HasTwo, IsTree}
use Rattle.art_tree.specs.Rows.{ByteMap, HasRows}
use Rattle.art_tree.specs.Changes.{IsUnlinked, Edits, Moves}
use Rattle.art_tree.proofs.Places.{at_place, same_link}
use Rattle.art_tree.proofs.Patch.{Patch}
use Rattle.art_tree.proofs.Sound.{patch_sound, row_back, row_on, row_new, rows_added, rows_dropped, patch_moves, no_nodes, row_of_leaf}

module _ (h h' : Heap) (x : Place) (l : ℕ) (r₀ : List ℕ) (w : Edits h h' x l) (at : PlaceAt h x r₀) where
  abbrev pub EditT : Link → Type 0
  EditT d = d ≡ leaf l

  abbrev pub EditE : Link → List ℕ → Type 0
  EditE d r = (d ≡ leaf l) × (r ≡ r₀) × (child_at_place h' x ≡ Some (leaf l))

  pub edit_patch : Patch h h' x r₀ EditT EditE
  edit_patch = record {
    at = at;
    outside = no_nodes EditT (λ n e. cc) x;
    decided = λ d. same_link d (leaf l);
    old = w.old;
    new = λ d e. let g = w.new d e in (g, (g, refl, e ∙ ap Some g));
    rest = λ y other _. w.rest y other;
    prefixes = λ n _. w.prefixes n;
    only = λ y r d other _ i e t. other (w.only y r i (e ∙ ap Some t));
    inside = λ n b p d t _ e. absurd (cc);
    exits = λ n b p d t _ e _ _. absurd (cc);
    there = λ d r e i. (e.0, subst (λ z. StandsAt h' z r) (sym e.0) (subst (StandsAt h' (leaf l)) (sym e.1) (at_place h' x (leaf l) r₀ i e.2)));
    keys = w.leaves.keys;
    values = w.leaves.values;
    one = λ d r s e f. e.1 ∙ sym f.1;
  }

  module _ (s : IsTree h) (two : (n : Node) (b : ℕ) → x ≡ Slot n b → HasTwo h n → HasTwo h' n) (begins : Begins r₀ (h.key l)) where
    edit_sound : IsTree h'
    edit_sound = patch_sound h h' x r₀ EditT EditE edit_patch s
        (λ n p t _. absurd (cc))
        (λ n b p is a. two n b is (s.splits n p a))
        (λ n p t _. absurd (cc))
        (λ n p t e. let same : n ≡ l = cc in subst (λ z. Begins p (h.key z)) (sym same) (subst (λ z. Begins z (h.key l)) (sym e.1) begins))

    pub edit_moves : Moves h h' EditT EditE
    edit_moves = patch_moves h h' x r₀ EditT EditE edit_patch s edit_sound

  -- the leaf comes
  pub hang_rows : IsTree h → (m : ByteMap) → HasRows h m → ((v : ℕ) → Row h (h.key l) v → ⊥) → IsUnlinked h (leaf l) → child_at_place h' x ≡ Some (leaf l) → HasRows h' (insert m (h.key l) (h.value l))
  hang_rows s m rows absent new hung = rows_added h h' m (h.key l) (h.value l) rows absent
      (row_new h h' x r₀ EditT EditE edit_patch s l r₀ (refl, refl, hung))
      (λ j u o. ⊎_elim (λ f. inr (let same : f.0 ≡ l = cc (f.2.0) in (sym f.3 ∙ ap h.key same, sym f.4 ∙ ap h.value same))) (λ f. inl f.0) (row_back h h' x r₀ EditT EditE edit_patch s j u o))
      (λ j u o. row_on h h' x r₀ EditT EditE edit_patch s j u o (λ t. new o.path (subst (λ z. StandsAt h z o.path) t o.at)))

  -- the leaf goes
  pub cut_rows : IsTree h → (m : ByteMap) → HasRows h m → child_at_place h x ≡ Some (leaf l) → child_at_place h' x ≡ None → HasRows h' (remove m (h.key l))
  cut_rows s m rows was cut = rows_dropped h h' m (h.key l) rows
      (λ u o. ⊎_elim (λ f. let g = f.2.2 in absurd (cc)) (λ f. f.1 (ap leaf (row_of_leaf h l r₀ s (at_place h x (leaf l) r₀ at was) u f.0))) (row_back h h' x r₀ EditT EditE edit_patch s (h.key l) u o))
      (λ j u o. ⊎_elim (λ f. let g = f.2.2 in absurd (cc)) (λ f. f.0) (row_back h h' x r₀ EditT EditE edit_patch s j u o))
      (λ j u other o. row_on h h' x r₀ EditT EditE edit_patch s j u o (λ t. let same : o.number ≡ l = cc in other (sym o.key ∙ ap h.key same)))
