-- A node with two children gives way to one of them.
use Rattle.std.proofs.Common.{◌≡◌, ◌≢◌, ◌⊎◌, ℕ, ◌+◌, List, [], ◌∷◌, ◌++◌, length, Some, refl, sym, ap, ◌∙◌, subst, subst₂, inl, inr, ⊎_elim, length-append, arith}
use Rattle.std.proofs.lemmas.Bool.{cases_eq}
use Rattle.std.specs.FinMap.{remove}
use Rattle.art_cell.specs.declared.cells.Node.{Node}
use Rattle.art_cell.specs.declared.cells.Link.{Link}
use Rattle.art_cell.specs.declared.cells.Link.TheVariants.{Leaf as leaf, Node as node}
use Rattle.art_tree.specs.Tree.{Place, Slot, Heap, path_past, StandsAt, down, PlaceAt, Begins, Row, NamesOnce, IsTree}
use Rattle.art_tree.specs.Rows.{ByteMap, HasRows}
use Rattle.art_tree.specs.Changes.{Merges, Moves}
use Rattle.art_tree.proofs.Places.{at_place, same_link, one_path}
use Rattle.art_tree.proofs.Paths.{length_past, begins_more}
use Rattle.art_tree.proofs.Patch.{Patch}
use Rattle.art_tree.proofs.Sound.{patch_sound, row_back, row_on, row_new, rows_dropped, two_filled, patch_moves, stays_two, row_of_leaf}
use Rattle.art_tree.proofs.Renew.{deeper, outside_slot, not_own, outside_by}
use Rattle.art_tree.proofs.Fork.{join_path}

module _ (h h' : Heap) (x : Place) (c : Link) (n : Node) (l a b : ℕ) (r₀ : List ℕ) (w : Merges h h' x c n l a b) (at : PlaceAt h x r₀) (once : NamesOnce h) where
  abbrev pub MergeT : Link → Type 0
  MergeT d = (d ≡ node n) ⊎ ((d ≡ leaf l) ⊎ (d ≡ c))

  abbrev pub MergeE : Link → List ℕ → Type 0
  MergeE d r = (d ≡ c) × (r ≡ r₀)

  at_n : StandsAt h (node n) r₀
  at_n = at_place h x (node n) r₀ at w.was

  at_c : StandsAt h c (path_past h n r₀ a)
  at_c = down a at_n w.one refl

  at_l : StandsAt h (leaf l) (path_past h n r₀ b)
  at_l = down b at_n w.two refl

  path_c : (k : Node) (e : ℕ) → node k ≡ c → path_past h k (path_past h n r₀ a) e ≡ path_past h' k r₀ e
  path_c k e is = sym (ap (λ z. r₀ ++ z ++ e ∷ []) (w.longer k (sym is)) ∙ join_path r₀ (h.prefix n) (h.prefix k) a e)

  -- the place is not in c
  apart_c : (k : Node) (e : ℕ) → node k ≡ c → x ≡ Slot k e → ⊥
  apart_c k e is f =
      let i : PlaceAt h (Slot k e) r₀ = subst (λ z. PlaceAt h z r₀) f at in
      let same : i.0 ≡ path_past h n r₀ a = one_path h c i.0 (path_past h n r₀ a) once (subst (λ z. StandsAt h z i.0) is i.1) at_c in
      omega (arith, ap length same, ap length i.2, length_past h k i.0 e, length_past h n r₀ a)

  child_c : (k : Node) (e : ℕ) → node k ≡ c → h'.child k e ≡ h.child k e
  child_c k e is = w.rest (Slot k e) (λ f. apart_c k e is (sym f))

  below_c : (k : Node) (e : ℕ) (d : Link) → node k ≡ c → h.child k e ≡ Some d → MergeT d → ⊥
  below_c k e d is f t =
      let c_at : StandsAt h (node k) (path_past h n r₀ a) = subst (λ z. StandsAt h z (path_past h n r₀ a)) (sym is) at_c in
      let path = path_past h k (path_past h n r₀ a) e in
      let there : StandsAt h d path = down e c_at f refl in
      let long : length path ≡ length r₀ + length (h.prefix n) + 1 + length (h.prefix k) + 1 = omega (arith, length_past h k (path_past h n r₀ a) e, length_past h n r₀ a) in
      ⊎_elim
      (λ (g : d ≡ node n). omega (arith, long, ap length (one_path h (node n) path r₀ once (subst (λ z. StandsAt h z path) g there) at_n)))
      (⊎_elim
      (λ (g : d ≡ leaf l). omega (arith, long, length_past h n r₀ b, ap length (one_path h (leaf l) path (path_past h n r₀ b) once (subst (λ z. StandsAt h z path) g there) at_l)))
      (λ (g : d ≡ c). deeper h c k (path_past h n r₀ a) e once at_c (subst (λ z. StandsAt h z path) g there)))
      t

  merge_patch : Patch h h' x r₀ MergeT MergeE
  merge_patch = record {
    at = at;
    outside = outside_by MergeT x (λ k e is t. ⊎_elim
        (λ (f : node k ≡ node n). let kn : k ≡ n = cc (f) in not_own h x r₀ k e once at (w.was ∙ ap Some (sym f)) is)
        (⊎_elim (λ (f : node k ≡ leaf l). absurd (cc)) (λ (f : node k ≡ c). apart_c k e f is)) t);
    decided = λ d. ⊎_elim (λ (e : d ≡ node n). inl (inl e)) (λ (f : d ≢ node n). ⊎_elim (λ (e : d ≡ leaf l). inl (inr (inl e))) (λ (g : d ≢ leaf l). ⊎_elim (λ (e : d ≡ c). inl (inr (inr e))) (λ (i : d ≢ c). inr (λ t. ⊎_elim f (λ u. ⊎_elim g i u) t)) (same_link d c)) (same_link d (leaf l))) (same_link d (node n));
    old = λ d e. let f = w.was in inl (cc);
    new = λ d e. let f = w.now in let g : d ≡ c = cc in (inr (inr g), (g, refl));
    rest = λ y other _. w.rest y other;
    prefixes = λ k t. w.prefixes k (λ e. t (inr (inr (sym e))));
    only = λ y r d other out i e t. ⊎_elim
        (λ (f : d ≡ node n). other (once y x r r₀ (node n) i at (e ∙ ap Some f) w.was))
        (⊎_elim
        (λ (f : d ≡ leaf l). outside_slot MergeT y n b (inl refl) out (once y (Slot n b) r (path_past h n r₀ b) (leaf l) i (r₀, at_n, refl) (e ∙ ap Some f) w.two))
        (λ (f : d ≡ c). outside_slot MergeT y n a (inl refl) out (once y (Slot n a) r (path_past h n r₀ a) c i (r₀, at_n, refl) (e ∙ ap Some f) w.one)))
        t;
    inside = λ k e p d t f i.
        let j = sym (child_c k e f.0) ∙ i in
        let path : path_past h' k p e ≡ path_past h k (path_past h n r₀ a) e = ap (λ z. path_past h' k z e) f.1 ∙ sym (path_c k e f.0) in
        inr (below_c k e d f.0 j, down e (subst (λ z. StandsAt h z (path_past h n r₀ a)) (sym f.0) at_c) j path);
    exits = λ k e p d t i f free there. ⊎_elim
        (λ (g : node k ≡ node n).
        let kn : k ≡ n = cc (g) in
        let f' : h.child n e ≡ Some d = ap (λ z. h.child z e) (sym kn) ∙ f in
        absurd (⊎_elim
        (λ (o : e ≡ a). let f'' = ap (h.child n) (sym o) ∙ f' in let u = w.one in free (inr (inr (cc))))
        (λ (o : e ≢ a). ⊎_elim
        (λ (v : e ≡ b). let f'' = ap (h.child n) (sym v) ∙ f' in let u = w.two in free (inr (inl (cc))))
        (λ (v : e ≢ b). let u = w.none e o v in cc)
        (cases_eq e b))
        (cases_eq e a)))
        (⊎_elim
        (λ (g : node k ≡ leaf l). absurd (cc))
        (λ (g : node k ≡ c).
        let pr : p ≡ path_past h n r₀ a = one_path h c p (path_past h n r₀ a) once (subst (λ z. StandsAt h z p) g i) at_c in
        let c_at : StandsAt h' (node k) r₀ = subst (λ z. StandsAt h' z r₀) (sym g) (at_place h' x c r₀ there w.now) in
        down e c_at (child_c k e g ∙ f) (ap (λ z. path_past h k z e) pr ∙ path_c k e g)))
        t;
    there = λ d r e i. (inr (inr e.0), subst₂ (StandsAt h') (sym e.0) (sym e.1) (at_place h' x c r₀ i w.now));
    keys = w.leaves.keys;
    values = w.leaves.values;
    one = λ d r s e f. e.1 ∙ sym f.1;
  }

  module _ (s : IsTree h) where
    merge_sound : IsTree h'
    merge_sound = patch_sound h h' x r₀ MergeT MergeE merge_patch s
        (λ k p _ e. two_filled h h' k (λ i d j. (d, child_c k i e.0 ∙ j)) (s.splits k (path_past h n r₀ a) (subst (λ z. StandsAt h z (path_past h n r₀ a)) (sym e.0) at_c)))
        (λ k e p is i. stays_two h h' x r₀ MergeT MergeE merge_patch c w.now k e is (s.splits k p i))
        (λ k p _ e.
        let old = s.short k (path_past h n r₀ a) (subst (λ z. StandsAt h z (path_past h n r₀ a)) (sym e.0) at_c) in
        omega (arith, old, ap length e.1, length_past h n r₀ a, ap length (w.longer k (sym e.0)), length-append (h.prefix n) (a ∷ h.prefix k)))
        (λ k p _ e. subst (λ z. Begins z (h.key k)) (sym e.1) (begins_more r₀ (h.prefix n) (h.key k) (begins_more (r₀ ++ h.prefix n) (a ∷ []) (h.key k) (s.spelled k (path_past h n r₀ a) (subst (λ z. StandsAt h z (path_past h n r₀ a)) (sym e.0) at_c)))))

    pub merge_moves : Moves h h' MergeT MergeE
    merge_moves = patch_moves h h' x r₀ MergeT MergeE merge_patch s merge_sound

    pub merge_rows : (f : ByteMap) → HasRows h f → HasRows h' (remove f (h.key l))
    merge_rows f rows =
        let l_gone : leaf l ≡ c → ⊥ = λ e. let f : Slot n b ≡ Slot n a = once (Slot n b) (Slot n a) (path_past h n r₀ b) (path_past h n r₀ a) (leaf l) (r₀, at_n, refl) (r₀, at_n, refl) w.two (w.one ∙ ap Some (sym e)) in w.apart (cc)
        in
        rows_dropped h h' f (h.key l) rows
        (λ u o. ⊎_elim
        (λ g. let mine : Row h (h.key l) u = record { number = g.0; path = path_past h n r₀ a; at = subst (λ z. StandsAt h z (path_past h n r₀ a)) (sym g.2.0) at_c; key = g.3; value = g.4 } in
        l_gone (ap leaf (sym (row_of_leaf h l (path_past h n r₀ b) s at_l u mine)) ∙ g.2.0))
        (λ g. g.1 (inr (inl (ap leaf (row_of_leaf h l (path_past h n r₀ b) s at_l u g.0)))))
        (row_back h h' x r₀ MergeT MergeE merge_patch s (h.key l) u o))
        (λ j u o. ⊎_elim
        (λ g. record { number = g.0; path = path_past h n r₀ a; at = subst (λ z. StandsAt h z (path_past h n r₀ a)) (sym g.2.0) at_c; key = g.3; value = g.4 })
        (λ g. g.0)
        (row_back h h' x r₀ MergeT MergeE merge_patch s j u o))
        (λ j u other o. ⊎_elim
        (λ (t : leaf o.number ≡ c). subst₂ (Row h') o.key o.value (row_new h h' x r₀ MergeT MergeE merge_patch s o.number r₀ (t, refl)))
        (λ (t : leaf o.number ≢ c). row_on h h' x r₀ MergeT MergeE merge_patch s j u o (λ e. ⊎_elim (λ (f : leaf o.number ≡ node n). absurd (cc)) (⊎_elim (λ (f : leaf o.number ≡ leaf l). let same : o.number ≡ l = cc (f) in other (sym o.key ∙ ap h.key same)) t) e))
        (same_link (leaf o.number) c))
