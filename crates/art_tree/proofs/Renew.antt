-- A node gives way to a copy.
use Rattle.std.proofs.Common.{◌≡◌, ◌⊎◌, ℕ, ◌+◌, ◌<◌, List, [], ◌∷◌, ◌++◌, length, Option, Some, None, refl, sym, ap, ap₂, ◌∙◌, subst, subst₂, inl, inr, ⊎_elim, arith}
use Rattle.std.proofs.lemmas.Bool.{cases_eq}
use Rattle.std.specs.FinMap.{insert, remove}
use Rattle.art_cell.specs.declared.cells.Node.{Node}
use Rattle.art_cell.specs.declared.cells.Link.{Link}
use Rattle.art_cell.specs.declared.cells.Link.TheVariants.{Leaf as leaf, Node as node}
use Rattle.art_tree.specs.Tree.{Place, Top, Slot, Heap, child_at_place, path_past, StandsAt, down, PlaceAt, Begins, Row, HasTwo, NamesOnce, IsTree}
use Rattle.art_tree.specs.Rows.{ByteMap}
use Rattle.art_tree.specs.Changes.{IsUnlinked, GivesWay, Renews, Copies, Moves}
use Rattle.art_tree.specs.Laws.{Does, RenewTouched, RenewPaths, CopyTouched, CopyPaths}
use Rattle.art_tree.proofs.Places.{at_place, same_link, one_path}
use Rattle.art_tree.proofs.Lookup.{absent_free}
use Rattle.art_tree.proofs.Paths.{length_past}
use Rattle.art_tree.proofs.Patch.{Outside, Patch}
use Rattle.art_tree.proofs.Sound.{patch_sound, row_back, row_on, row_new, rows_added, rows_dropped, rows_kept, patch_moves, stays_two, row_of_leaf, moves_as}

-- a node is not below itself
pub deeper : (h : Heap) (c : Link) (n : Node) (p : List ℕ) (b : ℕ) → NamesOnce h → StandsAt h c p → StandsAt h c (path_past h n p b) → ⊥
deeper h c n p b once a d = omega (arith, ap length (one_path h c p (path_past h n p b) once a d), length_past h n p b)

pub outside_slot : (T : Link → Type 0) (y : Place) (m : Node) (a : ℕ) → T (node m) → Outside T y → y ≡ Slot m a → ⊥
outside_slot T y m a t out e = let o : Outside T (Slot m a) = subst (Outside T) e out in o t

-- what a place of the tree holds is not the place's own node
pub not_own : (h : Heap) (x : Place) (r : List ℕ) (n : Node) (b : ℕ) → NamesOnce h → PlaceAt h x r → child_at_place h x ≡ Some (node n) → x ≡ Slot n b → ⊥
not_own h x r n b once i e is =
    let j : PlaceAt h (Slot n b) r = subst (λ z. PlaceAt h z r) is i in
    deeper h (node n) n j.0 b once j.1 (subst (StandsAt h (node n)) j.2 (at_place h x (node n) r i e))

-- a place's node is linked
pub place_node : (h : Heap) (x : Place) (r : List ℕ) (m : Node) (b : ℕ) → PlaceAt h x r → IsUnlinked h (node m) → x ≡ Slot m b → ⊥
place_node h x r m b i free is = let j : PlaceAt h (Slot m b) r = subst (λ z. PlaceAt h z r) is i in free j.0 j.1

pub outside_by : (T : Link → Type 0) (x : Place) → ((n : Node) (b : ℕ) → x ≡ Slot n b → T (node n) → ⊥) → Outside T x
outside_by T Top f = tt
outside_by T (Slot n b) f = f n b refl

-- m has n's children but at the bytes of B, at most one, where each has a leaf of L or none
pub record KeepsBut (h h' : Heap) (n m : Node) (B : ℕ → Type 0) (L : Link → Type 0) : Type 0 where
  pub byte : (a : ℕ) → B a ⊎ (B a → ⊥)
  pub one : (a b : ℕ) → B a → B b → a ≡ b
  pub decided : (d : Link) → L d ⊎ (L d → ⊥)
  pub leaf : (k : Node) → L (node k) → ⊥
  pub old : (a : ℕ) (d : Link) → B a → h.child n a ≡ Some d → L d
  pub new : (a : ℕ) (d : Link) → B a → h'.child m a ≡ Some d → L d
  pub same : (a : ℕ) → (B a → ⊥) → h'.child m a ≡ h.child n a
  pub only : (y : Place) (r : List ℕ) (d : Link) → L d → PlaceAt h y r → child_at_place h y ≡ Some d → (a : ℕ) × B a × (y ≡ Slot n a)

module _ (h h' : Heap) (x : Place) (n m : Node) (B : ℕ → Type 0) (L : Link → Type 0) (r₀ : List ℕ) (g : GivesWay h h' x n m) (w : KeepsBut h h' n m B L) (at : PlaceAt h x r₀) (s : IsTree h) where
  abbrev pub WayT : Link → Type 0
  WayT d = (d ≡ node n) ⊎ ((d ≡ node m) ⊎ L d)

  abbrev Hangs : Link → List ℕ → Type 0
  Hangs d r = L d × ((a : ℕ) × B a × (r ≡ path_past h n r₀ a) × (h'.child m a ≡ Some d))

  abbrev pub WayE : Link → List ℕ → Type 0
  WayE d r = ((d ≡ node m) × (r ≡ r₀)) ⊎ Hangs d r

  at_n : StandsAt h (node n) r₀
  at_n = at_place h x (node n) r₀ at g.was

  past_m : (a : ℕ) → path_past h' m r₀ a ≡ path_past h n r₀ a
  past_m a = ap (λ q. r₀ ++ q ++ a ∷ []) g.prefix

  no_leaf : (k : Node) (d : Link) → d ≡ node k → L d → ⊥
  no_leaf k d e t = w.leaf k (subst L e t)

  decide : (d : Link) → WayT d ⊎ (WayT d → ⊥)
  decide d = ⊎_elim (λ e. inl (inl e)) (λ f. ⊎_elim (λ e. inl (inr (inl e))) (λ i. ⊎_elim (λ e. inl (inr (inr e))) (λ j. inr (λ t. ⊎_elim f (λ u. ⊎_elim i j u) t)) (w.decided d)) (same_link d (node m))) (same_link d (node n))

  -- a child of n at another byte is untouched
  child_free : (a : ℕ) (d : Link) → (B a → ⊥) → h.child n a ≡ Some d → WayT d → ⊥
  child_free a d other e t =
      let there : StandsAt h d (path_past h n r₀ a) = down a at_n e refl in
      ⊎_elim
      (λ (f : d ≡ node n). deeper h (node n) n r₀ a s.once at_n (subst (λ z. StandsAt h z (path_past h n r₀ a)) f there))
      (⊎_elim
      (λ (f : d ≡ node m). g.fresh (path_past h n r₀ a) (subst (λ z. StandsAt h z (path_past h n r₀ a)) f there))
      (λ (f : L d).
      let k = w.only (Slot n a) (path_past h n r₀ a) d f (r₀, at_n, refl) e in
      let same : a ≡ k.0 = cc (k.2) in
      other (subst B (sym same) k.1)))
      t

  inside_m : (a : ℕ) (d : Link) → h'.child m a ≡ Some d → (WayT d × WayE d (path_past h n r₀ a)) ⊎ ((WayT d → ⊥) × StandsAt h d (path_past h n r₀ a))
  inside_m a d e = ⊎_elim
      (λ (f : B a). let l = w.new a d f e in inl (inr (inr l), inr (l, (a, f, refl, e))))
      (λ (f : B a → ⊥). let e' = sym (w.same a f) ∙ e in inr (child_free a d f e', down a at_n e' refl))
      (w.byte a)

  way_patch : Patch h h' x r₀ WayT WayE
  way_patch = record {
    at = at;
    outside = outside_by WayT x (λ k a is t. ⊎_elim (λ (e : node k ≡ node n). let kn : k ≡ n = cc in not_own h x r₀ k a s.once at (g.was ∙ ap Some (sym e)) is) (⊎_elim (λ (e : node k ≡ node m). let km : k ≡ m = cc in place_node h x r₀ m a at g.fresh (is ∙ ap (λ z. Slot z a) km)) (λ (e : L (node k)). absurd (w.leaf k e))) t);
    decided = decide;
    old = λ d e. let f = g.was in inl (cc);
    new = λ d e. let f = g.now in let i : d ≡ node m = cc in (inr (inl i), inl (i, refl));
    rest = λ y other out. g.rest y other (λ a. outside_slot WayT y m a (inr (inl refl)) out);
    prefixes = λ k t. g.prefixes k (λ e. t (inr (inl (ap node e))));
    only = λ y r d other out i e t. ⊎_elim
        (λ (f : d ≡ node n). other (s.once y x r r₀ (node n) i at (e ∙ ap Some f) g.was))
        (⊎_elim
        (λ (f : d ≡ node m). g.fresh r (subst (λ z. StandsAt h z r) f (at_place h y d r i e)))
        (λ (f : L d). let k = w.only y r d f i e in outside_slot WayT y n k.0 (inl refl) out k.2))
        t;
    inside = λ k a p d t f e. ⊎_elim
        (λ (i : (node k ≡ node m) × (p ≡ r₀)).
        let km : k ≡ m = cc (i.0) in
        let path : path_past h' k p a ≡ path_past h n r₀ a = ap₂ (λ u v. path_past h' u v a) km i.1 ∙ past_m a in
        subst (λ z. (WayT d × WayE d z) ⊎ ((WayT d → ⊥) × StandsAt h d z)) (sym path) (inside_m a d (subst (λ z. h'.child z a ≡ Some d) km e)))
        (λ (i : Hangs (node k) p). absurd (w.leaf k i.0)) f;
    exits = λ k a p d t i e free there. ⊎_elim
        (λ (j : node k ≡ node n).
        let kn : k ≡ n = cc in
        let i' : StandsAt h (node n) p = subst (λ z. StandsAt h z p) j i in
        let e' : h.child n a ≡ Some d = subst (λ z. h.child z a ≡ Some d) kn e in
        let pr : p ≡ r₀ = one_path h (node n) p r₀ s.once i' at_n in
        let other : B a → ⊥ = λ f. free (inr (inr (w.old a d f e'))) in
        down a (at_place h' x (node m) r₀ there g.now) (w.same a other ∙ e') (ap₂ (λ u v. path_past h u v a) kn pr ∙ sym (past_m a)))
        (⊎_elim (λ (j : node k ≡ node m). absurd (g.fresh p (subst (λ z. StandsAt h z p) j i))) (λ (j : L (node k)). absurd (w.leaf k j))) t;
    there = λ d r e i.
        let m_at = at_place h' x (node m) r₀ i g.now in
        ⊎_elim
        (λ (f : (d ≡ node m) × (r ≡ r₀)). (inr (inl f.0), subst (λ z. StandsAt h' z r) (sym f.0) (subst (StandsAt h' (node m)) (sym f.1) m_at)))
        (λ (f : Hangs d r). (inr (inr f.0), down f.1.0 m_at f.1.3 (f.1.2 ∙ sym (past_m f.1.0))))
        e;
    keys = g.leaves.keys;
    values = g.leaves.values;
    one = λ d r t e f. ⊎_elim
        (λ (i : (d ≡ node m) × (r ≡ r₀)). ⊎_elim (λ (j : (d ≡ node m) × (t ≡ r₀)). i.1 ∙ sym j.1) (λ (j : Hangs d t). absurd (no_leaf m d i.0 j.0)) f)
        (λ (i : Hangs d r). ⊎_elim (λ (j : (d ≡ node m) × (t ≡ r₀)). absurd (no_leaf m d j.0 i.0)) (λ (j : Hangs d t). i.1.2 ∙ ap (path_past h n r₀) (w.one i.1.0 j.1.0 i.1.1 j.1.1) ∙ sym j.1.2) f)
        e;
  }

  module _ (two : HasTwo h' m) (begins : (a l : ℕ) → B a → h'.child m a ≡ Some (leaf l) → Begins (path_past h n r₀ a) (h.key l)) where
    way_sound : IsTree h'
    way_sound = patch_sound h h' x r₀ WayT WayE way_patch s
        (λ k p _ e. ⊎_elim (λ (f : (node k ≡ node m) × (p ≡ r₀)). let km : k ≡ m = cc (f.0) in subst (HasTwo h') (sym km) two) (λ (f : Hangs (node k) p). absurd (w.leaf k f.0)) e)
        (λ k a p is i. stays_two h h' x r₀ WayT WayE way_patch (node m) g.now k a is (s.splits k p i))
        (λ k p _ e. ⊎_elim (λ (f : (node k ≡ node m) × (p ≡ r₀)). let km : k ≡ m = cc (f.0) in subst₂ (λ u v. length u + length (h'.prefix v) < 64) (sym f.1) (sym km) (subst (λ q. length r₀ + length q < 64) (sym g.prefix) (s.short n r₀ at_n))) (λ (f : Hangs (node k) p). absurd (w.leaf k f.0)) e)
        (λ k p _ e. ⊎_elim (λ (f : (leaf k ≡ node m) × (p ≡ r₀)). let i = f.0 in absurd (cc)) (λ (f : Hangs (leaf k) p). subst (λ z. Begins z (h.key k)) (sym f.1.2) (begins f.1.0 k f.1.1 f.1.3)) e)

    pub way_moves : Moves h h' WayT WayE
    way_moves = patch_moves h h' x r₀ WayT WayE way_patch s way_sound

  -- a row that is there was there, or is that of the leaf
  pub way_back : (j : List ℕ) (u : ℕ) → Row h' j u → Row h j u ⊎ ((k : ℕ) × (j ≡ h.key k) × (u ≡ h.value k) × L (leaf k) × ((a : ℕ) × B a × (h'.child m a ≡ Some (leaf k))))
  way_back j u o = ⊎_elim
      (λ f. ⊎_elim (λ (i : (leaf f.0 ≡ node m) × (f.1 ≡ r₀)). let k = i.0 in absurd (cc)) (λ (i : Hangs (leaf f.0) f.1). inr (f.0, sym f.3, sym f.4, i.0, (i.1.0, i.1.1, i.1.3))) f.2)
      (λ f. inl f.0)
      (row_back h h' x r₀ WayT WayE way_patch s j u o)

  -- a row of the leaf is gone where no byte has it
  pub way_gone : (j : List ℕ) (u : ℕ) → ((l a : ℕ) → B a → h'.child m a ≡ Some (leaf l) → ⊥) → (o : Row h' j u) → (q : Row h j u) × (L (leaf q.number) → ⊥)
  way_gone j u none o = ⊎_elim
      (λ f. ⊎_elim (λ (i : (leaf f.0 ≡ node m) × (f.1 ≡ r₀)). let k = i.0 in absurd (cc)) (λ (i : Hangs (leaf f.0) f.1). absurd (none f.0 i.1.0 i.1.1 i.1.3)) f.2)
      (λ f. (f.0, λ e. f.1 (inr (inr e))))
      (row_back h h' x r₀ WayT WayE way_patch s j u o)

  pub way_on : (j : List ℕ) (u : ℕ) (o : Row h j u) → (L (leaf o.number) → ⊥) → Row h' j u
  way_on j u o other = row_on h h' x r₀ WayT WayE way_patch s j u o (λ t. ⊎_elim (λ (e : leaf o.number ≡ node n). absurd (cc)) (⊎_elim (λ (e : leaf o.number ≡ node m). absurd (cc)) other) t)

  pub way_new : (l a : ℕ) → B a → h'.child m a ≡ Some (leaf l) → Row h' (h.key l) (h.value l)
  way_new l a b e = row_new h h' x r₀ WayT WayE way_patch s l (path_past h n r₀ a) (inr (w.new a (leaf l) b e, (a, b, refl, e)))

-- ---- a leaf more, or less

renews_keeps : (h h' : Heap) (x : Place) (n m : Node) (b l : ℕ) → Renews h h' x n m b l → KeepsBut h h' n m (λ a. a ≡ b) (λ d. d ≡ leaf l)
renews_keeps h h' x n m b l w = record {
  byte = λ a. cases_eq a b;
  one = λ a c e f. e ∙ sym f;
  decided = λ d. same_link d (leaf l);
  leaf = λ k e. cc;
  old = λ a d is e. w.old d (subst (λ z. h.child n z ≡ Some d) is e);
  new = λ a d is e. w.new d (subst (λ z. h'.child m z ≡ Some d) is e);
  same = w.same;
  only = λ y r d is i e. (b, refl, w.only y r i (e ∙ ap Some is));
}

module _ (h h' : Heap) (x : Place) (n m : Node) (b l : ℕ) (r₀ : List ℕ) (w : Renews h h' x n m b l) (at : PlaceAt h x r₀) (s : IsTree h) where
  keeps : KeepsBut h h' n m (λ a. a ≡ b) (λ d. d ≡ leaf l)
  keeps = renews_keeps h h' x n m b l w

  renew_moves : HasTwo h' m → (h'.child m b ≡ Some (leaf l) → Begins (path_past h n r₀ b) (h.key l)) → Moves h h' (RenewTouched n m l) (RenewPaths h h' n m b l r₀)
  renew_moves two begins = moves_as h h' (RenewTouched n m l) _ (RenewPaths h h' n m b l r₀)
      (way_moves h h' x n m (λ a. a ≡ b) (λ d. d ≡ leaf l) r₀ w.gives_way keeps at s two starts)
      (λ d r e. ⊎_elim (λ f. inl f) (λ f. inr (f.0, f.1.2 ∙ ap (path_past h n r₀) f.1.1, subst (λ z. h'.child m z ≡ Some (leaf l)) f.1.1 (f.1.3 ∙ ap Some f.0))) e)
      (λ d r e. ⊎_elim (λ f. inl f) (λ f. inr (f.0, (b, refl, f.1, f.2 ∙ ap Some (sym f.0)))) e)
    where
      starts : (a i : ℕ) → a ≡ b → h'.child m a ≡ Some (leaf i) → Begins (path_past h n r₀ a) (h.key i)
      starts a i is e =
          let e' : h'.child m b ≡ Some (leaf i) = subst (λ z. h'.child m z ≡ Some (leaf i)) is e in
          let il : i ≡ l = cc (w.new (leaf i) e') in
          subst₂ (λ u v. Begins (path_past h n r₀ u) (h.key v)) (sym is) (sym il) (begins (subst (λ z. h'.child m b ≡ Some (leaf z)) il e'))

  pub grow_does : (f : ByteMap) → h'.child m b ≡ Some (leaf l) → IsUnlinked h (leaf l) → Begins (path_past h n r₀ b) (h.key l) → Does h h' (RenewTouched n m l) (RenewPaths h h' n m b l r₀) f (insert f (h.key l) (h.value l))
  grow_does f added new begins = record {
    moves = renew_moves two (λ _. begins);
    rows = λ rows. rows_added h h' f (h.key l) (h.value l) rows (absent_free h (Slot n b) (path_past h n r₀ b) (h.key l) s (r₀, at_node, refl) free begins)
        (way_new h h' x n m (λ a. a ≡ b) (λ d. d ≡ leaf l) r₀ w.gives_way keeps at s l b refl added)
        (λ j u o. ⊎_elim (λ g. inl g) (λ g. let same : g.0 ≡ l = cc (g.3) in inr (g.1 ∙ ap h.key same, g.2 ∙ ap h.value same)) (way_back h h' x n m (λ a. a ≡ b) (λ d. d ≡ leaf l) r₀ w.gives_way keeps at s j u o))
        (λ j u o. way_on h h' x n m (λ a. a ≡ b) (λ d. d ≡ leaf l) r₀ w.gives_way keeps at s j u o (λ e. new o.path (subst (λ z. StandsAt h z o.path) e o.at)));
  }
    where
      at_node : StandsAt h (node n) r₀
      at_node = at_place h x (node n) r₀ at w.gives_way.was

      -- n has no child at the byte
      nothing : (o : Option Link) → h.child n b ≡ o → h.child n b ≡ None
      nothing None e = e
      nothing (Some c) e = absurd (new (path_past h n r₀ b) (down b at_node (e ∙ ap Some (w.old c e)) refl))

      free : h.child n b ≡ None
      free = nothing (h.child n b) refl

      -- n's children are at other bytes
      filled : (a : ℕ) (c : Link) → h.child n a ≡ Some c → (d : Link) × (h'.child m a ≡ Some d)
      filled a c e = (
        c,
        w.same a (λ is. let none : Some c ≡ None = sym e ∙ (ap (h.child n) is ∙ free) in absurd (cc)) ∙ e,
      )

      two : HasTwo h' m
      two = let t = s.splits n r₀ at_node in let c = filled t.0 t.2 t.5 in let d = filled t.1 t.3 t.6 in (t.0, t.1, c.0, d.0, t.4, c.1, d.1)

  pub shrink_does : (f : ByteMap) → h.child n b ≡ Some (leaf l) → h'.child m b ≡ None → HasTwo h' m → Does h h' (RenewTouched n m l) (RenewPaths h h' n m b l r₀) f (remove f (h.key l))
  shrink_does f was gone two = record {
    moves = renew_moves two (λ e. absurd (cc));
    rows = λ rows. rows_dropped h h' f (h.key l) rows
        (λ u o. let g = left (h.key l) u o in g.1 (ap leaf (row_of_leaf h l (path_past h n r₀ b) s (down b (at_place h x (node n) r₀ at w.gives_way.was) was refl) u g.0)))
        (λ j u o. (left j u o).0)
        (λ j u other o. way_on h h' x n m (λ a. a ≡ b) (λ d. d ≡ leaf l) r₀ w.gives_way keeps at s j u o (λ e. let same : o.number ≡ l = cc (e) in other (sym o.key ∙ ap h.key same)));
  }
    where
      left : (j : List ℕ) (u : ℕ) → Row h' j u → (q : Row h j u) × (leaf q.number ≡ leaf l → ⊥)
      left j u o = way_gone h h' x n m (λ a. a ≡ b) (λ d. d ≡ leaf l) r₀ w.gives_way keeps at s j u
          (λ i a is e. let e' : h'.child m b ≡ Some (leaf i) = subst (λ z. h'.child m z ≡ Some (leaf i)) is e in cc) o

-- ---- the same children

abbrev NoByte : ℕ → Type 0
NoByte a = ⊥

abbrev NoLink : Link → Type 0
NoLink d = ⊥

module _ (h h' : Heap) (x : Place) (n m : Node) (r₀ : List ℕ) (w : Copies h h' x n m) (at : PlaceAt h x r₀) (s : IsTree h) where
  copied : KeepsBut h h' n m NoByte NoLink
  copied = record {
    byte = λ a. inr (λ e. e);
    one = λ a b e. absurd e;
    decided = λ d. inr (λ e. e);
    leaf = λ k e. e;
    old = λ a d is. absurd is;
    new = λ a d is. absurd is;
    same = λ a _. w.same a;
    only = λ y r d is. absurd is;
  }

  pub copy_does : (f : ByteMap) → Does h h' (CopyTouched n m) (CopyPaths m r₀) f f
  copy_does f = record {
    moves = record {
      sound = moved.sound;
      others = λ d r free. moved.others d r (λ t. ⊎_elim (λ e. free (inl e)) (⊎_elim (λ e. free (inr e)) (λ e. e)) t);
      linked = λ d r i. ⊎_elim
          (λ (f : WayT h h' x n m NoByte NoLink r₀ w.gives_way copied at s d × WayE h h' x n m NoByte NoLink r₀ w.gives_way copied at s d r). inl (touched d f.0, where_m d r f.1))
          (λ (f : (WayT h h' x n m NoByte NoLink r₀ w.gives_way copied at s d → ⊥) × StandsAt h d r). inr ((λ t. f.0 (⊎_elim (λ e. inl e) (λ e. inr (inl e)) t)), f.1))
          (moved.linked d r i);
      touched = λ d r e. moved.touched d r (inl e);
    };
    rows = λ rows. rows_kept h h' f rows
        (λ j u o. ⊎_elim (λ g. g) (λ g. absurd (g.3)) (way_back h h' x n m NoByte NoLink r₀ w.gives_way copied at s j u o))
        (λ j u o. way_on h h' x n m NoByte NoLink r₀ w.gives_way copied at s j u o (λ e. e));
  }
    where
      moved : Moves h h' (WayT h h' x n m NoByte NoLink r₀ w.gives_way copied at s) (WayE h h' x n m NoByte NoLink r₀ w.gives_way copied at s)
      moved = way_moves h h' x n m NoByte NoLink r₀ w.gives_way copied at s
          (let t = s.splits n r₀ (at_place h x (node n) r₀ at w.gives_way.was) in (t.0, t.1, t.2, t.3, t.4, w.same t.0 ∙ t.5, w.same t.1 ∙ t.6))
          (λ a l is. absurd is)

      touched : (d : Link) → WayT h h' x n m NoByte NoLink r₀ w.gives_way copied at s d → CopyTouched n m d
      touched d t = ⊎_elim (λ e. inl e) (⊎_elim (λ e. inr e) (λ e. absurd e)) t

      where_m : (d : Link) (r : List ℕ) → WayE h h' x n m NoByte NoLink r₀ w.gives_way copied at s d r → CopyPaths m r₀ d r
      where_m d r e = ⊎_elim (λ f. f) (λ f. absurd f.0) e
