-- A node comes between a place and what it held.
use Rattle.std.proofs.Common.{◌≡◌, ◌≢◌, ◌⊎◌, ℕ, ◌+◌, ◌<◌, ◌≤◌, List, [], ◌∷◌, ◌++◌, length, Some, refl, sym, ap, ap₂, ◌∙◌, subst, subst₂, inl, inr, ⊎_elim, length-append, append_assoc, arith}
use Rattle.std.proofs.lemmas.Bool.{cases_eq, cases_order}
use Rattle.std.specs.FinMap.{insert}
use Rattle.art_cell.specs.declared.cells.Node.{Node}
use Rattle.art_cell.specs.declared.cells.Link.{Link}
use Rattle.art_cell.specs.declared.cells.Link.TheVariants.{Leaf as leaf, Node as node}
use Rattle.art_tree.specs.Tree.{Place, Slot, Heap, path_past, StandsAt, down, PlaceAt, Begins, Row, HasTwo, NamesOnce, IsTree}
use Rattle.art_tree.specs.Rows.{ByteMap, HasRows, IsAbsent}
use Rattle.art_tree.specs.Changes.{Forks, Moves}
use Rattle.art_tree.proofs.Places.{at_place, same_link, one_path}
use Rattle.art_tree.proofs.Lookup.{absent_other, absent_differs}
use Rattle.art_tree.proofs.Paths.{length_past, next_byte, begins_more}
use Rattle.art_tree.proofs.Patch.{Patch}
use Rattle.art_tree.proofs.Sound.{patch_sound, row_back, row_on, row_new, rows_added, two_filled, patch_moves, stays_two}
use Rattle.art_tree.proofs.Renew.{deeper, outside_slot, not_own, place_node, outside_by}

-- a node's path and prefix, joined, stay where a front of the prefix goes to a node above
join_front : (r q p : List ℕ) (a : ℕ) → r ++ (q ++ a ∷ p) ≡ (r ++ q ++ a ∷ []) ++ p
join_front r q p a = sym (append_assoc r q (a ∷ p)) ∙ sym (append_assoc (r ++ q) (a ∷ []) p)

-- and with a byte after them
pub join_path : (r q p : List ℕ) (a e : ℕ) → r ++ (q ++ a ∷ p) ++ e ∷ [] ≡ (r ++ q ++ a ∷ []) ++ p ++ e ∷ []
join_path r q p a e = ap (λ z. z ++ e ∷ []) (join_front r q p a)

-- no row has a key that parts from what stands at the place
pub absent_forked : (h h' : Heap) (x : Place) (c : Link) (m : Node) (l a b : ℕ) (r k : List ℕ) → IsTree h → PlaceAt h x r → Forks h h' x c m l a b →
    ((i : ℕ) → c ≡ leaf i → Begins (path_past h' m r a) (h.key i)) → Begins (path_past h' m r b) k → IsAbsent h k
absent_forked h h' x c m l a b r k s at w begins_c begins = by_link c refl
  where
    front : Begins r k
    front = begins_more r (h'.prefix m) k (begins_more (r ++ h'.prefix m) (b ∷ []) k begins)

    parts : Begins (path_past h' m r a) k → ⊥
    parts f = w.apart (next_byte (r ++ h'.prefix m) k a b f begins)

    by_link : (d : Link) → c ≡ d → IsAbsent h k
    by_link (leaf i) e = absent_other h i r k s (at_place h x (leaf i) r at (w.was ∙ ap Some e)) front (λ same. parts (subst (Begins (path_past h' m r a)) same (begins_c i e)))
    by_link (node n) e =
        let longer : r ++ h.prefix n ≡ path_past h' m r a ++ h'.prefix n = ap (λ z. r ++ z) (w.short n e) ∙ join_front r (h'.prefix m) (h'.prefix n) a in
        absent_differs h n r k s (at_place h x (node n) r at (w.was ∙ ap Some e)) front (λ f. parts (begins_more (path_past h' m r a) (h'.prefix n) k (subst (λ z. Begins z k) longer f)))

pub two_apart : (h : Heap) (n : Node) (a b : ℕ) (c d : Link) → a ≢ b → h.child n a ≡ Some c → h.child n b ≡ Some d → HasTwo h n
two_apart h n a b c d apart e f = ⊎_elim (λ (g : a ≡ b). absurd (apart g)) (⊎_elim (λ (g : a < b). (a, b, c, d, g, e, f)) (λ (g : b < a). (b, a, d, c, g, f, e))) (cases_order a b)

module _ (h h' : Heap) (x : Place) (c : Link) (m : Node) (l a b : ℕ) (r₀ : List ℕ) (w : Forks h h' x c m l a b) (at : PlaceAt h x r₀) (once : NamesOnce h) where
  abbrev pub ForkT : Link → Type 0
  ForkT d = (d ≡ c) ⊎ ((d ≡ node m) ⊎ (d ≡ leaf l))

  abbrev pub ForkE : Link → List ℕ → Type 0
  ForkE d r = ((d ≡ c) × (r ≡ path_past h' m r₀ a)) ⊎ (((d ≡ node m) × (r ≡ r₀)) ⊎ ((d ≡ leaf l) × (r ≡ path_past h' m r₀ b)))

  at_c : StandsAt h c r₀
  at_c = at_place h x c r₀ at w.was

  -- neither new cell is linked
  linked_not : (d : Link) (r : List ℕ) → StandsAt h d r → (d ≡ node m) ⊎ (d ≡ leaf l) → ⊥
  linked_not d r i t = ⊎_elim (λ (e : d ≡ node m). w.fresh r (subst (λ z. StandsAt h z r) e i)) (λ (e : d ≡ leaf l). w.new r (subst (λ z. StandsAt h z r) e i)) t

  path_c : (k : Node) (e : ℕ) → node k ≡ c → path_past h' k (path_past h' m r₀ a) e ≡ path_past h k r₀ e
  path_c k e is =
      sym (ap (λ z. r₀ ++ z ++ e ∷ []) (w.short k (sym is)) ∙ join_path r₀ (h'.prefix m) (h'.prefix k) a e)

  child_c : (k : Node) (e : ℕ) → node k ≡ c → h'.child k e ≡ h.child k e
  child_c k e is = w.rest (Slot k e)
      (λ f. not_own h x r₀ k e once at (w.was ∙ ap Some (sym is)) (sym f))
      (λ i f. linked_not c r₀ at_c (inl (sym is ∙ (let g : k ≡ m = cc (f) in ap node g))))

  below_c : (k : Node) (e : ℕ) (d : Link) → node k ≡ c → h.child k e ≡ Some d → ForkT d → ⊥
  below_c k e d is f t =
      let there : StandsAt h d (path_past h k r₀ e) = down e (subst (λ z. StandsAt h z r₀) (sym is) at_c) f refl in
      ⊎_elim (λ (g : d ≡ c). deeper h c k r₀ e once at_c (subst (λ z. StandsAt h z (path_past h k r₀ e)) g there)) (λ g. linked_not d (path_past h k r₀ e) there g) t

  inside_m : (e : ℕ) (d : Link) → h'.child m e ≡ Some d → ForkT d × ForkE d (path_past h' m r₀ e)
  inside_m e d f = ⊎_elim
      (λ (g : e ≡ a). let f' = ap (h'.child m) (sym g) ∙ f in let o = w.one in let dc : d ≡ c = cc in (inl dc, inl (dc, ap (path_past h' m r₀) g)))
      (λ (g : e ≢ a). ⊎_elim
      (λ (i : e ≡ b). let f' = ap (h'.child m) (sym i) ∙ f in let o = w.two in let dl : d ≡ leaf l = cc in (inr (inr dl), inr (inr (dl, ap (path_past h' m r₀) i))))
      (λ (i : e ≢ b). let o = w.none e g i in absurd (cc))
      (cases_eq e b))
      (cases_eq e a)

  fork_patch : Patch h h' x r₀ ForkT ForkE
  fork_patch = record {
    at = at;
    outside = outside_by ForkT x (λ k e is t. ⊎_elim
        (λ (f : node k ≡ c). not_own h x r₀ k e once at (w.was ∙ ap Some (sym f)) is)
        (⊎_elim (λ (f : node k ≡ node m). let km : k ≡ m = cc (f) in place_node h x r₀ m e at w.fresh (is ∙ ap (λ z. Slot z e) km)) (λ (f : node k ≡ leaf l). absurd (cc))) t);
    decided = λ d. ⊎_elim (λ (e : d ≡ c). inl (inl e)) (λ (f : d ≢ c). ⊎_elim (λ (e : d ≡ node m). inl (inr (inl e))) (λ (g : d ≢ node m). ⊎_elim (λ (e : d ≡ leaf l). inl (inr (inr e))) (λ (i : d ≢ leaf l). inr (λ t. ⊎_elim f (λ u. ⊎_elim g i u) t)) (same_link d (leaf l))) (same_link d (node m))) (same_link d c);
    old = λ d e. let f = w.was in inl (cc);
    new = λ d e. let f = w.now in let g : d ≡ node m = cc in (inr (inl g), inr (inl (g, refl)));
    rest = λ y other out. w.rest y other (λ e. outside_slot ForkT y m e (inr (inl refl)) out);
    prefixes = λ k t. w.prefixes k (λ e. t (inr (inl (ap node e)))) (λ e. t (inl (sym e)));
    only = λ y r d other out i e t. ⊎_elim (λ (f : d ≡ c). other (once y x r r₀ c i at (e ∙ ap Some f) w.was)) (linked_not d r (at_place h y d r i e)) t;
    inside = λ k e p d t f i. ⊎_elim
        (λ (g : (node k ≡ c) × (p ≡ path_past h' m r₀ a)).
        let j = sym (child_c k e g.0) ∙ i in
        let path : path_past h' k p e ≡ path_past h k r₀ e = ap (λ z. path_past h' k z e) g.1 ∙ path_c k e g.0 in
        inr (below_c k e d g.0 j, down e (subst (λ z. StandsAt h z r₀) (sym g.0) at_c) j path))
        (⊎_elim
        (λ (g : (node k ≡ node m) × (p ≡ r₀)). let km : k ≡ m = cc (g.0) in
        let j = inside_m e d (ap (λ z. h'.child z e) (sym km) ∙ i) in
        inl (j.0, subst (ForkE d) (sym (ap₂ (λ u v. path_past h' u v e) km g.1)) j.1))
        (λ (g : (node k ≡ leaf l) × (p ≡ path_past h' m r₀ b)). let u = g.0 in absurd (cc)))
        f;
    exits = λ k e p d t i f free there. ⊎_elim
        (λ (g : node k ≡ c).
        let pr : p ≡ r₀ = one_path h c p r₀ once (subst (λ z. StandsAt h z p) g i) at_c in
        let c_at : StandsAt h' (node k) (path_past h' m r₀ a) = subst (λ z. StandsAt h' z (path_past h' m r₀ a)) (sym g) (down a (at_place h' x (node m) r₀ there w.now) w.one refl) in
        down e c_at (child_c k e g ∙ f) (ap (λ z. path_past h k z e) pr ∙ sym (path_c k e g)))
        (λ g. absurd (linked_not (node k) p i g)) t;
    there = λ d r e i.
        let m_at = at_place h' x (node m) r₀ i w.now in
        ⊎_elim
        (λ (f : (d ≡ c) × (r ≡ path_past h' m r₀ a)). (inl f.0, subst (λ z. StandsAt h' z r) (sym f.0) (down a m_at w.one f.1)))
        (⊎_elim
        (λ (f : (d ≡ node m) × (r ≡ r₀)). (inr (inl f.0), subst₂ (StandsAt h') (sym f.0) (sym f.1) m_at))
        (λ (f : (d ≡ leaf l) × (r ≡ path_past h' m r₀ b)). (inr (inr f.0), subst (λ z. StandsAt h' z r) (sym f.0) (down b m_at w.two f.1))))
        e;
    keys = w.leaves.keys;
    values = w.leaves.values;
    one = λ d r s e f. ⊎_elim
        (λ (i : (d ≡ c) × (r ≡ path_past h' m r₀ a)). ⊎_elim (λ (j : (d ≡ c) × (s ≡ path_past h' m r₀ a)). i.1 ∙ sym j.1)
        (⊎_elim (λ (j : (d ≡ node m) × (s ≡ r₀)). absurd (linked_not c r₀ at_c (inl (sym i.0 ∙ j.0)))) (λ (j : (d ≡ leaf l) × (s ≡ path_past h' m r₀ b)). absurd (linked_not c r₀ at_c (inr (sym i.0 ∙ j.0))))) f)
        (⊎_elim
        (λ (i : (d ≡ node m) × (r ≡ r₀)). ⊎_elim (λ (j : (d ≡ c) × (s ≡ path_past h' m r₀ a)). absurd (linked_not c r₀ at_c (inl (sym j.0 ∙ i.0))))
        (⊎_elim (λ (j : (d ≡ node m) × (s ≡ r₀)). i.1 ∙ sym j.1) (λ (j : (d ≡ leaf l) × (s ≡ path_past h' m r₀ b)). let u = i.0 in let v = j.0 in absurd (cc))) f)
        (λ (i : (d ≡ leaf l) × (r ≡ path_past h' m r₀ b)). ⊎_elim (λ (j : (d ≡ c) × (s ≡ path_past h' m r₀ a)). absurd (linked_not c r₀ at_c (inr (sym j.0 ∙ i.0))))
        (⊎_elim (λ (j : (d ≡ node m) × (s ≡ r₀)). let u = i.0 in let v = j.0 in absurd (cc)) (λ (j : (d ≡ leaf l) × (s ≡ path_past h' m r₀ b)). i.1 ∙ sym j.1)) f))
        e;
  }

  module _ (s : IsTree h) (begins_c : (k : ℕ) → c ≡ leaf k → Begins (path_past h' m r₀ a) (h.key k)) (begins_l : Begins (path_past h' m r₀ b) (h.key l)) (fits : length (h.key l) ≤ 64) where
    fork_sound : IsTree h'
    fork_sound = patch_sound h h' x r₀ ForkT ForkE fork_patch s
        (λ k p _ e. ⊎_elim
        (λ (f : (node k ≡ c) × (p ≡ path_past h' m r₀ a)). two_filled h h' k (λ i d j. (d, child_c k i f.0 ∙ j)) (s.splits k r₀ (subst (λ z. StandsAt h z r₀) (sym f.0) at_c)))
        (⊎_elim
        (λ (f : (node k ≡ node m) × (p ≡ r₀)). let km : k ≡ m = cc (f.0) in subst (HasTwo h') (sym km) (two_apart h' m a b c (leaf l) w.apart w.one w.two))
        (λ (f : (node k ≡ leaf l) × (p ≡ path_past h' m r₀ b)). let g = f.0 in absurd (cc))) e)
        (λ k e p is i. stays_two h h' x r₀ ForkT ForkE fork_patch (node m) w.now k e is (s.splits k p i))
        (λ k p _ e. ⊎_elim
        (λ (f : (node k ≡ c) × (p ≡ path_past h' m r₀ a)).
        let old = s.short k r₀ (subst (λ z. StandsAt h z r₀) (sym f.0) at_c) in
        omega (arith, old, ap length f.1, length_past h' m r₀ a, ap length (w.short k (sym f.0)), length-append (h'.prefix m) (a ∷ h'.prefix k)))
        (⊎_elim
        (λ (f : (node k ≡ node m) × (p ≡ r₀)). let km : k ≡ m = cc (f.0) in
        subst₂ (λ u v. length u + length (h'.prefix v) < 64) (sym f.1) (sym km) (omega (arith, ap length begins_l.1, length-append (path_past h' m r₀ b) begins_l.0, length_past h' m r₀ b)))
        (λ (f : (node k ≡ leaf l) × (p ≡ path_past h' m r₀ b)). let g = f.0 in absurd (cc))) e)
        (λ k p _ e. ⊎_elim
        (λ (f : (leaf k ≡ c) × (p ≡ path_past h' m r₀ a)). subst (λ z. Begins z (h.key k)) (sym f.1) (begins_c k (sym f.0)))
        (⊎_elim
        (λ (f : (leaf k ≡ node m) × (p ≡ r₀)). let g = f.0 in absurd (cc))
        (λ (f : (leaf k ≡ leaf l) × (p ≡ path_past h' m r₀ b)). let kl : k ≡ l = cc (f.0) in subst₂ (λ u v. Begins u (h.key v)) (sym f.1) (sym kl) begins_l)) e)

    pub fork_moves : Moves h h' ForkT ForkE
    fork_moves = patch_moves h h' x r₀ ForkT ForkE fork_patch s fork_sound

  pub fork_rows : IsTree h → (f : ByteMap) → HasRows h f → ((v : ℕ) → Row h (h.key l) v → ⊥) → HasRows h' (insert f (h.key l) (h.value l))
  fork_rows s f rows absent = rows_added h h' f (h.key l) (h.value l) rows absent
      (row_new h h' x r₀ ForkT ForkE fork_patch s l (path_past h' m r₀ b) (inr (inr (refl, refl))))
      (λ j u o. ⊎_elim
      (λ g. ⊎_elim
      (λ (i : (leaf g.0 ≡ c) × (g.1 ≡ path_past h' m r₀ a)). inl (record { number = g.0; path = r₀; at = subst (λ z. StandsAt h z r₀) (sym i.0) at_c; key = g.3; value = g.4 }))
      (⊎_elim
      (λ (i : (leaf g.0 ≡ node m) × (g.1 ≡ r₀)). let k = i.0 in absurd (cc))
      (λ (i : (leaf g.0 ≡ leaf l) × (g.1 ≡ path_past h' m r₀ b)). let same : g.0 ≡ l = cc (i.0) in inr (sym g.3 ∙ ap h.key same, sym g.4 ∙ ap h.value same)))
      g.2)
      (λ g. inl g.0)
      (row_back h h' x r₀ ForkT ForkE fork_patch s j u o))
      (λ j u o. ⊎_elim
      (λ (t : leaf o.number ≡ c). subst₂ (Row h') o.key o.value (row_new h h' x r₀ ForkT ForkE fork_patch s o.number (path_past h' m r₀ a) (inl (t, refl))))
      (λ (t : leaf o.number ≢ c). row_on h h' x r₀ ForkT ForkE fork_patch s j u o (λ e. ⊎_elim t (linked_not (leaf o.number) o.path o.at) e))
      (same_link (leaf o.number) c))
