-- What a change leaves sound, and what it does to the rows.
use Rattle.std.proofs.Common.{◌≡◌, ◌≢◌, ◌⊎◌, ℕ, ◌+◌, ◌<◌, true, false, cond, List, length, Option, Some, None, refl, sym, ap, ◌∙◌, subst, inl, inr, ⊎_elim, nat_cmp}
use Rattle.std.proofs.lemmas.Cmp.{nat_list_cmp_total, tied_itself}
use Rattle.std.specs.Cmp.Lexicographic.{slice_cmp}
use Rattle.std.specs.Ordering.{eq_by_cmp, is_eq}
use Rattle.std.specs.declared.cmp.Ordering.{Ordering}
use Rattle.std.specs.declared.cmp.Ordering.TheVariants.{Less, Equal, Greater}
use Rattle.std.specs.FinMap.{get, insert, remove, get-insert, get-remove, slice_cmp-IsAntisymmetric, nat_cmp-IsAntisymmetric}
use Rattle.art_cell.specs.declared.cells.Node.{Node}
use Rattle.art_cell.specs.declared.cells.Link.{Link}
use Rattle.art_cell.specs.declared.cells.Link.TheVariants.{Leaf as leaf, Node as node}
use Rattle.art_tree.specs.Tree.{Place, Top, Slot, Heap, child_at_place, StandsAt, Begins, Row, HasTwo, IsTree}
use Rattle.art_tree.specs.Rows.{ByteMap, HasRows}
use Rattle.art_tree.specs.Changes.{Moves}
use Rattle.art_tree.proofs.Places.{same_node, same_place}
use Rattle.art_tree.proofs.Lookup.{row_at_leaf}
use Rattle.art_tree.proofs.Patch.{Outside, Patch, Now, patch_back, patch_on, patch_place, patch_one, names_once}

slot_of : (x : Place) (n : Node) → ((b : ℕ) × (x ≡ Slot n b)) ⊎ ((b : ℕ) → x ≢ Slot n b)
slot_of Top n = inr (λ b e. cc)
slot_of (Slot m a) n = ⊎_elim (λ (e : m ≡ n). inl (a, cc)) (λ (f : m ≢ n). inr (λ b e. f (cc))) (same_node m n)

module _ (h h' : Heap) (x : Place) (r₀ : List ℕ) (T : Link → Type 0) (E : Link → List ℕ → Type 0) (w : Patch h h' x r₀ T E) (s : IsTree h) where
  now : (d : Link) (r : List ℕ) → StandsAt h' d r → Now h h' x r₀ T E w s.once d r
  now = patch_back h h' x r₀ T E w s.once

  pub patch_sound :
      ((n : Node) (p : List ℕ) → T (node n) → E (node n) p → HasTwo h' n) →
      ((n : Node) (b : ℕ) (p : List ℕ) → x ≡ Slot n b → StandsAt h (node n) p → HasTwo h' n) →
      ((n : Node) (p : List ℕ) → T (node n) → E (node n) p → length p + length (h'.prefix n) < 64) →
      ((n : ℕ) (p : List ℕ) → T (leaf n) → E (leaf n) p → Begins p (h.key n)) →
      IsTree h'
  patch_sound two two_x short spelled = record {
    once = names_once h' (patch_one h h' x r₀ T E w s.once);
    splits = λ n p at.
        ⊎_elim
        (λ (f : T (node n) × E (node n) p). two n p f.0 f.1)
        (λ (f : (T (node n) → ⊥) × StandsAt h (node n) p).
        ⊎_elim
        (λ (g : (b : ℕ) × (x ≡ Slot n b)). two_x n g.0 p g.1 f.1)
        (λ (g : (b : ℕ) → x ≢ Slot n b).
        let old = s.splits n p f.1 in (
          old.0,
          old.1,
          old.2,
          old.3,
          old.4,
          w.rest (Slot n old.0) (λ e. g old.0 (sym e)) f.0 ∙ old.5,
          w.rest (Slot n old.1) (λ e. g old.1 (sym e)) f.0 ∙ old.6,
        ))
        (slot_of x n))
        (now (node n) p at);
    short = λ n p at.
        ⊎_elim
        (λ (f : T (node n) × E (node n) p). short n p f.0 f.1)
        (λ (f : (T (node n) → ⊥) × StandsAt h (node n) p). subst (λ q. length p + length q < 64) (sym (w.prefixes n f.0)) (s.short n p f.1))
        (now (node n) p at);
    spelled = λ n p at. subst (Begins p) (sym (w.keys n))
        (⊎_elim
        (λ (f : T (leaf n) × E (leaf n) p). spelled n p f.0 f.1)
        (λ (f : (T (leaf n) → ⊥) × StandsAt h (leaf n) p). s.spelled n p f.1)
        (now (leaf n) p at));
  }

  -- a row is of a touched leaf or was there
  pub row_back : (k : List ℕ) (v : ℕ) → Row h' k v → ((n : ℕ) × (r : List ℕ) × E (leaf n) r × (h.key n ≡ k) × (h.value n ≡ v)) ⊎ ((o : Row h k v) × (T (leaf o.number) → ⊥))
  row_back k v o =
      ⊎_elim
      (λ (f : T (leaf o.number) × E (leaf o.number) o.path). inl (o.number, o.path, f.1, sym (w.keys o.number) ∙ o.key, sym (w.values o.number) ∙ o.value))
      (λ (f : (T (leaf o.number) → ⊥) × StandsAt h (leaf o.number) o.path).
      inr (record { number = o.number; path = o.path; at = f.1; key = sym (w.keys o.number) ∙ o.key; value = sym (w.values o.number) ∙ o.value }, f.0))
      (now (leaf o.number) o.path o.at)

  pub row_on : (k : List ℕ) (v : ℕ) (o : Row h k v) → (T (leaf o.number) → ⊥) → Row h' k v
  row_on k v o f = record { number = o.number; path = o.path; at = patch_on h h' x r₀ T E w s.once (leaf o.number) o.path f o.at; key = w.keys o.number ∙ o.key; value = w.values o.number ∙ o.value }

  pub row_new : (n : ℕ) (r : List ℕ) → E (leaf n) r → Row h' (h.key n) (h.value n)
  row_new n r e = record { number = n; path = r; at = (w.there (leaf n) r e (patch_place h h' x r₀ T E w s.once)).1; key = w.keys n; value = w.values n }

-- keys by their tests
pub key_test : (j k : List ℕ) → (j ≡ k) ⊎ ((j ≢ k) × (eq_by_cmp (slice_cmp nat_cmp) j k ≡ false))
key_test j k = go (slice_cmp nat_cmp j k) refl
  where
    tied : slice_cmp nat_cmp k k ≡ Equal
    tied = tied_itself nat_list_cmp_total k

    go : (o : Ordering) → slice_cmp nat_cmp j k ≡ o → (j ≡ k) ⊎ ((j ≢ k) × (eq_by_cmp (slice_cmp nat_cmp) j k ≡ false))
    go Less e = inr ((λ same. let t : slice_cmp nat_cmp j k ≡ Equal = ap (λ z. slice_cmp nat_cmp z k) same ∙ tied in cc), ap is_eq e)
    go Equal e = inl (slice_cmp-IsAntisymmetric nat_cmp-IsAntisymmetric j k e)
    go Greater e = inr ((λ same. let t : slice_cmp nat_cmp j k ≡ Equal = ap (λ z. slice_cmp nat_cmp z k) same ∙ tied in cc), ap is_eq e)

pub key_itself : (k : List ℕ) → eq_by_cmp (slice_cmp nat_cmp) k k ≡ true
key_itself k = ap is_eq (tied_itself nat_list_cmp_total k)

pub get_added : (m : ByteMap) (k : List ℕ) (v : ℕ) → get (insert m k v) k ≡ Some v
get_added m k v = get-insert nat_list_cmp_total m k v k ∙ ap (λ b. cond b (Some v) (get m k)) (key_itself k)

pub get_added_other : (m : ByteMap) (k : List ℕ) (v : ℕ) (j : List ℕ) → eq_by_cmp (slice_cmp nat_cmp) j k ≡ false → get (insert m k v) j ≡ get m j
get_added_other m k v j e = get-insert nat_list_cmp_total m k v j ∙ ap (λ b. cond b (Some v) (get m j)) e

pub get_dropped : (m : ByteMap) (k : List ℕ) → get (remove m k) k ≡ None
get_dropped m k = get-remove nat_list_cmp_total m k k ∙ ap (λ b. cond b None (get m k)) (key_itself k)

pub get_dropped_other : (m : ByteMap) (k : List ℕ) (j : List ℕ) → eq_by_cmp (slice_cmp nat_cmp) j k ≡ false → get (remove m k) j ≡ get m j
get_dropped_other m k j e = get-remove nat_list_cmp_total m k j ∙ ap (λ b. cond b None (get m j)) e

-- one row more
pub rows_added : (h h' : Heap) (m : ByteMap) (k : List ℕ) (v : ℕ) → HasRows h m → ((u : ℕ) → Row h k u → ⊥) → Row h' k v →
    ((j : List ℕ) (u : ℕ) → Row h' j u → Row h j u ⊎ ((j ≡ k) × (u ≡ v))) → ((j : List ℕ) (u : ℕ) → Row h j u → Row h' j u) → HasRows h' (insert m k v)
rows_added h h' m k v rows absent here back on j u =
    ⊎_elim
    (λ (same : j ≡ k).
    let at : get (insert m k v) j ≡ Some v = ap (get (insert m k v)) same ∙ get_added m k v in (
      (λ o. ⊎_elim (λ (old : Row h j u). absurd (absent u (subst (λ z. Row h z u) same old))) (λ (new : (j ≡ k) × (u ≡ v)). at ∙ ap Some (sym new.1)) (back j u o)),
      (λ e. let uv : v ≡ u = cc in subst (λ z. Row h' z u) (sym same) (subst (Row h' k) uv here)),
    ))
    (λ (other : (j ≢ k) × (eq_by_cmp (slice_cmp nat_cmp) j k ≡ false)).
    let at = get_added_other m k v j other.1 in (
      (λ o. ⊎_elim (λ (old : Row h j u). at ∙ (rows j u).0 old) (λ (new : (j ≡ k) × (u ≡ v)). absurd (other.0 new.0)) (back j u o)),
      (λ e. on j u ((rows j u).1 (sym at ∙ e))),
    ))
    (key_test j k)

-- one row less
pub rows_dropped : (h h' : Heap) (m : ByteMap) (k : List ℕ) → HasRows h m → ((u : ℕ) → Row h' k u → ⊥) →
    ((j : List ℕ) (u : ℕ) → Row h' j u → Row h j u) → ((j : List ℕ) (u : ℕ) → j ≢ k → Row h j u → Row h' j u) → HasRows h' (remove m k)
rows_dropped h h' m k rows gone back on j u =
    ⊎_elim
    (λ (same : j ≡ k).
    let at : get (remove m k) j ≡ None = ap (get (remove m k)) same ∙ get_dropped m k in
    ((λ o. absurd (gone u (subst (λ z. Row h' z u) same o))), (λ e. absurd (cc))))
    (λ (other : (j ≢ k) × (eq_by_cmp (slice_cmp nat_cmp) j k ≡ false)).
    let at = get_dropped_other m k j other.1 in
    ((λ o. at ∙ (rows j u).0 (back j u o)), (λ e. on j u other.0 ((rows j u).1 (sym at ∙ e)))))
    (key_test j k)

-- the same rows
pub absent_in : (h : Heap) (m : ByteMap) (k : List ℕ) → HasRows h m → ((u : ℕ) → Row h k u → ⊥) → get m k ≡ None
absent_in h m k rows absent = go (get m k) refl
  where
    go : (o : Option ℕ) → get m k ≡ o → get m k ≡ None
    go None e = e
    go (Some u) e = absurd (absent u ((rows k u).1 e))

pub rows_kept : (h h' : Heap) (m : ByteMap) → HasRows h m → ((j : List ℕ) (u : ℕ) → Row h' j u → Row h j u) → ((j : List ℕ) (u : ℕ) → Row h j u → Row h' j u) → HasRows h' m
rows_kept h h' m rows back on j u = ((λ o. (rows j u).0 (back j u o)), (λ e. on j u ((rows j u).1 e)))

-- the paths said in other words
pub moves_as : (h h' : Heap) (T : Link → Type 0) (E F : Link → List ℕ → Type 0) → Moves h h' T E → ((d : Link) (r : List ℕ) → E d r → F d r) → ((d : Link) (r : List ℕ) → F d r → E d r) → Moves h h' T F
moves_as h h' T E F w on back = record {
  sound = w.sound;
  others = w.others;
  linked = λ d r i. ⊎_elim (λ (f : T d × E d r). inl (f.0, on d r f.1)) (λ (f : (T d → ⊥) × StandsAt h d r). inr f) (w.linked d r i);
  touched = λ d r f. w.touched d r (back d r f);
}

pub two_filled : (h h' : Heap) (n : Node) → ((a : ℕ) (c : Link) → h.child n a ≡ Some c → (d : Link) × (h'.child n a ≡ Some d)) → HasTwo h n → HasTwo h' n
two_filled h h' n f t = let a = f t.0 t.2 t.5 in let b = f t.1 t.3 t.6 in (t.0, t.1, a.0, b.0, t.4, a.1, b.1)

pub patch_moves : (h h' : Heap) (x : Place) (r₀ : List ℕ) (T : Link → Type 0) (E : Link → List ℕ → Type 0) (w : Patch h h' x r₀ T E) (s : IsTree h) → IsTree h' → Moves h h' T E
patch_moves h h' x r₀ T E w s s' = record {
  sound = s';
  others = patch_on h h' x r₀ T E w s.once;
  linked = patch_back h h' x r₀ T E w s.once;
  touched = λ d r e. (w.there d r e (patch_place h h' x r₀ T E w s.once)).1;
}

pub no_nodes : (T : Link → Type 0) → ((n : Node) → T (node n) → ⊥) → (y : Place) → Outside T y
no_nodes T f Top = tt
no_nodes T f (Slot n b) = f n

-- a node whose place stays filled keeps its two children
pub stays_two : (h h' : Heap) (x : Place) (r₀ : List ℕ) (T : Link → Type 0) (E : Link → List ℕ → Type 0) (w : Patch h h' x r₀ T E) (c : Link) → child_at_place h' x ≡ Some c → (k : Node) (b : ℕ) → x ≡ Slot k b → HasTwo h k → HasTwo h' k
stays_two h h' x r₀ T E w c now k b is = two_filled h h' k (λ a d e.
    ⊎_elim
    (λ (same : Slot k a ≡ x). (c, subst (λ z. child_at_place h' z ≡ Some c) (sym same) now))
    (λ (other : Slot k a ≢ x). (d, w.rest (Slot k a) other (subst (Outside T) is w.outside) ∙ e))
    (same_place (Slot k a) x))

-- the row of a linked leaf's key is that leaf
pub row_of_leaf : (h : Heap) (l : ℕ) (p : List ℕ) → IsTree h → StandsAt h (leaf l) p → (u : ℕ) (o : Row h (h.key l) u) → o.number ≡ l
row_of_leaf h l p s at u o = row_at_leaf h l p (h.key l) u s at (s.spelled l p at) o
