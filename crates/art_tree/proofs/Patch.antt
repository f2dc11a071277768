-- A change below one place: some cells are touched, and all others stay where they are.
use Rattle.std.proofs.Common.{◌≡◌, ◌≢◌, ◌⊎◌, ℕ, ◌<◌, ◌≤◌, List, [], ◌∷◌, ◌++◌, length, Some, refl, sym, ap, ◌∙◌, subst, inl, inr, ⊎_elim, ap₂, append-nil, length-append, arith}
use Rattle.std.proofs.lemmas.Bool.{cases_lt}
use Rattle.art_cell.specs.declared.cells.Node.{Node}
use Rattle.art_cell.specs.declared.cells.Link.{Link}
use Rattle.art_cell.specs.declared.cells.Link.TheVariants.{Node as node}
use Rattle.art_tree.specs.Tree.{Place, Top, Slot, Heap, child_at_place, path_past, StandsAt, PathBy, PlaceAt, NamesOnce}
use Rattle.art_tree.proofs.Places.{least, at_place, same_place, path_of_place, one_path}
use Rattle.art_tree.proofs.Paths.{Under, here, go, next_byte, begins_more, under_begins, length_past, on_the_way}

abbrev pub Cells : Type 1
Cells = Link → Type 0

-- the place is no byte of a touched node
abbrev pub Outside : Cells → Place → Type 0
Outside T Top = Unit {0}
Outside T (Slot n b) = T (node n) → ⊥

pub record Patch (h h' : Heap) (x : Place) (r₀ : List ℕ) (T : Link → Type 0) (E : Link → List ℕ → Type 0) : Type 0 where
  pub at : PlaceAt h x r₀
  pub outside : Outside T x
  pub decided : (d : Link) → T d ⊎ (T d → ⊥)
  -- the place held a touched cell or none, and so it does now
  pub old : (d : Link) → child_at_place h x ≡ Some d → T d
  pub new : (d : Link) → child_at_place h' x ≡ Some d → T d × E d r₀
  -- all else is as it was
  pub rest : (y : Place) → y ≢ x → Outside T y → child_at_place h' y ≡ child_at_place h y
  pub prefixes : (n : Node) → (T (node n) → ⊥) → h'.prefix n ≡ h.prefix n
  -- no other place named a touched cell
  pub only : (y : Place) (r : List ℕ) (d : Link) → y ≢ x → Outside T y → PlaceAt h y r → child_at_place h y ≡ Some d → T d → ⊥
  -- what the touched nodes hold now
  pub inside : (n : Node) (b : ℕ) (p : List ℕ) (d : Link) → T (node n) → E (node n) p → h'.child n b ≡ Some d → (T d × E d (path_past h' n p b)) ⊎ ((T d → ⊥) × StandsAt h d (path_past h' n p b))
  -- and what they held
  pub exits : (n : Node) (b : ℕ) (p : List ℕ) (d : Link) → T (node n) → StandsAt h (node n) p → h.child n b ≡ Some d → (T d → ⊥) → PlaceAt h' x r₀ → StandsAt h' d (path_past h n p b)
  -- where they are, they are linked
  pub there : (d : Link) (r : List ℕ) → E d r → PlaceAt h' x r₀ → T d × StandsAt h' d r
  pub keys : (n : ℕ) → h'.key n ≡ h.key n
  pub values : (n : ℕ) → h'.value n ≡ h.value n
  -- a touched cell has one path
  pub one : (d : Link) (r s : List ℕ) → E d r → E d s → r ≡ s

outside_of : (T : Link → Type 0) → ((d : Link) → T d ⊎ (T d → ⊥)) → (y : Place) → Outside T y ⊎ ((n : Node) × (b : ℕ) × T (node n) × (y ≡ Slot n b))
outside_of T dec Top = inl tt
outside_of T dec (Slot n b) = ⊎_elim (λ (t : T (node n)). inr (n, b, t, refl)) (λ (f : T (node n) → ⊥). inl f) (dec (node n))

module _ (h h' : Heap) (x : Place) (r₀ : List ℕ) (T : Link → Type 0) (E : Link → List ℕ → Type 0) (w : Patch h h' x r₀ T E) (once : NamesOnce h) where
  abbrev pub Now : Link → List ℕ → Type 0
  Now d r = (T d × E d r) ⊎ ((T d → ⊥) × StandsAt h d r)

  place_back : (y : Place) (r : List ℕ) → Outside T y → PathBy h' Now y r → PlaceAt h y r
  place_back Top r out i = i
  place_back (Slot n b) r out i = (
    i.0,
    ⊎_elim (λ (f : T (node n) × E (node n) i.0). absurd (out f.0)) (λ (f : (T (node n) → ⊥) × StandsAt h (node n) i.0). f.1) i.1,
    i.2 ∙ ap (λ q. i.0 ++ q ++ b ∷ []) (w.prefixes n out),
  )

  inside_back : (n : Node) (b : ℕ) (y : Place) (d : Link) (r : List ℕ) → T (node n) → y ≡ Slot n b → PathBy h' Now y r → child_at_place h' y ≡ Some d → Now d r
  inside_back n b y d r t is i e =
      let i' : PathBy h' Now (Slot n b) r = subst (λ z. PathBy h' Now z r) is i in
      let e' : h'.child n b ≡ Some d = subst (λ z. child_at_place h' z ≡ Some d) is e in
      subst (λ s. Now d s) (sym i'.2)
      (w.inside n b i'.0 d t
      (⊎_elim (λ (f : T (node n) × E (node n) i'.0). f.1) (λ (f : (T (node n) → ⊥) × StandsAt h (node n) i'.0). absurd (f.0 t)) i'.1)
      e')

  -- what is linked now is touched and where it should be, or untouched and where it was
  pub patch_back : (d : Link) (r : List ℕ) → StandsAt h' d r → Now d r
  patch_back = least h' Now (λ y d r i e.
      ⊎_elim
      (λ (out : Outside T y).
      let j = place_back y r out i in
      ⊎_elim
      (λ (same : y ≡ x).
      let e' : child_at_place h' x ≡ Some d = subst (λ z. child_at_place h' z ≡ Some d) same e in
      let rr : r ≡ r₀ = path_of_place h y x r r₀ (λ n p q. one_path h (node n) p q once) same j w.at in
      let g = w.new d e' in
      inl (g.0, subst (E d) (sym rr) g.1))
      (λ (other : y ≢ x).
      let e' : child_at_place h y ≡ Some d = sym (w.rest y other out) ∙ e in
      inr (w.only y r d other out j e', at_place h y d r j e'))
      (same_place y x))
      (λ (ins : (n : Node) × (b : ℕ) × T (node n) × (y ≡ Slot n b)). inside_back ins.0 ins.1 y d r ins.2 ins.3 i e)
      (outside_of T w.decided y))

  abbrev Then : Link → List ℕ → Type 0
  Then d r = StandsAt h d r × (T d → PlaceAt h' x r₀) × ((T d → ⊥) → StandsAt h' d r)

  place_was : (y : Place) (r : List ℕ) → PathBy h Then y r → PlaceAt h y r
  place_was Top r i = i
  place_was (Slot n b) r i = (i.0, i.1.0, i.2)

  place_on : (y : Place) (r : List ℕ) → Outside T y → PathBy h Then y r → PlaceAt h' y r
  place_on Top r out i = i
  place_on (Slot n b) r out i = (i.0, i.1.2 out, i.2 ∙ sym (ap (λ q. i.0 ++ q ++ b ∷ []) (w.prefixes n out)))

  inside_on : (n : Node) (b : ℕ) (y : Place) (d : Link) (r : List ℕ) → T (node n) → y ≡ Slot n b → PathBy h Then y r → child_at_place h y ≡ Some d → (T d → PlaceAt h' x r₀) × ((T d → ⊥) → StandsAt h' d r)
  inside_on n b y d r t is i e =
      let i' : PathBy h Then (Slot n b) r = subst (λ z. PathBy h Then z r) is i in
      let e' : h.child n b ≡ Some d = subst (λ z. child_at_place h z ≡ Some d) is e in
      let there : PlaceAt h' x r₀ = i'.1.1 t in
      ((λ _. there), (λ f. subst (StandsAt h' d) (sym i'.2) (w.exits n b i'.0 d t i'.1.0 e' f there)))

  then_all : (d : Link) (r : List ℕ) → StandsAt h d r → Then d r
  then_all = least h Then (λ y d r i e.
      let j = place_was y r i in
      let both : (T d → PlaceAt h' x r₀) × ((T d → ⊥) → StandsAt h' d r) =
      ⊎_elim
      (λ (out : Outside T y).
      let k = place_on y r out i in
      ⊎_elim
      (λ (same : y ≡ x).
      let e' : child_at_place h x ≡ Some d = subst (λ z. child_at_place h z ≡ Some d) same e in
      let rr : r ≡ r₀ = path_of_place h y x r r₀ (λ n p q. one_path h (node n) p q once) same j w.at in
      let k' : PlaceAt h' x r = subst (λ z. PlaceAt h' z r) same k in
      ((λ _. subst (PlaceAt h' x) rr k'), (λ f. absurd (f (w.old d e')))))
      (λ (other : y ≢ x). ((λ t. absurd (w.only y r d other out j e t)), (λ _. at_place h' y d r k (w.rest y other out ∙ e))))
      (same_place y x))
      (λ (ins : (n : Node) × (b : ℕ) × T (node n) × (y ≡ Slot n b)). inside_on ins.0 ins.1 y d r ins.2 ins.3 i e)
      (outside_of T w.decided y)
      in
      (at_place h y d r j e, both.0, both.1))

  pub patch_on : (d : Link) (r : List ℕ) → (T d → ⊥) → StandsAt h d r → StandsAt h' d r
  patch_on d r f at = (then_all d r at).2 f

  place_then : (y : Place) (r : List ℕ) → PlaceAt h y r → PathBy h Then y r
  place_then Top r i = i
  place_then (Slot n b) r i = (i.0, then_all (node n) i.0 i.1, i.2)

  -- the place is still there
  pub patch_place : PlaceAt h' x r₀
  patch_place = place_on x r₀ w.outside (place_then x r₀ w.at)

  pub patch_one : (d : Link) (r s : List ℕ) → StandsAt h' d r → StandsAt h' d s → r ≡ s
  patch_one d r s a b =
      ⊎_elim
      (λ (f : T d × E d r). ⊎_elim (λ (g : T d × E d s). w.one d r s f.1 g.1) (λ (g : (T d → ⊥) × StandsAt h d s). absurd (g.0 f.0)) (patch_back d s b))
      (λ (f : (T d → ⊥) × StandsAt h d r). ⊎_elim (λ (g : T d × E d s). absurd (f.0 g.0)) (λ (g : (T d → ⊥) × StandsAt h d s). one_path h d r s once f.1 g.1) (patch_back d s b))
      (patch_back d r a)

-- the same path, the same place
same_under : (h : Heap) (n m : Node) (a b : ℕ) (c d : Link) (p q r : List ℕ) → Under h c p d q → c ≡ node n → d ≡ node m → r ≡ path_past h n p a → r ≡ path_past h m q b → Slot n a ≡ Slot m b
same_under h n m a b c d p q r (here ec ep) ci di e f =
    let nm : n ≡ m = cc in
    let f' : r ≡ path_past h n p b = f ∙ ap₂ (λ u v. u ++ h.prefix v ++ b ∷ []) (sym ep) (sym nm) in
    let last : a ≡ b = next_byte (p ++ h.prefix n) r a b ([], append-nil _ ∙ sym e) ([], append-nil _ ∙ sym f') in
    cc
same_under h n m a b c d p q r (go {n = i} {e = g} o first u) ci di e f =
    let in' : i ≡ n = cc in
    let more = under_begins h g d (path_past h i p o) q u in
    absurd (omega (arith, length_past h n p a, length_past h i p o, length_past h m q b, ap length e, ap length f, ap length more.1, length-append (path_past h i p o) more.0, ap (λ v. length (h.prefix v)) in'))

same_slot : (h : Heap) (n m : Node) (a b : ℕ) (p q r : List ℕ) → StandsAt h (node n) p → StandsAt h (node m) q → r ≡ path_past h n p a → r ≡ path_past h m q b → length p ≤ length q → Slot n a ≡ Slot m b
same_slot h n m a b p q r i j e f long = same_under h n m a b (node n) (node m) p q r (on_the_way h (node n) (node m) p q r i j (begins_more p (h.prefix n) r (a ∷ [], sym e)) (begins_more q (h.prefix m) r (b ∷ [], sym f)) long) refl refl e f

same_place_path : (h : Heap) (x y : Place) (r : List ℕ) → PlaceAt h x r → PlaceAt h y r → x ≡ y
same_place_path h Top Top r i j = refl
same_place_path h Top (Slot n b) r i j = absurd (omega (arith, ap length i, ap length j.2, length_past h n j.0 b))
same_place_path h (Slot n b) Top r i j = absurd (omega (arith, ap length j, ap length i.2, length_past h n i.0 b))
same_place_path h (Slot n a) (Slot m b) r i j =
    ⊎_elim
    (λ (lt : length i.0 < length j.0). same_slot h n m a b i.0 j.0 r i.1 j.1 i.2 j.2 (omega arith))
    (λ (ge : length j.0 ≤ length i.0). sym (same_slot h m n b a j.0 i.0 r j.1 i.1 j.2 i.2 ge))
    (cases_lt (length i.0) (length j.0))

-- a cell with one path is named once
pub names_once : (h : Heap) → ((c : Link) (p r : List ℕ) → StandsAt h c p → StandsAt h c r → p ≡ r) → NamesOnce h
names_once h one x y r s c i j e f =
    let same = one c r s (at_place h x c r i e) (at_place h y c s j f) in
    same_place_path h x y s (subst (PlaceAt h x) same i) j
