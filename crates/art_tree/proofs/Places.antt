-- The places of a tree: one induction, and what it gives.
use Rattle.std.proofs.Common.{◌≡◌, ◌≢◌, ◌⊎◌, ℕ, List, Some, refl, sym, ap, ap₂, ◌∙◌, subst, inl, inr, ⊎_elim}
use Rattle.std.proofs.lemmas.Bool.{cases_eq}
use Rattle.art_cell.specs.declared.cells.Node.{Node}
use Rattle.art_cell.specs.declared.cells.Cell.{Cell}
use Rattle.art_cell.specs.declared.cells.Cell.TheVariants as cell
use Rattle.art_cell.specs.declared.cells.Link.{Link}
use Rattle.art_cell.specs.declared.cells.Link.TheVariants.{Leaf as leaf, Node as node}
use Rattle.art_cell.specs.declared.cells.Layout.{Layout}
use Rattle.art_cell.specs.declared.cells.Layout.TheVariants.{Node4, Node16, Node48, Node256}
use Rattle.art_tree.specs.Tree.{Place, Top, Slot, Heap, child_at_place, path_past, StandsAt, top, down, PathBy, PlaceAt, NamesOnce}

-- what holds of the child of each place, where it holds of the node of the place, holds of each linked cell
pub least : (h : Heap) (S : Link → List ℕ → Type 0) → ((y : Place) (d : Link) (r : List ℕ) → PathBy h S y r → child_at_place h y ≡ Some d → S d r) → (d : Link) (r : List ℕ) → StandsAt h d r → S d r
least h S step d r (top e ep) = step Top d r ep e
least h S step d r (down {n = n} {p = p} b up e ep) = step (Slot n b) d r (p, least h S step (node n) p up, ep) e

pub at_place : (h : Heap) (x : Place) (c : Link) (r : List ℕ) → PlaceAt h x r → child_at_place h x ≡ Some c → StandsAt h c r
at_place h Top c r is e = top e is
at_place h (Slot n b) c r is e = down b is.1 e is.2

pub record PlaceOf (h : Heap) (c : Link) (r : List ℕ) : Type 0 where
  pub place : Place
  pub is : PlaceAt h place r
  pub holds : child_at_place h place ≡ Some c

pub place_of : (h : Heap) (c : Link) (r : List ℕ) → StandsAt h c r → PlaceOf h c r
place_of h c r (top e ep) = record { place = Top; is = ep; holds = e }
place_of h c r (down {n = n} {p = p} b up e ep) = record { place = Slot n b; is = (p, up, ep); holds = e }

pub same_node : (m n : Node) → (m ≡ n) ⊎ (m ≢ n)
same_node m n =
    ⊎_elim
    (λ (k : m.layout ≡ n.layout). ⊎_elim (λ (i : m.number ≡ n.number). inl (ap₂ (λ (u : Layout) (v : ℕ). record { layout = u; number = v }) k i)) (λ (i : m.number ≢ n.number). inr (λ e. i (ap (λ (x : Node). x.number) e))) (cases_eq m.number n.number))
    (λ (k : m.layout ≢ n.layout). inr (λ e. k (ap (λ (x : Node). x.layout) e)))
    (same_layout m.layout n.layout)
  where
    same_layout : (j k : Layout) → (j ≡ k) ⊎ (j ≢ k)
    same_layout Node4 Node4 = inl refl
    same_layout Node4 Node16 = inr (λ e. cc)
    same_layout Node4 Node48 = inr (λ e. cc)
    same_layout Node4 Node256 = inr (λ e. cc)
    same_layout Node16 Node4 = inr (λ e. cc)
    same_layout Node16 Node16 = inl refl
    same_layout Node16 Node48 = inr (λ e. cc)
    same_layout Node16 Node256 = inr (λ e. cc)
    same_layout Node48 Node4 = inr (λ e. cc)
    same_layout Node48 Node16 = inr (λ e. cc)
    same_layout Node48 Node48 = inl refl
    same_layout Node48 Node256 = inr (λ e. cc)
    same_layout Node256 Node4 = inr (λ e. cc)
    same_layout Node256 Node16 = inr (λ e. cc)
    same_layout Node256 Node48 = inr (λ e. cc)
    same_layout Node256 Node256 = inl refl

pub same_link : (c d : Link) → (c ≡ d) ⊎ (c ≢ d)
same_link (leaf m) (leaf n) = ⊎_elim (λ (e : m ≡ n). inl (ap leaf e)) (λ (f : m ≢ n). inr (λ e. f (cc))) (cases_eq m n)
same_link (leaf m) (node n) = inr (λ e. cc)
same_link (node m) (leaf n) = inr (λ e. cc)
same_link (node m) (node n) = ⊎_elim (λ (e : m ≡ n). inl (ap node e)) (λ (f : m ≢ n). inr (λ e. f (cc))) (same_node m n)

pub same_cell : (c d : Cell) → (c ≡ d) ⊎ (c ≢ d)
same_cell cell.Anchor cell.Anchor = inl refl
same_cell cell.Anchor (cell.Leaf l) = inr (λ e. cc)
same_cell cell.Anchor (cell.Node n) = inr (λ e. cc)
same_cell (cell.Leaf l) cell.Anchor = inr (λ e. cc)
same_cell (cell.Leaf l) (cell.Leaf k) = ⊎_elim (λ (e : l ≡ k). inl (ap cell.Leaf e)) (λ (f : l ≢ k). inr (λ e. f (cc))) (cases_eq l k)
same_cell (cell.Leaf l) (cell.Node n) = inr (λ e. cc)
same_cell (cell.Node n) cell.Anchor = inr (λ e. cc)
same_cell (cell.Node n) (cell.Leaf l) = inr (λ e. cc)
same_cell (cell.Node n) (cell.Node m) = ⊎_elim (λ (e : n ≡ m). inl (ap cell.Node e)) (λ (f : n ≢ m). inr (λ e. f (cc))) (same_node n m)

pub same_place : (x y : Place) → (x ≡ y) ⊎ (x ≢ y)
same_place Top Top = inl refl
same_place Top (Slot n b) = inr (λ e. cc)
same_place (Slot n b) Top = inr (λ e. cc)
same_place (Slot m a) (Slot n b) =
    ⊎_elim
    (λ (e : m ≡ n). ⊎_elim (λ (f : a ≡ b). inl (cc)) (λ (f : a ≢ b). inr (λ g. f (cc))) (cases_eq a b))
    (λ (e : m ≢ n). inr (λ g. e (cc)))
    (same_node m n)

-- the path of a place is that of its node, a text and a byte
pub path_of_place : (h : Heap) (x y : Place) (r s : List ℕ) → ((n : Node) (p q : List ℕ) → StandsAt h (node n) p → StandsAt h (node n) q → p ≡ q) → x ≡ y → PlaceAt h x r → PlaceAt h y s → r ≡ s
path_of_place h Top Top r s one e i j = i ∙ sym j
path_of_place h Top (Slot n b) r s one e i j = absurd (cc)
path_of_place h (Slot n b) Top r s one e i j = absurd (cc)
path_of_place h (Slot m a) (Slot n b) r s one e i j =
    let em : m ≡ n = cc in
    let ea : a ≡ b = cc in
    let ep : i.0 ≡ j.0 = one n i.0 j.0 (subst (λ x. StandsAt h (node x) i.0) em i.1) j.1 in
    let ir = i.2 in
    let jr = j.2 in
    cc

-- the paths of one linked cell are one
pub one_path : (h : Heap) (c : Link) (p r : List ℕ) → NamesOnce h → StandsAt h c p → StandsAt h c r → p ≡ r
one_path h c p r once (top e ep) at =
    let w = place_of h c r at in
    let same : Top ≡ w.place = once Top w.place p r c ep w.is e w.holds in
    ep ∙ sym (subst (λ y. PlaceAt h y r) (sym same) w.is)
one_path h c p r once (down {n = n} {p = q} b up e ep) at =
    let w = place_of h c r at in
    let same : Slot n b ≡ w.place = once (Slot n b) w.place p r c (q, up, ep) w.is e w.holds in
    let i : PlaceAt h (Slot n b) r = subst (λ y. PlaceAt h y r) (sym same) w.is in
    let s : q ≡ i.0 = one_path h (node n) q i.0 once up i.1 in
    ep ∙ (ap (λ x. path_past h n x b) s ∙ sym i.2)
