-- Where cells stand, seen from above.
use Rattle.std.proofs.Common.{◌≡◌, ℕ, ◌+◌, ◌≤◌, List, [], ◌∷◌, ◌++◌, length, Some, refl, sym, ap, ◌∙◌, subst, append_assoc, append-nil, length-append, le_refl, arith}
use Rattle.std.proofs.lemmas.List.{append_cancel_left}
use Rattle.art_cell.specs.declared.cells.Node.{Node}
use Rattle.art_cell.specs.declared.cells.Link.{Link}
use Rattle.art_cell.specs.declared.cells.Link.TheVariants.{Node as node}
use Rattle.art_tree.specs.Tree.{Heap, path_past, StandsAt, top, down, Begins}

-- two bytes that follow one text in one key are one
pub next_byte : (x k : List ℕ) (a b : ℕ) → Begins (x ++ a ∷ []) k → Begins (x ++ b ∷ []) k → a ≡ b
next_byte x k a b f g =
    let e : x ++ (a ∷ f.0) ≡ x ++ (b ∷ g.0) = sym (append_assoc x (a ∷ []) f.0) ∙ (f.1 ∙ (sym g.1 ∙ append_assoc x (b ∷ []) g.0)) in
    let s : a ∷ f.0 ≡ b ∷ g.0 = append_cancel_left x _ _ e in
    cc

pub begins_more : (x y k : List ℕ) → Begins (x ++ y) k → Begins x k
begins_more x y k f = (y ++ f.0, sym (append_assoc x y f.0) ∙ f.1)

pub begins_trans : (x y z : List ℕ) → Begins x y → Begins y z → Begins x z
begins_trans x y z f g = (f.0 ++ g.0, sym (append_assoc x f.0 g.0) ∙ (ap (λ l. l ++ g.0) f.1 ∙ g.1))

-- d at path r is reached from c at path p
pub data Under (h : Heap) : Link → List ℕ → Link → List ℕ → Type 0 where
  here : {c d : Link} {p r : List ℕ} → c ≡ d → p ≡ r → Under h c p d r
  go : {n : Node} {p : List ℕ} {d e : Link} {r : List ℕ} (b : ℕ) → h.child n b ≡ Some e → Under h e (path_past h n p b) d r → Under h (node n) p d r

pub under_down : (h : Heap) (c : Link) (p r : List ℕ) (m : Node) (e : Link) (b : ℕ) → Under h c p (node m) r → h.child m b ≡ Some e → Under h c p e (path_past h m r b)
under_down h c p r m e b (here ec ep) step = subst (λ x. Under h x p e (path_past h m r b)) (sym ec) (go b step (here refl (ap (λ x. path_past h m x b) ep)))
under_down h c p r m e b (go {n = n} {e = f} a first u) step = go a first (under_down h f (path_past h n p a) r m e b u step)

pub under_begins : (h : Heap) (c d : Link) (p r : List ℕ) → Under h c p d r → Begins p r
under_begins h c d p r (here ec ep) = ([], append-nil p ∙ ep)
under_begins h c d p r (go {n = n} {e = f} a first u) = begins_more p (h.prefix n) r (begins_more (p ++ h.prefix n) (a ∷ []) r (under_begins h f d (path_past h n p a) r u))

-- what is linked is under the root
pub record FromRoot (h : Heap) (d : Link) (r : List ℕ) : Type 0 where
  pub link : Link
  pub is : h.root ≡ Some link
  pub under : Under h link [] d r

pub from_root : (h : Heap) (d : Link) (r : List ℕ) → StandsAt h d r → FromRoot h d r
from_root h d r (top {c = c} e ep) = record { link = c; is = e; under = here refl (sym ep) }
from_root h d r (down {n = n} {p = p} b at step ep) =
    let f = from_root h (node n) p at in
    record { link = f.link; is = f.is; under = subst (λ x. Under h f.link [] d x) (sym ep) (under_down h f.link [] p n d b f.under step) }

pub length_past : (h : Heap) (n : Node) (p : List ℕ) (b : ℕ) → length (path_past h n p b) ≡ length p + length (h.prefix n) + 1
length_past h n p b = omega (arith, length-append (p ++ h.prefix n) (b ∷ []), length-append p (h.prefix n))

-- one step further down, where the key says which byte
next_under : (h : Heap) (n : Node) (p : List ℕ) (d : Link) (r k : List ℕ) (b : ℕ) (c : Link) → Under h (node n) p d r → length (path_past h n p b) ≤ length r → Begins (path_past h n p b) k → Begins r k → h.child n b ≡ Some c → Under h c (path_past h n p b) d r
next_under h n p d r k b c (here ec ep) long f g step = absurd (omega (arith, length_past h n p b, ap length ep))
next_under h n p d r k b c (go {e = e} a first u) long f g step =
    let same : a ≡ b = next_byte (p ++ h.prefix n) k a b (begins_trans _ r k (under_begins h e d (path_past h n p a) r u) g) f in
    let e-is : e ≡ c = cc in
    subst (λ x. Under h x (path_past h n p b) d r) e-is (subst (λ x. Under h e (path_past h n p x) d r) same u)

-- of two cells on the way of one key, the longer path is under the shorter
pub on_the_way : (h : Heap) (c d : Link) (p r k : List ℕ) → StandsAt h c p → StandsAt h d r → Begins p k → Begins r k → length p ≤ length r → Under h c p d r
on_the_way h c d p r k (top e ep) at f g long =
    let u = from_root h d r at in
    let same : u.link ≡ c = cc (u.is) in
    subst (λ x. Under h c x d r) (sym ep) (subst (λ x. Under h x [] d r) same u.under)
on_the_way h c d p r k (down {n = n} {p = q} b up step ep) at f g long =
    let f' = subst (λ x. Begins x k) ep f in
    let long' : length (path_past h n q b) ≤ length r = omega (arith, ap length ep) in
    subst (λ x. Under h c x d r) (sym ep)
    (next_under h n q d r k b c (on_the_way h (node n) d q r k up at (begins_more q (h.prefix n) k (begins_more (q ++ h.prefix n) (b ∷ []) k f')) g (omega (arith, length_past h n q b))) long' f' g step)

pub under_same : (h : Heap) (c d : Link) (p r : List ℕ) → Under h c p d r → length r ≤ length p → c ≡ d
under_same h c d p r (here ec ep) short = ec
under_same h c d p r (go {n = n} {e = e} b first u) short =
    let f = under_begins h e d (path_past h n p b) r u in
    absurd (omega (arith, length_past h n p b, ap length f.1, length-append (path_past h n p b) f.0))

pub one_cell_at : (h : Heap) (c d : Link) (p : List ℕ) → StandsAt h c p → StandsAt h d p → c ≡ d
one_cell_at h c d p a b = under_same h c d p p (on_the_way h c d p p p a b ([], append-nil p) ([], append-nil p) (le_refl _)) (le_refl _)
