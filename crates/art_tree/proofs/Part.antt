-- What a fork owes of its bytes.
use Rattle.std.proofs.Common.{◌≡◌, ◌≢◌, ◌⊎◌, ℕ, List, [], ◌∷◌, ◌++◌, length, take, drop, refl, sym, ap, ap₂, ◌∙◌, inl, inr, ⊎_elim, append_assoc}
use Rattle.std.proofs.lemmas.Bool.{cases_eq}
use Rattle.std.proofs.lemmas.List.{take_at, take-append-drop}
use Rattle.art_cell.specs.declared.cells.Node.{Node}
use Rattle.art_cell.specs.declared.cells.Link.TheVariants.{Node as node}
use Rattle.art_tree.specs.Tree.{Heap, StandsAt, Begins, Row, IsTree}
use Rattle.art_tree.specs.Descents.{Parted}
use Rattle.art_tree.proofs.Full.{no_end_within}

-- one begins the other, or they part
pub compare : (x y : List ℕ) → Begins x y ⊎ (Begins y x ⊎ Parted x y)
compare [] y = inl (y, refl)
compare (a ∷ x) [] = inr (inl (a ∷ x, refl))
compare (a ∷ x) (b ∷ y) = ⊎_elim
    (λ (same : a ≡ b). ⊎_elim
    (λ (f : Begins x y). inl (f.0, ap₂ (λ u v. u ∷ v) same f.1))
    (⊎_elim
    (λ (f : Begins y x). inr (inl (f.0, ap₂ (λ u v. u ∷ v) (sym same) f.1)))
    (λ (p : Parted x y). inr (inr (record { front = a ∷ p.front; left = p.left; right = p.right; left_rest = p.left_rest; right_rest = p.right_rest; is_left = ap (λ z. a ∷ z) p.is_left; is_right = ap₂ (λ u v. u ∷ v) (sym same) p.is_right; apart = p.apart }))))
    (compare x y))
    (λ (other : a ≢ b). inr (inr (record { front = []; left = a; right = b; left_rest = x; right_rest = y; is_left = refl; is_right = refl; apart = other })))
    (cases_eq a b)

-- beginning, by a slice of the text
pub begins_take : (p k : List ℕ) → Begins p k → take (length p) k ≡ p
begins_take p k f = ap (take (length p)) (sym f.1) ∙ take_at p f.0 (length p) refl

pub begins_drop : (p k : List ℕ) → take (length p) k ≡ p → Begins p k
begins_drop p k e = (drop (length p) k, ap (λ z. z ++ drop (length p) k) (sym e) ∙ take-append-drop (length p) k)

-- the key of a place of this kind: r, then a front, then a byte
pub begins_part : (r q xs k : List ℕ) (b : ℕ) → k ≡ r ++ (q ++ b ∷ xs) → Begins (r ++ q ++ b ∷ []) k
begins_part r q xs k b e = (xs, append_assoc (r ++ q) (b ∷ []) xs ∙ (append_assoc r q (b ∷ xs) ∙ sym e))

-- where a node's prefix differs from the key, they part
pub node_parts : (h : Heap) (n : Node) (r k : List ℕ) → IsTree h → StandsAt h (node n) r → (f : Begins r k) → ((j : List ℕ) (v : ℕ) → Row h j v → Begins k j → ⊥) → (Begins (r ++ h.prefix n) k → ⊥) → Parted (h.prefix n) f.0
node_parts h n r k s at f apart differs = ⊎_elim
    (λ (g : Begins (h.prefix n) f.0). absurd (differs (g.0, append_assoc r (h.prefix n) g.0 ∙ (ap (λ z. r ++ z) g.1 ∙ f.1))))
    (⊎_elim
    (λ (g : Begins f.0 (h.prefix n)). absurd (no_end_within h n r k s at apart (g.0, ap (λ z. z ++ g.0) (sym f.1) ∙ (append_assoc r f.0 g.0 ∙ ap (λ z. r ++ z) g.1))))
    (λ (p : Parted (h.prefix n) f.0). p))
    (compare (h.prefix n) f.0)

-- two keys from one place, neither of which begins the other, part behind it
pub leaves_part : (r j k : List ℕ) (f : Begins r j) (g : Begins r k) → (Begins j k → ⊥) → (Begins k j → ⊥) → Parted f.0 g.0
leaves_part r j k f g ab ba = ⊎_elim
    (λ (e : Begins f.0 g.0). absurd (ab (e.0, ap (λ z. z ++ e.0) (sym f.1) ∙ (append_assoc r f.0 e.0 ∙ (ap (λ z. r ++ z) e.1 ∙ g.1)))))
    (⊎_elim
    (λ (e : Begins g.0 f.0). absurd (ba (e.0, ap (λ z. z ++ e.0) (sym g.1) ∙ (append_assoc r g.0 e.0 ∙ (ap (λ z. r ++ z) e.1 ∙ f.1)))))
    (λ (p : Parted f.0 g.0). p))
    (compare f.0 g.0)
