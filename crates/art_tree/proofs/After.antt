-- The bound just above a front.
use Rattle.std.proofs.Common.{◌≡◌, ◌⊎◌, ◌↔◌, ℕ, ◌+◌, ◌<◌, Bool, true, false, cond, ltb, List, [], ◌∷◌, refl, sym, ap, ◌∙◌, subst, inl, inr, ⊎_elim, append-nil, arith, nat_cmp}
use Rattle.std.proofs.lemmas.Bool.{cases_order, ltb-false}
use Rattle.std.specs.Ordering.{ordering_then}
use Rattle.std.specs.Cmp.Lexicographic.{slice_cmp}
use Rattle.art_tree.specs.Tree.{Begins}
use Rattle.art_tree.specs.declared.bounds.Bound.{Bound}
use Rattle.art_tree.specs.declared.bounds.Bound.TheVariants.{To, End}
use Rattle.art_tree.specs.Looks.{Before, IsBelow, raise, after, AreBytes}
use Rattle.art_tree.proofs.Order.{before_first, nat_same, never_more, before_not}

-- the order of texts by their first bytes
before_same : (a : ℕ) (x y : List ℕ) → slice_cmp nat_cmp (a ∷ x) (a ∷ y) ≡ slice_cmp nat_cmp x y
before_same a x y = ap (λ o. ordering_then o (slice_cmp nat_cmp x y)) (nat_same a)

not_before_nil : (x : List ℕ) → Before x [] → ⊥
not_before_nil [] e = cc
not_before_nil (a ∷ x) e = cc

abbrev Right : List ℕ → List ℕ → Bound → Type 0
Right p k hi = IsBelow k hi ↔ (Before k p ⊎ Begins p k)

begins_tail : (a c : ℕ) (p k : List ℕ) → Begins (a ∷ p) (c ∷ k) → (a ≡ c) × Begins p k
begins_tail a c p k f = let e = f.1 in (cc (e), (f.0, cc (e)))

-- where the first bytes are one
same_byte : (a : ℕ) (p k : List ℕ) (hi : Bound) → a < 256 → Right p k hi → Right (a ∷ p) (a ∷ k) (raise a hi)
same_byte a p k (To z) small w = (
  (λ e. ⊎_elim (λ f. inl (before_same a k p ∙ f)) (λ f. inr (f.0, ap (λ y. a ∷ y) f.1)) (w.0 (sym (before_same a k z) ∙ e))),
  (λ f. before_same a k z ∙ w.1 (⊎_elim (λ e. inl (sym (before_same a k p) ∙ e)) (λ e. inr (begins_tail a a p k e).1) f)),
)
same_byte a p k End small w = (
  (λ _. ⊎_elim (λ f. inl (before_same a k p ∙ f)) (λ f. inr (f.0, ap (λ y. a ∷ y) f.1)) (w.0 tt)),
  (λ _. raised (ltb a 255)),
)
  where
    raised : (t : Bool) → IsBelow (a ∷ k) (cond t (To ((a + 1) ∷ [])) End)
    raised true = before_first a (a + 1) k [] (omega arith)
    raised false = tt

lower_byte : (a c : ℕ) (k : List ℕ) (hi : Bound) → c < a → IsBelow (c ∷ k) (raise a hi)
lower_byte a c k (To z) lt = before_first c a k z lt
lower_byte a c k End lt = raised (ltb a 255)
  where
    raised : (t : Bool) → IsBelow (c ∷ k) (cond t (To ((a + 1) ∷ [])) End)
    raised true = before_first c (a + 1) k [] (omega arith)
    raised false = tt

higher_byte : (a c : ℕ) (k : List ℕ) (hi : Bound) → a < c → c < 256 → IsBelow (c ∷ k) (raise a hi) → ⊥
higher_byte a c k (To z) gt small e = never_more c a gt (slice_cmp nat_cmp k z) e
higher_byte a c k End gt small e = raised (ltb a 255) refl e
  where
    raised : (t : Bool) → ltb a 255 ≡ t → IsBelow (c ∷ k) (cond t (To ((a + 1) ∷ [])) End) → ⊥
    raised true f e = ⊎_elim
        (λ (same : c ≡ a + 1). not_before_nil k (sym (before_same c k []) ∙ subst (λ y. Before (c ∷ k) (y ∷ [])) (sym same) e))
        (⊎_elim (λ (lt : c < a + 1). omega arith) (λ (more : a + 1 < c). never_more c (a + 1) more (slice_cmp nat_cmp k []) e))
        (cases_order c (a + 1))
    raised false f e = omega (arith, ltb-false a 255 f)

-- below the bound are exactly the texts before p, and those that begin with it
pub after_caps : (p k : List ℕ) → AreBytes p → AreBytes k → IsBelow k (after p) ↔ (Before k p ⊎ Begins p k)
after_caps [] k bp bk = ((λ _. inr (k, refl)), (λ _. tt))
after_caps (a ∷ p) [] bp bk = ((λ _. inl refl), (λ _. nil_below a (after p)))
  where
    nil_below : (a : ℕ) (hi : Bound) → IsBelow [] (raise a hi)
    nil_below a (To z) = refl
    nil_below a End = raised (ltb a 255)
      where
        raised : (t : Bool) → IsBelow [] (cond t (To ((a + 1) ∷ [])) End)
        raised true = refl
        raised false = tt
after_caps (a ∷ p) (c ∷ k) bp bk = ⊎_elim
    (λ (same : c ≡ a). subst (λ y. Right (a ∷ p) (y ∷ k) (after (a ∷ p))) (sym same) (same_byte a p k (after p) bp.0 (after_caps p k bp.1 bk.1)))
    (⊎_elim
    (λ (lt : c < a). ((λ _. inl (before_first c a k p lt)), (λ _. lower_byte a c k (after p) lt)))
    (λ (gt : a < c). (
      (λ e. absurd (higher_byte a c k (after p) gt bk.0 e)),
      (λ f. absurd (⊎_elim (λ (e : Before (c ∷ k) (a ∷ p)). never_more c a gt (slice_cmp nat_cmp k p) e) (λ (e : Begins (a ∷ p) (c ∷ k)). let s = (begins_tail a c p k e).0 in omega (arith, s)) f)),
    )))
    (cases_order c a)

-- no byte text below the bound is above all that begin with p
pub after_least : (p z : List ℕ) → AreBytes p → AreBytes z → IsBelow z (after p) → ((k : List ℕ) → AreBytes k → Begins p k → Before k z) → ⊥
after_least p z bp bz below above = ⊎_elim
    (λ (e : Before z p). before_not z p e (above p bp ([], append-nil p)))
    (λ (e : Begins p z). let f = above z bz e in before_not z z f f)
    ((after_caps p z bp bz).0 below)
