-- A list in ascending order, cut at a place: what stands before a key, and what after it.
use Rattle.std.proofs.Common.{◌≡◌, List, [], ◌∷◌, ◌++◌, cond, filter, refl, sym, ap, ◌∙◌, rules}
use Rattle.std.specs.declared.cmp.Ordering.{Ordering}
use Rattle.std.specs.declared.cmp.Ordering.TheVariants.{Less, Equal, Greater}
use Rattle.std.specs.Ordering.{is_lt, is_gt, ordering_reverse}
use Rattle.std.specs.List.{AllByRecursion}
use Rattle.std.specs.List.Sorted.{IsStrictlySortedBy}
use Rattle.std.specs.Cmp.{IsTotalOrder, alike_right}

module _ {X : Type 0} (c : X → Ordering) where
  -- the elements all stand before the key
  abbrev pub Before : List X → Type 0
  Before xs = AllByRecursion (λ x. c x ≡ Less) xs

  -- the elements all stand after the key
  abbrev pub After : List X → Type 0
  After xs = AllByRecursion (λ x. c x ≡ Greater) xs

  abbrev pub before : List X → List X
  before xs = filter (λ x. is_lt (c x)) xs

  abbrev pub after : List X → List X
  after xs = filter (λ x. is_gt (c x)) xs

  pub before-all : (xs ys : List X) → Before xs → before (xs ++ ys) ≡ xs ++ before ys
  before-all [] ys h = refl
  before-all (x ∷ xs) ys h = ap (λ o. cond (is_lt o) (x ∷ before (xs ++ ys)) (before (xs ++ ys))) h.0 ∙ ap (λ l. x ∷ l) (before-all xs ys h.1)

  pub before-none : (xs : List X) → After xs → before xs ≡ []
  before-none [] h = refl
  before-none (x ∷ xs) h = ap (λ o. cond (is_lt o) (x ∷ before xs) (before xs)) h.0 ∙ before-none xs h.1

  pub after-none : (xs ys : List X) → Before xs → after (xs ++ ys) ≡ after ys
  after-none [] ys h = refl
  after-none (x ∷ xs) ys h = ap (λ o. cond (is_gt o) (x ∷ after (xs ++ ys)) (after (xs ++ ys))) h.0 ∙ after-none xs ys h.1

  pub after-all : (xs : List X) → After xs → after xs ≡ xs
  after-all [] h = refl
  after-all (x ∷ xs) h = ap (λ o. cond (is_gt o) (x ∷ after xs) (after xs)) h.0 ∙ ap (λ l. x ∷ l) (after-all xs h.1)

  -- with nothing in between
  pub gap_before : (xs ys : List X) → Before xs → After ys → before (xs ++ ys) ≡ xs
  gap_before xs ys h g = before-all xs ys h ∙ ap (λ l. xs ++ l) (before-none ys g) ∙ search rules

  pub gap_after : (xs ys : List X) → Before xs → After ys → after (xs ++ ys) ≡ ys
  gap_after xs ys h g = after-none xs ys h ∙ after-all ys g

  -- with the one at the key in between
  pub place_before : (xs : List X) (x : X) (ys : List X) → Before xs → c x ≡ Equal → After ys → before (xs ++ x ∷ ys) ≡ xs
  place_before xs x ys h e g = before-all xs (x ∷ ys) h ∙ ap (λ l. xs ++ l) (ap (λ o. cond (is_lt o) (x ∷ before ys) (before ys)) e ∙ before-none ys g) ∙ search rules

  pub place_after : (xs : List X) (x : X) (ys : List X) → Before xs → c x ≡ Equal → After ys → after (xs ++ x ∷ ys) ≡ ys
  place_after xs x ys h e g = after-none xs (x ∷ ys) h ∙ ap (λ o. cond (is_gt o) (x ∷ after ys) (after ys)) e ∙ after-all ys g

module _ {X : Type 0} (P Q : X → Type 0) where
  pub All-each : ((x : X) → P x → Q x) → (xs : List X) → AllByRecursion P xs → AllByRecursion Q xs
  All-each f [] h = h
  All-each f (x ∷ xs) h = (f x h.0, All-each f xs h.1)

module _ {X : Type 0} (P : X → Type 0) where
  pub All-both : (xs ys : List X) → AllByRecursion P xs → AllByRecursion P ys → AllByRecursion P (xs ++ ys)
  All-both [] ys h g = g
  All-both (x ∷ xs) ys h g = (h.0, All-both xs ys h.1 g)

  pub All-first : (xs ys : List X) → AllByRecursion P (xs ++ ys) → AllByRecursion P xs
  All-first [] ys h = tt
  All-first (x ∷ xs) ys h = (h.0, All-first xs ys h.1)

  pub All-second : (xs ys : List X) → AllByRecursion P (xs ++ ys) → AllByRecursion P ys
  All-second [] ys h = h
  All-second (x ∷ xs) ys h = All-second xs ys h.1

module _ {X : Type 0} (R : X → X → Ordering) where
  pub Sorted-second : (xs ys : List X) → IsStrictlySortedBy R (xs ++ ys) → IsStrictlySortedBy R ys
  unfolding IsStrictlySortedBy
  Sorted-second [] ys h = h
  Sorted-second (x ∷ xs) ys h = Sorted-second xs ys h.1

  -- one more in the gap that it has
  pub Sorted-with : (xs : List X) (x : X) (ys : List X) → IsStrictlySortedBy R (xs ++ ys) → AllByRecursion (λ y. R y x ≡ Less) xs → AllByRecursion (λ y. R x y ≡ Less) ys → IsStrictlySortedBy R (xs ++ x ∷ ys)
  unfolding IsStrictlySortedBy
  Sorted-with [] x ys s h g = (g, s)
  Sorted-with (y ∷ xs) x ys s h g =
      let rest = All-both (λ z. R y z ≡ Less) xs (x ∷ ys) (All-first (λ z. R y z ≡ Less) xs ys s.0) (h.0, All-second (λ z. R y z ≡ Less) xs ys s.0) in
      (rest, Sorted-with xs x ys s.1 h.1 g)

  pub Sorted-without : (xs : List X) (x : X) (ys : List X) → IsStrictlySortedBy R (xs ++ x ∷ ys) → IsStrictlySortedBy R (xs ++ ys)
  unfolding IsStrictlySortedBy
  Sorted-without [] x ys s = s.1
  Sorted-without (y ∷ xs) x ys s =
      let P : X → Type 0 = λ z. R y z ≡ Less in
      (All-both P xs ys (All-first P xs (x ∷ ys) s.0) (All-second P xs (x ∷ ys) s.0).1, Sorted-without xs x ys s.1)

module _ {K : Type 0} {R : K → K → Ordering} (o : IsTotalOrder R) (k : K) where
  -- what stands above one that is at the key or above it is above the key
  pub above_same : (x y : K) → R x k ≡ Equal → R x y ≡ Less → R y k ≡ Greater
  above_same x y e l = sym (alike_right o x k y e) ∙ o.antisymm y x ∙ ap ordering_reverse l

  pub above_greater : (x y : K) → R x k ≡ Greater → R x y ≡ Less → R y k ≡ Greater
  above_greater x y g l =
      let up : R k x ≡ Less = o.antisymm k x ∙ ap ordering_reverse g in
      o.antisymm y k ∙ ap ordering_reverse (o.trans k x y up l)

  pub below_greater : (x : K) → R x k ≡ Greater → R k x ≡ Less
  below_greater x g = o.antisymm k x ∙ ap ordering_reverse g
