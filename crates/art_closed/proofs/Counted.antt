-- The numbers of a pool, each with its fate, and how many have which.
use Rattle.std.proofs.Common.{◌≡◌, ◌⊎◌, ◌↔◌, ℕ, zero, suc, ◌+◌, ◌-◌, ◌<◌, ◌≤◌, Bool, true, false, cond, List, [], ◌∷◌, length, map, inl, inr, ⊎_elim, refl, sym, ap, ap₂, ◌∙◌, subst, arith}
use Rattle.std.proofs.lemmas.Bool.{cases_eq, false≢true}
use Rattle.std.proofs.lemmas.List.Sums.{sum_by-cons}
use Rattle.std.specs.List.{count_by, range_with_len}
use Rattle.art_cell.specs.Children.{link_in_pool, number_of}
use Rattle.art_cell.specs.declared.cells.Link.{Link}
use Rattle.art_cell.specs.declared.cells.Pool.{Pool}
use Rattle.art_shared.specs.Closing.{Fate, Free, HasFate, InLimbo, IsAccounted, Linked}
use Rattle.art_shared.specs.Rule.{Apart}
use Rattle.art_shared.specs.declared.pass.Pass.{Pass}
use Rattle.art_shared.proofs.Lists.{no_more}
use Rattle.art_step.specs.Views.{IsNumber, IsOnce, Member, Memory, is_free, pool_of}
use Rattle.art_step.specs.WordPlaces.{pool_size}
use Rattle.art_step.specs.declared.views.Sizes.{Sizes}
use Rattle.art_step.proofs.FreeBits.{link_again, number_again, pool_again}
use Rattle.art_step.proofs.WordPlaces.{is_number}
use Rattle.art_closed.specs.Counts.{HasCount, IsCounted, IsIn, Waits, first_numbers}
use Rattle.art_closed.specs.declared.counts.PoolCount.{PoolCount}

-- ---- counts

pub once_apart : (ds : List Link) → IsOnce ds → Apart ds
once_apart [] once = tt
once_apart (d ∷ ds) once = (once.0, once_apart ds once.1)

pub apart_once : (ds : List Link) → Apart ds → IsOnce ds
apart_once [] apart = tt
apart_once (d ∷ ds) apart = (apart.0, apart_once ds apart.1)

module _ (P Q : Link → Type 0) where
  no_greater : (a b : ℕ) → ((d : Link) → P d → Q d) → HasCount P a → HasCount Q b → a ≤ b
  no_greater a b f x y =
      let more = no_more x.0 y.0 (once_apart x.0 x.1) (λ d i. (y.2 d).1 (f d ((x.2 d).0 i))) in
      let one = x.3 in
      let other = y.3 in
      omega (arith, more, one, other)

  pub count_again : (n : ℕ) → ((d : Link) → P d ↔ Q d) → HasCount P n → HasCount Q n
  count_again n f x = (x.0, x.1, λ d. (λ i. (f d).0 ((x.2 d).0 i), λ q. (x.2 d).1 ((f d).1 q)), x.3)

-- what is counted has one count
pub one_count : (P : Link → Type 0) (a b : ℕ) → HasCount P a → HasCount P b → a ≡ b
one_count P a b x y =
    let low = no_greater P P a b (λ d p. p) x y in
    let high = no_greater P P b a (λ d p. p) y x in
    omega (arith, low, high)

-- ---- the numbers of a pool

-- some of them, from one on
abbrev numbers_from : Pool → ℕ → ℕ → List Link
numbers_from pool from n = map (link_in_pool pool) (range_with_len from n)

number_inside : (pool : Pool) (from n : ℕ) (d : Link) → Member d (numbers_from pool from n) → (pool_of d ≡ pool) × (from ≤ number_of d) × (number_of d < from + n)
number_inside pool from zero d i = absurd i
number_inside pool from (suc n) d i = ⊎_elim
    (λ (e : d ≡ link_in_pool pool from). let is = ap number_of e ∙ number_again pool from in (ap pool_of e ∙ pool_again pool from, omega (arith, is), omega (arith, is)))
    (λ (j : Member d (numbers_from pool (from + 1) n)). let r = number_inside pool (from + 1) n d j in let low = r.1 in let high = r.2 in (r.0, omega (arith, low), omega (arith, high)))
    i

inside_number : (pool : Pool) (from n : ℕ) (d : Link) → pool_of d ≡ pool → from ≤ number_of d → number_of d < from + n → Member d (numbers_from pool from n)
inside_number pool from zero d of low high = absurd (omega (arith, low, high))
inside_number pool from (suc n) d of low high = ⊎_elim
    (λ (e : number_of d ≡ from). inl (sym (link_again d) ∙ ap₂ link_in_pool of e))
    (λ other. inr (inside_number pool (from + 1) n d of (omega (arith, low, other)) (omega (arith, high))))
    (cases_eq (number_of d) from)

numbers_apart : (pool : Pool) (from n : ℕ) → Apart (numbers_from pool from n)
numbers_apart pool from zero = tt
numbers_apart pool from (suc n) = (
  λ i. let low = (number_inside pool (from + 1) n (link_in_pool pool from) i).1 in let is = number_again pool from in omega (arith, low, is),
  numbers_apart pool (from + 1) n,
)

length_numbers : (pool : Pool) (from n : ℕ) → length (numbers_from pool from n) ≡ n
length_numbers pool from zero = refl
length_numbers pool from (suc n) = ap suc (length_numbers pool (from + 1) n)

module _ (z : Sizes) (pool : Pool) where
  is_one : (d : Link) → pool_of d ≡ pool → IsNumber z d → Member d (first_numbers pool (pool_size z pool))
  is_one d of is = inside_number pool 0 (pool_size z pool) d of (omega arith) (let low = (is_number z d).0 is in let same = ap (pool_size z) of in omega (arith, low, same))

  pub one_is : (d : Link) → Member d (first_numbers pool (pool_size z pool)) → (pool_of d ≡ pool) × IsNumber z d
  one_is d i =
      let r = number_inside pool 0 (pool_size z pool) d i in
      let low = r.2 in
      let same = ap (pool_size z) r.0 in
      (r.0, (is_number z d).1 (omega (arith, low, same)))

  -- of numbers of the pool there are no more than it has
  pub few_numbers : (P : Link → Type 0) (n : ℕ) → ((d : Link) → P d → (pool_of d ≡ pool) × IsNumber z d) → HasCount P n → n ≤ pool_size z pool
  few_numbers P n f x =
      let more = no_more x.0 (first_numbers pool (pool_size z pool)) (once_apart x.0 x.1) (λ d i. let r = f d ((x.2 d).0 i) in is_one d r.0 r.1) in
      let long = length_numbers pool 0 (pool_size z pool) in
      let one = x.3 in
      omega (arith, more, long, one)

-- ---- their fates

abbrev is_linked : Fate → Bool
is_linked Linked = true
is_linked Free = false
is_linked (InLimbo p) = false

abbrev is_free_fate : Fate → Bool
is_free_fate Linked = false
is_free_fate Free = true
is_free_fate (InLimbo p) = false

abbrev waits : Fate → Bool
waits Linked = false
waits Free = false
waits (InLimbo p) = true

linked_only : (w : Fate) → is_linked w ≡ true → w ≡ Linked
linked_only Linked e = refl
linked_only Free e = absurd (false≢true e)
linked_only (InLimbo p) e = absurd (false≢true e)

free_only : (w : Fate) → is_free_fate w ≡ true → w ≡ Free
free_only Linked e = absurd (false≢true e)
free_only Free e = refl
free_only (InLimbo p) e = absurd (false≢true e)

waits_only : (w : Fate) → waits w ≡ true → (p : ℕ) × (w ≡ InLimbo p)
waits_only Linked e = absurd (false≢true e)
waits_only Free e = absurd (false≢true e)
waits_only (InLimbo p) e = (p, refl)

one_fate : (w : Fate) → cond (is_linked w) 1 0 + cond (is_free_fate w) 1 0 + cond (waits w) 1 0 ≡ 1
one_fate Linked = refl
one_fate Free = refl
one_fate (InLimbo p) = refl

-- a list with one more in front of it, or not
module _ (d : Link) (rest : List Link) where
  member_of : (b : Bool) (e : Link) → Member e (cond b (d ∷ rest) rest) → ((e ≡ d) × (b ≡ true)) ⊎ Member e rest
  member_of true e i = ⊎_elim (λ (s : e ≡ d). inl (s, refl)) (λ (j : Member e rest). inr j) i
  member_of false e i = inr i

  member_here : (b : Bool) (e : Link) → b ≡ true → e ≡ d → Member e (cond b (d ∷ rest) rest)
  member_here true e is s = inl s
  member_here false e is s = absurd (false≢true is)

  member_later : (b : Bool) (e : Link) → Member e rest → Member e (cond b (d ∷ rest) rest)
  member_later true e i = inr i
  member_later false e i = i

  apart_with : (b : Bool) → (Member d rest → ⊥) → Apart rest → Apart (cond b (d ∷ rest) rest)
  apart_with true none apart = (none, apart)
  apart_with false none apart = apart

  length_with : (b : Bool) → length (cond b (d ∷ rest) rest) ≡ cond b 1 0 + length rest
  length_with true = omega arith
  length_with false = omega arith

module _ (z : Sizes) (m : Memory) (passes : List Pass) (acc : IsAccounted z m passes) where
  abbrev fate : (d : Link) → IsNumber z d → Fate
  fate d is = (acc.one d is).0

  -- those of some numbers whose fate passes the test
  abbrev with_fate : (t : Fate → Bool) (ds : List Link) → ((d : Link) → Member d ds → IsNumber z d) → List Link
  with_fate t [] are = []
  with_fate t (d ∷ ds) are = cond (t (fate d (are d (inl refl)))) (d ∷ with_fate t ds (λ e i. are e (inr i))) (with_fate t ds (λ e i. are e (inr i)))

  free_is : (d : Link) (is : IsNumber z d) → is_free m d ≡ is_free_fate (fate d is)
  free_is d is = by (is_free m d) refl (fate d is) (acc.one d is).1 (λ u h. (acc.one d is).2 u h)
    where
      by : (b : Bool) → is_free m d ≡ b → (w : Fate) → HasFate m passes d w → ((u : Fate) → HasFate m passes d u → u ≡ w) → is_free m d ≡ is_free_fate w
      by true e w h one = e ∙ ap is_free_fate (one Free e)
      by false e Linked h one = e
      by false e Free h one = absurd (false≢true (sym e ∙ h))
      by false e (InLimbo p) h one = e

  module _ (t : Fate → Bool) where
    among : (ds : List Link) (are : (d : Link) → Member d ds → IsNumber z d) (e : Link) → Member e (with_fate t ds are) → Member e ds
    among [] are e i = absurd i
    among (d ∷ ds) are e i = ⊎_elim
        (λ (s : (e ≡ d) × (t (fate d (are d (inl refl))) ≡ true)). inl s.0)
        (λ (j : Member e (with_fate t ds (λ x k. are x (inr k)))). inr (among ds (λ x k. are x (inr k)) e j))
        (member_of d (with_fate t ds (λ x k. are x (inr k))) (t (fate d (are d (inl refl)))) e i)

    passes_test : (ds : List Link) (are : (d : Link) → Member d ds → IsNumber z d) (e : Link) → Member e (with_fate t ds are) → (w : Fate) × HasFate m passes e w × (t w ≡ true)
    passes_test [] are e i = absurd i
    passes_test (d ∷ ds) are e i = ⊎_elim
        (λ (s : (e ≡ d) × (t (fate d (are d (inl refl))) ≡ true)). let is = are d (inl refl) in (fate d is, subst (λ (x : Link). HasFate m passes x (fate d is)) (sym s.0) (acc.one d is).1, s.1))
        (λ (j : Member e (with_fate t ds (λ x k. are x (inr k)))). passes_test ds (λ x k. are x (inr k)) e j)
        (member_of d (with_fate t ds (λ x k. are x (inr k))) (t (fate d (are d (inl refl)))) e i)

    stands_there : (ds : List Link) (are : (d : Link) → Member d ds → IsNumber z d) (e : Link) (w : Fate) → Member e ds → HasFate m passes e w → t w ≡ true → Member e (with_fate t ds are)
    stands_there [] are e w i h is = absurd i
    stands_there (d ∷ ds) are e w i h is = ⊎_elim
        (λ (s : e ≡ d).
        let same : w ≡ fate d (are d (inl refl)) = (acc.one d (are d (inl refl))).2 w (subst (λ (x : Link). HasFate m passes x w) s h) in
        member_here d (with_fate t ds (λ x k. are x (inr k))) (t (fate d (are d (inl refl)))) e (sym (ap t same) ∙ is) s)
        (λ (j : Member e ds). member_later d (with_fate t ds (λ x k. are x (inr k))) (t (fate d (are d (inl refl)))) e (stands_there ds (λ x k. are x (inr k)) e w j h is))
        i

    apart_there : (ds : List Link) (are : (d : Link) → Member d ds → IsNumber z d) → Apart ds → Apart (with_fate t ds are)
    apart_there [] are apart = tt
    apart_there (d ∷ ds) are apart = apart_with d (with_fate t ds (λ x k. are x (inr k))) (t (fate d (are d (inl refl))))
        (λ i. apart.0 (among ds (λ x k. are x (inr k)) d i)) (apart_there ds (λ x k. are x (inr k)) apart.1)

  -- each number is in one of the three lists
  three : (ds : List Link) (are : (d : Link) → Member d ds → IsNumber z d)
      → length (with_fate is_linked ds are) + length (with_fate is_free_fate ds are) + length (with_fate waits ds are) ≡ length ds
  three [] are = refl
  three (d ∷ ds) are =
      let w = fate d (are d (inl refl)) in
      let rest = λ (x : Link) (k : Member x ds). are x (inr k) in
      let sums = three ds rest in
      let a = length_with d (with_fate is_linked ds rest) (is_linked w) in
      let b = length_with d (with_fate is_free_fate ds rest) (is_free_fate w) in
      let e = length_with d (with_fate waits ds rest) (waits w) in
      let one = one_fate w in
      omega (arith, sums, a, b, e, one)

  free_by_bits : (ds : List Link) (are : (d : Link) → Member d ds → IsNumber z d) → length (with_fate is_free_fate ds are) ≡ count_by (is_free m) ds
  free_by_bits [] are = refl
  free_by_bits (d ∷ ds) are =
      let rest = λ (x : Link) (k : Member x ds). are x (inr k) in
      length_with d (with_fate is_free_fate ds rest) (is_free_fate (fate d (are d (inl refl))))
      ∙ ap₂ (λ (b : Bool) (n : ℕ). cond b 1 0 + n) (sym (free_is d (are d (inl refl)))) (free_by_bits ds rest)
      ∙ sym (sum_by-cons (λ (x : Link). cond (is_free m x) 1 0) d ds)

  module _ (pool : Pool) where
    abbrev all : List Link
    all = first_numbers pool (pool_size z pool)

    inside : (d : Link) → Member d all → IsNumber z d
    inside d i = (one_is z pool d i).1

    count_with : (t : Fate → Bool) → HasCount (λ d. (pool_of d ≡ pool) × ((w : Fate) × HasFate m passes d w × (t w ≡ true))) (length (with_fate t all inside))
    count_with t = (
      with_fate t all inside,
      apart_once (with_fate t all inside) (apart_there t all inside (numbers_apart pool 0 (pool_size z pool))),
      λ d. (
        λ i. ((one_is z pool d (among t all inside d i)).0, passes_test t all inside d i),
        λ h. stands_there t all inside d h.1.0 (is_one z pool d h.0 (acc.numbers d h.1.0 h.1.1)) h.1.1 h.1.2,
      ),
      refl,
    )

    count_linked : HasCount (IsIn m passes pool Linked) (length (with_fate is_linked all inside))
    count_linked = count_again (λ d. (pool_of d ≡ pool) × ((w : Fate) × HasFate m passes d w × (is_linked w ≡ true))) (IsIn m passes pool Linked) (length (with_fate is_linked all inside))
        (λ d. (λ h. (h.0, subst (HasFate m passes d) (linked_only h.1.0 h.1.2) h.1.1), λ h. (h.0, (Linked, h.1, refl)))) (count_with is_linked)

    count_free : HasCount (IsIn m passes pool Free) (length (with_fate is_free_fate all inside))
    count_free = count_again (λ d. (pool_of d ≡ pool) × ((w : Fate) × HasFate m passes d w × (is_free_fate w ≡ true))) (IsIn m passes pool Free) (length (with_fate is_free_fate all inside))
        (λ d. (λ h. (h.0, subst (HasFate m passes d) (free_only h.1.0 h.1.2) h.1.1), λ h. (h.0, (Free, h.1, refl)))) (count_with is_free_fate)

    count_waiting : HasCount (Waits m passes pool) (length (with_fate waits all inside))
    count_waiting = count_again (λ d. (pool_of d ≡ pool) × ((w : Fate) × HasFate m passes d w × (waits w ≡ true))) (Waits m passes pool) (length (with_fate waits all inside))
        (λ d. (λ h. let p = waits_only h.1.0 h.1.2 in (p.0, (h.0, subst (HasFate m passes d) p.1 h.1.1)), λ h. (h.1.0, (InLimbo h.0, h.1.1, refl)))) (count_with waits)

    module _ (waiting : ℕ) (known : HasCount (Waits m passes pool) waiting) where
      sum_is : length (with_fate is_linked all inside) + count_by (is_free m) all + waiting ≡ pool_size z pool
      sum_is =
          let sums = three all inside in
          let free = free_by_bits all inside in
          let same = one_count (Waits m passes pool) (length (with_fate waits all inside)) waiting count_waiting known in
          let long = length_numbers pool 0 (pool_size z pool) in
          omega (arith, sums, free, same, long)

      -- what is free and what waits are no more than there are
      pub fits : count_by (is_free m) all + waiting ≤ pool_size z pool
      fits = let sum = sum_is in omega (arith, sum)

      pub counted : (r : PoolCount) → r.linked ≡ pool_size z pool - r.free - r.in_limbo → r.free ≡ count_by (is_free m) all → r.in_limbo ≡ waiting → IsCounted z m passes pool r
      counted r linked free in_limbo =
          let sum = sum_is in
          let rest : length (with_fate is_linked all inside) ≡ r.linked = omega (arith, sum, linked, free, in_limbo) in
          record {
            linked = subst (HasCount (IsIn m passes pool Linked)) rest count_linked;
            free = subst (HasCount (IsIn m passes pool Free)) (free_by_bits all inside ∙ sym free) count_free;
            in_limbo = subst (HasCount (Waits m passes pool)) (sym in_limbo) known;
            whole = omega (arith, sum, linked, free, in_limbo);
          }
