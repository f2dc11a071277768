-- Whole numbers and how far above the least one of their column they are.
use Rattle.std.proofs.Common.{◌≡◌, ℕ, ◌+◌, ◌-◌, ◌^◌, ◌<◌, ◌≤◌, false, List, length, get_or, take, drop, ℤ, pos, negsuc, neg_ℤ, ◌+ℤ◌, ◌-ℤ◌, ◌≤ℤ◌, Option, Some, None, refl, sym, ap, ap₂, subst, subst₂, ◌∙◌, arith, lt-ltb, le-ltb, take-append-drop, length-take}
use Rattle.std.proofs.lemmas.List.{take_all}
use Rattle.std.proofs.lemmas.Int.{ints, to_z-of_z, to_z_pos}
use Rattle.std.specs.Int.{bytes_high_first}
use mir.Val.{Fits, SFits, to_z, of_z}
use mir.Syntax.{w64, w128}
use Rattle.std.proofs.Math.Nat.{pow-le-pow_right}
use lib.Signed.{lt_z, non_neg}
use lib.Dec.{T}
use lib.IntN.{nat_abs}
use Rattle.art_model.specs.declared.values.Value.{Value}
use Rattle.art_model.specs.declared.values.Value.TheVariants.{Int}
use Rattle.art_key.specs.Kinds.{AreBytes, number_of, whole_fault, whole_spelling, front_whole, distance_fault, distance_spelling}
use Rattle.art_key.specs.Numbers.{some_unit, number_below, AreBytes_left, AreBytes-from_each, length-bytes_high_first, drop-high_first}

natural : (d : ℤ) → pos 0 ≤ℤ d → (n : ℕ) × (d ≡ pos n)
natural (pos n) h = (n, refl)
natural (negsuc n) h = absurd (grind (arith, ints))

-- a number from the least to the greatest of a column is so far above the least
pub above_least : (k : ℕ) (least greatest z : ℤ) → lt_z z least ≡ false → lt_z greatest z ≡ false → greatest ≡ least +ℤ pos (256 ^ k - 1) → (n : ℕ) × (z -ℤ least ≡ pos n) × (n < 256 ^ k)
above_least k least greatest z low high all =
    let unit = 256 ^ k in
    let some : 0 < unit = some_unit k in
    let above : pos 0 ≤ℤ (z -ℤ least) = grind (arith, ints) in
    let n = natural (z -ℤ least) above in
    let same : z -ℤ least ≡ pos n.0 = n.1 in
    (n.0, same, by_unit unit n.0 some same all)
  where
    by_unit : (unit n : ℕ) → 0 < unit → z -ℤ least ≡ pos n → greatest ≡ least +ℤ pos (unit - 1) → n < unit
    by_unit unit n some same all = grind (arith, ints)

-- the first bytes, not more than n, are a number below 256 ^ n
pub few_bytes : (bytes : List ℕ) (i n : ℕ) → ((j : ℕ) → get_or bytes j 0 < 256) → i ≤ n → number_of (take i bytes) < 256 ^ n
few_bytes bytes i n fits le =
    let are : AreBytes (take i bytes) = AreBytes_left (take i bytes) (drop i bytes) (subst AreBytes (sym (take-append-drop i bytes)) (AreBytes-from_each bytes fits)) in
    let wide : 256 ^ length (take i bytes) ≤ 256 ^ n = pow-le-pow_right {n = 256} (omega arith) {i = length (take i bytes)} {j = n} (omega (arith, length-take i bytes)) in
    omega (arith, number_below (take i bytes) are)

-- ---- as the code computes it

-- a number of 128 bits as the code reads it
abbrev pub seen : ℤ → ℤ
seen z = to_z w128 (of_z w128 z)

seen_is : (z : ℤ) → SFits w128 z → seen z ≡ z
seen_is z fits = to_z-of_z w128 z fits

wide_unit : (k n : ℕ) → k ≤ 8 → n < 256 ^ k → n < 2 ^ 64
wide_unit k n le lt =
    let wide : 256 ^ k ≤ 256 ^ 8 = pow-le-pow_right {n = 256} (omega arith) {i = k} {j = 8} le in
    omega arith

-- what a number that passed both tests is above the least one
pub record IsAbove (k : ℕ) (least z : ℤ) : Type 0 where
  pub number : ℕ
  pub is : z -ℤ least ≡ pos number
  pub within : number < 256 ^ k
  pub wide : number < 2 ^ 64
  pub computed : seen z -ℤ seen least ≡ pos number

pub above_seen : (k : ℕ) (least greatest z : ℤ) → SFits w128 z → SFits w128 least → SFits w128 greatest → k ≤ 8 → lt_z (seen z) (seen least) ≡ false → lt_z (seen greatest) (seen z) ≡ false
    → greatest ≡ least +ℤ pos (256 ^ k - 1) → IsAbove k least z
above_seen k least greatest z z-fits least-fits greatest-fits few low high all =
    let zs = seen_is z z-fits in
    let ls = seen_is least least-fits in
    let gs = seen_is greatest greatest-fits in
    let low' : lt_z z least ≡ false = subst₂ (λ (a b : ℤ). lt_z a b ≡ false) zs ls low in
    let high' : lt_z greatest z ≡ false = subst₂ (λ (a b : ℤ). lt_z a b ≡ false) gs zs high in
    let above = above_least k least greatest z low' high' all in
    record {
      number = above.0;
      is = above.1;
      within = above.2;
      wide = wide_unit k above.0 few above.2;
      computed = ap₂ (λ (a b : ℤ). a -ℤ b) zs ls ∙ above.1;
    }

pub sub_fits : (k : ℕ) (least z : ℤ) → IsAbove k least z → SFits w128 (seen z -ℤ seen least)
sub_fits k least z above = subst (SFits w128) (sym above.computed) (record { sfits = omega (arith, above.wide) })

pub seen_above : (k : ℕ) (least z : ℤ) (above : IsAbove k least z) → seen (seen z -ℤ seen least) ≡ pos above.number
seen_above k least z above = ap seen above.computed ∙ to_z_pos w128 above.number (omega (arith, above.wide))

pub cast_fits : {d : ℤ} {n : ℕ} → d ≡ pos n → n < 2 ^ 64 → T (non_neg d) × Fits w64 (nat_abs d)
cast_fits {d} {n} is lt = subst (λ (e : ℤ). T (non_neg e) × Fits w64 (nat_abs e)) (sym is) (tt, record { fits = lt })

-- the key gets the bytes of how far the number is above the least one
pub whole_stands : (k place : ℕ) (least z : ℤ) → IsAbove k least z → whole_fault k least place (Int z) ≡ None
whole_stands k place least z above = ap (distance_fault k place) above.is ∙ rw (lt-ltb above.number (256 ^ k) above.within) refl

pub last_bytes : (k : ℕ) (least z : ℤ) (above : IsAbove k least z) → k ≤ 8 → take (8 - (8 - k)) (drop (8 - k) (bytes_high_first 8 above.number)) ≡ whole_spelling k least (Int z)
last_bytes k least z above few =
    let all : 8 - k + k ≡ 8 = omega arith in
    let last : drop (8 - k) (bytes_high_first 8 above.number) ≡ bytes_high_first k above.number =
    ap (λ (n : ℕ). drop (8 - k) (bytes_high_first n above.number)) (sym all) ∙ drop-high_first (8 - k) k above.number in
    ap (take (8 - (8 - k))) last
    ∙ take_all (8 - (8 - k)) (bytes_high_first k above.number) (omega (arith, length-bytes_high_first k above.number))
    ∙ sym (ap (distance_spelling k) above.is)

-- ---- reading

small_fits : (z : ℤ) → neg_ℤ (pos (2 ^ 63)) ≤ℤ z → z ≤ℤ pos (2 ^ 64) → SFits w128 z
small_fits (pos n) low high = record { sfits = omega (arith, ints) }
small_fits (negsuc n) low high = record { sfits = omega (arith, ints) }

sum_is : (least : ℤ) (n : ℕ) → neg_ℤ (pos (2 ^ 63)) ≤ℤ least → least ≤ℤ pos 0 → n < 2 ^ 64 → seen least +ℤ seen (pos n) ≡ least +ℤ pos n
sum_is least n low high lt =
    let ls = seen_is least (small_fits least low (omega (arith, ints))) in
    let ns = seen_is (pos n) (record { sfits = omega arith }) in
    ap₂ (λ (a b : ℤ). a +ℤ b) ls ns

pub sum_fits : (least : ℤ) (n : ℕ) → neg_ℤ (pos (2 ^ 63)) ≤ℤ least → least ≤ℤ pos 0 → n < 2 ^ 64 → SFits w128 (seen least +ℤ seen (pos n))
sum_fits least n low high lt = subst (SFits w128) (sym (sum_is least n low high lt)) (small_fits (least +ℤ pos n) (omega (arith, ints)) (omega (arith, ints)))

pub seen_sum : (least : ℤ) (n : ℕ) → neg_ℤ (pos (2 ^ 63)) ≤ℤ least → least ≤ℤ pos 0 → n < 2 ^ 64 → seen (seen least +ℤ seen (pos n)) ≡ least +ℤ pos n
seen_sum least n low high lt =
    ap seen (sum_is least n low high lt) ∙ seen_is (least +ℤ pos n) (small_fits (least +ℤ pos n) (omega (arith, ints)) (omega (arith, ints)))

pub front_whole_is : (k : ℕ) (least : ℤ) (bytes front rest : List ℕ) (n : ℕ) → k ≤ length bytes → front ≡ take k bytes → rest ≡ drop k bytes → n ≡ number_of front
    → ◌≡◌ {A = Option (Value × List ℕ)} (Some (Int (least +ℤ pos n), rest)) (front_whole k least bytes)
front_whole_is k least bytes front rest n long front-is rest-is n-is =
    rw (le-ltb (length bytes) k long, n-is, front-is, rest-is) refl
