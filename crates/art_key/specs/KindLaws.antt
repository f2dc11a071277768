-- Each kind of column keeps the laws of one.
use Rattle.std.proofs.Common.{◌≡◌, ℕ, ◌^◌, ◌<◌, ◌≤◌, Bool, true, false, cond, ltb, eqb, List, [], ◌∷◌, ◌++◌, length, Option, Some, None, ℤ, pos, negsuc, ◌+ℤ◌, ◌-ℤ◌, refl, sym, ap, subst, subst₂, ◌∙◌, inl, inr, arith, nat_cmp, int_cmp, Ordering, Less, Equal, Greater, eqb-true, ltb-true, lt-ltb, zero-le}
use Rattle.std.proofs.lemmas.Bool.{cases_order}
use Rattle.std.proofs.lemmas.Int.{ints}
use Rattle.std.proofs.lemmas.Option.{some_pair_parts}
use Rattle.std.specs.Int.{bytes_high_first}
use Rattle.std.specs.Ordering.{ordering_then}
use Rattle.std.specs.Option.{option_map}
use Rattle.std.specs.Cmp.{int_cmp_is}
use Rattle.std.specs.Cmp.Lexicographic.{slice_cmp}
use Rattle.art_model.specs.declared.values.Value.{Value}
use Rattle.art_model.specs.declared.values.Value.TheVariants as values
use Rattle.art_model.specs.Values.{value_cmp}
use Rattle.art_key.specs.declared.faults.ValueFault.{ValueFault}
use Rattle.art_key.specs.declared.faults.ValueFault.TheVariants.{OutOfRange}
use Rattle.art_key.specs.Kinds.{AreBytes, IsCoding, truth, truth_fault, truth_spelling, front_truth, distance_fault, distance_spelling, whole_fault, whole_spelling, front_number, front_whole, whole}
use Rattle.art_key.specs.Orders.{nat_cmp_less, nat_cmp_equal, nat_cmp_greater}
use Rattle.art_key.specs.Numbers.{high_first_bytes, length-bytes_high_first, number_order, number_again, number_takes}

-- ---- false and true

truth_order : (place other : ℕ) (u v : Value) (x y : List ℕ) → truth_fault place u ≡ None → truth_fault other v ≡ None
    → slice_cmp nat_cmp (truth_spelling u ++ x) (truth_spelling v ++ y) ≡ ordering_then (value_cmp u v) (slice_cmp nat_cmp x y)
truth_order place other (values.Bool false) (values.Bool false) x y u-stands v-stands = refl
truth_order place other (values.Bool false) (values.Bool true) x y u-stands v-stands = refl
truth_order place other (values.Bool true) (values.Bool false) x y u-stands v-stands = refl
truth_order place other (values.Bool true) (values.Bool true) x y u-stands v-stands = refl
truth_order place other (values.Bool a) (values.Int z) x y u-stands v-stands = absurd cc
truth_order place other (values.Bool a) (values.Text t) x y u-stands v-stands = absurd cc
truth_order place other (values.Int z) v x y u-stands v-stands = absurd cc
truth_order place other (values.Text t) v x y u-stands v-stands = absurd cc

truth_again : (place : ℕ) (v : Value) (rest : List ℕ) → truth_fault place v ≡ None → front_truth (truth_spelling v ++ rest) ≡ Some (v, rest)
truth_again place (values.Bool false) rest stands = refl
truth_again place (values.Bool true) rest stands = refl
truth_again place (values.Int z) rest stands = absurd cc
truth_again place (values.Text t) rest stands = absurd cc

truth_takes : (place : ℕ) (v : Value) (bytes rest : List ℕ) → AreBytes bytes → front_truth bytes ≡ Some (v, rest) → (truth_fault place v ≡ None) × (bytes ≡ truth_spelling v ++ rest)
truth_takes place v [] rest are e = absurd cc
truth_takes place v (b ∷ bytes) rest are e = by_byte (eqb b 0) (eqb b 1) refl refl e
  where
    read : Bool → Bool → Option (Value × List ℕ)
    read z o = cond z (Some (values.Bool false, bytes)) (cond o (Some (values.Bool true, bytes)) None)

    same : (u : Value) → ◌≡◌ {A = Option (Value × List ℕ)} (Some (u, bytes)) (Some (v, rest)) → (truth_fault place u ≡ None) × (b ∷ bytes ≡ truth_spelling u ++ bytes) → (truth_fault place v ≡ None) × (b ∷ bytes ≡ truth_spelling v ++ rest)
    same u e one =
        let parts = some_pair_parts u v bytes rest e in
        subst₂ (λ (w : Value) (r : List ℕ). (truth_fault place w ≡ None) × (b ∷ bytes ≡ truth_spelling w ++ r)) parts.0 parts.1 one

    by_byte : (z o : Bool) → eqb b 0 ≡ z → eqb b 1 ≡ o → read z o ≡ Some (v, rest) → (truth_fault place v ≡ None) × (b ∷ bytes ≡ truth_spelling v ++ rest)
    by_byte true o is-zero is-one e = same (values.Bool false) e (refl, ap (λ (x : ℕ). x ∷ bytes) (eqb-true b 0 is-zero))
    by_byte false true is-zero is-one e = same (values.Bool true) e (refl, ap (λ (x : ℕ). x ∷ bytes) (eqb-true b 1 is-one))
    by_byte false false is-zero is-one e = absurd cc

truth_bytes : (place : ℕ) (v : Value) → truth_fault place v ≡ None → AreBytes (truth_spelling v)
truth_bytes place (values.Bool false) stands = (omega arith, tt)
truth_bytes place (values.Bool true) stands = (omega arith, tt)
truth_bytes place (values.Int z) stands = tt
truth_bytes place (values.Text t) stands = tt

truth_narrow : (place : ℕ) (v : Value) → truth_fault place v ≡ None → length (truth_spelling v) ≤ 1
truth_narrow place (values.Bool false) stands = omega arith
truth_narrow place (values.Bool true) stands = omega arith
truth_narrow place (values.Int z) stands = zero-le
truth_narrow place (values.Text t) stands = zero-le

pub truth_is_coding : IsCoding false truth
truth_is_coding = record { order = truth_order; again = truth_again; takes = truth_takes; bytes = truth_bytes; narrow = truth_narrow }

-- ---- whole numbers from a least one on

in_range : (b : Bool) (f : ValueFault) → cond b None (Some f) ≡ None → b ≡ true
in_range true f e = refl
in_range false f e = absurd cc

distance_is : (k place : ℕ) (d : ℤ) → distance_fault k place d ≡ None → (n : ℕ) × (d ≡ pos n) × (n < 256 ^ k)
distance_is k place (pos n) e = (n, refl, ltb-true n (256 ^ k) (in_range (ltb n (256 ^ k)) (OutOfRange place) e))
distance_is k place (negsuc n) e = absurd cc

-- a number that stands is the least one and so much more
whole_is : (k : ℕ) (least : ℤ) (place : ℕ) (v : Value) → whole_fault k least place v ≡ None → (n : ℕ) × (v ≡ values.Int (least +ℤ pos n)) × (n < 256 ^ k)
whole_is k least place (values.Bool b) e = absurd cc
whole_is k least place (values.Int z) e =
    let d = distance_is k place (z -ℤ least) e in
    let above : z -ℤ least ≡ pos d.0 = d.1 in
    (d.0, ap values.Int (omega (arith, ints)), d.2)
whole_is k least place (values.Text t) e = absurd cc

distance : (least : ℤ) (n : ℕ) → (least +ℤ pos n) -ℤ least ≡ pos n
distance least n = omega (arith, ints)

spelled : (k : ℕ) (least : ℤ) (n : ℕ) → whole_spelling k least (values.Int (least +ℤ pos n)) ≡ bytes_high_first k n
spelled k least n = ap (distance_spelling k) (distance least n)

-- numbers stand as they stand above a least one
int_cmp-above : (least : ℤ) (m n : ℕ) → int_cmp (least +ℤ pos m) (least +ℤ pos n) ≡ nat_cmp m n
int_cmp-above least m n =
    elim (cases_order m n) [
      | inl e ↦ sym (int_cmp_is (least +ℤ pos m) (least +ℤ pos n) Equal (omega (arith, ints))) ∙ sym (nat_cmp_equal m n e)
      | inr h ↦
          elim h [
            | inl lt ↦ sym (int_cmp_is (least +ℤ pos m) (least +ℤ pos n) Less (omega (arith, ints))) ∙ sym (nat_cmp_less m n lt)
            | inr gt ↦ sym (int_cmp_is (least +ℤ pos m) (least +ℤ pos n) Greater (omega (arith, ints))) ∙ sym (nat_cmp_greater m n gt)
          ]
    ]

whole_order : (k : ℕ) (least : ℤ) (place other : ℕ) (u v : Value) (x y : List ℕ) → whole_fault k least place u ≡ None → whole_fault k least other v ≡ None
    → slice_cmp nat_cmp (whole_spelling k least u ++ x) (whole_spelling k least v ++ y) ≡ ordering_then (value_cmp u v) (slice_cmp nat_cmp x y)
whole_order k least place other u v x y u-stands v-stands =
    let a = whole_is k least place u u-stands in
    let b = whole_is k least other v v-stands in
    let others : Ordering = slice_cmp nat_cmp x y in
    let numbers : slice_cmp nat_cmp (whole_spelling k least (values.Int (least +ℤ pos a.0)) ++ x) (whole_spelling k least (values.Int (least +ℤ pos b.0)) ++ y) ≡ ordering_then (int_cmp (least +ℤ pos a.0) (least +ℤ pos b.0)) others =
    rw (spelled k least a.0, spelled k least b.0, int_cmp-above least a.0 b.0) (number_order k a.0 b.0 x y a.2 b.2) in
    subst₂ (λ (s t : Value). slice_cmp nat_cmp (whole_spelling k least s ++ x) (whole_spelling k least t ++ y) ≡ ordering_then (value_cmp s t) others) (sym a.1) (sym b.1) numbers

whole_again : (k : ℕ) (least : ℤ) (place : ℕ) (v : Value) (rest : List ℕ) → whole_fault k least place v ≡ None → front_whole k least (whole_spelling k least v ++ rest) ≡ Some (v, rest)
whole_again k least place v rest stands =
    let a = whole_is k least place v stands in
    let number : front_whole k least (whole_spelling k least (values.Int (least +ℤ pos a.0)) ++ rest) ≡ Some (values.Int (least +ℤ pos a.0), rest) =
    rw (spelled k least a.0, number_again k a.0 rest a.2) refl in
    subst (λ (s : Value). front_whole k least (whole_spelling k least s ++ rest) ≡ Some (s, rest)) (sym a.1) number

mapped : {A B : Type 0} (f : A → B) (o : Option A) (y : B) → option_map f o ≡ Some y → (x : A) × (o ≡ Some x) × (f x ≡ y)
mapped f None y e = absurd cc
mapped f (Some x) y e = (x, refl, cc)

whole_takes : (k : ℕ) (least : ℤ) (place : ℕ) (v : Value) (bytes rest : List ℕ) → AreBytes bytes → front_whole k least bytes ≡ Some (v, rest)
    → (whole_fault k least place v ≡ None) × (bytes ≡ whole_spelling k least v ++ rest)
whole_takes k least place v bytes rest are e =
    let number = mapped (λ (n : ℕ × List ℕ). (values.Int (least +ℤ pos n.0), n.1)) (front_number k bytes) (v, rest) e in
    let n = number.0.0 in
    let takes = number_takes k n bytes number.0.1 are number.1 in
    let stands : whole_fault k least place (values.Int (least +ℤ pos n)) ≡ None = rw (distance least n, lt-ltb n (256 ^ k) takes.1) refl in
    let front : bytes ≡ whole_spelling k least (values.Int (least +ℤ pos n)) ++ number.0.1 = rw (spelled k least n) takes.0 in
    subst (λ (p : Value × List ℕ). (whole_fault k least place p.0 ≡ None) × (bytes ≡ whole_spelling k least p.0 ++ p.1)) number.2 (stands, front)

distance_bytes : (k : ℕ) (d : ℤ) → AreBytes (distance_spelling k d)
distance_bytes k (pos n) = high_first_bytes k n
distance_bytes k (negsuc n) = tt

whole_bytes : (k : ℕ) (least : ℤ) (place : ℕ) (v : Value) → whole_fault k least place v ≡ None → AreBytes (whole_spelling k least v)
whole_bytes k least place (values.Bool b) stands = tt
whole_bytes k least place (values.Int z) stands = distance_bytes k (z -ℤ least)
whole_bytes k least place (values.Text t) stands = tt

distance_narrow : (k : ℕ) (d : ℤ) → length (distance_spelling k d) ≤ k
distance_narrow k (pos n) = omega (arith, length-bytes_high_first k n)
distance_narrow k (negsuc n) = zero-le

whole_narrow : (k : ℕ) (least : ℤ) (place : ℕ) (v : Value) → whole_fault k least place v ≡ None → length (whole_spelling k least v) ≤ k
whole_narrow k least place (values.Bool b) stands = zero-le
whole_narrow k least place (values.Int z) stands = distance_narrow k (z -ℤ least)
whole_narrow k least place (values.Text t) stands = zero-le

pub whole_is_coding : (k : ℕ) (least : ℤ) → IsCoding false (whole k least)
whole_is_coding k least = record { order = whole_order k least; again = whole_again k least; takes = whole_takes k least; bytes = whole_bytes k least; narrow = whole_narrow k least }
