-- What the text of a whole number says.
use Rattle.std.proofs.Common.{◌≡◌, ℕ, ◌^◌, ◌<◌, ◌≤◌, ◌==◌, List, drop, slice_index, true, false, Some, int_lt, pos, FitsSigned, w64, arith, lt-ltb, le-leb}
use Rattle.std.proofs.lemmas.Int.{ints}
use Rattle.fast_float.specs.Text.{Parts, scan, digits_of, with_sign, IsInteger}
use Rattle.serde_json.specs.Data.{unsigned, negative}
use Rattle.serde_json.specs.Read.{is_integer, number_from, number_of}

is_integer-whole : (p : Parts) → IsInteger p → is_integer p ≡ true
is_integer-whole p whole = rw (lt-ltb _ _ whole.0, whole.1, whole.2)

number_from-unsigned : (p : Parts) → IsInteger p → digits_of p < 2 ^ 64 → number_from false p ≡ Some (unsigned (digits_of p))
number_from-unsigned p whole fits = rw (is_integer-whole p whole, lt-ltb _ _ fits)

-- below zero stands at least one
some_below : (n : ℕ) → int_lt (with_sign true n) (pos 0) ≡ true → 0 < n
some_below n below = grind (arith, ints)

fits_below : (n : ℕ) → FitsSigned w64 (with_sign true n) → n ≤ 2 ^ 63
fits_below n fits = omega (arith, ints)

number_from-negative : (p : Parts) → IsInteger p → FitsSigned w64 (with_sign true (digits_of p)) → int_lt (with_sign true (digits_of p)) (pos 0) ≡ true
    → number_from true p ≡ Some (negative (with_sign true (digits_of p)))
number_from-negative p whole fits below = rw (is_integer-whole p whole, lt-ltb _ _ (some_below _ below), le-leb _ _ (fits_below _ fits))

pub number_of-unsigned : (s : List ℕ) → (slice_index s 0 == 45) ≡ false → IsInteger (scan s) → digits_of (scan s) < 2 ^ 64 → number_of s ≡ Some (unsigned (digits_of (scan s)))
unfolding number_of
number_of-unsigned s plain whole fits = rw plain (number_from-unsigned (scan s) whole fits)

pub number_of-negative : (s : List ℕ) → (slice_index s 0 == 45) ≡ true → IsInteger (scan (drop 1 s)) → FitsSigned w64 (with_sign true (digits_of (scan (drop 1 s))))
    → int_lt (with_sign true (digits_of (scan (drop 1 s)))) (pos 0) ≡ true → number_of s ≡ Some (negative (with_sign true (digits_of (scan (drop 1 s)))))
unfolding number_of
number_of-negative s signed whole fits below = rw signed (number_from-negative (scan (drop 1 s)) whole fits below)
