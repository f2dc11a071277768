-- Numbers as bytes, the highest first: in any number of bytes they stand as the numbers do, and are read back.
use Rattle.std.proofs.Common.{◌≡◌, ℕ, zero, suc, ◌+◌, ◌*◌, ◌/◌, ◌%◌, ◌^◌, ◌<◌, ◌≤◌, Bool, true, false, cond, ltb, List, [], ◌∷◌, ◌++◌, length, get_or, take, drop, Some, None, refl, sym, ap, ap₂, subst, ◌∙◌, arith, nat_cmp, Ordering, pow-suc, mul_comm, mod-lt, mod-eq_of_lt, mul-le-mul_right, mul_assoc, le-ltb, ltb-false, take_at, drop_at, take-append-drop, length-append, length-take}
use Rattle.std.proofs.Math.Nat.{pow-le-pow_right}
use Rattle.std.proofs.Math.Arith.{mod-mul}
use Rattle.std.specs.Int.{byte_at, bytes_high_first}
use Rattle.std.specs.Ordering.{ordering_then}
use Rattle.std.specs.Cmp.Lexicographic.{slice_cmp}
use Rattle.art_key.specs.Kinds.{AreBytes, number_of, front_number}
use Rattle.art_key.specs.Orders.{ordering_then_assoc, nat_cmp_digits, same_digits}

-- ---- bytes

pub each_is_byte : (bytes : List ℕ) → AreBytes bytes → (i : ℕ) → get_or bytes i 0 < 256
each_is_byte [] h i = omega arith
each_is_byte (b ∷ bytes) h zero = h.0
each_is_byte (b ∷ bytes) h (suc i) = each_is_byte bytes h.1 i

pub AreBytes-from_each : (bytes : List ℕ) → ((i : ℕ) → get_or bytes i 0 < 256) → AreBytes bytes
AreBytes-from_each [] h = tt
AreBytes-from_each (b ∷ bytes) h = (h 0, AreBytes-from_each bytes (λ i. h (suc i)))

pub AreBytes-append : (x y : List ℕ) → AreBytes x → AreBytes y → AreBytes (x ++ y)
AreBytes-append [] y f g = g
AreBytes-append (b ∷ x) y f g = (f.0, AreBytes-append x y f.1 g)

pub AreBytes_right : (x y : List ℕ) → AreBytes (x ++ y) → AreBytes y
AreBytes_right [] y h = h
AreBytes_right (b ∷ x) y h = AreBytes_right x y h.1

pub AreBytes_left : (x y : List ℕ) → AreBytes (x ++ y) → AreBytes x
AreBytes_left [] y h = tt
AreBytes_left (b ∷ x) y h = (h.0, AreBytes_left x y h.1)

byte_at-lt : (k n : ℕ) → byte_at k n < 256
byte_at-lt zero n = mod-lt n (omega arith)
byte_at-lt (suc k) n = mod-lt (n / 256 ^ suc k) (omega arith)

pub high_first_bytes : (k n : ℕ) → AreBytes (bytes_high_first k n)
high_first_bytes zero n = tt
high_first_bytes (suc k) n = (byte_at-lt k n, high_first_bytes k n)

pub length-bytes_high_first : (k n : ℕ) → length (bytes_high_first k n) ≡ k
length-bytes_high_first zero n = refl
length-bytes_high_first (suc k) n = ap suc (length-bytes_high_first k n)

-- ---- the order

pub some_unit : (k : ℕ) → 0 < 256 ^ k
some_unit k = pow-le-pow_right {n = 256} (omega arith) {i = 0} {j = k} (omega arith)

-- the low bytes of a number are the highest of them, and the others
byte_split : (k n : ℕ) → n % 256 ^ suc k ≡ byte_at k n * 256 ^ k + n % 256 ^ k
byte_split zero n = omega arith
byte_split (suc k) n =
    let unit = 256 ^ suc k in
    let wider : 256 ^ suc (suc k) ≡ 256 * unit = pow-suc 256 (suc k) ∙ mul_comm unit 256 in
    rw (wider) (mod-mul n {m = 256} {c = unit} (omega arith) (some_unit (suc k)))

-- of numbers in as many bytes the first byte that differs decides, as the numbers do
pub high_first_order : (k m n : ℕ) (x y : List ℕ)
    → slice_cmp nat_cmp (bytes_high_first k m ++ x) (bytes_high_first k n ++ y) ≡ ordering_then (nat_cmp (m % 256 ^ k) (n % 256 ^ k)) (slice_cmp nat_cmp x y)
high_first_order zero m n x y =
    let a : m % 1 ≡ 0 = omega arith in
    let b : n % 1 ≡ 0 = omega arith in
    rw (a, b) refl
high_first_order (suc k) m n x y =
    let r = m % 256 ^ k in
    let s = n % 256 ^ k in
    let others : Ordering = slice_cmp nat_cmp x y in
    ap (ordering_then (nat_cmp (byte_at k m) (byte_at k n))) (high_first_order k m n x y)
    ∙ ordering_then_assoc (nat_cmp (byte_at k m) (byte_at k n)) (nat_cmp r s) others
    ∙ ap (λ o. ordering_then o others) (sym (nat_cmp_digits (256 ^ k) (byte_at k m) (byte_at k n) r s (mod-lt m (some_unit k)) (mod-lt n (some_unit k))))
    ∙ rw (byte_split k m, byte_split k n) refl

pub number_order : (k m n : ℕ) (x y : List ℕ) → m < 256 ^ k → n < 256 ^ k
    → slice_cmp nat_cmp (bytes_high_first k m ++ x) (bytes_high_first k n ++ y) ≡ ordering_then (nat_cmp m n) (slice_cmp nat_cmp x y)
number_order k m n x y m-lt n-lt =
    high_first_order k m n x y ∙ rw (mod-eq_of_lt m-lt, mod-eq_of_lt n-lt) refl

-- ---- reading

number_of-high_first : (k n : ℕ) → number_of (bytes_high_first k n) ≡ n % 256 ^ k
number_of-high_first zero n = omega arith
number_of-high_first (suc k) n = rw (length-bytes_high_first k n, number_of-high_first k n, byte_split k n) refl

pub number_below : (bytes : List ℕ) → AreBytes bytes → number_of bytes < 256 ^ length bytes
number_below [] are = omega arith
number_below (b ∷ bytes) are =
    let unit = 256 ^ length bytes in
    let wider : 256 ^ suc (length bytes) ≡ 256 * unit = pow-suc 256 (length bytes) ∙ mul_comm unit 256 in
    let rest : number_of bytes < unit = number_below bytes are.1 in
    rw (wider) (digit_below unit b (number_of bytes) are.0 rest)
  where
    digit_below : (unit b r : ℕ) → b < 256 → r < unit → b * unit + r < 256 * unit
    digit_below unit b r b-lt r-lt =
        let top : suc b * unit ≤ 256 * unit = mul-le-mul_right unit (omega arith) in
        let one : suc b * unit ≡ b * unit + unit = omega arith in
        omega arith

-- as many bytes that are the same number are the same bytes
same_bytes : (x y : List ℕ) → AreBytes x → AreBytes y → length x ≡ length y → number_of x ≡ number_of y → x ≡ y
same_bytes [] [] x-are y-are len e = refl
same_bytes [] (c ∷ y) x-are y-are len e = absurd (omega arith)
same_bytes (b ∷ x) [] x-are y-are len e = absurd (omega arith)
same_bytes (b ∷ x) (c ∷ y) x-are y-are len e =
    let lens : length x ≡ length y = omega arith in
    let unit = 256 ^ length y in
    let aligned : b * unit + number_of x ≡ c * unit + number_of y = subst (λ (l : ℕ). b * 256 ^ l + number_of x ≡ c * unit + number_of y) lens e in
    let x-below : number_of x < unit = subst (λ (l : ℕ). number_of x < 256 ^ l) lens (number_below x x-are.1) in
    let digits = same_digits unit b c (number_of x) (number_of y) x-below (number_below y y-are.1) aligned in
    ap₂ (λ (d : ℕ) (ds : List ℕ). d ∷ ds) digits.0 (same_bytes x y x-are.1 y-are.1 lens digits.1)

pub high_first-number_of : (bytes : List ℕ) → AreBytes bytes → bytes_high_first (length bytes) (number_of bytes) ≡ bytes
high_first-number_of bytes are =
    let k = length bytes in
    let n = number_of bytes in
    same_bytes (bytes_high_first k n) bytes (high_first_bytes k n) are (length-bytes_high_first k n) (number_of-high_first k n ∙ mod-eq_of_lt (number_below bytes are))

pub number_again : (k n : ℕ) (rest : List ℕ) → n < 256 ^ k → front_number k (bytes_high_first k n ++ rest) ≡ Some (n, rest)
number_again k n rest lt =
    let len = length-bytes_high_first k n in
    let long : ltb (length (bytes_high_first k n ++ rest)) k ≡ false = le-ltb _ _ (omega (arith, length-append (bytes_high_first k n) rest)) in
    rw (long, take_at (bytes_high_first k n) rest k len, drop_at (bytes_high_first k n) rest k len, number_of-high_first k n, mod-eq_of_lt lt) refl

-- a test that did not fail
guard_ok : {A : Type 0} (b : Bool) (x y : A) → cond b None (Some x) ≡ Some y → (b ≡ false) × (x ≡ y)
guard_ok true x y e = absurd cc
guard_ok false x y e = (refl, cc)

pub number_takes : (k n : ℕ) (bytes rest : List ℕ) → AreBytes bytes → front_number k bytes ≡ Some (n, rest) → (bytes ≡ bytes_high_first k n ++ rest) × (n < 256 ^ k)
number_takes k n bytes rest are e =
    let front = take k bytes in
    let g = guard_ok (ltb (length bytes) k) (number_of front, drop k bytes) (n, rest) e in
    let long : k ≤ length bytes = ltb-false _ _ g.0 in
    let len : length front ≡ k = omega (arith, length-take k bytes) in
    let front-are : AreBytes front = AreBytes_left front (drop k bytes) (subst AreBytes (sym (take-append-drop k bytes)) are) in
    let back : bytes_high_first k (number_of front) ≡ front = subst (λ (l : ℕ). bytes_high_first l (number_of front) ≡ front) len (high_first-number_of front front-are) in
    let below : number_of front < 256 ^ k = subst (λ (l : ℕ). number_of front < 256 ^ l) len (number_below front front-are) in
    let parts : bytes ≡ bytes_high_first k (number_of front) ++ drop k bytes = rw back (sym (take-append-drop k bytes)) in
    subst (λ (p : ℕ × List ℕ). (bytes ≡ bytes_high_first k p.0 ++ p.1) × (p.0 < 256 ^ k)) g.1 (parts, below)

-- ---- reading byte by byte, and the last bytes of a number

pub number_of-one_more : (bytes : List ℕ) (b : ℕ) → number_of (bytes ++ b ∷ []) ≡ number_of bytes * 256 + b
number_of-one_more [] b = omega arith
number_of-one_more (c ∷ bytes) b =
    let unit = 256 ^ length bytes in
    let len : length (bytes ++ b ∷ []) ≡ suc (length bytes) = omega (arith, length-append bytes (b ∷ [])) in
    let wider : 256 ^ suc (length bytes) ≡ unit * 256 = pow-suc 256 (length bytes) in
    rw (len, wider, number_of-one_more bytes b) (carried c unit (number_of bytes) b)
  where
    carried : (c unit n b : ℕ) → c * (unit * 256) + (n * 256 + b) ≡ (c * unit + n) * 256 + b
    carried c unit n b =
        let same : c * (unit * 256) ≡ c * unit * 256 = sym (mul_assoc c unit 256) in
        omega arith

pub drop-high_first : (j k n : ℕ) → drop j (bytes_high_first (j + k) n) ≡ bytes_high_first k n
drop-high_first zero k n = ap (λ (m : ℕ). bytes_high_first m n) (omega arith)
drop-high_first (suc j) k n = rw (suc_add j k) (drop-high_first j k n)
  where
    suc_add : (j k : ℕ) → suc j + k ≡ suc (j + k)
    suc_add j k = omega arith
