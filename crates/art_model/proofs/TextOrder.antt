-- Texts stand by their bytes of UTF-8 as they stand by their code points.
use Rattle.std.proofs.Common.{◌≡◌, ℕ, ◌+◌, ◌*◌, ◌/◌, ◌%◌, ◌<◌, ◌≤◌, Bool, true, false, cond, ltb, List, [], ◌∷◌, ◌++◌, IsUtf8, chars, encode_utf8_all, inl, inr, refl, sym, ap, ap₂, ◌∙◌, arith, lt-ltb, le-ltb}
use Rattle.std.proofs.lemmas.Bool.{cond-true, cond-false, cases_lt}
use Rattle.std.proofs.lemmas.Bool.Decides.{nat_tests}
use Rattle.std.proofs.lemmas.Str.{encode_ascii, encodes-chars}
use Rattle.std.specs.declared.cmp.Ordering.{Ordering}
use Rattle.std.specs.declared.cmp.Ordering.TheVariants.{Less, Equal, Greater}
use Rattle.std.specs.Char.{encode_utf8}
use Rattle.std.specs.Cmp.{nat_cmp_is, ranks}
use Rattle.std.specs.Cmp.Lexicographic.{slice_cmp}
use Rattle.std.specs.Ordering.{MatchOrdering, nat_cmp, ordering_then}

-- ---- numbers by their digits to the base 64

then-then : (o p r : Ordering) → ordering_then o (ordering_then p r) ≡ ordering_then (ordering_then o p) r
then-then Less p r = refl
then-then Equal p r = refl
then-then Greater p r = refl

-- where two pairs differ the same way, what comes after them does not count
both_less : (a b c d : ℕ) (o r : Ordering) → a < b → c < d → ordering_then (nat_cmp a b) o ≡ ordering_then (nat_cmp c d) r
both_less a b c d o r p q = ap (λ l. ordering_then l o) (sym (nat_cmp_is a b Less p)) ∙ ap (λ l. ordering_then l r) (nat_cmp_is c d Less q)

both_greater : (a b c d : ℕ) (o r : Ordering) → b < a → d < c → ordering_then (nat_cmp a b) o ≡ ordering_then (nat_cmp c d) r
both_greater a b c d o r p q = ap (λ l. ordering_then l o) (sym (nat_cmp_is a b Greater p)) ∙ ap (λ l. ordering_then l r) (nat_cmp_is c d Greater q)

-- one number added to both changes nothing
cmp-add : (k a b : ℕ) → nat_cmp (k + a) (k + b) ≡ nat_cmp a b
cmp-add k a b = grind (arith, nat_tests)

cmp_digits : (a b : ℕ) (o : Ordering) → MatchOrdering o (a / 64 < b / 64) (a / 64 ≡ b / 64) (b / 64 < a / 64) → ordering_then o (nat_cmp (a % 64) (b % 64)) ≡ nat_cmp a b
cmp_digits a b Less h = nat_cmp_is a b Less (omega arith)
cmp_digits a b Equal h =
    let low : a ≡ 64 * (a / 64) + a % 64 = omega arith in
    let high : b ≡ 64 * (a / 64) + b % 64 = omega arith in
    sym (ap₂ nat_cmp low high ∙ cmp-add (64 * (a / 64)) (a % 64) (b % 64))
cmp_digits a b Greater h = nat_cmp_is a b Greater (omega arith)

-- after the higher digits comes the last one, with 128 added in a byte
last_digit : (a b : ℕ) (o : Ordering) → ordering_then (nat_cmp (a / 64) (b / 64)) (ordering_then (nat_cmp (128 + a % 64) (128 + b % 64)) o) ≡ ordering_then (nat_cmp a b) o
last_digit a b o =
    then-then (nat_cmp (a / 64) (b / 64)) (nat_cmp (128 + a % 64) (128 + b % 64)) o
    ∙ ap (λ p. ordering_then (ordering_then (nat_cmp (a / 64) (b / 64)) p) o) (cmp-add 128 (a % 64) (b % 64))
    ∙ ap (λ p. ordering_then p o) (cmp_digits a b (nat_cmp (a / 64) (b / 64)) (ranks (a / 64) (b / 64)))

-- ---- the bytes of a character

encode_two : (c : ℕ) → 128 ≤ c → c < 2048 → encode_utf8 c ≡ (192 + c / 64) ∷ (128 + c % 64) ∷ []
unfolding encode_utf8
encode_two c low high = cond-false _ _ _ (le-ltb c 128 low) ∙ cond-true _ _ _ (lt-ltb c 2048 high)

encode_three : (c : ℕ) → 2048 ≤ c → c < 65536 → encode_utf8 c ≡ (224 + c / 4096) ∷ (128 + c / 64 % 64) ∷ (128 + c % 64) ∷ []
unfolding encode_utf8
encode_three c low high = cond-false _ _ _ (le-ltb c 128 (omega arith)) ∙ cond-false _ _ _ (le-ltb c 2048 low) ∙ cond-true _ _ _ (lt-ltb c 65536 high)

encode_four : (c : ℕ) → 65536 ≤ c → encode_utf8 c ≡ (240 + c / 262144) ∷ (128 + c / 4096 % 64) ∷ (128 + c / 64 % 64) ∷ (128 + c % 64) ∷ []
unfolding encode_utf8
encode_four c low = cond-false _ _ _ (le-ltb c 128 (omega arith)) ∙ cond-false _ _ _ (le-ltb c 2048 (omega arith)) ∙ cond-false _ _ _ (le-ltb c 65536 low)

-- the first byte of a character, and those after it
abbrev first_byte : ℕ → ℕ
first_byte c = cond (ltb c 128) c (cond (ltb c 2048) (192 + c / 64) (cond (ltb c 65536) (224 + c / 4096) (240 + c / 262144)))

abbrev later_bytes : ℕ → List ℕ
later_bytes c = cond (ltb c 128) [] (cond (ltb c 2048) ((128 + c % 64) ∷ []) (cond (ltb c 65536) ((128 + c / 64 % 64) ∷ (128 + c % 64) ∷ []) ((128 + c / 4096 % 64) ∷ (128 + c / 64 % 64) ∷ (128 + c % 64) ∷ [])))

cons-cond : (p q r : Bool) (a b c d : ℕ) (k l m n : List ℕ) → cond p (a ∷ k) (cond q (b ∷ l) (cond r (c ∷ m) (d ∷ n))) ≡ cond p a (cond q b (cond r c d)) ∷ cond p k (cond q l (cond r m n))
cons-cond true q r a b c d k l m n = refl
cons-cond false true r a b c d k l m n = refl
cons-cond false false true a b c d k l m n = refl
cons-cond false false false a b c d k l m n = refl

encode-cons : (c : ℕ) → encode_utf8 c ≡ first_byte c ∷ later_bytes c
unfolding encode_utf8
encode-cons c = cons-cond (ltb c 128) (ltb c 2048) (ltb c 65536) _ _ _ _ _ _ _ _

-- a character of more bytes begins with a greater one
first_byte-128 : (c d : ℕ) → c < 128 → 128 ≤ d → first_byte c < first_byte d
first_byte-128 c d below above = grind (arith, nat_tests)

first_byte-2048 : (c d : ℕ) → c < 2048 → 2048 ≤ d → first_byte c < first_byte d
first_byte-2048 c d below above = grind (arith, nat_tests)

first_byte-65536 : (c d : ℕ) → c < 65536 → 65536 ≤ d → first_byte c < first_byte d
first_byte-65536 c d below above = grind (arith, nat_tests)

-- ---- two characters, each with bytes after it

module _ (c d : ℕ) (x y : List ℕ) where
  abbrev rest : Ordering
  rest = slice_cmp nat_cmp x y

  -- the two texts stand by their first characters, and then by what follows these
  abbrev StandByChars : Type 0
  StandByChars = slice_cmp nat_cmp (encode_utf8 c ++ x) (encode_utf8 d ++ y) ≡ ordering_then (nat_cmp c d) rest

  -- the same, of the bytes that the characters are spelled with
  spelled : (bs ds : List ℕ) → encode_utf8 c ≡ bs → encode_utf8 d ≡ ds → slice_cmp nat_cmp (bs ++ x) (ds ++ y) ≡ ordering_then (nat_cmp c d) rest → StandByChars
  spelled bs ds e f h = ap₂ (λ k l. slice_cmp nat_cmp (k ++ x) (l ++ y)) e f ∙ h

  below : c < d → first_byte c < first_byte d → StandByChars
  below less first = spelled _ _ (encode-cons c) (encode-cons d) (both_less (first_byte c) (first_byte d) c d _ rest first less)

  above : d < c → first_byte d < first_byte c → StandByChars
  above more first = spelled _ _ (encode-cons c) (encode-cons d) (both_greater (first_byte c) (first_byte d) c d _ rest first more)

  both_one : c < 128 → d < 128 → StandByChars
  both_one p q = spelled _ _ (encode_ascii c p) (encode_ascii d q) refl

  both_two : 128 ≤ c → 128 ≤ d → c < 2048 → d < 2048 → StandByChars
  both_two p q r s = spelled _ _ (encode_two c p r) (encode_two d q s) (
      ap (λ o. ordering_then o (ordering_then (nat_cmp (128 + c % 64) (128 + d % 64)) rest)) (cmp-add 192 (c / 64) (d / 64))
      ∙ last_digit c d rest)

  both_three : 2048 ≤ c → 2048 ≤ d → c < 65536 → d < 65536 → StandByChars
  both_three p q r s =
      let last = ordering_then (nat_cmp (128 + c % 64) (128 + d % 64)) rest in
      let digits = ordering_then (nat_cmp (128 + c / 64 % 64) (128 + d / 64 % 64)) last in
      let high : c / 4096 ≡ c / 64 / 64 = omega arith in
      let low : d / 4096 ≡ d / 64 / 64 = omega arith in
      spelled _ _ (encode_three c p r) (encode_three d q s) (
      ap (λ o. ordering_then o digits) (cmp-add 224 (c / 4096) (d / 4096) ∙ ap₂ nat_cmp high low)
      ∙ last_digit (c / 64) (d / 64) last ∙ last_digit c d rest)

  both_four : 65536 ≤ c → 65536 ≤ d → StandByChars
  both_four p q =
      let last = ordering_then (nat_cmp (128 + c % 64) (128 + d % 64)) rest in
      let third = ordering_then (nat_cmp (128 + c / 64 % 64) (128 + d / 64 % 64)) last in
      let digits = ordering_then (nat_cmp (128 + c / 64 / 64 % 64) (128 + d / 64 / 64 % 64)) third in
      let mid_c : c / 4096 ≡ c / 64 / 64 = omega arith in
      let mid_d : d / 4096 ≡ d / 64 / 64 = omega arith in
      let high : c / 262144 ≡ c / 64 / 64 / 64 = omega arith in
      let low : d / 262144 ≡ d / 64 / 64 / 64 = omega arith in
      spelled _ _ (encode_four c p) (encode_four d q) (
      ap₂ (λ m n. ordering_then (nat_cmp (240 + c / 262144) (240 + d / 262144)) (ordering_then (nat_cmp (128 + m % 64) (128 + n % 64)) third)) mid_c mid_d
      ∙ ap (λ o. ordering_then o digits) (cmp-add 240 (c / 262144) (d / 262144) ∙ ap₂ nat_cmp high low)
      ∙ last_digit (c / 64 / 64) (d / 64 / 64) third ∙ last_digit (c / 64) (d / 64) last ∙ last_digit c d rest)

  -- a number that parts the two decides, and otherwise both are on one side of it
  at_limit : (n : ℕ) → (c < n → n ≤ d → first_byte c < first_byte d) → (d < n → n ≤ c → first_byte d < first_byte c)
      → (c < n → d < n → StandByChars) → (n ≤ c → n ≤ d → StandByChars) → StandByChars
  at_limit n rises falls low high = elim (cases_lt c n) [
    | inl p ↦ elim (cases_lt d n) [
      | inl q ↦ low p q
      | inr q ↦ below (omega arith) (rises p q)
    ]
    | inr p ↦ elim (cases_lt d n) [
      | inl q ↦ above (omega arith) (falls q p)
      | inr q ↦ high p q
    ]
  ]

  pub char_order : StandByChars
  char_order =
      at_limit 128 (first_byte-128 c d) (first_byte-128 d c) both_one (λ p q.
      at_limit 2048 (first_byte-2048 c d) (first_byte-2048 d c) (both_two p q) (λ r s.
      at_limit 65536 (first_byte-65536 c d) (first_byte-65536 d c) (both_three r s) both_four))

-- ---- texts

pub encodes_order : (cs ds : List ℕ) → slice_cmp nat_cmp (encode_utf8_all cs) (encode_utf8_all ds) ≡ slice_cmp nat_cmp cs ds
encodes_order [] [] = refl
encodes_order [] (d ∷ ds) = ap (λ l. slice_cmp nat_cmp [] (l ++ encode_utf8_all ds)) (encode-cons d)
encodes_order (c ∷ cs) [] = ap (λ l. slice_cmp nat_cmp (l ++ encode_utf8_all cs) []) (encode-cons c)
encodes_order (c ∷ cs) (d ∷ ds) = char_order c d (encode_utf8_all cs) (encode_utf8_all ds) ∙ ap (λ o. ordering_then (nat_cmp c d) o) (encodes_order cs ds)

pub text_order : (s t : List ℕ) → IsUtf8 s → IsUtf8 t → slice_cmp nat_cmp s t ≡ slice_cmp nat_cmp (chars s) (chars t)
text_order s t u v = sym (ap₂ (slice_cmp nat_cmp) (encodes-chars s u) (encodes-chars t v)) ∙ encodes_order (chars s) (chars t)
