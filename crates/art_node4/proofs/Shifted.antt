-- The bytes of a word into which a byte is put, or from which one is taken out.
use Rattle.std.proofs.Common.{◌≡◌, ℕ, zero, suc, ◌+◌, ◌-◌, ◌*◌, ◌/◌, ◌%◌, ◌^◌, ◌<◌, ◌≤◌, refl, sym, ap, subst, ◌∙◌, arith}
use Rattle.std.proofs.lemmas.Nat.{mod_below, mod-mul-add, pow-add, pow_below, pow_pos, row_fits, shr-shr, shr_below, shr_high, shr_le, shr_split}
use Rattle.std.proofs.Math.Nat.{mul-add-div_right, mul_assoc}
use Rattle.art_cell.specs.Words.{byte_of}

-- byte i by its bits
byte_bits : (word i : ℕ) → i < 8 → byte_of word i ≡ word / 2 ^ (56 - 8 * i) % 256
byte_bits word zero h = refl
byte_bits word (suc zero) h = refl
byte_bits word (suc (suc zero)) h = refl
byte_bits word (suc (suc (suc zero))) h = refl
byte_bits word (suc (suc (suc (suc zero)))) h = refl
byte_bits word (suc (suc (suc (suc (suc zero))))) h = refl
byte_bits word (suc (suc (suc (suc (suc (suc zero)))))) h = refl
byte_bits word (suc (suc (suc (suc (suc (suc (suc zero))))))) h = refl
byte_bits word (suc (suc (suc (suc (suc (suc (suc (suc i)))))))) h = absurd (omega arith)

-- the byte at these bits, by how many there are
byte_at_bits : (word i n : ℕ) → i < 8 → 56 - 8 * i ≡ n → byte_of word i ≡ word / 2 ^ n % 256
byte_at_bits word i n h is = byte_bits word i h ∙ ap (λ (m : ℕ). word / 2 ^ m % 256) is

-- what stands eight bits above a byte, or higher, is no part of it
low_byte : (high low n e b : ℕ) → n + (8 + e) ≡ b → (high * 2 ^ b + low) / 2 ^ n % 256 ≡ low / 2 ^ n % 256
low_byte high low n e b is =
    let split : high * 2 ^ b ≡ high * 2 ^ e * 256 * 2 ^ n =
    ap (λ (m : ℕ). high * 2 ^ m) (sym is ∙ omega arith)
    ∙ ap (λ (m : ℕ). high * m) (pow-add 2 e (8 + n) ∙ ap (λ (m : ℕ). 2 ^ e * m) (pow-add 2 8 n))
    ∙ sym (mul_assoc high (2 ^ e) (2 ^ 8 * 2 ^ n))
    ∙ sym (mul_assoc (high * 2 ^ e) (2 ^ 8) (2 ^ n)) in
    ap (λ (m : ℕ). (m + low) / 2 ^ n % 256) split
    ∙ ap (λ (m : ℕ). m % 256) (mul-add-div_right {m = 2 ^ n} (pow_pos n) (high * 2 ^ e * 256) low)
    ∙ whole (high * 2 ^ e) (low / 2 ^ n)
  where
    whole : (a c : ℕ) → (a * 256 + c) % 256 ≡ c % 256
    whole a c = omega arith

one_shifted : (b : ℕ) → b < 64 → 1 * 2 ^ b % 2 ^ 64 ≡ 2 ^ b
one_shifted b low = let below = pow_below b 64 low in omega arith

module _ (word at : ℕ) (fits : word < 2 ^ 64) (within : at < 8) (b : ℕ) (is : 56 - 8 * at ≡ b) where
  abbrev kept : ℕ
  kept = word / 2 ^ b / 2 ^ 8

  -- the bytes before the place are fewer than its bits above
  pub kept_below : word / 2 ^ b / 2 ^ 8 < 2 ^ (8 * at)
  kept_below =
      let all : 8 * at + 8 + b ≡ 64 = omega arith in
      let wide : word < 2 ^ (8 * at + 8 + b) = subst (λ (m : ℕ). word < 2 ^ m) (sym all) fits in
      shr_below (word / 2 ^ b) (8 * at) 8 (shr_below word (8 * at + 8) b wide)

  kept_shifted : (e : ℕ) → kept / 2 ^ e ≡ word / 2 ^ (b + (8 + e))
  kept_shifted e =
      ap (λ (m : ℕ). m / 2 ^ e) (shr-shr word b 8) ∙ shr-shr word (b + 8) e ∙ ap (λ (m : ℕ). word / 2 ^ m) (omega arith)

  -- ---- a byte comes

  module _ (byte : ℕ) (small : byte < 256) where
    abbrev put : ℕ
    put = (kept * 2 ^ 8 + byte) * 2 ^ b + word / 2 ^ 8 % 2 ^ b

    moved_low : word / 2 ^ 8 % 2 ^ b < 2 ^ b
    moved_low = mod_below (word / 2 ^ 8) (2 ^ b) (pow_pos b)

    pub put_fits : (word / 2 ^ b / 2 ^ 8 * 2 ^ 8 + byte) * 2 ^ b + word / 2 ^ 8 % 2 ^ b < 2 ^ 64
    put_fits =
        let wide : 2 ^ (8 * at + 8) ≡ 2 ^ (8 * at) * 2 ^ 8 = pow-add 2 (8 * at) 8 in
        let front : kept * 2 ^ 8 + byte < 2 ^ (8 * at + 8) = omega (arith, kept_below, wide) in
        let row = row_fits (kept * 2 ^ 8 + byte) (2 ^ b) (2 ^ (8 * at + 8)) (2 ^ b) front (omega arith) in
        let sum : 8 * at + 8 + b ≡ 64 = omega arith in
        let all : 2 ^ (8 * at + 8) * 2 ^ b ≡ 2 ^ 64 = sym (pow-add 2 (8 * at + 8) b) ∙ ap (λ (m : ℕ). 2 ^ m) sum in
        omega (arith, row, all, moved_low)

    -- as it is worked out, with no part that is cut off
    pub put_code : (got : ℕ) → got ≡ byte
        → (word / 2 ^ b / 2 ^ 8 * 2 ^ 8 % 2 ^ 64 + got) * 2 ^ b % 2 ^ 64 + word / 2 ^ 8 % (1 * 2 ^ b % 2 ^ 64) ≡ (word / 2 ^ b / 2 ^ 8 * 2 ^ 8 + byte) * 2 ^ b + word / 2 ^ 8 % 2 ^ b
    put_code got same =
        let less = shr_le word b in
        let front : kept * 2 ^ 8 % 2 ^ 64 + got ≡ kept * 2 ^ 8 + byte = omega arith in
        let fits_put = put_fits in
        let shifted : (kept * 2 ^ 8 + byte) * 2 ^ b % 2 ^ 64 ≡ (kept * 2 ^ 8 + byte) * 2 ^ b = omega arith in
        ap (λ (m : ℕ). m * 2 ^ b % 2 ^ 64 + word / 2 ^ 8 % (1 * 2 ^ b % 2 ^ 64)) front
        ∙ ap (λ (m : ℕ). m + word / 2 ^ 8 % (1 * 2 ^ b % 2 ^ 64)) shifted
        ∙ ap (λ (m : ℕ). (kept * 2 ^ 8 + byte) * 2 ^ b + word / 2 ^ 8 % m) (one_shifted b (omega arith))

    high_put : put / 2 ^ b ≡ kept * 2 ^ 8 + byte
    high_put = shr_high (kept * 2 ^ 8 + byte) b (word / 2 ^ 8 % 2 ^ b) moved_low

    pub put_here : byte_of ((word / 2 ^ b / 2 ^ 8 * 2 ^ 8 + byte) * 2 ^ b + word / 2 ^ 8 % 2 ^ b) at ≡ byte
    put_here = byte_at_bits put at b within is ∙ ap (λ (m : ℕ). m % 256) high_put ∙ mod-mul-add kept 256 byte small

    pub put_before : (i : ℕ) → i < at → byte_of ((word / 2 ^ b / 2 ^ 8 * 2 ^ 8 + byte) * 2 ^ b + word / 2 ^ 8 % 2 ^ b) i ≡ byte_of word i
    put_before i before =
        let e = 8 * (at - 1 - i) in
        let n : 56 - 8 * i ≡ b + (8 + e) = omega arith in
        byte_at_bits put i (b + (8 + e)) (omega arith) n
        ∙ ap (λ (m : ℕ). m % 256) (sym (shr-shr put b (8 + e)) ∙ ap (λ (m : ℕ). m / 2 ^ (8 + e)) high_put ∙ sym (shr-shr (kept * 2 ^ 8 + byte) 8 e) ∙ ap (λ (m : ℕ). m / 2 ^ e) (shr_high kept 8 byte small) ∙ kept_shifted e)
        ∙ sym (byte_at_bits word i (b + (8 + e)) (omega arith) n)

    pub put_behind : (i : ℕ) → at < i → i < 8 → byte_of ((word / 2 ^ b / 2 ^ 8 * 2 ^ 8 + byte) * 2 ^ b + word / 2 ^ 8 % 2 ^ b) i ≡ byte_of word (i - 1)
    put_behind i behind low =
        let n = 56 - 8 * i in
        let e = 8 * (i - at - 1) in
        let sum : n + (8 + e) ≡ b = omega arith in
        byte_at_bits put i n low refl
        ∙ low_byte (kept * 2 ^ 8 + byte) (word / 2 ^ 8 % 2 ^ b) n e b sum
        ∙ sym (low_byte (word / 2 ^ 8 / 2 ^ b) (word / 2 ^ 8 % 2 ^ b) n e b sum)
        ∙ ap (λ (m : ℕ). m / 2 ^ n % 256) (shr_split (word / 2 ^ 8) b)
        ∙ ap (λ (m : ℕ). m % 256) (shr-shr word 8 n)
        ∙ sym (byte_at_bits word (i - 1) (8 + n) (omega arith) (omega arith))

  -- ---- a byte goes

  module _ (last : ℕ) (small : last < 256) where
    abbrev joined : ℕ
    joined = kept * 2 ^ b + word % 2 ^ b

    abbrev taken : ℕ
    taken = joined * 2 ^ 8 + last

    rest_low : word % 2 ^ b < 2 ^ b
    rest_low = mod_below word (2 ^ b) (pow_pos b)

    pub joined_fits : word / 2 ^ b / 2 ^ 8 * 2 ^ b + word % 2 ^ b < 2 ^ 56
    joined_fits =
        let row = row_fits kept (2 ^ b) (2 ^ (8 * at)) (2 ^ b) kept_below (omega arith) in
        let sum : 8 * at + b ≡ 56 = omega arith in
        let all : 2 ^ (8 * at) * 2 ^ b ≡ 2 ^ 56 = sym (pow-add 2 (8 * at) b) ∙ ap (λ (m : ℕ). 2 ^ m) sum in
        omega (arith, row, all, rest_low)

    -- as it is worked out, with no part that is cut off
    pub taken_code : (got : ℕ) → got ≡ last
        → (word / 2 ^ b / 2 ^ 8 * 2 ^ b % 2 ^ 64 + word % (1 * 2 ^ b % 2 ^ 64)) * 2 ^ 8 % 2 ^ 64 + got ≡ (word / 2 ^ b / 2 ^ 8 * 2 ^ b + word % 2 ^ b) * 2 ^ 8 + last
    taken_code got same =
        let fits_joined = joined_fits in
        let front : kept * 2 ^ b % 2 ^ 64 ≡ kept * 2 ^ b = omega arith in
        ap (λ (m : ℕ). (m + word % (1 * 2 ^ b % 2 ^ 64)) * 2 ^ 8 % 2 ^ 64 + got) front
        ∙ ap (λ (m : ℕ). (kept * 2 ^ b + word % m) * 2 ^ 8 % 2 ^ 64 + got) (one_shifted b (omega arith))
        ∙ omega arith

    high_taken : taken / 2 ^ 8 ≡ joined
    high_taken = shr_high joined 8 last small

    pub taken_last : byte_of ((word / 2 ^ b / 2 ^ 8 * 2 ^ b + word % 2 ^ b) * 2 ^ 8 + last) 7 ≡ last
    taken_last = byte_at_bits taken 7 0 (omega arith) refl ∙ one taken ∙ mod-mul-add joined 256 last small
      where
        one : (a : ℕ) → a / 2 ^ 0 % 256 ≡ a % 256
        one a = omega arith

    pub taken_before : (i : ℕ) → i < at → byte_of ((word / 2 ^ b / 2 ^ 8 * 2 ^ b + word % 2 ^ b) * 2 ^ 8 + last) i ≡ byte_of word i
    taken_before i before =
        let e = 8 * (at - 1 - i) in
        let n : 56 - 8 * i ≡ 8 + (b + e) = omega arith in
        byte_at_bits taken i (8 + (b + e)) (omega arith) n
        ∙ ap (λ (m : ℕ). m % 256) (sym (shr-shr taken 8 (b + e)) ∙ ap (λ (m : ℕ). m / 2 ^ (b + e)) high_taken ∙ sym (shr-shr joined b e) ∙ ap (λ (m : ℕ). m / 2 ^ e) (shr_high kept b (word % 2 ^ b) rest_low) ∙ kept_shifted e)
        ∙ sym (byte_at_bits word i (b + (8 + e)) (omega arith) (omega arith))

    pub taken_behind : (i : ℕ) → at ≤ i → i < 7 → byte_of ((word / 2 ^ b / 2 ^ 8 * 2 ^ b + word % 2 ^ b) * 2 ^ 8 + last) i ≡ byte_of word (i + 1)
    taken_behind i behind low =
        let n = 48 - 8 * i in
        let e = 8 * (i - at) in
        let sum : n + (8 + e) ≡ b = omega arith in
        byte_at_bits taken i (8 + n) (omega arith) (omega arith)
        ∙ ap (λ (m : ℕ). m % 256) (sym (shr-shr taken 8 n) ∙ ap (λ (m : ℕ). m / 2 ^ n) high_taken)
        ∙ low_byte kept (word % 2 ^ b) n e b sum
        ∙ sym (low_byte (word / 2 ^ b) (word % 2 ^ b) n e b sum)
        ∙ ap (λ (m : ℕ). m / 2 ^ n % 256) (shr_split word b)
        ∙ sym (byte_at_bits word (i + 1) n (omega arith) (omega arith))
