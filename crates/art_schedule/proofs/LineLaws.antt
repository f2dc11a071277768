-- Words and numbers of a line, as far as it is read.
use Rattle.std.proofs.Common.{◌≡◌, ℕ, ◌+◌, ◌-◌, ◌*◌, ◌^◌, ◌<◌, ◌≤◌, Bool, true, false, cond, nat_lt, List, [], ◌∷◌, length, get_or, take, drop, map, Option, Some, None, refl, sym, ap, ◌∙◌, arith, take-append-drop}
use Rattle.std.specs.Char.{is_ascii_digit}
use Rattle.std.specs.Int.Digits.{number_from_digits, number_from_digits_after}
use Rattle.std.specs.List.{list_all, position_from, position_or_len}
use Rattle.std.proofs.lemmas.Bool.Decides.{Decides-ltb, nat_tests}
use Rattle.std.proofs.lemmas.Int.Digits.{number_after_append, number_after_ge, number_push}
use Rattle.std.proofs.lemmas.Iterator.Adapters.{position_from-zero}
use Rattle.std.proofs.lemmas.List.{take_all, take_more, map-append}
use Rattle.std.proofs.lemmas.List.Folds.{list_all_at, list_all_more}
use Rattle.art_schedule.specs.Lines.{is_blank, first_word, number_of, number_below, number_said}

-- ---- words

place_is : (line : List ℕ) (o : Option ℕ) (within : Bool) → nat_lt (position_or_len is_blank line) (length line) ≡ within
    → cond within (Some (position_or_len is_blank line)) None ≡ o → (i : ℕ) → o ≡ Some i → position_or_len is_blank line ≡ i
place_is line o true e is i some = cc
place_is line o false e is i some = absurd cc

-- the word ends at the first blank
pub first_word-some : (line : List ℕ) (i : ℕ) → position_from is_blank 0 line ≡ Some i → take i line ≡ first_word line
first_word-some line i is =
    ap (λ (n : ℕ). take n line) (sym (place_is line _ _ refl (position_from-zero is_blank line) i is))

place_none : (line : List ℕ) (o : Option ℕ) (within : Bool) → nat_lt (position_or_len is_blank line) (length line) ≡ within
    → cond within (Some (position_or_len is_blank line)) None ≡ o → o ≡ None → length line ≤ position_or_len is_blank line
place_none line o true e is none = absurd cc
place_none line o false e is none = grind (arith, nat_tests)

-- a line with no blank is one word
pub first_word-none : (line : List ℕ) → position_from is_blank 0 line ≡ None → line ≡ first_word line
first_word-none line none = sym (take_all (position_or_len is_blank line) line (place_none line _ _ refl (position_from-zero is_blank line) none))

-- ---- numbers

pub number_of-more : (digits : List ℕ) (i : ℕ) → i < length digits
    → number_of (take (i + 1) digits) ≡ number_of (take i digits) * 10 + (get_or digits i 0 - 48)
number_of-more digits i within =
    ap number_of (take_more digits i 0 within)
    ∙ ap (number_from_digits 10) (map-append (λ (b : ℕ). b - 48) (take i digits) (get_or digits i 0 ∷ []))
    ∙ number_push 10 (map (λ (b : ℕ). b - 48) (take i digits)) (get_or digits i 0 - 48)

-- more digits are no smaller a number
number_of-front : (digits : List ℕ) (i : ℕ) → number_of (take i digits) ≤ number_of digits
number_of-front digits i =
    let value = λ (b : ℕ). b - 48 in
    let front = map value (take i digits) in
    let rest = map value (drop i digits) in
    let split : number_of digits ≡ number_from_digits_after 10 (number_of (take i digits)) rest =
    ap number_of (sym (take-append-drop i digits)) ∙ ap (number_from_digits 10) (map-append value (take i digits) (drop i digits))
    ∙ number_after_append 10 0 front rest in
    omega (arith, number_after_ge 10 (number_of (take i digits)) rest (omega arith))

pub number_said-other : (digits : List ℕ) (i : ℕ) → i < length digits → is_ascii_digit (get_or digits i 0) ≡ false → number_said digits ≡ None
number_said-other [] i within other = absurd (omega arith)
number_said-other (b ∷ bs) i within other = rw (list_all_at is_ascii_digit (b ∷ bs) i 0 within other)

large : (n : ℕ) (small : Bool) → nat_lt n (2 ^ 32) ≡ small → 2 ^ 32 ≤ n → small ≡ false
large n true e bound = absurd (let less : n < 2 ^ 32 = (Decides-ltb n (2 ^ 32)).0 e in omega arith)
large n false e bound = refl

large_none : (all : Bool) (n : ℕ) → 2 ^ 32 ≤ n → ◌≡◌ {A = Option ℕ} (cond all (number_below (2 ^ 32) n) None) None
large_none true n bound = rw (large n _ refl bound)
large_none false n bound = refl

pub number_said-large : (digits : List ℕ) (i : ℕ) → 2 ^ 32 ≤ number_of (take i digits) → number_said digits ≡ None
number_said-large [] i bound = refl
number_said-large (b ∷ bs) i bound =
    large_none (list_all is_ascii_digit (b ∷ bs)) (number_of (b ∷ bs)) (omega (arith, number_of-front (b ∷ bs) i))

pub number_said-done : (digits : List ℕ) (n : ℕ) → 0 < length digits → list_all is_ascii_digit digits ≡ true → n ≡ number_of digits → n < 2 ^ 32
    → number_said digits ≡ Some n
number_said-done [] n some all is small = absurd (omega arith)
number_said-done (b ∷ bs) n some all is small = rw (all, ← is, (Decides-ltb n (2 ^ 32)).1 small)

pub all_more : (digits : List ℕ) (i : ℕ) → i < length digits → list_all is_ascii_digit (take i digits) ≡ true
    → is_ascii_digit (get_or digits i 0) ≡ true → list_all is_ascii_digit (take (i + 1) digits) ≡ true
all_more digits i within before here = rw (list_all_more is_ascii_digit digits i 0 within, before, here)
