-- What stands at the front of a line, byte by byte, is the token that the grammar of JSON text has there.
use Rattle.std.proofs.Common.{◌≡◌, ◌≢◌, ℕ, ◌<◌, ◌⊎◌, inl, inr, Bool, true, false, ◌==◌, List, [], ◌∷◌, ◌++◌, length, take, drop, get_or, Some, refl, sym, ap, ap₂, ◌∙◌, arith, get_or-take, take-append-drop}
use Rattle.std.proofs.lemmas.Bool.{cases_eq, ne_eqb, true≢false, false≢true}
use Rattle.std.proofs.lemmas.List.{drop_all}
use Rattle.std.proofs.lemmas.List.Sums.{prefix_len_is, prefix_len_passes}
use Rattle.std.proofs.lemmas.List.Folds.{length-prefix_len}
use Rattle.std.specs.Char.{is_ascii_digit}
use Rattle.std.specs.List.{prefix_len}
use Rattle.json.proofs.Printed.Numbers.{in_word-ended, lex-number}
use Rattle.json.proofs.Printed.Plain.{escape_on_plain}
use Rattle.json.proofs.Printed.Strings.{content-escape, lex-escape}
use Rattle.json.specs.Lex.{Place, fresh, after_value, after_comma, after_key, begins_colon, between, lex, may_begin, may_close, in_string, Lexeme, punctuate, string_token, token}
use Rattle.json.specs.Print.{IsNumber, escape, token_text}
use Rattle.json.specs.Run.{is_plain}
use Rattle.json.specs.Text.{content, plain}
use Rattle.json.specs.Token.{begin_array, boolean, end_array, number, string}
use Rattle.json.specs.Word.{after_number, after_whole, ends_word, word}

-- ---- between tokens

pub lex-blank : (r : List ℕ) → lex between (32 ∷ r) ≡ lex between r
unfolding lex
lex-blank r = refl

pub passes-comma : (r : List ℕ) → punctuate after_value (lex between (44 ∷ r)) ≡ punctuate after_comma (lex between r)
unfolding lex punctuate
passes-comma r = refl

pub no_colon-comma : (r : List ℕ) → begins_colon (lex between (44 ∷ r)) ≡ false
unfolding lex
no_colon-comma r = refl

pub no_colon-close : (r : List ℕ) → begins_colon (lex between (93 ∷ r)) ≡ false
unfolding lex
no_colon-close r = refl

pub no_colon-end : begins_colon (lex between []) ≡ false
unfolding lex
no_colon-end = refl

pub none_left : punctuate after_value (lex between []) ≡ []
unfolding lex punctuate
none_left = refl

-- ---- brackets

pub begins-array_at : (p : Place) (r : List ℕ) → may_begin p ≡ true → punctuate p (lex between (91 ∷ r)) ≡ begin_array ∷ punctuate fresh (lex between r)
unfolding lex punctuate
begins-array_at fresh r may = refl
begins-array_at after_value r may = absurd (false≢true may)
begins-array_at after_comma r may = refl
begins-array_at after_key r may = absurd (false≢true may)

pub ends-array_at : (p : Place) (r : List ℕ) → may_close p ≡ true → punctuate p (lex between (93 ∷ r)) ≡ end_array ∷ punctuate after_value (lex between r)
unfolding lex punctuate
ends-array_at fresh r may = refl
ends-array_at after_value r may = refl
ends-array_at after_comma r may = absurd (false≢true may)
ends-array_at after_key r may = absurd (false≢true may)

-- ---- values that are no array

pub number_at : (p : Place) (s r : List ℕ) → may_begin p ≡ true → IsNumber s → ends_word r ≡ true → punctuate p (lex between (s ++ r)) ≡ number s ∷ punctuate after_value (lex between r)
unfolding punctuate
number_at fresh s r may is ended = rw (lex-number s r is ended) refl
number_at after_value s r may is ended = absurd (false≢true may)
number_at after_comma s r may is ended = rw (lex-number s r is ended) refl
number_at after_key s r may is ended = absurd (false≢true may)

lex-true : (r : List ℕ) → ends_word r ≡ true → lex between (116 ∷ 114 ∷ 117 ∷ 101 ∷ r) ≡ token (boolean true) ∷ lex between r
unfolding lex word
lex-true r ended = rw (ended, in_word-ended r ended) refl

lex-false : (r : List ℕ) → ends_word r ≡ true → lex between (102 ∷ 97 ∷ 108 ∷ 115 ∷ 101 ∷ r) ≡ token (boolean false) ∷ lex between r
unfolding lex word
lex-false r ended = rw (ended, in_word-ended r ended) refl

true_at : (p : Place) (r : List ℕ) → may_begin p ≡ true → ends_word r ≡ true → punctuate p (lex between (116 ∷ 114 ∷ 117 ∷ 101 ∷ r)) ≡ boolean true ∷ punctuate after_value (lex between r)
unfolding punctuate
true_at fresh r may ended = rw (lex-true r ended) refl
true_at after_value r may ended = absurd (false≢true may)
true_at after_comma r may ended = rw (lex-true r ended) refl
true_at after_key r may ended = absurd (false≢true may)

false_at : (p : Place) (r : List ℕ) → may_begin p ≡ true → ends_word r ≡ true → punctuate p (lex between (102 ∷ 97 ∷ 108 ∷ 115 ∷ 101 ∷ r)) ≡ boolean false ∷ punctuate after_value (lex between r)
unfolding punctuate
false_at fresh r may ended = rw (lex-false r ended) refl
false_at after_value r may ended = absurd (false≢true may)
false_at after_comma r may ended = rw (lex-false r ended) refl
false_at after_key r may ended = absurd (false≢true may)

pub bool_at : (p : Place) (b : Bool) (r : List ℕ) → may_begin p ≡ true → ends_word r ≡ true → punctuate p (lex between (token_text (boolean b) ++ r)) ≡ boolean b ∷ punctuate after_value (lex between r)
bool_at p true r may ended = true_at p r may ended
bool_at p false r may ended = false_at p r may ended

-- ---- texts

plain_front : (q : List ℕ) → escape (take (prefix_len is_plain q) q) ≡ take (prefix_len is_plain q) q
plain_front q =
    let n = prefix_len is_plain q in
    escape_on_plain true (take n q) (λ k low below. (let near : k < n = omega (arith, length-prefix_len is_plain q) in ap is_plain (get_or-take n q k 0 near) ∙ prefix_len_passes is_plain q k 0 near))

lex-text : (s r : List ℕ) → escape s ≡ s → lex between (34 ∷ (s ++ 34 ∷ r)) ≡ token (string s) ∷ lex between r
unfolding lex
lex-text s r same = ap₂ (λ o l. token (string_token o) ∷ l) (ap (λ t. content plain (t ++ 34 ∷ r)) (sym same) ∙ content-escape s r) (ap (λ t. lex in_string (t ++ 34 ∷ r)) (sym same) ∙ lex-escape s r)

place_text : (p : Place) (s : List ℕ) (ls : List Lexeme) → may_begin p ≡ true → begins_colon ls ≡ false → punctuate p (token (string s) ∷ ls) ≡ string s ∷ punctuate after_value ls
unfolding punctuate
place_text fresh s ls may none = rw none refl
place_text after_value s ls may none = absurd (false≢true may)
place_text after_comma s ls may none = rw none refl
place_text after_key s ls may none = absurd (false≢true may)

pub text_at : (p : Place) (n : ℕ) (q r : List ℕ) → may_begin p ≡ true → n ≡ prefix_len is_plain q → drop n q ≡ 34 ∷ r → begins_colon (lex between r) ≡ false
    → punctuate p (lex between (34 ∷ q)) ≡ string (take n q) ∷ punctuate after_value (lex between r)
text_at p n q r may is closed none =
    let same : escape (take n q) ≡ take n q = rw is (plain_front q) in
    let whole : q ≡ take n q ++ 34 ∷ r = sym (take-append-drop n q) ∙ ap (λ l. take n q ++ l) closed in
    ap (λ l. punctuate p (lex between (34 ∷ l))) whole ∙ ap (punctuate p) (lex-text (take n q) r same) ∙ place_text p (take n q) (lex between r) may none

-- ---- whole numbers

whole_alone : (x : ℕ) (xs : List ℕ) → prefix_len is_ascii_digit (x ∷ xs) ≡ length (x ∷ xs) → (x ≡ 48 → xs ≡ []) → after_whole (x ∷ xs) ≡ Some []
whole_alone x xs all lone = go (cases_eq x 48)
  where
    go : (x ≡ 48) ⊎ (x ≡ 48 → ⊥) → after_whole (x ∷ xs) ≡ Some []
    go (inl zero) = rw zero (ap Some (lone zero))
    go (inr other) = rw (ne_eqb x 48 other, all, ne_eqb (length (x ∷ xs)) 0 (λ e. omega arith), drop_all (length (x ∷ xs)) (x ∷ xs) (omega arith)) refl

none_behind : (xs : List ℕ) → (0 < length xs → ⊥) → xs ≡ []
none_behind [] h = refl
none_behind (x ∷ xs) h = absurd (h (omega arith))

-- all digits, of which the first is no zero but alone: it is a number, and so it is behind a minus sign
pub record IsWhole (s : List ℕ) : Type 0 where
  pub plain : IsNumber s
  pub negative : IsNumber (45 ∷ s)

is_whole : (x : ℕ) (xs : List ℕ) → is_ascii_digit x ≡ true → after_whole (x ∷ xs) ≡ Some [] → IsWhole (x ∷ xs)
unfolding after_number
is_whole x xs digit all =
    let unsigned : (x == 45) ≡ false = ne_eqb x 45 (λ e. true≢false (sym digit ∙ ap is_ascii_digit e)) in
    record { plain = rw (unsigned, all) refl; negative = rw all refl }

of_parts : (n : ℕ) (s : List ℕ) → length s ≡ n → n ≢ 0 → ((k : ℕ) → k < n → is_ascii_digit (get_or s k 0) ≡ true) → (1 < n → get_or s 0 0 ≢ 48) → IsWhole s
of_parts n [] counted some digits lead = absurd (some (sym counted))
of_parts n (x ∷ xs) counted some digits lead =
    let all : prefix_len is_ascii_digit (x ∷ xs) ≡ length (x ∷ xs) = prefix_len_is is_ascii_digit (x ∷ xs) (length (x ∷ xs)) 0 (omega arith) (λ k low. digits k (omega arith)) (λ low. absurd (omega arith)) in
    is_whole x xs (digits 0 (omega arith)) (whole_alone x xs all (λ zero. none_behind xs (λ more. lead (omega arith) zero)))

pub whole_front : (n : ℕ) (q : List ℕ) → n ≡ prefix_len is_ascii_digit q → n ≢ 0 → (1 < n → get_or q 0 0 ≢ 48) → IsWhole (take n q)
whole_front n q is some lead =
    let s = take n q in
    let counted : length s ≡ n = rw is (length-prefix_len is_ascii_digit q) in
    of_parts n s counted some (λ k low. ap is_ascii_digit (get_or-take n q k 0 low) ∙ prefix_len_passes is_ascii_digit q k 0 (omega arith)) (λ more zero. lead more (sym (get_or-take n q 0 0 (omega arith)) ∙ zero))
