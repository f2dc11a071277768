-- Texts as the code spells and reads them.
use Rattle.std.proofs.Common.{◌≡◌, ℕ, ◌<◌, ◌≤◌, Bool, true, false, List, [], ◌∷◌, ◌++◌, length, IsUtf8, Option, Some, None, refl, sym, ap, ◌∙◌, arith, lt-ltb, le-ltb, append_assoc, append-nil, length-append}
use Rattle.std.proofs.lemmas.Option.{some_pair_parts}
use Rattle.std.proofs.lemmas.Str.{IsUtf8-from_is_utf8, is_utf8-from_IsUtf8}
use Rattle.std.specs.Option.{option_map, option_and_then}
use Rattle.std.specs.Str.{is_utf8}
use Rattle.art_model.specs.declared.values.Value.TheVariants.{Text}
use Rattle.art_key.specs.Kinds.{text_fault, with_byte, unescaped, short_text, front_text}

-- a text that is not too long stands
pub text_stands : (longest place : ℕ) (t : List ℕ) → length t ≤ longest → IsUtf8 t → text_fault longest place (Text t) ≡ None
text_stands longest place t short utf8 = rw (le-ltb longest (length t) short, is_utf8-from_IsUtf8 t utf8) refl

-- ---- the loop over the bytes of a spelled text

-- the bytes that were read, before what the others are read as
abbrev pub after_front : List ℕ → Option (List ℕ × List ℕ) → Option (List ℕ × List ℕ)
after_front front o = option_map (λ t. (front ++ t.0, t.1)) o

regroup : (front : List ℕ) (b : ℕ) (o : Option (List ℕ × List ℕ)) → after_front front (with_byte b o) ≡ after_front (front ++ b ∷ []) o
regroup front b None = refl
regroup front b (Some t) = ap (λ (u : List ℕ). Some (u, t.1)) (sym (append_assoc front (b ∷ []) t.0))

pub goes_on : (front bytes after : List ℕ) (b : ℕ) (total : Option (List ℕ × List ℕ)) → unescaped bytes ≡ with_byte b (unescaped after) → after_front front (unescaped bytes) ≡ total
    → after_front (front ++ b ∷ []) (unescaped after) ≡ total
goes_on front bytes after b total read so_far = sym (regroup front b (unescaped after)) ∙ sym (ap (after_front front) read) ∙ so_far

pub ends : (front bytes after : List ℕ) (total : Option (List ℕ × List ℕ)) → unescaped bytes ≡ Some ([], after) → after_front front (unescaped bytes) ≡ total → total ≡ Some (front, after)
ends front bytes after total read so_far =
    sym so_far ∙ ap (after_front front) read ∙ ap (λ (u : List ℕ). Some (u, after)) (append-nil front)

pub stops : (front bytes : List ℕ) (total : Option (List ℕ × List ℕ)) → unescaped bytes ≡ None → after_front front (unescaped bytes) ≡ total → total ≡ None
stops front bytes total read so_far = sym so_far ∙ ap (after_front front) read

-- a text with more bytes than 24 of them is longer than that
pub is_longer : (front bytes after : List ℕ) (b : ℕ) (total : Option (List ℕ × List ℕ)) (t rest : List ℕ) → length front ≡ 24 → unescaped bytes ≡ with_byte b (unescaped after) → after_front front (unescaped bytes) ≡ total
    → total ≡ Some (t, rest) → 24 < length t
is_longer front bytes after b total t rest full read so_far e = by_others (unescaped after) (goes_on front bytes after b total read so_far ∙ e)
  where
    by_others : (o : Option (List ℕ × List ℕ)) → after_front (front ++ b ∷ []) o ≡ Some (t, rest) → 24 < length t
    by_others None e = absurd cc
    by_others (Some u) e =
        let parts = some_pair_parts ((front ++ b ∷ []) ++ u.0) t u.1 rest e in
        omega (arith, ap length parts.0, length-append (front ++ b ∷ []) u.0, length-append front (b ∷ []))

-- ---- a text of a column, as it is read

-- no text that is spelled has as few bytes as the column wants
pub front_is_long : (longest : ℕ) (bytes : List ℕ) → longest ≤ 24 → ((t rest : List ℕ) → unescaped bytes ≡ Some (t, rest) → 24 < length t) → front_text longest bytes ≡ None
front_is_long longest bytes few long = by_read (unescaped bytes) long
  where
    by_read : (o : Option (List ℕ × List ℕ)) → ((t rest : List ℕ) → o ≡ Some (t, rest) → 24 < length t) → option_and_then (short_text longest) o ≡ None
    by_read None long = refl
    by_read (Some t) long = let over = long t.0 t.1 refl in rw (lt-ltb longest (length t.0) (omega arith)) refl

read_is : (longest : ℕ) (bytes t rest : List ℕ) → unescaped bytes ≡ Some (t, rest) → front_text longest bytes ≡ short_text longest (t, rest)
read_is longest bytes t rest read = ap (option_and_then (short_text longest)) read

pub front_is_longer : (longest : ℕ) (bytes t rest : List ℕ) → unescaped bytes ≡ Some (t, rest) → longest < length t → front_text longest bytes ≡ None
front_is_longer longest bytes t rest read long = read_is longest bytes t rest read ∙ rw (lt-ltb longest (length t) long) refl

false_from : (b : Bool) → (b ≡ true → ⊥) → b ≡ false
false_from true h = absurd (h refl)
false_from false h = refl

pub front_is_no_text : (longest : ℕ) (bytes t rest : List ℕ) → unescaped bytes ≡ Some (t, rest) → length t ≤ longest → ¬ (IsUtf8 t) → front_text longest bytes ≡ None
front_is_no_text longest bytes t rest read short none =
    read_is longest bytes t rest read ∙ rw (le-ltb longest (length t) short, false_from (is_utf8 t) (λ e. none (IsUtf8-from_is_utf8 t e))) refl

pub front_is_text : (longest : ℕ) (bytes t rest : List ℕ) → unescaped bytes ≡ Some (t, rest) → length t ≤ longest → IsUtf8 t → front_text longest bytes ≡ Some (Text t, rest)
front_is_text longest bytes t rest read short utf8 =
    read_is longest bytes t rest read ∙ rw (le-ltb longest (length t) short, is_utf8-from_IsUtf8 t utf8) refl
