-- The kinds of column: which values stand in one, and the bytes that spell them.
use Rattle.std.specs.Prelude.{◌≡◌, ℕ, ◌+◌, ◌-◌, ◌*◌, ◌^◌, ◌<◌, ◌≤◌, List, [], ◌∷◌, ◌++◌, length, take, drop, map, Bool, true, false, ℤ, pos, negsuc, neg_ℤ, ◌+ℤ◌, ◌-ℤ◌, nat_lt, ◌==◌, if◌then◌else◌, Option, Some, None, flat_map}
use Rattle.std.specs.Option.{option_map, option_and_then}
use Rattle.std.specs.Ordering.{nat_cmp, ordering_then}
use Rattle.std.specs.Cmp.Lexicographic.{slice_cmp}
use Rattle.std.specs.Int.{bytes_high_first}
use Rattle.std.specs.List.{AllByRecursion}
use Rattle.std.specs.Str.{is_utf8}
use Rattle.art_model.specs.declared.values.Value.{Value}
use Rattle.art_model.specs.declared.values.Value.TheVariants.{Bool as Truth, Int, Text}
use Rattle.art_model.specs.Rows.{column_cmp}
use Rattle.art_key.specs.declared.faults.ValueFault.{ValueFault}
use Rattle.art_key.specs.declared.faults.ValueFault.TheVariants.{WrongType, OutOfRange, TextTooLong}

abbrev pub AreBytes : List ℕ → Type 0
AreBytes bytes = AllByRecursion (λ b. b < 256) bytes

-- how values are spelled: the longest spelling, what is wrong with a value at a place, the bytes that spell a
-- value, and the value that the bytes at the front spell with the bytes after it
pub record Coding : Type 0 where
  pub width : ℕ
  pub fault : ℕ → Value → Option ValueFault
  pub spelling : Value → List ℕ
  pub front : List ℕ → Option (Value × List ℕ)

-- what makes it one: spellings stand as the values do, in reverse where these descend, and are read back, whatever comes
-- after them; what is read is a value and was its spelling; and a spelling is bytes, no more than the width
pub record IsCoding (descends : Bool) (k : Coding) : Type 0 where
  pub order : (place other : ℕ) (u v : Value) (x y : List ℕ) → k.fault place u ≡ None → k.fault other v ≡ None
      → slice_cmp nat_cmp (k.spelling u ++ x) (k.spelling v ++ y) ≡ ordering_then (column_cmp descends u v) (slice_cmp nat_cmp x y)
  pub again : (place : ℕ) (v : Value) (rest : List ℕ) → k.fault place v ≡ None → k.front (k.spelling v ++ rest) ≡ Some (v, rest)
  pub takes : (place : ℕ) (v : Value) (bytes rest : List ℕ) → AreBytes bytes → k.front bytes ≡ Some (v, rest) → (k.fault place v ≡ None) × (bytes ≡ k.spelling v ++ rest)
  pub bytes : (place : ℕ) (v : Value) → k.fault place v ≡ None → AreBytes (k.spelling v)
  pub narrow : (place : ℕ) (v : Value) → k.fault place v ≡ None → length (k.spelling v) ≤ k.width

-- ---- false and true: one byte, 0 or 1

abbrev pub truth_fault : ℕ → Value → Option ValueFault
truth_fault place (Truth b) = None
truth_fault place (Int z) = Some (WrongType place)
truth_fault place (Text t) = Some (WrongType place)

abbrev pub truth_spelling : Value → List ℕ
truth_spelling (Truth false) = 0 ∷ []
truth_spelling (Truth true) = 1 ∷ []
truth_spelling (Int z) = []
truth_spelling (Text t) = []

abbrev pub front_truth : List ℕ → Option (Value × List ℕ)
front_truth [] = None
front_truth (b ∷ bytes) = if b == 0 then Some (Truth false, bytes) else if b == 1 then Some (Truth true, bytes) else None

abbrev pub truth : Coding
truth = record { width = 1; fault = truth_fault; spelling = truth_spelling; front = front_truth }

-- ---- whole numbers from a least one on: how far a number is above the least, in so many bytes, highest byte first

-- a number that is so far above the least one
abbrev pub distance_fault : ℕ → ℕ → ℤ → Option ValueFault
distance_fault k place (pos n) = if nat_lt n (256 ^ k) then None else Some (OutOfRange place)
distance_fault k place (negsuc n) = Some (OutOfRange place)

abbrev pub distance_spelling : ℕ → ℤ → List ℕ
distance_spelling k (pos n) = bytes_high_first k n
distance_spelling k (negsuc n) = []

abbrev pub whole_fault : ℕ → ℤ → ℕ → Value → Option ValueFault
whole_fault k least place (Truth b) = Some (WrongType place)
whole_fault k least place (Int z) = distance_fault k place (z -ℤ least)
whole_fault k least place (Text t) = Some (WrongType place)

abbrev pub whole_spelling : ℕ → ℤ → Value → List ℕ
whole_spelling k least (Truth b) = []
whole_spelling k least (Int z) = distance_spelling k (z -ℤ least)
whole_spelling k least (Text t) = []

-- the number that bytes are, highest byte first
abbrev pub number_of : List ℕ → ℕ
number_of [] = 0
number_of (b ∷ bytes) = b * 256 ^ length bytes + number_of bytes

-- the number that the first bytes are, and the bytes after them
abbrev pub front_number : ℕ → List ℕ → Option (ℕ × List ℕ)
front_number k bytes = if nat_lt (length bytes) k then None else Some (number_of (take k bytes), drop k bytes)

abbrev pub front_whole : ℕ → ℤ → List ℕ → Option (Value × List ℕ)
front_whole k least bytes = option_map (λ n. (Int (least +ℤ pos n.0), n.1)) (front_number k bytes)

abbrev pub whole : ℕ → ℤ → Coding
whole k least = record { width = k; fault = whole_fault k least; spelling = whole_spelling k least; front = front_whole k least }

-- from 0 on
abbrev pub unsigned : ℕ → Coding
unsigned k = whole k (pos 0)

-- half of them below 0: two's complement with the highest bit flipped
abbrev pub least_signed : ℕ → ℤ
least_signed k = neg_ℤ (pos (2 ^ (8 * k - 1)))

abbrev pub signed : ℕ → Coding
signed k = whole k (least_signed k)

-- ---- texts of at most so many bytes: their UTF-8, where 0 is spelled 0 255, and then 0 0

abbrev pub text_fault : ℕ → ℕ → Value → Option ValueFault
text_fault longest place (Truth b) = Some (WrongType place)
text_fault longest place (Int z) = Some (WrongType place)
text_fault longest place (Text t) = if nat_lt longest (length t) then Some (TextTooLong place) else if is_utf8 t then None else Some (WrongType place)

abbrev pub escaped : ℕ → List ℕ
escaped b = if b == 0 then 0 ∷ 255 ∷ [] else b ∷ []

abbrev pub text_spelling : Value → List ℕ
text_spelling (Truth b) = []
text_spelling (Int z) = []
text_spelling (Text t) = flat_map escaped t ++ 0 ∷ 0 ∷ []

abbrev pub with_byte : ℕ → Option (List ℕ × List ℕ) → Option (List ℕ × List ℕ)
with_byte b o = option_map (λ t. (b ∷ t.0, t.1)) o

-- the bytes up to 0 0, with 0 for each 0 255, and the bytes after it
abbrev pub unescaped : List ℕ → Option (List ℕ × List ℕ)
unescaped [] = None
unescaped (b ∷ []) = None
unescaped (b ∷ c ∷ bytes) =
    if b == 0 then (if c == 0 then Some ([], bytes) else if c == 255 then with_byte 0 (unescaped bytes) else None) else with_byte b (unescaped (c ∷ bytes))

-- a text that is not too long
abbrev pub short_text : ℕ → List ℕ × List ℕ → Option (Value × List ℕ)
short_text longest t = if nat_lt longest (length t.0) then None else if is_utf8 t.0 then Some (Text t.0, t.1) else None

abbrev pub front_text : ℕ → List ℕ → Option (Value × List ℕ)
front_text longest bytes = option_and_then (short_text longest) (unescaped bytes)

abbrev pub text : ℕ → Coding
text longest = record { width = 2 * longest + 2; fault = text_fault longest; spelling = text_spelling; front = front_text longest }

-- ---- the values of a coding in an order: where they descend, each byte of a spelling is complemented

abbrev pub complement : List ℕ → List ℕ
complement bytes = map (λ b. 255 - b) bytes

abbrev pub spelled_in : Bool → List ℕ → List ℕ
spelled_in false bytes = bytes
spelled_in true bytes = complement bytes

-- the value that the complements spell, and the bytes after its spelling
abbrev pub front_in : Bool → Coding → List ℕ → Option (Value × List ℕ)
front_in false k bytes = k.front bytes
front_in true k bytes = option_map (λ found. (found.0, drop (length (k.spelling found.0)) bytes)) (k.front (complement bytes))

abbrev pub in_order : Bool → Coding → Coding
in_order descends k = record {
  width = k.width;
  fault = k.fault;
  spelling = λ v. spelled_in descends (k.spelling v);
  front = front_in descends k;
}
