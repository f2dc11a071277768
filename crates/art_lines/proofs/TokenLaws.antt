-- What the tokens of a line begin with, put together from the end of the line to its front.
use Rattle.std.proofs.Common.{◌≡◌, ℕ, ◌+◌, ◌-◌, ◌<◌, ◌≤◌, nat_lt, Bool, false, List, [], ◌∷◌, ◌++◌, length, Some, None, Ok, refl, sym, ap, ◌∙◌, arith, append-nil, le-leb}
use Rattle.std.proofs.lemmas.Bool.Decides.{nat_tests}
use Rattle.std.proofs.lemmas.List.{length_push}
use Rattle.art_model.specs.declared.values.Value.{Value}
use Rattle.art_model.specs.declared.values.Value.TheVariants.{Text}
use Rattle.json.specs.Token.{Token}
use Rattle.json.specs.Lex.{tokens}
use Rattle.json.specs.Json as json
use Rattle.json.specs.Json.{after_end_array, parse_map}
use Rattle.json.proofs.Grammar.{left, value_is, value-begin_array, items_end, items_more, skip_value-shorter}
use Rattle.serde_json.specs.Data.{Num, Data, boolean, number, string, array, Items, no_items, item}
use Rattle.serde_json.specs.Events.{items_len}
use Rattle.serde_json.specs.Read.{number_of, read}
use Rattle.art_lines.specs.Lines.{value_said, values_said, tuple_said}
use Rattle.art_lines.specs.Tokens.{Begins, Closes}
use Rattle.art_lines.proofs.TupleLaws.{with_front, nothing_in_front, one_in_front}

-- ---- a value that is no array

pub begins-boolean : (depth : ℕ) (ts r : List Token) (b : Bool) → ts ≡ Token.boolean b ∷ r → Begins depth ts (boolean b) r
begins-boolean depth ts r b first = record {
  value = json.boolean b;
  reads = ap (json.value depth) first ∙ value_is depth (Token.boolean b ∷ r);
  is = refl;
}

pub begins-string : (depth : ℕ) (ts r : List Token) (s : List ℕ) → ts ≡ Token.string s ∷ r → Begins depth ts (string s) r
begins-string depth ts r s first = record {
  value = json.string s;
  reads = ap (json.value depth) first ∙ value_is depth (Token.string s ∷ r);
  is = refl;
}

pub begins-number : (depth : ℕ) (ts r : List Token) (s : List ℕ) (n : Num) → ts ≡ Token.number s ∷ r → number_of s ≡ Some n → Begins depth ts (number n) r
begins-number depth ts r s n first is = record {
  value = json.number s;
  reads = ap (json.value depth) first ∙ value_is depth (Token.number s ∷ r);
  is = rw is;
}

-- ---- arrays

-- where no bracket closes, a value may begin
not_closed : (depth : ℕ) (ts : List Token) (j : json.Json) (r : List Token) → json.value depth ts ≡ Some (j, r) → after_end_array ts ≡ None
not_closed depth [] j r reads = refl
not_closed depth (Token.begin_object ∷ ts) j r reads = refl
not_closed depth (Token.end_object ∷ ts) j r reads = refl
not_closed depth (Token.begin_array ∷ ts) j r reads = refl
not_closed depth (Token.end_array ∷ ts) j r reads =
    let none : json.value depth (Token.end_array ∷ ts) ≡ None = value_is depth (Token.end_array ∷ ts) in
    absurd cc
not_closed depth (Token.key s ∷ ts) j r reads = refl
not_closed depth (Token.string s ∷ ts) j r reads = refl
not_closed depth (Token.number s ∷ ts) j r reads = refl
not_closed depth (Token.boolean b ∷ ts) j r reads = refl
not_closed depth (Token.null ∷ ts) j r reads = refl
not_closed depth (Token.bad ∷ ts) j r reads = refl

pub closes-end : (depth : ℕ) (ts r : List Token) → after_end_array ts ≡ Some r → Closes depth ts no_items r
closes-end depth ts r closed = record {
  values = json.no_items;
  reads = λ turns enough. items_end (json.value depth) turns ts r enough closed;
  is = refl;
}

pub closes-more : (depth : ℕ) (ts us r : List Token) (d : Data) (ds : Items) → Begins depth ts d us → Closes depth us ds r → Closes depth ts (item d ds) r
closes-more depth ts us r d ds first others =
    let less : length us < length ts = skip_value-shorter depth ts us (ap left first.reads) in
    record {
      values = json.item first.value others.values;
      reads = λ turns enough.
          items_more (json.value depth) turns ts us first.value (omega arith) (not_closed depth ts first.value us first.reads) first.reads
          ∙ ap (parse_map (json.item first.value)) (others.reads (turns - 1) (omega arith));
      is = rw (first.is, others.is);
    }

pub begins-array : (depth : ℕ) (ts us r : List Token) (ds : Items) → ts ≡ Token.begin_array ∷ us → Closes depth us ds r → Begins (depth + 1) ts (array ds) r
begins-array depth ts us r ds first elements =
    let same : depth + 1 - 1 ≡ depth = omega arith in
    record {
      value = json.array elements.values;
      reads = ap (json.value (depth + 1)) first ∙ value-begin_array (depth + 1) us (omega arith) ∙ rw same (ap (parse_map json.array) (elements.reads (length us) (omega arith)));
      is = rw elements.is;
    }

-- ---- the elements of a tuple

pub value_said-text : (place : ℕ) (s t : List ℕ) → length s ≤ 24 → t ≡ s → value_said place (string s) ≡ Ok (Text t)
value_said-text place s t fits same = rw (le-leb _ _ fits, same)

-- Whatever elements stand from `now` on, those from `start` on are more by these values.
pub record IsFront (depth : ℕ) (start now : List Token) (values : List Value) : Type 0 where
  pub joins : (ds : Items) (r : List Token) → Closes depth now ds r
      → (es : Items) × Closes depth start es r × (items_len es ≡ length values + items_len ds) × (values_said 0 es ≡ with_front values (values_said (length values) ds))

pub IsFront-start : (depth : ℕ) (start : List Token) (values : List Value) → values ≡ [] → IsFront depth start start values
IsFront-start depth start values none = rw none (record { joins = λ ds r closes. (ds, closes, omega arith, sym (nothing_in_front (values_said 0 ds))) })

pub IsFront-more : (depth : ℕ) (start now next : List Token) (values : List Value) (d : Data) (v : Value) → IsFront depth start now values → Begins depth now d next
    → ((place : ℕ) → value_said place d ≡ Ok v) → IsFront depth start next (values ++ v ∷ [])
IsFront-more depth start now next values d v front first said = record {
  joins = λ ds r closes.
      let all = front.joins (item d ds) r (closes-more depth now next r d ds first closes) in
      let count : length (values ++ v ∷ []) ≡ length values + 1 = length_push values v in
      let others = values_said (length values + 1) ds in
      let one : with_front values (values_said (length values) (item d ds)) ≡ with_front (values ++ v ∷ []) others =
      rw (said (length values)) (one_in_front values v others) in
      (all.0, all.1, omega arith, all.3 ∙ one ∙ ap (λ n. with_front (values ++ v ∷ []) (values_said n ds)) (sym count));
}

pub IsFront-end : (depth : ℕ) (start now r : List Token) (values : List Value) → IsFront depth start now values → length values ≤ 8 → after_end_array now ≡ Some r
    → (es : Items) × Closes depth start es r × (tuple_said es ≡ Ok (record { items = values }))
IsFront-end depth start now r values front few closed =
    let all = front.joins no_items r (closes-end depth now r closed) in
    let few : nat_lt 8 (items_len all.0) ≡ false = grind (arith, nat_tests) in
    let said : values_said 0 all.0 ≡ Ok values = all.3 ∙ ap (λ vs. Ok vs) (append-nil values) in
    (all.0, all.1, rw (few, said))

-- ---- a line

pub read-all : (line : List ℕ) (d : Data) (r : List Token) → Begins 127 (tokens line) d r → r ≡ [] → read line ≡ Some d
read-all line d r whole none = rw (whole.reads, none) whole.is
