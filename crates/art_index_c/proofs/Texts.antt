-- Whether bytes are a text, as a test.
use Rattle.std.proofs.Common.{◌≡◌, ◌≤◌, ℕ, List, take, Bool, true, false, if◌then◌else◌, Result, Ok, Err, refl, ap, ◌∙◌}
use Rattle.std.specs.Str.{IsUtf8, is_utf8}
use Rattle.std.proofs.lemmas.Bool.{le-ltb}
use Rattle.std.proofs.lemmas.Str.{IsUtf8-from_is_utf8, is_utf8-from_IsUtf8}
use Rattle.art_index_c.specs.Columns.{text_of}
use Rattle.art_index_c.specs.Opening.{schema_named}
use Rattle.art_key.specs.Schemas.{schema_of}
use Rattle.art_key.specs.declared.columns.Column.{Column}
use Rattle.art_key.specs.declared.faults.SchemaFault.{SchemaFault}
use Rattle.art_key.specs.declared.faults.SchemaFault.TheVariants.{BadColumn}
use Rattle.art_key.specs.declared.faults.ValueFault.{ValueFault}
use Rattle.art_key.specs.declared.faults.ValueFault.TheVariants.{TextTooLong, WrongType}
use Rattle.art_model.specs.declared.values.Value.{Value}
use Rattle.art_model.specs.declared.values.Value.TheVariants.{Text}

pub is_text : (bs : List ℕ) → IsUtf8 bs → is_utf8 bs ≡ true
is_text bs text = is_utf8-from_IsUtf8 bs text

false_else : (b : Bool) → (b ≡ true → ⊥) → b ≡ false
false_else true not = absurd (not refl)
false_else false not = refl

pub is_no_text : (bs : List ℕ) → ¬ (IsUtf8 bs) → is_utf8 bs ≡ false
is_no_text bs not = false_else (is_utf8 bs) (λ yes. not (IsUtf8-from_is_utf8 bs yes))

-- ---- the text of the first bytes

pub text_of-text : (place count : ℕ) (bs : List ℕ) → count ≤ 24 → IsUtf8 (take count bs) → text_of place count bs ≡ Ok (Text (take count bs))
text_of-text place count bs few text =
    let If_many : Bool → Result Value ValueFault = λ t. if t then Err (TextTooLong place)
    else (if is_utf8 (take count bs) then Ok (Text (take count bs)) else Err (WrongType place)) in
    let If_text : Bool → Result Value ValueFault = λ t. if t then Ok (Text (take count bs)) else Err (WrongType place) in
    ap If_many (le-ltb 24 count few) ∙ ap If_text (is_text (take count bs) text)

pub text_of-none : (place count : ℕ) (bs : List ℕ) → count ≤ 24 → ¬ (IsUtf8 (take count bs)) → text_of place count bs ≡ Err (WrongType place)
text_of-none place count bs few none =
    let If_many : Bool → Result Value ValueFault = λ t. if t then Err (TextTooLong place)
    else (if is_utf8 (take count bs) then Ok (Text (take count bs)) else Err (WrongType place)) in
    let If_text : Bool → Result Value ValueFault = λ t. if t then Ok (Text (take count bs)) else Err (WrongType place) in
    ap If_many (le-ltb 24 count few) ∙ ap If_text (is_no_text (take count bs) none)

-- ---- the schema that bytes name

pub schema_named-text : (bs : List ℕ) → IsUtf8 bs → schema_named bs ≡ schema_of bs
schema_named-text bs text =
    let If_text : Bool → Result (List Column) SchemaFault = λ t. if t then schema_of bs else Err (BadColumn 0) in
    ap If_text (is_text bs text)

pub schema_named-none : (bs : List ℕ) → ¬ (IsUtf8 bs) → schema_named bs ≡ Err (BadColumn 0)
schema_named-none bs none =
    let If_text : Bool → Result (List Column) SchemaFault = λ t. if t then schema_of bs else Err (BadColumn 0) in
    ap If_text (is_no_text bs none)
