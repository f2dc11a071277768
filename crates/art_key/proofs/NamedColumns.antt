-- The columns of a list of names, as far as the names have been read.
use Rattle.std.proofs.Common.{◌≡◌, ℕ, ◌+◌, ◌<◌, ◌≤◌, List, [], ◌∷◌, ◌++◌, length, get_or, drop, Option, Some, None, Result, Ok, Err, true, Bor, lit<, refl, sym, ap, ◌∙◌, append_assoc}
use Rattle.std.specs.Result.{result_map_both}
use Rattle.std.proofs.lemmas.List.{at_drop_more, at_drop_all, append-nil}
use Rattle.std.proofs.lemmas.Iterator.Consumers.{YieldsList-turn}
use Rattle.std.proofs.lemmas.Iterator.Splits.{YieldsList-from_str_split}
use Rattle.std.specs.Iterator.{Yields}
use Rattle.std.specs.Str.Iter.{split_steps, split_text, split_has_more, split_pattern}
use Rattle.std.specs.Str.Pattern.{FindsChar}
use Rattle.std.specs.declared.str.Split.{Split}
use Rattle.art_key.specs.declared.columns.Column.{Column}
use Rattle.art_key.specs.declared.faults.SchemaFault.{SchemaFault}
use Rattle.art_key.specs.declared.faults.SchemaFault.TheVariants.{BadColumn}
use Rattle.art_key.specs.Schemas.{column_of, columns_of, parts, with_first}

-- columns, and after them those of the other names
abbrev pub before : List Column → Result (List Column) SchemaFault → Result (List Column) SchemaFault
before cs others = result_map_both (λ more. cs ++ more) (λ fault. fault) others

-- at the name of a column
before-first : (cs : List Column) (c : Column) (place : ℕ) (others : Result (List Column) SchemaFault) → before cs (with_first place (Some c) others) ≡ before (cs ++ c ∷ []) others
before-first cs c place (Ok more) = ap Ok (sym (append_assoc cs (c ∷ []) more))
before-first cs c place (Err fault) = refl

-- a name that stands at a place
abbrev pub IsNameAt : List (List ℕ) → ℕ → List ℕ → Type 0
IsNameAt names place name = (place < length names) × (name ≡ get_or names place name)

-- the name that a walk over the parts of a text reads after others
pub name_after : (start now next : Split ℕ) (text : List ℕ) → split_text start ≡ text → split_has_more start ≡ true → split_pattern start ≡ 44
    → (others : List (Bor (List ℕ))) → Yields (split_steps FindsChar (λ p q. q ≡ p)) start others now
    → {read : Option (Bor (List ℕ))} (name : Bor (List ℕ)) → read ≡ Some name → split_steps FindsChar (λ p q. q ≡ p) now read next → IsNameAt (parts text) (length others) name.now
name_after start now next text whole more comma others walked name reads steps = YieldsList-turn (YieldsList-from_str_split 44 text (lit< tt) whole more comma) others now walked _ next name reads steps

columns_of-more : (names : List (List ℕ)) (place : ℕ) (name : List ℕ) → IsNameAt names place name
    → columns_of place (drop place names) ≡ with_first place (column_of name) (columns_of (place + 1) (drop (place + 1) names))
columns_of-more names place name here =
    at_drop_more (columns_of place) names place name here.0 ∙ ap (λ n. with_first place (column_of n) (columns_of (place + 1) (drop (place + 1) names))) (sym here.1)

pub columns_of-known : (cs : List Column) (c : Column) (names : List (List ℕ)) (place : ℕ) (name : List ℕ) → IsNameAt names place name → column_of name ≡ Some c
    → before cs (columns_of place (drop place names)) ≡ before (cs ++ c ∷ []) (columns_of (place + 1) (drop (place + 1) names))
columns_of-known cs c names place name here known =
    let others = columns_of (place + 1) (drop (place + 1) names) in
    ap (before cs) (columns_of-more names place name here ∙ ap (λ o. with_first place o others) known) ∙ before-first cs c place others

pub columns_of-unknown : (cs : List Column) (names : List (List ℕ)) (place : ℕ) (name : List ℕ) → IsNameAt names place name → column_of name ≡ None
    → before cs (columns_of place (drop place names)) ≡ Err (BadColumn place)
columns_of-unknown cs names place name here unknown =
    let others = columns_of (place + 1) (drop (place + 1) names) in
    ap (before cs) (columns_of-more names place name here ∙ ap (λ o. with_first place o others) unknown)

pub columns_of-end : (cs : List Column) (names : List (List ℕ)) (place : ℕ) → length names ≤ place → before cs (columns_of place (drop place names)) ≡ Ok cs
columns_of-end cs names place end = at_drop_all (λ ns. before cs (columns_of place ns)) names place end ∙ ap Ok (append-nil cs)
