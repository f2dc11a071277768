-- The laws of keys.
use Rattle.std.specs.Prelude.{◌≡◌, ℕ, ◌≤◌, List, [], ◌++◌, length, Some, None}
use Rattle.std.specs.Ordering.{nat_cmp}
use Rattle.std.specs.Cmp.Lexicographic.{slice_cmp}
use Rattle.art_model.specs.declared.values.Value.{Value}
use Rattle.art_model.specs.Rows.{values_cmp}
use Rattle.art_key.specs.declared.columns.Column.{Column}
use Rattle.art_key.specs.Columns.{order_of, total_width, tuple_fault}
use Rattle.art_key.specs.Kinds.{AreBytes}
use Rattle.art_key.specs.Spelling.{spelling, IsSpelling, tuple_spelled}

-- keys of one schema stand in byte order as their tuples stand in its order
abbrev pub KeysStandAsTuples : Type 0
KeysStandAsTuples = (schema : List Column) (a b : List Value) → tuple_fault schema a ≡ None → tuple_fault schema b ≡ None
    → slice_cmp nat_cmp (spelling schema a) (spelling schema b) ≡ values_cmp (order_of schema).items a b

-- a key that begins another key of its schema is that key, of the same tuple
abbrev pub NoKeyBeginsAnother : Type 0
NoKeyBeginsAnother = (schema : List Column) (a b : List Value) (rest : List ℕ) → tuple_fault schema a ≡ None → tuple_fault schema b ≡ None
    → spelling schema a ++ rest ≡ spelling schema b → (a ≡ b) × (rest ≡ [])

-- a key is read back as its tuple
abbrev pub TuplesAreReadBack : Type 0
TuplesAreReadBack = (schema : List Column) (tuple : List Value) → tuple_fault schema tuple ≡ None → tuple_spelled schema (spelling schema tuple) ≡ Some tuple

-- what bytes are read as is what they spell
abbrev pub WhatIsReadIsSpelled : Type 0
WhatIsReadIsSpelled = (schema : List Column) (tuple : List Value) (bytes : List ℕ) → AreBytes bytes → tuple_spelled schema bytes ≡ Some tuple → IsSpelling schema tuple bytes

abbrev pub SpellingsAreBytes : Type 0
SpellingsAreBytes = (schema : List Column) (tuple : List Value) (bytes : List ℕ) → IsSpelling schema tuple bytes → AreBytes bytes

-- no key is longer than its columns are wide
abbrev pub SpellingsAreNarrow : Type 0
SpellingsAreNarrow = (schema : List Column) (tuple : List Value) (bytes : List ℕ) → IsSpelling schema tuple bytes → length bytes ≤ total_width schema
