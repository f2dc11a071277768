-- What the text of a schema names.
use Rattle.std.specs.Prelude.{ℕ, ◌+◌, ◌++◌, List, [], ◌∷◌, length, map, find, Bool, true, false, nat_lt, nat_eq, ◌==◌, if◌then◌else◌, Option, Some, None, Result, Ok, Err, codes, decimal}
use Rattle.std.specs.List.{range_with_len, slice_split}
use Rattle.std.specs.Cmp.Lexicographic.{pointwise}
use Rattle.art_key.specs.declared.columns.Column.{Column}
use Rattle.art_key.specs.declared.columns.Kind.{Kind}
use Rattle.art_key.specs.declared.columns.Kind.TheVariants.{Bool as Truth, U8, U16, U32, U64, I8, I16, I32, I64, Text}
use Rattle.art_key.specs.declared.faults.SchemaFault.{SchemaFault}
use Rattle.art_key.specs.declared.faults.SchemaFault.TheVariants.{NoColumns, TooManyColumns, KeyTooWide, BadColumn}
use Rattle.art_key.specs.Columns.{total_width}

abbrev pub kind_name : Kind → List ℕ
kind_name Truth = codes "bool"
kind_name U8 = codes "u8"
kind_name U16 = codes "u16"
kind_name U32 = codes "u32"
kind_name U64 = codes "u64"
kind_name I8 = codes "i8"
kind_name I16 = codes "i16"
kind_name I32 = codes "i32"
kind_name I64 = codes "i64"
kind_name (Text longest) = codes "text" ++ decimal longest

-- the kinds of texts: of at most 1 byte to at most 24
abbrev pub text_kinds : List Kind
text_kinds = map Text (range_with_len 1 24)

abbrev pub kinds : List Kind
kinds = Truth ∷ U8 ∷ U16 ∷ U32 ∷ U64 ∷ I8 ∷ I16 ∷ I32 ∷ I64 ∷ text_kinds

-- the first of kinds that has a name
abbrev pub kind_among : List Kind → List ℕ → Option Kind
kind_among ks name = find (λ k. pointwise nat_eq name (kind_name k)) ks

-- the name of the kind, with a `-` after it where the values descend
abbrev pub column_name : Column → List ℕ
column_name c = if c.descends then kind_name c.kind ++ codes "-" else kind_name c.kind

-- a column of each kind
abbrev pub columns_in : Bool → List Kind → List Column
columns_in descends ks = map (λ k. record { kind = k; descends = descends }) ks

-- every column
abbrev pub columns : List Column
columns = columns_in false kinds ++ columns_in true kinds

-- the first of columns that has a name
abbrev pub column_among : List Column → List ℕ → Option Column
column_among cs name = find (λ c. pointwise nat_eq name (column_name c)) cs

-- the column of a name
abbrev pub column_of : List ℕ → Option Column
column_of name = column_among columns name

-- the texts between the commas
abbrev pub parts : List ℕ → List (List ℕ)
parts text = slice_split (λ b. b == 44) text

abbrev pub with_first : ℕ → Option Column → Result (List Column) SchemaFault → Result (List Column) SchemaFault
with_first place None others = Err (BadColumn place)
with_first place (Some c) (Err fault) = Err fault
with_first place (Some c) (Ok cs) = Ok (c ∷ cs)

-- the columns of names, from a place on, or the first name that is of no column
abbrev pub columns_of : ℕ → List (List ℕ) → Result (List Column) SchemaFault
columns_of place [] = Ok []
columns_of place (name ∷ names) = with_first place (column_of name) (columns_of (place + 1) names)

-- no key is longer than 64 bytes
abbrev pub if_narrow : Result (List Column) SchemaFault → Result (List Column) SchemaFault
if_narrow (Err fault) = Err fault
if_narrow (Ok cs) = if nat_lt 64 (total_width cs) then Err KeyTooWide else Ok cs

-- the columns that a text names, or what is wrong with it: no text, more than eight names, the first name that is
-- of no column, or too wide a key
abbrev pub schema_of : List ℕ → Result (List Column) SchemaFault
schema_of text =
    if length text == 0 then Err NoColumns else if nat_lt 8 (length (parts text)) then Err TooManyColumns else if_narrow (columns_of 0 (parts text))
