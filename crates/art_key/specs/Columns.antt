-- The columns of a schema, and which tuples stand in one.
use Rattle.std.specs.Prelude.{ℕ, ◌+◌, ◌≤◌, List, [], ◌∷◌, length, map, ◌==◌, if◌then◌else◌, Option, Some, None, ⊤}
use Rattle.std.specs.Option.{option_or}
use Rattle.art_model.specs.declared.values.Value.{Value}
use Rattle.art_model.specs.Rows.{Order}
use Rattle.art_key.specs.declared.columns.Column.{Column}
use Rattle.art_key.specs.declared.columns.Kind.{Kind}
use Rattle.art_key.specs.declared.columns.Kind.TheVariants.{Bool, U8, U16, U32, U64, I8, I16, I32, I64, Text}
use Rattle.art_key.specs.declared.faults.ValueFault.{ValueFault}
use Rattle.art_key.specs.declared.faults.ValueFault.TheVariants.{WrongColumns}
use Rattle.art_key.specs.Kinds.{Coding, in_order, truth, unsigned, signed, text}

-- ---- columns

abbrev pub kind_coding : Kind → Coding
kind_coding Bool = truth
kind_coding U8 = unsigned 1
kind_coding U16 = unsigned 2
kind_coding U32 = unsigned 4
kind_coding U64 = unsigned 8
kind_coding I8 = signed 1
kind_coding I16 = signed 2
kind_coding I32 = signed 4
kind_coding I64 = signed 8
kind_coding (Text longest) = text longest

-- the values of the column's kind, in its order
abbrev pub coding_of : Column → Coding
coding_of c = in_order c.descends (kind_coding c.kind)

-- the longest text of a text column: 24 bytes
abbrev pub IsKind : Kind → Type 0
IsKind Bool = ⊤
IsKind U8 = ⊤
IsKind U16 = ⊤
IsKind U32 = ⊤
IsKind U64 = ⊤
IsKind I8 = ⊤
IsKind I16 = ⊤
IsKind I32 = ⊤
IsKind I64 = ⊤
IsKind (Text longest) = (1 ≤ longest) × (longest ≤ 24)

abbrev pub IsColumn : Column → Type 0
IsColumn c = IsKind c.kind

-- for each column, whether its values descend
abbrev pub order_of : List Column → Order
order_of schema = record { items = map (λ c. c.descends) schema }

-- how many bytes a value of the column has at most
abbrev pub width : Column → ℕ
width c = (coding_of c).width

-- how many bytes a key has at most
abbrev pub total_width : List Column → ℕ
total_width [] = 0
total_width (c ∷ cs) = width c + total_width cs

-- ---- tuples

-- what is wrong with a value in the column at a place
abbrev pub value_fault : ℕ → Column → Value → Option ValueFault
value_fault place c v = (coding_of c).fault place v

-- the first fault of values in their columns, from a place on
abbrev pub first_fault : ℕ → List Column → List Value → Option ValueFault
first_fault place [] vs = None
first_fault place (c ∷ cs) [] = None
first_fault place (c ∷ cs) (v ∷ vs) = option_or (value_fault place c v) (first_fault (place + 1) cs vs)

-- what is wrong with a tuple under a schema: each column has one value, and each value stands in its column
abbrev pub tuple_fault : List Column → List Value → Option ValueFault
tuple_fault schema tuple = if length schema == length tuple then first_fault 0 schema tuple else Some WrongColumns
