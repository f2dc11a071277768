-- What the columns of C say, and how a value is written as one.
use Rattle.std.specs.Prelude.{ℕ, ℤ, ◌+◌, ◌%◌, ◌^◌, ◌==◌, ◌++◌, List, [], ◌∷◌, length, map, take, drop, replicate, not, nat_lt, true, false, if◌then◌else◌, pos, negsuc, Result, Ok, Err}
use Rattle.std.specs.Int.{cast_signed, cast_unsigned, w64, w128}
use Rattle.std.specs.Str.{is_utf8}
use Rattle.art_index_c.specs.declared.columns.Column.{Column}
use Rattle.art_index_c.specs.declared.rows.Row.{Row}
use Rattle.art_key.specs.declared.faults.ValueFault.{ValueFault}
use Rattle.art_key.specs.declared.faults.ValueFault.TheVariants.{TextTooLong, WrongColumns, WrongType}
use Rattle.art_model.specs.Rows.{Tuple}
use Rattle.art_model.specs.declared.rows.Row.{Row as RowOf}
use Rattle.art_model.specs.declared.values.Value.{Value}
use Rattle.art_model.specs.declared.values.Value.TheVariants.{Bool, Int, Text}

-- ---- what columns say

-- the text of the first bytes, at most 24 of them, if they are UTF-8
abbrev pub text_of : ℕ → ℕ → List ℕ → Result Value ValueFault
text_of place count bytes =
    if nat_lt 24 count then Err (TextTooLong place)
    else if is_utf8 (take count bytes) then Ok (Text (take count bytes)) else Err (WrongType place)

-- the value of the column at a place, by its kind: a truth value, a whole number, one with a sign, or a text
abbrev pub value_of : ℕ → Column → Result Value ValueFault
value_of place c =
    if c.kind == 0 then Ok (Bool (not (c.number == 0)))
    else if c.kind == 1 then Ok (Int (pos c.number))
    else if c.kind == 2 then Ok (Int (cast_signed w64 c.number))
    else if c.kind == 3 then text_of place c.length c.text
    else Err (WrongType place)

abbrev pub with_value : Result Value ValueFault → Result (List Value) ValueFault → Result (List Value) ValueFault
with_value (Err fault) others = Err fault
with_value (Ok v) (Err fault) = Err fault
with_value (Ok v) (Ok vs) = Ok (v ∷ vs)

-- the values of columns from a place on, or what is wrong with the first bad one
abbrev pub values_of : ℕ → List Column → Result (List Value) ValueFault
values_of place [] = Ok []
values_of place (c ∷ cs) = with_value (value_of place c) (values_of (place + 1) cs)

abbrev pub as_tuple : Result (List Value) ValueFault → Result Tuple ValueFault
as_tuple (Ok vs) = Ok (record { items = vs })
as_tuple (Err fault) = Err fault

-- the tuple of columns, at most eight
abbrev pub tuple_of : List Column → Result Tuple ValueFault
tuple_of columns = if nat_lt 8 (length columns) then Err WrongColumns else as_tuple (values_of 0 columns)

-- ---- how values are written

-- these come first, in place of as many, and the others are as they were
abbrev pub over : {A : Type 0} → List A → List A → List A
over front all = front ++ drop (length front) all

abbrev pub column_with : ℕ → ℕ → ℕ → List ℕ → Column
column_with kind number count bytes = record {
  kind = kind;
  length = count;
  number = number;
  text = over bytes (replicate 24 0);
}

-- a whole number's low 64 bits, in two's complement
abbrev pub low_bits : ℤ → ℕ
low_bits z = cast_unsigned w128 z % 2 ^ 64

-- the column of a value: what it does not need is 0
abbrev pub column_of : Value → Column
column_of (Bool false) = column_with 0 0 0 []
column_of (Bool true) = column_with 0 1 0 []
column_of (Int (pos n)) = column_with 1 (low_bits (pos n)) 0 []
column_of (Int (negsuc n)) = column_with 2 (low_bits (negsuc n)) 0 []
column_of (Text bytes) = column_with 3 0 (length bytes) bytes

-- a row as C has it: its columns, and no more behind them
abbrev pub row_of : RowOf → Row
row_of r = record {
  columns = over (map column_of r.tuple.items) (replicate 8 (column_with 0 0 0 []));
  count = length r.tuple.items;
  value = r.value;
}
