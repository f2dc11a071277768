-- What a line says.
use Rattle.std.specs.Prelude.{ℕ, ◌+◌, List, [], ◌∷◌, length, nat_lt, nat_le, ℤ, pos, codes, bytes_eq, if◌then◌else◌, Option, Some, None, option_map, option_and_then, Result, Ok, Err}
use Rattle.std.specs.Option.{option_or, ok_or}
use Rattle.std.specs.Str.{is_utf8}
use Rattle.art_model.specs.declared.commands.Command.{Command}
use Rattle.art_model.specs.declared.commands.Command.TheVariants.{Insert, Remove, Get, Scan}
use Rattle.art_model.specs.declared.values.Value.{Value}
use Rattle.art_model.specs.declared.values.Value.TheVariants.{Bool, Int, Text}
use Rattle.art_model.specs.Rows.{Tuple}
use Rattle.art_key.specs.declared.faults.ValueFault.{ValueFault}
use Rattle.art_key.specs.declared.faults.ValueFault.TheVariants.{WrongColumns, WrongType, TextTooLong}
use Rattle.serde_json.specs.Data.{Num, Data, null, boolean, number, string, array, object, Items, no_items, item}
use Rattle.serde_json.specs.Events.{items_len}
use Rattle.serde_json.specs.Find.{as_array, as_number, as_str, as_u64, as_i64}
use Rattle.serde_json.specs.Read.{read}
use Rattle.art_lines.specs.declared.lines.LineFault.{LineFault}
use Rattle.art_lines.specs.declared.lines.LineFault.TheVariants.{BadLine, LineTooLong, BadCommand, NoMemory}
use Rattle.art_lines.specs.declared.lines.LineFault.TheVariants as fault

-- the longest line, in bytes, without its line feed
abbrev pub line_bytes : ℕ
line_bytes = 4096

-- the data that a line is the JSON text of
abbrev pub data_of_line : List ℕ → Option Data
data_of_line line = if is_utf8 line then read line else None

infixl 10 ◌>>=◌
-- the next step, unless there is a fault
abbrev pub ◌>>=◌ : {A B F : Type 0} → Result A F → (A → Result B F) → Result B F
Err f >>= next = Err f
Ok a >>= next = next a

-- ---- the elements of a tuple

-- A whole number from -2^63 to 2^64 - 1. JSON text with a fraction or an exponent, or outside this range, is a float, and so is `-0`.
abbrev pub whole_number : Num → Option ℤ
whole_number n = option_or (option_map (λ u. pos u) (as_u64 n)) (as_i64 n)

-- The value that the element at a place is: true or false, a whole number, or a text of at most 24 bytes.
abbrev pub value_said : ℕ → Data → Result Value ValueFault
value_said place null = Err (WrongType place)
value_said place (boolean b) = Ok (Bool b)
value_said place (number n) = ok_or (option_map (λ z. Int z) (whole_number n)) (WrongType place)
value_said place (string s) = if nat_le (length s) 24 then Ok (Text s) else Err (TextTooLong place)
value_said place (array ds) = Err (WrongType place)
value_said place (object ms) = Err (WrongType place)

-- The values of the elements from a place on: the first that is no value decides.
abbrev pub values_said : ℕ → Items → Result (List Value) ValueFault
values_said place no_items = Ok []
values_said place (item d ds) = do
  first ← value_said place d
  others ← values_said (place + 1) ds
  Ok (first ∷ others)

abbrev pub tuple_of_values : Result (List Value) ValueFault → Result Tuple ValueFault
tuple_of_values values = do
  vs ← values
  Ok (record { items = vs })

-- A tuple has at most eight elements, and may have none.
abbrev pub tuple_said : Items → Result Tuple ValueFault
tuple_said elements = if nat_lt 8 (items_len elements) then Err WrongColumns else tuple_of_values (values_said 0 elements)

-- ---- the shape of a command, which is looked at before the elements of its tuples

-- a tuple's fault is a line's
abbrev pub tuple_told : Result Tuple ValueFault → Result Tuple LineFault
tuple_told (Err f) = Err (fault.Value f)
tuple_told (Ok tuple) = Ok tuple

-- the elements of an array in the place of a tuple
abbrev pub elements_in : Data → Result Items LineFault
elements_in d = ok_or (as_array d) BadCommand

-- the tuple that an array in its place says
abbrev pub tuple_in : Data → Result Tuple LineFault
tuple_in d = do
  elements ← elements_in d
  tuple_told (tuple_said elements)

-- a whole number from 0 to 2^64 - 1 in the place of a value to store, or of a limit
abbrev pub number_said : Data → Result ℕ LineFault
number_said d = ok_or (option_and_then as_u64 (as_number d)) BadCommand

abbrev pub insert_of : Result ℕ LineFault → Result Tuple LineFault → Result Command LineFault
insert_of value tuple = do
  v ← value
  t ← tuple
  Ok (Insert t v)

-- what stands after "insert": a tuple, and the value to store
abbrev pub insert_said : Items → Result Command LineFault
insert_said no_items = Err BadCommand
insert_said (item t no_items) = Err BadCommand
insert_said (item t (item v no_items)) = insert_of (number_said v) (tuple_in t)
insert_said (item t (item v (item d ds))) = Err BadCommand

-- what stands after "remove" and after "get": a tuple
abbrev pub tuple_alone : Items → Result Tuple LineFault
tuple_alone no_items = Err BadCommand
tuple_alone (item t no_items) = tuple_in t
tuple_alone (item t (item d ds)) = Err BadCommand

abbrev pub remove_of : Result Tuple LineFault → Result Command LineFault
remove_of tuple = do
  t ← tuple
  Ok (Remove t)

abbrev pub get_of : Result Tuple LineFault → Result Command LineFault
get_of tuple = do
  t ← tuple
  Ok (Get t)

-- both arrays and the limit come first, then the elements of the lower tuple, then those of the upper one
abbrev pub scan_of : Result Items LineFault → Result Items LineFault → Result ℕ LineFault → Result Command LineFault
scan_of lower upper limit = do
  low ← lower
  high ← upper
  most ← limit
  lo ← tuple_told (tuple_said low)
  hi ← tuple_told (tuple_said high)
  Ok (Scan lo hi most)

-- what stands after "scan": the lower tuple, the upper one, and the limit
abbrev pub scan_said : Items → Result Command LineFault
scan_said no_items = Err BadCommand
scan_said (item lo no_items) = Err BadCommand
scan_said (item lo (item hi no_items)) = Err BadCommand
scan_said (item lo (item hi (item n no_items))) = scan_of (elements_in lo) (elements_in hi) (number_said n)
scan_said (item lo (item hi (item n (item d ds)))) = Err BadCommand

-- the command's word, and what stands after it
abbrev pub word_said : List ℕ → Items → Result Command LineFault
word_said word rest =
    if bytes_eq word (codes "insert") then insert_said rest
    else if bytes_eq word (codes "remove") then remove_of (tuple_alone rest)
    else if bytes_eq word (codes "get") then get_of (tuple_alone rest)
    else if bytes_eq word (codes "scan") then scan_said rest
    else Err BadCommand

abbrev pub first_said : Option (List ℕ) → Items → Result Command LineFault
first_said None rest = Err BadCommand
first_said (Some word) rest = word_said word rest

abbrev pub items_said : Option Items → Result Command LineFault
items_said None = Err BadCommand
items_said (Some no_items) = Err BadCommand
items_said (Some (item d rest)) = first_said (as_str d) rest

-- an array of a command's word and what stands after it
abbrev pub command_said : Data → Result Command LineFault
command_said d = items_said (as_array d)

-- ---- lines

abbrev pub data_says : Option Data → Result Command LineFault
data_says None = Err BadLine
data_says (Some d) = command_said d

-- a line too long, a line that is no JSON text, or what its data says
abbrev pub line_says : List ℕ → Result Command LineFault
line_says line = if nat_lt line_bytes (length line) then Err LineTooLong else data_says (data_of_line line)

-- What a fault is printed as. A tuple's fault is printed in its own words, which nothing is said of.
abbrev pub fault_text : LineFault → Option (List ℕ)
fault_text BadLine = Some (codes "no JSON text")
fault_text LineTooLong = Some (codes "line too long")
fault_text BadCommand = Some (codes "no command")
fault_text (fault.Value f) = None
fault_text NoMemory = Some (codes "no memory")
