-- The numbers and the names of the refusals, and the refusal of each fault of a value and of a schema.
use Rattle.std.specs.Prelude.{ℕ, List, ◌++◌, codes, decimal}
use Rattle.art_refusal.specs.declared.refusals.Refusal.{Refusal}
use Rattle.art_refusal.specs.declared.refusals.Refusal.TheVariants.{BadLine, LineTooLong, BadCommand, WrongColumns, WrongType, OutOfRange, TextTooLong, BadRange, BadLimit, Busy, Full, Crowded, Exhausted, NoMemory, NoColumns, TooManyColumns, KeyTooWide, BadColumn, BadConfig, PassesMissing}
use Rattle.art_key.specs.declared.faults.SchemaFault.{SchemaFault}
use Rattle.art_key.specs.declared.faults.SchemaFault.TheVariants as schema
use Rattle.art_key.specs.declared.faults.ValueFault.{ValueFault}
use Rattle.art_key.specs.declared.faults.ValueFault.TheVariants as value

-- the number that a client sees
abbrev pub refusal_number : Refusal → ℕ
refusal_number BadLine = 1
refusal_number LineTooLong = 2
refusal_number BadCommand = 3
refusal_number WrongColumns = 4
refusal_number WrongType = 5
refusal_number OutOfRange = 6
refusal_number TextTooLong = 7
refusal_number BadRange = 8
refusal_number BadLimit = 9
refusal_number Busy = 10
refusal_number Full = 11
refusal_number Crowded = 12
refusal_number Exhausted = 13
refusal_number NoMemory = 14
refusal_number NoColumns = 20
refusal_number TooManyColumns = 21
refusal_number KeyTooWide = 22
refusal_number BadColumn = 23
refusal_number BadConfig = 24
refusal_number PassesMissing = 25

-- the name beside it
abbrev pub refusal_name : Refusal → List ℕ
refusal_name BadLine = codes "BadLine"
refusal_name LineTooLong = codes "LineTooLong"
refusal_name BadCommand = codes "BadCommand"
refusal_name WrongColumns = codes "WrongColumns"
refusal_name WrongType = codes "WrongType"
refusal_name OutOfRange = codes "OutOfRange"
refusal_name TextTooLong = codes "TextTooLong"
refusal_name BadRange = codes "BadRange"
refusal_name BadLimit = codes "BadLimit"
refusal_name Busy = codes "Busy"
refusal_name Full = codes "Full"
refusal_name Crowded = codes "Crowded"
refusal_name Exhausted = codes "Exhausted"
refusal_name NoMemory = codes "NoMemory"
refusal_name NoColumns = codes "NoColumns"
refusal_name TooManyColumns = codes "TooManyColumns"
refusal_name KeyTooWide = codes "KeyTooWide"
refusal_name BadColumn = codes "BadColumn"
refusal_name BadConfig = codes "BadConfig"
refusal_name PassesMissing = codes "PassesMissing"

-- what a refusal is printed as, as `refused 24 BadConfig`
abbrev pub refusal_text : Refusal → List ℕ
refusal_text refusal = codes "refused " ++ decimal (refusal_number refusal) ++ codes " " ++ refusal_name refusal

-- ---- the refusal of a fault, by its name: the column is dropped

-- of a value that does not stand in its column
abbrev pub value_refusal : ValueFault → Refusal
value_refusal value.WrongColumns = WrongColumns
value_refusal (value.WrongType place) = WrongType
value_refusal (value.OutOfRange place) = OutOfRange
value_refusal (value.TextTooLong place) = TextTooLong

-- of columns that make no schema
abbrev pub schema_refusal : SchemaFault → Refusal
schema_refusal schema.NoColumns = NoColumns
schema_refusal schema.TooManyColumns = TooManyColumns
schema_refusal schema.KeyTooWide = KeyTooWide
schema_refusal (schema.BadColumn place) = BadColumn
