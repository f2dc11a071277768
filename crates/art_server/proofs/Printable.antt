-- Rows that a scan lists can be printed: a tuple that stands in a schema has whole numbers from -2^63 to 2^64 - 1.
use Rattle.std.proofs.Common.{◌≡◌, ℕ, ◌+◌, ◌^◌, ◌<◌, Bool, true, false, cond, eqb, nat_lt, List, [], ◌∷◌, length, ℤ, pos, negsuc, neg_ℤ, ◌+ℤ◌, ◌-ℤ◌, ◌≤ℤ◌, All, Option, Some, None, Ok, refl, sym, subst, arith, eqb-true}
use Rattle.std.proofs.lemmas.Bool.Decides.{nat_tests}
use Rattle.std.proofs.lemmas.Int.{ints}
use Rattle.std.proofs.lemmas.List.Elements.{All-from_recursion}
use Rattle.std.specs.List.{AllByRecursion}
use Rattle.std.specs.Option.{option_or}
use Rattle.art_key.specs.declared.columns.Column.{Column}
use Rattle.art_key.specs.declared.columns.Kind.{Kind}
use Rattle.art_key.specs.declared.columns.Kind.TheVariants as kind
use Rattle.art_key.specs.declared.faults.ValueFault.{ValueFault}
use Rattle.art_key.specs.declared.faults.ValueFault.TheVariants.{WrongColumns, OutOfRange}
use Rattle.art_key.specs.Columns.{kind_coding, value_fault, first_fault}
use Rattle.art_key.specs.Histories.{StandsIn, bound_at}
use Rattle.art_key.specs.Kinds.{distance_fault, least_signed}
use Rattle.art_model.proofs.Parts.{All-each}
use Rattle.art_model.specs.declared.rows.Row.{Row}
use Rattle.art_model.specs.declared.values.Value.{Value}
use Rattle.art_model.specs.declared.values.Value.TheVariants.{Bool as Truth, Int, Text}
use Rattle.art_model.specs.Rows.{Tuple}
use Rattle.art_scan.proofs.Listed.{StandsFrom, listed_within}
use Rattle.art_scan.specs.declared.faults.ScanFault.{ScanFault}
use Rattle.art_scan.specs.declared.scans.More.{More}
use Rattle.art_scan.specs.Scans.{Scans, scan_fault}
use Rattle.art_scan.specs.Tiles.{rows_of}
use Rattle.art_scan.specs.ArtTable.declared.passes.Pass.{Pass}
use Rattle.art_scan.specs.ArtTable.declared.tables.Table.{Table}
use Rattle.art_scan.specs.ArtTable.Tables.{schema_in}
use Rattle.art_server.specs.Replies.{IsPrintableValue, IsPrintableRow}

-- ---- one value

-- a number without a fault is above the least one of its column by less than the column has numbers
within_units : (k place : ℕ) (d : ℤ) → distance_fault k place d ≡ None → (n : ℕ) × (d ≡ pos n) × (n < 256 ^ k)
within_units k place (pos n) none = (n, refl, by (nat_lt n (256 ^ k)) refl none)
  where
    by : (b : Bool) → nat_lt n (256 ^ k) ≡ b → ◌≡◌ {A = Option ValueFault} (cond b None (Some (OutOfRange place))) None → n < 256 ^ k
    by true e none = grind (arith, nat_tests)
    by false e none = absurd cc
within_units k place (negsuc n) none = absurd cc

-- where the least and the greatest number of a column can be printed, each of its numbers can
whole_printable : (k : ℕ) (least : ℤ) (place : ℕ) (z : ℤ) → neg_ℤ (pos (2 ^ 63)) ≤ℤ least → (least +ℤ pos (256 ^ k)) ≤ℤ pos (2 ^ 64)
    → distance_fault k place (z -ℤ least) ≡ None → IsPrintableValue (Int z)
whole_printable k least place z low high none =
    let above = within_units k place (z -ℤ least) none in
    by (256 ^ k) above.0 high above.1 above.2
  where
    by : (unit n : ℕ) → (least +ℤ pos unit) ≤ℤ pos (2 ^ 64) → (z -ℤ least) ≡ pos n → n < unit → IsPrintableValue (Int z)
    by unit n high same less = (omega (arith, ints), omega (arith, ints))

value_printable : (k : Kind) (place : ℕ) (v : Value) → (kind_coding k).fault place v ≡ None → IsPrintableValue v
value_printable k place (Truth b) none = tt
value_printable k place (Text s) none = tt
value_printable kind.Bool place (Int z) none = absurd cc
value_printable kind.U8 place (Int z) none = whole_printable 1 (pos 0) place z (omega (arith, ints)) (omega (arith, ints)) none
value_printable kind.U16 place (Int z) none = whole_printable 2 (pos 0) place z (omega (arith, ints)) (omega (arith, ints)) none
value_printable kind.U32 place (Int z) none = whole_printable 4 (pos 0) place z (omega (arith, ints)) (omega (arith, ints)) none
value_printable kind.U64 place (Int z) none = whole_printable 8 (pos 0) place z (omega (arith, ints)) (omega (arith, ints)) none
value_printable kind.I8 place (Int z) none = whole_printable 1 (least_signed 1) place z (omega (arith, ints)) (omega (arith, ints)) none
value_printable kind.I16 place (Int z) none = whole_printable 2 (least_signed 2) place z (omega (arith, ints)) (omega (arith, ints)) none
value_printable kind.I32 place (Int z) none = whole_printable 4 (least_signed 4) place z (omega (arith, ints)) (omega (arith, ints)) none
value_printable kind.I64 place (Int z) none = whole_printable 8 (least_signed 8) place z (omega (arith, ints)) (omega (arith, ints)) none
value_printable (kind.Text longest) place (Int z) none = absurd cc

-- ---- one row

or_none : (o p : Option ValueFault) → option_or o p ≡ None → (o ≡ None) × (p ≡ None)
or_none None p none = (refl, none)
or_none (Some f) p none = absurd cc

values_printable : (cs : List Column) (place : ℕ) (vs : List Value) → length cs ≡ length vs → first_fault place cs vs ≡ None
    → AllByRecursion IsPrintableValue vs
values_printable cs place [] same none = tt
values_printable [] place (v ∷ vs) same none = absurd (omega arith)
values_printable (c ∷ cs) place (v ∷ vs) same none =
    let parts = or_none (value_fault place c v) (first_fault (place + 1) cs vs) none in
    (value_printable c.kind place v parts.0, values_printable cs (place + 1) vs (omega arith) parts.1)

tuple_printable : (cs : List Column) (vs : List Value) (same : Bool) → eqb (length cs) (length vs) ≡ same
    → cond same (first_fault 0 cs vs) (Some WrongColumns) ≡ None → AllByRecursion IsPrintableValue vs
tuple_printable cs vs true same none = values_printable cs 0 vs (eqb-true (length cs) (length vs) same) none
tuple_printable cs vs false same none = absurd cc

row_printable : (schema : List Column) (row : Row) → StandsIn schema row.tuple → IsPrintableRow row
row_printable schema row stands =
    All-from_recursion IsPrintableValue row.tuple.items
    (tuple_printable schema row.tuple.items (eqb (length schema) (length row.tuple.items)) refl stands)

-- ---- the rows of a scan

module _ (t : Table) (lo hi : Tuple) (limit turns : ℕ) (p : Pass) (rows : List Row) (more : More) (q : Pass) where
  pub listed_printable : Scans t lo hi limit turns p rows (Ok more) q → All IsPrintableRow rows
  listed_printable scans = by (scan_fault (schema_in t) lo hi limit) refl
    where
      by : (fault : Option ScanFault) → scan_fault (schema_in t) lo hi limit ≡ fault → All IsPrintableRow rows
      by (Some f) is = absurd (let (told, _, _) = scans.fault f is in cc)
      by None is =
          let scanned = scans.scanned is in
          let schema = schema_in t in
          let tiles = scanned.tiles in
          let from = bound_at schema lo in
          let within = listed_within schema tiles from scanned.reached scanned.tiled.tiles_are in
          let can_print = λ (row : Row) (at : StandsFrom schema from scanned.reached row). row_printable schema row at.stands in
          let each = All-each (StandsFrom schema from scanned.reached) IsPrintableRow can_print (rows_of tiles) within in
          subst (λ (l : List Row). All IsPrintableRow l) (sym scanned.ends.rows_are) (All-from_recursion IsPrintableRow (rows_of tiles) each)
