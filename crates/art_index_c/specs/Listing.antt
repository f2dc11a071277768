-- What a scan of C does.
use Rattle.std.specs.Prelude.{◌≡◌, ℕ, List, length, map, Result, Ok, Err}
use Rattle.art_handle.specs.ArtScan.Scans.{Scans}
use Rattle.art_handle.specs.ArtScan.declared.faults.ScanFault.{ScanFault}
use Rattle.art_handle.specs.ArtScan.declared.faults.ScanFault.TheVariants.{Value}
use Rattle.art_handle.specs.ArtScan.declared.scans.More.{More}
use Rattle.art_handle.specs.Handles.{IsOfItsTable, pass_of, table_of}
use Rattle.art_handle.specs.declared.handles.Handle.{Handle}
use Rattle.art_index_c.specs.Calls.{turns}
use Rattle.art_index_c.specs.Columns.{over, row_of, tuple_of}
use Rattle.art_index_c.specs.Statuses.{scan_status}
use Rattle.art_index_c.specs.declared.columns.Column.{Column}
use Rattle.art_index_c.specs.declared.rows.Row.{Row}
use Rattle.art_key.specs.declared.faults.ValueFault.{ValueFault}
use Rattle.art_model.specs.Rows.{Tuple}
use Rattle.art_model.specs.declared.rows.Row.{Row as RowOf}

-- The handle h was to scan from the tuple of some columns to that of others, which ended so: it is k then. Columns that are no tuple come
-- first, the lower ones before the upper ones, and change nothing; else the scan was made.
pub record ScansBetween (h : Handle) (lo hi : List Column) (limit : ℕ) (found : List RowOf) (r : Result More ScanFault)
    (k : Handle) : Type 0 where
  pub own : IsOfItsTable k
  pub table : table_of k ≡ table_of h
  pub refused_lo : (f : ValueFault) → tuple_of lo ≡ Err f → (r ≡ Err (Value f)) × (k ≡ h)
  pub refused_hi : (a : Tuple) (f : ValueFault) → tuple_of lo ≡ Ok a → tuple_of hi ≡ Err f → (r ≡ Err (Value f)) × (k ≡ h)
  pub scanned : (a b : Tuple) → tuple_of lo ≡ Ok a → tuple_of hi ≡ Ok b
      → Scans (table_of h) a b limit turns (pass_of h) found r (pass_of k)

-- what is found stands first in the rows, and those behind are as they were; where the scan is refused, all are
abbrev pub rows_after : Result More ScanFault → List RowOf → List Row → List Row
rows_after (Ok more) found rows = over (map row_of found) rows
rows_after (Err fault) found rows = rows

-- how many are listed; where the scan is refused, the word is as it was
abbrev pub listed_after : Result More ScanFault → List RowOf → ℕ → ℕ
listed_after (Ok more) found listed = length found
listed_after (Err fault) found listed = listed

-- a scan, of as many rows as there is room for: it answered this status, and left these rows and this word
pub record Lists (h : Handle) (lo hi : List Column) (rows : List Row) (listed status : ℕ) (rows' : List Row) (listed' : ℕ)
    (k : Handle) : Type 0 where
  pub found : List RowOf
  pub told : Result More ScanFault
  pub scans : ScansBetween h lo hi (length rows) found told k
  pub status_is : status ≡ scan_status told
  pub rows_are : rows' ≡ rows_after told found rows
  pub listed_is : listed' ≡ listed_after told found listed
