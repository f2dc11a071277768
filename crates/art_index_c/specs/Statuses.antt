-- The statuses, by what came of a call.
use Rattle.std.specs.Prelude.{ℕ, Option, Some, None, Result, Ok, Err}
use Rattle.art_key.specs.declared.faults.SchemaFault.{SchemaFault}
use Rattle.art_refusal.specs.Refusals.{refusal_number, schema_refusal}
use Rattle.art_handle.specs.ArtScan.Refusals.{scan_refusal}
use Rattle.art_handle.specs.ArtScan.declared.faults.ScanFault.{ScanFault}
use Rattle.art_handle.specs.ArtScan.declared.scans.More.{More}
use Rattle.art_handle.specs.ArtScan.declared.scans.More.TheVariants as more
use Rattle.art_handle.specs.ArtTable.Refusals.{fault_refusal, open_refusal}
use Rattle.art_handle.specs.ArtTable.declared.calls.Inserted.{Inserted}
use Rattle.art_handle.specs.ArtTable.declared.calls.Inserted.TheVariants as inserted
use Rattle.art_handle.specs.ArtTable.declared.faults.Fault.{Fault}
use Rattle.art_handle.specs.ArtTable.declared.faults.OpenFault.{OpenFault}

-- ---- the number of each fault, which is that of its refusal

-- of a call
abbrev pub fault_number : Fault → ℕ
fault_number fault = refusal_number (fault_refusal fault)

-- of a scan
abbrev pub scan_number : ScanFault → ℕ
scan_number fault = refusal_number (scan_refusal fault)

-- of a text that names no schema
abbrev pub schema_number : SchemaFault → ℕ
schema_number fault = refusal_number (schema_refusal fault)

-- of a table that is not opened
abbrev pub open_number : OpenFault → ℕ
open_number fault = refusal_number (open_refusal fault)

-- ---- the status of each end

-- of an insert
abbrev pub inserted_status : Result Inserted Fault → ℕ
inserted_status (Ok inserted.New) = 0
inserted_status (Ok (inserted.Present stands)) = 1
inserted_status (Err fault) = fault_number fault

-- of a removal or a get, which told a value or that no row has the tuple
abbrev pub found_status : Result (Option ℕ) Fault → ℕ
found_status (Ok (Some value)) = 0
found_status (Ok None) = 2
found_status (Err fault) = fault_number fault

-- of a scan
abbrev pub scan_status : Result More ScanFault → ℕ
scan_status (Ok more.End) = 0
scan_status (Ok more.Limit) = 1
scan_status (Err fault) = scan_number fault

-- ---- what is written out

-- the value that stands, where an insert told one; else the word is as it was
abbrev pub word_after_insert : Result Inserted Fault → ℕ → ℕ
word_after_insert (Ok (inserted.Present stands)) word = stands
word_after_insert (Ok inserted.New) word = word
word_after_insert (Err fault) word = word

-- the value of the row, where a removal or a get told one; else the word is as it was
abbrev pub word_after_found : Result (Option ℕ) Fault → ℕ → ℕ
word_after_found (Ok (Some value)) word = value
word_after_found (Ok None) word = word
word_after_found (Err fault) word = word
