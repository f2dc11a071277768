-- The refusal of a scan's fault, by its name: the column is dropped.
use Rattle.art_scan.specs.declared.faults.ScanFault.{ScanFault}
use Rattle.art_scan.specs.declared.faults.ScanFault.TheVariants as scan
use Rattle.art_table.specs.ArtRefusal.Refusals.{value_refusal}
use Rattle.art_table.specs.ArtRefusal.declared.refusals.Refusal.{Refusal}
use Rattle.art_table.specs.ArtRefusal.declared.refusals.Refusal.TheVariants.{BadRange, BadLimit, Busy}

abbrev pub scan_refusal : ScanFault → Refusal
scan_refusal (scan.Value fault) = value_refusal fault
scan_refusal scan.BadRange = BadRange
scan_refusal scan.BadLimit = BadLimit
scan_refusal scan.Busy = Busy
