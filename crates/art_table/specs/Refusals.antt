-- The refusal of each fault of a table, by its name: the column, the pool, the pass in the way and the cell are dropped.
use Rattle.art_refusal.specs.Refusals.{value_refusal}
use Rattle.art_refusal.specs.declared.refusals.Refusal.{Refusal}
use Rattle.art_refusal.specs.declared.refusals.Refusal.TheVariants.{Busy, Full, Crowded, Exhausted, NoMemory, BadConfig, PassesMissing}
use Rattle.art_table.specs.declared.closing.CloseRefusal.{CloseRefusal}
use Rattle.art_table.specs.declared.closing.CloseRefusal.TheVariants as close
use Rattle.art_table.specs.declared.faults.Fault.{Fault}
use Rattle.art_table.specs.declared.faults.Fault.TheVariants as call
use Rattle.art_table.specs.declared.faults.OpenFault.{OpenFault}
use Rattle.art_table.specs.declared.faults.OpenFault.TheVariants as opening

-- of a call that is not answered
abbrev pub fault_refusal : Fault → Refusal
fault_refusal (call.Value fault) = value_refusal fault
fault_refusal call.Busy = Busy
fault_refusal (call.Full pool) = Full
fault_refusal (call.Crowded blocker) = Crowded
fault_refusal (call.Exhausted cell) = Exhausted

-- of a table that is not opened
abbrev pub open_refusal : OpenFault → Refusal
open_refusal opening.BadConfig = BadConfig
open_refusal opening.NoMemory = NoMemory

-- of a table that is not closed
abbrev pub close_refusal : CloseRefusal → Refusal
close_refusal close.PassesMissing = PassesMissing
close_refusal close.NoMemory = NoMemory
