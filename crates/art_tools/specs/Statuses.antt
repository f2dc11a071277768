-- Why a run fails, and with which status the program ends.
use Rattle.std.specs.Prelude.{ℕ, List, ◌++◌, codes, decimal, Option, Some, None, Result, Ok, Err}
use Rattle.art_server.specs.ArtTable.declared.closing.CloseRefusal.{CloseRefusal}
use Rattle.art_server.specs.ArtTable.declared.closing.CloseRefusal.TheVariants as close
use Rattle.art_server.specs.ArtTable.declared.faults.OpenFault.{OpenFault}
use Rattle.art_server.specs.ArtTable.declared.faults.OpenFault.TheVariants as opening
use Rattle.art_server.specs.ArtRefusal.Refusals.{refusal_text}
use Rattle.art_server.specs.ArtRefusal.declared.refusals.Refusal.TheVariants.{BadConfig, PassesMissing}
use Rattle.art_schedule.specs.declared.stops.ScheduleEnd.{ScheduleEnd}
use Rattle.art_schedule.specs.declared.stops.ScheduleEnd.TheVariants as schedule
use Rattle.art_server.specs.declared.sessions.EndCause.{EndCause}
use Rattle.art_server.specs.declared.sessions.EndCause.TheVariants as end
use Rattle.art_tools.specs.declared.run_faults.RunFault.{RunFault}
use Rattle.art_workers.specs.declared.faults.ServeFault.{ServeFault}
use Rattle.art_workers.specs.declared.faults.ServeFault.TheVariants as serve
use Rattle.art_tools.specs.declared.run_faults.RunFault.TheVariants.{ReadFailed, WriteFailed, Refused, NoMemory, ReadsUsed, BadLine, CannotListen}

abbrev pub status_of : RunFault → ℕ
status_of ReadFailed = 1
status_of WriteFailed = 1
status_of (Refused refusal) = 3
status_of NoMemory = 4
status_of ReadsUsed = 5
status_of (BadLine line) = 6
status_of CannotListen = 7

-- what is printed of a fault
abbrev pub fault_text : RunFault → List ℕ
fault_text ReadFailed = codes "read failed"
fault_text WriteFailed = codes "write failed"
fault_text (Refused refusal) = refusal_text refusal
fault_text NoMemory = codes "no memory"
fault_text ReadsUsed = codes "reads used up"
fault_text (BadLine line) = codes "schedule line " ++ decimal line
fault_text CannotListen = codes "cannot listen"

-- what is wrong where the table is not opened
abbrev pub unopened : OpenFault → RunFault
unopened opening.BadConfig = Refused BadConfig
unopened opening.NoMemory = NoMemory

-- what is wrong where the table is not closed
abbrev pub unclosed : CloseRefusal → RunFault
unclosed close.PassesMissing = Refused PassesMissing
unclosed close.NoMemory = NoMemory

-- what is wrong where a server does not answer all its sessions
abbrev pub unserved : ServeFault → RunFault
unserved serve.Accept = CannotListen
unserved serve.NoMemory = NoMemory

-- what is wrong where a session ends for a cause
abbrev pub fault_at : EndCause → Option RunFault
fault_at end.Ended = None
fault_at end.ReadFault = Some ReadFailed
fault_at end.WriteFault = Some WriteFailed
fault_at end.NoMemory = Some NoMemory
fault_at end.ReadsUsed = Some ReadsUsed

-- what is wrong where a schedule ends so
abbrev pub schedule_fault : ScheduleEnd → Option RunFault
schedule_fault schedule.Ended = None
schedule_fault (schedule.BadLine line) = Some (BadLine line)
schedule_fault schedule.ReadFault = Some ReadFailed
schedule_fault schedule.WriteFault = Some WriteFailed
schedule_fault schedule.NoMemory = Some NoMemory
schedule_fault schedule.ReadsUsed = Some ReadsUsed

-- what is wrong with a run, if it failed
abbrev pub fault_in : {A : Type 0} → Result A RunFault → Option RunFault
fault_in (Ok done) = None
fault_in (Err fault) = Some fault

-- the status after a run
abbrev pub status_after : {A : Type 0} → Result A RunFault → ℕ
status_after (Ok done) = 0
status_after (Err fault) = status_of fault

-- the status where this fault is told, or none
abbrev pub status_told : Option RunFault → ℕ
status_told None = 0
status_told (Some fault) = status_of fault
