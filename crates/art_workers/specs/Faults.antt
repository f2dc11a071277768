-- The texts of the faults.
use Rattle.std.specs.Prelude.{ℕ, List, codes}
use Rattle.art_workers.specs.declared.faults.ServeFault.{ServeFault}
use Rattle.art_workers.specs.declared.faults.ServeFault.TheVariants.{Accept, NoMemory}

abbrev pub fault_text : ServeFault → List ℕ
fault_text Accept = codes "the listener could not accept a connection"
fault_text NoMemory = codes "no memory for the thread or the buffer of a worker"
