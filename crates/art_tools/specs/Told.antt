-- Whether there was a table, and what is told at the end.
use Rattle.std.specs.Prelude.{◌≡◌, ◌⊎◌, ℕ, List, [], Option, Some, None, ⊤}
use Rattle.std.specs.Io.KnownBytes.{Appends, Consumes}
use Rattle.art_server.specs.Reads.{MakesReads}
use Rattle.art_server.specs.ArtRefusal.declared.refusals.Refusal.{Refusal}
use Rattle.art_server.specs.declared.sessions.EndCause.TheVariants as end
use Rattle.art_server.specs.ArtTable.Closing.{IsClosed}
use Rattle.art_server.specs.ArtTable.declared.closing.Closed.{Closed}
use Rattle.art_server.specs.ArtTable.declared.passes.Pass.{Pass}
use Rattle.art_server.specs.ArtTable.declared.tables.Table.{Table}
use Rattle.art_tools.specs.declared.run_faults.RunFault.{RunFault}
use Rattle.art_tools.specs.declared.run_faults.RunFault.TheVariants.{ReadFailed, WriteFailed, Refused, NoMemory, ReadsUsed, BadLine, CannotListen}

-- nothing was read, and nothing written
pub record NothingRead (left left_after held held_after : Option (List ℕ)) : Type 0 where
  pub consumes : Consumes left left_after []
  pub appends : Appends held held_after []

-- why there is no table: it is refused, or there was no memory
abbrev pub IsUnopened : Option RunFault → Type 0
IsUnopened told = (told ≡ Some NoMemory) ⊎ ((refusal : Refusal) × (told ≡ Some (Refused refusal)))

-- where nothing is told, the table was closed with these passes
abbrev pub IsClosedBy : Option RunFault → Table → List Pass → Type 0
IsClosedBy None t passes = (c : Closed) × IsClosed t passes c
IsClosedBy (Some fault) t passes = ⊤

-- what is told of a session or a schedule with this fault, or none: that; or, where it has none, that there was no memory to close its
-- table
abbrev pub IsToldOf : Option RunFault → Option RunFault → Type 0
IsToldOf fault told = (told ≡ fault) ⊎ ((fault ≡ None) × (told ≡ Some NoMemory))

-- what is told of the reads that were made: one failed only where the last did and each before it gave bytes, and they were used up only
-- where each of 1,000,000 gave bytes
abbrev pub AreReadsTold : Option RunFault → (old new : List (Option ℕ)) → Type 0
AreReadsTold None old new = ⊤
AreReadsTold (Some ReadFailed) old new = MakesReads old new end.ReadFault
AreReadsTold (Some WriteFailed) old new = ⊤
AreReadsTold (Some (Refused refusal)) old new = ⊤
AreReadsTold (Some NoMemory) old new = ⊤
AreReadsTold (Some ReadsUsed) old new = MakesReads old new end.ReadsUsed
AreReadsTold (Some (BadLine line)) old new = ⊤
AreReadsTold (Some CannotListen) old new = ⊤
