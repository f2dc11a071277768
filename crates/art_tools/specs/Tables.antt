-- A table with so many passes, its close, and a text that is printed of it.
use Rattle.std.specs.Prelude.{◌≡◌, ℕ, List, [], ◌++◌, Option, Some, None}
use Rattle.std.specs.Io.KnownBytes.{Appends}
use Rattle.art_server.specs.ArtTable.Closing.{Explains}
use Rattle.art_server.specs.ArtTable.declared.closing.CloseRefusal.{CloseRefusal}
use Rattle.art_server.specs.ArtTable.declared.configs.Config.{Config}
use Rattle.art_server.specs.ArtTable.declared.passes.Pass.{Pass}
use Rattle.art_server.specs.ArtTable.declared.tables.Table.{Table}
use Rattle.art_tools.specs.Statuses.{unclosed}
use Rattle.art_tools.specs.declared.run_faults.RunFault.{RunFault}
use Rattle.art_tools.specs.declared.run_faults.RunFault.TheVariants.{ReadFailed, WriteFailed, Refused, NoMemory, ReadsUsed, BadLine, CannotListen}

-- the sizes, with so many passes
abbrev pub of_passes : ℕ → Config → Config
of_passes count sizes = record sizes { passes = count }

-- the table was not closed with these passes, for this fault
pub record NotClosed (t : Table) (passes : List Pass) (fault : RunFault) : Type 0 where
  pub why : CloseRefusal
  pub explains : Explains t passes why
  pub told : fault ≡ unclosed why

-- a front of the text was written
pub record WritesPart (text : List ℕ) (held held_after : Option (List ℕ)) : Type 0 where
  pub part : List ℕ
  pub rest : List ℕ
  pub whole : text ≡ part ++ rest
  pub appends : Appends held held_after part

-- the text was written, or a write failed after a front of it, or there was no memory for it
abbrev pub Prints : List ℕ → (held held_after : Option (List ℕ)) → Option RunFault → Type 0
Prints text held held_after None = Appends held held_after text
Prints text held held_after (Some ReadFailed) = ⊥
Prints text held held_after (Some WriteFailed) = WritesPart text held held_after
Prints text held held_after (Some (Refused refusal)) = ⊥
Prints text held held_after (Some NoMemory) = Appends held held_after []
Prints text held held_after (Some ReadsUsed) = ⊥
Prints text held held_after (Some (BadLine line)) = ⊥
Prints text held held_after (Some CannotListen) = ⊥
