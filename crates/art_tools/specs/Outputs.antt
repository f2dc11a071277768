-- What `run` writes for an input.
use Rattle.std.specs.Prelude.{◌≡◌, ℕ, List, [], Option, IfSome, Result, Ok, Err}
use Rattle.std.specs.Io.KnownBytes.{Appends}
use Rattle.art_workers.specs.ArtSessions.Maps.{MapAnswersLines}
use Rattle.art_key.specs.declared.columns.Column.{Column}
use Rattle.art_key.specs.declared.faults.SchemaFault.{SchemaFault}
use Rattle.art_model.specs.declared.commands.Reply.{Reply}
use Rattle.art_model.specs.declared.rows.Row.{Row}
use Rattle.art_server.specs.Sessions.{texts}
use Rattle.art_server.specs.Streams.{lines_of}
use Rattle.art_server.specs.ArtRefusal.declared.refusals.Refusal.{Refusal}
use Rattle.art_server.specs.ArtTable.declared.configs.Config.{Config}

-- the sizes, with one pass
abbrev pub of_one_pass : Config → Config
of_one_pass sizes = record sizes { passes = 1 }

-- One sorted map answers the lines of the input, from no row on, or refuses some for want of turns or of room and stays: the texts of
-- these replies, one after another.
pub record HasOutput (schema : List Column) (input written : List ℕ) : Type 0 where
  pub replies : List (Result Reply Refusal)
  pub rows : List Row
  pub answers : MapAnswersLines schema (lines_of input) [] replies rows
  pub text : written ≡ texts replies

-- The schema is one, and what was appended to the writer is such an output for what the reader had left.
abbrev pub Outputs : Result (List Column) SchemaFault → Option (List ℕ) → Option (List ℕ) → Option (List ℕ) → Type 0
Outputs (Ok schema) left held held_after =
    IfSome left (λ input. (written : List ℕ) × HasOutput schema input written × Appends held held_after written)
Outputs (Err fault) left held held_after = ⊥
