-- What `run` does: one session over a table of its own.
use Rattle.std.specs.Prelude.{◌≡◌, ◌⊎◌, ℕ, List, [], ◌∷◌, take, Option, Result, Ok, Err}
use Rattle.art_key.specs.declared.columns.Column.{Column}
use Rattle.art_key.specs.declared.faults.SchemaFault.{SchemaFault}
use Rattle.art_workers.specs.ArtSessions.Maps.{MapAnswersLines}
use Rattle.art_model.specs.declared.rows.Row.{Row}
use Rattle.art_server.specs.Sessions.{RunsSession, begun}
use Rattle.art_server.specs.Streams.{lines_of}
use Rattle.art_server.specs.declared.sessions.SessionEnd.{SessionEnd}
use Rattle.art_server.specs.ArtTable.Closing.{IsClosed}
use Rattle.art_server.specs.ArtTable.Opening.{IsOpened}
use Rattle.art_server.specs.ArtTable.declared.closing.Closed.{Closed}
use Rattle.art_server.specs.ArtTable.declared.configs.Config.{Config}
use Rattle.art_server.specs.ArtTable.declared.passes.Pass.{Pass}
use Rattle.art_server.specs.ArtTable.declared.tables.Table.{Table}
use Rattle.art_tools.specs.Outputs.{of_one_pass}
use Rattle.art_tools.specs.Statuses.{fault_at}
use Rattle.art_tools.specs.Told.{IsClosedBy, IsToldOf, IsUnopened, NothingRead}
use Rattle.art_tools.specs.declared.run_faults.RunFault.{RunFault}

-- a session was run by the one pass of an empty table of the schema and these sizes. However it ended, one sorted map answers the lines that
-- it began with the replies of the session, from no row on, and keeps these rows; a close with the pass as it came back gives them, and the
-- table was closed so
pub record RanSession (schema : List Column) (sizes : Config) (left left_after held held_after : Option (List ℕ))
    (told : Option RunFault) : Type 0 where
  pub table : Table
  pub pass : Pass
  pub back : Pass
  pub end : SessionEnd
  pub opened : IsOpened schema (of_one_pass sizes) table (pass ∷ [])
  pub runs : RunsSession left left_after held held_after table pass back end
  pub rows : List Row
  pub answers : MapAnswersLines schema (take (begun end) (lines_of runs.0)) [] runs.4.lines.replies rows
  pub closes : (closed : Closed) → IsClosed table (back ∷ []) closed → closed.rows.items ≡ rows
  pub told_is : IsToldOf (fault_at end.why) told
  pub closed : IsClosedBy told table (back ∷ [])

-- of a schema that is one, a session was run, or there was no table for it; nothing is done of another
abbrev pub Runs : Result (List Column) SchemaFault → Config → (left left_after held held_after : Option (List ℕ)) → Option RunFault
    → Type 0
Runs (Ok schema) sizes left left_after held held_after told =
    RanSession schema sizes left left_after held held_after told ⊎ (NothingRead left left_after held held_after × IsUnopened told)
Runs (Err fault) sizes left left_after held held_after told = NothingRead left left_after held held_after × IsUnopened told
