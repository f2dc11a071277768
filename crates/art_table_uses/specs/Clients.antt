-- Passes and attempts of a table, as tests have them.
use Rattle.std.specs.Prelude.{ℕ, List}
use Rattle.art_model.specs.declared.commands.Command.{Command}
use Rattle.art_model.specs.declared.rows.Row.{Row}
use Rattle.art_scan.specs.Running.{IsRunning}
use Rattle.art_scan.specs.declared.running.Running.{Running}
use Rattle.art_table.specs.Calls.{IsAttempt}
use Rattle.art_table.specs.declared.attempts.Attempt.{Attempt}
use Rattle.art_table.specs.declared.jobs.Job.{Job}
use Rattle.art_table.specs.declared.passes.Pass.{Pass}
use Rattle.art_table.specs.declared.tables.Table.{Table}

-- an attempt of the table, whatever it was asked for
pub record IsGoing (t : Table) (a : Attempt) : Type 0 where
  pub job : Job
  pub turns : ℕ
  pub pass : Pass
  pub goes : IsAttempt t job turns pass a

-- a command of a pass of the table, whatever it says
pub record IsUnderWay (t : Table) (r : Running) (rows : List Row) : Type 0 where
  pub command : Command
  pub turns : ℕ
  pub pass : Pass
  pub runs : IsRunning t command turns pass r rows
