-- How a command ends.
use Rattle.std.specs.Prelude.{ℕ, List}
use Rattle.art_model.specs.declared.commands.Command.{Command}
use Rattle.art_model.specs.declared.commands.Command.TheVariants.{Insert, Remove, Get, Scan}
use Rattle.art_model.specs.declared.rows.Row.{Row}
use Rattle.art_scan.specs.Scans.{Scans}
use Rattle.art_scan.specs.declared.running.Ending.{Ending}
use Rattle.art_scan.specs.declared.running.Ending.TheVariants as ending
use Rattle.art_table.specs.Calls.{Ends}
use Rattle.art_table.specs.declared.jobs.Job.TheVariants as job
use Rattle.art_table.specs.declared.passes.Pass.{Pass}
use Rattle.art_table.specs.declared.tables.Table.{Table}

-- the command of the pass p ended so, in so many turns: the pass is q then, and the rows of a scan are listed
abbrev pub CommandEnds : Table → Command → ℕ → Pass → List Row → Ending → Pass → Type 0
CommandEnds t (Insert tuple value) turns p rows (ending.Call r) q = Ends t (job.Insert tuple value) turns p r q
CommandEnds t (Remove tuple) turns p rows (ending.Call r) q = Ends t (job.Remove tuple) turns p r q
CommandEnds t (Get tuple) turns p rows (ending.Call r) q = Ends t (job.Get tuple) turns p r q
CommandEnds t (Scan lo hi limit) turns p rows (ending.Scan r) q = Scans t lo hi limit turns p rows r q
CommandEnds t c turns p rows e q = ⊥
