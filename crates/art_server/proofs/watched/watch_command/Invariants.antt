-- The command goes on.
use Rattle.art_scan.specs.Running.{IsRunning}
use Rattle.art_server.specs.Sessions.{most_turns}
use Rattle.art_server.proofs.watched.watch_command.Given as goal

abbrev pub invariant-steps : goal.invariant-steps
invariant-steps g l = IsRunning l.table l.fn.command most_turns l.fn.pass l.running l.rows.items
