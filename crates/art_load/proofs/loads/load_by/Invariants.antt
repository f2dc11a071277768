use Rattle.art_load.specs.Commands.{load_commands}
use Rattle.art_load.specs.Loads.{Loads}
use Rattle.art_load.proofs.loads.load_by.Given as goal

abbrev pub invariant-loop-step : goal.invariant-loop-step
invariant-loop-step l = Loads l.table (load_commands l.plan.seed l.plan.keys l.thread l.step) l.fn.pass l.counts l.pass
