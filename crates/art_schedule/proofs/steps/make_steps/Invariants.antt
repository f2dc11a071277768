use Rattle.art_schedule.specs.Steps.{MakesMany}
use Rattle.art_schedule.specs.Seats.{KeepsRunning}
use Rattle.art_schedule.proofs.steps.make_steps.Given as goal

abbrev pub invariant-loop : goal.invariant-loop
invariant-loop l = record {
  keeps : KeepsRunning l.table l.fn.running l.fn.room.items l.running l.room.items;
  made : MakesMany l.table l.counter l.fn.running l.running;
}
