use Rattle.std.proofs.Common.{◌<◌}
use Rattle.art_schedule.proofs.StepLaws.{HasMarked}
use Rattle.art_schedule.specs.Seats.{KeepsRunning}
use Rattle.art_schedule.proofs.steps.make_until.Given as goal

abbrev pub invariant-loop : goal.invariant-loop
invariant-loop l = record {
  keeps : KeepsRunning l.table l.fn.running l.fn.room.items l.running l.room.items;
  made : HasMarked l.table l.mark l.counter l.found l.fn.running l.running;
  few : l.found < l.times;
}
