use Rattle.std.proofs.Common.{List}
use Rattle.art_schedule.specs.Desks.{IsDesk, places_of}
use Rattle.art_server.specs.ArtTable.declared.passes.Pass.{Pass}
use Rattle.art_schedule.proofs.WayLaws.{HasEnded}
use Rattle.art_schedule.proofs.schedules.end_all.Given as goal

abbrev pub invariant-loop-place : goal.invariant-loop-place
invariant-loop-place g l = record {
  keeps : (ps : List Pass) → IsDesk l.table ps l.fn.desk → IsDesk l.table ps l.desk;
  ended : HasEnded l.table l.place (g.W.Write.contents l.fn.writer) (g.W.Write.contents l.writer) (places_of l.fn.desk) (places_of l.desk);
}
