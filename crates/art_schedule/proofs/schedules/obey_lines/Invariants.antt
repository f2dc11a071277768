use Rattle.std.proofs.Common.{◌-◌, List, length}
use Rattle.art_schedule.specs.Desks.{IsDesk, places_of}
use Rattle.art_schedule.specs.Ways.{ObeysMore}
use Rattle.art_server.specs.ArtTable.declared.passes.Pass.{Pass}
use Rattle.art_server.specs.Streams.{whole_lines}
use Rattle.art_schedule.proofs.schedules.obey_lines.Given as goal

abbrev pub invariant-lines : goal.invariant-lines
invariant-lines g l = record {
  keeps : (ps : List Pass) → IsDesk l.table ps l.fn.desk → IsDesk l.table ps l.desk;
  more : ObeysMore l.table l.fn.lines l.lines (g.W.Write.contents l.fn.writer) (g.W.Write.contents l.writer)
      (places_of l.fn.desk) (places_of l.desk) l.count;
}

abbrev pub decreases-lines : goal.decreases-lines
decreases-lines g l = length (whole_lines l.lines.taken) - l.lines.given
