use Rattle.std.proofs.Common.{◌≡◌, List}
use Rattle.art_schedule.specs.Desks.{IsDesk, places_of}
use Rattle.art_schedule.specs.Ways.{IsUnderWay}
use Rattle.art_server.specs.ArtTable.declared.passes.Pass.{Pass}
use Rattle.art_server.specs.Counted.{reader_of, reads_of}
use Rattle.art_server.specs.Lines.{AllAreGiven}
use Rattle.art_server.specs.Streams.{whole_lines}
use Rattle.art_server.proofs.CountLaws.{HasCounted}
use Rattle.art_server.proofs.ReadLaws.{HasRead}
use Rattle.art_schedule.proofs.schedules.run_reads.Given as goal

abbrev pub invariant-reads : goal.invariant-reads
invariant-reads g l = record {
  keeps : (ps : List Pass) → IsDesk l.table ps l.fn.desk → IsDesk l.table ps l.desk;
  read : HasRead l.counter (g.R.Read.remaining (reader_of l.fn.reader)) (g.R.Read.remaining (reader_of l.reader)) l.lines.taken;
  counted : HasCounted l.counter (reads_of l.fn.reader) (reads_of l.reader);
  way : IsUnderWay l.table (whole_lines l.lines.taken) (g.W.Write.contents l.fn.writer) (g.W.Write.contents l.writer)
      (places_of l.fn.desk) (places_of l.desk) l.count;
  given : AllAreGiven l.lines;
  count : l.count ≡ l.lines.given;
}
