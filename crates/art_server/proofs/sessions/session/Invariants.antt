use Rattle.std.proofs.Common.{◌≡◌}
use Rattle.art_scan.specs.ArtTable.Tables.{IsPassOf}
use Rattle.art_server.specs.Counted.{reader_of, reads_of}
use Rattle.art_server.specs.Lines.{AllAreGiven}
use Rattle.art_server.specs.Steps.{IsUnderWay}
use Rattle.art_server.specs.Streams.{whole_lines}
use Rattle.art_server.proofs.CountLaws.{HasCounted}
use Rattle.art_server.proofs.ReadLaws.{HasRead}
use Rattle.art_server.proofs.sessions.session.Given as goal

abbrev pub invariant-reads : goal.invariant-reads
invariant-reads g l = record {
  read : HasRead l.counter (g.R.Read.remaining (reader_of l.fn.reader)) (g.R.Read.remaining (reader_of l.reader)) l.lines.taken;
  counted : HasCounted l.counter (reads_of l.fn.reader) (reads_of l.reader);
  way : IsUnderWay l.table (whole_lines l.lines.taken) (g.W.Write.contents l.fn.writer) (g.W.Write.contents l.writer) l.fn.pass l.pass
      l.answered;
  of : IsPassOf l.table l.pass;
  given : AllAreGiven l.lines;
  count : l.answered ≡ l.lines.given;
}
