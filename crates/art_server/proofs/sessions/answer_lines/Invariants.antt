use Rattle.std.proofs.Common.{◌-◌, length}
use Rattle.art_scan.specs.ArtTable.Tables.{IsPassOf}
use Rattle.art_server.specs.Steps.{AnswersMore}
use Rattle.art_server.specs.Streams.{whole_lines}
use Rattle.art_server.proofs.sessions.answer_lines.Given as goal

abbrev pub invariant-lines : goal.invariant-lines
invariant-lines g l = record {
  more : AnswersMore l.table l.fn.lines l.lines (g.W.Write.contents l.fn.writer) (g.W.Write.contents l.writer) l.fn.pass l.pass l.count;
  of : IsPassOf l.table l.pass;
}

abbrev pub decreases-lines : goal.decreases-lines
decreases-lines g l = length (whole_lines l.lines.taken) - l.lines.given
