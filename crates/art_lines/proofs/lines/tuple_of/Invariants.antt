use Rattle.art_lines.proofs.TupleLaws.{IsReadTo}
use Rattle.art_lines.proofs.lines.tuple_of.Given as goal

abbrev pub invariant-loop-place : goal.invariant-loop-place
invariant-loop-place l = IsReadTo l.elements l.tuple.items l.place
