use Rattle.std.proofs.Common.{◌-◌, ◌≤◌, length}
use Rattle.art_lines.specs.Cursors.{tokens_left}
use Rattle.art_lines.proofs.TokenLaws.{IsFront}
use Rattle.art_lines.proofs.tokens.next_tuple.Given as goal

abbrev pub invariant-elements : goal.invariant-elements
invariant-elements l = record { front : IsFront 125 (tokens_left l.initial.cursor) (tokens_left l.cursor) l.tuple.items; few : length l.tuple.items ≤ 8 }

abbrev pub decreases-elements : goal.decreases-elements
decreases-elements l = 8 - length l.tuple.items
