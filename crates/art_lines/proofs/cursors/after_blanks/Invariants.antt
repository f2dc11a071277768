use Rattle.std.proofs.Common.{◌≡◌, length, true}
use Rattle.json.specs.Lex.{between, lex}
use Rattle.json.specs.Word.{ends_word}
use Rattle.art_lines.proofs.cursors.after_blanks.Given as goal

abbrev pub invariant-loop-behind : goal.invariant-loop-behind
invariant-loop-behind l = record {
  same : lex between l.rest ≡ lex between l.bytes;
  ended : ends_word l.rest ≡ true → ends_word l.bytes ≡ true;
}

abbrev pub decreases-loop-behind : goal.decreases-loop-behind
decreases-loop-behind l = length l.rest
