use Rattle.std.proofs.Common.{◌≡◌, length, drop}
use Rattle.art_key.specs.Spelling.{tuple_spelled}
use Rattle.art_key.proofs.Loops.{with_front}
use Rattle.art_key.proofs.keys.read.Given as goal

abbrev pub invariant-loop-column : goal.invariant-loop-column
invariant-loop-column l = record {
  room : length l.tuple.items ≡ l.column-index;
  values : with_front l.tuple.items (tuple_spelled (drop l.column-index l.columns) l.rest) ≡ tuple_spelled l.columns l.bytes;
}
