use Rattle.std.proofs.Common.{◌≡◌, length, drop}
use Rattle.art_index_c.specs.Columns.{values_of}
use Rattle.art_index_c.proofs.Said.{before}
use Rattle.art_index_c.proofs.columns.tuple_of.Given as goal

abbrev pub invariant-loop-place : goal.invariant-loop-place
invariant-loop-place l = record {
  count : length l.tuple.items ≡ l.place;
  values : before l.tuple.items (values_of l.place (drop l.place l.columns)) ≡ values_of 0 l.columns;
}
