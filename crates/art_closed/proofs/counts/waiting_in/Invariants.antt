-- The places so far are counted.
use Rattle.std.proofs.Common.{◌≡◌, ◌≤◌, take}
use Rattle.art_closed.specs.Counts.{waiting_among}
use Rattle.art_closed.proofs.counts.waiting_in.Given as goal

abbrev pub invariant-loop-index : goal.invariant-loop-index
invariant-loop-index l = record {
  few : l.waiting ≤ l.index;
  counted : l.waiting ≡ waiting_among l.pool (take l.index l.places);
}
