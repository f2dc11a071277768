use Rattle.std.proofs.Common.{◌≡◌}
use Rattle.std.specs.Prelude.{vec_capacity}
use Rattle.art_table.proofs.closing.seats_of.Given as goal
use Rattle.art_table.specs.Closing.{seats_of}

abbrev pub invariant-loop-pass : goal.invariant-loop-pass
invariant-loop-pass l = record {
  items : l.seats.items ≡ seats_of l.yielded;
  room : vec_capacity l.seats ≡ vec_capacity l.fn.seats;
}
