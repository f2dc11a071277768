use Rattle.std.proofs.Common.{subst, sym}
use Rattle.art_schedule.proofs.seats.end.Goals as goal
use Rattle.art_schedule.specs.Seats.{IsSeat}
use Rattle.art_schedule.specs.declared.seats.Seat.{Seat}

pub run_out-pass-requires : goal.run_out-pass-requires
run_out-pass-requires c =
    let (p, seat) = c.requires.seat in
    (p, subst (λ (s : Seat). IsSeat c.args.table.now p s c.args.room.now.items) (sym c.in-Going.ensures.value) seat)

pub returns-clause-there : goal.returns-clause-there
returns-clause-there c = record {
  running = c.in-Going.running;
  pass = c.run_out-pass.result.0;
  was = sym c.in-Going.ensures.value;
  now = c.put_back.ensures;
  finishes = c.run_out-pass.ensures.finishes;
}
