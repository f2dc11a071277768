use Rattle.std.proofs.Common.{subst, sym}
use Rattle.art_schedule.specs.Seats.{IsSeat}
use Rattle.art_schedule.specs.declared.seats.Seat.{Seat}
use Rattle.art_schedule.proofs.SeatLaws.{IsSeat-begin}
use Rattle.art_schedule.proofs.seats.begin.Goals as goal

pub returns-clause-keeps : goal.returns-clause-keeps
returns-clause-keeps c p seat =
    let table = c.args.table.now in
    let rows = c.start_command-running.new.rows.items in
    subst (λ (s : Seat). IsSeat table p s rows) (sym c.put_back.ensures)
    (IsSeat-begin table p c.in-Idle.pass c.args.seat.now c.start_command-running.result c.args.command c.args.turns c.args.room.now.items rows
    (sym c.in-Idle.ensures.value) c.start_command-running.ensures.running c.start_command-running.ensures.still c.ranges.turns.fits seat)

pub returns-clause-there : goal.returns-clause-there
returns-clause-there c = record {
  pass = c.in-Idle.pass;
  running = c.start_command-running.result;
  was = sym c.in-Idle.ensures.value;
  now = c.put_back.ensures;
  runs = c.start_command-running.ensures.running;
  still = c.start_command-running.ensures.still;
}
