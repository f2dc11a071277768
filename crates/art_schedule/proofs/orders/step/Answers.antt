use Rattle.std.proofs.Common.{ℕ, refl, subst}
use Rattle.art_schedule.proofs.orders.step.Goals as goal
use Rattle.art_schedule.specs.Seats.{IsSeat}
use Rattle.art_schedule.specs.Steps.{StepsOrStops}
use Rattle.art_schedule.specs.declared.seats.Seat.{Seat}

pub make_steps-requires : goal.make_steps-requires
make_steps-requires c =
    let (p, seat) = c.requires in
    (p, subst (λ (s : Seat). IsSeat c.args.table.now p s c.args.room.now.items) c.in-Going.is seat)

pub returns-in-Going-clause-obeys : goal.returns-in-Going-clause-obeys
returns-in-Going-clause-obeys c = record {
  running = c.in-Going.running;
  running_after = c.make_steps.new.running;
  was = c.in-Going.is;
  now = refl;
  keeps = c.make_steps.ensures.keeps;
  steps = subst (λ (n : ℕ). StepsOrStops c.args.table.now n c.in-Going.running c.make_steps.new.running c.make_steps.new.room.items c.make_steps.result) c.from.ensures c.make_steps.ensures.made;
}
