use Rattle.std.proofs.Common.{subst}
use Rattle.art_schedule.proofs.orders.until.Goals as goal
use Rattle.art_schedule.specs.Seats.{IsSeat}
use Rattle.art_schedule.specs.declared.seats.Seat.{Seat}

pub make_until-requires-clause-going : goal.make_until-requires-clause-going
make_until-requires-clause-going c =
    let (p, seat) = c.requires.seat in
    (p, subst (λ (s : Seat). IsSeat c.args.table.now p s c.args.room.now.items) c.in-Going.is seat)
