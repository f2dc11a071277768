use Rattle.std.proofs.Common.{List, ap, map, refl, arith}
use Rattle.art_schedule.proofs.DeskLaws.{eight_are}
use Rattle.art_schedule.proofs.desks.seats_of.Goals as goal
use Rattle.art_schedule.specs.declared.seats.Seat.{Seat}
use Rattle.art_schedule.specs.declared.seats.Seat.TheVariants.{Idle}
use Rattle.art_server.specs.ArtTable.declared.passes.Pass.{Pass}

pub returns-clause-seats : goal.returns-clause-seats
returns-clause-seats c =
    ap (λ (ps : List Pass). map {A = Pass} {B = Seat} (λ p. Idle p) ps)
    (eight_are c.args.passes c.a-1.given.0 c.b-1.given.0 c.c-1.given.0 c.d-1.given.0 c.e-1.given.0 c.f-1.given.0 c.g-1.given.0 c.h-1.given.0
    c.a-1.given.0 c.b-1.given.0 c.c-1.given.0 c.d-1.given.0 c.e-1.given.0 c.f-1.given.0 c.g-1.given.0 c.h-1.given.0
    (omega arith) c.a-1.given.1 c.b-1.given.1 c.c-1.given.1 c.d-1.given.1 c.e-1.given.1 c.f-1.given.1 c.g-1.given.1 c.h-1.given.1
    refl refl refl refl refl refl refl refl)
