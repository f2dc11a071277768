use Rattle.art_schedule.proofs.DeskLaws.{eight_are}
use Rattle.art_schedule.proofs.desks.passes_of.Goals as goal

pub returns : goal.returns
returns c =
    eight_are c.args.seats c.a-1.given.0 c.b-1.given.0 c.c-1.given.0 c.d-1.given.0 c.e-1.given.0 c.f-1.given.0 c.g-1.given.0 c.h-1.given.0
    _ _ _ _ _ _ _ _ c.requires.eight c.a-1.given.1 c.b-1.given.1 c.c-1.given.1 c.d-1.given.1 c.e-1.given.1 c.f-1.given.1 c.g-1.given.1 c.h-1.given.1
    c.pass_in.ensures c.pass_in-2.ensures c.pass_in-3.ensures c.pass_in-4.ensures
    c.pass_in-5.ensures c.pass_in-6.ensures c.pass_in-7.ensures c.pass_in-8.ensures
