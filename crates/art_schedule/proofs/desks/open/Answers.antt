use Rattle.std.proofs.Common.{◌∙◌, All, List, subst, sym}
use Rattle.art_schedule.specs.Seats.{IsIdle}
use Rattle.art_schedule.specs.declared.seats.Seat.{Seat}
use Rattle.art_schedule.proofs.DeskLaws.{IsDesk-open, all_idle, passes_same}
use Rattle.art_schedule.proofs.desks.open.Goals as goal

pub passes_of-requires-clause-idle : goal.passes_of-requires-clause-idle
passes_of-requires-clause-idle c =
    subst (λ (l : List Seat). All IsIdle l) (sym (c.in-Err.ensures.value_returned ∙ c.seats_of.ensures.seats)) (all_idle c.args.passes)

pub returns-in-Ok-from_array-clause-desk : goal.returns-in-Ok-from_array-clause-desk
returns-in-Ok-from_array-clause-desk c t are =
    IsDesk-open t c.args.passes _ c.seats_of.result c.in-Ok-from_array.ensures.items c.seats_of.ensures.seats c.seats_of.ensures.eight
    c.in-Ok.ensures are

pub returns-in-Err-clause-back : goal.returns-in-Err-clause-back
returns-in-Err-clause-back c =
    passes_same c.args.passes c.passes_of.result _ _ c.passes_of.ensures c.in-Err.ensures.value_returned c.seats_of.ensures.seats
