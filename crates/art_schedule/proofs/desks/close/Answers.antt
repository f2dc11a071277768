use Rattle.std.proofs.Common.{◌≡◌, ◌∙◌, ℕ, arith, subst}
use Rattle.art_schedule.specs.Desks.{places_of}
use Rattle.art_schedule.proofs.DeskLaws.{AreSettled-all, AreSettledUpTo, AreSettledUpTo-more, ComeBack-close, eight_rooms, eight_seats, idle_more}
use Rattle.art_schedule.proofs.desks.close.Goals as goal

pub loop-place-preserved : goal.loop-place-preserved
loop-place-preserved c =
    let (ps, desk) = c.requires in
    let on = c.loop-place.invariant in
    let t = c.args.table.now in
    let place = c.loop-place.place in
    let seats = eight_seats t ps c.loop-place.desk (on.keeps ps desk) in
    let rooms = eight_rooms t ps c.loop-place.desk (on.keeps ps desk) in
    let at = c.settle.ensures.settles in
    record {
      keeps = λ qs is. c.settle.ensures.keeps qs (on.keeps qs is);
      idle = idle_more place c.loop-place.desk.seats.items c.settle.new.desk.seats.items at.back on.idle at.seats (omega arith);
      settled = AreSettledUpTo-more t place (places_of c.args.desk) (places_of c.loop-place.desk) (places_of c.settle.new.desk) (omega arith) (omega arith)
          on.settled at;
    }

pub unreachable-requires : goal.unreachable-requires
unreachable-requires c =
    let (ps, desk) = c.requires in
    let eight = eight_seats c.args.table.now ps c.loop-place.desk (c.loop-place.invariant.keeps ps desk) in
    let same = c.loop-place.desk.seats.ok.0 in
    c.in-Err.ensures.1 (same ∙ eight)

pub returns-clause-come : goal.returns-clause-come
returns-clause-come c ps desk =
    ComeBack-close c.args.table.now ps c.passes_of.result c.loop-place.desk _ c.in-Ok.ensures.0 c.passes_of.ensures
    (c.loop-place.invariant.keeps ps desk)

pub returns-clause-settles : goal.returns-clause-settles
returns-clause-settles c =
    let (ps, desk) = c.requires in
    let t = c.args.table.now in
    let all : c.loop-place.place ≡ 8 = omega arith in
    AreSettled-all t 8 c.args.desk.seats.items c.args.desk.rooms.items c.loop-place.desk.seats.items c.loop-place.desk.rooms.items c.passes_of.result
    (eight_seats t ps c.args.desk desk) (eight_rooms t ps c.args.desk desk) (c.passes_of.ensures ∙ c.in-Ok.ensures.0)
    (subst (λ (n : ℕ). AreSettledUpTo t n c.args.desk.seats.items c.args.desk.rooms.items c.loop-place.desk.seats.items c.loop-place.desk.rooms.items)
    all c.loop-place.invariant.settled)
