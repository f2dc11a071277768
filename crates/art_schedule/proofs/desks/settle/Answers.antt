use Rattle.std.proofs.Common.{◌∙◌, sym, ap, refl, arith}
use Rattle.art_schedule.proofs.DeskLaws.{IsDesk-at, SettlesAt-end, SettlesAt-none, desk_at, eight_rooms, eight_seats, read_twice}
use Rattle.art_schedule.specs.Desks.{places_of}
use Rattle.art_schedule.specs.Seats.{is_idle}
use Rattle.art_schedule.proofs.desks.settle.Goals as goal

pub index-requires : goal.index-requires
index-requires c = let (ps, desk) = c.requires.desk in omega (arith, eight_seats _ ps _ desk, c.args.desk.now.seats.ok.0)

pub index_mut-requires : goal.index_mut-requires
index_mut-requires c = let (ps, desk) = c.requires.desk in omega (arith, eight_seats _ ps _ desk, c.args.desk.now.seats.ok.0)

pub index_mut-requires-then-not-is_idle : goal.index_mut-requires-then-not-is_idle
index_mut-requires-then-not-is_idle c =
    let (ps, desk) = c.requires.desk in omega (arith, eight_rooms _ ps _ desk, c.args.desk.now.rooms.ok.0)

pub end-requires-clause-seat : goal.end-requires-clause-seat
end-requires-clause-seat c =
    let (ps, desk) = c.requires.desk in
    desk_at c.args.table.now ps c.args.desk.now c.args.place _ _ desk c.requires.place c.index_mut.ensures.value
    c.index_mut-then-not-is_idle.ensures.value

pub end-requires-clause-going : goal.end-requires-clause-going
end-requires-clause-going c =
    let (ps, desk) = c.requires.desk in
    let place = c.requires.place in
    ap is_idle (read_twice c.args.desk.now.seats.items c.args.place _ _ c.index_mut.ensures.value c.index.ensures
    (omega (arith, eight_seats _ ps _ desk)))
    ∙ sym c.is_idle.ensures ∙ c.if-not-is_idle.true

pub returns-then-not-is_idle-clause-keeps : goal.returns-then-not-is_idle-clause-keeps
returns-then-not-is_idle-clause-keeps c ps desk =
    IsDesk-at c.args.table.now ps c.args.desk.now _ c.args.place _ _ c.end.new.seat c.end.new.room c.index_mut.ensures.value
    c.index_mut-then-not-is_idle.ensures.value refl refl c.end.ensures.keeps desk

pub returns-then-not-is_idle-clause-settles : goal.returns-then-not-is_idle-clause-settles
returns-then-not-is_idle-clause-settles c =
    SettlesAt-end c.args.table.now c.args.place (places_of c.args.desk.now) _ _ _ c.end.new.seat c.end.new.room _ _ c.index_mut.ensures.value
    c.index_mut-then-not-is_idle.ensures.value refl refl c.end.ensures.there

pub returns-else-not-is_idle-clause-settles : goal.returns-else-not-is_idle-clause-settles
returns-else-not-is_idle-clause-settles c =
    let (ps, desk) = c.requires.desk in
    SettlesAt-none c.args.table.now c.args.place (places_of c.args.desk.now) c.index.result.now c.index.ensures
    (sym c.is_idle.ensures ∙ c.if-not-is_idle.false) (omega (arith, eight_rooms _ ps _ desk))
