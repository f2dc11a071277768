use Rattle.std.proofs.Common.{◌≡◌, Err, refl, rules, arith}
use Rattle.art_schedule.proofs.DeskLaws.{IsDesk-at, desk_at, eight_rooms, eight_seats}
use Rattle.art_schedule.proofs.TaskLaws.{TriesAt-told, TriesAt-unfollowed}
use Rattle.art_schedule.proofs.schedules.obey.Goals as goal

pub index_mut-requires : goal.index_mut-requires
index_mut-requires g c = let (ps, desk) = c.requires.desk in omega (arith, eight_seats _ ps _ desk, c.args.desk.now.seats.ok.0)

pub index_mut-requires-2 : goal.index_mut-requires-2
index_mut-requires-2 g c = let (ps, desk) = c.requires.desk in omega (arith, eight_rooms _ ps _ desk, c.args.desk.now.rooms.ok.0)

pub follow-followed-requires-clause-seat : goal.follow-followed-requires-clause-seat
follow-followed-requires-clause-seat g c =
    let (ps, desk) = c.requires.desk in
    desk_at c.args.table.now ps c.args.desk.now c.args.place _ _ desk c.requires.place c.index_mut.ensures.value c.index_mut-2.ensures.value

pub returns-in_err-followed-clause-keeps : goal.returns-in_err-followed-clause-keeps
returns-in_err-followed-clause-keeps g c ps desk =
    IsDesk-at c.args.table.now ps c.args.desk.now _ c.args.place _ _ c.follow-followed.new.seat c.follow-followed.new.room
    c.index_mut.ensures.value c.index_mut-2.ensures.value refl refl c.follow-followed.ensures.keeps desk

pub returns-clause-keeps : goal.returns-clause-keeps
returns-clause-keeps g c ps desk =
    IsDesk-at c.args.table.now ps c.args.desk.now _ c.args.place _ _ c.follow-followed.new.seat c.follow-followed.new.room
    c.index_mut.ensures.value c.index_mut-2.ensures.value refl refl c.follow-followed.ensures.keeps desk

pub returns-in_err-followed-clause-obeys : goal.returns-in_err-followed-clause-obeys
returns-in_err-followed-clause-obeys g c =
    let is : c.from_residual.result ≡ Err c.in_err-followed.field-0.0 = search rules in
    rw is (TriesAt-unfollowed c.args.table.now c.args.place _ _ _ _ c.index_mut.result.now c.index_mut-2.result.now c.follow-followed.new.seat
    c.follow-followed.new.room c.follow-followed.result _
    (record { seat_is = c.index_mut.ensures.value; room_is = c.index_mut-2.ensures.value; seats = refl; rooms = refl })
    c.follow-followed.ensures.bad c.follow-followed.ensures.leaves c.in_err-followed.was)

pub returns-clause-obeys : goal.returns-clause-obeys
returns-clause-obeys g c =
    TriesAt-told c.args.table.now c.args.place _ c.in_ok-followed.field-0 _ _ _ _ c.index_mut.result.now c.follow-followed.result _ c.tell.result
    c.index_mut.ensures.value c.follow-followed.ensures.bad c.in_ok-followed.was c.tell.ensures (record {
      seat = c.index_mut.result.now;
      room = c.index_mut-2.result.now;
      seat_after = c.follow-followed.new.seat;
      room_after = c.follow-followed.new.room;
      seat_is = c.index_mut.ensures.value;
      room_is = c.index_mut-2.ensures.value;
      seats = refl;
      rooms = refl;
      told = c.in_ok-followed.field-0;
      obeys = c.in_ok-followed.ensures.obeys;
      prints = refl;
    })
