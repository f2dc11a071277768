use Rattle.std.proofs.Common.{◌<◌, ℕ, List, get_or}
use Rattle.art_schedule.specs.Desks.{IsDesk}
use Rattle.art_schedule.specs.Seats.{IsIdle}
use Rattle.art_server.specs.ArtTable.declared.passes.Pass.{Pass}
use Rattle.art_schedule.specs.declared.seats.Seat.{Seat}
use Rattle.art_schedule.proofs.DeskLaws.{AreSettledUpTo}
use Rattle.art_schedule.proofs.desks.close.Given as goal

abbrev pub invariant-loop-place : goal.invariant-loop-place
invariant-loop-place l = record {
  keeps : (ps : List Pass) → IsDesk l.table ps l.initial.desk → IsDesk l.table ps l.desk;
  idle : (k : ℕ) (d : Seat) → k < l.place → IsIdle (get_or l.desk.seats.items k d);
  settled : AreSettledUpTo l.table l.place l.initial.desk.seats.items l.initial.desk.rooms.items l.desk.seats.items l.desk.rooms.items;
}
