-- The places of all passes.
use Rattle.std.specs.Prelude.{◌≡◌, ℕ, List, [], ◌∷◌, length, slice_index_or, slice_set, ⊤}
use Rattle.arrayvec.specs.ArrayVec.{ArrayVec}
use Rattle.art_model.specs.declared.rows.Row.{Row}
use Rattle.art_schedule.specs.Seats.{IsSeat, SettlesTo}
use Rattle.art_schedule.specs.declared.desks.Desk.{Desk}
use Rattle.art_server.specs.ArtTable.declared.passes.Pass.{Pass}
use Rattle.art_server.specs.ArtTable.declared.tables.Table.{Table}
use Rattle.art_schedule.specs.declared.seats.Seat.{Seat}
use Rattle.art_schedule.specs.declared.seats.Seat.TheVariants.{Idle}

-- at each place the pass of that place is idle, or a command of it is under way
abbrev pub AreSeated : Table → List Pass → List Seat → List (ArrayVec Row) → Type 0
AreSeated t [] [] [] = ⊤
AreSeated t (p ∷ ps) (s ∷ ss) (r ∷ rs) = IsSeat t p s r.items × AreSeated t ps ss rs
AreSeated t ps ss rs = ⊥

-- what stands at all places, and the rows in the room at each
pub record Places : Type 0 where
  pub seats : List Seat
  pub rooms : List (ArrayVec Row)

abbrev pub places_of : Desk → Places
places_of desk = record { seats = desk.seats.items; rooms = desk.rooms.items }

-- eight passes have their places there
pub record IsDesk (t : Table) (ps : List Pass) (desk : Desk) : Type 0 where
  pub eight : length ps ≡ 8
  pub seated : AreSeated t ps desk.seats.items desk.rooms.items

-- ---- what comes back of the places

abbrev pub AreSettled : Table → List Seat → List (ArrayVec Row) → List Pass → Type 0
AreSettled t [] [] [] = ⊤
AreSettled t (s ∷ ss) (r ∷ rs) (q ∷ qs) = SettlesTo t s r.items q × AreSettled t ss rs qs
AreSettled t ss rs qs = ⊥

-- of each place a pass comes back, in their order: the one that is idle there, or the one with which the command under way was run to
-- its end
abbrev pub Settles : Table → Places → List Pass → Type 0
Settles t places back = AreSettled t places.seats places.rooms back

-- the pass that comes back of the place is idle there then, and at the others what was there stays
pub record SettlesAt (t : Table) (place : ℕ) (old new : Places) : Type 0 where
  pub seat : Seat
  pub room : ArrayVec Row
  pub back : Pass
  pub room_after : ArrayVec Row
  pub seat_is : seat ≡ slice_index_or old.seats place seat
  pub room_is : room ≡ slice_index_or old.rooms place room
  pub settles : SettlesTo t seat room.items back
  pub seats : new.seats ≡ slice_set old.seats place (Idle back)
  pub rooms : new.rooms ≡ slice_set old.rooms place room_after
