-- What a schedule does, one task after another: its lines, and at the end of its input what is still under way.
use Rattle.std.specs.Prelude.{◌≡◌, ◌≢◌, ◌⊎◌, ℕ, Bool, true, false, List, [], ◌∷◌, ◌++◌, length, slice_index_or, slice_set, Some, None}
use Rattle.arrayvec.specs.ArrayVec.{ArrayVec}
use Rattle.art_model.specs.declared.rows.Row.{Row}
use Rattle.art_schedule.specs.Desks.{Places}
use Rattle.art_schedule.specs.Lines.{Said, end, line_order}
use Rattle.art_schedule.specs.Orders.{Obeys, fits}
use Rattle.art_schedule.specs.Seats.{Advances, IsIdle, is_idle}
use Rattle.art_schedule.specs.Tells.{told_text}
use Rattle.art_schedule.specs.declared.orders.Told.{Told}
use Rattle.art_schedule.specs.declared.seats.Seat.{Seat}
use Rattle.art_schedule.specs.declared.stops.Stop.{Stop}
use Rattle.art_schedule.specs.declared.stops.Stop.TheVariants.{BadLine, WriteFault, NoMemory}
use Rattle.art_server.specs.ArtTable.declared.tables.Table.{Table}

-- a line is obeyed, or what is under way at a place is run to its end
pub data Task : Type 0 where
  obey : List ℕ → Task
  end_at : ℕ → Task

-- ---- one task

-- the pass at the place obeyed: what is printed of it. Nothing changed at another place.
pub record ObeysAt (t : Table) (place : ℕ) (said : Said) (old : Places) (text : List ℕ) (new : Places) : Type 0 where
  pub seat : Seat
  pub room : ArrayVec Row
  pub seat_after : Seat
  pub room_after : ArrayVec Row
  pub seat_is : seat ≡ slice_index_or old.seats place seat
  pub room_is : room ≡ slice_index_or old.rooms place room
  pub seats : new.seats ≡ slice_set old.seats place seat_after
  pub rooms : new.rooms ≡ slice_set old.rooms place room_after
  pub told : Told
  pub obeys : Obeys t said seat room.items seat_after room_after.items told
  pub prints : text ≡ told_text place told

-- the line names a pass and an order, and that pass obeyed
pub record ObeysLine (t : Table) (line : List ℕ) (old : Places) (text : List ℕ) (new : Places) : Type 0 where
  pub place : ℕ
  pub said : Said
  pub says : line_order line ≡ Some (place, said)
  pub obeys : ObeysAt t place said old text new

-- at the place nothing is under way, so nothing is done and nothing printed
pub record StaysIdle (place : ℕ) (old : Places) (text : List ℕ) (new : Places) : Type 0 where
  pub seat : Seat
  pub seat_is : seat ≡ slice_index_or old.seats place seat
  pub idle : IsIdle seat
  pub none : text ≡ []
  pub same : new ≡ old

abbrev pub Does : Table → Task → Places → List ℕ → Places → Type 0
Does t (obey line) old text new = ObeysLine t line old text new
Does t (end_at place) old text new = StaysIdle place old text new ⊎ ObeysAt t place end old text new

-- ---- tasks one after another

-- each from the places as the one before it left them: what they print
abbrev pub DoesAll : Table → List Task → Places → List ℕ → Places → Type 0
DoesAll t [] old text new = (text ≡ []) × (new ≡ old)
DoesAll t (task ∷ tasks) old text new =
    (one : List ℕ) × (others : List ℕ) × (m : Places) × (text ≡ one ++ others) × Does t task old one m × DoesAll t tasks m others new

-- ---- a task that stops a schedule

-- whether what stands at the place can do it: a start wants an idle pass, and each other order a command under way
pub record CanDo (place : ℕ) (said : Said) (now : Places) (can : Bool) : Type 0 where
  pub seat : Seat
  pub seat_is : seat ≡ slice_index_or now.seats place seat
  pub can_is : fits said (is_idle seat) ≡ can

-- the line says an order, and whether its pass can do it
pub record LineCan (line : List ℕ) (now : Places) (can : Bool) : Type 0 where
  pub place : ℕ
  pub said : Said
  pub says : line_order line ≡ Some (place, said)
  pub can_do : CanDo place said now can

-- a bad line says no order, or one that its pass cannot do
abbrev pub IsBad : Task → Places → Type 0
IsBad (obey line) now = (line_order line ≡ None) ⊎ LineCan line now false
IsBad (end_at place) now = ⊥

-- what is under way at the place goes on or was run to its end, and at the others what was there stays
pub record AdvancesAt (t : Table) (place : ℕ) (old new : Places) : Type 0 where
  pub seat : Seat
  pub room : ArrayVec Row
  pub seat_after : Seat
  pub room_after : ArrayVec Row
  pub seat_is : seat ≡ slice_index_or old.seats place seat
  pub room_is : room ≡ slice_index_or old.rooms place room
  pub seats : new.seats ≡ slice_set old.seats place seat_after
  pub rooms : new.rooms ≡ slice_set old.rooms place room_after
  pub advances : Advances t seat room.items seat_after room_after.items

-- the line says an order that its pass can do, of which nothing is told
pub record LineIsUntold (t : Table) (line : List ℕ) (old new : Places) : Type 0 where
  pub place : ℕ
  pub said : Said
  pub says : line_order line ≡ Some (place, said)
  pub can_do : CanDo place said old true
  pub advances : AdvancesAt t place old new

-- a task that can be done, a line or the end of a command under way, of which nothing is told
abbrev pub IsUntold : Table → Task → Places → Places → Type 0
IsUntold t (obey line) old new = LineIsUntold t line old new
IsUntold t (end_at place) old new = CanDo place end old true × AdvancesAt t place old new

-- of what it prints, which is something, a front was written
pub record IsCut (does : List ℕ → Type 0) (part : List ℕ) : Type 0 where
  pub text : List ℕ
  pub rest : List ℕ
  pub done : does text
  pub some : text ≢ []
  pub whole : text ≡ part ++ rest

-- Why a schedule stops at a task, what was written of it, and the places as it left them: a bad line as they were before it, a task whose
-- text was cut as it does.
abbrev pub StopsFor : Table → Stop → Task → Places → List ℕ → Places → Type 0
StopsFor t BadLine task old part new = IsBad task old × (part ≡ []) × (new ≡ old)
StopsFor t WriteFault task old part new = IsCut (λ text. Does t task old text new) part
StopsFor t NoMemory task old part new = IsUntold t task old new × (part ≡ [])

-- the tasks before the one of this place among them, from 0 on, were done, and that one stopped the schedule: what was written in all, and
-- the places then
pub record StopsAt (t : Table) (stop : Stop) (tasks : List Task) (old : Places) (written : List ℕ) (count : ℕ) (new : Places)
    : Type 0 where
  pub before : List Task
  pub at : Task
  pub after : List Task
  pub split : tasks ≡ before ++ at ∷ after
  pub count_is : count ≡ length before
  pub text : List ℕ
  pub part : List ℕ
  pub m : Places
  pub done : DoesAll t before old text m
  pub stops : StopsFor t stop at m part new
  pub whole : written ≡ text ++ part
