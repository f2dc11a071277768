-- What a pass that follows an order does, and what is told of it.
use Rattle.std.specs.Prelude.{◌≡◌, ℕ, ◌++◌, ◌∷◌, [], List, Bool, not, Ok, Err}
use Rattle.art_model.specs.declared.commands.Command.{Command}
use Rattle.art_model.specs.declared.rows.Row.{Row}
use Rattle.arrayvec.specs.ArrayVec.{ArrayVec}
use Rattle.art_schedule.specs.Lines.{Said, start, until, step, end}
use Rattle.art_lines.specs.Refusals.{line_refusal}
use Rattle.art_lines.specs.Lines.{line_says}
use Rattle.art_server.specs.Endings.{reply_of_ending}
use Rattle.art_server.specs.Replies.{text_of_reply}
use Rattle.art_schedule.specs.Seats.{Advances, BeginsThere, EndsThere, IsIdle, KeepsRunning}
use Rattle.art_schedule.specs.Steps.{MakesFewer, MakesMany, MissesMark, ReachesMark}
use Rattle.art_server.specs.ArtScan.declared.running.Ending.{Ending}
use Rattle.art_lines.specs.declared.lines.LineFault.{LineFault}
use Rattle.art_server.specs.ArtScan.declared.running.Running.{Running}
use Rattle.art_server.specs.ArtTable.declared.tables.Table.{Table}
use Rattle.art_schedule.specs.declared.orders.Told.{Told}
use Rattle.art_schedule.specs.declared.orders.Told.TheVariants.{Nothing, At, Stepped, Ended}
use Rattle.art_schedule.specs.declared.seats.Seat.{Seat}
use Rattle.art_schedule.specs.declared.stops.Stop.{Stop}
use Rattle.art_schedule.specs.declared.stops.Stop.TheVariants.{BadLine, WriteFault, NoMemory}
use Rattle.art_schedule.specs.declared.seats.Seat.TheVariants.{Going}

-- a start wants an idle pass, and each other order a command under way
abbrev pub fits : Said → Bool → Bool
fits (start turns text) idle = idle
fits (until mark times) idle = not idle
fits (step times) idle = not idle
fits end idle = not idle

-- the command that the text says is begun
pub record Begins (t : Table) (turns : ℕ) (text : List ℕ) (old new : Seat) (rows : List Row) : Type 0 where
  pub command : Command
  pub says : line_says text ≡ Ok command
  pub there : BeginsThere t command turns old new rows

-- the text says no command: nothing is begun by the idle pass, and the refusal of the text is told
pub record IsRefused (text : List ℕ) (old new : Seat) (reply : List ℕ) (restarts : ℕ) : Type 0 where
  pub fault : LineFault
  pub says : line_says text ≡ Err fault
  pub idle : IsIdle old
  pub stays : new ≡ old
  pub reply_is : reply ++ 10 ∷ [] ≡ text_of_reply (Err (line_refusal fault))
  pub none : restarts ≡ 0

-- the command under way made these steps, and goes on: it is the same command
pub record GoesOn (t : Table) (old : Seat) (rows : List Row) (new : Seat) (rows_after : List Row) (made : Running → Running → Type 0)
    : Type 0 where
  pub running : Running
  pub running_after : Running
  pub was : old ≡ Going running
  pub now : new ≡ Going running_after
  pub keeps : KeepsRunning t running rows running_after rows_after
  pub steps : made running running_after

-- what is under way makes all steps that are left, and its reply is told
pub record TellsEnd (t : Table) (old : Seat) (rows : List Row) (new : Seat) (rows_after : List Row) (reply : List ℕ) (restarts : ℕ)
    : Type 0 where
  pub ending : Ending
  pub there : EndsThere t old rows new rows_after ending restarts
  pub reply_is : reply ++ 10 ∷ [] ≡ text_of_reply (reply_of_ending rows_after ending)

-- what is under way makes these steps, of which none is left then, and its reply is told
pub record EndsAfter (t : Table) (old : Seat) (rows : List Row) (made : Running → Running → List Row → Type 0)
    (new : Seat) (rows_after : List Row) (reply : List ℕ) (restarts : ℕ) : Type 0 where
  pub running : Running
  pub between : Running
  pub rows_between : List Row
  pub was : old ≡ Going running
  pub keeps : KeepsRunning t running rows between rows_between
  pub steps : made running between rows_between
  pub ends : TellsEnd t (Going between) rows_between new rows_after reply restarts

-- what is told of an order, and what was done
abbrev pub Obeys : Table → Said → Seat → List Row → Seat → List Row → Told → Type 0
Obeys t (start turns text) old rows new rows_after Nothing = Begins t turns text old new rows_after
Obeys t (start turns text) old rows new rows_after (Ended reply restarts) = IsRefused text old new reply.items restarts
Obeys t (until mark n) old rows new rows_after (At m) = (m ≡ mark) × GoesOn t old rows new rows_after (ReachesMark t mark n)
Obeys t (until mark n) old rows new rows_after (Ended reply restarts) =
    EndsAfter t old rows (MissesMark t mark n) new rows_after reply.items restarts
Obeys t (step n) old rows new rows_after Stepped = GoesOn t old rows new rows_after (MakesMany t n)
Obeys t (step n) old rows new rows_after (Ended reply restarts) = EndsAfter t old rows (MakesFewer t n) new rows_after reply.items restarts
Obeys t end old rows new rows_after (Ended reply restarts) = TellsEnd t old rows new rows_after reply.items restarts
Obeys t said old rows new rows_after told = ⊥

-- the end that is told
abbrev pub EndsWith : Table → Seat → List Row → Seat → List Row → Told → Type 0
EndsWith t old rows new rows_after (Ended reply restarts) = TellsEnd t old rows new rows_after reply.items restarts
EndsWith t old rows new rows_after told = ⊥

-- What an order leaves that was not told. One that its pass cannot do leaves all as it was; where there was no memory, what is under way
-- goes on or was run to its end.
abbrev pub Leaves : Table → Stop → Seat → ArrayVec Row → Seat → ArrayVec Row → Type 0
Leaves t BadLine old room new room_after = (new ≡ old) × (room_after ≡ room)
Leaves t WriteFault old room new room_after = ⊥
Leaves t NoMemory old room new room_after = Advances t old room.items new room_after.items
