-- An order that ends the command: what was done before its end, and the end, are what the order says.
use Rattle.std.proofs.Common.{ℕ, List, false, subst}
use Rattle.art_model.specs.declared.rows.Row.{Row}
use Rattle.art_schedule.specs.Lines.{until, step}
use Rattle.art_schedule.specs.Orders.{EndsWith, GoesOn, Obeys, TellsEnd}
use Rattle.art_schedule.specs.Steps.{ReachesOrStops, StepsOrStops}
use Rattle.art_schedule.specs.declared.lines.Mark.{Mark}
use Rattle.art_schedule.specs.declared.orders.Told.{Told}
use Rattle.art_schedule.specs.declared.orders.Told.TheVariants.{Nothing, At, Stepped, Ended}
use Rattle.art_schedule.specs.declared.seats.Seat.{Seat}
use Rattle.art_server.specs.ArtTable.declared.tables.Table.{Table}

module _ (t : Table) (old between new : Seat) (rows rows_between rows_after : List Row) where
  pub until_ends : (mark : Mark) (n : ℕ) → GoesOn t old rows between rows_between (λ r s. ReachesOrStops t mark n r s rows_between false) → (told : Told)
      → EndsWith t between rows_between new rows_after told → Obeys t (until mark n) old rows new rows_after told
  until_ends mark n on Nothing ends = absurd ends
  until_ends mark n on (At m) ends = absurd ends
  until_ends mark n on Stepped ends = absurd ends
  until_ends mark n on (Ended reply restarts) ends = record {
    running = on.running;
    between = on.running_after;
    rows_between = rows_between;
    was = on.was;
    keeps = on.keeps;
    steps = on.steps;
    ends = subst (λ (s : Seat). TellsEnd t s rows_between new rows_after reply.items restarts) on.now ends;
  }

  pub step_ends : (n : ℕ) → GoesOn t old rows between rows_between (λ r s. StepsOrStops t n r s rows_between false) → (told : Told)
      → EndsWith t between rows_between new rows_after told → Obeys t (step n) old rows new rows_after told
  step_ends n on Nothing ends = absurd ends
  step_ends n on (At m) ends = absurd ends
  step_ends n on Stepped ends = absurd ends
  step_ends n on (Ended reply restarts) ends = record {
    running = on.running;
    between = on.running_after;
    rows_between = rows_between;
    was = on.was;
    keeps = on.keeps;
    steps = on.steps;
    ends = subst (λ (s : Seat). TellsEnd t s rows_between new rows_after reply.items restarts) on.now ends;
  }
