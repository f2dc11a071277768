-- What stands at a place, after what is done there.
use Rattle.std.proofs.Common.{◌≡◌, ℕ, ◌^◌, ◌<◌, List, subst, ap, arith}
use Rattle.art_model.specs.declared.commands.Command.{Command}
use Rattle.art_model.specs.declared.rows.Row.{Row}
use Rattle.art_server.specs.ArtScan.Endings.{CommandEnds}
use Rattle.art_server.specs.ArtTable.Tables.{IsPassOf, view_of}
use Rattle.art_server.specs.ArtScan.Running.{IsRunning, view_in}
use Rattle.art_server.specs.Sessions.{IsSamePass}
use Rattle.art_step.specs.declared.views.View.{View}
use Rattle.art_schedule.proofs.Ends.{IsSamePass-trans, same_after}
use Rattle.art_schedule.specs.Seats.{IsGoing, IsSeat}
use Rattle.art_server.specs.ArtScan.declared.running.Ending.{Ending}
use Rattle.art_server.specs.ArtTable.declared.passes.Pass.{Pass}
use Rattle.art_server.specs.ArtScan.declared.running.Running.{Running}
use Rattle.art_server.specs.ArtTable.declared.tables.Table.{Table}
use Rattle.art_schedule.specs.declared.seats.Seat.{Seat}
use Rattle.art_schedule.specs.declared.seats.Seat.TheVariants.{Idle}

module _ (t : Table) where
  -- a command is begun where the pass was idle
  pub IsSeat-begin : (p q : Pass) (s : Seat) (r : Running) (command : Command) (turns : ℕ) (rows rows_after : List Row) → s ≡ Idle q
      → IsRunning t command turns q r rows_after → view_in r ≡ view_of q → turns < 2 ^ 32 → IsSeat t p s rows → IsGoing t p r rows_after
  IsSeat-begin p q s r command turns rows rows_after was runs still few seat =
      let idle = subst (λ (x : Seat). IsSeat t p x rows) was seat in
      record {
        command = command;
        turns = turns;
        began = q;
        same = idle.1;
        few = few;
        runs = runs;
        since = omega (arith, ap (λ (x : View). x.steps) still);
      }

  -- a command is finished
  pub IsPassOf-finish : (p q : Pass) (r : Running) (rows rows_after : List Row) (e : Ending) → IsGoing t p r rows → IsPassOf t q
      → ((c : Command) (turns : ℕ) (m : Pass) → IsRunning t c turns m r rows → CommandEnds t c turns m rows_after e q)
      → IsPassOf t q × IsSamePass p q
  IsPassOf-finish p q r rows rows_after e going pass ends = (
    pass,
    IsSamePass-trans p going.began q going.same
        (same_after t going.turns going.began rows_after q going.command e (ends going.command going.turns going.began going.runs)),
  )
