use Rattle.std.proofs.Common.{subst, sym}
use Rattle.std.specs.Prelude.{List}
use Rattle.art_model.specs.declared.rows.Row.{Row}
use Rattle.art_server.specs.ArtScan.Endings.{CommandEnds}
use Rattle.art_schedule.proofs.orders.ended.Goals as goal

pub print_ending-requires : goal.print_ending-requires
print_ending-requires c =
    let e = c.end-ending.ensures.ends in
    let t = c.args.table.now in
    (t, e.command, e.turns, e.began, e.pass, subst (λ (rows : List Row). CommandEnds t e.command e.turns e.began rows c.end-ending.result.0 e.pass) (sym c.as_slice.ensures.value) e.ends)
