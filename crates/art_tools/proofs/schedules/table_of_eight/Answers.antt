use Rattle.std.proofs.Common.{subst, sym}
use Rattle.art_tools.proofs.Passes.{new_passes}
use Rattle.art_tools.proofs.schedules.table_of_eight.Goals as goal
use Rattle.art_tools.specs.Schedules.{AreEight, of_eight_passes}

pub returns-clause-passes : goal.returns-clause-passes
returns-clause-passes c =
    let t = c.in_ok-table.table in
    let opened = c.in_ok-table.ensures.opened in
    subst (AreEight t) (sym c.in-Ok.ensures.0)
    (opened.count, new_passes c.args.schema (of_eight_passes c.args.sizes) t c.in_ok-table.passes.items opened)
