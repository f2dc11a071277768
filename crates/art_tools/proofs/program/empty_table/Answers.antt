use Rattle.std.proofs.Common.{subst}
use Rattle.art_server.specs.ArtTable.Opening.{IsOpened}
use Rattle.art_tools.proofs.Passes.{new_pass, only_pass}
use Rattle.art_tools.proofs.program.empty_table.Goals as goal
use Rattle.art_tools.specs.Outputs.{of_one_pass}

pub returns-clause-pass : goal.returns-clause-pass
returns-clause-pass c =
    let opened = c.in_ok-table.ensures.opened in
    let q = c.unwrap-pass.result in
    let new = new_pass c.args.schema (of_one_pass c.args.sizes) c.in_ok-table.table c.in_ok-table.passes.items q opened
    (only_pass _ _ _ q c.pop.ensures.items c.unwrap-pass.ensures opened.count) in
    (new.of, new.number_is, new.seen)

pub returns-clause-opened : goal.returns-clause-opened
returns-clause-opened c =
    let opened = c.in_ok-table.ensures.opened in
    subst (IsOpened c.args.schema (of_one_pass c.args.sizes) c.in_ok-table.table)
    (only_pass _ _ _ c.unwrap-pass.result c.pop.ensures.items c.unwrap-pass.ensures opened.count) opened
