use Rattle.std.proofs.Common.{sym, subst, ℕ}
use Rattle.art_tools.proofs.Backs.{opened_of}
use Rattle.art_tools.proofs.Loaded.{has_loaded, has_not_loaded, not_closed_after, of_ok, told_some}
use Rattle.art_tools.specs.Loads.{load_text}
use Rattle.art_tools.specs.Statuses.{fault_in}
use Rattle.art_tools.specs.Tables.{Prints}
use Rattle.art_tools.proofs.loads.load_table.Goals as goal

pub load-passes-requires-clause-of : goal.load-passes-requires-clause-of
load-passes-requires-clause-of g c κs within =
    opened_of c.in_ok-schema.schema c.args.asked.threads c.args.asked.sizes c.in_ok-table.table c.in_ok-table.passes.items
    c.in_ok-table.ensures.opened

pub returns-in_err-counts : goal.returns-in_err-counts
returns-in_err-counts g c =
    let r = c.from_residual-in_err-counts in
    has_not_loaded c.args.asked _ _ (told_some r.result _ r.ensures.1)

pub returns-in_err-closed : goal.returns-in_err-closed
returns-in_err-closed g c =
    let r = c.from_residual-in_err-closed in
    let loads = of_ok c.load-passes.result.1 _ c.in_ok-counts.counts c.in_ok-counts.was c.load-passes.ensures.loads in
    not_closed_after c.args.asked c.in_ok-schema.schema c.in_ok-table.table c.in_ok-table.passes.items c.load-passes.result.0.items
    c.in_ok-counts.counts c.in_ok-table.ensures.opened loads _ _ c.in_err-closed.field-0.0 (told_some r.result _ r.ensures.1)
    c.in_err-closed.ensures.why

pub returns : goal.returns
returns g c =
    let loads = of_ok c.load-passes.result.1 _ c.in_ok-counts.counts c.in_ok-counts.was c.load-passes.ensures.loads in
    let printed = subst (λ (n : ℕ). Prints (load_text c.in_ok-counts.counts n) (g.W.Write.contents c.args.writer.now)
    (g.W.Write.contents c.print_load.new.writer) (fault_in c.print_load.result)) c.len-rows.ensures c.print_load.ensures in
    has_loaded c.args.asked c.in_ok-schema.schema c.in_ok-table.table c.in_ok-table.passes.items c.load-passes.result.0.items
    c.in_ok-counts.counts c.in_ok-table.ensures.opened loads c.in_ok-closed.field-0 _ _ _ (sym c.in_ok-schema.ensures)
    c.in_ok-closed.ensures.closed printed
