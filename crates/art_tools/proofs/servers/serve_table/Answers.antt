use Rattle.std.proofs.Common.{◌∙◌, ℕ, Result, subst, sym}
use Rattle.art_tools.proofs.Backs.{opened_of}
use Rattle.art_tools.proofs.Loaded.{has_no_memory, has_served, not_closed_then, told_some}
use Rattle.art_tools.specs.Servers.{HaveBeenServed}
use Rattle.art_tools.specs.Statuses.{fault_in}
use Rattle.art_tools.specs.Tables.{Prints}
use Rattle.art_tools.specs.declared.run_faults.RunFault.{RunFault}
use Rattle.art_tools.proofs.servers.serve_table.Goals as goal

pub serve_on-passes-requires-clause-of : goal.serve_on-passes-requires-clause-of
serve_on-passes-requires-clause-of g c κs within =
    opened_of c.in_ok-schema.schema c.args.asked.workers c.args.asked.table.sizes c.in_ok-table.table c.in_ok-table.passes.items
    c.in_ok-table.ensures.opened

pub returns-in_err-closed : goal.returns-in_err-closed
returns-in_err-closed g c =
    let t = c.in_ok-table.table in
    let given = c.in_ok-table.passes.items in
    let back = c.serve_on-passes.result.0.items in
    let served = subst (λ (r : Result ℕ RunFault). HaveBeenServed t given back r) c.in_ok-ended.was c.serve_on-passes.ensures.served in
    let r = c.from_residual-in_err-closed in
    not_closed_then _ c.in_ok-schema.schema (sym c.in_ok-schema.ensures) c.args.asked t given back c.in_ok-ended.ended
    c.in_ok-table.ensures.opened served _ _ c.in_err-closed.field-0.0 (told_some r.result _ r.ensures.1) c.in_err-closed.ensures.why

pub returns-in_err-text : goal.returns-in_err-text
returns-in_err-text g c =
    let r = c.from_residual-in_err-text in
    has_no_memory _ c.in_ok-schema.schema (sym c.in_ok-schema.ensures) c.args.asked _ _ (told_some r.result _ r.ensures.1)

pub returns : goal.returns
returns g c =
    let t = c.in_ok-table.table in
    let given = c.in_ok-table.passes.items in
    let back = c.serve_on-passes.result.0.items in
    let served = subst (λ (r : Result ℕ RunFault). HaveBeenServed t given back r) c.in_ok-ended.was c.serve_on-passes.ensures.served in
    let printed = subst (λ text. Prints text (g.W.Write.contents c.args.writer.now) (g.W.Write.contents c.print_text.new.writer)
    (fault_in c.print_text.result)) (c.as_bytes.ensures.value ∙ c.in_ok-text.ensures.ok) c.print_text.ensures in
    has_served _ c.in_ok-schema.schema (sym c.in_ok-schema.ensures) c.args.asked t given back c.in_ok-ended.ended
    c.in_ok-table.ensures.opened served c.in_ok-closed.field-0 _ _ _ c.in_ok-closed.ensures.closed printed
