use Rattle.std.proofs.Common.{sym, ◌∙◌}
use Rattle.art_model.proofs.Owed.{found_here, passed_over}
use Rattle.art_model.proofs.scans.value_at.Goals as goal

pub returns-then-is_same : goal.returns-then-is_same
returns-then-is_same c =
    found_here c.args.rows.now c.args.tuple.now c.loop-row.row-index c.row-item.result c.loop-row-test.true c.row-item.is c.loop-row.invariant (sym c.is_same.ensures ∙ c.if-is_same.true)

pub loop-row-preserved : goal.loop-row-preserved
loop-row-preserved c =
    passed_over c.args.rows.now c.args.tuple.now c.loop-row.row-index c.row-item.result c.loop-row-test.true c.row-item.is c.loop-row.invariant (sym c.is_same.ensures ∙ c.if-is_same.false)
