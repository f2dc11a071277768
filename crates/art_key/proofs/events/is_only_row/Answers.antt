use Rattle.std.proofs.Common.{sym, ◌∙◌}
use Rattle.std.specs.Option.{option_copied}
use Rattle.art_key.proofs.Looks.{passes_over, finds, stops}
use Rattle.art_key.proofs.Same.{differs_from_ne, same_from_ne}
use Rattle.art_key.proofs.events.is_only_row.Goals as goal
use Rattle.art_key.proofs.events.is_only_row.Goals.{then-is_in_range+else-ne, else-is_in_range}

pub returns-then-ne : goal.returns-then-ne
returns-then-ne c =
    let other = differs_from_ne c.loop-row.left _ c.ne.result c.ne.ensures c.if-ne.true in (
      λ t. absurd (cc),
      λ f. absurd (
          stops c.args.schema.now c.args.lo.now c.args.hi.now c.args.rows.now c.loop-row.row-index c.row-item.result c.loop-row-test.true c.row-item.is (option_copied c.loop-row.left) c.loop-row.invariant
          (sym c.is_in_range.ensures ∙ c.if-is_in_range.true) other f
          ),
    )

pub loop-row-preserved : goal.loop-row-preserved
loop-row-preserved c =
    elim c.if-is_in_range.branch [
      | then-is_in_range+else-ne w ↦
          rw (w.left-is) (
          finds c.args.schema.now c.args.lo.now c.args.hi.now c.args.rows.now c.loop-row.row-index c.row-item.result c.loop-row-test.true c.row-item.is (option_copied c.loop-row.left) c.loop-row.invariant
          (sym c.is_in_range.ensures ∙ w.if-is_in_range.true) c.requires (same_from_ne c.loop-row.left _ w.ne.result w.ne.ensures w.if-ne.false)
          )
      | else-is_in_range w ↦
          rw (w.left-is) (
          passes_over c.args.schema.now c.args.lo.now c.args.hi.now c.args.rows.now c.loop-row.row-index c.row-item.result c.loop-row-test.true c.row-item.is (option_copied c.loop-row.left) c.loop-row.invariant
          (sym c.is_in_range.ensures ∙ w.if-is_in_range.false)
          )
    ]
