use Rattle.std.proofs.Common.{sym, ap, ◌∙◌, arith}
use Rattle.art_cell.specs.Words.{child_of}
use Rattle.art_node4.specs.Sorted.{layout_of}
use Rattle.art_node4.proofs.NodeWords.{few_in_use, child_read, child_read_some, none_before, none_past}
use Rattle.art_node4.proofs.probes.probe.Goals as goal

pub returns-then-found-byte-clause-tells : goal.returns-then-found-byte-clause-tells
returns-then-found-byte-clause-tells c w body agrees =
    let first = c.in-At.ensures.tells w (few_in_use c.args.sorted w body) agrees in
    none_before c.args.sorted w c.args.byte c.in-At.index c.in-At.found body first c.args.byte (omega arith) (omega (arith, first.above))

pub returns-in-Some-eq0-clause-tells : goal.returns-in-Some-eq0-clause-tells
returns-in-Some-eq0-clause-tells c w body agrees =
    let first = c.in-At.ensures.tells w (few_in_use c.args.sorted w body) agrees in
    let some = child_read_some c.args.sorted w c.args.byte c.in-At.index c.in-At.found _ c.in-Some-eq0.field-0 c.args.reads.now body agrees first c.first_child.ensures.value (sym c.in-Some-eq0.ensures) in
    absurd (omega (arith, some, c.in-Some-eq0.field-0-test))

pub returns-in-Some-clause-tells : goal.returns-in-Some-clause-tells
returns-in-Some-clause-tells c w body agrees =
    let first = c.in-At.ensures.tells w (few_in_use c.args.sorted w body) agrees in
    ap (child_of (layout_of c.args.sorted) w) (sym c.if-found-byte.false)
    ∙ child_read c.args.sorted w c.args.byte c.in-At.index c.in-At.found _ c.in-Some.child c.args.reads.now body agrees first c.first_child.ensures.value (sym c.in-Some.ensures)

pub returns-in-Nothing-clause-tells : goal.returns-in-Nothing-clause-tells
returns-in-Nothing-clause-tells c w body agrees =
    none_past c.args.sorted w c.args.byte body (c.in-Nothing.ensures.tells w (few_in_use c.args.sorted w body) agrees) c.args.byte (omega arith) (omega arith)
