use Rattle.std.proofs.Common.{sym}
use Rattle.art_node4.proofs.NodeWords.{few_in_use, child_read, none_before, none_past}
use Rattle.art_node4.proofs.probes.at_least.Goals as goal

pub returns-in-Some-clause-tells : goal.returns-in-Some-clause-tells
returns-in-Some-clause-tells c w body agrees =
    let first = c.in-At.ensures.tells w (few_in_use c.args.sorted w body) agrees in
    record {
      above = first.above;
      here = child_read c.args.sorted w c.args.byte c.in-At.index c.in-At.found _ c.in-Some.child c.args.reads.now body agrees first c.first_child.ensures.value (sym c.in-Some.ensures);
      least = none_before c.args.sorted w c.args.byte c.in-At.index c.in-At.found body first;
    }

pub returns-in-Nothing-clause-tells : goal.returns-in-Nothing-clause-tells
returns-in-Nothing-clause-tells c w body agrees =
    none_past c.args.sorted w c.args.byte body (c.in-Nothing.ensures.tells w (few_in_use c.args.sorted w body) agrees)
