use Rattle.std.proofs.Common.{◌+◌, arith}
use Rattle.art_cell.specs.declared.cells.Layout.TheVariants.{Node256}
use Rattle.art_cell.specs.Words.{child_of}
use Rattle.art_cell.specs.Lemmas.Entries.{none_from_more}
use Rattle.art_node256.proofs.kind.Node256NodeKind.at_least.Goals as goal

pub returns-in-Child-clause-tells : goal.returns-in-Child-clause-tells
returns-in-Child-clause-tells c w body agrees = record {
  above = omega arith;
  here = c.in-Child.ensures.tells w body agrees;
  least = c.loop-at.invariant w body agrees;
}

pub loop-at-preserved : goal.loop-at-preserved
loop-at-preserved c w body agrees =
    none_from_more (child_of Node256 w) c.args.byte c.loop-at.at (c.loop-at.at + 1) (omega arith) (c.loop-at.invariant w body agrees) (c.in-None.ensures.tells w body agrees)

pub returns-in-None-clause-tells : goal.returns-in-None-clause-tells
returns-in-None-clause-tells c w body agrees =
    none_from_more (child_of Node256 w) c.args.byte c.loop-at.at 256 (omega arith) (c.loop-at.invariant w body agrees) (c.in-None.ensures.tells w body agrees)
