use Rattle.std.proofs.Common.{◌+◌, arith}
use Rattle.art_cell.specs.declared.cells.Layout.TheVariants.{Node48}
use Rattle.art_cell.specs.Words.{child_of}
use Rattle.art_node48.proofs.Index.{none_more}
use Rattle.art_node48.proofs.node48.Node48NodeKind.at_least.Goals as goal

pub returns-in-Child-clause-tells : goal.returns-in-Child-clause-tells
returns-in-Child-clause-tells c = λ w body agrees. record {
  above = c.loop-byte.auto.byte;
  here = c.in-Child.ensures.tells w body agrees;
  least = c.loop-byte.invariant w body agrees;
}

pub loop-byte-preserved : goal.loop-byte-preserved
loop-byte-preserved c = λ w body agrees.
    none_more (child_of Node48 w) c.args.byte c.loop-byte.byte (c.loop-byte.byte + 1) (c.loop-byte.invariant w body agrees) (c.in-None.ensures.tells w body agrees) (omega arith)

pub returns-in-None-clause-tells : goal.returns-in-None-clause-tells
returns-in-None-clause-tells c = λ w body agrees.
    none_more (child_of Node48 w) c.args.byte c.loop-byte.byte 256 (c.loop-byte.invariant w body agrees) (c.in-None.ensures.tells w body agrees) (omega (arith))
