use Rattle.std.proofs.Common.{arith}
use Rattle.art_cell.specs.Reads.{word_of}
use Rattle.art_plan.proofs.ShrunkNodes.{less_fits, less_node}
use Rattle.art_plan.proofs.remove.shrunk.Goals as goal

pub shrink-requires-clause-fits : goal.shrink-requires-clause-fits
shrink-requires-clause-fits c = less_fits c.args.body.now c.take.new.body c.args.byte (omega (arith, c.ranges.byte.fits)) c.requires.sparse c.take.ensures.layout c.take.ensures.less

pub returns-clause-node : goal.returns-clause-node
returns-clause-node c =
    less_node c.args.body.now c.take.new.body c.args.byte (omega (arith, c.ranges.byte.fits)) c.requires.sparse c.take.ensures.layout c.take.ensures.less (word_of c.shrink.new.shrunk) c.shrink.ensures.same
