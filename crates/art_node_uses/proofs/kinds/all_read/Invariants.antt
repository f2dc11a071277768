use Rattle.art_cell.specs.Reads.{Agrees, word_of}
use Rattle.art_node_uses.proofs.kinds.all_read.Given as goal

abbrev pub invariant-loop-place : goal.invariant-loop-place
invariant-loop-place l = Agrees l.reads (word_of l.body)
