use Rattle.art_cell.specs.Words.{byte_of}
use Rattle.art_path.specs.Compared.{AreSame}
use Rattle.art_path.proofs.compared.compare_bytes.Given as goal

abbrev pub invariant-loop-at : goal.invariant-loop-at
invariant-loop-at l = AreSame (byte_of l.word) l.at l.key l.from
