use Rattle.art_cell.proofs.KnownLemmas.{none_known}
use Rattle.art_cell.proofs.reads.Reads.new.Goals as goal

pub returns : goal.returns
returns c = none_known _
