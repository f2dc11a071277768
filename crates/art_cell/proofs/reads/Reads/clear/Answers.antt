use Rattle.art_cell.proofs.KnownLemmas.{none_known}
use Rattle.art_cell.proofs.reads.Reads.clear.Goals as goal

pub returns : goal.returns
returns c = none_known c.self.inside.words
