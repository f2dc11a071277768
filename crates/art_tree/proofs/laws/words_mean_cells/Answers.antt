use Rattle.art_tree.proofs.Meanings.{words_mean}
use Rattle.art_tree.proofs.laws.words_mean_cells.Goals as goal

pub returns : goal.returns
returns c = words_mean
