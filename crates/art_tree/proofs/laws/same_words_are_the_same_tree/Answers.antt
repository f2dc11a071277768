use Rattle.art_tree.proofs.Meanings.{same_tree}
use Rattle.art_tree.proofs.SameWords.{same_meaning}
use Rattle.art_tree.proofs.laws.same_words_are_the_same_tree.Goals as goal

pub returns-clause-tree : goal.returns-clause-tree
returns-clause-tree c = same_tree

pub returns-clause-words : goal.returns-clause-words
returns-clause-words c = same_meaning
