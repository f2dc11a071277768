use Rattle.art_tree.proofs.ChildWords.{link_back, link_exact}
use Rattle.art_tree.proofs.laws.child_words_are_read_back.Goals as goal

pub returns-clause-back : goal.returns-clause-back
returns-clause-back c = link_back

pub returns-clause-exact : goal.returns-clause-exact
returns-clause-exact c = link_exact
