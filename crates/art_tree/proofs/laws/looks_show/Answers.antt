use Rattle.art_tree.proofs.TreeLaws.{looks_at_anchor, looks_at_node}
use Rattle.art_tree.proofs.laws.looks_show.Goals as goal

pub returns-clause-anchor : goal.returns-clause-anchor
returns-clause-anchor c = looks_at_anchor

pub returns-clause-node : goal.returns-clause-node
returns-clause-node c = looks_at_node
