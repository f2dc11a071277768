use Rattle.art_node.proofs.words.link_in.Goals as goal

pub returns : goal.returns
returns c = c.named_by.ensures
