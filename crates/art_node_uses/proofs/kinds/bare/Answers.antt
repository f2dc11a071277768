use Rattle.art_cell.specs.Lemmas.Empty.{zero_body, no_words}
use Rattle.art_node_uses.proofs.kinds.bare.Goals as goal

pub returns : goal.returns
returns g c = record { layout = c.requires; meaning = zero_body g.K.NodeKind.layout _ (no_words 266) }
