use Rattle.art_node_uses.proofs.Stays.{stays}
use Rattle.art_node_uses.proofs.kinds.change.Goals as goal

pub returns : goal.returns
returns g c = stays g.K.NodeKind.layout c.args.body.now c.set.new.body _ c.requires.body c.set.ensures.set c.set.ensures.layout
