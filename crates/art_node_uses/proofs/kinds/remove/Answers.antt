use Rattle.art_node_uses.proofs.Stays.{stays}
use Rattle.art_node_uses.proofs.kinds.remove.Goals as goal

pub returns : goal.returns
returns g c = stays g.K.NodeKind.layout c.args.body.now c.take.new.body _ c.requires c.take.ensures.taken c.take.ensures.layout
