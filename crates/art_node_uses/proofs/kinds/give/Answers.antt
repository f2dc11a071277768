use Rattle.art_node_uses.proofs.Stays.{stays_either_way}
use Rattle.art_node_uses.proofs.kinds.give.Goals as goal

pub returns : goal.returns
returns g c = stays_either_way g.K.NodeKind.layout c.args.body.now c.add.new.body c.add.result _ c.requires.body c.add.ensures.added c.add.ensures.refused c.add.ensures.layout
