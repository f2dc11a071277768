use Rattle.art_world_uses.proofs.Ready.{opened_calls}
use Rattle.art_world_uses.proofs.worlds.caller_of.Goals as goal

pub returns : goal.returns
returns g c = opened_calls c.args.sizes.now 0 c.args.world.now c.args.own c.new.result c.requires.new c.requires.inside c.new.ensures
