use Rattle.std.proofs.Common.{rules}
use Rattle.art_runs_uses.proofs.Ready.{opened_writes}
use Rattle.art_runs_uses.proofs.clients.opened.Goals as goal

pub returns : goal.returns
returns g c = opened_writes c.args.sizes.now c.args.counter_start c.expect-world.result c.new-caller.result (search rules) c.requires.some c.new-caller.ensures
