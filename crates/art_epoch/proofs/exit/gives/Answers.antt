use Rattle.std.proofs.Common.{rules}
use Rattle.art_epoch.proofs.exit.gives.Goals as goal

pub returns-in-None : goal.returns-in-None
returns-in-None c = search rules
