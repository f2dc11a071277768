use Rattle.std.proofs.Common.{rules}
use Rattle.art_epoch.proofs.enter.Pinning.told.Goals as goal

pub returns-in-Noting-clause-fits : goal.returns-in-Noting-clause-fits
returns-in-Noting-clause-fits c = search rules
