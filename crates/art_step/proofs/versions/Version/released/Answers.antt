use Rattle.std.proofs.Common.{rules}
use Rattle.art_step.proofs.versions.Version.released.Goals as goal

pub returns : goal.returns
returns c = search rules
