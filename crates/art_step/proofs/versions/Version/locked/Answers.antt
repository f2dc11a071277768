use Rattle.std.proofs.Common.{refl}
use Rattle.art_step.proofs.versions.Version.locked.Goals as goal

pub returns : goal.returns
returns c = refl
