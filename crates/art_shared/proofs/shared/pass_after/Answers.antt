use Rattle.std.proofs.Common.{refl}
use Rattle.art_shared.proofs.shared.pass_after.Goals as goal

pub returns : goal.returns
returns c = rw c.requires.epoch refl
