use Rattle.std.proofs.Common.{refl}
use Rattle.art_plan.proofs.changes.make.Goals as goal

pub returns : goal.returns
returns c = refl
