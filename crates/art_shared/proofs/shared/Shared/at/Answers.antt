use Rattle.std.proofs.Common.{refl}
use Rattle.art_shared.proofs.shared.Shared.at.Goals as goal

pub returns-clause-pass : goal.returns-clause-pass
returns-clause-pass c = refl
