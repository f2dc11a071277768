use Rattle.std.proofs.Common.{refl}
use Rattle.art_scan.proofs.tilings.Tiling.told.Goals as goal

pub returns-clause-from : goal.returns-clause-from
returns-clause-from c = refl
