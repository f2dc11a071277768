use Rattle.std.proofs.Common.{rules}
use Rattle.art_scan.proofs.tilings.Tiling.goes_on.Goals as goal

pub returns-then-listed-self : goal.returns-then-listed-self
returns-then-listed-self c = search rules
