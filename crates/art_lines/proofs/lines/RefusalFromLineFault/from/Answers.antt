use Rattle.std.proofs.Common.{rules}
use Rattle.art_lines.proofs.lines.RefusalFromLineFault.from.Goals as goal

pub returns-in-Value : goal.returns-in-Value
returns-in-Value c = search rules
