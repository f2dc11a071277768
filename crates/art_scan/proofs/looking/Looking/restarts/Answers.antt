use Rattle.std.proofs.Common.{rules}
use Rattle.art_scan.proofs.looking.Looking.restarts.Goals as goal

pub returns : goal.returns
returns c = search rules
