use Rattle.std.proofs.Common.{rules}
use Rattle.art_runs.proofs.ops.Op.remove.Goals as goal

pub returns-clause-calling : goal.returns-clause-calling
returns-clause-calling c = search rules
