use Rattle.std.proofs.Common.{rules}
use Rattle.art_table.proofs.attempts.start.Goals as goal

pub returns-clause-attempt : goal.returns-clause-attempt
returns-clause-attempt c = search rules
