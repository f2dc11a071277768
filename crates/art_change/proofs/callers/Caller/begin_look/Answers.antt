use Rattle.std.proofs.Common.{rules}
use Rattle.art_change.proofs.callers.Caller.begin_look.Goals as goal

pub returns-clause-calling : goal.returns-clause-calling
returns-clause-calling c = search rules
