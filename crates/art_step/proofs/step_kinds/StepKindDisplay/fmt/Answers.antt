use Rattle.std.proofs.Common.{rules}
use Rattle.art_step.proofs.step_kinds.StepKindDisplay.fmt.Goals as goal

pub returns-clause-writes : goal.returns-clause-writes
returns-clause-writes g c = search rules
