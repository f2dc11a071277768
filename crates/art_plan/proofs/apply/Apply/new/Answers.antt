use Rattle.std.proofs.Common.{rules}
use Rattle.art_plan.proofs.apply.Apply.new.Goals as goal

pub returns-then-len-gt0-clause-begun : goal.returns-then-len-gt0-clause-begun
returns-then-len-gt0-clause-begun c = search rules

pub returns-then-len-gt0-clause-fits : goal.returns-then-len-gt0-clause-fits
returns-then-len-gt0-clause-fits c = search rules
