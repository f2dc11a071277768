use Rattle.std.proofs.Common.{rules}
use Rattle.art_key.proofs.events.is_answered.Goals as goal

pub returns-in_ok-apply-in-Done-clause-decides : goal.returns-in_ok-apply-in-Done-clause-decides
returns-in_ok-apply-in-Done-clause-decides c = search rules
