use Rattle.std.proofs.Common.{rules}
use Rattle.art_change.proofs.callers.Caller.new.Goals as goal

pub returns : goal.returns
returns c = search rules
