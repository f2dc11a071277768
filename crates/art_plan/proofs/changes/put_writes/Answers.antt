use Rattle.std.proofs.Common.{rules}
use Rattle.art_plan.proofs.changes.put_writes.Goals as goal

pub loop-write-init : goal.loop-write-init
loop-write-init c = search rules
