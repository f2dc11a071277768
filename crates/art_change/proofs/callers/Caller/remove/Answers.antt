use Rattle.std.proofs.Common.{ap}
use Rattle.art_change.proofs.callers.Caller.remove.Goals as goal
use Rattle.art_change.specs.ArtAttempt.declared.attempts.Room.{Room}

pub make_write-requires-clause-value : goal.make_write-requires-clause-value
make_write-requires-clause-value g c is = ap (λ (r : Room). r.row.value) c.set.ensures.row

pub returns-clause-called : goal.returns-clause-called
returns-clause-called g c = rw c.set.ensures.row at c.make_write.ensures.called
