use Rattle.art_change.proofs.callers.Caller.insert.Goals as goal

pub make_write-requires-clause-value : goal.make_write-requires-clause-value
make_write-requires-clause-value g c is = cc

pub returns-clause-called : goal.returns-clause-called
returns-clause-called g c = rw c.set.ensures.row at c.make_write.ensures.called
