use Rattle.art_runs.proofs.ops.Op.insert.Goals as goal

pub returns-clause-calling : goal.returns-clause-calling
returns-clause-calling c = rw c.deref_mut.ensures.value at c.begin_insert.ensures.calling
