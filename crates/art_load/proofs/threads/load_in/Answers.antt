use Rattle.art_load.proofs.threads.load_in.Goals as goal

pub returns-then-not-all-clause-of : goal.returns-then-not-all-clause-of
returns-then-not-all-clause-of g c = c.join_each-passes.ensures.of c.args.table.now c.start_each-handles.ensures.table

pub returns-clause-of : goal.returns-clause-of
returns-clause-of g c = c.join_each-passes.ensures.of c.args.table.now c.start_each-handles.ensures.table
