use Rattle.art_plan.proofs.choose_insert.plan_insert.Goals as goal

pub returns-in-Empty-clause-planned : goal.returns-in-Empty-clause-planned
returns-in-Empty-clause-planned c = c.to_anchor.ensures.planned c.args.read_set.now c.args.made

pub returns-else-needed-clause-planned : goal.returns-else-needed-clause-planned
returns-else-needed-clause-planned c = c.to_byte.ensures.planned c.args.made

pub returns-in-Empty-clause-changes : goal.returns-in-Empty-clause-changes
returns-in-Empty-clause-changes c = λ another. c.to_anchor.ensures.changes c.requires.seen.0 c.args.read_set.now c.requires.seen.1
