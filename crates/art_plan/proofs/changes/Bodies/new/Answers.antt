use Rattle.art_plan.proofs.changes.Bodies.new.Goals as goal

pub returns-clause-node : goal.returns-clause-node
returns-clause-node c = c.blank.ensures

pub returns-clause-above : goal.returns-clause-above
returns-clause-above c = c.blank-2.ensures
