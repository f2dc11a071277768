use Rattle.art_workers.proofs.Joins.{none_served, served, worked_of}
use Rattle.art_workers.proofs.serving.serve_in.Goals as goal
use Rattle.art_workers.specs.declared.faults.ServeFault.TheVariants.{NoMemory}

pub returns-in_default-clause-serves : goal.returns-in_default-clause-serves
returns-in_default-clause-serves g c = none_served c.args.table.now c.args.passes.items NoMemory

pub returns-in_default-with_capacity-clause-serves :
    goal.returns-in_default-with_capacity-clause-serves
returns-in_default-with_capacity-clause-serves g c = none_served c.args.table.now c.args.passes.items NoMemory

pub returns-clause-of : goal.returns-clause-of
returns-clause-of g c =
    let t = c.args.table.now in
    let s = c.start_each-running.ensures.starts in
    let back = c.join_each-passes.result in
    worked_of t s.started back.passes.items back.ended (c.join_each-passes.ensures t s.started s.tasks)

pub returns-clause-serves : goal.returns-clause-serves
returns-clause-serves g c =
    let t = c.args.table.now in
    let s = c.start_each-running.ensures.starts in
    let back = c.join_each-passes.result in
    let worked = c.join_each-passes.ensures t s.started s.tasks in
    served t c.args.passes.items back.passes.items c.start_each-running.result back.ended c.outcome.result s worked c.outcome.ensures
