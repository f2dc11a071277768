use Rattle.std.proofs.Common.{arith}
use Rattle.art_cell.specs.Reads.{word_of}
use Rattle.art_node4.proofs.Planned.{can_remove, drop_few, drop_plan}
use Rattle.art_node4.proofs.plans.plan_drop.Goals as goal

pub plan-requires : goal.plan-requires
plan-requires c = record {
  body = c.requires.body;
  can = can_remove c.args.sorted (word_of c.args.body.now) c.position-at.result c.args.byte c.requires.body.meaning (omega arith) c.position-at.ensures c.requires.there;
}

pub returns-clause-plan : goal.returns-clause-plan
returns-clause-plan c = drop_plan c.args.sorted (word_of c.args.body.now) c.position-at.result c.args.byte c.requires.body.meaning (omega arith) c.position-at.ensures c.requires.there c.plan.new.writes.items c.plan.ensures

pub returns-clause-few : goal.returns-clause-few
returns-clause-few c = drop_few c.args.sorted (word_of c.args.body.now) c.position-at.result c.args.byte c.requires.body.meaning (omega arith) c.position-at.ensures c.requires.there c.plan.new.writes.items c.plan.ensures
