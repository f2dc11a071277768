use Rattle.std.proofs.Common.{◌<◌, length, arith}
use Rattle.art_cell.specs.Reads.{word_of}
use Rattle.art_cell.specs.Words.{entries, places}
use Rattle.art_node4.specs.Sorted.{layout_of}
use Rattle.art_node4.proofs.NodeWords.{few_in_use}
use Rattle.art_node4.proofs.Planned.{add_few, add_plan, can_add}
use Rattle.art_node4.proofs.plans.plan_add.Goals as goal

pub plan-requires : goal.plan-requires
plan-requires c =
    let s = c.args.sorted in
    let w = word_of c.args.body.now in
    let counted = c.requires.body.meaning.counted in
    let few = few_in_use s w c.requires.body.meaning in
    let room : length (entries (layout_of s) w) < places (layout_of s) = omega arith in
    record {
      body = c.requires.body;
      can = can_add s w c.position-at.result c.args.byte c.requires.body.meaning (omega arith) c.position-at.ensures c.args.child c.ranges.child.fits c.requires.child c.requires.free room;
    }

pub returns-clause-plan : goal.returns-clause-plan
returns-clause-plan c done =
    let s = c.args.sorted in
    let w = word_of c.args.body.now in
    let counted = c.requires.body.meaning.counted in
    let few = few_in_use s w c.requires.body.meaning in
    let room : length (entries (layout_of s) w) < places (layout_of s) = omega arith in
    add_plan s w c.position-at.result c.args.byte c.requires.body.meaning (omega arith) c.position-at.ensures c.args.child c.ranges.child.fits c.requires.child c.requires.free room c.plan.new.writes.items c.plan.ensures

pub returns-clause-few : goal.returns-clause-few
returns-clause-few c done =
    let s = c.args.sorted in
    let w = word_of c.args.body.now in
    let counted = c.requires.body.meaning.counted in
    let few = few_in_use s w c.requires.body.meaning in
    let room : length (entries (layout_of s) w) < places (layout_of s) = omega arith in
    add_few s w c.position-at.result c.args.byte c.requires.body.meaning (omega arith) c.position-at.ensures c.args.child c.ranges.child.fits c.requires.child c.requires.free room c.plan.new.writes.items c.plan.ensures
