use Rattle.std.proofs.Common.{arith}
use Rattle.art_cell.specs.Reads.{word_of}
use Rattle.art_cell.specs.declared.cells.Layout.TheVariants.{Node4, Node16, Node48, Node256}
use Rattle.art_plan.proofs.GrownNodes.{HasMoreRoom, grown_node, more_room, not_largest}
use Rattle.art_plan.proofs.insert.grown.Goals as goal
use Rattle.art_plan.proofs.insert.grown.Goals.{In-Node4, In-Node16, In-Node48}

pub grow-requires-clause-larger : goal.grow-requires-clause-larger
grow-requires-clause-larger c = not_largest c.args.body.now c.args.byte (omega (arith, c.ranges.byte.fits)) c.requires.crowded

room4 : (c : In-Node4) → HasMoreRoom Node16 c.grow.new.grown c.args.byte
room4 c = more_room Node4 c.args.body.now c.grow.new.grown c.args.byte c.in-Node4.is (omega (arith, c.ranges.byte.fits)) c.requires.crowded c.grow.ensures.layout c.grow.ensures.same (omega arith)

room16 : (c : In-Node16) → HasMoreRoom Node48 c.grow.new.grown c.args.byte
room16 c = more_room Node16 c.args.body.now c.grow.new.grown c.args.byte c.in-Node16.is (omega (arith, c.ranges.byte.fits)) c.requires.crowded c.grow.ensures.layout c.grow.ensures.same (omega arith)

room48 : (c : In-Node48) → HasMoreRoom Node256 c.grow.new.grown c.args.byte
room48 c = more_room Node48 c.args.body.now c.grow.new.grown c.args.byte c.in-Node48.is (omega (arith, c.ranges.byte.fits)) c.requires.crowded c.grow.ensures.layout c.grow.ensures.same (omega arith)

pub with_more-requires-clause-free : goal.with_more-requires-clause-free
with_more-requires-clause-free c = (room4 (goal.at.with_more-requires-clause-free c).In-Node4).free

pub with_more-requires-clause-room : goal.with_more-requires-clause-room
with_more-requires-clause-room c = (room4 (goal.at.with_more-requires-clause-room c).In-Node4).room

pub with_more-requires-in-Node16-clause-body : goal.with_more-requires-in-Node16-clause-body
with_more-requires-in-Node16-clause-body c = (room16 (goal.at.with_more-requires-in-Node16-clause-body c).In-Node16).whole

pub with_more-requires-in-Node16-clause-free : goal.with_more-requires-in-Node16-clause-free
with_more-requires-in-Node16-clause-free c = (room16 (goal.at.with_more-requires-in-Node16-clause-free c).In-Node16).free

pub with_more-requires-in-Node16-clause-room : goal.with_more-requires-in-Node16-clause-room
with_more-requires-in-Node16-clause-room c = (room16 (goal.at.with_more-requires-in-Node16-clause-room c).In-Node16).room

pub with_more-requires-in-Node48-clause-body : goal.with_more-requires-in-Node48-clause-body
with_more-requires-in-Node48-clause-body c = (room48 (goal.at.with_more-requires-in-Node48-clause-body c).In-Node48).whole

pub with_more-requires-in-Node48-clause-free : goal.with_more-requires-in-Node48-clause-free
with_more-requires-in-Node48-clause-free c = (room48 (goal.at.with_more-requires-in-Node48-clause-free c).In-Node48).free

pub with_more-requires-in-Node48-clause-room : goal.with_more-requires-in-Node48-clause-room
with_more-requires-in-Node48-clause-room c = (room48 (goal.at.with_more-requires-in-Node48-clause-room c).In-Node48).room

pub unreachable-requires : goal.unreachable-requires
unreachable-requires c = not_largest c.args.body.now c.args.byte (omega (arith, c.ranges.byte.fits)) c.requires.crowded c.in-Node256.is

pub returns-in-Node4-clause-node : goal.returns-in-Node4-clause-node
returns-in-Node4-clause-node c =
    grown_node Node4 c.args.body.now c.grow.new.grown c.args.byte c.in-Node4.is (omega (arith, c.ranges.byte.fits)) c.requires.crowded c.grow.ensures.layout c.grow.ensures.same c.args.child (word_of c.with_more.new.body) c.with_more.ensures.more

pub returns-in-Node16-clause-node : goal.returns-in-Node16-clause-node
returns-in-Node16-clause-node c =
    grown_node Node16 c.args.body.now c.grow.new.grown c.args.byte c.in-Node16.is (omega (arith, c.ranges.byte.fits)) c.requires.crowded c.grow.ensures.layout c.grow.ensures.same c.args.child (word_of c.with_more-in-Node16.new.body) c.with_more-in-Node16.ensures.more

pub returns-in-Node48-clause-node : goal.returns-in-Node48-clause-node
returns-in-Node48-clause-node c =
    grown_node Node48 c.args.body.now c.grow.new.grown c.args.byte c.in-Node48.is (omega (arith, c.ranges.byte.fits)) c.requires.crowded c.grow.ensures.layout c.grow.ensures.same c.args.child (word_of c.with_more-in-Node48.new.body) c.with_more-in-Node48.ensures.more
