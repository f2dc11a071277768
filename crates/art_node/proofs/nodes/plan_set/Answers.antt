use Rattle.std.proofs.Common.{subst, sym}
use Rattle.art_cell.specs.Words.{child_of}
use Rattle.art_cell.specs.Reads.{IsPlan, with_child, word_of}
use Rattle.art_cell.specs.declared.cells.Layout.TheVariants.{Node4, Node16, Node48, Node256}
use Rattle.art_node.proofs.OfLayout.{body_of, child_there}
use Rattle.art_node.proofs.nodes.plan_set.Goals as goal

pub plan_set-requires-clause-body : goal.plan_set-requires-clause-body
plan_set-requires-clause-body c = body_of Node4 c.args.body.now c.in-Node4.is c.requires.body

pub plan_set-requires-clause-there : goal.plan_set-requires-clause-there
plan_set-requires-clause-there c = child_there Node4 c.args.body.now c.args.byte c.in-Node4.is c.requires.there

pub plan_set-requires-in-Node16-clause-body : goal.plan_set-requires-in-Node16-clause-body
plan_set-requires-in-Node16-clause-body c = body_of Node16 c.args.body.now c.in-Node16.is c.requires.body

pub plan_set-requires-in-Node16-clause-there : goal.plan_set-requires-in-Node16-clause-there
plan_set-requires-in-Node16-clause-there c = child_there Node16 c.args.body.now c.args.byte c.in-Node16.is c.requires.there

pub plan_set-requires-in-Node48-clause-body : goal.plan_set-requires-in-Node48-clause-body
plan_set-requires-in-Node48-clause-body c = body_of Node48 c.args.body.now c.in-Node48.is c.requires.body

pub plan_set-requires-in-Node48-clause-there : goal.plan_set-requires-in-Node48-clause-there
plan_set-requires-in-Node48-clause-there c = child_there Node48 c.args.body.now c.args.byte c.in-Node48.is c.requires.there

pub plan_set-requires-in-Node256-clause-body : goal.plan_set-requires-in-Node256-clause-body
plan_set-requires-in-Node256-clause-body c = body_of Node256 c.args.body.now c.in-Node256.is c.requires.body

pub plan_set-requires-in-Node256-clause-there : goal.plan_set-requires-in-Node256-clause-there
plan_set-requires-in-Node256-clause-there c = child_there Node256 c.args.body.now c.args.byte c.in-Node256.is c.requires.there

pub returns-in-Node4-clause-plan : goal.returns-in-Node4-clause-plan
returns-in-Node4-clause-plan c =
    let w = word_of c.args.body.now in
    let n = c.plan_set in
    subst (λ k. IsPlan k w n.new.writes.items (with_child (child_of k w) c.args.byte c.args.child)) (sym c.in-Node4.is) n.ensures.plan

pub returns-in-Node16-clause-plan : goal.returns-in-Node16-clause-plan
returns-in-Node16-clause-plan c =
    let w = word_of c.args.body.now in
    let n = c.plan_set-in-Node16 in
    subst (λ k. IsPlan k w n.new.writes.items (with_child (child_of k w) c.args.byte c.args.child)) (sym c.in-Node16.is) n.ensures.plan

pub returns-in-Node48-clause-plan : goal.returns-in-Node48-clause-plan
returns-in-Node48-clause-plan c =
    let w = word_of c.args.body.now in
    let n = c.plan_set-in-Node48 in
    subst (λ k. IsPlan k w n.new.writes.items (with_child (child_of k w) c.args.byte c.args.child)) (sym c.in-Node48.is) n.ensures.plan

pub returns-in-Node256-clause-plan : goal.returns-in-Node256-clause-plan
returns-in-Node256-clause-plan c =
    let w = word_of c.args.body.now in
    let n = c.plan_set-in-Node256 in
    subst (λ k. IsPlan k w n.new.writes.items (with_child (child_of k w) c.args.byte c.args.child)) (sym c.in-Node256.is) n.ensures.plan
