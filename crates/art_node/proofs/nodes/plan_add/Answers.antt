use Rattle.std.proofs.Common.{◌≡◌, ◌↔◌, None, false, true, subst, sym}
use Rattle.art_cell.specs.Words.{child_of}
use Rattle.art_cell.specs.Bodies.{IsFull, TakesLowest}
use Rattle.art_cell.specs.Reads.{IsPlan, with_child, word_of, written}
use Rattle.art_cell.specs.declared.cells.Layout.TheVariants.{Node4, Node16, Node48, Node256}
use Rattle.art_node.proofs.OfLayout.{body_of}
use Rattle.art_node.proofs.nodes.plan_add.Goals as goal

pub plan_add-requires-clause-body : goal.plan_add-requires-clause-body
plan_add-requires-clause-body c = body_of Node4 c.args.body.now c.in-Node4.is c.requires.body

pub plan_add-requires-clause-free : goal.plan_add-requires-clause-free
plan_add-requires-clause-free c =
    subst (λ k. child_of k (word_of c.args.body.now) c.args.byte ≡ None) c.in-Node4.is c.requires.free

pub plan_add-requires-in-Node16-clause-body : goal.plan_add-requires-in-Node16-clause-body
plan_add-requires-in-Node16-clause-body c = body_of Node16 c.args.body.now c.in-Node16.is c.requires.body

pub plan_add-requires-in-Node16-clause-free : goal.plan_add-requires-in-Node16-clause-free
plan_add-requires-in-Node16-clause-free c =
    subst (λ k. child_of k (word_of c.args.body.now) c.args.byte ≡ None) c.in-Node16.is c.requires.free

pub plan_add-requires-in-Node48-clause-body : goal.plan_add-requires-in-Node48-clause-body
plan_add-requires-in-Node48-clause-body c = body_of Node48 c.args.body.now c.in-Node48.is c.requires.body

pub plan_add-requires-in-Node48-clause-free : goal.plan_add-requires-in-Node48-clause-free
plan_add-requires-in-Node48-clause-free c =
    subst (λ k. child_of k (word_of c.args.body.now) c.args.byte ≡ None) c.in-Node48.is c.requires.free

pub plan_add-requires-in-Node256-clause-body : goal.plan_add-requires-in-Node256-clause-body
plan_add-requires-in-Node256-clause-body c = body_of Node256 c.args.body.now c.in-Node256.is c.requires.body

pub plan_add-requires-in-Node256-clause-free : goal.plan_add-requires-in-Node256-clause-free
plan_add-requires-in-Node256-clause-free c =
    subst (λ k. child_of k (word_of c.args.body.now) c.args.byte ≡ None) c.in-Node256.is c.requires.free

pub returns-in-Node4-clause-full : goal.returns-in-Node4-clause-full
returns-in-Node4-clause-full c =
    let n = c.plan_add in
    subst (λ k. (n.result ≡ false) ↔ IsFull k (word_of c.args.body.now)) (sym c.in-Node4.is) n.ensures.full

pub returns-in-Node4-clause-plan : goal.returns-in-Node4-clause-plan
returns-in-Node4-clause-plan c =
    let w = word_of c.args.body.now in
    let n = c.plan_add in
    subst (λ k. n.result ≡ true → IsPlan k w n.new.writes.items (with_child (child_of k w) c.args.byte c.args.child))
    (sym c.in-Node4.is) n.ensures.plan

pub returns-in-Node16-clause-full : goal.returns-in-Node16-clause-full
returns-in-Node16-clause-full c =
    let n = c.plan_add-in-Node16 in
    subst (λ k. (n.result ≡ false) ↔ IsFull k (word_of c.args.body.now)) (sym c.in-Node16.is) n.ensures.full

pub returns-in-Node16-clause-plan : goal.returns-in-Node16-clause-plan
returns-in-Node16-clause-plan c =
    let w = word_of c.args.body.now in
    let n = c.plan_add-in-Node16 in
    subst (λ k. n.result ≡ true → IsPlan k w n.new.writes.items (with_child (child_of k w) c.args.byte c.args.child))
    (sym c.in-Node16.is) n.ensures.plan

pub returns-in-Node48-clause-full : goal.returns-in-Node48-clause-full
returns-in-Node48-clause-full c =
    let n = c.plan_add-in-Node48 in
    subst (λ k. (n.result ≡ false) ↔ IsFull k (word_of c.args.body.now)) (sym c.in-Node48.is) n.ensures.full

pub returns-in-Node48-clause-plan : goal.returns-in-Node48-clause-plan
returns-in-Node48-clause-plan c =
    let w = word_of c.args.body.now in
    let n = c.plan_add-in-Node48 in
    subst (λ k. n.result ≡ true → IsPlan k w n.new.writes.items (with_child (child_of k w) c.args.byte c.args.child))
    (sym c.in-Node48.is) n.ensures.plan

pub returns-in-Node256-clause-full : goal.returns-in-Node256-clause-full
returns-in-Node256-clause-full c =
    let n = c.plan_add-in-Node256 in
    subst (λ k. (n.result ≡ false) ↔ IsFull k (word_of c.args.body.now)) (sym c.in-Node256.is) n.ensures.full

pub returns-in-Node256-clause-plan : goal.returns-in-Node256-clause-plan
returns-in-Node256-clause-plan c =
    let w = word_of c.args.body.now in
    let n = c.plan_add-in-Node256 in
    subst (λ k. n.result ≡ true → IsPlan k w n.new.writes.items (with_child (child_of k w) c.args.byte c.args.child))
    (sym c.in-Node256.is) n.ensures.plan

pub returns-in-Node4-clause-lowest : goal.returns-in-Node4-clause-lowest
returns-in-Node4-clause-lowest c =
    let w = word_of c.args.body.now in
    let n = c.plan_add in
    subst (λ k. n.result ≡ true → TakesLowest k w (written w n.new.writes.items) c.args.byte) (sym c.in-Node4.is) n.ensures.lowest

pub returns-in-Node16-clause-lowest : goal.returns-in-Node16-clause-lowest
returns-in-Node16-clause-lowest c =
    let w = word_of c.args.body.now in
    let n = c.plan_add-in-Node16 in
    subst (λ k. n.result ≡ true → TakesLowest k w (written w n.new.writes.items) c.args.byte) (sym c.in-Node16.is) n.ensures.lowest

pub returns-in-Node48-clause-lowest : goal.returns-in-Node48-clause-lowest
returns-in-Node48-clause-lowest c =
    let w = word_of c.args.body.now in
    let n = c.plan_add-in-Node48 in
    subst (λ k. n.result ≡ true → TakesLowest k w (written w n.new.writes.items) c.args.byte) (sym c.in-Node48.is) n.ensures.lowest

pub returns-in-Node256-clause-lowest : goal.returns-in-Node256-clause-lowest
returns-in-Node256-clause-lowest c =
    let w = word_of c.args.body.now in
    let n = c.plan_add-in-Node256 in
    subst (λ k. n.result ≡ true → TakesLowest k w (written w n.new.writes.items) c.args.byte) (sym c.in-Node256.is) n.ensures.lowest
