use Rattle.std.proofs.Common.{◌≤◌, arith, subst, sym}
use Rattle.art_cell.specs.Bodies.{IsInOrder, IsRelaid}
use Rattle.art_cell.specs.Lemmas.Entries.{listed_at_most}
use Rattle.art_cell.specs.Reads.{word_of}
use Rattle.art_cell.specs.Words.{child_of}
use Rattle.art_cell.specs.declared.cells.Layout.TheVariants.{Node4, Node16, Node48}
use Rattle.art_node.specs.Sizes.{larger}
use Rattle.art_node.proofs.OfLayout.{body_of}
use Rattle.art_node.proofs.nodes.grow.Goals as goal

pub relaid-requires-clause-old : goal.relaid-requires-clause-old
relaid-requires-clause-old c = body_of Node4 c.args.body.now c.in-Node4.is c.requires.body

pub relaid-requires-clause-fits : goal.relaid-requires-clause-fits
relaid-requires-clause-fits c =
    let few = (body_of Node4 c.args.body.now c.in-Node4.is c.requires.body).meaning.form.few in omega (arith, few)

pub relaid-requires-in-Node16-clause-old : goal.relaid-requires-in-Node16-clause-old
relaid-requires-in-Node16-clause-old c = body_of Node16 c.args.body.now c.in-Node16.is c.requires.body

pub relaid-requires-in-Node16-clause-fits : goal.relaid-requires-in-Node16-clause-fits
relaid-requires-in-Node16-clause-fits c =
    let few = (body_of Node16 c.args.body.now c.in-Node16.is c.requires.body).meaning.form.few in omega (arith, few)

pub relaid-requires-in-Node48-clause-old : goal.relaid-requires-in-Node48-clause-old
relaid-requires-in-Node48-clause-old c = body_of Node48 c.args.body.now c.in-Node48.is c.requires.body

pub relaid-requires-in-Node48-clause-fits : goal.relaid-requires-in-Node48-clause-fits
relaid-requires-in-Node48-clause-fits c =
    subst (λ n. n ≤ 256) (sym c.requires.body.counted) (listed_at_most (child_of c.args.body.now.layout (word_of c.args.body.now)) 0 256)

pub returns-in-Node4-clause-same : goal.returns-in-Node4-clause-same
returns-in-Node4-clause-same c =
    let n = c.relaid in
    subst (λ k. IsRelaid k (larger k) (word_of c.args.body.now) (word_of n.new.after)) (sym c.in-Node4.is) n.ensures.relaid

pub returns-in-Node4-clause-order : goal.returns-in-Node4-clause-order
returns-in-Node4-clause-order c =
    subst (λ k. IsInOrder (larger k) (word_of c.relaid.new.after)) (sym c.in-Node4.is) c.relaid.ensures.order

pub returns-in-Node16-clause-same : goal.returns-in-Node16-clause-same
returns-in-Node16-clause-same c =
    let n = c.relaid-in-Node16 in
    subst (λ k. IsRelaid k (larger k) (word_of c.args.body.now) (word_of n.new.after)) (sym c.in-Node16.is) n.ensures.relaid

pub returns-in-Node16-clause-order : goal.returns-in-Node16-clause-order
returns-in-Node16-clause-order c =
    let n = c.relaid-in-Node16 in
    subst (λ k. IsInOrder (larger k) (word_of n.new.after)) (sym c.in-Node16.is) n.ensures.order

pub returns-in-Node48-clause-same : goal.returns-in-Node48-clause-same
returns-in-Node48-clause-same c =
    let n = c.relaid-in-Node48 in
    subst (λ k. IsRelaid k (larger k) (word_of c.args.body.now) (word_of n.new.after)) (sym c.in-Node48.is) n.ensures.relaid

pub returns-in-Node48-clause-order : goal.returns-in-Node48-clause-order
returns-in-Node48-clause-order c =
    let n = c.relaid-in-Node48 in
    subst (λ k. IsInOrder (larger k) (word_of n.new.after)) (sym c.in-Node48.is) n.ensures.order
