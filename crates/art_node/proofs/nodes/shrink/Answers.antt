use Rattle.std.proofs.Common.{◌≤◌, subst, sym}
use Rattle.art_cell.specs.Bodies.{IsInOrder, IsRelaid}
use Rattle.art_cell.specs.Reads.{word_of}
use Rattle.art_cell.specs.Words.{count_of, places}
use Rattle.art_cell.specs.declared.cells.Layout.TheVariants.{Node16, Node48, Node256}
use Rattle.art_node.specs.Sizes.{smaller}
use Rattle.art_node.proofs.OfLayout.{body_of}
use Rattle.art_node.proofs.nodes.shrink.Goals as goal

pub relaid-requires-clause-old : goal.relaid-requires-clause-old
relaid-requires-clause-old c = body_of Node16 c.args.body.now c.in-Node16.is c.requires.body

pub relaid-requires-in-Node48-clause-old : goal.relaid-requires-in-Node48-clause-old
relaid-requires-in-Node48-clause-old c = body_of Node48 c.args.body.now c.in-Node48.is c.requires.body

pub relaid-requires-in-Node256-clause-old : goal.relaid-requires-in-Node256-clause-old
relaid-requires-in-Node256-clause-old c = body_of Node256 c.args.body.now c.in-Node256.is c.requires.body

pub relaid-requires-clause-fits : goal.relaid-requires-clause-fits
relaid-requires-clause-fits c =
    subst (λ k. count_of (word_of c.args.body.now) ≤ places (smaller k)) c.in-Node16.is c.requires.fits

pub returns-in-Node16-clause-same : goal.returns-in-Node16-clause-same
returns-in-Node16-clause-same c =
    let n = c.relaid in
    subst (λ k. IsRelaid k (smaller k) (word_of c.args.body.now) (word_of n.new.after)) (sym c.in-Node16.is) n.ensures.relaid

pub returns-in-Node16-clause-order : goal.returns-in-Node16-clause-order
returns-in-Node16-clause-order c =
    subst (λ k. IsInOrder (smaller k) (word_of c.relaid.new.after)) (sym c.in-Node16.is) c.relaid.ensures.order

pub relaid-requires-in-Node48-clause-fits : goal.relaid-requires-in-Node48-clause-fits
relaid-requires-in-Node48-clause-fits c =
    subst (λ k. count_of (word_of c.args.body.now) ≤ places (smaller k)) c.in-Node48.is c.requires.fits

pub returns-in-Node48-clause-same : goal.returns-in-Node48-clause-same
returns-in-Node48-clause-same c =
    let n = c.relaid-in-Node48 in
    subst (λ k. IsRelaid k (smaller k) (word_of c.args.body.now) (word_of n.new.after)) (sym c.in-Node48.is) n.ensures.relaid

pub returns-in-Node48-clause-order : goal.returns-in-Node48-clause-order
returns-in-Node48-clause-order c =
    let n = c.relaid-in-Node48 in
    subst (λ k. IsInOrder (smaller k) (word_of n.new.after)) (sym c.in-Node48.is) n.ensures.order

pub relaid-requires-in-Node256-clause-fits : goal.relaid-requires-in-Node256-clause-fits
relaid-requires-in-Node256-clause-fits c =
    subst (λ k. count_of (word_of c.args.body.now) ≤ places (smaller k)) c.in-Node256.is c.requires.fits

pub returns-in-Node256-clause-same : goal.returns-in-Node256-clause-same
returns-in-Node256-clause-same c =
    let n = c.relaid-in-Node256 in
    subst (λ k. IsRelaid k (smaller k) (word_of c.args.body.now) (word_of n.new.after)) (sym c.in-Node256.is) n.ensures.relaid

pub returns-in-Node256-clause-order : goal.returns-in-Node256-clause-order
returns-in-Node256-clause-order c =
    let n = c.relaid-in-Node256 in
    subst (λ k. IsInOrder (smaller k) (word_of n.new.after)) (sym c.in-Node256.is) n.ensures.order
