use Rattle.std.proofs.Common.{◌≡◌, subst, sym}
use Rattle.art_cell.specs.Words.{entries}
use Rattle.art_cell.specs.Reads.{word_of}
use Rattle.art_cell.specs.declared.cells.Layout.TheVariants.{Node4, Node16, Node48, Node256}
use Rattle.art_node.proofs.OfLayout.{body_of}
use Rattle.art_node.proofs.nodes.list.Goals as goal

pub list-requires : goal.list-requires
list-requires c = body_of Node4 c.args.body.now c.in-Node4.is c.requires

pub list-requires-in-Node16 : goal.list-requires-in-Node16
list-requires-in-Node16 c = body_of Node16 c.args.body.now c.in-Node16.is c.requires

pub list-requires-in-Node48 : goal.list-requires-in-Node48
list-requires-in-Node48 c = body_of Node48 c.args.body.now c.in-Node48.is c.requires

pub list-requires-in-Node256 : goal.list-requires-in-Node256
list-requires-in-Node256 c = body_of Node256 c.args.body.now c.in-Node256.is c.requires

pub returns-in-Node4 : goal.returns-in-Node4
returns-in-Node4 c = subst (λ k. c.list.result.items ≡ entries k (word_of c.args.body.now)) (sym c.in-Node4.is) c.list.ensures

pub returns-in-Node16 : goal.returns-in-Node16
returns-in-Node16 c =
    let n = c.list-in-Node16 in
    subst (λ k. n.result.items ≡ entries k (word_of c.args.body.now)) (sym c.in-Node16.is) n.ensures

pub returns-in-Node48 : goal.returns-in-Node48
returns-in-Node48 c =
    let n = c.list-in-Node48 in
    subst (λ k. n.result.items ≡ entries k (word_of c.args.body.now)) (sym c.in-Node48.is) n.ensures

pub returns-in-Node256 : goal.returns-in-Node256
returns-in-Node256 c =
    let n = c.list-in-Node256 in
    subst (λ k. n.result.items ≡ entries k (word_of c.args.body.now)) (sym c.in-Node256.is) n.ensures
