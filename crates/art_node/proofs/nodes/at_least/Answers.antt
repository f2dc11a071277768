use Rattle.std.proofs.Common.{subst, sym}
use Rattle.art_cell.specs.Words.{Words, child_of}
use Rattle.art_cell.specs.Bodies.{IsBody}
use Rattle.art_cell.specs.Reads.{Agrees, NextTells}
use Rattle.art_node.proofs.nodes.at_least.Goals as goal

pub returns-in-Node4-clause-tells : goal.returns-in-Node4-clause-tells
returns-in-Node4-clause-tells c =
    let n = c.at_least in
    subst (λ k. (w : Words) → IsBody k w → Agrees c.args.reads.now w → NextTells (child_of k w) c.args.byte n.result)
    (sym c.in-Node4.is) n.ensures.tells

pub returns-in-Node16-clause-tells : goal.returns-in-Node16-clause-tells
returns-in-Node16-clause-tells c =
    let n = c.at_least-in-Node16 in
    subst (λ k. (w : Words) → IsBody k w → Agrees c.args.reads.now w → NextTells (child_of k w) c.args.byte n.result)
    (sym c.in-Node16.is) n.ensures.tells

pub returns-in-Node48-clause-tells : goal.returns-in-Node48-clause-tells
returns-in-Node48-clause-tells c =
    let n = c.at_least-in-Node48 in
    subst (λ k. (w : Words) → IsBody k w → Agrees c.args.reads.now w → NextTells (child_of k w) c.args.byte n.result)
    (sym c.in-Node48.is) n.ensures.tells

pub returns-in-Node256-clause-tells : goal.returns-in-Node256-clause-tells
returns-in-Node256-clause-tells c =
    let n = c.at_least-in-Node256 in
    subst (λ k. (w : Words) → IsBody k w → Agrees c.args.reads.now w → NextTells (child_of k w) c.args.byte n.result)
    (sym c.in-Node256.is) n.ensures.tells
