use Rattle.std.proofs.Common.{subst}
use Rattle.art_cell.specs.declared.cells.Link.{Link}
use Rattle.art_find.specs.Descents.{stage_below}
use Rattle.art_find.specs.Nodes.{Came, FitsAt, finding_at, moment}
use Rattle.art_find.proofs.findings.Finding.pass_link.Goals as goal

pub enter_node-requires-clause-found : goal.enter_node-requires-clause-found
enter_node-requires-clause-found g c =
    let b = c.args.below in
    let now = moment (g.S.Steps.sizes c.args.steps.now) (g.S.Steps.view c.args.steps.now) (g.K.Sink.kept c.args.sink.now) c.args.left.now in
    subst (λ (d : Link). FitsAt c.args.key.now (finding_at c.args.self.now.above b.depth (stage_below b.above d)) now) c.in-Node.is c.requires.found

pub returns-in-Node-clause-goes : goal.returns-in-Node-clause-goes
returns-in-Node-clause-goes g c = λ m a came.
    let b = c.args.below in
    let now = moment (g.S.Steps.sizes c.args.steps.now) (g.S.Steps.view c.args.steps.now) (g.K.Sink.kept c.args.sink.now) c.args.left.now in
    c.enter_node.ensures.goes m a (subst (λ (d : Link). Came c.args.key.now m a (finding_at c.args.self.now.above b.depth (stage_below b.above d)) now) c.in-Node.is came)

pub read_leaf-requires-clause-found : goal.read_leaf-requires-clause-found
read_leaf-requires-clause-found g c =
    let b = c.args.below in
    subst (λ (d : Link). FitsAt c.args.key.now (finding_at c.args.self.now.above b.depth (stage_below b.above d)) (moment (g.S.Steps.sizes c.args.steps.now) (g.S.Steps.view c.args.steps.now) (g.K.Sink.kept c.args.sink.now) c.args.left.now)) c.in-Leaf.is c.requires.found

pub returns-in-Leaf-clause-goes : goal.returns-in-Leaf-clause-goes
returns-in-Leaf-clause-goes g c = λ m a came.
    let b = c.args.below in
    c.read_leaf.ensures.goes m a (subst (λ (d : Link). Came c.args.key.now m a (finding_at c.args.self.now.above b.depth (stage_below b.above d)) (moment (g.S.Steps.sizes c.args.steps.now) (g.S.Steps.view c.args.steps.now) (g.K.Sink.kept c.args.sink.now) c.args.left.now)) c.in-Leaf.is came)
