use Rattle.std.proofs.Common.{◌-◌, refl, sym, ◌∙◌, arith}
use Rattle.art_cell.specs.declared.cells.Cell.TheVariants as cell
use Rattle.art_find.proofs.Passing.{came_then, heard_on}
use Rattle.art_find.proofs.Stages.{node_noted, node_word, reads_on, root_fits}
use Rattle.art_find.specs.Nodes.{finding_at, moment}
use Rattle.art_find.specs.declared.descents.Stage.TheVariants.{Anchor, Child}
use Rattle.art_step.specs.declared.actions.Action.TheVariants.{Read}
use Rattle.art_step.specs.declared.actions.Answer.TheVariants.{Word as word_told}
use Rattle.art_step.proofs.Shows.{read_rest, read_stamp}
use Rattle.art_step.specs.declared.views.Fact.TheVariants.{Word}
use Rattle.art_find.proofs.findings.Finding.root_child.Goals as goal

pub returns-in_default-clause-goes : goal.returns-in_default-clause-goes
returns-in_default-clause-goes g c =
    let z = g.S.Steps.sizes c.args.steps.now in
    let v = g.S.Steps.view c.args.steps.now in
    let w = g.S.Steps.view c.read_word-word.new.steps in
    came_then c.args.key.now (finding_at c.args.self.now.above c.args.self.now.descent.depth (Anchor c.args.stamp)) (moment z v (g.K.Sink.kept c.args.sink.now) c.args.left.now)
    c.hear_word.new.self (moment (g.S.Steps.sizes c.read_word-word.new.steps) w (g.K.Sink.kept c.hear_word.new.sink) (c.args.left.now - 1))
    (g.met.S.Steps.only_sizes c.args.steps.now c.read_word-word.new.steps c.read_word-word.ensures.only) (omega (arith, c.requires.left))
    (c.hear_word.ensures.looked z v w c.read_word-word.ensures.row)

pub returns-clause-goes : goal.returns-clause-goes
returns-clause-goes g c =
    let z = g.S.Steps.sizes c.args.steps.now in
    let v = g.S.Steps.view c.args.steps.now in
    let w = g.S.Steps.view c.read_word-word.new.steps in
    let k = c.args.key.now in
    let x = c.args.stamp in
    let word = c.read_word-word.result in
    let row = c.read_word-word.ensures.row in
    let kept = (g.K.Sink.kept c.args.sink.now) in
    let here = finding_at c.args.self.now.above c.args.self.now.descent.depth (Anchor x) in
    let next = finding_at c.args.self.now.above 0 (Child x c.in-Some.link) in
    came_then k here (moment z v kept c.args.left.now) next (moment (g.S.Steps.sizes c.read_word-word.new.steps) w (g.K.Sink.kept c.note.new.self) (c.args.left.now - 1))
    (g.met.S.Steps.only_sizes c.args.steps.now c.read_word-word.new.steps c.read_word-word.ensures.only) (omega (arith, c.requires.left))
    (heard_on z k v w here next kept (g.K.Sink.kept c.note.new.self) (Read x 1) (word_told word) refl (λ d. row) refl (omega arith) refl refl
    (λ what u fits. root_fits z k what u w x (reads_on u v w (read_rest v w x (Word 1 word) row.is) fits.0) (read_stamp z v w x (Word 1 word) x row.is fits.1) word
    (node_word z u v w x 1 word cell.Anchor fits.2 row) c.in-Some.link fits.2 (node_noted z u v w x 1 word row) (sym c.named_by.ensures ∙ c.in-Some.is))
    (refl, record { node = c.note.ensures.node; above = c.note.ensures.above }))
