use Rattle.std.proofs.Common.{◌<◌, ◌+◌, ◌-◌, get_or, refl, sym, ◌∙◌, arith}
use Rattle.art_cell.specs.declared.cells.Cell.TheVariants as cell
use Rattle.art_find.proofs.Passing.{came_then, heard_on}
use Rattle.art_find.proofs.Stages.{node_noted, node_on, node_still, node_word, slot_fits}
use Rattle.art_find.specs.Nodes.{finding_at, moment}
use Rattle.art_find.specs.declared.descents.Stage.TheVariants.{Child, Slot}
use Rattle.art_step.specs.declared.actions.Action.TheVariants.{Read}
use Rattle.art_step.specs.declared.actions.Answer.TheVariants.{Word as word_told}
use Rattle.art_find.proofs.findings.Finding.child_at.Goals as goal

pub returns-in_default-clause-goes : goal.returns-in_default-clause-goes
returns-in_default-clause-goes g c =
    let z = g.S.Steps.sizes c.args.steps.now in
    let v = g.S.Steps.view c.args.steps.now in
    let w = g.S.Steps.view c.read_word-word.new.steps in
    came_then c.args.key.now (finding_at c.args.self.now.above c.args.depth (Slot c.args.seen c.args.place)) (moment z v (g.K.Sink.kept c.args.sink.now) c.args.left.now)
    c.hear_word.new.self (moment (g.S.Steps.sizes c.read_word-word.new.steps) w (g.K.Sink.kept c.hear_word.new.sink) (c.args.left.now - 1))
    (g.met.S.Steps.only_sizes c.args.steps.now c.read_word-word.new.steps c.read_word-word.ensures.only) (omega (arith, c.requires.left))
    (c.hear_word.ensures.looked z v w c.read_word-word.ensures.row)

pub returns-clause-goes : goal.returns-clause-goes
returns-clause-goes g c =
    let z = g.S.Steps.sizes c.args.steps.now in
    let v = g.S.Steps.view c.args.steps.now in
    let w = g.S.Steps.view c.read_word-word.new.steps in
    let k = c.args.key.now in
    let depth = c.args.depth in
    let seen = c.args.seen in
    let n = seen.node in
    let y = seen.stamp in
    let place = c.args.place in
    let word = c.read_word-word.result in
    let row = c.read_word-word.ensures.row in
    let kept = (g.K.Sink.kept c.args.sink.now) in
    let here = finding_at c.args.self.now.above depth (Slot seen place) in
    let next = finding_at c.args.self.now.above (depth + 1) (Child y c.in-Some.link) in
    let small : get_or k depth 0 < 256 = omega (arith, c.type_inv.key depth) in
    came_then k here (moment z v kept c.args.left.now) next (moment (g.S.Steps.sizes c.read_word-word.new.steps) w (g.K.Sink.kept c.note.new.self) (c.args.left.now - 1))
    (g.met.S.Steps.only_sizes c.args.steps.now c.read_word-word.new.steps c.read_word-word.ensures.only) (omega (arith, c.requires.left))
    (heard_on z k v w here next kept (g.K.Sink.kept c.note.new.self) (Read y place) (word_told word) refl (λ d. row) refl (omega arith) refl refl
    (λ what u fits. slot_fits z k what depth u w y n (node_on z u v w y place word n fits.0 row) seen.header place word fits.1.deep small
    (node_still z u v w y place word _ row fits.1.shows) (node_word z u v w y place word (cell.Node n) fits.0.cell row) c.in-Some.link (node_noted z u v w y place word row) (sym c.named_by.ensures ∙ c.in-Some.is))
    (refl, record { node = c.note.ensures.node; above = c.note.ensures.above }))
