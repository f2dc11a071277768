use Rattle.std.proofs.Common.{◌-◌, refl, arith}
use Rattle.art_find.proofs.Allowed.{allowed}
use Rattle.art_find.proofs.Passing.{came_then, heard_on}
use Rattle.art_find.proofs.Stages.{leaf_on, leaf_still, leaf_word}
use Rattle.art_find.specs.Nodes.{finding_at, moment}
use Rattle.art_find.specs.declared.descents.Stage.TheVariants.{Length, Value}
use Rattle.art_step.specs.declared.actions.Action.TheVariants.{ReadLeaf}
use Rattle.art_step.specs.declared.actions.Answer.TheVariants.{Word as word_told}
use Rattle.art_find.proofs.findings.Finding.leaf_value.Goals as goal

pub read_leaf_word-requires : goal.read_leaf_word-requires
read_leaf_word-requires g c =
    let q = c.requires.found in
    record {
      allowed = allowed (g.S.Steps.sizes c.args.steps.now) c.args.key.now q.0 c.args.below.depth (Value c.args.below.above c.args.leaf) q.1 (g.S.Steps.view c.args.steps.now) q.2.descent;
    }

pub returns-clause-goes : goal.returns-clause-goes
returns-clause-goes g c =
    let z = g.S.Steps.sizes c.args.steps.now in
    let v = g.S.Steps.view c.args.steps.now in
    let s = c.read_leaf_word.new.steps in
    let w = g.S.Steps.view s in
    let k = c.args.key.now in
    let b = c.args.below in
    let x = b.above in
    let l = c.args.leaf in
    let word = c.read_leaf_word.result in
    let row = c.read_leaf_word.ensures.row in
    let kept = (g.K.Sink.kept c.args.sink.now) in
    let here = finding_at c.args.self.now.above b.depth (Value x l) in
    let next = finding_at c.args.self.now.above b.depth (Length x l word) in
    came_then k here (moment z v kept c.args.left.now) next (moment (g.S.Steps.sizes s) w kept (c.args.left.now - 1))
    (g.met.S.Steps.only_sizes c.args.steps.now s c.read_leaf_word.ensures.only) (omega (arith, c.requires.left))
    (heard_on z k v w here next kept kept (ReadLeaf x l 0) (word_told word) refl (λ d. row) refl (omega arith) refl refl
    (λ what u fits. (leaf_on z u v w x 0 word l fits.0 row, fits.1.deep, λ t shape holds. record { child = leaf_still z u v w x 0 word l _ row fits.1.shows t shape holds; is_value = leaf_word z u v w x 0 word l row t shape holds }))
    (refl, record { node = refl; above = refl }))
