use Rattle.std.proofs.Common.{◌-◌, refl, arith}
use Rattle.art_find.proofs.Allowed.{allowed}
use Rattle.art_find.proofs.Hearing.{leaf_heard, word_came}
use Rattle.art_find.proofs.Passing.{came_then, heard_on}
use Rattle.art_find.proofs.Stages.{bytes_first, leaf_on, leaf_still, leaf_word}
use Rattle.art_find.specs.Compares.{at_first}
use Rattle.art_find.specs.Nodes.{finding_at, moment}
use Rattle.art_find.specs.declared.descents.LeafSeen.{LeafSeen}
use Rattle.art_find.specs.declared.descents.Stage.TheVariants.{Bytes, Length}
use Rattle.art_step.specs.declared.actions.Action.TheVariants.{ReadLeaf}
use Rattle.art_step.specs.declared.actions.Answer.TheVariants.{Word as word_told}
use Rattle.art_find.proofs.findings.Finding.leaf_count.Goals as goal

pub read_leaf_word-bytes-requires : goal.read_leaf_word-bytes-requires
read_leaf_word-bytes-requires g c =
    let q = c.requires.found in
    record {
      allowed = allowed (g.S.Steps.sizes c.args.steps.now) c.args.key.now q.0 c.args.below.depth (Length c.args.below.above c.args.leaf c.args.value) q.1 (g.S.Steps.view c.args.steps.now) q.2.descent;
    }

pub read_at-requires-clause-fits : goal.read_at-requires-clause-fits
read_at-requires-clause-fits g c =
    let q = c.requires.found in
    (g.S.Steps.sizes c.args.steps.now, q.0, q.1, g.S.Steps.view c.args.steps.now, q.2.descent)

pub returns-then-bytes-eq0-clause-goes : goal.returns-then-bytes-eq0-clause-goes
returns-then-bytes-eq0-clause-goes g c =
    let z = g.S.Steps.sizes c.args.steps.now in
    let v = g.S.Steps.view c.args.steps.now in
    let s = c.read_leaf_word-bytes.new.steps in
    let w = g.S.Steps.view s in
    let k = c.args.key.now in
    let b = c.args.below in
    let x = b.above in
    let l = c.args.leaf in
    let word = c.read_leaf_word-bytes.result in
    let row = c.read_leaf_word-bytes.ensures.row in
    let kept = (g.K.Sink.kept c.args.sink.now) in
    let here = finding_at c.args.self.now.above b.depth (Length x l c.args.value) in
    let n = c.read_at.new.self in
    let e = c.read_at.ensures in
    came_then k here (moment z v kept c.args.left.now) (record here { descent = n }) (moment (g.S.Steps.sizes s) w kept (c.args.left.now - 1))
    (g.met.S.Steps.only_sizes c.args.steps.now s c.read_leaf_word-bytes.ensures.only) (omega (arith, c.requires.left))
    (leaf_heard z k v w here n kept x l 1 word refl row (word_came z k v w here.descent n (ReadLeaf x l 1) word refl (λ d. row) e.steps e.stays e.going e.fits))

pub returns-clause-goes : goal.returns-clause-goes
returns-clause-goes g c =
    let z = g.S.Steps.sizes c.args.steps.now in
    let v = g.S.Steps.view c.args.steps.now in
    let s = c.read_leaf_word-bytes.new.steps in
    let w = g.S.Steps.view s in
    let k = c.args.key.now in
    let b = c.args.below in
    let x = b.above in
    let l = c.args.leaf in
    let count = c.read_leaf_word-bytes.result in
    let row = c.read_leaf_word-bytes.ensures.row in
    let kept = (g.K.Sink.kept c.args.sink.now) in
    let seen : LeafSeen = record { stamp = x; leaf = l; value = c.args.value; count = count } in
    let here = finding_at c.args.self.now.above b.depth (Length x l c.args.value) in
    let next = finding_at c.args.self.now.above b.depth (Bytes seen 0 at_first) in
    came_then k here (moment z v kept c.args.left.now) next (moment (g.S.Steps.sizes s) w kept (c.args.left.now - 1))
    (g.met.S.Steps.only_sizes c.args.steps.now s c.read_leaf_word-bytes.ensures.only) (omega (arith, c.requires.left))
    (heard_on z k v w here next kept kept (ReadLeaf x l 1) (word_told count) refl (λ d. row) refl (omega arith) refl refl
    (λ what u fits. bytes_first z k what b.depth u w fits.1 x l (leaf_on z u v w x 1 count l fits.0 row) c.args.value count (leaf_still z u v w x 1 count l _ row fits.2) (leaf_word z u v w x 1 count l row) (omega (arith, c.if-bytes-eq0.false))
    (omega (arith, c.if-bytes-gt64.false)) seen refl)
    (refl, record { node = refl; above = refl }))
