use Rattle.std.proofs.Common.{◌+◌, ◌-◌, ℕ, None, refl, sym, subst, arith}
use Rattle.art_find.proofs.Allowed.{allowed}
use Rattle.art_find.proofs.Hearing.{leaf_heard, word_came}
use Rattle.art_find.proofs.Passing.{came_now, came_then, found_on, heard_on}
use Rattle.art_find.proofs.Stages.{bytes_next, leaf_on, leaf_still, leaf_word}
use Rattle.art_find.specs.Nodes.{finding_at, moment}
use Rattle.art_find.specs.declared.descents.Stage.TheVariants.{Bytes}
use Rattle.art_step.specs.Acting.{IsAllowed}
use Rattle.art_step.specs.declared.actions.Action.TheVariants.{ReadLeaf}
use Rattle.art_step.specs.declared.actions.Answer.TheVariants.{Word as word_told}
use Rattle.art_step.specs.Steps.Read as read
use Rattle.art_find.proofs.findings.Finding.compare_key.Goals as goal

pub loop-left-init : goal.loop-left-init
loop-left-init g c = record {
  only = g.met.S.Steps.only_same c.args.steps.now;
  left = c.requires.left;
  less = omega arith;
  found = c.requires.found;
  goes = λ m a came. came;
}

pub read_leaf_word-word-requires : goal.read_leaf_word-word-requires
read_leaf_word-word-requires g c =
    let l = c.loop-left in
    let q = l.invariant.found in
    let seen = c.args.seen in
    let z = g.S.Steps.sizes l.steps in
    let v = g.S.Steps.view l.steps in
    record {
      allowed = subst (λ (i : ℕ). IsAllowed z None v (ReadLeaf seen.stamp seen.leaf (2 + i))) (sym c.from-in-loop-left.ensures)
          (allowed z c.args.key.now q.0 c.args.depth (Bytes seen l.number l.before) q.1 v q.2.descent);
    }

pub loop-left-preserved : goal.loop-left-preserved
loop-left-preserved g c =
    let l = c.loop-left in
    let i = l.invariant in
    let s = c.read_leaf_word-word.new.steps in
    let z = g.S.Steps.sizes l.steps in
    let v = g.S.Steps.view l.steps in
    let w = g.S.Steps.view s in
    let k = c.args.key.now in
    let seen = c.args.seen in
    let x = seen.stamp in
    let number = l.number in
    let depth = c.args.depth in
    let word = c.read_leaf_word-word.result in
    let kept = g.K.Sink.kept c.args.sink.now in
    let row = subst (λ (n : ℕ). read.LeafOutcome v w x seen.leaf (2 + n) word) c.from-in-loop-left.ensures c.read_leaf_word-word.ensures.row in
    let above = c.args.self.now.above in
    let here = finding_at above depth (Bytes seen number l.before) in
    let next = finding_at above depth (Bytes seen (number + 1) c.beside_word-before.result) in
    let now = moment z v kept l.left in
    let later = moment (g.S.Steps.sizes s) w kept (l.left - 1) in
    let step = came_then k here now next later (g.met.S.Steps.only_sizes l.steps s c.read_leaf_word-word.ensures.only) (omega (arith, i.left))
    (heard_on z k v w here next kept kept (ReadLeaf x seen.leaf (2 + number)) (word_told word) refl (λ d. row) refl (omega arith) refl refl
    (λ what u fits. bytes_next z k what depth u w fits.1 seen (leaf_on z u v w x (2 + number) word seen.leaf fits.0 row) number word l.before c.beside_word-before.result fits.2.more fits.2.few c.beside_word-before.ensures
    (leaf_still z u v w x (2 + number) word seen.leaf _ row fits.2.shows) (leaf_word z u v w x (2 + number) word seen.leaf row) (omega (arith, c.if-from-seen.true, c.from.ensures)))
    (refl, record { node = refl; above = refl })) in
    record {
      only = g.met.S.Steps.only_then c.args.steps.now l.steps s i.only c.read_leaf_word-word.ensures.only;
      left = omega (arith, c.loop-left-test.true);
      less = omega (arith, i.less);
      found = found_on k here now next later (step here now (came_now k here now)) i.found;
      goes = λ m a came. step m a (i.goes m a came);
    }

pub read_leaf_word-word-requires-2 : goal.read_leaf_word-word-requires-2
read_leaf_word-word-requires-2 g c =
    let l = c.loop-left in
    let q = l.invariant.found in
    let seen = c.args.seen in
    let z = g.S.Steps.sizes l.steps in
    let v = g.S.Steps.view l.steps in
    record {
      allowed = subst (λ (i : ℕ). IsAllowed z None v (ReadLeaf seen.stamp seen.leaf (2 + i))) (sym c.from-2.ensures)
          (allowed z c.args.key.now q.0 c.args.depth (Bytes seen l.number l.before) q.1 v q.2.descent);
    }

pub beside_word-before-requires-clause-more : goal.beside_word-before-requires-clause-more
beside_word-before-requires-clause-more g c = c.loop-left.invariant.found.2.descent.2.more

pub beside_word-before-requires-clause-few : goal.beside_word-before-requires-clause-few
beside_word-before-requires-clause-few g c = c.loop-left.invariant.found.2.descent.2.few

pub beside_word-before-requires-clause-within : goal.beside_word-before-requires-clause-within
beside_word-before-requires-clause-within g c = c.loop-left.invariant.found.2.descent.2.within

pub read_at-requires-clause-fits : goal.read_at-requires-clause-fits
read_at-requires-clause-fits g c =
    let l = c.loop-left in
    let q = l.invariant.found in
    (g.S.Steps.sizes l.steps, q.0, q.1, g.S.Steps.view l.steps, q.2.descent)

pub returns-clause-only : goal.returns-clause-only
returns-clause-only g c = g.met.S.Steps.only_then c.args.steps.now c.loop-left.steps c.read_leaf_word-word-2.new.steps c.loop-left.invariant.only c.read_leaf_word-word-2.ensures.only

pub returns-clause-goes : goal.returns-clause-goes
returns-clause-goes g c = λ m a came.
    let l = c.loop-left in
    let i = l.invariant in
    let z = g.S.Steps.sizes l.steps in
    let v = g.S.Steps.view l.steps in
    let s = c.read_leaf_word-word-2.new.steps in
    let w = g.S.Steps.view s in
    let k = c.args.key.now in
    let x = c.args.seen.stamp in
    let leaf = c.args.seen.leaf in
    let word = c.read_leaf_word-word-2.result in
    let row = subst (λ (p : ℕ). read.LeafOutcome v w x leaf (2 + p) word) c.from-2.ensures c.read_leaf_word-word-2.ensures.row in
    let kept = g.K.Sink.kept c.args.sink.now in
    let here = finding_at c.args.self.now.above c.args.depth (Bytes c.args.seen l.number l.before) in
    let n = c.read_at.new.self in
    let e = c.read_at.ensures in
    came_then k here (moment z v kept l.left) (record here { descent = n }) (moment (g.S.Steps.sizes s) w kept (l.left - 1))
    (g.met.S.Steps.only_sizes l.steps s c.read_leaf_word-word-2.ensures.only) (omega (arith, i.left))
    (leaf_heard z k v w here n kept x leaf (2 + l.number) word refl row (word_came z k v w here.descent n (ReadLeaf x leaf (2 + l.number)) word refl (λ d. row) e.steps e.stays e.going e.fits)) m a (i.goes m a came)
