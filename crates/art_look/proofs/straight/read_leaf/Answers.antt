-- Each word is the one that was asked for.
use Rattle.std.proofs.Common.{ℕ, ◌+◌, None, refl, sym, subst}
use Rattle.art_step.specs.Acting.{IsAllowed}
use Rattle.art_step.specs.declared.actions.Action.TheVariants.{ReadLeaf}
use Rattle.art_look.specs.declared.looks.LookStage.TheVariants.{Value, Length, Bytes}
use Rattle.art_look.proofs.Going.{may_go}
use Rattle.art_step.specs.Steps.Read as read
use Rattle.art_look.proofs.straight.read_leaf.Goals as goal

pub read_leaf_word-word-requires : goal.read_leaf_word-word-requires
read_leaf_word-word-requires g c =
    record {
      allowed = may_go (g.S.Steps.sizes c.args.steps.now) c.args.lo.now (g.S.Steps.view c.args.steps.now) c.args.look.now c.args.path_buffer.now c.args.tally.now c.requires.looks (Value c.in-Value.stamp c.in-Value.leaf) c.in-Value.is (ReadLeaf c.in-Value.stamp c.in-Value.leaf 0) refl;
    }

pub read_leaf_word-word-requires-in-Length : goal.read_leaf_word-word-requires-in-Length
read_leaf_word-word-requires-in-Length g c =
    record {
      allowed = may_go (g.S.Steps.sizes c.args.steps.now) c.args.lo.now (g.S.Steps.view c.args.steps.now) c.args.look.now c.args.path_buffer.now c.args.tally.now c.requires.looks (Length c.in-Length.stamp c.in-Length.leaf c.in-Length.value) c.in-Length.is (ReadLeaf c.in-Length.stamp c.in-Length.leaf 1) refl;
    }

pub read_leaf_word-word-requires-in-Bytes : goal.read_leaf_word-word-requires-in-Bytes
read_leaf_word-word-requires-in-Bytes g c =
    record {
      allowed = subst (λ (i : ℕ). IsAllowed (g.S.Steps.sizes c.args.steps.now) None (g.S.Steps.view c.args.steps.now) (ReadLeaf c.in-Bytes.seen.stamp c.in-Bytes.seen.leaf (2 + i))) (sym c.from.ensures)
          (may_go (g.S.Steps.sizes c.args.steps.now) c.args.lo.now (g.S.Steps.view c.args.steps.now) c.args.look.now c.args.path_buffer.now c.args.tally.now c.requires.looks (Bytes c.in-Bytes.seen c.in-Bytes.number) c.in-Bytes.is (ReadLeaf c.in-Bytes.seen.stamp c.in-Bytes.seen.leaf (2 + c.in-Bytes.number)) refl);
    }

pub returns-in-Value-clause-gone : goal.returns-in-Value-clause-gone
returns-in-Value-clause-gone g c =
    let v = g.S.Steps.view c.args.steps.now in
    let w = g.S.Steps.view c.read_leaf_word-word.new.steps in
    c.hear_word.ensures.gone (g.S.Steps.sizes c.args.steps.now) v w (ReadLeaf c.in-Value.stamp c.in-Value.leaf 0) refl (λ d. c.read_leaf_word-word.ensures.row)

pub returns-in-Length-clause-gone : goal.returns-in-Length-clause-gone
returns-in-Length-clause-gone g c =
    let v = g.S.Steps.view c.args.steps.now in
    let w = g.S.Steps.view c.read_leaf_word-word-in-Length.new.steps in
    c.hear_word-in-Length.ensures.gone (g.S.Steps.sizes c.args.steps.now) v w (ReadLeaf c.in-Length.stamp c.in-Length.leaf 1) refl (λ d. c.read_leaf_word-word-in-Length.ensures.row)

pub returns-in-Bytes-clause-gone : goal.returns-in-Bytes-clause-gone
returns-in-Bytes-clause-gone g c =
    let v = g.S.Steps.view c.args.steps.now in
    let w = g.S.Steps.view c.read_leaf_word-word-in-Bytes.new.steps in
    c.hear_word-in-Bytes.ensures.gone (g.S.Steps.sizes c.args.steps.now) v w (ReadLeaf c.in-Bytes.seen.stamp c.in-Bytes.seen.leaf (2 + c.in-Bytes.number)) refl (λ d. subst (λ (i : ℕ). read.LeafOutcome v w c.in-Bytes.seen.stamp c.in-Bytes.seen.leaf (2 + i) c.read_leaf_word-word-in-Bytes.result) c.from.ensures c.read_leaf_word-word-in-Bytes.ensures.row)
