-- Each word is the one that was asked for.
use Rattle.std.proofs.Common.{ℕ, ◌+◌, None, refl, sym, subst}
use Rattle.art_step.specs.Acting.{IsAllowed}
use Rattle.art_step.specs.declared.actions.Action.TheVariants.{Read}
use Rattle.art_look.specs.declared.looks.LookStage.TheVariants.{Anchor, Header, Prefix, Keys, Slot}
use Rattle.art_look.proofs.Going.{may_go}
use Rattle.art_step.specs.Steps.Read as read
use Rattle.art_look.proofs.straight.read.Goals as goal

pub read_word-word-requires : goal.read_word-word-requires
read_word-word-requires g c =
    record {
      allowed = may_go (g.S.Steps.sizes c.args.steps.now) c.args.lo.now (g.S.Steps.view c.args.steps.now) c.args.look.now c.args.path_buffer.now c.args.tally.now c.requires.looks (Anchor c.in-Anchor.stamp) c.in-Anchor.is (Read c.in-Anchor.stamp 1) refl;
    }

pub read_word-word-requires-in-Header : goal.read_word-word-requires-in-Header
read_word-word-requires-in-Header g c =
    record {
      allowed = may_go (g.S.Steps.sizes c.args.steps.now) c.args.lo.now (g.S.Steps.view c.args.steps.now) c.args.look.now c.args.path_buffer.now c.args.tally.now c.requires.looks (Header c.in-Header.stamp c.in-Header.node) c.in-Header.is (Read c.in-Header.stamp 1) refl;
    }

pub read_word-word-requires-in-Prefix : goal.read_word-word-requires-in-Prefix
read_word-word-requires-in-Prefix g c =
    record {
      allowed = subst (λ (i : ℕ). IsAllowed (g.S.Steps.sizes c.args.steps.now) None (g.S.Steps.view c.args.steps.now) (Read c.in-Prefix.seen.stamp (2 + i))) (sym c.from.ensures)
          (may_go (g.S.Steps.sizes c.args.steps.now) c.args.lo.now (g.S.Steps.view c.args.steps.now) c.args.look.now c.args.path_buffer.now c.args.tally.now c.requires.looks (Prefix c.in-Prefix.seen c.in-Prefix.number) c.in-Prefix.is (Read c.in-Prefix.seen.stamp (2 + c.in-Prefix.number)) refl);
    }

pub read_word-word-requires-in-Keys : goal.read_word-word-requires-in-Keys
read_word-word-requires-in-Keys g c =
    record {
      allowed = subst (λ (i : ℕ). IsAllowed (g.S.Steps.sizes c.args.steps.now) None (g.S.Steps.view c.args.steps.now) (Read c.in-Keys.seen.stamp (10 + i))) (sym c.from-in-Keys.ensures)
          (may_go (g.S.Steps.sizes c.args.steps.now) c.args.lo.now (g.S.Steps.view c.args.steps.now) c.args.look.now c.args.path_buffer.now c.args.tally.now c.requires.looks (Keys c.in-Keys.seen c.in-Keys.front c.in-Keys.number) c.in-Keys.is (Read c.in-Keys.seen.stamp (10 + c.in-Keys.number)) refl);
    }

pub read_word-word-requires-in-Slot : goal.read_word-word-requires-in-Slot
read_word-word-requires-in-Slot g c =
    record {
      allowed = may_go (g.S.Steps.sizes c.args.steps.now) c.args.lo.now (g.S.Steps.view c.args.steps.now) c.args.look.now c.args.path_buffer.now c.args.tally.now c.requires.looks (Slot c.in-Slot.sought) c.in-Slot.is (Read c.in-Slot.sought.seen.stamp c.in-Slot.sought.place) refl;
    }

pub returns-in-Anchor-clause-gone : goal.returns-in-Anchor-clause-gone
returns-in-Anchor-clause-gone g c =
    let v = g.S.Steps.view c.args.steps.now in
    let w = g.S.Steps.view c.read_word-word.new.steps in
    c.hear_word.ensures.gone (g.S.Steps.sizes c.args.steps.now) v w (Read c.in-Anchor.stamp 1) refl (λ d. c.read_word-word.ensures.row)

pub returns-in-Header-clause-gone : goal.returns-in-Header-clause-gone
returns-in-Header-clause-gone g c =
    let v = g.S.Steps.view c.args.steps.now in
    let w = g.S.Steps.view c.read_word-word-in-Header.new.steps in
    c.hear_word-in-Header.ensures.gone (g.S.Steps.sizes c.args.steps.now) v w (Read c.in-Header.stamp 1) refl (λ d. c.read_word-word-in-Header.ensures.row)

pub returns-in-Prefix-clause-gone : goal.returns-in-Prefix-clause-gone
returns-in-Prefix-clause-gone g c =
    let v = g.S.Steps.view c.args.steps.now in
    let w = g.S.Steps.view c.read_word-word-in-Prefix.new.steps in
    c.hear_word-in-Prefix.ensures.gone (g.S.Steps.sizes c.args.steps.now) v w (Read c.in-Prefix.seen.stamp (2 + c.in-Prefix.number)) refl (λ d. subst (λ (i : ℕ). read.Outcome (g.S.Steps.sizes c.args.steps.now) v w c.in-Prefix.seen.stamp (2 + i) c.read_word-word-in-Prefix.result) c.from.ensures c.read_word-word-in-Prefix.ensures.row)

pub returns-in-Keys-clause-gone : goal.returns-in-Keys-clause-gone
returns-in-Keys-clause-gone g c =
    let v = g.S.Steps.view c.args.steps.now in
    let w = g.S.Steps.view c.read_word-word-in-Keys.new.steps in
    c.hear_word-in-Keys.ensures.gone (g.S.Steps.sizes c.args.steps.now) v w (Read c.in-Keys.seen.stamp (10 + c.in-Keys.number)) refl (λ d. subst (λ (i : ℕ). read.Outcome (g.S.Steps.sizes c.args.steps.now) v w c.in-Keys.seen.stamp (10 + i) c.read_word-word-in-Keys.result) c.from-in-Keys.ensures c.read_word-word-in-Keys.ensures.row)

pub returns-in-Slot-clause-gone : goal.returns-in-Slot-clause-gone
returns-in-Slot-clause-gone g c =
    let v = g.S.Steps.view c.args.steps.now in
    let w = g.S.Steps.view c.read_word-word-in-Slot.new.steps in
    c.hear_word-in-Slot.ensures.gone (g.S.Steps.sizes c.args.steps.now) v w (Read c.in-Slot.sought.seen.stamp c.in-Slot.sought.place) refl (λ d. c.read_word-word-in-Slot.ensures.row)
