use Rattle.std.proofs.Common.{◌+◌, ◌≤◌, ◌<◌, ◌∙◌, inl, sym, subst, arith}
use Rattle.std.specs.Prelude.{IfSome, Option}
use Rattle.art_step.proofs.Counting.{look_counts}
use Rattle.art_look.proofs.Counted.{goes_at}
use Rattle.art_look.proofs.Parts.{walk_looks}
use Rattle.art_find.specs.Asking.{MayLook}
use Rattle.art_step.specs.declared.actions.Action.{Action}
use Rattle.art_look.specs.Seeks.{busy_at, left_at, steps_left}
use Rattle.art_look.specs.Walks.{Settles, deed_at}
use Rattle.art_look.specs.declared.seeks.SeekStage.{SeekStage}
use Rattle.art_look.proofs.seeks.Seek.walk_once.Goals as goal

pub make-answer-requires-clause-asked : goal.make-answer-requires-clause-asked
make-answer-requires-clause-asked g c settles = sym c.next.ensures.asks ∙ c.in-Some.is

pub make-answer-requires-clause-allowed : goal.make-answer-requires-clause-allowed
make-answer-requires-clause-allowed g c =
    let z = g.S.Steps.sizes c.args.steps.now in
    let v = g.S.Steps.view c.args.steps.now in
    let k = c.args.key.now in
    let m = c.args.self.now in
    let t = c.args.path_buffer.now in
    let q = c.requires.fits in
    let walk = (goes_at z k c.args.hi.now q.0 m t v c.requires.stage q.1).walking in
    inl (subst (λ (o : Option Action). IfSome o (MayLook z (Settles m.walk k t) v)) c.in-Some.is (c.next.ensures.allowed z k c.args.hi.now t walk.opened v m.restarts walk.walk))

pub walk_told-requires : goal.walk_told-requires
walk_told-requires g c =
    let z = g.S.Steps.sizes c.args.steps.now in
    let v = g.S.Steps.view c.args.steps.now in
    let w = g.S.Steps.view c.make-answer.new.steps in
    let hi = c.args.hi.now in
    let q = c.requires.fits in
    let on = goes_at z c.args.key.now hi q.0 c.args.self.now c.args.path_buffer.now v c.requires.stage q.1 in
    record {
      short = c.requires.short;
      turn = on.turn;
      few = on.walking.few;
      told = (z, hi, q.0, v, w, c.in-Some.action, on.walking, sym c.next.ensures.asks ∙ c.in-Some.is, c.make-answer.ensures.row);
    }

pub returns-clause-less : goal.returns-clause-less
returns-clause-less g c =
    let m = c.args.self.now in
    subst (λ (s : SeekStage). steps_left c.walk_told.new.self < left_at s m) (sym c.requires.stage) c.walk_told.ensures.left

pub returns-clause-goes : goal.returns-clause-goes
returns-clause-goes g c =
    let z = g.S.Steps.sizes c.args.steps.now in
    let v = g.S.Steps.view c.args.steps.now in
    let w = g.S.Steps.view c.make-answer.new.steps in
    let k = c.args.key.now in
    let hi = c.args.hi.now in
    let m = c.args.self.now in
    let t = c.args.path_buffer.now in
    let n = c.walk_told.new.self in
    let at = c.requires.stage in
    let row = c.make-answer.ensures.row in
    let one = (look_counts z (deed_at m.walk k hi t) c.in-Some.action c.make-answer.result v w (walk_looks m.walk c.in-Some.action (sym c.next.ensures.asks ∙ c.in-Some.is)) row).steps in
    let told = c.walk_told.ensures in
    let left = told.left in
    record {
      aim = told.aim;
      turns = told.turns;
      refuses = λ busy. absurd (subst (λ (s : SeekStage). busy_at s m) at busy);
      less = subst (λ (s : SeekStage). steps_left n ≤ left_at s m) (sym at) (omega (arith, left));
      left = subst (λ (s : SeekStage). w.steps + steps_left n ≤ v.steps + left_at s m) (sym at) (omega (arith, left, one));
      fits = λ u fits. told.fits z hi u v w c.in-Some.action (goes_at z k hi u m t v at fits).walking (sym c.next.ensures.asks ∙ c.in-Some.is) row;
    }
