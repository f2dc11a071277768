use Rattle.std.proofs.Common.{◌≡◌, ◌+◌, ◌≤◌, ◌<◌, ◌∙◌, Some, ap, inl, sym, subst, arith}
use Rattle.art_find.specs.Asking.{MayLook}
use Rattle.art_step.proofs.Counting.{look_counts}
use Rattle.art_step.specs.Acting.{Answers, telling}
use Rattle.art_step.specs.declared.actions.Action.TheVariants.{Settle}
use Rattle.art_step.specs.declared.actions.Answer.{Answer}
use Rattle.art_step.specs.declared.actions.Answer.TheVariants.{Checked}
use Rattle.art_look.proofs.Counted.{goes_at, walks_on}
use Rattle.art_look.proofs.Settlings.{settling_asks, settling_may}
use Rattle.art_look.specs.Seeks.{busy_at, left_at, steps_left}
use Rattle.art_look.specs.Settlings.{stamp_of}
use Rattle.art_look.specs.Walks.{Settles, aim_of, asks, deed_at}
use Rattle.art_look.specs.declared.seeks.SeekStage.{SeekStage}
use Rattle.art_look.specs.declared.walks.Walk.{Walk as WalkOf}
use Rattle.art_step.specs.declared.views.Stamp.{Stamp as StampOf}
use Rattle.art_look.proofs.seeks.Seek.settle.Goals as goal

pub make-requires-clause-asked : goal.make-requires-clause-asked
make-requires-clause-asked g c settles =
    let m = c.args.self.now in
    subst (λ (x : StampOf). asks m.walk ≡ Some (Settle x)) (sym c.stamp.ensures) (settling_asks c.args.settling m.walk c.requires.stands)

pub make-requires-clause-allowed : goal.make-requires-clause-allowed
make-requires-clause-allowed g c =
    let z = g.S.Steps.sizes c.args.steps.now in
    let v = g.S.Steps.view c.args.steps.now in
    let k = c.args.key.now in
    let hi = c.args.hi.now in
    let m = c.args.self.now in
    let t = c.args.path_buffer.now in
    let q = c.requires.fits in
    let walk = (goes_at z k hi q.0 m t v c.requires.stage q.1).walking in
    inl (subst (λ (x : StampOf). MayLook z (Settles m.walk k t) v (Settle x)) (sym c.stamp.ensures) (settling_may z k hi t walk.opened v m.restarts c.args.settling m.walk c.requires.stands walk.walk))

pub returns-clause-less : goal.returns-clause-less
returns-clause-less g c =
    let m = c.args.self.now in
    subst (λ (s : SeekStage). steps_left c.walk_heard.new.self < left_at s m) (sym c.requires.stage) c.walk_heard.ensures.left

pub returns-clause-goes : goal.returns-clause-goes
returns-clause-goes g c =
    let z = g.S.Steps.sizes c.args.steps.now in
    let v = g.S.Steps.view c.args.steps.now in
    let w = g.S.Steps.view c.make.new.steps in
    let k = c.args.key.now in
    let hi = c.args.hi.now in
    let m = c.args.self.now in
    let t = c.args.path_buffer.now in
    let n = c.walk_heard.new.self in
    let at = c.requires.stage in
    let x = stamp_of c.args.settling in
    let d = deed_at m.walk k hi t in
    let answer = Checked c.in-Checked.result in
    let row = subst (λ (y : StampOf). Answers z (telling d) (Settle y) answer v w) c.stamp.ensures
    (subst (λ (r : Answer). Answers z (telling d) (Settle c.stamp.result) r v w) c.in-Checked.is c.make.ensures.row) in
    let one = (look_counts z d (Settle x) answer v w tt row).steps in
    let told = c.settle_told-on in
    let heard = c.walk_heard.ensures in
    let left = heard.left in
    record {
      aim = ap (λ (a : WalkOf). aim_of a) heard.walk ∙ told.ensures.aim;
      turns = heard.turns;
      refuses = λ busy. absurd (subst (λ (s : SeekStage). busy_at s m) at busy);
      less = subst (λ (s : SeekStage). steps_left n ≤ left_at s m) (sym at) (omega (arith, left));
      left = subst (λ (s : SeekStage). w.steps + steps_left n ≤ v.steps + left_at s m) (sym at) (omega (arith, left, one));
      fits = λ u fits.
          let on = goes_at z k hi u m t v at fits in
          let b = on.walking in
          heard.fits z k hi u w t (walks_on z k hi u m t v d (Settle x) answer w on.turn tt row b told.new.self t
          (told.ensures.fits z k hi t b.opened v w m.restarts c.requires.short b.walk row) told.result told.ensures.on);
    }
