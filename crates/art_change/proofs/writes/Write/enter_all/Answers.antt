-- The steps are those of the opening, one after another; then it has ended.
use Rattle.std.proofs.Common.{◌∙◌, None, refl, sym, subst, arith}
use Rattle.art_change.proofs.FrameSteps.{enter_frame, frame_one}
use Rattle.art_change.proofs.Frames.{given_room, given_same, given_untried, later_untried}
use Rattle.art_change.proofs.Staged.{fits_at}
use Rattle.art_change.proofs.writes.Write.enter_all.Goals as goal
use Rattle.art_change.specs.Writes.{IsUntried, SameRow, freed_by}
use Rattle.art_change.specs.declared.writes.Stage.TheVariants.{Enter}
use Rattle.art_attempt.specs.Attempts.{IsRoom}
use Rattle.art_attempt.specs.declared.attempts.Room.{Room}
use Rattle.art_epoch.specs.Limbo.{places_of}
use Rattle.art_step.specs.Acting.{Answers, IsAllowed}
use Rattle.art_step.specs.declared.views.Sizes.{Sizes}

pub loop-asked-init : goal.loop-asked-init
loop-asked-init g c = record {
  only = g.met.S.Steps.only_same c.args.steps.now;
  sizes = refl;
  row = record { key = refl; value = refl };
  later = omega arith;
  left = omega arith;
  fits = λ u ps fits.
      let o = fits_at c.args.self.now c.args.room.now (Enter c.in-Enter.enter) c.in-Enter.is (g.S.Steps.sizes c.args.steps.now) u ps (places_of c.args.limbo.now) (g.S.Steps.view c.args.steps.now) fits in
      (fits.room, o.enter, o.untried);
}

pub perform-answer-requires-clause-allowed : goal.perform-answer-requires-clause-allowed
perform-answer-requires-clause-allowed g c =
    let l = c.loop-asked in
    let v = g.S.Steps.view l.steps in
    let q = c.requires.fits in
    subst (λ (z : Sizes). IsAllowed z None v c.in-Some.asked) (sym l.invariant.sizes)
    (c.in-Some.ensures.allowed (g.S.Steps.sizes c.args.steps.now) q.0 v q.1 (l.invariant.fits q.0 q.1 q.2).1)

pub told-requires : goal.told-requires
told-requires g c =
    let l = c.loop-asked in
    let q = c.requires.fits in
    let v = g.S.Steps.view l.steps in
    let w = g.S.Steps.view c.perform-answer.new.steps in (
      g.S.Steps.sizes c.args.steps.now,
      q.0,
      v,
      w,
      q.1,
      c.in-Some.asked,
      (l.invariant.fits q.0 q.1 q.2).1,
      sym c.in-Some.ensures.asks,
      subst (λ (z : Sizes). Answers z None c.in-Some.asked c.perform-answer.result v w) l.invariant.sizes c.perform-answer.ensures.row,
    )

pub loop-asked-smaller : goal.loop-asked-smaller
loop-asked-smaller g c = c.told.ensures.left

pub loop-asked-preserved : goal.loop-asked-preserved
loop-asked-preserved g c =
    let l = c.loop-asked in
    let i = l.invariant in
    let s = c.args.steps.now in
    let z = g.S.Steps.sizes s in
    let m = c.args.self.now in
    let a = c.in-Some.asked in
    let v = g.S.Steps.view l.steps in
    let w = g.S.Steps.view c.perform-answer.new.steps in
    let row = subst (λ (y : Sizes). Answers y None a c.perform-answer.result v w) i.sizes c.perform-answer.ensures.row in
    let asks = sym c.in-Some.ensures.asks in
    let one = frame_one z a c.perform-answer.result v w (enter_frame l.running (places_of l.limbo) a asks) row in
    let given = c.note_given.ensures in
    let later = i.later in
    let left = i.left in
    let fewer = c.told.ensures.left in
    let same = subst (λ (r : Room). SameRow l.room r) (sym given) (given_same (freed_by a) l.room) in
    record {
      only = g.met.S.Steps.only_then s l.steps c.perform-answer.new.steps i.only c.perform-answer.ensures.only;
      sizes = g.met.S.Steps.only_sizes l.steps c.perform-answer.new.steps c.perform-answer.ensures.only ∙ i.sizes;
      row = record { key = same.key ∙ i.row.key; value = same.value ∙ i.row.value };
      later = omega (arith, one, later);
      left = omega (arith, one, left, fewer);
      fits = λ u ps fits.
          let o = i.fits u ps fits in (
            subst (λ (r : Room). IsRoom z r) (sym given) (given_room z (freed_by a) l.room o.0),
            c.told.ensures.fits z u v w ps a o.1 asks row,
            subst (λ (r : Room). IsUntried z u m r w) (sym given)
                (given_untried z (freed_by a) u m l.room w (later_untried z u m m.stage l.room v w (omega (arith, one)) o.2)),
          );
    }
