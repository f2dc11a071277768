use Rattle.std.proofs.Common.{◌∙◌, sym, subst, Option, Some, arith}
use Rattle.std.specs.Prelude.{IfSome}
use Rattle.art_change.proofs.FrameSteps.{enter_frame, frame_one}
use Rattle.art_change.proofs.Frames.{later_untried}
use Rattle.art_change.proofs.Staged.{asked_at, fits_at, made_at, steps_at}
use Rattle.art_change.proofs.writes.Write.enter_told.Goals as goal
use Rattle.art_change.specs.declared.writes.Stage.TheVariants.{Enter}
use Rattle.art_epoch.specs.Limbo.{places_of}
use Rattle.art_epoch.specs.Enter.{HasEnded}
use Rattle.art_epoch.specs.declared.enter.Entered.{Entered}

pub told-requires : goal.told-requires
told-requires c =
    let m = c.args.self.now in
    let r = c.args.room.now in
    let q = c.requires.told in
    let s = Enter c.in-Enter.enter in
    let at = c.in-Enter.is in
    let qs = places_of c.args.limbo.now in
    let o = fits_at m r s at q.0 q.1 q.4 qs q.2 q.6 in
    (q.0, q.1, q.2, q.3, q.4, q.5, o.enter, asked_at m r s at qs (Some q.5) q.7, made_at m r s at q.0 q.5 c.args.answer q.2 q.3 q.8)

pub returns-in-None-clause-fits : goal.returns-in-None-clause-fits
returns-in-None-clause-fits c z u v w ps asked fits is row =
    let m = c.args.self.now in
    let r = c.args.room.now in
    let e = c.in-Enter.enter in
    let at = c.in-Enter.is in
    let qs = places_of c.args.limbo.now in
    let o = fits_at m r (Enter e) at z u ps qs v fits in
    let asks = asked_at m r (Enter e) at qs (Some asked) is in
    let made = made_at m r (Enter e) at z asked c.args.answer v w row in
    let one = frame_one z asked c.args.answer v w (enter_frame e qs asked asks) made in
    record {
      room = fits.room;
      stage = record {
        enter = c.told.ensures.fits z u v w ps asked o.enter asks made;
        going = sym c.ended.ensures.at ∙ c.in-None.is;
        untried = later_untried z u m (Enter c.told.new.self) r v w (omega (arith, one)) o.untried;
      };
    }

pub returns-in-Some-clause-fits : goal.returns-in-Some-clause-fits
returns-in-Some-clause-fits c z u v w ps asked fits is row =
    let m = c.args.self.now in
    let r = c.args.room.now in
    let e = c.in-Enter.enter in
    let at = c.in-Enter.is in
    let before = places_of c.args.limbo.now in
    let qs = places_of c.told.new.limbo in
    let o = fits_at m r (Enter e) at z u ps before v fits in
    let asks = asked_at m r (Enter e) at before (Some asked) is in
    let made = made_at m r (Enter e) at z asked c.args.answer v w row in
    let one = frame_one z asked c.args.answer v w (enter_frame e before asked asks) made in
    let next = c.told.ensures.fits z u v w ps asked o.enter asks made in
    let ended = subst (λ (a : Option Entered). IfSome a (HasEnded z u w ps qs)) c.in-Some.is (c.ended.ensures.opened z u w ps qs next) in
    c.entered.ensures.fits z u w ps qs fits.room (later_untried z u m (Enter c.told.new.self) r v w (omega (arith, one)) o.untried) ended

pub returns-in-None-clause-left : goal.returns-in-None-clause-left
returns-in-None-clause-left c =
    let fewer = c.told.ensures.left in
    let same = steps_at c.args.self.now c.args.room.now (Enter c.in-Enter.enter) c.in-Enter.is (places_of c.args.limbo.now) in
    omega (arith, fewer, same)

pub returns-in-Some-clause-left : goal.returns-in-Some-clause-left
returns-in-Some-clause-left c =
    let fewer = c.told.ensures.left in
    let few = c.entered.ensures.left (places_of c.told.new.limbo) in
    let same = steps_at c.args.self.now c.args.room.now (Enter c.in-Enter.enter) c.in-Enter.is (places_of c.args.limbo.now) in
    omega (arith, fewer, few, same)
