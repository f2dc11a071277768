use Rattle.std.proofs.Common.{◌∙◌, ℕ, List, Some, ap, sym, subst, arith}
use Rattle.art_change.proofs.Frames.{done_by, ended_is}
use Rattle.art_change.proofs.Staged.{asked_at, fits_at, made_at, steps_at}
use Rattle.art_change.proofs.writes.Write.exit_told.Goals as goal
use Rattle.art_change.specs.Writes.{IsExiting, outcome_in, refuses_at}
use Rattle.art_change.specs.declared.writes.Write.{Write}
use Rattle.art_change.specs.declared.writes.Stage.{Stage as StageOf}
use Rattle.art_change.specs.declared.writes.Stage.TheVariants.{Exit, Ended}
use Rattle.art_attempt.specs.declared.attempts.Room.{Room as RoomOf}
use Rattle.art_change.proofs.FrameSteps.{exit_frame, frame_one}
use Rattle.art_epoch.specs.Limbo.{places_of}
use Rattle.art_epoch.specs.Exit.{ExitFits}
use Rattle.art_epoch.specs.declared.exit.Exit.{Exit as ExitOf}
use Rattle.art_epoch.specs.declared.exit.Exit.TheVariants.{Ended as closed}
use Rattle.art_step.specs.Tokens.{links_of}

pub told-requires-clause-fits : goal.told-requires-clause-fits
told-requires-clause-fits c =
    let m = c.args.self.now in
    let r = c.args.room.now in
    let q = c.requires.told in
    let s = Exit c.in-Exit.exit c.in-Exit.outcome in
    let at = c.in-Exit.is in
    let qs = places_of c.args.limbo.now in
    let k = (fits_at m r s at q.0 q.1 q.4 qs q.2 q.6).0 in (
      q.0,
      r.row.key.items,
      r.row.value,
      k.ended,
      q.2,
      q.3,
      k.waiting,
      q.5,
      subst (λ (ws : List ℕ). ExitFits q.0 r.row.key.items r.row.value k.ended k.waiting (links_of ws) c.in-Exit.exit qs r.stock q.2) (sym c.gone_by.ensures.words) k.fits,
      asked_at m r s at qs (Some q.5) q.7,
      made_at m r s at q.0 q.5 c.args.answer q.2 q.3 q.8,
    )

pub returns-then-ended-clause-fits : goal.returns-then-ended-clause-fits
returns-then-ended-clause-fits c z u v w ps asked fits is row =
    let m = c.args.self.now in
    let r = c.args.room.now in
    let x = c.in-Exit.exit in
    let a = c.in-Exit.outcome in
    let at = c.in-Exit.is in
    let qs = places_of c.args.limbo.now in
    let rs = places_of c.told.new.limbo in
    let k = (fits_at m r (Exit x a) at z u ps qs v fits).0 in
    let asks_it = asked_at m r (Exit x a) at qs (Some asked) is in
    let made = made_at m r (Exit x a) at z asked c.args.answer v w row in
    let words = c.gone_by.ensures.words in
    let one = frame_one z asked c.args.answer v w (exit_frame x r.stock asked asks_it) made in
    let before = k.later in
    let on = c.told.ensures.fits z r.row.key.items r.row.value k.ended v w k.waiting asked
    (subst (λ (ws : List ℕ). ExitFits z r.row.key.items r.row.value k.ended k.waiting (links_of ws) x qs r.stock v) (sym words) k.fits) asks_it made in
    let over = subst (λ (e : ExitOf). ExitFits z r.row.key.items r.row.value k.ended k.waiting (links_of c.gone_by.result.now) e rs c.told.new.stock w)
    (ended_is c.told.new.self (sym c.ended.ensures.at ∙ c.if-ended.true)) on in
    let then : RoomOf = record r { stock = c.told.new.stock } in
    let next : Write = record m { stage = Ended a } in
    let exit : IsExiting z u ps next closed a then rs w = record {
      opened = k.opened;
      began = k.began;
      ended = k.ended;
      stock = k.stock;
      waiting = k.waiting;
      frame = k.frame;
      begun = k.begun;
      outcome = k.outcome;
      later = omega (arith, one, before);
      counted = k.counted;
      fits = subst (λ (ws : List ℕ). ExitFits z r.row.key.items r.row.value k.ended k.waiting (links_of ws) closed rs c.told.new.stock w) words over;
    } in
    record {
      room = record { sizes = fits.room.sizes; key = fits.room.key };
      stage = done_by z u k.began k.ended ps m.job (record r { stock = k.stock }) a m.left next then rs w k.outcome exit;
    }

pub returns-else-ended-clause-fits : goal.returns-else-ended-clause-fits
returns-else-ended-clause-fits c z u v w ps asked fits is row =
    let m = c.args.self.now in
    let r = c.args.room.now in
    let x = c.in-Exit.exit in
    let a = c.in-Exit.outcome in
    let at = c.in-Exit.is in
    let qs = places_of c.args.limbo.now in
    let rs = places_of c.told.new.limbo in
    let k = (fits_at m r (Exit x a) at z u ps qs v fits).0 in
    let asks_it = asked_at m r (Exit x a) at qs (Some asked) is in
    let made = made_at m r (Exit x a) at z asked c.args.answer v w row in
    let words = c.gone_by.ensures.words in
    let one = frame_one z asked c.args.answer v w (exit_frame x r.stock asked asks_it) made in
    let before = k.later in
    let on = c.told.ensures.fits z r.row.key.items r.row.value k.ended v w k.waiting asked
    (subst (λ (ws : List ℕ). ExitFits z r.row.key.items r.row.value k.ended k.waiting (links_of ws) x qs r.stock v) (sym words) k.fits) asks_it made in
    record {
      room = record { sizes = fits.room.sizes; key = fits.room.key };
      stage = (
        record {
          opened = k.opened;
          began = k.began;
          ended = k.ended;
          stock = k.stock;
          waiting = k.waiting;
          frame = k.frame;
          begun = k.begun;
          outcome = k.outcome;
          later = omega (arith, one, before);
          counted = k.counted;
          fits = subst (λ (ws : List ℕ). ExitFits z r.row.key.items r.row.value k.ended k.waiting (links_of ws) c.told.new.self rs c.told.new.stock w) words on;
        },
        sym c.ended.ensures.at ∙ c.if-ended.false,
      );
    }

pub returns-then-ended-clause-left : goal.returns-then-ended-clause-left
returns-then-ended-clause-left c =
    let fewer = c.told.ensures.left in
    let same = steps_at c.args.self.now c.args.room.now (Exit c.in-Exit.exit c.in-Exit.outcome) c.in-Exit.is (places_of c.args.limbo.now) in
    omega (arith, fewer, same)

pub returns-else-ended-clause-left : goal.returns-else-ended-clause-left
returns-else-ended-clause-left c =
    let fewer = c.told.ensures.left in
    let same = steps_at c.args.self.now c.args.room.now (Exit c.in-Exit.exit c.in-Exit.outcome) c.in-Exit.is (places_of c.args.limbo.now) in
    omega (arith, fewer, same)

pub returns-then-ended-clause-refuses : goal.returns-then-ended-clause-refuses
returns-then-ended-clause-refuses c = subst (λ (s : StageOf). refuses_at s c.args.self.now.left) c.in-Exit.is

pub returns-else-ended-clause-refuses : goal.returns-else-ended-clause-refuses
returns-else-ended-clause-refuses c = subst (λ (s : StageOf). refuses_at s c.args.self.now.left) c.in-Exit.is

pub returns-then-ended-clause-outcome : goal.returns-then-ended-clause-outcome
returns-then-ended-clause-outcome c = sym (ap outcome_in c.in-Exit.is)

pub returns-else-ended-clause-outcome : goal.returns-else-ended-clause-outcome
returns-else-ended-clause-outcome c = sym (ap outcome_in c.in-Exit.is)
