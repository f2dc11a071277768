-- The steps are those of the close, one after another; then it has ended.
use Rattle.std.proofs.Common.{◌∙◌, ℕ, List, None, refl, sym, ap, subst, arith}
use Rattle.art_change.proofs.FrameSteps.{exit_frame, exit_over, frame_one}
use Rattle.art_change.proofs.Frames.{done_by}
use Rattle.art_change.proofs.Staged.{fits_at}
use Rattle.art_change.proofs.writes.Write.exit_all.Goals as goal
use Rattle.art_change.specs.Writes.{Fits, IsExiting, gone_by}
use Rattle.art_change.specs.declared.writes.Stage.TheVariants.{Ended, Exit}
use Rattle.art_change.specs.declared.writes.Write.{Write}
use Rattle.art_attempt.specs.declared.attempts.Room.{Room}
use Rattle.art_epoch.specs.Exit.{ExitFits}
use Rattle.art_epoch.specs.Limbo.{places_of}
use Rattle.art_epoch.specs.declared.exit.Exit.{Exit as ExitOf}
use Rattle.art_epoch.specs.declared.exit.Exit.TheVariants.{Ended as closed}
use Rattle.art_step.specs.Acting.{Answers, IsAllowed}
use Rattle.art_step.specs.Tokens.{links_of}
use Rattle.art_step.specs.declared.views.Sizes.{Sizes}

pub loop-asked-init : goal.loop-asked-init
loop-asked-init g c = record {
  only = g.met.S.Steps.only_same c.args.steps.now;
  sizes = refl;
  room = refl;
  later = omega arith;
  left = omega arith;
  fits = λ u ps fits.
      let o = fits_at c.args.self.now c.args.room.now (Exit c.in-Exit.exit c.in-Exit.outcome) c.in-Exit.is (g.S.Steps.sizes c.args.steps.now) u ps (places_of c.args.limbo.now) (g.S.Steps.view c.args.steps.now) fits in
      (fits.room, o.0);
}

pub perform-answer-requires-clause-allowed : goal.perform-answer-requires-clause-allowed
perform-answer-requires-clause-allowed g c =
    let l = c.loop-asked in
    let r = c.args.room.now in
    let v = g.S.Steps.view l.steps in
    let q = c.requires.fits in
    let k = (l.invariant.fits q.0 q.1 q.2).1 in
    subst (λ (z : Sizes). IsAllowed z None v c.in-Some.asked) (sym l.invariant.sizes)
    (c.in-Some.ensures.allowed (g.S.Steps.sizes c.args.steps.now) r.row.key.items r.row.value k.ended v k.waiting (places_of l.limbo)
    (links_of (gone_by c.in-Exit.outcome r.change)) k.fits)

pub told-requires-clause-fits : goal.told-requires-clause-fits
told-requires-clause-fits g c =
    let l = c.loop-asked in
    let r = c.args.room.now in
    let v = g.S.Steps.view l.steps in
    let w = g.S.Steps.view c.perform-answer.new.steps in
    let q = c.requires.fits in
    let k = (l.invariant.fits q.0 q.1 q.2).1 in
    let words = c.gone_by.ensures.words ∙ ap (λ (x : Room). gone_by c.in-Exit.outcome x.change) l.invariant.room in (
      g.S.Steps.sizes c.args.steps.now,
      r.row.key.items,
      r.row.value,
      k.ended,
      v,
      w,
      k.waiting,
      c.in-Some.asked,
      subst (λ (ws : List ℕ). ExitFits (g.S.Steps.sizes c.args.steps.now) r.row.key.items r.row.value k.ended k.waiting (links_of ws) l.running (places_of l.limbo) l.room.stock v) (sym words) k.fits,
      sym c.in-Some.ensures.asks,
      subst (λ (z : Sizes). Answers z None c.in-Some.asked c.perform-answer.result v w) l.invariant.sizes c.perform-answer.ensures.row,
    )

pub loop-asked-smaller : goal.loop-asked-smaller
loop-asked-smaller g c = c.told.ensures.left

pub loop-asked-preserved : goal.loop-asked-preserved
loop-asked-preserved g c =
    let l = c.loop-asked in
    let i = l.invariant in
    let s = c.args.steps.now in
    let z = g.S.Steps.sizes s in
    let r = c.args.room.now in
    let a = c.in-Some.asked in
    let v = g.S.Steps.view l.steps in
    let w = g.S.Steps.view c.perform-answer.new.steps in
    let row = subst (λ (y : Sizes). Answers y None a c.perform-answer.result v w) i.sizes c.perform-answer.ensures.row in
    let asks = sym c.in-Some.ensures.asks in
    let one = frame_one z a c.perform-answer.result v w (exit_frame l.running l.room.stock a asks) row in
    let words = c.gone_by.ensures.words ∙ ap (λ (x : Room). gone_by c.in-Exit.outcome x.change) i.room in
    let later = i.later in
    let left = i.left in
    let fewer = c.told.ensures.left in
    record {
      only = g.met.S.Steps.only_then s l.steps c.perform-answer.new.steps i.only c.perform-answer.ensures.only;
      sizes = g.met.S.Steps.only_sizes l.steps c.perform-answer.new.steps c.perform-answer.ensures.only ∙ i.sizes;
      room = ap (λ (x : Room). record x { stock = c.told.new.stock }) i.room;
      later = omega (arith, one, later);
      left = omega (arith, one, left, fewer);
      fits = λ u ps fits.
          let o = i.fits u ps fits in
          let k = o.1 in
          let before = k.later in
          let on = c.told.ensures.fits z r.row.key.items r.row.value k.ended v w k.waiting a
          (subst (λ (ws : List ℕ). ExitFits z r.row.key.items r.row.value k.ended k.waiting (links_of ws) l.running (places_of l.limbo) l.room.stock v) (sym words) k.fits) asks row in (
            o.0,
            record {
              opened = k.opened;
              began = k.began;
              ended = k.ended;
              stock = k.stock;
              waiting = k.waiting;
              frame = k.frame;
              begun = k.begun;
              outcome = k.outcome;
              later = omega (arith, one, before);
              counted = k.counted;
              fits = subst (λ (ws : List ℕ). ExitFits z r.row.key.items r.row.value k.ended k.waiting (links_of ws) c.told.new.self (places_of c.told.new.limbo) c.told.new.stock w) words on;
            },
          );
    }

pub returns-clause-fits : goal.returns-clause-fits
returns-clause-fits g c = λ u ps fits.
    let l = c.loop-asked in
    let i = l.invariant in
    let z = g.S.Steps.sizes c.args.steps.now in
    let v = g.S.Steps.view l.steps in
    let m = c.args.self.now in
    let r = c.args.room.now in
    let x = c.in-Exit.outcome in
    let qs = places_of l.limbo in
    let o = i.fits u ps fits in
    let k = o.1 in
    let over = exit_over l.running l.room.stock (sym c.in_default-next.ensures.asks) in
    let then : Write = record m { stage = Ended x } in
    let closed_in : Room = record r { stock = l.room.stock } in
    let exit : IsExiting z u ps then closed x closed_in qs v = record {
      opened = k.opened;
      began = k.began;
      ended = k.ended;
      stock = k.stock;
      waiting = k.waiting;
      frame = k.frame;
      begun = k.begun;
      outcome = k.outcome;
      later = k.later;
      counted = k.counted;
      fits = subst (λ (e : ExitOf). ExitFits z r.row.key.items r.row.value k.ended k.waiting (links_of (gone_by x r.change)) e qs l.room.stock v) over k.fits;
    } in
    subst (λ (s : Room). Fits z u ps then s qs v) (sym i.room) record {
      room = record { sizes = o.0.sizes; key = o.0.key };
      stage = done_by z u k.began k.ended ps m.job (record r { stock = k.stock }) x m.left then closed_in qs v k.outcome exit;
    }
