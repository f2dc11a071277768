use Rattle.std.proofs.Common.{◌∙◌, Some, ap, sym, subst, arith}
use Rattle.art_attempt.specs.Attempts.{EndFits}
use Rattle.art_attempt.specs.declared.attempts.Ending.{Ending}
use Rattle.art_attempt.specs.declared.attempts.Job.{Job}
use Rattle.art_change.proofs.Endings.{ended_steps, ends_as}
use Rattle.art_change.proofs.Staged.{fits_at, steps_at}
use Rattle.art_change.specs.declared.writes.Stage.TheVariants.{Trying}
use Rattle.art_change.proofs.writes.Write.try_on.Goals as goal

pub returns-in-None-clause-fits : goal.returns-in-None-clause-fits
returns-in-None-clause-fits g c u ps qs before_it =
    let z = g.S.Steps.sizes c.args.steps.now in
    let v = g.S.Steps.view c.args.steps.now in
    let w = g.S.Steps.view c.hurry.new.steps in
    let m = c.args.self.now in
    let k = (fits_at m c.args.room.now (Trying c.in-Trying.attempt) c.in-Trying.is z u ps qs v before_it).0 in
    let fits = c.hurry.ensures.fits k.began k.fits in
    let none = sym c.ended.ensures.at ∙ c.in-None.is in
    let before = k.counted in
    let more = c.hurry.ensures.counted in
    record {
      room = record { sizes = fits.room.sizes; key = fits.room.key };
      stage = (
        record {
          opened = k.opened;
          began = k.began;
          frame = k.frame;
          begun = k.begun;
          job = c.hurry.ensures.kept.job ∙ k.job;
          fits = fits;
          going = none;
          counted = omega (arith, before, more);
        },
        λ free. c.hurry.ensures.turn free none,
      );
    }

pub returns-in-Some-clause-fits : goal.returns-in-Some-clause-fits
returns-in-Some-clause-fits g c u ps qs before_it =
    let z = g.S.Steps.sizes c.args.steps.now in
    let v = g.S.Steps.view c.args.steps.now in
    let w = g.S.Steps.view c.hurry.new.steps in
    let m = c.args.self.now in
    let t = c.hurry.new.self in
    let k = (fits_at m c.args.room.now (Trying c.in-Trying.attempt) c.in-Trying.is z u ps qs v before_it).0 in
    let fits = c.hurry.ensures.fits k.began k.fits in
    let before = k.counted in
    let more = c.hurry.ensures.counted in
    let ends = ends_as z k.began c.hurry.new.room w t c.in-Some.ending fits (sym c.ended.ensures.at ∙ c.in-Some.is) in
    c.conclude.ensures.fits z u k.opened k.began w ps qs fits.room k.frame k.begun
    (subst (λ (j : Job). EndFits z k.began j c.hurry.new.room c.in-Some.ending w) (c.hurry.ensures.kept.job ∙ k.job) ends)
    (omega (arith, before, more))

pub hurry-requires-clause-fits : goal.hurry-requires-clause-fits
hurry-requires-clause-fits g c =
    let q = c.requires.fits in
    let k = (fits_at c.args.self.now c.args.room.now (Trying c.in-Trying.attempt) c.in-Trying.is (g.S.Steps.sizes c.args.steps.now) q.0 q.1 q.2 (g.S.Steps.view c.args.steps.now) q.3).0 in
    (k.began, k.fits)

pub hurry-requires-clause-turn : goal.hurry-requires-clause-turn
hurry-requires-clause-turn g c =
    let q = c.requires.fits in
    (fits_at c.args.self.now c.args.room.now (Trying c.in-Trying.attempt) c.in-Trying.is (g.S.Steps.sizes c.args.steps.now) q.0 q.1 q.2 (g.S.Steps.view c.args.steps.now) q.3).1

pub hurry-requires-clause-short : goal.hurry-requires-clause-short
hurry-requires-clause-short g c = c.requires.fits.3.room.key.short

pub hurry-requires-clause-going : goal.hurry-requires-clause-going
hurry-requires-clause-going g c =
    let q = c.requires.fits in
    (fits_at c.args.self.now c.args.room.now (Trying c.in-Trying.attempt) c.in-Trying.is (g.S.Steps.sizes c.args.steps.now) q.0 q.1 q.2 (g.S.Steps.view c.args.steps.now) q.3).0.going

pub returns-in-None-clause-left : goal.returns-in-None-clause-left
returns-in-None-clause-left g c qs =
    let few = c.hurry.ensures.left in
    let same = steps_at c.args.self.now c.args.room.now (Trying c.in-Trying.attempt) c.in-Trying.is qs in
    omega (arith, few, same)

pub returns-in-Some-clause-left : goal.returns-in-Some-clause-left
returns-in-Some-clause-left g c qs =
    let few = c.hurry.ensures.left in
    let ended = ended_steps c.hurry.new.left c.hurry.new.self c.in-Some.ending (sym c.ended.ensures.at ∙ c.in-Some.is) in
    let less = c.conclude.ensures.left qs in
    let same = steps_at c.args.self.now c.args.room.now (Trying c.in-Trying.attempt) c.in-Trying.is qs in
    omega (arith, few, ended, less, same)

pub returns-in-Some-clause-apart : goal.returns-in-Some-clause-apart
returns-in-Some-clause-apart g c is =
    c.hurry.ensures.not_overlaps (sym c.ended.ensures.at ∙ (c.in-Some.is ∙ ap (λ (e : Ending). Some e) (c.conclude.ensures.overlaps is)))
