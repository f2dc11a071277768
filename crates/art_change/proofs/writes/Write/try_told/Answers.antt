use Rattle.std.proofs.Common.{◌≡◌, ◌∙◌, ℕ, ◌+◌, ◌-◌, ◌<◌, ◌≤◌, Some, inl, inr, ap, refl, sym, subst, arith, ⊎_elim}
use Rattle.art_change.proofs.Frames.{still_counted}
use Rattle.art_change.proofs.Endings.{ended_steps, ends_as}
use Rattle.art_change.proofs.Staged.{asked_at, fits_at, made_at, steps_at}
use Rattle.art_attempt.proofs.Counts.{attempt_steps}
use Rattle.art_attempt.specs.Attempts.{EndFits, steps_left}
use Rattle.art_attempt.specs.declared.attempts.Ending.{Ending}
use Rattle.art_attempt.specs.declared.attempts.Job.{Job}
use Rattle.art_attempt.specs.declared.attempts.Ending.TheVariants.{Restart}
use Rattle.art_change.proofs.writes.Write.try_told.Goals as goal
use Rattle.art_change.specs.Writes.{overlaps_by, restarts_by}
use Rattle.art_change.specs.declared.writes.Stage.{Stage as StageOf}
use Rattle.art_change.specs.declared.writes.Stage.TheVariants.{Trying}

pub told-requires : goal.told-requires
told-requires c =
    let m = c.args.self.now in
    let r = c.args.room.now in
    let q = c.requires.told in
    let s = Trying c.in-Trying.attempt in
    let at = c.in-Trying.is in
    let k = (fits_at m r s at q.0 q.1 q.4 q.5 q.2 q.7).0 in
    (q.0, k.began, q.2, q.3, q.6, k.fits, asked_at m r s at q.5 (Some q.6) q.8, made_at m r s at q.0 q.6 c.args.answer q.2 q.3 q.9)

pub returns-in-None-clause-fits : goal.returns-in-None-clause-fits
returns-in-None-clause-fits c z u v w ps qs asked fits is row =
    let m = c.args.self.now in
    let r = c.args.room.now in
    let i = c.in-Trying.attempt in
    let at = c.in-Trying.is in
    let k = (fits_at m r (Trying i) at z u ps qs v fits).0 in
    let asks = asked_at m r (Trying i) at qs (Some asked) is in
    let made = made_at m r (Trying i) at z asked c.args.answer v w row in
    let next = c.told.ensures.fits z k.began v w asked k.fits asks made in
    let steps = attempt_steps z k.began i r v w asked c.args.answer made k.fits asks in
    let left = c.saturating_sub-self.ensures ∙ ap (λ (n : ℕ). m.left - n) c.steps.ensures in
    let counted = still_counted (k.opened.steps + m.turns) v.steps w.steps m.left _ k.counted (omega (arith, steps)) in
    c.turn.ensures.fits z u w ps qs c.told.new.self refl next.room (record {
      opened = k.opened;
      began = k.began;
      frame = k.frame;
      begun = k.begun;
      job = c.told.ensures.kept.job ∙ k.job;
      fits = next;
      going = sym c.ended.ensures.at ∙ c.in-None.is;
      counted = subst (λ (n : ℕ). k.opened.steps + m.turns ≤ w.steps + n) (sym left) counted;
    })

pub returns-in-Some-clause-fits : goal.returns-in-Some-clause-fits
returns-in-Some-clause-fits c z u v w ps qs asked fits is row =
    let m = c.args.self.now in
    let r = c.args.room.now in
    let i = c.in-Trying.attempt in
    let at = c.in-Trying.is in
    let k = (fits_at m r (Trying i) at z u ps qs v fits).0 in
    let asks = asked_at m r (Trying i) at qs (Some asked) is in
    let made = made_at m r (Trying i) at z asked c.args.answer v w row in
    let t = c.told.new.self in
    let next = c.told.ensures.fits z k.began v w asked k.fits asks made in
    let steps = attempt_steps z k.began i r v w asked c.args.answer made k.fits asks in
    let left = c.saturating_sub-self.ensures ∙ ap (λ (n : ℕ). m.left - n) c.steps.ensures in
    let counted = still_counted (k.opened.steps + m.turns) v.steps w.steps m.left _ k.counted (omega (arith, steps)) in
    let ends = ends_as z k.began c.told.new.room w t c.in-Some.ending next (sym c.ended.ensures.at ∙ c.in-Some.is) in
    c.conclude.ensures.fits z u k.opened k.began w ps qs next.room k.frame k.begun
    (subst (λ (j : Job). EndFits z k.began j c.told.new.room c.in-Some.ending w) (c.told.ensures.kept.job ∙ k.job) ends)
    (subst (λ (n : ℕ). k.opened.steps + m.turns ≤ w.steps + n) (sym left) counted)

pub returns-in-None-clause-left : goal.returns-in-None-clause-left
returns-in-None-clause-left c qs =
    let m = c.args.self.now in
    let r = c.args.room.now in
    let i = c.in-Trying.attempt in
    let q = c.requires.told in
    let turn = (fits_at m r (Trying i) c.in-Trying.is q.0 q.1 q.4 q.5 q.2 q.7).1 in
    let left = c.saturating_sub-self.ensures ∙ ap (λ (n : ℕ). m.left - n) c.steps.ensures in
    let less = subst (λ (n : ℕ). steps_left n c.told.new.self < steps_left m.left i) (sym left) (c.told.ensures.left m.left turn) in
    let few = c.turn.ensures.left qs in
    let same = steps_at m r (Trying i) c.in-Trying.is qs in
    omega (arith, less, few, same)

pub returns-in-Some-clause-left : goal.returns-in-Some-clause-left
returns-in-Some-clause-left c qs =
    let m = c.args.self.now in
    let r = c.args.room.now in
    let i = c.in-Trying.attempt in
    let t = c.told.new.self in
    let q = c.requires.told in
    let turn = (fits_at m r (Trying i) c.in-Trying.is q.0 q.1 q.4 q.5 q.2 q.7).1 in
    let left = c.saturating_sub-self.ensures ∙ ap (λ (n : ℕ). m.left - n) c.steps.ensures in
    let less = subst (λ (n : ℕ). steps_left n t < steps_left m.left i) (sym left) (c.told.ensures.left m.left turn) in
    let ended = ended_steps c.saturating_sub-self.result t c.in-Some.ending (sym c.ended.ensures.at ∙ c.in-Some.is) in
    let few = c.conclude.ensures.left qs in
    let same = steps_at m r (Trying i) c.in-Trying.is qs in
    omega (arith, less, few, ended, same)

pub returns-in-None-clause-restarts : goal.returns-in-None-clause-restarts
returns-in-None-clause-restarts c = inl c.turn.ensures.restarts

pub returns-in-Some-clause-restarts : goal.returns-in-Some-clause-restarts
returns-in-Some-clause-restarts c = ⊎_elim
    (λ (same : c.conclude.new.self.restarts ≡ c.args.self.now.restarts). inl same)
    (λ (anew : c.in-Some.ending ≡ Restart). inr (subst (λ (s : StageOf). restarts_by s c.args.answer) (sym c.in-Trying.is)
    (c.told.ensures.anew (sym c.ended.ensures.at ∙ (c.in-Some.is ∙ ap (λ (e : Ending). Some e) anew)))))
    c.conclude.ensures.restarts

pub returns-in-None-clause-overlaps : goal.returns-in-None-clause-overlaps
returns-in-None-clause-overlaps c is = absurd (c.turn.ensures.apart is)

pub returns-in-Some-clause-overlaps : goal.returns-in-Some-clause-overlaps
returns-in-Some-clause-overlaps c is = inr (subst (λ (s : StageOf). overlaps_by s c.args.answer) (sym c.in-Trying.is)
    (c.told.ensures.overlaps (sym c.ended.ensures.at ∙ (c.in-Some.is ∙ ap (λ (e : Ending). Some e) (c.conclude.ensures.overlaps is)))))
