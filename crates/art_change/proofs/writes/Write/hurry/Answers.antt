-- The opening, an attempt, and the close.
use Rattle.std.proofs.Common.{◌∙◌, ℕ, subst, sym, arith}
use Rattle.arrayvec.specs.ArrayVec.{ArrayVec}
use Rattle.art_change.proofs.SameWrite.{same_then}
use Rattle.art_change.specs.Writes.{Fits}
use Rattle.art_epoch.specs.Limbo.{places_of}
use Rattle.art_step.specs.declared.views.Sizes.{Sizes}
use Rattle.art_change.proofs.writes.Write.hurry.Goals as goal

pub attempt_on-requires-clause-admitted : goal.attempt_on-requires-clause-admitted
attempt_on-requires-clause-admitted g c =
    let s = c.args.steps.now in
    let a = c.enter_all.new in
    subst (λ (k : ArrayVec ℕ). g.S.Steps.admits a.steps k.items) (sym c.enter_all.ensures.same.key.key)
    ((g.met.S.Steps.only_admits s a.steps c.args.room.now.row.key.items c.enter_all.ensures.only).1 c.requires.admitted)

pub attempt_on-requires-clause-fits : goal.attempt_on-requires-clause-fits
attempt_on-requires-clause-fits g c =
    let s = c.args.steps.now in
    let a = c.enter_all.new in
    let q = c.requires.fits in
    let same = g.met.S.Steps.only_sizes s a.steps c.enter_all.ensures.only in
    (q.0, q.1, places_of a.limbo, subst (λ (z : Sizes). Fits z q.0 q.1 a.self a.room (places_of a.limbo) (g.S.Steps.view a.steps)) (sym same) (c.enter_all.ensures.fits q.0 q.1 q.2))

pub exit_all-requires : goal.exit_all-requires
exit_all-requires g c =
    let s = c.args.steps.now in
    let a = c.enter_all.new in
    let b = c.attempt_on.new in
    let q = c.requires.fits in
    let same = g.met.S.Steps.only_sizes s a.steps c.enter_all.ensures.only in
    let more = g.met.S.Steps.only_sizes a.steps b.steps c.attempt_on.ensures.only in
    let opened = subst (λ (z : Sizes). Fits z q.0 q.1 a.self a.room (places_of a.limbo) (g.S.Steps.view a.steps)) (sym same) (c.enter_all.ensures.fits q.0 q.1 q.2) in
    let tried = c.attempt_on.ensures.fits q.0 q.1 (places_of a.limbo) opened in
    record { fits = (q.0, q.1, subst (λ (z : Sizes). Fits z q.0 q.1 b.self b.room (places_of a.limbo) (g.S.Steps.view b.steps)) (sym more) tried) }

pub returns-clause-only : goal.returns-clause-only
returns-clause-only g c =
    let then = g.met.S.Steps.only_then in
    let s = c.args.steps.now in
    then s c.attempt_on.new.steps c.exit_all.new.steps
    (then s c.enter_all.new.steps c.attempt_on.new.steps c.enter_all.ensures.only c.attempt_on.ensures.only) c.exit_all.ensures.only

pub returns-clause-same : goal.returns-clause-same
returns-clause-same g c =
    let m = c.args.self.now in
    let r = c.args.room.now in
    let a = c.enter_all.new in
    let b = c.attempt_on.new in
    let n = c.exit_all.new in
    same_then m r b.self b.room n.self n.room (same_then m r a.self a.room b.self b.room c.enter_all.ensures.same c.attempt_on.ensures.same) c.exit_all.ensures.same

pub returns-clause-left : goal.returns-clause-left
returns-clause-left g c =
    let first = c.enter_all.ensures.left in
    let then = c.attempt_on.ensures.left (places_of c.enter_all.new.limbo) in
    let last = c.exit_all.ensures.left in
    omega (arith, first, then, last)

pub returns-clause-fits : goal.returns-clause-fits
returns-clause-fits g c u ps fits =
    let s = c.args.steps.now in
    let a = c.enter_all.new in
    let b = c.attempt_on.new in
    let n = c.exit_all.new in
    let same = g.met.S.Steps.only_sizes s a.steps c.enter_all.ensures.only in
    let more = g.met.S.Steps.only_sizes a.steps b.steps c.attempt_on.ensures.only in
    let opened = c.enter_all.ensures.fits u ps fits in
    let tried = c.attempt_on.ensures.fits u ps (places_of a.limbo) (subst (λ (z : Sizes). Fits z u ps a.self a.room (places_of a.limbo) (g.S.Steps.view a.steps)) (sym same) opened) in
    let closed = c.exit_all.ensures.fits u ps (subst (λ (z : Sizes). Fits z u ps b.self b.room (places_of a.limbo) (g.S.Steps.view b.steps)) (sym more) tried) in
    subst (λ (z : Sizes). Fits z u ps n.self n.room (places_of n.limbo) (g.S.Steps.view n.steps)) (more ∙ same) closed

pub returns-clause-framed : goal.returns-clause-framed
returns-clause-framed g c = c.exit_all.ensures.framed (c.attempt_on.ensures.entered c.enter_all.ensures.entered)
