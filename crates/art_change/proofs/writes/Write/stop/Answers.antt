use Rattle.std.proofs.Common.{◌∙◌, refl, sym, arith}
use Rattle.art_change.proofs.GivenUp.{held_in_try}
use Rattle.art_change.proofs.Staged.{fits_at}
use Rattle.art_change.proofs.writes.Write.stop.Goals as goal
use Rattle.art_change.specs.declared.writes.Stage.TheVariants.{Trying}

pub returns-clause-fits : goal.returns-clause-fits
returns-clause-fits c z u v ps qs fits =
    let m = c.args.self.now in
    let r = c.args.room.now in
    let i = c.in-Trying.attempt in
    let t = (fits_at m r (Trying i) c.in-Trying.is z u ps qs v fits).0 in
    let so = c.is_free.ensures.free c.if-not-is_free.false t.going z t.began v r t.fits in
    let counted = t.counted in
    let first = t.begun.base.later.steps in
    let last = so.still.later.steps in
    let used = c.saturating_sub-self.ensures in
    c.begin_exit.ensures.fits z u t.opened t.began v ps qs fits.room t.frame t.begun (so, refl) (omega (arith, counted, first, last, used))

pub returns-clause-apart : goal.returns-clause-apart
returns-clause-apart c is = let no = sym c.begin_exit.ensures.outcome ∙ is in cc

pub returns-then-not-is_free-clause-why : goal.returns-then-not-is_free-clause-why
returns-then-not-is_free-clause-why c no_stop z u v ps qs fits =
    let m = c.args.self.now in
    let r = c.args.room.now in
    let i = c.in-Trying.attempt in
    held_in_try z u ps m r qs v i (fits_at m r (Trying i) c.in-Trying.is z u ps qs v fits) (sym c.is_free.ensures.at ∙ c.if-not-is_free.true)
