use Rattle.std.proofs.Common.{◌∙◌, ap, sym, subst}
use Rattle.std.specs.Prelude.{IfSome}
use Rattle.art_change.proofs.FrameSteps.{exit_going}
use Rattle.art_change.proofs.Staged.{fits_at}
use Rattle.art_change.proofs.writes.Write.next.Goals as goal
use Rattle.art_change.specs.Writes.{asks_at, brings_at, gone_by}
use Rattle.art_change.specs.declared.writes.Stage.{Stage as StageOf}
use Rattle.art_change.specs.declared.writes.Stage.TheVariants as stages
use Rattle.art_epoch.specs.Limbo.{places_of}
use Rattle.art_step.specs.Acting.{IsAllowed}
use Rattle.art_step.specs.Tokens.{links_of}

pub returns-in-Enter-clause-asks : goal.returns-in-Enter-clause-asks
returns-in-Enter-clause-asks c = c.next.ensures.asks ∙ ap (λ (s : StageOf). asks_at s c.args.room.now (places_of c.args.limbo.now)) (sym c.in-Enter.is)

pub returns-in-Trying-clause-asks : goal.returns-in-Trying-clause-asks
returns-in-Trying-clause-asks c = c.next-in-Trying.ensures.asks ∙ ap (λ (s : StageOf). asks_at s c.args.room.now (places_of c.args.limbo.now)) (sym c.in-Trying.is)

pub returns-in-Exit-clause-asks : goal.returns-in-Exit-clause-asks
returns-in-Exit-clause-asks c = c.next-in-Exit.ensures.asks ∙ ap (λ (s : StageOf). asks_at s c.args.room.now (places_of c.args.limbo.now)) (sym c.in-Exit.is)

pub returns-in-Enter-clause-allowed : goal.returns-in-Enter-clause-allowed
returns-in-Enter-clause-allowed c z u v ps fits =
    let m = c.args.self.now in
    let r = c.args.room.now in
    let qs = places_of c.args.limbo.now in
    subst (λ (s : StageOf). IfSome c.next.result (λ a. IsAllowed z (brings_at s r a) v a)) (sym c.in-Enter.is)
    (c.next.ensures.allowed z u v ps (fits_at m r (stages.Enter c.in-Enter.enter) c.in-Enter.is z u ps qs v fits).enter)

pub returns-in-Trying-clause-allowed : goal.returns-in-Trying-clause-allowed
returns-in-Trying-clause-allowed c z u v ps fits =
    let m = c.args.self.now in
    let r = c.args.room.now in
    let qs = places_of c.args.limbo.now in
    let k = (fits_at m r (stages.Trying c.in-Trying.attempt) c.in-Trying.is z u ps qs v fits).0 in
    subst (λ (s : StageOf). IfSome c.next-in-Trying.result (λ a. IsAllowed z (brings_at s r a) v a)) (sym c.in-Trying.is)
    (c.next-in-Trying.ensures.allowed z k.began v k.fits)

pub returns-in-Exit-clause-allowed : goal.returns-in-Exit-clause-allowed
returns-in-Exit-clause-allowed c z u v ps fits =
    let m = c.args.self.now in
    let r = c.args.room.now in
    let qs = places_of c.args.limbo.now in
    let o = c.in-Exit.outcome in
    let k = (fits_at m r (stages.Exit c.in-Exit.exit o) c.in-Exit.is z u ps qs v fits).0 in
    subst (λ (s : StageOf). IfSome c.next-in-Exit.result (λ a. IsAllowed z (brings_at s r a) v a)) (sym c.in-Exit.is)
    (c.next-in-Exit.ensures.allowed z r.row.key.items r.row.value k.ended v k.waiting qs (links_of (gone_by o r.change)) k.fits)

pub returns-in-Enter-clause-going : goal.returns-in-Enter-clause-going
returns-in-Enter-clause-going c z u v ps fits going =
    let o = fits_at c.args.self.now c.args.room.now (stages.Enter c.in-Enter.enter) c.in-Enter.is z u ps (places_of c.args.limbo.now) v fits in
    c.next.ensures.going z u v ps o.enter o.going

pub returns-in-Trying-clause-going : goal.returns-in-Trying-clause-going
returns-in-Trying-clause-going c z u v ps fits going =
    let k = (fits_at c.args.self.now c.args.room.now (stages.Trying c.in-Trying.attempt) c.in-Trying.is z u ps (places_of c.args.limbo.now) v fits).0 in
    c.next-in-Trying.ensures.going z k.began v k.fits k.going

pub returns-in-Exit-clause-going : goal.returns-in-Exit-clause-going
returns-in-Exit-clause-going c z u v ps fits going =
    let r = c.args.room.now in
    let on = fits_at c.args.self.now r (stages.Exit c.in-Exit.exit c.in-Exit.outcome) c.in-Exit.is z u ps (places_of c.args.limbo.now) v fits in
    let asked = exit_going c.in-Exit.exit r.stock on.1 in
    (asked.0, c.next-in-Exit.ensures.asks ∙ asked.1)

pub next-requires-in-Trying : goal.next-requires-in-Trying
next-requires-in-Trying c = record { short = c.requires.4.room.key.short }
