-- Each step that it asks for may be made.
use Rattle.std.proofs.Common.{ℕ, ◌<◌, List, get_or, length, subst, sym}
use Rattle.art_epoch.specs.Limbo.{no_place, open_index, places_of}
use Rattle.art_epoch.specs.declared.limbo.Place.{Place}
use Rattle.art_step.specs.Steps.Give.{MayFree}
use Rattle.art_epoch.specs.Reclaiming.{StageFits}
use Rattle.art_epoch.specs.declared.limbo.ReclaimStage.{ReclaimStage}
use Rattle.art_epoch.proofs.Reclaimed.{may_free, may_raise, may_watch}
use Rattle.art_epoch.proofs.limbo.Reclaiming.next.Goals as goal

pub returns-in-Raising-clause-allowed : goal.returns-in-Raising-clause-allowed
returns-in-Raising-clause-allowed c = λ z v0 v ps fits.
    let qs = places_of c.args.limbo.now in
    may_raise z v0 ps qs c.args.self.now v fits (subst (λ (s : ReclaimStage). StageFits z v0 ps s qs v) c.in-Raising.is fits.stage)

pub returns-in-Watching-clause-allowed : goal.returns-in-Watching-clause-allowed
returns-in-Watching-clause-allowed c = λ z v0 v ps fits.
    let qs = places_of c.args.limbo.now in
    may_watch z v0 ps qs c.args.self.now v fits c.in-Watching.pass _ (subst (λ (s : ReclaimStage). StageFits z v0 ps s qs v) c.in-Watching.is fits.stage)

pub returns-in_ok-index-in-Freeing-clause-allowed : goal.returns-in_ok-index-in-Freeing-clause-allowed
returns-in_ok-index-in-Freeing-clause-allowed c = λ z v0 v ps fits.
    let qs = places_of c.args.limbo.now in
    let at = c.in_ok-index-in-Freeing.ensures.some in
    let stage = subst (λ (s : ReclaimStage). StageFits z v0 ps s qs v) c.in-Freeing.is fits.stage in
    let low : open_index c.in-Freeing.least qs < length qs = subst (λ (i : ℕ). i < length qs) at.0 at.1 in
    let free = may_free z v0 ps qs c.args.self.now v fits c.in-Freeing.least _ low stage in
    subst (λ (rs : List Place). MayFree z v (get_or rs c.in_ok-index-in-Freeing.index no_place).link) (sym c.places.ensures)
    (subst (λ (i : ℕ). MayFree z v (get_or qs i no_place).link) (sym at.0) free)
