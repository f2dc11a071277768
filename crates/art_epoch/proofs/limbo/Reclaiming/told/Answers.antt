-- The machine goes on as the word says.
use Rattle.std.proofs.Common.{List, sym, subst, ◌<◌}
use Rattle.art_epoch.specs.Limbo.{places_of}
use Rattle.art_epoch.specs.Reclaiming.{Fits, stage_after, steps_left}
use Rattle.art_epoch.specs.declared.limbo.Place.{Place}
use Rattle.art_epoch.specs.declared.limbo.ReclaimStage.{ReclaimStage}
use Rattle.art_epoch.proofs.Reclaimed.{may_go, reclaim_hears, reclaim_stage, reclaim_told, steps_fewer}
use Rattle.art_step.specs.Acting.{word_in}
use Rattle.art_epoch.proofs.limbo.Reclaiming.told.Goals as goal

pub let_go-requires : goal.let_go-requires
let_go-requires c = let k = c.requires in may_go k.0 k.1 k.4 (places_of c.args.limbo.now) c.args.self.now k.2 k.6 k.5 k.7

pub after-self-requires-clause-stage : goal.after-self-requires-clause-stage
after-self-requires-clause-stage c = let k = c.requires in reclaim_stage k.0 k.1 k.4 (places_of c.args.limbo.now) c.args.self.now k.2 k.6 k.5 k.7

pub returns-clause-fits : goal.returns-clause-fits
returns-clause-fits c = λ z v0 v w ps a fits asked row.
    let m = c.args.self.now in
    let qs = places_of c.args.limbo.now in
    subst (λ (s : ReclaimStage). Fits z v0 ps (record { own = m.own; passes = m.passes; stage = s }) (places_of c.let_go.new.limbo) w) (sym c.after-self.ensures)
    (subst (λ (rs : List Place). Fits z v0 ps (record { own = m.own; passes = m.passes; stage = stage_after m.own m.passes (word_in c.args.answer) m.stage }) rs w) (sym c.let_go.ensures) (reclaim_told z v0 ps qs m v fits w a c.args.answer asked row))

pub returns-clause-left : goal.returns-clause-left
returns-clause-left c =
    let k = c.requires in
    let m = c.args.self.now in
    let qs = places_of c.args.limbo.now in
    subst (λ (s : ReclaimStage). steps_left m.passes s (places_of c.let_go.new.limbo) < steps_left m.passes m.stage qs) (sym c.after-self.ensures)
    (subst (λ (rs : List Place). steps_left m.passes (stage_after m.own m.passes (word_in c.args.answer) m.stage) rs < steps_left m.passes m.stage qs) (sym c.let_go.ensures) (steps_fewer k.0 k.1 k.4 qs m k.2 k.6 k.5 (word_in c.args.answer) k.7))

pub after-self-requires-clause-word : goal.after-self-requires-clause-word
after-self-requires-clause-word c = let k = c.requires in reclaim_hears k.0 k.1 k.4 (places_of c.args.limbo.now) c.args.self.now k.2 k.6 k.3 k.5 c.args.answer k.7 k.8
