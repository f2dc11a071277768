use Rattle.std.proofs.Common.{◌≡◌, Some, sym, subst, refl}
use Rattle.art_look.proofs.SeekGoes.{goes_then, still_on}
use Rattle.art_look.specs.Seeks.{ended_at, outcome_at}
use Rattle.art_look.specs.declared.seeks.Seek.{Seek}
use Rattle.art_look.specs.declared.seeks.SeekStage.{SeekStage}
use Rattle.art_look.specs.declared.seeks.SeekStage.TheVariants.{Ended}
use Rattle.art_look.specs.declared.walks.Outcome.{Outcome}
use Rattle.art_look.proofs.seeks.Seek.hurry.Goals as goal

ended_as : (m : Seek) → m.stage ≡ Ended → (o : Outcome) × (ended_at m ≡ Some o)
ended_as m is = (m.outcome, subst (λ (s : SeekStage). outcome_at s m.outcome ≡ Some m.outcome) (sym is) refl)

pub pin-requires : goal.pin-requires
pin-requires g c =
    let q = c.requires.fits in
    record { fits = (c.args.key.now, q.0, c.args.path_buffer.now, q.1) }

pub walk_on-requires-clause-fits : goal.walk_on-requires-clause-fits
walk_on-requires-clause-fits g c =
    let s = c.args.steps.now in
    let p = c.pin.new.steps in
    let k = c.args.key.now in
    let t = c.args.path_buffer.now in
    let q = c.requires.fits in (
      q.0,
      still_on (g.S.Steps.sizes s) (g.S.Steps.sizes p) (g.met.S.Steps.only_sizes s p c.pin.ensures.only) k q.0 c.args.self.now t (g.S.Steps.view s) c.pin.new.self t (g.S.Steps.view p)
          (c.pin.ensures.goes k q.0 t) q.1,
    )

pub go_idle-requires-clause-fits : goal.go_idle-requires-clause-fits
go_idle-requires-clause-fits g c =
    let s = c.args.steps.now in
    let p = c.pin.new.steps in
    let k = c.args.key.now in
    let t = c.args.path_buffer.now in
    let q = c.requires.fits in (
      k,
      q.0,
      t,
      still_on (g.S.Steps.sizes s) (g.S.Steps.sizes p) (g.met.S.Steps.only_sizes s p c.pin.ensures.only) k q.0 c.args.self.now t (g.S.Steps.view s) c.pin.new.self t (g.S.Steps.view p)
          (c.pin.ensures.goes k q.0 t) q.1,
    )

pub returns-in-Walking-clause-goes : goal.returns-in-Walking-clause-goes
returns-in-Walking-clause-goes g c = λ hi.
    let s = c.args.steps.now in
    let p = c.pin.new.steps in
    let w = c.walk_on.new in
    let k = c.args.key.now in
    let t = c.args.path_buffer.now in
    goes_then (g.S.Steps.sizes s) (g.S.Steps.sizes p) (g.met.S.Steps.only_sizes s p c.pin.ensures.only) k hi c.args.self.now t (g.S.Steps.view s) c.pin.new.self t (g.S.Steps.view p)
    (c.pin.ensures.goes k hi t) w.self w.path_buffer (g.S.Steps.view w.steps) (c.walk_on.ensures.goes hi)

pub returns-in-Closing-clause-goes : goal.returns-in-Closing-clause-goes
returns-in-Closing-clause-goes g c = λ hi.
    let s = c.args.steps.now in
    let p = c.pin.new.steps in
    let w = c.go_idle.new in
    let k = c.args.key.now in
    let t = c.args.path_buffer.now in
    goes_then (g.S.Steps.sizes s) (g.S.Steps.sizes p) (g.met.S.Steps.only_sizes s p c.pin.ensures.only) k hi c.args.self.now t (g.S.Steps.view s) c.pin.new.self t (g.S.Steps.view p)
    (c.pin.ensures.goes k hi t) w.self t (g.S.Steps.view w.steps) (c.go_idle.ensures.goes k hi t)

pub returns-in-Ended-clause-goes : goal.returns-in-Ended-clause-goes
returns-in-Ended-clause-goes g c = λ hi. c.pin.ensures.goes c.args.key.now hi c.args.path_buffer.now

pub returns-in-Ended-clause-ended : goal.returns-in-Ended-clause-ended
returns-in-Ended-clause-ended g c = λ e. ended_as c.pin.new.self c.in-Ended.is
