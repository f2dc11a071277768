use Rattle.std.proofs.Common.{sym, ap, subst}
use Rattle.art_attempt.specs.declared.attempts.Room.{Room as RoomOf}
use Rattle.art_attempt.specs.Attempts.{IsRoom}
use Rattle.art_change.specs.Writes.{IsReady}
use Rattle.art_world_uses.proofs.traces.steps_of.Goals as goal
use Rattle.art_epoch.specs.Limbo.{places_of}
use Rattle.art_epoch.specs.declared.stocks.Stock.{Stock}
use Rattle.art_world.specs.Stepper.{sizes_of, view_of}

pub run-requires-clause-room : goal.run-requires-clause-room
run-requires-clause-room g c =
    subst (IsRoom (sizes_of c.args.stepper.now)) (sym c.set.ensures.row) (record { sizes = c.requires.sizes; key = c.set.ensures.key })

pub run-requires-clause-ready : goal.run-requires-clause-ready
run-requires-clause-ready g c =
    subst (λ (s : Stock). IsReady (sizes_of c.args.stepper.now) (view_of c.args.stepper.now) 0 (places_of c.args.limbo.now) s)
    (sym (ap (λ (r : RoomOf). r.stock) c.set.ensures.row)) c.requires.ready
