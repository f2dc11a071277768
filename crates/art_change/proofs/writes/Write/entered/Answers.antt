-- The first attempt begins, or limbo was crowded.
use Rattle.std.proofs.Common.{subst, arith}
use Rattle.art_change.proofs.Frames.{opened_begun, opened_has}
use Rattle.art_change.proofs.writes.Write.entered.Goals as goal
use Rattle.art_epoch.specs.Enter.{HasEnded}

pub returns-in-Pinned-clause-fits : goal.returns-in-Pinned-clause-fits
returns-in-Pinned-clause-fits c z u v ps qs room untried ended =
    let m = c.args.self.now in
    let r = c.args.room.now in
    let frame = subst (HasEnded z u v ps qs) c.in-Pinned.is ended in
    let full = untried.full in
    c.go_on.ensures.fits z u v v ps qs room (record { frame = frame; later = untried.later })
    (opened_begun z u v ps qs frame untried.free m.restarts untried.fresh) (opened_has z u v ps qs frame untried.free r untried.has) (omega (arith, full))

pub returns-in-Crowded-clause-fits : goal.returns-in-Crowded-clause-fits
returns-in-Crowded-clause-fits c z u v ps qs room untried ended = record {
  room = room;
  stage = (subst (HasEnded z u v ps qs) c.in-Crowded.is ended, untried.free, untried.has, untried.fresh);
}
