-- The epoch that was noted is below its top.
use Rattle.std.proofs.Common.{arith}
use Rattle.art_epoch.proofs.Pinned.{may_raise}
use Rattle.art_epoch.proofs.enter.advance.Goals as goal

pub epoch_add-requires : goal.epoch_add-requires
epoch_add-requires g c =
    let s = c.args.steps.now in
    let t = c.epoch-epoch.new.self in
    record { may = may_raise (g.S.Steps.sizes s) (g.S.Steps.view s) (g.S.Steps.view t) c.epoch-epoch.result c.epoch-epoch.ensures.row (omega (arith, c.if-epoch-lt-TOP.true)) }
