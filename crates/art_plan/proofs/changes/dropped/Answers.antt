use Rattle.std.proofs.Common.{subst}
use Rattle.art_plan.specs.Puts.{HasChild, IsTaken}
use Rattle.art_plan.proofs.changes.dropped.Goals as goal

pub plan_drop-requires-clause-there : goal.plan_drop-requires-clause-there
plan_drop-requires-clause-there c =
    let taken : HasChild c.in-Slot.body.now c.in-Slot.byte = subst IsTaken c.in-Slot.is c.requires in
    (taken.child, taken.there)
