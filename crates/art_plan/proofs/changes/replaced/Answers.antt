use Rattle.std.proofs.Common.{subst}
use Rattle.art_plan.specs.Puts.{HasChild, IsTaken}
use Rattle.art_plan.proofs.changes.replaced.Goals as goal

pub plan_set-requires-clause-there : goal.plan_set-requires-clause-there
plan_set-requires-clause-there c =
    let taken : HasChild c.in-Slot.body.now c.in-Slot.byte = subst IsTaken c.in-Slot.is c.requires.taken in
    (taken.child, taken.there)
