-- A site that is free has room, so that the plan is made.
use Rattle.std.proofs.Common.{◌≡◌, Bool, true, false, refl, subst}
use Rattle.art_plan.specs.Puts.{HasRoom, IsFree}
use Rattle.art_plan.specs.declared.changes.Site.{Site}
use Rattle.art_plan.proofs.changes.added.Goals as goal

is_true : (b : Bool) → (b ≡ false → ⊥) → b ≡ true
is_true true not_false = refl
is_true false not_false = absurd (not_false refl)

pub returns-in-Slot-clause-plan : goal.returns-in-Slot-clause-plan
returns-in-Slot-clause-plan c =
    let room : HasRoom c.in-Slot.body.now c.in-Slot.byte = subst (λ (s : Site). IsFree s) c.in-Slot.is c.requires.free in
    rw c.in-Slot.is (c.plan_add.ensures.plan (is_true c.plan_add.result (λ full. room.room (c.plan_add.ensures.full.0 full))))
