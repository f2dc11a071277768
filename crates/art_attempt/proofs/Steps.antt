-- No step of an attempt goes back in time, nor does a failure.
use Rattle.std.proofs.Common.{◌≡◌, ◌+◌, ◌<◌, ◌≤◌, Bool, true, false, subst, arith}
use Rattle.art_attempt.specs.Trying.{IsLater}
use Rattle.art_step.proofs.Counting.{Counted, look_counts}
use Rattle.art_step.specs.Acting.{Answers, IsLook, goes_on, telling}
use Rattle.art_step.specs.declared.actions.Action.{Action}
use Rattle.art_step.specs.declared.actions.Answer.{Answer}
use Rattle.art_step.specs.declared.deeds.Deed.{Deed}
use Rattle.art_step.specs.declared.views.Sizes.{Sizes}
use Rattle.art_step.specs.declared.views.View.{View}

pub counted_later : (v w : View) (on : Bool) → Counted v w on → IsLater v w
counted_later v w true one = let step = one.steps in let same = one.failures in record { steps = omega (arith, step); failures = omega (arith, same) }
counted_later v w false one = let step = one.steps in let more = one.failures in record { steps = omega (arith, step); failures = omega (arith, more) }

pub cell_later : (z : Sizes) (d : Deed) (a : Action) (r : Answer) (v w : View) → IsLook a → Answers z (telling d) a r v w → IsLater v w
cell_later z d a r v w is row = counted_later v w (goes_on r) (look_counts z d a r v w is row)

pub cell_step : (z : Sizes) (d : Deed) (a : Action) (r : Answer) (v w : View) → IsLook a → Answers z (telling d) a r v w → w.steps ≤ v.steps + 1
cell_step z d a r v w is row = let one = (look_counts z d a r v w is row).steps in omega (arith, one)

-- one that does not go on is one failure more
pub cell_fails : (z : Sizes) (d : Deed) (a : Action) (r : Answer) (v w : View) → IsLook a → Answers z (telling d) a r v w → goes_on r ≡ false → v.failures < w.failures
cell_fails z d a r v w is row off =
    let one : Counted v w false = subst (Counted v w) off (look_counts z d a r v w is row) in
    let more = one.failures in
    omega (arith, more)
