-- A step of the walk is counted.
use Rattle.std.proofs.Common.{◌≡◌, ℕ, ◌<◌, Bool, List, sym, subst, arith}
use Rattle.art_step.proofs.Counting.{look_counts}
use Rattle.art_find.proofs.Driven.{restarts_few}
use Rattle.art_step.specs.Acting.{Answers, IsLook, goes_on, telling}
use Rattle.art_find.specs.Driven.{restarts_after}
use Rattle.art_step.specs.declared.actions.Answer.{Answer}
use Rattle.art_step.specs.declared.actions.Action.{Action}
use Rattle.art_key.specs.declared.bounds.Bound.{Bound as KeyBound}
use Rattle.art_look.specs.declared.path_buffers.PathBuffer.{PathBuffer}
use Rattle.art_look.specs.Seeks.{Fits as SeekFits, GoesOn, IsWalking, StageFits, heard}
use Rattle.art_look.specs.Walks.{Fits}
use Rattle.art_look.specs.declared.seeks.Seek.{Seek}
use Rattle.art_look.specs.declared.seeks.SeekStage.{SeekStage}
use Rattle.art_look.specs.declared.seeks.SeekStage.TheVariants.{Walking}
use Rattle.art_look.specs.declared.walks.Walk.{Walk}
use Rattle.art_step.specs.declared.deeds.Deed.{Deed}
use Rattle.art_step.specs.declared.views.Sizes.{Sizes}
use Rattle.art_step.specs.declared.views.View.{View}

-- it is at its walk
pub goes_at : (z : Sizes) (k : List ℕ) (hi : KeyBound) (u : View) (m : Seek) (t : PathBuffer) (v : View) → m.stage ≡ Walking → SeekFits z k hi u m t v → GoesOn z k hi u m t v
goes_at z k hi u m t v at fits = subst (λ (s : SeekStage). StageFits z k hi u s m t v) at fits

-- the seek m after a step of its walk, which went on or did not
pub walks_on : (z : Sizes) (k : List ℕ) (hi : KeyBound) (u : View) (m : Seek) (t : PathBuffer) (v : View) (d : Deed) (asked : Action) (answer : Answer) (w : View) → 0 < m.left → IsLook asked → Answers z (telling d) asked answer v w
    → (b : IsWalking z k hi u m t v) (next : Walk) (t' : PathBuffer) → Fits z k hi b.opened next t' (restarts_after m.restarts (goes_on answer)) w
    → (on : Bool) → on ≡ goes_on answer → IsWalking z k hi u (heard on (record m { walk = next })) t' w
walks_on z k hi u m t v d asked answer w turn look row b next t' fits on same =
    let one = (look_counts z d asked answer v w look row).steps in
    let counted = b.counted in
    let within = b.within in
    let few = b.few in
    let more = restarts_few m.restarts on in
    record {
      opened = b.opened;
      may = b.may;
      pins_to = b.pins_to;
      walk = subst (λ (e : Bool). Fits z k hi b.opened next t' (restarts_after m.restarts e) w) (sym same) fits;
      counted = omega (arith, one, counted, turn);
      within = omega (arith, within);
      few = omega (arith, few, more, turn);
    }
