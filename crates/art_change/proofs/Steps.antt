-- Each step of a write is as many as its answer says; those of its frame bring nothing about.
use Rattle.std.proofs.Common.{◌≡◌, ◌+◌, ◌≤◌, List, Some, None, arith}
use Rattle.art_attempt.proofs.Counts.{attempt_steps}
use Rattle.art_attempt.specs.declared.attempts.Room.{Room}
use Rattle.art_change.proofs.FrameSteps.{IsFrame, exit_frame, frame_one, enter_frame}
use Rattle.art_change.specs.Writes.{Answers, Fits, StageFits, asks, asks_at, brings_at}
use Rattle.art_change.specs.declared.writes.Stage.{Stage}
use Rattle.art_change.specs.declared.writes.Stage.TheVariants as stage
use Rattle.art_change.specs.declared.writes.Write.{Write}
use Rattle.art_epoch.specs.declared.limbo.Place.{Place}
use Rattle.art_step.proofs.Counting.{steps_few}
use Rattle.art_step.specs.Acting as acting
use Rattle.art_step.specs.declared.actions.Action.{Action}
use Rattle.art_step.specs.declared.actions.Answer.{Answer}
use Rattle.art_step.specs.declared.views.Sizes.{Sizes}
use Rattle.art_step.specs.declared.views.View.{View}

module _ (z : Sizes) (u : View) (ps : List Place) (m : Write) (r : Room) (qs : List Place) (v w : View) (a : Action) (answer : Answer) where
  frame_few : IsFrame a → acting.Answers z None a answer v w → w.steps ≤ v.steps + 1
  frame_few is row = let one = frame_one z a answer v w is row in omega (arith, one)

  few_at : (s : Stage) → acting.Answers z (brings_at s r a) a answer v w → StageFits z u ps s m r qs v → asks_at s r qs ≡ Some a → w.steps ≤ v.steps + 1
  few_at (stage.Enter e) row fits is = frame_few (enter_frame e qs a is) row
  few_at (stage.Trying t) row fits is =
      let made = attempt_steps z fits.0.began t r v w a answer row fits.0.fits is in
      let few = steps_few answer in
      omega (arith, made, few)
  few_at (stage.Exit x o) row fits is = frame_few (exit_frame x r.stock a is) row
  few_at (stage.Ended o) row fits is = absurd (cc)

  pub write_few : Answers z m r a answer v w → Fits z u ps m r qs v → asks m r qs ≡ Some a → w.steps ≤ v.steps + 1
  write_few row fits is = few_at m.stage row fits.stage is
