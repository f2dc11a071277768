-- A write that alone makes steps: no step of it fails, and its stamps stay current as long as they may be looked at.
use Rattle.std.proofs.Common.{◌≡◌, ◌+◌, ◌<◌, ◌≤◌, ℕ, true, List, length, Option, Some, None, sym, ap, ◌∙◌, arith, ⊎_elim}
use Rattle.art_change.specs.ArtAttempt.declared.attempts.Room.{Room}
use Rattle.art_change.specs.AsAsked.{WriteMakes}
use Rattle.art_change.specs.ArtAttempt.Asking.{Answers, IsAllowed, given}
use Rattle.art_change.proofs.FrameSteps.{IsFrame, exit_frame, enter_frame}
use Rattle.art_change.specs.Writes.{Fits, StageFits, asks_at, brings_at, left_at, steps_left}
use Rattle.art_change.specs.ArtAttempt.Attempts as attempts
use Rattle.art_change.specs.ArtAttempt.declared.attempts.Attempt.{Attempt}
use Rattle.art_change.specs.declared.writes.Stage.{Stage}
use Rattle.art_change.specs.declared.writes.Stage.TheVariants as stage
use Rattle.art_change.specs.declared.writes.Write.{Write}
use Rattle.art_epoch.proofs.Stocked.{at_most_five}
use Rattle.art_epoch.specs.declared.limbo.Place.{Place}
use Rattle.art_change.specs.ArtEpoch.Exit as exits
use Rattle.art_change.specs.ArtEpoch.declared.exit.Exit.{Exit}
use Rattle.art_change.specs.ArtEpoch.declared.exit.Exit.TheVariants.{Labelling, Giving, Ended}
use Rattle.art_change.specs.ArtEpoch.declared.stocks.Stock.{Stock}
use Rattle.art_step.specs.Acting as acting
use Rattle.art_step.specs.declared.actions.Action.{Action}
use Rattle.art_step.specs.declared.actions.Answer.{Answer}
use Rattle.art_runs.proofs.Calm.{IsMoment, calm_current, frame_calm}
use Rattle.art_runs.proofs.Apply.{step_calm, step_keeps}
use Rattle.art_runs.proofs.Phases.{attempt_look, attempt_release}
use Rattle.art_runs.proofs.Tries.{attempt_founded}
use Rattle.art_runs.proofs.Versions.{own_grows}
use Rattle.art_runs.specs.OthersIdle.{AreCurrent, HasFound}
use Rattle.art_step.specs.Shows.{Rest}
use Rattle.art_step.specs.Views.{Memory, Views}
use Rattle.art_step.specs.declared.deeds.Deed.{Deed}
use Rattle.art_step.specs.declared.views.Sizes.{Sizes}
use Rattle.art_step.specs.declared.views.View.{View}
use Rattle.art_world.specs.Lasting.{IsTimely}

-- ---- the frame

-- a close makes few steps
exit_few : (c : Exit) (s : Stock) → exits.steps_left c s ≤ 7
exit_few Labelling s = let few = at_most_five s in omega (arith, few)
exit_few Giving s = let few = at_most_five s in omega (arith, few)
exit_few Ended s = omega arith

-- ---- a step of a write, of a call that began with the view u and met no failure yet

module _ (z : Sizes) (p : ℕ) (m : Memory) (f : Views) (m' : Memory) (f' : Views) (u v w : View) (had : HasFound m u v) (timely : IsTimely u) (none : v.failures ≡ u.failures) where
  -- as long as nothing is told and many steps are left, stamps are current
  abbrev pub IsCurrentFor : Memory → View → ℕ → Type 0
  IsCurrentFor k x left = x.own ≡ u.own → 582 < left → AreCurrent k x

  -- it did not fail, and where nothing is told and many steps were left, stamps are current still
  record Goes (left : ℕ) : Type 0 where
    failures : w.failures ≡ v.failures
    keeps : v.own ≡ u.own → w.own ≡ v.own → 582 < left → AreCurrent m' w

  module _ (at : IsMoment z p m f m' f' v w) (r : Room) (a : Action) (answer : Answer) where
    frame_goes : (left : ℕ) → acting.Answers z None a answer v w → IsFrame a → (v.own ≡ u.own → 582 < left → AreCurrent m v) → Goes left
    frame_goes left row is current =
        let calm = frame_calm z p m f m' f' v w at None a answer is row in
        record {
          failures = calm.failures;
          keeps = λ own stays many. calm_current z p m f m' f' v w at calm stays (current own many);
        }

    module _ (d : Deed) (may : IsAllowed z d r.change v a) (row : Answers z d r.change a answer v w) where
      attempt_goes : (b : View) (t : Attempt) (left : ℕ) → u.steps ≤ b.steps → u.failures ≤ b.failures → b.own ≡ u.own → attempts.Fits z b t r v → (attempts.is_free t ≡ true → 0 < left)
          → attempts.asks t r ≡ Some a → (v.own ≡ u.own → 582 < attempts.steps_left left t + 7 → AreCurrent m v) → Goes (attempts.steps_left left t + 7)
      attempt_goes b t left late low begun fits some is current =
          let founded = attempt_founded z m u b v had timely late begun d r a may t fits.room.key.short t.stage fits.stage is in
          record {
            failures = step_calm z p m f m' f' v w at (given d r.change a) a answer founded
                (λ needs. (let e = attempt_look z b v r a left t fits.room.key.short t.stage fits.stage some is needs in let many = e.1 in current (e.0 ∙ begun) (omega (arith, many)))) may row;
            keeps = λ own stays many. step_keeps z p m f m' f' v w at (given d r.change a) a answer founded (current own many) stays
                (λ up. attempt_release z b v r a left t t.stage fits.stage is up (own ∙ sym begun) (omega (arith, none, low)) (omega (arith, many))) may row;
          }

    module _ (ps qs : List Place) (n : Write) where
      write_goes : (s : Stage) → acting.IsAllowed z (brings_at s r a) v a → acting.Answers z (brings_at s r a) a answer v w → StageFits z u ps s n r qs v
          → (v.own ≡ u.own → 582 < left_at s n.left r qs → AreCurrent m v) → asks_at s r qs ≡ Some a → Goes (left_at s n.left r qs)
      write_goes (stage.Enter e) may row fits current is = frame_goes (left_at (stage.Enter e) n.left r qs) row (enter_frame e qs a is) current
      write_goes (stage.Trying i) may row fits current is =
          let t = fits.0 in
          let first = t.frame.later in
          let later = t.begun.base.later.steps in
          let more = t.begun.base.later.failures in
          let opened = ap (λ (x : View). x.failures) t.frame.frame.is in
          let own : t.began.own ≡ u.own = ap (λ (o : Rest). o.own) t.begun.base.rest ∙ ap (λ (x : View). x.own) t.frame.frame.is in
          attempt_goes (attempts.deed_at i r) may row t.began i n.left (omega (arith, first, later)) (omega (arith, more, opened)) own t.fits fits.1 is current
      write_goes (stage.Exit x o) may row fits current is =
          let few = exit_few x r.stock in
          let g = frame_goes (exits.steps_left x r.stock) row (exit_frame x r.stock a is) (λ own many. absurd (omega (arith, many, few))) in
          record { failures = g.failures; keeps = g.keeps }
      write_goes (stage.Ended o) may row fits current is = absurd (cc)

  -- what was asked for was made
  pub write_makes : (n : Write) (r : Room) (ps qs : List Place) (a : Write) (s : Room) (rs : List Place) → IsMoment z p m f m' f' v w → Fits z u ps n r qs v → IsCurrentFor m v (steps_left n r qs) → WriteMakes z v n r qs w a s rs
      → (w.failures ≡ v.failures) × IsCurrentFor m' w (steps_left a s rs)
  write_makes n r ps qs a s rs at fits current makes =
      let g = write_goes at r makes.asked makes.answer ps qs n n.stage makes.allowed makes.row fits.stage current makes.asks in
      let less = makes.left in
      let low = had.events in (
        g.failures,
        λ own many. ⊎_elim
            (λ (stays : w.own ≡ v.own). g.keeps (sym stays ∙ own) stays (omega (arith, many, less)))
            (λ (longer : length w.own ≡ length v.own + 1). let same = ap (λ (o : List ℕ). length o) own in absurd (omega (arith, longer, low, same)))
            (own_grows z p v w m f m' f' at.step at.before at.after),
      )
