-- A seek that alone makes steps: no step of it fails, and its stamps stay current until it has told its event.
use Rattle.std.proofs.Common.{◌≡◌, ◌+◌, ℕ, Bool, true, false, List, length, Option, Some, None, IfSome, if◌then◌else◌, [], refl, sym, ap, ◌∙◌, subst, arith, ⊎_elim}
use Rattle.std.proofs.lemmas.Bool.{cond_both}
use Rattle.std.proofs.lemmas.Option.{same_Some}
use Rattle.std.specs.Prelude.{◌==◌}
use Rattle.art_change.specs.AsAsked.{SeekMakes}
use Rattle.art_epoch.specs.Pins.{Pins}
use Rattle.art_change.proofs.ArtFind.Stages.{still_reading}
use Rattle.art_change.specs.ArtFind.Descents as descents
use Rattle.art_change.specs.ArtFind.Descents.{IsReading}
use Rattle.art_change.specs.ArtFind.Driven.{get_done}
use Rattle.art_key.specs.declared.bounds.Bound.{Bound}
use Rattle.art_change.proofs.ArtLook.Stages as look_stages
use Rattle.art_change.specs.ArtLook.Looks as looks
use Rattle.art_change.specs.ArtLook.declared.path_buffers.PathBuffer.{PathBuffer}
use Rattle.art_change.specs.ArtLook.Seeks.{Fits, StageFits, asks_at}
use Rattle.art_change.specs.ArtLook.Walks as walks
use Rattle.art_change.specs.ArtLook.Walks.{deed_at, of_value}
use Rattle.art_change.specs.ArtLook.declared.seeks.Seek.{Seek}
use Rattle.art_change.specs.ArtLook.declared.seeks.SeekStage.{SeekStage}
use Rattle.art_change.specs.ArtLook.declared.seeks.SeekStage.TheVariants as stage
use Rattle.art_change.specs.ArtLook.declared.walks.Outcome.TheVariants.{Seen}
use Rattle.art_change.specs.ArtLook.declared.walks.Walk.{Walk}
use Rattle.art_change.specs.ArtLook.declared.walks.Walk.TheVariants.{Key, Range}
use Rattle.art_change.proofs.FrameSteps.{IsFrame, pinning_frame}
use Rattle.art_change.proofs.ArtLook.Parts.{walk_looks}
use Rattle.art_step.specs.Acting.{Answers, telling}
use Rattle.art_step.specs.declared.actions.Action.{Action}
use Rattle.art_step.specs.declared.actions.Action.TheVariants.{StorePin}
use Rattle.art_step.specs.declared.actions.Answer.{Answer}
use Rattle.art_runs.proofs.Calm.{IsCellFounded, IsMoment, calm_current, cell_calm, frame_calm}
use Rattle.art_runs.proofs.Cells.{descent_founded, look_founded}
use Rattle.art_runs.proofs.Told.{no_end}
use Rattle.art_runs.proofs.Versions.{own_grows}
use Rattle.art_runs.specs.OthersIdle.{AreCurrent, HasFound}
use Rattle.art_step.specs.Shows.{Rest}
use Rattle.art_step.specs.Steps.Epoch as epoch
use Rattle.art_step.specs.Steps.Pin as pin
use Rattle.art_step.specs.Views.{Memory, Views}
use Rattle.art_step.specs.declared.deeds.Deed.{Deed}
use Rattle.art_step.specs.declared.views.Sizes.{Sizes}
use Rattle.art_step.specs.declared.views.View.{View}

-- a pin makes no event
pinned_own : (v : View) (x : ℕ) → (pin.view_after v x).own ≡ v.own
pinned_own v x = cond_both (x == 0) _ _ (λ (u : View). u.own ≡ v.own) (λ e. refl) (λ e. refl)

pins_own : (z : Sizes) (u opened : View) → Pins z u opened → opened.own ≡ u.own
pins_own z u opened pinned = ap (λ (x : View). x.own) pinned.is ∙ pinned_own (epoch.view_after u pinned.found) pinned.found

-- a walk that goes on has only read
look_going : (b : Bool) → (if b then Some Seen else None) ≡ None → b ≡ false
look_going true is = cc
look_going false is = refl

walk_reads : (z : Sizes) (k : List ℕ) (hi : Bound) (u : View) (t : PathBuffer) (restarts : ℕ) (v : View) (n : Walk) → walks.Fits z k hi u n t restarts v → walks.ended_at n ≡ None → IsReading u v
walk_reads z k hi u t restarts v (Key n) fits going = still_reading z k (get_done k) n.depth n.stage u v (no_end of_value (descents.ended_at n.stage) going) fits.fits
walk_reads z k hi u t restarts v (Range n) fits going = look_stages.still_reading z k hi n.depth t n.stage u v (look_going (looks.has_ended n.stage) going) fits.fits

walk_founded : (z : Sizes) (k : List ℕ) (hi : Bound) (u : View) (t : PathBuffer) (restarts : ℕ) (v : View) (n : Walk) → v.held ≡ [] → walks.Fits z k hi u n t restarts v → IfSome (walks.asks n) (IsCellFounded z v)
walk_founded z k hi u t restarts v (Key n) free fits = descent_founded z k (get_done k) n.depth n.stage u v free fits.fits
walk_founded z k hi u t restarts v (Range n) free fits = look_founded z k hi n.depth n.stage t u v free fits.fits

-- ---- a step of a seek, of a call that began with the view u

module _ (z : Sizes) (p : ℕ) (m : Memory) (f : Views) (m' : Memory) (f' : Views) (u v w : View) (had : HasFound m u v) (at : IsMoment z p m f m' f' v w) where
  -- it did not fail, and where nothing is told stamps are current still
  record Goes : Type 0 where
    failures : w.failures ≡ v.failures
    keeps : v.own ≡ u.own → w.own ≡ v.own → AreCurrent m' w

  module _ (d : Deed) (a : Action) (answer : Answer) (row : Answers z (telling d) a answer v w) (current : v.own ≡ u.own → AreCurrent m v) where
    frame_goes : IsFrame a → Goes
    frame_goes is =
        let calm = frame_calm z p m f m' f' v w at (telling d) a answer is row in
        record { failures = calm.failures; keeps = λ own stays. calm_current z p m f m' f' v w at calm stays (current own) }

    seek_goes : (k : List ℕ) (hi : Bound) (n : Seek) (t : PathBuffer) (s : SeekStage) → StageFits z k hi u s n t v → asks_at s n ≡ Some a → Goes
    seek_goes k hi n t stage.Pinning fits is = frame_goes (pinning_frame n.pinning a is)
    seek_goes k hi n t stage.Walking fits is =
        let q = fits.walking in
        let reads = walk_reads z k hi q.opened t n.restarts v n.walk q.walk fits.going in
        let own : v.own ≡ u.own = ap (λ (o : Rest). o.own) reads.only ∙ pins_own z u q.opened q.pins_to in
        let founded = subst (λ (o : Option Action). IfSome o (IsCellFounded z v)) is (walk_founded z k hi q.opened t n.restarts v n.walk reads.free q.walk) in
        let calm = cell_calm z p m f m' f' v w at (current own) (telling d) a answer (walk_looks n.walk a is) founded row in
        record { failures = calm.failures; keeps = λ own' stays. calm_current z p m f m' f' v w at calm stays (current own) }
    seek_goes k hi n t stage.Closing fits is = frame_goes (subst IsFrame (same_Some (StorePin 0) a is) tt)
    seek_goes k hi n t stage.Ended fits is = absurd (cc)

  -- what was asked for was made
  pub seek_makes : (k : List ℕ) (hi : Bound) (n : Seek) (t : PathBuffer) (a : Seek) (s : PathBuffer) → Fits z k hi u n t v → (v.own ≡ u.own → AreCurrent m v) → SeekMakes z k hi v n t w a s
      → (w.failures ≡ v.failures) × (w.own ≡ u.own → AreCurrent m' w)
  seek_makes k hi n t a s fits current makes =
      let g = seek_goes (deed_at n.walk k hi t) makes.asked makes.answer makes.row current k hi n t n.stage fits makes.asks in
      let low = had.events in (
        g.failures,
        λ own. ⊎_elim
            (λ (stays : w.own ≡ v.own). g.keeps (sym stays ∙ own) stays)
            (λ (longer : length w.own ≡ length v.own + 1). let same = ap (λ (o : List ℕ). length o) own in absurd (omega (arith, longer, low, same)))
            (own_grows z p v w m f m' f' at.step at.before at.after),
      )
