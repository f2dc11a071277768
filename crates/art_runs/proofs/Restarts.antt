-- How often a call began anew: at most as often as its steps failed, and so never where none did.
use Rattle.std.proofs.Common.{◌≡◌, ◌+◌, ◌≤◌, ℕ, List, None, refl, ap, ◌∙◌, arith}
use Rattle.std.proofs.lemmas.Bool.{cond_both}
use Rattle.std.specs.Prelude.{◌==◌}
use Rattle.art_change.specs.ArtAttempt.Attempts as attempts
use Rattle.art_change.specs.ArtAttempt.declared.attempts.Attempt.{Attempt}
use Rattle.art_change.specs.ArtAttempt.declared.attempts.Stage.{Stage as AttemptStage}
use Rattle.art_change.specs.ArtAttempt.declared.attempts.Stage.TheVariants as attempt
use Rattle.art_change.specs.ArtAttempt.declared.attempts.Job.{Job}
use Rattle.art_change.specs.ArtAttempt.declared.attempts.Part.{Part}
use Rattle.art_change.specs.ArtAttempt.declared.attempts.Part.TheVariants as part
use Rattle.art_change.specs.ArtFind.declared.findings.Position.{Position}
use Rattle.art_change.specs.ArtAttempt.declared.attempts.Room.{Room}
use Rattle.art_change.specs.Calls.{GoesOn, Wish, restarts_of}
use Rattle.art_change.specs.declared.callers.Call.{Call}
use Rattle.art_change.specs.declared.callers.Call.TheVariants as call
use Rattle.art_change.specs.declared.callers.Caller.{Caller}
use Rattle.art_change.proofs.Counted.{write_counted}
use Rattle.art_change.proofs.Endings.{left_by}
use Rattle.art_change.specs.Writes as writes
use Rattle.art_change.specs.Writes.{IsExiting, gone_by}
use Rattle.art_change.specs.declared.writes.WriteOutcome.{WriteOutcome}
use Rattle.art_change.specs.declared.writes.Stage.{Stage}
use Rattle.art_change.specs.declared.writes.Stage.TheVariants as stage
use Rattle.art_change.specs.declared.writes.Write.{Write}
use Rattle.art_step.specs.Tokens.{links_of}
use Rattle.art_cell.specs.declared.cells.Link.{Link}
use Rattle.art_epoch.specs.Limbo.{places_of}
use Rattle.art_epoch.specs.declared.limbo.Place.{Place}
use Rattle.art_change.specs.ArtEpoch.Exit.{ExitFits}
use Rattle.art_change.specs.ArtEpoch.declared.exit.Exit.{Exit}
use Rattle.art_change.specs.ArtEpoch.declared.exit.Exit.TheVariants.{Labelling, Giving, Ended}
use Rattle.art_change.specs.ArtEpoch.declared.stocks.Stock.{Stock}
use Rattle.art_key.specs.declared.bounds.Bound.{Bound}
use Rattle.art_change.specs.ArtLook.declared.path_buffers.PathBuffer.{PathBuffer}
use Rattle.art_change.specs.ArtLook.Seeks as seeks
use Rattle.art_change.specs.ArtLook.Walks as walks
use Rattle.art_change.specs.ArtLook.declared.seeks.Seek.{Seek}
use Rattle.art_change.specs.ArtLook.declared.seeks.SeekStage.{SeekStage}
use Rattle.art_change.specs.ArtLook.declared.seeks.SeekStage.TheVariants as seek
use Rattle.art_change.specs.ArtLook.declared.walks.Walk.{Walk}
use Rattle.art_change.specs.ArtLook.declared.walks.Walk.TheVariants.{Key, Range}
use Rattle.art_runs.proofs.Calls.{seek_fits, write_fits}
use Rattle.art_runs.specs.Solo.{RestartLaw}
use Rattle.art_step.specs.Steps.Epoch as epoch
use Rattle.art_step.specs.Steps.Pin as pin
use Rattle.art_step.specs.declared.views.Sizes.{Sizes}
use Rattle.art_step.specs.declared.views.View.{View}

-- ---- attempts take no failure back

module _ (z : Sizes) (b : View) (r : Room) (v : View) where
  part_later : (j : Job) (t : Position) (p : Part) → attempts.PartFits z b j t p r v → b.failures ≤ v.failures
  part_later j t (part.Reserve c s) fits = let first = fits.0.base.later.failures in let more = fits.0.fits.only.failures in omega (arith, first, more)
  part_later j t (part.Reading q) fits = let first = fits.0.base.later.failures in let more = fits.0.later.failures in omega (arith, first, more)
  part_later j t (part.Naming byte n s) fits = let first = fits.0.base.later.failures in let more = fits.0.later.failures in omega (arith, first, more)
  part_later j t (part.Validate c s) fits = let first = fits.0.base.later.failures in let more = fits.0.later.failures in omega (arith, first, more)

  attempt_later : (i : Attempt) (s : AttemptStage) → attempts.StageFits z b s i r v → attempts.ending_at s ≡ None → b.failures ≤ v.failures
  attempt_later i (attempt.Finding f) fits going = let first = fits.base.later.failures in let more = fits.later.failures in omega (arith, first, more)
  attempt_later i (attempt.Placed t p) fits going = part_later i.job t p fits
  attempt_later i (attempt.Apply s) fits going = let first = fits.0.base.later.failures in let more = fits.0.later.failures in omega (arith, first, more)
  attempt_later i (attempt.Ended e) fits going = absurd (cc)

-- ---- a write

-- a close fails nowhere
exit_same : (z : Sizes) (k : List ℕ) (value : ℕ) (u v : View) (ps qs : List Place) (us : List Link) (s : Stock) (c : Exit) → ExitFits z k value u ps us c qs s v → v.failures ≡ u.failures
exit_same z k value u v ps qs us s Labelling fits = ap (λ (x : View). x.failures) fits.is
exit_same z k value u v ps qs us s Giving fits = ap (λ (x : View). x.failures) fits.is
exit_same z k value u v ps qs us s Ended fits = ap (λ (x : View). x.failures) fits.0.is

module _ (z : Sizes) (u : View) (ps : List Place) (n : Write) (r : Room) (qs : List Place) (v : View) where
  exit_failed : (x : Exit) (o : WriteOutcome) → IsExiting z u ps n x o r qs v → u.failures + n.restarts ≤ v.failures
  exit_failed x o k =
      let failed = k.begun.failed in
      let more = (left_by z k.began (record r { stock = k.stock }) k.ended n.job o n.left k.outcome).later.failures in
      let first = ap (λ (x : View). x.failures) k.frame.frame.is in
      let last = exit_same z r.row.key.items r.row.value k.ended v k.waiting qs (links_of (gone_by o r.change)) r.stock x k.fits in
      omega (arith, failed, more, first, last)

  write_failed : (s : Stage) → writes.StageFits z u ps s n r qs v → v.failures ≡ u.failures → n.restarts ≡ 0
  write_failed (stage.Enter e) fits none = fits.untried.fresh
  write_failed (stage.Trying i) fits none =
      let t = fits.0 in
      let failed = t.begun.failed in
      let more = attempt_later z t.began r v i i.stage t.fits.stage t.going in
      let first = ap (λ (x : View). x.failures) t.frame.frame.is in
      omega (arith, failed, more, first, none)
  write_failed (stage.Exit x o) fits none = let failed = exit_failed x o fits.0 in omega (arith, failed, none)
  write_failed (stage.Ended o) fits none = let failed = (write_counted z u ps n r qs v o fits).failed in omega (arith, failed, none)

-- ---- a seek

pinned_same : (v : View) (x : ℕ) → (pin.view_after v x).failures ≡ v.failures
pinned_same v x = cond_both (x == 0) _ _ (λ (u : View). u.failures ≡ v.failures) (λ e. refl) (λ e. refl)

walk_failed : (z : Sizes) (k : List ℕ) (hi : Bound) (u : View) (t : PathBuffer) (restarts : ℕ) (v : View) (n : Walk) → walks.Fits z k hi u n t restarts v → v.failures ≡ u.failures + restarts
walk_failed z k hi u t restarts v (Key n) fits = fits.counts.failures
walk_failed z k hi u t restarts v (Range n) fits = fits.counts.failures

module _ (z : Sizes) (k : List ℕ) (hi : Bound) (u : View) (n : Seek) (t : PathBuffer) where
  walking_failed : (v : View) → seeks.IsWalking z k hi u n t v → v.failures ≡ u.failures + n.restarts
  walking_failed v q =
      let counted = walk_failed z k hi q.opened t n.restarts v n.walk q.walk in
      let opened = ap (λ (x : View). x.failures) q.pins_to.is ∙ pinned_same (epoch.view_after u q.pins_to.found) q.pins_to.found in
      omega (arith, counted, opened)

  seek_failed : (v : View) (s : SeekStage) → seeks.StageFits z k hi u s n t v → v.failures ≡ u.failures → n.restarts ≡ 0
  seek_failed v seek.Pinning fits none = fits.none
  seek_failed v seek.Walking fits none = let failed = walking_failed v fits.walking in omega (arith, failed, none)
  seek_failed v seek.Closing fits none = let failed = walking_failed v fits.walking in omega (arith, failed, none)
  seek_failed v seek.Ended fits none =
      let failed = walking_failed fits.before fits.over.walking in
      let same = ap (λ (x : View). x.failures) fits.is ∙ pinned_same fits.before 0 in
      omega (arith, failed, same, none)

-- ---- a call

call_failed : (z : Sizes) (turns : ℕ) (u : View) (c : Caller) (v : View) (w : Wish) (n : Call) → GoesOn z w turns u c n v → v.failures ≡ u.failures → restarts_of n ≡ 0
call_failed z turns u c v w (call.Write n) goes none = let f = write_fits z turns u c n v w goes in write_failed z u f.0 n c.room (places_of c.limbo) v n.stage f.1.stage none
call_failed z turns u c v w (call.Seek n) goes none = seek_failed z c.key.items c.hi u n c.path_buffer v n.stage (seek_fits z turns u c n v w goes) none

pub restarts_never : RestartLaw
restarts_never z wish given turns u c v calling none = call_failed z turns u c v wish c.call calling.goes_on none
