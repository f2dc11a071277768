-- A write that was made at once, as its call sees it.
use Rattle.std.proofs.Common.{◌≡◌, ◌+◌, ◌≤◌, ℕ, List, Option, Some, None, refl, subst}
use Rattle.std.proofs.lemmas.Option.{same_Some}
use Rattle.std.specs.Prelude.{IfSome}
use Rattle.art_change.specs.ArtAttempt.declared.attempts.Room.{Room}
use Rattle.art_change.proofs.Written.{Says, write_called}
use Rattle.art_change.specs.Calls.{GoesOn, HasCalled, IsWriting, write_wish}
use Rattle.art_change.specs.Outcomes.{of_write}
use Rattle.art_change.specs.declared.callers.Call.TheVariants as call
use Rattle.art_change.specs.declared.callers.Caller.{Caller}
use Rattle.art_change.specs.Writes.{Fits, HasAnswered, HasCounted, HasGround, IsReady}
use Rattle.art_change.specs.ArtAttempt.declared.attempts.Job.{Job}
use Rattle.art_change.specs.ArtAttempt.declared.attempts.Job.TheVariants as job
use Rattle.art_change.specs.declared.writes.WriteOutcome.{WriteOutcome as Outcome}
use Rattle.art_change.specs.declared.writes.Write.{Write}
use Rattle.art_epoch.specs.declared.limbo.Place.{Place}
use Rattle.art_epoch.specs.declared.stocks.Stock.{Stock}
use Rattle.art_step.specs.declared.views.Sizes.{Sizes}
use Rattle.art_step.specs.declared.views.View.{View}

-- what it says when it has ended
pub says_so : (m : Write) (r : Option Outcome) (o : Outcome) → r ≡ Some o
    → IfSome r (λ o. (z : Sizes) (u v : View) (ps qs : List Place) (r : Room) → Fits z u ps m r qs v → HasAnswered z u m.job o r.row.key r.row.value qs v)
    → IfSome r (λ o. (z : Sizes) (u v : View) (ps qs : List Place) (r : Room) → Fits z u ps m r qs v → HasCounted z u m.turns m.restarts o v)
    → IfSome r (λ o. (z : Sizes) (u v : View) (ps qs : List Place) (r : Room) → Fits z u ps m r qs v → HasGround z u m.job ps m.turns m.restarts o r qs v)
    → IfSome r (λ o. (z : Sizes) (u v : View) (own : ℕ) (ps qs : List Place) (s : Stock) (r : Room) → IsReady z u own ps s → Fits z u ps m r qs v → IsReady z v own qs r.stock)
    → Says m o
says_so m (Some p) o is answered counted grounds ready =
    subst (Says m) (same_Some p o is) (record { answered = answered; counted = counted; grounds = grounds; ready = ready })
says_so m None o is answered counted grounds ready = cc

module _ (z : Sizes) (turns : ℕ) (u v : View) (r : Room) (n : Caller) (m : Write) where
  writes_on : (j : Job) → (j ≡ job.Remove → r.row.value ≡ 0) → IsWriting z j r.row.key r.row.value turns u n m v
      → GoesOn z (write_wish j r.row.key r.row.value) turns u n (call.Write m) v
  writes_on job.Insert none on = on
  writes_on job.Remove none on = subst (λ (value : ℕ). IsWriting z job.Remove r.row.key value turns u n m v) (none refl) on

  -- of the key and the value that the room had
  pub made_at_once : (j : Job) (o : Outcome) → (j ≡ job.Remove → r.row.value ≡ 0) → Says m o → IsWriting z j r.row.key r.row.value turns u n m v → v.steps ≤ u.steps + turns + 1000
      → HasCalled z (write_wish j r.row.key r.row.value) turns turns m.restarts u n (of_write o) v
  made_at_once j o none says on few = write_called z u n m v o says (write_wish j r.row.key r.row.value) turns turns (writes_on j none on) few
