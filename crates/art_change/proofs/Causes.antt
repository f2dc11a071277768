-- Why a write ended so is told by what the pass has at its end, as it was at the end of the attempt: a close checks nothing.
use Rattle.std.proofs.Common.{◌≡◌, ◌≤◌, List, ap, arith}
use Rattle.art_attempt.proofs.Chosen.{exhausted_since, goes_since}
use Rattle.art_attempt.proofs.LastCheck.{full_stays, overlap_stays}
use Rattle.art_attempt.specs.Attempts.{GoesBy}
use Rattle.art_attempt.specs.declared.attempts.Case.{Case}
use Rattle.art_attempt.specs.declared.attempts.Room.{Room}
use Rattle.art_change.specs.Writes.{HasCause, IsExiting, IsDone}
use Rattle.art_change.specs.declared.writes.WriteOutcome.{WriteOutcome as Outcome}
use Rattle.art_change.specs.declared.writes.WriteOutcome.TheVariants.{New, Present, Gone, Absent, Full, Exhausted, Overlaps, Busy, Crowded}
use Rattle.art_change.specs.declared.writes.Write.{Write}
use Rattle.art_epoch.specs.declared.limbo.Place.{Place}
use Rattle.art_epoch.specs.declared.exit.Exit.TheVariants as exit
use Rattle.art_find.specs.declared.findings.Position.{Position}
use Rattle.art_attempt.proofs.Asked.{same_found}
use Rattle.art_attempt.specs.Reserve.{StayFound}
use Rattle.art_step.specs.declared.views.Sizes.{Sizes}
use Rattle.art_step.specs.declared.views.View.{View}

module _ (z : Sizes) (u : View) (ps : List Place) (m : Write) (r : Room) (qs : List Place) (v : View) where
  module _ (o : Outcome) (k : IsExiting z u ps m exit.Ended o r qs v) where
    began_later : u.steps ≤ k.began.steps
    began_later = let first = k.frame.later in let began = k.begun.base.later.steps in omega (arith, first, began)

    stay_found : StayFound k.ended v
    stay_found = same_found k.ended v (ap (λ (t : View). t.found) k.fits.0.is)

    same_checked : v.checked ≡ k.ended.checked
    same_checked = ap (λ (t : View). t.checked) k.fits.0.is

    goes_so : (t : Position) (c : Case) → GoesBy z k.began t c (record r { stock = k.stock }) k.ended → GoesBy z u t c r v
    goes_so t = goes_since z u t k.began r k.stock k.ended v began_later k.later stay_found same_checked

  pub cause_so : (o : Outcome) (done : IsDone z u ps o m r qs v) → HasCause z u ps o m r qs v done
  cause_so New done = goes_so New done done.outcome.position done.outcome.case done.outcome.ends.1.goes
  cause_so (Gone value) done = goes_so (Gone value) done done.outcome.position done.outcome.case done.outcome.ends.1.goes
  cause_so (Full pool) done =
      let h = done.outcome in
      full_stays done.ended v (same_checked (Full pool) done) (stay_found (Full pool) done) done.later z u done.began h.position r done.stock (began_later (Full pool) done) pool h.ends.2
  cause_so (Exhausted x) done =
      let h = done.outcome in
      exhausted_since z u h.position done.began r done.stock done.ended v (began_later (Exhausted x) done) done.later (stay_found (Exhausted x) done) (same_checked (Exhausted x) done) m.job h.case x
      h.ends.1
  cause_so Overlaps done =
      let h = done.outcome in
      overlap_stays done.ended v (same_checked Overlaps done) (stay_found Overlaps done) done.later z u done.began h.position r done.stock (began_later Overlaps done) h.ends.2
  cause_so (Present stands) done = tt
  cause_so Absent done = tt
  cause_so Busy done = tt
  cause_so (Crowded p) done = tt
