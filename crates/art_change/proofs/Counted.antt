-- How many steps a write that has ended made, and how many failures it met.
use Rattle.std.proofs.Common.{◌≡◌, List, ap, arith}
use Rattle.art_attempt.specs.declared.attempts.Room.{Room}
use Rattle.art_change.proofs.Endings.{left_by}
use Rattle.art_attempt.specs.Attempts.{EndsSo}
use Rattle.art_change.specs.Writes.{HasCounted, OutcomeBy, IsExiting, IsDone, UsedTurns}
use Rattle.art_change.specs.declared.writes.WriteOutcome.{WriteOutcome as Outcome}
use Rattle.art_change.specs.declared.writes.WriteOutcome.TheVariants.{New, Present, Gone, Absent, Full, Exhausted, Overlaps, Busy, Crowded}
use Rattle.art_change.specs.declared.writes.Write.{Write}
use Rattle.art_epoch.specs.declared.limbo.Place.{Place}
use Rattle.art_epoch.specs.declared.exit.Exit.TheVariants as exit
use Rattle.art_step.specs.declared.views.Sizes.{Sizes}
use Rattle.art_step.specs.declared.views.View.{View}

module _ (z : Sizes) (u : View) (ps : List Place) (m : Write) (r : Room) (qs : List Place) (v : View) where
  module _ (o : Outcome) (k : IsExiting z u ps m exit.Ended o r qs v) where
    opened_failures : k.opened.failures ≡ u.failures
    opened_failures = ap (λ (t : View). t.failures) k.frame.frame.is

    closed_failures : v.failures ≡ k.ended.failures
    closed_failures = ap (λ (t : View). t.failures) k.fits.0.is

    used_turns : EndsSo z k.began (record r { stock = k.stock }) k.ended → m.left ≡ 0 → UsedTurns z u m.turns v
    used_turns so none =
        let counted = k.counted in
        let early = k.frame.later in
        let late = k.later in record {
          counted = omega (arith, counted, none, early, late);
          few = λ limited.
              let few = k.begun.few limited in
              let spent = so.spent limited in
              let first = opened_failures in
              let last = closed_failures in
              let more = so.still.later.failures in
              omega (arith, counted, none, few, spent, first, last, more);
        }

    -- an outcome that says so came at the last turn
    at_last : (a : Outcome) → OutcomeBy z k.began m.job (record r { stock = k.stock }) a m.left k.ended → a ≡ Busy → UsedTurns z u m.turns v
    at_last Busy h busy = used_turns h.0 h.1
    at_last New h busy = cc
    at_last (Present stands) h busy = cc
    at_last (Gone value) h busy = cc
    at_last Absent h busy = cc
    at_last (Full pool) h busy = cc
    at_last (Exhausted c) h busy = cc
    at_last Overlaps h busy = cc
    at_last (Crowded b) h busy = cc

    exit_counted : HasCounted z u m.turns m.restarts o v
    exit_counted = record {
      failed =
          let failed = k.begun.failed in
          let more = (left_by z k.began (record r { stock = k.stock }) k.ended m.job o m.left k.outcome).later.failures in
          let first = opened_failures in
          let last = closed_failures in
          omega (arith, failed, more, first, last);
      busy = at_last o k.outcome;
    }

  pub write_counted : (o : Outcome) → IsDone z u ps o m r qs v → HasCounted z u m.turns m.restarts o v
  write_counted (Crowded b) done = record {
    failed = let none = done.3 in let same = ap (λ (t : View). t.failures) done.0.only in omega (arith, none, same);
    busy = λ busy. absurd (cc);
  }
  write_counted New done = exit_counted New done
  write_counted (Present stands) done = exit_counted (Present stands) done
  write_counted (Gone value) done = exit_counted (Gone value) done
  write_counted Absent done = exit_counted Absent done
  write_counted (Full pool) done = exit_counted (Full pool) done
  write_counted (Exhausted c) done = exit_counted (Exhausted c) done
  write_counted Overlaps done = exit_counted Overlaps done
  write_counted Busy done = exit_counted Busy done
