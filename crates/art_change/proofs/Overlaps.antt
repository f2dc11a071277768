-- Where no admitted key begins another, no write ends as an overlap.
use Rattle.std.proofs.Common.{◌≡◌, ◌≢◌, ◌∙◌, ◌+◌, ◌==◌, ℕ, List, true, Some, None, arith, inr, refl, ap, subst}
use Rattle.std.specs.Prelude.{Err, Ok}
use Rattle.std.proofs.lemmas.Bool.{cond_both}
use Rattle.std.proofs.lemmas.Option.{same_Some}
use Rattle.art_attempt.proofs.Overlaps as attempts
use Rattle.art_attempt.specs.Asking.{Answers as TryAnswers}
use Rattle.art_attempt.specs.Attempts.{Fits as TryFits, IsOverlapBy, asks as try_asks, deed_at as try_deed}
use Rattle.art_attempt.specs.declared.attempts.Room.{Room}
use Rattle.art_change.specs.Writes.{Answers, FindsOverlap, Fits, NoneOverlaps, StageFits, asks, asks_at, brings_at, or_busy, outcome_of, overlaps_by}
use Rattle.art_attempt.specs.declared.attempts.Ending.{Ending}
use Rattle.art_attempt.specs.declared.attempts.Ending.TheVariants as ending
use Rattle.art_attempt.specs.declared.attempts.Attempt.{Attempt}
use Rattle.art_change.specs.declared.writes.WriteOutcome.{WriteOutcome as Outcome}
use Rattle.art_change.specs.declared.writes.WriteOutcome.TheVariants.{Busy, Full, Overlaps}
use Rattle.art_change.specs.declared.writes.Stage.{Stage}
use Rattle.art_change.specs.declared.writes.Stage.TheVariants as stage
use Rattle.art_change.specs.declared.writes.Write.{Write}
use Rattle.art_epoch.specs.declared.limbo.Place.{Place}
use Rattle.art_step.specs.Acting as acting
use Rattle.art_step.specs.Acting.{PassesAmong, passed}
use Rattle.art_step.specs.declared.actions.Action.{Action}
use Rattle.art_step.specs.declared.actions.Action.TheVariants.{Check}
use Rattle.art_step.specs.declared.actions.Answer.{Answer}
use Rattle.art_step.specs.declared.actions.Answer.TheVariants.{Begun, Word, Checked, Upgraded, Done}
use Rattle.art_plan.specs.declared.changes.Change.{Change as ChangeOf}
use Rattle.art_step.specs.Histories.{AreApart}
use Rattle.art_step.specs.Steps.Check as check
use Rattle.art_step.specs.declared.deeds.Deed.{Deed}
use Rattle.art_step.specs.declared.views.Sizes.{Sizes}
use Rattle.art_step.specs.declared.views.Stamp.{Stamp}
use Rattle.art_step.specs.declared.views.View.{View}

-- ---- how a write ends so

busy_apart : (left : ℕ) (o : Outcome) → o ≢ Overlaps → or_busy left o ≢ Overlaps
busy_apart left o apart = cond_both (left == 0) Busy o (λ (a : Outcome). a ≢ Overlaps) (λ _ is. cc) (λ _. apart)

pub outcome_overlaps : (left : ℕ) (e : Ending) (o : Outcome) → outcome_of left e ≡ Some o → o ≡ Overlaps → e ≡ ending.Overlaps
outcome_overlaps left ending.New o is overlaps = cc
outcome_overlaps left (ending.Present stands) o is overlaps = cc
outcome_overlaps left (ending.Gone value) o is overlaps = cc
outcome_overlaps left ending.Absent o is overlaps = cc
outcome_overlaps left (ending.Full pool) o is overlaps = absurd (busy_apart left (Full pool) (λ e. cc) (same_Some {A = Outcome} (or_busy left (Full pool)) o is ∙ overlaps))
outcome_overlaps left (ending.Exhausted c) o is overlaps = cc
outcome_overlaps left ending.Overlaps o is overlaps = refl
outcome_overlaps left ending.Restart o is overlaps = cc

-- ---- where keys are apart

-- so are keys of which no others are admitted
pub still_apart : (A B : List ℕ → Type 0) → ((k : List ℕ) → B k → A k) → AreApart A → AreApart B
still_apart A B back apart = λ k j a b begins. apart k j (back k a) (back j b) begins

module _ (A : List ℕ → Type 0) (apart : AreApart A) (z : Sizes) (v : View) where
  never_at : (u : View) (ps : List Place) (m : Write) (r : Room) (qs : List Place) (a : Action) (answer : Answer) (s : Stage) → StageFits z u ps s m r qs v → A r.row.key.items → asks_at s r qs ≡ Some a
      → PassesAmong A z v a answer → overlaps_by s answer → ⊥
  never_at u ps m r qs a answer (stage.Trying t) fits is at among o = attempts.never_overlaps A z v apart fits.0.began t r fits.0.fits is a answer at among o
  never_at u ps m r qs a answer (stage.Enter e) fits is at among o = absurd o
  never_at u ps m r qs a answer (stage.Exit x b) fits is at among o = absurd o
  never_at u ps m r qs a answer (stage.Ended b) fits is at among o = absurd o

  pub never_overlaps : (u : View) (ps : List Place) (m : Write) (r : Room) (qs : List Place) (a : Action) (answer : Answer) → Fits z u ps m r qs v → A r.row.key.items → asks m r qs ≡ Some a
      → PassesAmong A z v a answer → overlaps_by m.stage answer → ⊥
  never_overlaps u ps m r qs a answer fits = never_at u ps m r qs a answer m.stage fits.stage

-- ---- the check that an overlap comes by

-- it is a step
pub overlap_counts : (z : Sizes) (k : List ℕ) (v w : View) → FindsOverlap z k v w → w.steps ≡ v.steps + 1
overlap_counts z k v w o = ap (λ (x : View). x.steps) o.checked.is

-- so where none is made, none finds an overlap
pub none_overlaps : (A : List ℕ → Type 0) (z : Sizes) (k : List ℕ) (v w : View) → w ≡ v → NoneOverlaps A z k v w
none_overlaps A z k v w same = inr (λ o. let count = overlap_counts z k v w o in let still = ap (λ (x : View). x.steps) same in absurd (omega (arith, count, still)))

module _ (z : Sizes) (v w : View) where
  checked_so : (d : Deed) (c : ChangeOf) (x : Stamp) (answer : Answer) → TryAnswers z d c (Check x) answer v w → passed answer ≡ true → check.Unchanged z v w x None
  checked_so d c x (Checked (Ok done)) row is = row
  checked_so d c x (Checked (Err e)) row is = cc
  checked_so d c x (Begun r) row is = cc
  checked_so d c x (Word y) row is = cc
  checked_so d c x (Upgraded r) row is = cc
  checked_so d c x Done row is = cc

  try_finds : (u : View) (m : Attempt) (r : Room) (a : Action) (answer : Answer) → TryFits z u m r v → try_asks m r ≡ Some a → TryAnswers z (try_deed m r) r.change a answer v w → IsOverlapBy m answer
      → FindsOverlap z r.row.key.items v w
  try_finds u m r a answer fits at row o =
      let c = attempts.overlap_checked z u v m r a answer fits at o in
      record {
        stamp = c.0;
        shows = c.2;
        checked = checked_so (try_deed m r) r.change c.0 answer (subst (λ (x : Action). TryAnswers z (try_deed m r) r.change x answer v w) c.1 row) o.succeeded;
      }

  finds_at : (u : View) (ps : List Place) (m : Write) (r : Room) (qs : List Place) (a : Action) (answer : Answer) (s : Stage) → StageFits z u ps s m r qs v → asks_at s r qs ≡ Some a
      → acting.Answers z (brings_at s r a) a answer v w → overlaps_by s answer → FindsOverlap z r.row.key.items v w
  finds_at u ps m r qs a answer (stage.Trying t) fits at row o = try_finds fits.0.began t r a answer fits.0.fits at row o
  finds_at u ps m r qs a answer (stage.Enter e) fits at row o = absurd o
  finds_at u ps m r qs a answer (stage.Exit x b) fits at row o = absurd o
  finds_at u ps m r qs a answer (stage.Ended b) fits at row o = absurd o

  pub finds_overlap : (u : View) (ps : List Place) (m : Write) (r : Room) (qs : List Place) (a : Action) (answer : Answer) → Fits z u ps m r qs v → asks m r qs ≡ Some a → Answers z m r a answer v w
      → overlaps_by m.stage answer → FindsOverlap z r.row.key.items v w
  finds_overlap u ps m r qs a answer fits = finds_at u ps m r qs a answer m.stage fits.stage
