-- How an attempt has ended, and what that leaves.
use Rattle.std.proofs.Common.{◌≡◌, ℕ, List, [], Option, Some, None, refl, sym, ap, ◌∙◌, subst}
use Rattle.std.specs.Prelude.{⊤}
use Rattle.std.proofs.lemmas.Option.{same_Some}
use Rattle.art_attempt.proofs.Tries.{event_since, later_then}
use Rattle.art_attempt.specs.Attempts.{EndFits, EndsSo, Fits, HasHand, HasSettled, HasWritten, StageFits, ended_at, ended_left, ending_at, left_at, steps_left}
use Rattle.art_attempt.specs.Trying.{IsLater, StillTries}
use Rattle.art_attempt.specs.declared.attempts.Attempt.{Attempt}
use Rattle.art_attempt.specs.declared.attempts.Ending.{Ending}
use Rattle.art_attempt.specs.declared.attempts.Ending.TheVariants as ending
use Rattle.art_attempt.specs.declared.attempts.Job.{Job}
use Rattle.art_attempt.specs.declared.attempts.Job.TheVariants.{Insert, Remove}
use Rattle.art_attempt.specs.declared.attempts.Stage.{Stage}
use Rattle.art_attempt.specs.declared.attempts.Stage.TheVariants as stage
use Rattle.art_attempt.specs.declared.attempts.Case.{Case}
use Rattle.art_attempt.specs.declared.attempts.Room.{Room}
use Rattle.art_cell.specs.declared.cells.Link.{Link}
use Rattle.art_change.specs.Writes.{OutcomeBy, gone_by, told_by}
use Rattle.art_change.specs.declared.writes.WriteOutcome.{WriteOutcome as Outcome}
use Rattle.art_change.specs.declared.writes.WriteOutcome.TheVariants.{New, Present, Gone, Absent, Full, Exhausted, Overlaps, Busy, Crowded}
use Rattle.art_epoch.specs.Limbo.{IsLimbo}
use Rattle.art_epoch.specs.declared.limbo.Place.{Place}
use Rattle.art_find.specs.declared.findings.Position.{Position}
use Rattle.art_plan.specs.Changes.{unlinked}
use Rattle.art_step.specs.Events.{SeesEvent}
use Rattle.art_step.specs.Shows.{Rest}
use Rattle.art_step.specs.Tokens.{links_of}
use Rattle.art_step.specs.Views.{IsOnce, links_in_limbo}
use Rattle.art_step.specs.declared.deeds.Deed.{Deed}
use Rattle.art_step.specs.declared.views.Retired.{Retired}
use Rattle.art_step.specs.declared.views.Sizes.{Sizes}
use Rattle.art_step.specs.declared.views.View.{View}
use Rattle.art_epoch.proofs.Waiting.{commit_waits}

-- ---- it has ended so

ended_stage : (s : Stage) (e : Ending) → ending_at s ≡ Some e → s ≡ stage.Ended e
ended_stage (stage.Ended a) e is = ap stage.Ended (same_Some {A = Ending} a e is)
ended_stage (stage.Finding f) e is = cc
ended_stage (stage.Placed t q) e is = cc
ended_stage (stage.Apply s) e is = cc

-- nothing was told
abbrev pub IsRefusal : Ending → Type 0
IsRefusal (ending.Full pool) = ⊤
IsRefusal (ending.Exhausted c) = ⊤
IsRefusal ending.Overlaps = ⊤
IsRefusal ending.Restart = ⊤
IsRefusal e = ⊥

module _ (z : Sizes) (u : View) (r : Room) (v : View) where
  pub ends_as : (t : Attempt) (e : Ending) → Fits z u t r v → ended_at t ≡ Some e → EndFits z u t.job r e v
  ends_as t e fits is = subst (λ (s : Stage). StageFits z u s t r v) (ended_stage t.stage e is) fits.stage

  pub refused_so : (t : Attempt) (e : Ending) → IsRefusal e → EndFits z u t.job r e v → EndsSo z u r v
  refused_so t ending.New none fits = absurd none
  refused_so t (ending.Present stands) none fits = absurd none
  refused_so t (ending.Gone value) none fits = absurd none
  refused_so t ending.Absent none fits = absurd none
  refused_so t (ending.Full pool) none fits = fits.ends.1
  refused_so t (ending.Exhausted c) none fits = fits.ends.0
  refused_so t ending.Overlaps none fits = fits.ends.1
  refused_so t ending.Restart none fits = fits.ends.0

pub ended_steps : (left : ℕ) (t : Attempt) (e : Ending) → ended_at t ≡ Some e → steps_left left t ≡ ended_left left e
ended_steps left t e is = ap (left_at left) (ended_stage t.stage e is)

-- ---- what every end leaves

-- nothing is held, the numbers are known, what was unlinked waits, and the event of the outcome was made, or none
pub record IsLeft (z : Sizes) (u : View) (j : Job) (r : Room) (o : Outcome) (v : View) : Type 0 where
  pub free : v.held ≡ []
  pub later : IsLater u v
  pub has : HasHand z v r
  pub pass : v.pass ≡ u.pass
  pub waits : (qs : List Place) → IsLimbo qs [] u.limbo → IsLimbo qs (links_of (gone_by o r.change)) v.limbo
  pub tells : SeesEvent u v (told_by o j r.row.key r.row.value)

module _ (z : Sizes) (u : View) (r : Room) (v : View) where
  so_left : (j : Job) (o : Outcome) → gone_by o r.change ≡ [] → told_by o j r.row.key r.row.value ≡ None → EndsSo z u r v → IsLeft z u j r o v
  so_left j o gone none so = record {
    free = so.still.free;
    later = so.still.later;
    has = so.has;
    pass = ap (λ (a : Rest). a.pass) so.still.rest;
    waits = λ qs there.
        subst (λ (words : List ℕ). IsLimbo qs (links_of words) v.limbo) (sym gone)
        (subst (λ (es : List Retired). IsLimbo qs [] es) (sym (ap (λ (a : Rest). a.limbo) so.still.rest)) there);
    tells = subst (λ (d : Option Deed). SeesEvent u v d) (sym none) (ap (λ (a : Rest). a.seen) so.still.rest, ap (λ (a : Rest). a.own) so.still.rest);
  }

  -- the change was made
  written_left : (j : Job) (o : Outcome) (t : Position) (c : Case) → HasWritten z u j t c r v → links_of (gone_by o r.change) ≡ unlinked r.change → SeesEvent u v (told_by o j r.row.key r.row.value) → IsLeft z u j r o v
  written_left j o t c h gone tells = record {
    free = h.free;
    later = h.later;
    has = h.has;
    pass = ap (λ (a : Rest). a.pass) h.rest;
    waits = λ qs there. subst (λ (links : List Link). IsLimbo qs links v.limbo) (sym gone)
        (subst (λ (es : List Retired). IsLimbo qs (unlinked r.change) es) (sym h.limbo)
        (commit_waits qs h.pins (unlinked r.change) u.limbo there (subst (λ (es : List Retired). IsOnce (links_in_limbo es)) h.limbo h.once)));
    tells = tells;
  }

  -- the check of the place told the answer
  settled_left : (j : Job) (o : Outcome) (d : Deed) → HasSettled z u r d v → gone_by o r.change ≡ [] → told_by o j r.row.key r.row.value ≡ Some d → IsLeft z u j r o v
  settled_left j o d h gone tells = record {
    free = h.free;
    later = h.later;
    has = h.has;
    pass = ap (λ (a : Rest). a.pass) h.rest;
    waits = λ qs there.
        subst (λ (words : List ℕ). IsLimbo qs (links_of words) v.limbo) (sym gone)
        (subst (λ (es : List Retired). IsLimbo qs [] es) (sym (ap (λ (a : Rest). a.limbo) h.rest)) there);
    tells = subst (λ (o : Option Deed). SeesEvent u v o) (sym tells) h.event;
  }

  pub left_by : (j : Job) (o : Outcome) (left : ℕ) → OutcomeBy z u j r o left v → IsLeft z u j r o v
  left_by Insert New left h = written_left Insert New h.position h.case h.ends.1 refl h.ends.1.event
  left_by Insert (Present stands) left h = settled_left Insert (Present stands) _ h.ends.1 refl refl
  left_by Remove (Gone value) left h =
      written_left Remove (Gone value) h.position h.case h.ends.1 refl (subst (λ (n : ℕ). SeesEvent u v (told_by (Gone n) Remove r.row.key r.row.value)) h.ends.2 h.ends.1.event)
  left_by Remove Absent left h = settled_left Remove Absent _ h.ends.1 refl refl
  left_by Remove New left h = let no = h.ends.0 in cc
  left_by Remove (Present stands) left h = let no = h.ends.0 in cc
  left_by Insert (Gone value) left h = let no = h.ends.0 in cc
  left_by Insert Absent left h = let no = h.ends.0 in cc
  left_by j (Full pool) left h = so_left j (Full pool) refl refl h.ends.1
  left_by j (Exhausted x) left h = so_left j (Exhausted x) refl refl h.ends.0
  left_by j Overlaps left h = so_left j Overlaps refl refl h.ends.1
  left_by j Busy left h = so_left j Busy refl refl h.0
  left_by j (Crowded b) left h = absurd h

-- what an attempt left that began later is left since the pass was pinned
module _ (z : Sizes) (u b : View) (base : StillTries u b) where
  sees_since : (v : View) (what : Option Deed) → SeesEvent b v what → SeesEvent u v what
  sees_since v None sees = (sees.0 ∙ ap (λ (a : Rest). a.seen) base.rest, sees.1 ∙ ap (λ (a : Rest). a.own) base.rest)
  sees_since v (Some what) sees = event_since u b base v what sees

  pub left_since : (j : Job) (r : Room) (o : Outcome) (v : View) → IsLeft z b j r o v → IsLeft z u j r o v
  left_since j r o v left = record {
    free = left.free;
    later = later_then u b v base.later left.later;
    has = left.has;
    pass = left.pass ∙ ap (λ (a : Rest). a.pass) base.rest;
    waits = λ qs there. left.waits qs (subst (λ (es : List Retired). IsLimbo qs [] es) (sym (ap (λ (a : Rest). a.limbo) base.rest)) there);
    tells = sees_since v (told_by o j r.row.key r.row.value) left.tells;
  }
