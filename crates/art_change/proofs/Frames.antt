-- From the opening to the attempts, and from the last attempt to the close.
use Rattle.std.proofs.Common.{◌≡◌, ℕ, ◌+◌, ◌-◌, ◌<◌, ◌≤◌, ◌==◌, true, false, List, [], ◌∷◌, length, Option, Some, None, refl, sym, ap, ◌∙◌, subst, arith, ⊎_elim}
use Rattle.std.proofs.lemmas.Bool.{cases_Bool, eqb-true}
use Rattle.std.proofs.lemmas.Option.{same_Some}
use Rattle.art_attempt.proofs.Tries.{later_first, still_then}
use Rattle.art_attempt.specs.Attempts.{EndFits, EndsSo, HasHand, IsRoom, ended_left, tries_left}
use Rattle.art_attempt.specs.Trying.{StillTries}
use Rattle.art_attempt.specs.declared.attempts.Room.{Room}
use Rattle.art_change.proofs.Endings.{left_by, left_since}
use Rattle.art_change.proofs.Staged.{asked_at, fits_at, made_at, steps_at}
use Rattle.art_change.specs.Writes.{Answers, Fits, HasBegun, StageFits, asks, asks_at, brings_at, left_at, steps_left as write_left, IsExiting, IsDone, IsEntering, IsUntried, OutcomeBy, SameRow, given, gone_by, or_busy, outcome_of}
use Rattle.art_attempt.specs.declared.attempts.Job.{Job}
use Rattle.art_attempt.specs.declared.attempts.Ending.{Ending}
use Rattle.art_attempt.specs.declared.attempts.Ending.TheVariants as ending
use Rattle.art_change.specs.declared.writes.Stage.{Stage}
use Rattle.art_change.specs.declared.writes.Stage.TheVariants as stages
use Rattle.art_change.specs.declared.writes.Write.{Write}
use Rattle.art_step.specs.Acting as acting
use Rattle.art_step.specs.declared.actions.Action.{Action}
use Rattle.art_step.specs.declared.actions.Answer.{Answer}
use Rattle.art_change.specs.declared.writes.WriteOutcome.{WriteOutcome as Outcome}
use Rattle.art_change.specs.declared.writes.WriteOutcome.TheVariants.{New, Present, Gone, Absent, Full, Exhausted, Overlaps, Busy, Crowded}
use Rattle.std.specs.List.{cons_option}
use Rattle.art_cell.specs.Children.{link_of}
use Rattle.art_cell.specs.declared.cells.Link.{Link}
use Rattle.art_epoch.specs.declared.limbo.Place.{Place}
use Rattle.art_epoch.proofs.Stocked.{at_most_five, stock_hinted, stock_same}
use Rattle.art_epoch.specs.Exit.{MayClose, begins, is_ended, steps_left}
use Rattle.art_epoch.specs.Enter.{IsOpened}
use Rattle.art_epoch.specs.declared.enter.Enter.{Enter}
use Rattle.art_epoch.specs.declared.exit.Exit.{Exit}
use Rattle.art_epoch.specs.declared.exit.Exit.TheVariants as exit
use Rattle.art_epoch.specs.declared.stocks.Stock.{Stock}
use Rattle.art_step.specs.Tokens.{links_of}
use Rattle.art_step.specs.declared.views.Sizes.{Sizes}
use Rattle.art_step.specs.declared.views.View.{View}

-- ---- a number goes back

-- what is known of the opening and of the room does not hang on where searches begin
pub given_room : (z : Sizes) (o : Option Link) (r : Room) → IsRoom z r → IsRoom z (given o r)
given_room z (Some d) r i = record { sizes = i.sizes; key = i.key }
given_room z None r i = i

given_has : (z : Sizes) (o : Option Link) (u : View) (r : Room) → HasHand z u r → HasHand z u (given o r)
given_has z (Some d) u r has = stock_hinted z r.row.key.items r.row.value u d r.stock has
given_has z None u r has = has

pub given_same : (o : Option Link) (r : Room) → SameRow r (given o r)
given_same (Some d) r = record { key = refl; value = refl }
given_same None r = record { key = refl; value = refl }

-- nor on how many steps of it were made, and at which of them it stands
pub later_untried : (z : Sizes) (u : View) (m : Write) (s : Stage) (r : Room) (v w : View) → v.steps ≤ w.steps → IsUntried z u m r v → IsUntried z u (record m { stage = s }) r w
later_untried z u m s r v w on i = record {
  free = i.free;
  has = i.has;
  later = let before = i.later in omega (arith, on, before);
  full = i.full;
  fresh = i.fresh;
}

pub given_untried : (z : Sizes) (o : Option Link) (u : View) (m : Write) (r : Room) (v : View) → IsUntried z u m r v → IsUntried z u m (given o r) v
given_untried z o u m r v i = record {
  free = i.free;
  has = given_has z o u r i.has;
  later = i.later;
  full = i.full;
  fresh = i.fresh;
}

pub given_enter : (z : Sizes) (u : View) (ps : List Place) (m : Write) (e : Enter) (o : Option Link) (r : Room) (qs : List Place) (v : View) → IsEntering z u ps m e r qs v
    → IsEntering z u ps m e (given o r) qs v
given_enter z u ps m e o r qs v i = record { enter = i.enter; going = i.going; untried = given_untried z o u m r v i.untried }

-- so the opening goes on in a room that is as it was but for that
module _ (m : Write) (e : Enter) (at : m.stage ≡ stages.Enter e) (o : Option Link) (r s : Room) (is : s ≡ given o r) where
  pub given_fits : (z : Sizes) (u : View) (ps qs : List Place) (v : View) → Fits z u ps m r qs v → Fits z u ps m s qs v
  given_fits z u ps qs v fits = subst (λ (a : Room). Fits z u ps m a qs v) (sym is) record {
    room = given_room z o r fits.room;
    stage = subst (λ (a : Stage). StageFits z u ps a m (given o r) qs v) (sym at)
        (given_enter z u ps m e o r qs v (fits_at m r (stages.Enter e) at z u ps qs v fits));
  }

  pub given_asks : (qs : List Place) (a : Option Action) → asks m r qs ≡ a → asks m s qs ≡ a
  given_asks qs a asked = ap (λ (b : Stage). asks_at b s qs) at ∙ asked_at m r (stages.Enter e) at qs a asked

  pub given_row : (z : Sizes) (a : Action) (answer : Answer) (v w : View) → Answers z m r a answer v w → Answers z m s a answer v w
  given_row z a answer v w row = subst (λ (b : Stage). acting.Answers z (brings_at b s a) a answer v w) (sym at) (made_at m r (stages.Enter e) at z a answer v w row)

  pub given_steps : (qs : List Place) → write_left m s qs ≡ write_left m r qs
  given_steps qs = ap (λ (b : Stage). left_at b m.left s qs) at ∙ sym (steps_at m r (stages.Enter e) at qs)

-- ---- an attempt begins

-- the first, when the pass was pinned
module _ (z : Sizes) (u opened : View) (ps qs : List Place) (o : IsOpened z u opened ps qs) (free : u.held ≡ []) where
  pub opened_begun : (restarts : ℕ) → restarts ≡ 0 → HasBegun z opened restarts opened
  opened_begun restarts none = record {
    base = record {
      rest = refl;
      free = ap (λ (t : View). t.held) o.is ∙ free;
      pinned = λ zero. let some = o.pinned in absurd (omega (arith, some, zero));
      later = later_first opened;
    };
    failed = omega (arith, none);
    few = λ limited. omega arith;
  }

  pub opened_has : (r : Room) → HasHand z u r → HasHand z opened r
  opened_has r has = stock_same z r.row.key.items r.row.value u opened r.stock (ap (λ (t : View). t.hand) o.is) has

-- nothing was done in it yet
module _ (z : Sizes) (opened : View) (restarts : ℕ) (v : View) (begun : HasBegun z opened restarts v) where
  pub begun_tries : StillTries v v
  begun_tries = record { rest = refl; free = begun.base.free; pinned = begun.base.pinned; later = later_first v }

  pub begun_so : (r : Room) → HasHand z v r → EndsSo z v r v
  begun_so r has = record { still = begun_tries; spent = λ limited. omega arith; has = has }

-- another, after one that failed
pub begun_again : (z : Sizes) (opened began v : View) (restarts more : ℕ) (r : Room) → HasBegun z opened restarts began → EndsSo z began r v → began.failures < v.failures → more ≤ restarts + 1
    → HasBegun z opened more v
begun_again z opened began v restarts more r begun so failed fewer = record {
  base = still_then opened began v begun.base so.still;
  failed = let before = begun.failed in omega (arith, before, failed, fewer);
  few = λ limited. (let before = begun.few limited in let spent = so.spent limited in omega (arith, before, spent, failed));
}

-- ---- the last attempt has ended

cons_more : (o : Option Link) (ds : List Link) → length (cons_option o ds) ≤ 1 + length ds
cons_more None ds = omega arith
cons_more (Some d) ds = omega arith

-- each word names one link at most
links_fewer : (words : List ℕ) → length (links_of words) ≤ length words
links_fewer [] = omega arith
links_fewer (word ∷ words) = let rest = links_fewer words in let one = cons_more (link_of word) (links_of words) in omega (arith, rest, one)

pub may_close : (z : Sizes) (u opened began : View) (ps qs : List Place) → IsOpened z u opened ps qs → StillTries opened began → (j : Job) (r : Room) (v : View) (o : Outcome) (left : ℕ)
    → OutcomeBy z began j r o left v → length (gone_by o r.change) ≤ 3 → MayClose z r.row.key.items r.row.value v qs (links_of (gone_by o r.change)) r.stock
may_close z u opened began ps qs frame base j r v o left h few =
    let end = left_since z opened began base j r o v (left_by z began r v j o left h) in
    record {
      free = end.free;
      stock = end.has;
      limbo = end.waits qs frame.limbo;
      room = let four = frame.room in let fewer = links_fewer (gone_by o r.change) in omega (arith, four, few, fewer);
    }

-- ---- how the write ends by how an attempt did

module _ (z : Sizes) (u : View) (j : Job) (r : Room) (left : ℕ) (v : View) where
  abbrev Ends : Outcome → Type 0
  Ends o = OutcomeBy z u j r o left v

  or_busy_ends : (o : Outcome) → EndsSo z u r v → Ends o → Ends (or_busy left o)
  or_busy_ends o so ends = ⊎_elim
      (λ (e : (left == 0) ≡ true). rw e (so, eqb-true left 0 e))
      (λ (e : (left == 0) ≡ false). rw e ends)
      (cases_Bool (left == 0))

  pub outcome_ends : (e : Ending) (o : Outcome) → EndFits z u j r e v → outcome_of left e ≡ Some o → Ends o
  outcome_ends ending.New o fits is = subst Ends (same_Some {A = Outcome} New o is) fits
  outcome_ends (ending.Present stands) o fits is = subst Ends (same_Some {A = Outcome} (Present stands) o is) fits
  outcome_ends (ending.Gone value) o fits is = subst Ends (same_Some {A = Outcome} (Gone value) o is) fits
  outcome_ends ending.Absent o fits is = subst Ends (same_Some {A = Outcome} Absent o is) fits
  outcome_ends (ending.Full pool) o fits is = subst Ends (same_Some {A = Outcome} (or_busy left (Full pool)) o is) (or_busy_ends (Full pool) fits.ends.1 fits)
  outcome_ends (ending.Exhausted x) o fits is = subst Ends (same_Some {A = Outcome} (Exhausted x) o is) fits
  outcome_ends ending.Overlaps o fits is = subst Ends (same_Some {A = Outcome} (or_busy left Overlaps) o is) (or_busy_ends Overlaps fits.ends.1 fits)
  outcome_ends ending.Restart o fits is = cc

  -- it is tried anew
  pub anew_ends : (e : Ending) → EndFits z u j r e v → outcome_of left e ≡ None → EndsSo z u r v × (u.failures < v.failures)
  anew_ends ending.New fits is = cc
  anew_ends (ending.Present stands) fits is = cc
  anew_ends (ending.Gone value) fits is = cc
  anew_ends ending.Absent fits is = cc
  anew_ends (ending.Full pool) fits is = cc
  anew_ends (ending.Exhausted x) fits is = cc
  anew_ends ending.Overlaps fits is = cc
  anew_ends ending.Restart fits is = fits.ends

pub none_anew : (left : ℕ) (e : Ending) → outcome_of left e ≡ None → e ≡ ending.Restart
none_anew left ending.Restart is = refl
none_anew left ending.New is = cc
none_anew left (ending.Present stands) is = cc
none_anew left (ending.Gone value) is = cc
none_anew left ending.Absent is = cc
none_anew left (ending.Full pool) is = cc
none_anew left (ending.Exhausted c) is = cc
none_anew left ending.Overlaps is = cc

-- ---- turns

-- as many steps were made as turns went
pub still_counted : (a v w left n : ℕ) → a ≤ v + left → v + n ≤ w → a ≤ w + (left - n)
still_counted a v w left n before made = omega (arith, before, made)

-- ---- the close

pub begins_going : (words : List ℕ) → is_ended (begins words) ≡ false
begins_going [] = refl
begins_going (word ∷ words) = refl

-- an outcome that an attempt had is not that limbo was crowded
pub done_by : (z : Sizes) (u opened v : View) (ps : List Place) (j : Job) (r : Room) (o : Outcome) (left : ℕ) (m : Write) (s : Room) (qs : List Place) (w : View)
    → OutcomeBy z opened j r o left v → IsExiting z u ps m exit.Ended o s qs w → IsDone z u ps o m s qs w
done_by z u opened v ps j r New left m s qs w h done = done
done_by z u opened v ps j r (Present stands) left m s qs w h done = done
done_by z u opened v ps j r (Gone value) left m s qs w h done = done
done_by z u opened v ps j r Absent left m s qs w h done = done
done_by z u opened v ps j r (Full pool) left m s qs w h done = done
done_by z u opened v ps j r (Exhausted x) left m s qs w h done = done
done_by z u opened v ps j r Overlaps left m s qs w h done = done
done_by z u opened v ps j r Busy left m s qs w h done = done
done_by z u opened v ps j r (Crowded b) left m s qs w h done = absurd h

-- one that has ended
pub ended_is : (x : Exit) → is_ended x ≡ true → x ≡ exit.Ended
ended_is exit.Ended is = refl
ended_is exit.Labelling is = cc
ended_is exit.Giving is = cc

-- ---- steps

pub begins_few : (words : List ℕ) (s : Stock) → steps_left (begins words) s ≤ 7
begins_few [] s = let few = at_most_five s in omega (arith, few)
begins_few (word ∷ words) s = let few = at_most_five s in omega (arith, few)

-- it is tried anew
pub anew_left : (left : ℕ) (e : Ending) → outcome_of left e ≡ None → ended_left left e ≡ tries_left left
anew_left left ending.New is = cc
anew_left left (ending.Present stands) is = cc
anew_left left (ending.Gone value) is = cc
anew_left left ending.Absent is = cc
anew_left left (ending.Full pool) is = cc
anew_left left (ending.Exhausted c) is = cc
anew_left left ending.Overlaps is = cc
anew_left left ending.Restart is = refl
