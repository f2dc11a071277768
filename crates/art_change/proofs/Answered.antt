-- What a client sees of a write that has ended.
use Rattle.std.proofs.Common.{◌≡◌, ℕ, ◌++◌, List, [], ◌∷◌, length, Option, Some, None, sym, ap, ap₂, ◌∙◌, subst}
use Rattle.art_change.proofs.Endings.{IsLeft, left_by, left_since}
use Rattle.art_attempt.specs.declared.attempts.Room.{Room}
use Rattle.art_change.specs.Writes.{HasAnswered, IsExiting, IsDone, told_by}
use Rattle.art_change.specs.declared.writes.Write.{Write}
use Rattle.art_change.specs.declared.writes.WriteOutcome.{WriteOutcome as Outcome}
use Rattle.art_change.specs.declared.writes.WriteOutcome.TheVariants.{New, Present, Gone, Absent, Full, Exhausted, Overlaps, Busy, Crowded}
use Rattle.art_epoch.specs.declared.limbo.Place.{Place}
use Rattle.art_epoch.specs.declared.exit.Exit.{Exit}
use Rattle.art_epoch.specs.declared.exit.Exit.TheVariants as exit
use Rattle.art_step.specs.Events.{MakesEvent, SeesEvent}
use Rattle.art_step.specs.Histories.{IsLegal, event, places}
use Rattle.art_step.specs.declared.deeds.Deed.{Deed}
use Rattle.art_step.specs.declared.views.Event.{Event}
use Rattle.art_step.specs.declared.views.Sizes.{Sizes}
use Rattle.art_step.specs.declared.views.View.{View}

-- the frame tells nothing
module _ (u opened ended v : View) (seen : opened.seen ≡ u.seen) (own : opened.own ≡ u.own) (pass : opened.pass ≡ u.pass) (seen' : v.seen ≡ ended.seen) (own' : v.own ≡ ended.own) where
  event_all : (what : Deed) → MakesEvent opened ended what → MakesEvent u v what
  event_all what m = record {
    between = m.between;
    seen = seen' ∙ (m.seen ∙ ap₂ (λ (l : List Event) (i : ℕ). (l ++ m.between) ++ event i what ∷ []) seen pass);
    own = own' ∙ (m.own ∙ ap₂ (λ (l : List ℕ) (k : List Event). l ++ length (k ++ m.between) ∷ []) own seen);
    legal = subst IsLegal (sym seen') m.legal;
    all = ap₂ (λ (i : ℕ) (l : List Event). places i l) (sym pass) seen' ∙ (m.all ∙ sym own');
  }

  none_all : ended.seen ≡ opened.seen → ended.own ≡ opened.own → SeesEvent u v None
  none_all same mine = (seen' ∙ (same ∙ seen), own' ∙ (mine ∙ own))

  pub sees_all : (what : Option Deed) → SeesEvent opened ended what → SeesEvent u v what
  sees_all None sees = none_all sees.0 sees.1
  sees_all (Some what) sees = event_all what sees

module _ (z : Sizes) (u : View) (ps : List Place) (m : Write) (r : Room) (qs : List Place) (v : View) where
  -- what its attempts left since the pass was pinned
  pub left_opened : (x : Exit) (o : Outcome) (k : IsExiting z u ps m x o r qs v) → IsLeft z k.opened m.job (record r { stock = k.stock }) o k.ended
  left_opened x o k =
      left_since z k.opened k.began k.begun.base m.job (record r { stock = k.stock }) o k.ended
      (left_by z k.began (record r { stock = k.stock }) k.ended m.job o m.left k.outcome)

  exit_answers : (o : Outcome) → IsExiting z u ps m exit.Ended o r qs v → HasAnswered z u m.job o r.row.key r.row.value qs v
  exit_answers o k =
      let closed = k.fits.0 in
      record {
        idle = ap (λ (t : View). t.pin) closed.is;
        free = closed.free;
        limbo = closed.limbo;
        tells = sees_all u k.opened k.ended v (ap (λ (t : View). t.seen) k.frame.frame.is) (ap (λ (t : View). t.own) k.frame.frame.is) (ap (λ (t : View). t.pass) k.frame.frame.is)
            (ap (λ (t : View). t.seen) closed.is) (ap (λ (t : View). t.own) closed.is) (told_by o m.job r.row.key r.row.value)
            (left_opened exit.Ended o k).tells;
      }

  pub answered : (o : Outcome) → IsDone z u ps o m r qs v → HasAnswered z u m.job o r.row.key r.row.value qs v
  answered (Crowded b) done = record {
    idle = done.0.idle;
    free = ap (λ (t : View). t.held) done.0.only ∙ done.1;
    limbo = done.0.limbo;
    tells = (ap (λ (t : View). t.seen) done.0.only, ap (λ (t : View). t.own) done.0.only);
  }
  answered New done = exit_answers New done
  answered (Present stands) done = exit_answers (Present stands) done
  answered (Gone value) done = exit_answers (Gone value) done
  answered Absent done = exit_answers Absent done
  answered (Full pool) done = exit_answers (Full pool) done
  answered (Exhausted c) done = exit_answers (Exhausted c) done
  answered Overlaps done = exit_answers Overlaps done
  answered Busy done = exit_answers Busy done
