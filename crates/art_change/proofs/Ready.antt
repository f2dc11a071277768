-- A pass that is ready for a write is so again after it.
use Rattle.std.proofs.Common.{◌≡◌, ℕ, List, [], Option, Some, None, refl, sym, ap, ◌∙◌, subst}
use Rattle.art_attempt.specs.declared.attempts.Room.{Room}
use Rattle.art_cell.specs.declared.cells.Link.{Link}
use Rattle.art_cell.specs.declared.cells.Link.TheVariants.{Leaf as leaf, Node as node}
use Rattle.art_change.proofs.Answered.{answered, left_opened}
use Rattle.art_attempt.specs.Attempts.{IsRoom}
use Rattle.art_change.specs.Writes.{Fits, IsExiting, IsDone, IsReady, MayWrite, StageFits, ended_at, outcome_at}
use Rattle.art_change.specs.declared.writes.Write.{Write}
use Rattle.art_change.specs.declared.writes.WriteOutcome.{WriteOutcome as Outcome}
use Rattle.art_change.specs.declared.writes.WriteOutcome.TheVariants.{New, Present, Gone, Absent, Full, Exhausted, Overlaps, Busy, Crowded}
use Rattle.art_change.specs.declared.writes.Stage.{Stage}
use Rattle.art_change.specs.declared.writes.Stage.TheVariants as stage
use Rattle.art_epoch.specs.declared.limbo.Place.{Place}
use Rattle.art_epoch.proofs.Stocked.{first_is_in, none_is_in}
use Rattle.art_epoch.specs.Stocks.{HasStock, first_in}
use Rattle.art_epoch.specs.declared.exit.Exit.TheVariants as exit
use Rattle.art_epoch.specs.declared.stocks.Stock.{Stock}
use Rattle.art_step.specs.Views.{Member}
use Rattle.art_step.specs.declared.views.Sizes.{Sizes}
use Rattle.art_step.specs.declared.views.View.{View}

-- ---- nothing in hand

has_empty : (z : Sizes) (k : List ℕ) (value : ℕ) (v : View) (s : Stock) → first_in s ≡ None → v.hand ≡ [] → HasStock z k value v s
has_empty z k value v s none hand = record {
  leaf = λ l is. absurd (none_is_in s (leaf l) none is);
  nodes = λ n is. absurd (none_is_in s (node n) none is);
  only = λ x i. absurd (subst (Member x) hand i);
}

empty_has : (z : Sizes) (k : List ℕ) (value : ℕ) (v : View) (s : Stock) → HasStock z k value v s → v.hand ≡ [] → first_in s ≡ None
empty_has z k value v s o hand = by_first (first_in s) refl
  where
    no_link : (d : Link) → first_in s ≡ Some d → ⊥
    no_link (leaf l) is = let p = (o.leaf l (first_is_in s (leaf l) is)).is in subst (Member p.hand) hand p.has.0
    no_link (node n) is = let p = o.nodes n (first_is_in s (node n) is) in subst (Member p.hand) hand p.has

    by_first : (f : Option Link) → first_in s ≡ f → f ≡ None
    by_first None is = refl
    by_first (Some d) is = absurd (no_link d is)

pub ready_may : (z : Sizes) (u : View) (own : ℕ) (ps : List Place) (r : Room) → IsReady z u own ps r.stock → IsRoom z r → MayWrite z u own ps r
ready_may z u own ps r ready room = record {
  frame = ready.frame;
  room = room;
  has = has_empty z r.row.key.items r.row.value u r.stock ready.stock ready.hand;
}

-- ---- after it

module _ (z : Sizes) (u : View) (own : ℕ) (s : Stock) (ps : List Place) (m : Write) (r : Room) (qs : List Place) (v : View) (ready : IsReady z u own ps s) where
  after : (o : Outcome) → IsDone z u ps o m r qs v → v.pass ≡ u.pass → v.hand ≡ [] → first_in r.stock ≡ None → IsReady z v own qs r.stock
  after o done pass hand stock =
      let a = answered z u ps m r qs v o done in
      record {
        frame = record {
          own_is = ready.frame.own_is ∙ sym pass;
          inside = ready.frame.inside;
          passes_are = refl;
          may = record { idle = a.idle; free = a.free };
          limbo = a.limbo;
        };
        hand = hand;
        stock = stock;
      }

  exit_ready : (o : Outcome) → IsDone z u ps o m r qs v → IsExiting z u ps m exit.Ended o r qs v → IsReady z v own qs r.stock
  exit_ready o done k =
      let closed = k.fits in
      let pass = (left_opened z u ps m r qs v exit.Ended o k).pass in
      after o done (ap (λ (t : View). t.pass) closed.0.is ∙ (pass ∙ ap (λ (t : View). t.pass) k.frame.frame.is)) (ap (λ (t : View). t.hand) closed.0.is) closed.1

  done_ready : (o : Outcome) → IsDone z u ps o m r qs v → IsReady z v own qs r.stock
  done_ready (Crowded b) done =
      after (Crowded b) done (ap (λ (t : View). t.pass) done.0.only) (ap (λ (t : View). t.hand) done.0.only ∙ ready.hand)
      (empty_has z r.row.key.items r.row.value u r.stock done.2 ready.hand)
  done_ready New done = exit_ready New done done
  done_ready (Present stands) done = exit_ready (Present stands) done done
  done_ready (Gone value) done = exit_ready (Gone value) done done
  done_ready Absent done = exit_ready Absent done done
  done_ready (Full pool) done = exit_ready (Full pool) done done
  done_ready (Exhausted c) done = exit_ready (Exhausted c) done done
  done_ready Overlaps done = exit_ready Overlaps done done
  done_ready Busy done = exit_ready Busy done done

  by_stage : (s : Stage) (o : Outcome) → outcome_at s ≡ Some o → StageFits z u ps s m r qs v → IsReady z v own qs r.stock
  by_stage (stage.Enter e) o is fits = cc
  by_stage (stage.Trying t) o is fits = cc
  by_stage (stage.Exit x a) o is fits = cc
  by_stage (stage.Ended a) o is fits = done_ready a fits

  pub ready_again : (o : Outcome) → ended_at m ≡ Some o → Fits z u ps m r qs v → IsReady z v own qs r.stock
  ready_again o is fits = by_stage m.stage o is fits.stage
