-- The events of a history are of passes that the table has: each of them has a view, and no other pass has any event.
use Rattle.std.proofs.Common.{◌≡◌, ℕ, ◌+◌, ◌<◌, ◌==◌, List, [], ◌∷◌, Option, Some, None, refl, ap, sym, subst, ⊎_elim, eq-eqb, if◌then◌else◌}
use Rattle.std.specs.Prelude.{Bool, true, false}
use Rattle.art_step.specs.Histories.{places_from}
use Rattle.art_step.specs.Sound.{IsSound}
use Rattle.art_step.specs.Views.{Member, Memory, Views}
use Rattle.art_step.specs.declared.views.Event.{Event}
use Rattle.art_step.specs.declared.views.Sizes.{Sizes}
use Rattle.art_step.specs.declared.views.View.{View}
use Rattle.art_step.proofs.SetsView.{member_front}
use Rattle.art_shared.specs.Rule.{AreBelow}

-- an event has a place among those of its pass
has_place : (log : List Event) (k : ℕ) (e : Event) → Member e log → places_from e.pass k log ≡ [] → ⊥
has_place [] k e i none = elim i [ ]
has_place (x ∷ log) k e i none = ⊎_elim
    (λ (here : e ≡ x).
    let same : (x.pass == e.pass) ≡ true = eq-eqb x.pass e.pass (ap (λ (y : Event). y.pass) (sym here)) in
    let nil : k ∷ places_from e.pass (k + 1) log ≡ [] = subst (λ (b : Bool). (if b then k ∷ places_from e.pass (k + 1) log else places_from e.pass (k + 1) log) ≡ []) same none in
    absurd (cc))
    (λ (later : Member e log). by_first (x.pass == e.pass) none (has_place log (k + 1) e later))
    i
  where
    by_first : (b : Bool) → (if b then k ∷ places_from e.pass (k + 1) log else places_from e.pass (k + 1) log) ≡ [] → (places_from e.pass (k + 1) log ≡ [] → ⊥) → ⊥
    by_first true nil rest = cc
    by_first false nil rest = rest nil

module _ (z : Sizes) (m : Memory) (f : Views) (r : IsSound z m f) where
  log_below : AreBelow z.passes r.log
  log_below e i = by_view (f e.pass) refl
    where
      by_view : (o : Option View) → f e.pass ≡ o → e.pass < z.passes
      by_view (Some v) is = (r.unstamped.pinned e.pass v is).inside
      by_view None is = absurd (has_place r.log 0 e i (r.history.strangers e.pass is))

  -- and so are those that a pass has seen
  pub seen_below : (p : ℕ) (v : View) → f p ≡ Some v → AreBelow z.passes v.seen
  seen_below p v is e i =
      let starts = (r.history.tells p v is).starts in
      log_below e (subst (Member e) (sym starts.1) (member_front e v.seen starts.0 i))
