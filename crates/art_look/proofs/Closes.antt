-- A seek that is over: the pass may go idle, and what a client sees then.
use Rattle.std.proofs.Common.{◌≡◌, ℕ, ◌+◌, ◌≤◌, ◌++◌, map, List, [], ◌∷◌, length, Option, Some, None, refl, sym, ap, ap₂, ◌∙◌, subst, arith}
use Rattle.art_epoch.proofs.Waiting.{limbo_mapped}
use Rattle.art_epoch.specs.Limbo.{IsLimbo}
use Rattle.art_key.specs.declared.bounds.Bound.{Bound as KeyBound}
use Rattle.art_look.specs.declared.path_buffers.PathBuffer.{PathBuffer}
use Rattle.art_look.proofs.SeekEnds.{HasTold, failures_met, few_made, has_told, range_few, some_made}
use Rattle.art_look.proofs.Pinned.{pinned_free, pinned_is}
use Rattle.art_look.specs.Seeks.{HasSought, WentIdle, IsOver}
use Rattle.art_look.specs.Sought.{HasSpent, IsIdleAgain, UsedTurns}
use Rattle.art_look.specs.Walks.{IsEnd, aim_of, told_of}
use Rattle.art_look.specs.declared.seeks.Seek.{Seek}
use Rattle.art_look.specs.declared.walks.Aim.TheVariants as aim
use Rattle.art_look.specs.declared.walks.Outcome.{Outcome}
use Rattle.art_look.specs.declared.walks.Outcome.TheVariants.{Busy, Seen}
use Rattle.art_step.specs.Events.{MakesEvent, SeesEvent}
use Rattle.art_step.specs.Histories.{IsLegal, event, places}
use Rattle.art_step.specs.Shows.{Rest}
use Rattle.art_step.specs.Steps.Epoch.{label_or, labelled}
use Rattle.art_step.specs.declared.deeds.Deed.{Deed}
use Rattle.art_step.specs.declared.views.Event.{Event}
use Rattle.art_step.specs.declared.views.Retired.{Retired}
use Rattle.art_step.specs.declared.views.Sizes.{Sizes}
use Rattle.art_step.specs.declared.views.View.{View}

-- ---- the pin and the close tell nothing

module _ (u opened before v : View) (seen : opened.seen ≡ u.seen) (own : opened.own ≡ u.own) (pass : opened.pass ≡ u.pass) (seen' : v.seen ≡ before.seen) (own' : v.own ≡ before.own) where
  event_all : (what : Deed) → MakesEvent opened before what → MakesEvent u v what
  event_all what m = record {
    between = m.between;
    seen = seen' ∙ (m.seen ∙ ap₂ (λ (l : List Event) (i : ℕ). (l ++ m.between) ++ event i what ∷ []) seen pass);
    own = own' ∙ (m.own ∙ ap₂ (λ (l : List ℕ) (k : List Event). l ++ length (k ++ m.between) ∷ []) own seen);
    legal = subst IsLegal (sym seen') m.legal;
    all = ap₂ (λ (i : ℕ) (l : List Event). places i l) (sym pass) seen' ∙ (m.all ∙ sym own');
  }

  pub sees_all : (what : Option Deed) → SeesEvent opened before what → SeesEvent u v what
  sees_all None sees = (seen' ∙ (sees.0 ∙ seen), own' ∙ (sees.1 ∙ own))
  sees_all (Some what) sees = event_all what sees

module _ (z : Sizes) (k : List ℕ) (hi : KeyBound) (u : View) (m : Seek) (t : PathBuffer) where
  -- ---- a seek that is over

  pub over_told : (v : View) (over : IsOver z k hi u m t v) → HasTold over.walking.opened v (told_of m.outcome k hi t m.walk)
  over_told v over = has_told z k hi over.walking.opened t m.restarts v m.walk m.left m.outcome over.ends over.walking.walk

  -- nothing is held, so the pass may go idle
  pub over_free : (v : View) → IsOver z k hi u m t v → v.held ≡ []
  over_free v over = ap (λ (r : Rest). r.held) (over_told v over).rest ∙ pinned_free z u over.walking.opened over.walking.may over.walking.pins_to

  seen_end : (o : Outcome) → o ≡ Seen → IsEnd m.walk m.left o → IsEnd m.walk m.left Seen
  seen_end o is ends = subst (λ (p : Outcome). IsEnd m.walk m.left p) is ends

  no_turn_left : (o : Outcome) → o ≡ Busy → IsEnd m.walk m.left o → IsEnd m.walk m.left Busy
  no_turn_left o is ends = subst (λ (p : Outcome). IsEnd m.walk m.left p) is ends

  -- ---- and is closed

  module _ (v : View) (c : WentIdle z k hi u m t v) where
    opened_is : c.over.walking.opened ≡ record u { steps = u.steps + 2; pins = u.pins + 1; pin = c.over.walking.pins_to.found; noted = Some (record { epoch = c.over.walking.pins_to.found; step = u.steps + 1 }); limbo = map (labelled c.over.walking.pins_to.found) u.limbo }
    opened_is = pinned_is z u c.over.walking.opened c.over.walking.may c.over.walking.pins_to

    idle_again : IsIdleAgain u v
    idle_again =
        let w = c.over.walking in
        let found = w.pins_to.found in
        let rest = (over_told c.before c.over).rest in
        let limbo = ap (λ (a : View). a.limbo) c.is ∙ (ap (λ (r : Rest). r.limbo) rest ∙ ap (λ (a : View). a.limbo) opened_is) in
        record {
          may = record { idle = ap (λ (a : View). a.pin) c.is; free = ap (λ (a : View). a.held) c.is ∙ over_free c.before c.over };
          pass = ap (λ (a : View). a.pass) c.is ∙ (ap (λ (r : Rest). r.pass) rest ∙ ap (λ (a : View). a.pass) opened_is);
          hand = ap (λ (a : View). a.hand) c.is ∙ (ap (λ (r : Rest). r.hand) rest ∙ ap (λ (a : View). a.hand) opened_is);
          limbo = (found, limbo);
          waits = λ ps waits. subst (λ (es : List Retired). IsLimbo ps [] es) (sym limbo)
              (limbo_mapped (labelled found) (λ e. refl) (λ e l is. ap (λ (o : Option ℕ). label_or o found) is) ps u.limbo waits);
        }

    used : length k ≤ 64 → IsEnd m.walk m.left Busy → UsedTurns u m.turns m.restarts v
    used short ends =
        let w = c.over.walking in
        let first = ap (λ (a : View). a.steps) opened_is in
        let last = ap (λ (a : View). a.steps) c.is in
        let counted = w.counted in
        let none = ends.1 in
        let few = few_made z k hi w.opened t m.restarts c.before m.walk short ends.0 w.walk in
        record { all = omega (arith, first, last, counted, none); few = omega (arith, counted, none, few) }

    -- its failures, and those that it met
    failed : v.failures ≡ u.failures + m.restarts
    failed = ap (λ (a : View). a.failures) c.is ∙ (failures_met z k hi c.over.walking.opened t m.restarts c.before m.walk c.over.walking.walk ∙ ap (λ (n : ℕ). n + m.restarts) (ap (λ (a : View). a.failures) opened_is))

    spent : aim_of m.walk ≡ aim.Range → HasSpent u m.turns m.left v
    spent is =
        let w = c.over.walking in
        let first = ap (λ (a : View). a.steps) opened_is in
        let last = ap (λ (a : View). a.steps) c.is in
        let counted = w.counted in
        let met = failed in
        let few = range_few z k hi w.opened t m.restarts c.before m.walk is w.walk in
        record { all = omega (arith, first, last, counted); few = omega (arith, counted, met, few) }

    some : IsEnd m.walk m.left Seen → m.left + 3 ≤ m.turns
    some ends =
        let w = c.over.walking in
        let counted = w.counted in
        let made = some_made z k hi w.opened t m.restarts c.before m.walk m.left ends w.walk in
        omega (arith, counted, made)

    pub closed_sought : length k ≤ 64 → HasSought k hi u m t m.outcome v
    closed_sought short =
        let w = c.over.walking in
        let told = over_told c.before c.over in
        let first = ap (λ (a : View). a.steps) opened_is in
        let last = ap (λ (a : View). a.steps) c.is in
        let counted = w.counted in
        record {
          idle = idle_again;
          tells = sees_all u w.opened c.before v (ap (λ (a : View). a.seen) opened_is) (ap (λ (a : View). a.own) opened_is) (ap (λ (a : View). a.pass) opened_is)
              (ap (λ (a : View). a.seen) c.is) (ap (λ (a : View). a.own) c.is) (told_of m.outcome k hi t m.walk) told.tells;
          counted = record { failed = failed; steps = omega (arith, first, last, counted) };
          spent = spent;
          some = λ is. some (seen_end m.outcome is c.over.ends);
          none = λ is. (no_turn_left m.outcome is c.over.ends).1;
          busy = λ is. used short (no_turn_left m.outcome is c.over.ends);
        }
