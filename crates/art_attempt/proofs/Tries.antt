-- What stays as it was while an attempt goes on, and how it ends with an event.
use Rattle.std.proofs.Common.{◌≡◌, ℕ, ◌++◌, List, Option, [], ◌∷◌, length, sym, ap, ◌∙◌, subst, arith}
use Rattle.art_attempt.specs.Trying.{IsLater, StillTries, WasChecked}
use Rattle.art_epoch.specs.Taking.{OnlyTakes}
use Rattle.art_attempt.specs.Validate.{CheckedSince}
use Rattle.art_attempt.specs.declared.validate.Cells.{Cells}
use Rattle.art_epoch.proofs.Stocked.{stock_same}
use Rattle.art_epoch.specs.Stocks.{HasStock}
use Rattle.art_epoch.specs.declared.stocks.Stock.{Stock}
use Rattle.art_plan.specs.Apply.{HasFailed, IsCommitted}
use Rattle.art_find.proofs.FoundPlaces.{standing_grows}
use Rattle.art_find.proofs.Keeping.{Grows}
use Rattle.art_find.specs.Findings.{IsStanding}
use Rattle.art_find.specs.declared.read_sets.ReadSet.{ReadSet}
use Rattle.art_find.specs.declared.findings.Position.{Position}
use Rattle.art_plan.specs.Changes.{unlinked}
use Rattle.art_plan.specs.declared.changes.Change.{Change}
use Rattle.art_step.specs.Events.{MakesEvent}
use Rattle.art_step.specs.Histories.{event, places}
use Rattle.art_step.specs.Shows.{OnlyReads, OnlyTells, Rest, rest_of}
use Rattle.art_step.specs.Steps.Commit.{all_retired}
use Rattle.art_step.specs.Views.{Member}
use Rattle.art_step.specs.declared.deeds.Deed.{Deed}
use Rattle.art_step.specs.declared.faults.UpgradeFault.{UpgradeFault}
use Rattle.art_step.specs.declared.views.Holding.{Holding}
use Rattle.art_step.specs.declared.views.Note.{Note}
use Rattle.art_step.specs.declared.views.Sizes.{Sizes}
use Rattle.art_step.specs.declared.views.Stamp.{Stamp}
use Rattle.art_step.specs.declared.views.View.{View}

-- ---- time

pub later_first : (u : View) → IsLater u u
later_first u = record { steps = omega arith; failures = omega arith }

pub later_then : (u v w : View) → IsLater u v → IsLater v w → IsLater u w
later_then u v w a b =
    let steps = a.steps in
    let after = b.steps in
    let failures = a.failures in
    let more = b.failures in
    record { steps = omega (arith, steps, after); failures = omega (arith, failures, more) }

-- ---- the hand

pub stock_reads : (z : Sizes) (k : List ℕ) (value : ℕ) (v w : View) (s : Stock) → OnlyReads v w → HasStock z k value v s → HasStock z k value w s
stock_reads z k value v w s only has = stock_same z k value v w s (ap (λ (r : Rest). r.hand) only) has

pub stock_fails : (z : Sizes) (k : List ℕ) (value : ℕ) (v w : View) (s : Stock) (c : Change) (e : UpgradeFault) → HasFailed v c e w → HasStock z k value v s → HasStock z k value w s
stock_fails z k value v w s c e failed has = stock_same z k value v w s (ap (λ (r : Rest). r.hand) failed.rest) has

-- ---- the place

-- stamps and notes stay while numbers come
pub takes_grow : (v w : View) → OnlyTakes v w → Grows v w
takes_grow v w only = record {
  stamps = λ x m. subst (λ (xs : List Stamp). Member x xs) (sym (ap (λ (t : View). t.stamps) only)) m;
  notes = λ y m. subst (λ (ys : List Note). Member y ys) (sym (ap (λ (t : View). t.notes) only)) m;
}

pub standing_takes : (z : Sizes) (k : List ℕ) (t : Position) (read_set : ReadSet) (v w : View) → OnlyTakes v w → IsStanding z k t read_set v → IsStanding z k t read_set w
standing_takes z k t read_set v w only at = standing_grows z k t read_set v w (takes_grow v w only) at

-- ---- nothing is told

pub still_then : (u b v : View) → StillTries u b → StillTries b v → StillTries u v
still_then u b v before after = record {
  rest = ap (λ (r : Rest). record r { hand = u.hand; committed = u.committed }) after.rest ∙ before.rest;
  free = after.free;
  pinned = after.pinned;
  later = later_then u b v before.later after.later;
}

module _ (u early : View) (base : StillTries u early) where
  module _ (v : View) (later : IsLater early v) where
    pub still_later : IsLater u v
    still_later = later_then u early v base.later later

    pub still_reads : OnlyReads early v → StillTries u v
    still_reads only = record {
      rest = ap (λ (r : Rest). record r { hand = u.hand; committed = u.committed }) only ∙ base.rest;
      free = ap (λ (r : Rest). r.held) only ∙ base.free;
      pinned = λ zero. base.pinned (sym (ap (λ (r : Rest). r.pin) only) ∙ zero);
      later = still_later;
    }

    pub still_takes : OnlyTakes early v → StillTries u v
    still_takes only = record {
      rest = ap (λ (t : View). rest_of (record t { hand = u.hand; committed = u.committed })) only ∙ base.rest;
      free = ap (λ (t : View). t.held) only ∙ base.free;
      pinned = λ zero. base.pinned (sym (ap (λ (t : View). t.pin) only) ∙ zero);
      later = still_later;
    }

    pub still_fails : (c : Change) (e : UpgradeFault) → HasFailed early c e v → v.held ≡ [] → StillTries u v
    still_fails c e failed free = record {
      rest = ap (λ (h : List Holding). record (rest_of v) { held = h; hand = u.hand; committed = u.committed }) (free ∙ sym base.free)
          ∙ (ap (λ (r : Rest). record r { hand = u.hand; committed = u.committed }) failed.rest ∙ base.rest);
      free = free;
      pinned = λ zero. base.pinned (sym (ap (λ (r : Rest). r.pin) failed.rest) ∙ zero);
      later = still_later;
    }

  -- by a check that succeeded since then the word was found since the view u
  pub checked_since : (z : Sizes) (k : List ℕ) (t : Position) (o : Cells) (read_set : ReadSet) (lower : List (Option ℕ)) (x : Stamp) (v : View) → CheckedSince z k t o read_set lower early x v → WasChecked u x v
  checked_since z k t o read_set lower x v checked =
      let first = base.later.steps in
      let began = checked.knows.stands.later in
      let step = ap (λ (s : View). s.steps) checked.passed.is in
      record { step = checked.after.steps; after = omega (arith, first, began, step); done = checked.done; found = checked.found }

  -- ---- an event is made

  module _ (w : View) where
    pub event_since : (what : Deed) → MakesEvent early w what → MakesEvent u w what
    event_since what m = record {
      between = m.between;
      seen = m.seen ∙ ap (λ (r : Rest). (r.seen ++ m.between) ++ event r.pass what ∷ []) base.rest;
      own = m.own ∙ ap (λ (r : Rest). r.own ++ length (r.seen ++ m.between) ∷ []) base.rest;
      legal = m.legal;
      all = subst (λ (i : ℕ). places i w.seen ≡ w.own) (ap (λ (r : Rest). r.pass) base.rest) m.all;
    }

    pub rest_told : OnlyTells early w → rest_of (record w { seen = u.seen; own = u.own; committed = u.committed; hand = u.hand }) ≡ rest_of u
    rest_told tells =
        ap (λ (r : Rest). record r { seen = u.seen; own = u.own; committed = u.committed; hand = u.hand }) tells
        ∙ ap (λ (r : Rest). record r { seen = u.seen; own = u.own }) base.rest

    module _ (c : Change) (done : IsCommitted early c w) (free : w.held ≡ []) where
      pub rest_committed : rest_of (record w { seen = u.seen; own = u.own; committed = u.committed; hand = u.hand; limbo = u.limbo }) ≡ rest_of u
      rest_committed =
          ap (λ (h : List Holding). record (rest_of w) { held = h; seen = u.seen; own = u.own; committed = u.committed; hand = u.hand; limbo = u.limbo }) (free ∙ sym base.free)
          ∙ (ap (λ (r : Rest). record r { seen = u.seen; own = u.own; committed = u.committed; hand = u.hand; limbo = u.limbo }) done.rest
          ∙ ap (λ (r : Rest). record r { seen = u.seen; own = u.own; limbo = u.limbo }) base.rest)

      pub limbo_committed : w.limbo ≡ all_retired done.pins (unlinked c) ++ u.limbo
      limbo_committed = done.limbo ∙ ap (λ (r : Rest). all_retired done.pins (unlinked c) ++ r.limbo) base.rest
