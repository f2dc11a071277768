-- The opening, from step to step.
use Rattle.std.proofs.Common.{◌≡◌, ℕ, get_or, ◌+◌, ◌<◌, ◌≤◌, Bool, true, false, if◌then◌else◌, nat_lt, List, [], ◌∷◌, length, inr, sym, refl, ap, ◌∙◌, subst, arith, ltb-true, ltb-false}
use Rattle.std.proofs.lemmas.Bool.{lt-ltb, ne_eqb}
use Rattle.std.specs.Prelude.{Option, Some, None}
use Rattle.art_step.specs.Acting.{Answers, word_in}
use Rattle.art_step.specs.declared.actions.Answer.{Answer}
use Rattle.art_epoch.specs.Limbo.{IsLimbo, no_place, open_index}
use Rattle.art_epoch.specs.Pins as pins
use Rattle.art_epoch.specs.Pins.{MayPin, Pins}
use Rattle.art_epoch.specs.Reclaiming as reclaims
use Rattle.art_epoch.specs.Reclaiming.{OnlyReclaims, Reclaims, asks_at, least_at, places_after}
use Rattle.art_step.specs.declared.actions.Action.{Action}
use Rattle.art_step.specs.declared.actions.Action.TheVariants.{Free, ReadEpoch}
use Rattle.art_epoch.specs.declared.limbo.Place.{Place}
use Rattle.art_epoch.specs.declared.enter.Pinning.{Pinning}
use Rattle.art_epoch.specs.declared.enter.Pinning.TheVariants.{Noting}
use Rattle.art_epoch.specs.declared.limbo.ReclaimStage.{ReclaimStage}
use Rattle.art_epoch.specs.declared.limbo.ReclaimStage.TheVariants as stage
use Rattle.art_epoch.specs.declared.limbo.Reclaiming.{Reclaiming}
use Rattle.art_epoch.proofs.Pinned.{pinning_same}
use Rattle.art_epoch.proofs.Reclaimed.{only_reclaims, only_so_far, reclaim_ends, reclaim_steps, reclaim_told}
use Rattle.art_epoch.specs.Enter.{IsBlocked, IsBlocker, IsCrowded, IsOpened, IsPinnedOn, IsPinning, IsReclaimed, IsReclaiming, EnterFits, blocker_after, ended_at, first_label, going_on, reclaimed, reclaiming_after, steps_left, words_found}
use Rattle.art_epoch.specs.declared.enter.Blocker.{Blocker}
use Rattle.art_epoch.specs.declared.enter.Entered.TheVariants.{Pinned, Crowded}
use Rattle.art_epoch.specs.declared.enter.Enter.{Enter}
use Rattle.art_epoch.specs.declared.enter.Enter.TheVariants as at
use Rattle.art_epoch.proofs.Waiting.{limbo_mapped}
use Rattle.art_step.specs.Steps.Epoch.{label_or, labelled}
use Rattle.art_epoch.proofs.Blocking.{blocked_after, label_of_first, looks_same, reclaims_found}
use Rattle.art_step.specs.Steps.Epoch as epoch
use Rattle.art_step.specs.Steps.Pin as pin
use Rattle.art_step.specs.declared.views.Sizes.{Sizes}
use Rattle.art_step.specs.declared.views.View.{View}

-- ---- the beginning

-- the first step is the note of the epoch
pub noting_left : (passes : ℕ) (s : ReclaimStage) (qs : List Place) → asks_at s [] ≡ Some ReadEpoch → reclaims.steps_left passes s qs ≤ 2 + passes + length qs
noting_left passes stage.Noting qs is = omega arith
noting_left passes stage.Raising qs is = cc
noting_left passes (stage.Watching q least) qs is = cc
noting_left passes (stage.Freeing least n) qs is = cc

-- ---- the reclaim has ended

-- where no more is asked, none of the places may go
none_goes : (s : ReclaimStage) (qs : List Place) → asks_at s qs ≡ None → open_index (least_at s) qs < length qs → ⊥
none_goes stage.Noting qs none low = cc
none_goes stage.Raising qs none low = cc
none_goes (stage.Watching q least) qs none low = cc
none_goes (stage.Freeing least n) qs none low =
    let is : asks_at (stage.Freeing least n) qs ≡ Some (Free (get_or qs (open_index least qs) no_place).link) = ap (λ (b : Bool). if b then Some (Free (get_or qs (open_index least qs) no_place).link) else None) (lt-ltb (open_index least qs) (length qs) low) in
    cc

module _ (z : Sizes) (u v : View) (ps qs : List Place) (r : Reclaiming) (b : Blocker) (may : MayPin u) (some : 0 < length ps) (fits : reclaims.Fits z u ps r qs v) (blocked : IsBlocked u v (least_at r.stage) qs b) where
  ended : asks_at r.stage qs ≡ None → Reclaims z u v ps qs (reclaims.freed_at r.stage)
  ended none = reclaim_ends z u ps qs r v fits none

  few_steps : asks_at r.stage qs ≡ None → v.steps ≤ u.steps + 1 + z.passes + length ps
  few_steps none =
      let e = ended none in
      let own = fits.own in
      let inside = fits.inside in
      let passes = fits.passes in
      let steps = reclaim_steps z u v ps qs (reclaims.freed_at r.stage) (omega (arith, own, inside, passes)) e in
      let all = e.all in
      omega (arith, steps, all)

  has_reclaimed : asks_at r.stage qs ≡ None → IsReclaimed z u v ps qs
  has_reclaimed none = record {
    only = only_reclaims z u v ps qs (reclaims.freed_at r.stage) (ended none);
    limbo = (ended none).limbo;
    reclaimed = inr (some, (reclaims.freed_at r.stage, ended none));
    steps = few_steps none;
  }

  idle_still : asks_at r.stage qs ≡ None → v.pin ≡ 0
  idle_still none = ap (λ (t : View). t.pin) (has_reclaimed none).only ∙ may.idle

  -- too few places are free
  crowds : (rs : List Place) → qs ≡ rs → asks_at r.stage qs ≡ None → 60 < length qs → IsCrowded z u v ps qs b
  crowds [] same none full = absurd (let none_there : length qs ≡ 0 = ap length same in omega (arith, none_there, full))
  crowds (q ∷ rs) same none full = record {
    count = reclaims.freed_at r.stage;
    reclaims_once = ended none;
    only = (has_reclaimed none).only;
    idle = idle_still none;
    full = full;
    first = q;
    rest = rs;
    places = same;
    blocker =
        let label : first_label (least_at r.stage) qs ≡ Some q.label = subst (λ (ts : List Place). first_label (least_at r.stage) ts ≡ Some q.label) (sym same)
        (label_of_first (least_at r.stage) q rs (λ low. none_goes r.stage qs none (subst (λ (ts : List Place). open_index (least_at r.stage) ts < length ts) (sym same) low))) in
        subst (λ (ls : List reclaims.Look). IsBlocker ls q.label b)
        (looks_same blocked.looks (ended none).looks (words_found u) (sym blocked.found ∙ reclaims_found z u v ps qs (reclaims.freed_at r.stage) (ended none)))
        (blocked.blocker q.label label);
    limbo = (ended none).limbo;
    steps = few_steps none;
  }

  -- more goes back, or nothing more may
  goes_on : (o : Option Action) → asks_at r.stage qs ≡ o → EnterFits z u ps (going_on o r b qs) qs v
  goes_on (Some a) is = record { may = may; some = some; fits = fits; going = (a, is); blocked = blocked }
  goes_on None is = by_test (nat_lt 60 (length qs)) refl
    where
      by_test : (c : Bool) → nat_lt 60 (length qs) ≡ c → EnterFits z u ps (if c then at.Ended (Crowded b) else at.Pinning Noting) qs v
      by_test true full = crowds qs refl is (ltb-true 60 (length qs) full)
      by_test false room = record {
        early = v;
        reclaimed = has_reclaimed is;
        room = let few = ltb-false 60 (length qs) room in omega (arith, few);
        fits = (record { idle = idle_still is; free = ap (λ (t : View). t.held) (has_reclaimed is).only ∙ may.free }, refl);
        going = (ReadEpoch, refl);
      }

-- a step of the reclaim was made
pub told_reclaiming : (z : Sizes) (u v w : View) (ps qs : List Place) (r : Reclaiming) (b : Blocker) (a : Action) (answer : Answer) → IsReclaiming z u v ps qs r b → asks_at r.stage qs ≡ Some a → Answers z None a answer v w
    → EnterFits z u ps (reclaimed r b (word_in answer) qs) (places_after r.stage qs) w
told_reclaiming z u v w ps qs r b a answer k asked row =
    let x = word_in answer in
    goes_on z u w ps (places_after r.stage qs) (reclaiming_after r x) (blocker_after r b x qs) k.may k.some (reclaim_told z u ps qs r v k.fits w a answer asked row)
    (blocked_after z u v w ps qs r answer b k.fits a asked row k.blocked) (asks_at (reclaiming_after r x).stage (places_after r.stage qs)) refl

-- it leaves fewer steps
pub fewer_reclaiming : (r : Reclaiming) (b : Blocker) (x : ℕ) (qs : List Place) → reclaims.steps_left r.passes (reclaiming_after r x).stage (places_after r.stage qs) < reclaims.steps_left r.passes r.stage qs
    → steps_left (reclaimed r b x qs) (places_after r.stage qs) < 2 + reclaims.steps_left r.passes r.stage qs
fewer_reclaiming r b x qs fewer = by_asked (asks_at (reclaiming_after r x).stage (places_after r.stage qs))
  where
    by_asked : (o : Option Action) → steps_left (going_on o (reclaiming_after r x) (blocker_after r b x qs) (places_after r.stage qs)) (places_after r.stage qs) < 2 + reclaims.steps_left r.passes r.stage qs
    by_asked (Some a) = omega (arith, fewer)
    by_asked None = by_test (nat_lt 60 (length (places_after r.stage qs)))
      where
        by_test : (c : Bool) → steps_left (if c then at.Ended (Crowded (blocker_after r b x qs)) else at.Pinning Noting) (places_after r.stage qs) < 2 + reclaims.steps_left r.passes r.stage qs
        by_test true = omega (arith, fewer)
        by_test false = omega (arith, fewer)

-- ---- the pass is pinned

pinned_view : (v : View) (x : ℕ) → 0 < x → pin.view_after v x ≡ record v { steps = v.steps + 1; pins = v.pins + 1; pin = x }
pinned_view v x some = rw (ne_eqb x 0 (λ e. omega (arith, e, some))) refl

opens : (z : Sizes) (u early v : View) (ps qs : List Place) → IsReclaimed z u early ps qs → length qs + 4 ≤ 64 → Pins z early v → IsOpened z u v ps qs
opens z u early v ps qs k room p = record {
  early = early;
  reclaimed = k;
  room = room;
  pins_to = p;
  is = (is ∙ ap (λ (t : View). record early { steps = t.steps; pins = t.pins; pin = t.pin; noted = t.noted; found = t.found; limbo = t.limbo }) (sym is))
      ∙ ap (λ (t : View). record t { steps = v.steps; pins = v.pins; pin = v.pin; noted = v.noted; found = v.found; limbo = v.limbo }) k.only;
  pinned = subst (λ (t : View). 0 < t.pin) (sym is) p.some;
  once = ap (λ (t : View). t.pins) is ∙ ap (λ (t : View). t.pins + 1) k.only;
  limbo = subst (λ (t : View). IsLimbo qs [] t.limbo) (sym is) (limbo_mapped (labelled p.found) (λ e. refl) (λ e l is. ap (λ (o : Option ℕ). label_or o p.found) is) qs early.limbo k.limbo);
  steps = let a = ap (λ (t : View). t.steps) is in let b = k.steps in omega (arith, a, b);
}
  where
    is : v ≡ record early { steps = early.steps + 2; pins = early.pins + 1; pin = p.found; noted = (epoch.view_after early p.found).noted; limbo = (epoch.view_after early p.found).limbo }
    is = p.is ∙ (pinned_view (epoch.view_after early p.found) p.found p.some ∙ ap (λ (n : ℕ). record early { steps = n; pins = early.pins + 1; pin = p.found; noted = (epoch.view_after early p.found).noted; limbo = (epoch.view_after early p.found).limbo }) (omega arith))

pub told_pinning : (z : Sizes) (u v w : View) (ps qs : List Place) (p : Pinning) (m : Enter) → IsPinning z u v ps qs p → ((early : View) → pins.Fits z early p v → IsPinnedOn z early w m) → EnterFits z u ps m qs w
told_pinning z u v w ps qs p m k row = by_stage m (row k.early k.fits)
  where
    by_stage : (n : Enter) → IsPinnedOn z k.early w n → EnterFits z u ps n qs w
    by_stage (at.Reclaiming r b) i = absurd i
    by_stage (at.Pinning q) i = record { early = k.early; reclaimed = k.reclaimed; room = k.room; fits = i.0; going = i.1 }
    by_stage (at.Ended Pinned) i = opens z u k.early w ps qs k.reclaimed k.room i
    by_stage (at.Ended (Crowded b)) i = absurd i

-- ---- nothing is locked and nothing told by then

pub enter_same : (z : Sizes) (u v : View) (ps qs : List Place) (m : Enter) → EnterFits z u ps m qs v → ended_at m ≡ None → (v.held ≡ u.held) × (v.own ≡ u.own)
enter_same z u v ps qs (at.Reclaiming r b) fits on =
    let only = only_so_far z u v ps qs r fits.fits in
    (ap (λ (t : View). t.held) only, ap (λ (t : View). t.own) only)
enter_same z u v ps qs (at.Pinning p) fits on =
    let only = fits.reclaimed.only in
    let same = pinning_same z fits.early v p fits.fits fits.going in
    (same.0 ∙ ap (λ (t : View). t.held) only, same.1 ∙ ap (λ (t : View). t.own) only)
enter_same z u v ps qs (at.Ended o) fits on = cc
