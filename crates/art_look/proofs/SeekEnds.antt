-- A walk that is over: what it told, what it left as it was, and how many steps it made.
use Rattle.std.proofs.Common.{◌≡◌, ℕ, ◌+◌, ◌*◌, ◌<◌, ◌≤◌, Bool, true, false, if◌then◌else◌, List, length, Option, Some, None, refl, sym, ap, subst, arith}
use Rattle.std.specs.Option.{option_map}
use Rattle.art_find.proofs.Counting.{few_steps}
use Rattle.art_find.proofs.Stages.{has_ended, still_reading}
use Rattle.art_find.specs.Descents as descents
use Rattle.art_find.specs.Driven.{get_done}
use Rattle.art_find.specs.declared.descents.Descent.{Descent}
use Rattle.art_key.specs.declared.bounds.Bound.{Bound as KeyBound}
use Rattle.art_look.proofs.Counting.{ended_least, few_steps as few_look_steps}
use Rattle.art_look.proofs.Driven.{ended_with}
use Rattle.art_look.proofs.Stages.{has_seen, still_reading as still_looking}
use Rattle.art_look.specs.Looks as looks
use Rattle.art_look.specs.Seen.{look_done}
use Rattle.art_look.specs.declared.looks.Look.{Look}
use Rattle.art_look.specs.declared.looks.Seen.{Seen as SeenOf}
use Rattle.art_look.specs.declared.path_buffers.PathBuffer.{PathBuffer}
use Rattle.art_look.specs.Seeks.{reached_by, seen_by}
use Rattle.art_look.specs.Walks as walks
use Rattle.art_look.specs.Walks.{Fits, IsEnd, aim_of, ended_at, of_value, told_of}
use Rattle.art_look.specs.declared.walks.Aim.TheVariants as aim
use Rattle.art_look.specs.declared.walks.Outcome.{Outcome}
use Rattle.art_look.specs.declared.walks.Outcome.TheVariants.{Found, Absent, Seen, Busy}
use Rattle.art_look.specs.declared.walks.Walk.{Walk}
use Rattle.art_look.specs.declared.walks.Walk.TheVariants.{Key, Range}
use Rattle.art_step.specs.Events.{SeesEvent}
use Rattle.art_step.specs.Shows.{OnlyReads, OnlyTells, Rest}
use Rattle.art_step.specs.declared.deeds.Deed.{Deed}
use Rattle.art_step.specs.declared.views.Sizes.{Sizes}
use Rattle.art_step.specs.declared.views.View.{View}

-- ---- how it ended, by its stage

value_found : (e : Option (Option ℕ)) (value : ℕ) → option_map of_value e ≡ Some (Found value) → e ≡ Some (Some value)
value_found (Some (Some x)) value is = cc
value_found (Some None) value is = cc
value_found None value is = cc

value_absent : (e : Option (Option ℕ)) → option_map of_value e ≡ Some Absent → e ≡ Some None
value_absent (Some (Some x)) is = cc
value_absent (Some None) is = refl
value_absent None is = cc

value_not_seen : (e : Option (Option ℕ)) → option_map of_value e ≡ Some Seen → ⊥
value_not_seen (Some (Some x)) is = cc
value_not_seen (Some None) is = cc
value_not_seen None is = cc

value_not_busy : (e : Option (Option ℕ)) → option_map of_value e ≡ Some Busy → ⊥
value_not_busy (Some (Some x)) is = cc
value_not_busy (Some None) is = cc
value_not_busy None is = cc

pub value_going : (e : Option (Option ℕ)) → option_map of_value e ≡ None → e ≡ None
value_going (Some x) is = cc
value_going None is = refl

seen_ended : (b : Bool) → (if b then Some Seen else None) ≡ Some Seen → b ≡ true
seen_ended true is = refl
seen_ended false is = cc

pub seen_going : (b : Bool) → (if b then Some Seen else None) ≡ None → b ≡ false
seen_going true is = cc
seen_going false is = refl

seen_alone : (b : Bool) (o : Outcome) → (if b then Some Seen else None) ≡ Some o → o ≡ Seen
seen_alone true o is = cc
seen_alone false o is = cc

-- a get sees no range, and a look finds no value
pub key_not_seen : (m : Descent) (left : ℕ) → IsEnd (Key m) left Seen → ⊥
key_not_seen m left ends = value_not_seen (descents.ended_at m.stage) ends

pub range_seen : (m : Look) (left : ℕ) → IsEnd (Range m) left Seen → looks.has_ended m.stage ≡ true
range_seen m left ends = seen_ended (looks.has_ended m.stage) ends

pub range_going : (m : Look) (left : ℕ) → IsEnd (Range m) left Busy → looks.has_ended m.stage ≡ false
range_going m left ends = seen_going (looks.has_ended m.stage) ends.0

pub range_not_found : (m : Look) (left value : ℕ) → IsEnd (Range m) left (Found value) → ⊥
range_not_found m left value ends = let same = seen_alone (looks.has_ended m.stage) (Found value) ends in cc

pub range_not_absent : (m : Look) (left : ℕ) → IsEnd (Range m) left Absent → ⊥
range_not_absent m left ends = let same = seen_alone (looks.has_ended m.stage) Absent ends in cc

-- no walk ends for want of turns
pub ends_as : (w : Walk) (left : ℕ) (o : Outcome) → ended_at w ≡ Some o → IsEnd w left o
ends_as w left (Found value) is = is
ends_as w left Absent is = is
ends_as w left Seen is = is
ends_as (Key m) left Busy is = absurd (value_not_busy (descents.ended_at m.stage) is)
ends_as (Range m) left Busy is = let same = seen_alone (looks.has_ended m.stage) Busy is in cc

-- ---- what it left

-- but for the event, it only read
pub record HasTold (u v : View) (what : Option Deed) : Type 0 where
  pub rest : OnlyTells u v
  pub tells : SeesEvent u v what

told_none : (u v : View) → OnlyReads u v → HasTold u v None
told_none u v reads = record {
  rest = ap (λ (r : Rest). record r { seen = u.seen; own = u.own }) reads;
  tells = (ap (λ (r : Rest). r.seen) reads, ap (λ (r : Rest). r.own) reads);
}

module _ (z : Sizes) (k : List ℕ) (hi : KeyBound) (u : View) (t : PathBuffer) (n : ℕ) (v : View) where
  key_told : (m : Descent) (left : ℕ) (o : Outcome) → IsEnd (Key m) left o → Fits z k hi u (Key m) t n v → HasTold u v (told_of o k hi t (Key m))
  key_told m left (Found value) ends fits =
      let q = has_ended z k (get_done k) m.depth m.stage (Some value) u v (value_found (descents.ended_at m.stage) value ends) fits.fits in
      record { rest = q.1; tells = q.0 }
  key_told m left Absent ends fits =
      let q = has_ended z k (get_done k) m.depth m.stage None u v (value_absent (descents.ended_at m.stage) ends) fits.fits in
      record { rest = q.1; tells = q.0 }
  key_told m left Seen ends fits = absurd (key_not_seen m left ends)
  key_told m left Busy ends fits =
      told_none u v (still_reading z k (get_done k) m.depth m.stage u v (value_going (descents.ended_at m.stage) ends.0) fits.fits).only

  look_told : (m : Look) → looks.has_ended m.stage ≡ true → Fits z k hi u (Range m) t n v → (o : Option SeenOf) → looks.seen_at k hi t m.stage ≡ o → HasTold u v (option_map look_done (looks.seen_at k hi t m.stage))
  look_told m ended fits (Some seen) is =
      let q = ended_with z k hi u v m t n ended fits (Some seen) is in
      subst (λ (p : Option SeenOf). HasTold u v (option_map look_done p)) (sym is) (record { rest = q.1; tells = q.0 })
  look_told m ended fits None is = absurd (has_seen k hi t m.stage ended is)

  range_told : (m : Look) (left : ℕ) (o : Outcome) → IsEnd (Range m) left o → Fits z k hi u (Range m) t n v → HasTold u v (told_of o k hi t (Range m))
  range_told m left Seen ends fits = look_told m (range_seen m left ends) fits (looks.seen_at k hi t m.stage) refl
  range_told m left Busy ends fits = told_none u v (still_looking z k hi m.depth t m.stage u v (range_going m left ends) fits.fits).only
  range_told m left (Found value) ends fits = absurd (range_not_found m left value ends)
  range_told m left Absent ends fits = absurd (range_not_absent m left ends)

  pub has_told : (w : Walk) (left : ℕ) (o : Outcome) → IsEnd w left o → Fits z k hi u w t n v → HasTold u v (told_of o k hi t w)
  has_told (Key m) left o ends fits = key_told m left o ends fits
  has_told (Range m) left o ends fits = range_told m left o ends fits

  -- ---- how many steps it made

  pub failures_met : (w : Walk) → Fits z k hi u w t n v → v.failures ≡ u.failures + n
  failures_met (Key m) fits = fits.counts.failures
  failures_met (Range m) fits = fits.counts.failures

  -- a look
  pub range_few : (w : Walk) → aim_of w ≡ aim.Range → Fits z k hi u w t n v → v.steps < u.steps + 30000 * (n + 1)
  range_few (Key m) is fits = cc
  range_few (Range m) is fits =
      let few = few_look_steps z k hi m.depth t m.stage u v fits.fits in
      let made = fits.counts.steps in
      omega (arith, few, made)

  -- either, until it has ended
  pub few_made : (w : Walk) → length k ≤ 64 → ended_at w ≡ None → Fits z k hi u w t n v → v.steps < u.steps + 30000 * (n + 1)
  few_made (Key m) short going fits =
      let few = few_steps z k (get_done k) m.depth m.stage u v short (value_going (descents.ended_at m.stage) going) fits.fits in
      let made = fits.counts.steps in
      omega (arith, few, made)
  few_made (Range m) short going fits = range_few (Range m) refl fits

  -- where a look has seen something
  pub some_made : (w : Walk) (left : ℕ) → IsEnd w left Seen → Fits z k hi u w t n v → u.steps + 3 ≤ v.steps
  some_made (Key m) left ends fits = absurd (key_not_seen m left ends)
  some_made (Range m) left ends fits =
      let three = ended_least m.stage (range_seen m left ends) in
      let least = fits.least in
      omega (arith, three, least)

-- ---- what a look has seen is by how far it has come

range_reached : (w : Walk) (k : List ℕ) (hi : KeyBound) (t : PathBuffer) → option_map (looks.seen_to k hi t) (walks.reached_at w) ≡ walks.seen_at w k hi t
range_reached (Key m) k hi t = refl
range_reached (Range m) k hi t = refl

pub seen_reached : (o : Outcome) (w : Walk) (k : List ℕ) (hi : KeyBound) (t : PathBuffer) → option_map (looks.seen_to k hi t) (reached_by (Some o) w) ≡ seen_by (Some o) w k hi t
seen_reached (Found value) w k hi t = refl
seen_reached Absent w k hi t = refl
seen_reached Seen w k hi t = range_reached w k hi t
seen_reached Busy w k hi t = refl
