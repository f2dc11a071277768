-- A seek that has ended, as its call sees it.
use Rattle.std.proofs.Common.{◌≡◌, ◌+◌, ◌<◌, ◌≤◌, ℕ, true, List, Option, Some, None, get_or, length, refl, sym, ap, ◌∙◌, subst, arith}
use Rattle.std.specs.Option.{option_map}
use Rattle.arrayvec.specs.ArrayVec.{ArrayVec}
use Rattle.art_change.specs.Calls.{GoesOn, Get, HasCalled, Insert, IsCaller, LeavesTurns, Look, Remove, SeesRange, Wish, may_end, told_by, turns_left_in, turns_left_of}
use Rattle.art_change.specs.Outcomes.{of_look, of_seek}
use Rattle.art_change.specs.declared.callers.Call.TheVariants as call
use Rattle.art_change.specs.declared.callers.Caller.{Caller}
use Rattle.art_change.specs.declared.outcomes.Outcome.{Outcome as OutcomeOf}
use Rattle.art_change.specs.declared.outcomes.Outcome.TheVariants as outcome
use Rattle.art_change.specs.Writes.{UsedTurns}
use Rattle.art_epoch.specs.Limbo.{places_of}
use Rattle.art_key.specs.Bounds.{is_before}
use Rattle.art_key.specs.declared.bounds.Bound.{Bound}
use Rattle.art_look.proofs.Driven.{sees_after, sees_within}
use Rattle.art_look.specs.Driven.{LookEnds}
use Rattle.art_look.specs.Seen.{bound_at, look_done}
use Rattle.art_look.specs.declared.looks.Seen.{Seen as SeenOf}
use Rattle.art_look.specs.declared.path_buffers.PathBuffer.{PathBuffer}
use Rattle.art_look.proofs.Answered.{ended_closed, ended_end, ended_sought, look_ends, look_told, seen_busy}
use Rattle.art_look.proofs.SeekEnds.{key_not_seen, range_not_absent, range_not_found}
use Rattle.art_look.specs.Seeks as seeks
use Rattle.art_look.specs.Seeks.{Fits, HasSought, seen_by}
use Rattle.art_look.specs.Walks.{IsEnd, aim_of, told_of}
use Rattle.art_look.specs.declared.seeks.Seek.{Seek}
use Rattle.art_look.specs.declared.walks.Aim.TheVariants as aim
use Rattle.art_look.specs.declared.walks.Outcome.{Outcome}
use Rattle.art_look.specs.declared.walks.Outcome.TheVariants.{Found, Absent, Seen, Busy}
use Rattle.art_look.specs.declared.walks.Walk.{Walk}
use Rattle.art_look.specs.declared.walks.Walk.TheVariants.{Key, Range}
use Rattle.art_step.specs.Events.{SeesEvent}
use Rattle.art_step.specs.declared.views.Sizes.{Sizes}
use Rattle.art_step.specs.declared.views.View.{View}
use Rattle.art_tree.specs.declared.bounds.Bound.TheVariants.{To}

-- ---- a get

module _ (k : ArrayVec ℕ) (hi : Bound) (t : PathBuffer) (left : ℕ) where
  key_told : (w : Walk) (o : Outcome) (s : Option SeenOf) → aim_of w ≡ aim.Key → IsEnd w left o → told_of o k.items hi t w ≡ told_by (Get k) (of_seek o s)
  key_told w (Found value) s is ends = refl
  key_told w Absent s is ends = refl
  key_told w Busy s is ends = refl
  key_told (Key m) Seen s is ends = absurd (key_not_seen m left ends)
  key_told (Range m) Seen s is ends = cc

  key_may : (w : Walk) (o : Outcome) (s : Option SeenOf) → aim_of w ≡ aim.Key → IsEnd w left o → may_end (Get k) (of_seek o s) ≡ true
  key_may w (Found value) s is ends = refl
  key_may w Absent s is ends = refl
  key_may w Busy s is ends = refl
  key_may (Key m) Seen s is ends = absurd (key_not_seen m left ends)
  key_may (Range m) Seen s is ends = cc

  key_busy : (w : Walk) (o : Outcome) (s : Option SeenOf) → aim_of w ≡ aim.Key → IsEnd w left o → of_seek o s ≡ outcome.Busy → o ≡ Busy
  key_busy w (Found value) s is ends told = cc
  key_busy w Absent s is ends told = cc
  key_busy w Busy s is ends told = refl
  key_busy (Key m) Seen s is ends told = absurd (key_not_seen m left ends)
  key_busy (Range m) Seen s is ends told = cc

-- ---- a look

module _ (k : List ℕ) (hi : Bound) (t : PathBuffer) (left : ℕ) where
  seen_ends : (s : Option SeenOf) → of_seek Seen s ≡ of_look s
  seen_ends (Some seen) = refl
  seen_ends None = refl

  range_ends : (w : Walk) (o : Outcome) → aim_of w ≡ aim.Range → IsEnd w left o → of_seek o (seen_by (Some o) w k hi t) ≡ of_look (seen_by (Some o) w k hi t)
  range_ends w Seen is ends = seen_ends (seen_by (Some Seen) w k hi t)
  range_ends w Busy is ends = refl
  range_ends (Key m) (Found value) is ends = cc
  range_ends (Key m) Absent is ends = cc
  range_ends (Range m) (Found value) is ends = absurd (range_not_found m left value ends)
  range_ends (Range m) Absent is ends = absurd (range_not_absent m left ends)

module _ (lo : ArrayVec ℕ) (hi : Bound) where
  seen_tells : (s : Option SeenOf) → told_by (Look lo hi) (of_look s) ≡ option_map look_done s
  seen_tells (Some seen) = refl
  seen_tells None = refl

  seen_may : (s : Option SeenOf) → may_end (Look lo hi) (of_look s) ≡ true
  seen_may (Some seen) = refl
  seen_may None = refl

  seen_range : (z : Sizes) (u v : View) (s : Option SeenOf) → ((i : ℕ) → get_or lo.items i 0 < 256) → is_before (bound_at (To lo.items)) hi ≡ true → LookEnds z lo.items hi u v s
      → SeesRange z (Look lo hi) (of_look s)
  seen_range z u v (Some seen) small before ends = record {
    stood = ends.2;
    after = sees_after z lo.items hi u v (Some seen) small before ends;
    within = sees_within z lo.items hi u v (Some seen) ends;
  }
  seen_range z u v None small before ends = tt

some_seen : (s : Option SeenOf) (seen : SeenOf) → of_look s ≡ outcome.Seen seen → s ≡ Some seen
some_seen (Some x) seen is = cc
some_seen None seen is = cc

-- only one that has ended so has seen something
has_seen : (o : Outcome) (w : Walk) (k : List ℕ) (hi : Bound) (t : PathBuffer) (seen : SeenOf) → seen_by (Some o) w k hi t ≡ Some seen → o ≡ Seen
has_seen Seen w k hi t seen is = refl
has_seen (Found value) w k hi t seen is = cc
has_seen Absent w k hi t seen is = cc
has_seen Busy w k hi t seen is = cc

none_seen : (s : Option SeenOf) → of_look s ≡ outcome.Busy → s ≡ None
none_seen (Some seen) is = cc
none_seen None is = refl

-- ---- what a client sees

module _ (z : Sizes) (u : View) (c : Caller) (m : Seek) (v : View) (o : Outcome) (ended : seeks.ended_at m ≡ Some o)
    (k : ArrayVec ℕ) (hi : Bound) (turns : ℕ) (short : length k.items ≤ 64) (may : IsCaller z u c) (turns_are : m.turns ≡ turns) (fits : Fits z k.items hi u m c.path_buffer v) where
  sought : HasSought k.items hi u m c.path_buffer o v
  sought = ended_sought z k.items hi u m c.path_buffer v o ended fits short

  ends : IsEnd m.walk m.left o
  ends = ended_end z k.items hi u m c.path_buffer v o ended fits

  caller : IsCaller z v c
  caller =
      let i = sought.idle in
      let r = may.ready in
      record {
        few = may.few;
        sizes = may.sizes;
        ready = record {
          frame = record {
            own_is = r.frame.own_is ∙ sym i.pass;
            inside = r.frame.inside;
            passes_are = r.frame.passes_are;
            may = i.may;
            limbo = i.waits (places_of c.limbo) r.frame.limbo;
          };
          hand = i.hand ∙ r.hand;
          stock = r.stock;
        };
      }

  failed : u.failures + m.restarts ≤ v.failures
  failed = let a = sought.counted.failed in omega (arith, a)

  -- of its turns these are left
  leaves : c.call ≡ call.Seek m → aim_of m.walk ≡ aim.Range → (x : OutcomeOf) → ((seen : SeenOf) → x ≡ outcome.Seen seen → o ≡ Seen) → (x ≡ outcome.Busy → o ≡ Busy)
      → LeavesTurns turns (turns_left_in c) u x v
  leaves is look x seen_so busy_so =
      let left = ap turns_left_of is in
      subst (λ (n : ℕ). LeavesTurns turns n u x v) (sym left) (subst (λ (n : ℕ). LeavesTurns n m.left u x v) turns_are (record {
        spent = sought.spent look;
        some = λ seen told. sought.some (seen_so seen told);
        none = λ told. sought.none (busy_so told);
      }))

  used : o ≡ Busy → UsedTurns z u turns v
  used busy =
      let all = (sought.busy busy).all in
      let few = (sought.busy busy).few in
      let met = sought.counted.failed in
      let same = turns_are in
      record { counted = omega (arith, all, same); few = λ _. omega (arith, few, met, same) }

  -- and no step more
  counts : o ≡ Busy → v.steps ≡ u.steps + turns + 3
  counts busy = subst (λ (n : ℕ). v.steps ≡ u.steps + n + 3) turns_are (sought.busy busy).all

  -- a get, whatever a look would have seen
  pub get_called : (given : ℕ) (s : Option SeenOf) → aim_of m.walk ≡ aim.Key → v.steps ≤ u.steps + given + 1000 → HasCalled z (Get k) given turns m.restarts u c (of_seek o s) v
  get_called given s aim few = record {
    may = key_may k hi c.path_buffer m.left m.walk o s aim ends;
    tells = subst (SeesEvent u v) (key_told k hi c.path_buffer m.left m.walk o s aim ends) sought.tells;
    caller = caller;
    range = tt;
    ground = tt;
    failed = failed;
    busy = λ told. let busy = key_busy k hi c.path_buffer m.left m.walk o s aim ends told in record { used = used busy; counts = counts busy };
    left = tt;
    steps = few;
  }

  -- a look
  pub look_called : (given : ℕ) → aim_of m.walk ≡ aim.Range → c.call ≡ call.Seek m → ((i : ℕ) → get_or k.items i 0 < 256) → is_before (bound_at (To k.items)) hi ≡ true
      → v.steps ≤ u.steps + given + 1000 → HasCalled z (Look k hi) given turns m.restarts u c (of_look (seen_by (Some o) m.walk k.items hi c.path_buffer)) v
  look_called given aim called small before few =
      let s = seen_by (Some o) m.walk k.items hi c.path_buffer in
      let closed = ended_closed z k.items hi u m c.path_buffer v o ended fits in
      let looks = look_ends k.items hi c.path_buffer m.left z closed.over.walking.opened closed.before m.restarts m.walk o aim ends closed.over.walking.walk in
      record {
        may = seen_may k hi s;
        tells = subst (SeesEvent u v) (look_told k.items hi c.path_buffer m.left m.walk o aim ends ∙ sym (seen_tells k hi s)) sought.tells;
        caller = caller;
        range = seen_range k hi z closed.over.walking.opened closed.before s small before looks;
        ground = tt;
        failed = failed;
        busy = λ told. let busy = seen_busy k.items hi c.path_buffer m.left m.walk o aim ends (none_seen s told) in record { used = used busy; counts = counts busy };
        left = leaves called aim (of_look s)
            (λ seen told. has_seen o m.walk k.items hi c.path_buffer seen (some_seen s seen told))
            (λ told. seen_busy k.items hi c.path_buffer m.left m.walk o aim ends (none_seen s told));
        steps = few;
      }

module _ (z : Sizes) (u : View) (c : Caller) (m : Seek) (v : View) (o : Outcome) (ended : seeks.ended_at m ≡ Some o) where
  pub seek_called : (w : Wish) (given turns : ℕ) → c.call ≡ call.Seek m → ((i : ℕ) → get_or c.key.items i 0 < 256) → GoesOn z w turns u c (call.Seek m) v → v.steps ≤ u.steps + given + 1000
      → HasCalled z w given turns m.restarts u c (of_seek o (seeks.seen_at m c.key.items c.hi c.path_buffer)) v
  seek_called (Get k) given turns called small on few =
      get_called z u c m v o ended k c.hi turns on.short on.caller on.turns_are on.fits given (seeks.seen_at m c.key.items c.hi c.path_buffer) on.aim_is few
  seek_called (Look lo hi) given turns called small on few =
      let n = on.0 in
      let e = ends z u c m v o ended lo hi turns n.short n.caller n.turns_are n.fits in
      let same : of_seek o (seeks.seen_at m c.key.items c.hi c.path_buffer) ≡ of_look (seen_by (Some o) m.walk lo.items hi c.path_buffer) =
      ap (λ (k : ArrayVec ℕ). of_seek o (seeks.seen_at m k.items c.hi c.path_buffer)) n.key_is ∙ (ap (λ (b : Bound). of_seek o (seeks.seen_at m lo.items b c.path_buffer)) n.bound_is
      ∙ (ap (λ (p : Option Outcome). of_seek o (seen_by p m.walk lo.items hi c.path_buffer)) ended ∙ range_ends lo.items hi c.path_buffer m.left m.walk o n.aim_is e)) in
      let bytes = subst (λ (k : ArrayVec ℕ). (i : ℕ) → get_or k.items i 0 < 256) n.key_is small in
      subst (λ (x : OutcomeOf). HasCalled z (Look lo hi) given turns m.restarts u c x v) (sym same)
      (look_called z u c m v o ended lo hi turns n.short n.caller n.turns_are n.fits given n.aim_is called bytes on.1 few)
  seek_called (Insert k value) given turns called small on few = absurd on
  seek_called (Remove k) given turns called small on few = absurd on
