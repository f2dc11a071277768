-- A call that is given up goes on with the turns that it has used; it held nothing, and had told nothing.
use Rattle.std.proofs.Common.{◌≡◌, ◌+◌, ◌≤◌, ◌∙◌, ℕ, List, refl, ap, subst, arith}
use Rattle.art_change.specs.Calls.{GoesOn, Get, Insert, IsCalling, Look, Remove, Wish, left_in}
use Rattle.art_change.specs.declared.callers.Call.{Call}
use Rattle.art_change.specs.declared.callers.Call.TheVariants as call
use Rattle.art_change.specs.declared.callers.Caller.{Caller}
use Rattle.art_change.proofs.GivenUp.{free_untold, refusing_is_free}
use Rattle.art_change.specs.Writes as writes
use Rattle.art_change.specs.Writes.{HoldsOrTold}
use Rattle.art_change.specs.declared.writes.Stage.{Stage}
use Rattle.art_change.specs.declared.writes.Stage.TheVariants as stage
use Rattle.art_change.specs.declared.writes.Write.{Write}
use Rattle.art_epoch.specs.Limbo.{places_of}
use Rattle.art_epoch.specs.declared.limbo.Place.{Place}
use Rattle.art_key.specs.declared.bounds.Bound.{Bound}
use Rattle.art_look.specs.declared.path_buffers.PathBuffer.{PathBuffer}
use Rattle.art_look.proofs.GivenUp.{busy_is_free}
use Rattle.art_look.specs.Seeks as seeks
use Rattle.art_look.specs.Walks.{aim_of}
use Rattle.art_look.specs.declared.seeks.Seek.{Seek}
use Rattle.art_look.specs.declared.seeks.SeekStage.{SeekStage}
use Rattle.art_look.specs.declared.seeks.SeekStage.TheVariants as seek_stage
use Rattle.art_step.specs.declared.views.Sizes.{Sizes}
use Rattle.art_step.specs.declared.views.View.{View}

-- ---- the turns that were used are no more than those that there were

write_used : (s : Stage) (m : Write) → writes.turns_used_at s m ≤ m.turns
write_used (stage.Enter e) m = omega arith
write_used (stage.Trying t) m = omega arith
write_used (stage.Exit x o) m = omega arith
write_used (stage.Ended o) m = omega arith

seek_used : (s : SeekStage) (m : Seek) → seeks.turns_used_at s m ≤ m.turns
seek_used seek_stage.Pinning m = omega arith
seek_used seek_stage.Walking m = omega arith
seek_used seek_stage.Closing m = omega arith
seek_used seek_stage.Ended m = omega arith

-- it goes on so
abbrev pub GoesOnUsed : Sizes → Wish → ℕ → ℕ → View → Caller → View → Type 0
GoesOnUsed z w given turns u c v = (used : ℕ) × (used ≤ turns) × IsCalling z w given used u c v

-- ---- a write

module _ (z : Sizes) (u : View) (c : Caller) (m n : Write) (v : View) (job : n.job ≡ m.job) (turns_are : n.turns ≡ writes.turns_used m)
    (left : (qs : List Place) → writes.steps_left n c.room qs ≤ writes.steps_left m c.room qs)
    (fits : (z : Sizes) (u v : View) (ps qs : List Place) → writes.Fits z u ps m c.room qs v → writes.Fits z u ps n c.room qs v) where
  few_left : (w : Wish) (given turns : ℕ) → c.call ≡ call.Write m → IsCalling z w given turns u c v → v.steps + left_in c (call.Write n) ≤ u.steps + given + 1000
  few_left w given turns is calling =
      let few = subst (λ (k : Call). v.steps + left_in c k ≤ u.steps + given + 1000) is calling.few in
      let less = left (places_of c.limbo) in
      omega (arith, few, less)

  pub write_given : (w : Wish) (given turns : ℕ) → c.call ≡ call.Write m → IsCalling z w given turns u c v → GoesOnUsed z w given turns u (record c { call = call.Write n }) v
  write_given w given turns is calling = by w (subst (λ (k : Call). GoesOn z w turns u c k v) is calling.goes_on) (few_left w given turns is calling) calling.within
    where
      by : (w : Wish) → GoesOn z w turns u c (call.Write m) v → v.steps + left_in c (call.Write n) ≤ u.steps + given + 1000 → turns ≤ given → GoesOnUsed z w given turns u (record c { call = call.Write n }) v
      by (Insert k value) on few within =
          let used = write_used m.stage m in
          let had = on.turns_are in
          let less : n.turns ≤ turns = omega (arith, used, turns_are, had) in (
            n.turns,
            less,
            record {
              goes_on = record {
                job_is = job ∙ on.job_is;
                turns_are = refl;
                key_is = on.key_is;
                value_is = on.value_is;
                few = on.few;
                waited = on.waited;
                stock = on.stock;
                ready = on.ready;
                fits = fits z u v on.waited (places_of c.limbo) on.fits;
              };
              few = few;
              within = omega (arith, less, within);
            },
          )
      by (Remove k) on few within =
          let used = write_used m.stage m in
          let had = on.turns_are in
          let less : n.turns ≤ turns = omega (arith, used, turns_are, had) in (
            n.turns,
            less,
            record {
              goes_on = record {
                job_is = job ∙ on.job_is;
                turns_are = refl;
                key_is = on.key_is;
                value_is = on.value_is;
                few = on.few;
                waited = on.waited;
                stock = on.stock;
                ready = on.ready;
                fits = fits z u v on.waited (places_of c.limbo) on.fits;
              };
              few = few;
              within = omega (arith, less, within);
            },
          )
      by (Get k) on few within = absurd on
      by (Look lo hi) on few within = absurd on

-- one that goes on in place of being given up
pub write_why : (z : Sizes) (u : View) (c : Caller) (m : Write) (v : View) → ((z : Sizes) (u v : View) (ps qs : List Place) → writes.Fits z u ps m c.room qs v → HoldsOrTold u v)
    → (w : Wish) (turns : ℕ) → GoesOn z w turns u c (call.Write m) v → HoldsOrTold u v
write_why z u c m v why (Insert k value) turns on = why z u v on.waited (places_of c.limbo) on.fits
write_why z u c m v why (Remove k) turns on = why z u v on.waited (places_of c.limbo) on.fits
write_why z u c m v why (Get k) turns on = absurd on
write_why z u c m v why (Look lo hi) turns on = absurd on

-- ---- a seek

module _ (z : Sizes) (u : View) (c : Caller) (m n : Seek) (v : View) (walk : n.walk ≡ m.walk) (turns_are : n.turns ≡ seeks.turns_used m) (left : seeks.steps_left n ≤ seeks.steps_left m)
    (fits : (z : Sizes) (k : List ℕ) (hi : Bound) (u v : View) (t : PathBuffer) → seeks.Fits z k hi u m t v → seeks.Fits z k hi u n t v) where
  pub seek_given : (w : Wish) (given turns : ℕ) → c.call ≡ call.Seek m → IsCalling z w given turns u c v → GoesOnUsed z w given turns u (record c { call = call.Seek n }) v
  seek_given w given turns is calling = by w (subst (λ (k : Call). GoesOn z w turns u c k v) is calling.goes_on) (subst (λ (k : Call). v.steps + left_in c k ≤ u.steps + given + 1000) is calling.few) calling.within
    where
      by : (w : Wish) → GoesOn z w turns u c (call.Seek m) v → v.steps + left_in c (call.Seek m) ≤ u.steps + given + 1000 → turns ≤ given → GoesOnUsed z w given turns u (record c { call = call.Seek n }) v
      by (Get k) on few within =
          let used = seek_used m.stage m in
          let had = on.turns_are in
          let less : n.turns ≤ turns = omega (arith, used, turns_are, had) in (
            n.turns,
            less,
            record {
              goes_on = record {
                aim_is = ap aim_of walk ∙ on.aim_is;
                turns_are = refl;
                key_is = on.key_is;
                bound_is = on.bound_is;
                short = on.short;
                caller = record { few = on.caller.few; sizes = on.caller.sizes; ready = on.caller.ready };
                fits = fits z k.items c.hi u v c.path_buffer on.fits;
              };
              few = omega (arith, few, left);
              within = omega (arith, less, within);
            },
          )
      by (Look lo hi) on few within =
          let o = on.0 in
          let used = seek_used m.stage m in
          let had = o.turns_are in
          let less : n.turns ≤ turns = omega (arith, used, turns_are, had) in (
            n.turns,
            less,
            record {
              goes_on = (
                record {
                  aim_is = ap aim_of walk ∙ o.aim_is;
                  turns_are = refl;
                  key_is = o.key_is;
                  bound_is = o.bound_is;
                  short = o.short;
                  caller = record { few = o.caller.few; sizes = o.caller.sizes; ready = o.caller.ready };
                  fits = fits z lo.items hi u v c.path_buffer o.fits;
                },
                on.1,
              );
              few = omega (arith, few, left);
              within = omega (arith, less, within);
            },
          )
      by (Insert k value) on few within = absurd on
      by (Remove k) on few within = absurd on

-- ---- one that is given up was free

pub write_free : (z : Sizes) (u : View) (c : Caller) (m n : Write) (v : View) → writes.WillRefuse n
    → ((z : Sizes) (u v : View) (ps qs : List Place) → writes.Fits z u ps m c.room qs v → writes.Fits z u ps n c.room qs v)
    → (w : Wish) (turns : ℕ) → GoesOn z w turns u c (call.Write m) v → HoldsOrTold u v → ⊥
write_free z u c m n v refuses fits (Insert k value) turns on = refusing_is_free z u on.waited n c.room (places_of c.limbo) v refuses (fits z u v on.waited (places_of c.limbo) on.fits)
write_free z u c m n v refuses fits (Remove k) turns on = refusing_is_free z u on.waited n c.room (places_of c.limbo) v refuses (fits z u v on.waited (places_of c.limbo) on.fits)
write_free z u c m n v refuses fits (Get k) turns on = absurd on
write_free z u c m n v refuses fits (Look lo hi) turns on = absurd on

pub seek_free : (z : Sizes) (u : View) (c : Caller) (m n : Seek) (v : View) → seeks.WillBeBusy n
    → ((z : Sizes) (k : List ℕ) (hi : Bound) (u v : View) (t : PathBuffer) → seeks.Fits z k hi u m t v → seeks.Fits z k hi u n t v)
    → (w : Wish) (turns : ℕ) → GoesOn z w turns u c (call.Seek m) v → HoldsOrTold u v → ⊥
seek_free z u c m n v busy fits (Get k) turns on =
    let free = busy_is_free z k.items c.hi u n c.path_buffer v busy (fits z k.items c.hi u v c.path_buffer on.fits) in
    free_untold u v free.0 free.1
seek_free z u c m n v busy fits (Look lo hi) turns on =
    let free = busy_is_free z lo.items hi u n c.path_buffer v busy (fits z lo.items hi u v c.path_buffer on.0.fits) in
    free_untold u v free.0 free.1
seek_free z u c m n v busy fits (Insert k value) turns on = absurd on
seek_free z u c m n v busy fits (Remove k) turns on = absurd on
