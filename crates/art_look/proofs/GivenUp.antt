-- A seek that cannot be given up has made its event; one that will be busy holds nothing, and has made none.
use Rattle.std.proofs.Common.{◌≡◌, ◌≢◌, ℕ, ◌≤◌, List, [], length, Option, Some, None, refl, ap, ◌∙◌, subst}
use Rattle.std.specs.Option.{option_map}
use Rattle.art_key.specs.declared.bounds.Bound.{Bound as KeyBound}
use Rattle.art_look.proofs.Stages.{has_seen}
use Rattle.art_look.specs.Looks as looks
use Rattle.art_look.specs.Seen.{look_done}
use Rattle.art_look.specs.declared.looks.Seen.{Seen as SeenOf}
use Rattle.art_look.specs.declared.path_buffers.PathBuffer.{PathBuffer}
use Rattle.art_epoch.proofs.Pinned.{pinning_same}
use Rattle.art_look.proofs.Closes.{closed_sought, over_free, over_told, sees_all}
use Rattle.art_look.proofs.SeekEnds.{key_not_seen, range_seen}
use Rattle.art_look.proofs.Pinned.{pinned_is}
use Rattle.art_look.specs.Seeks.{Fits, IsOver, StageFits, WentIdle, WillBeBusy, busy_at}
use Rattle.art_look.specs.Walks.{IsEnd, told_of}
use Rattle.art_look.specs.declared.seeks.Seek.{Seek}
use Rattle.art_look.specs.declared.seeks.SeekStage.{SeekStage}
use Rattle.art_look.specs.declared.seeks.SeekStage.TheVariants as stage
use Rattle.art_look.specs.declared.walks.Outcome.{Outcome}
use Rattle.art_look.specs.declared.walks.Outcome.TheVariants.{Found, Absent, Seen, Busy}
use Rattle.art_look.specs.declared.walks.Walk.{Walk}
use Rattle.art_look.specs.declared.walks.Walk.TheVariants.{Key, Range}
use Rattle.art_step.specs.Events.{MakesEvent, SeesEvent}
use Rattle.art_step.specs.declared.deeds.Deed.{Deed}
use Rattle.art_step.specs.declared.views.Sizes.{Sizes}
use Rattle.art_step.specs.declared.views.View.{View}

module _ (k : List ℕ) (hi : KeyBound) (t : PathBuffer) where
  some_seen : (o : Option SeenOf) → (o ≡ None → ⊥) → (what : Deed) × (option_map look_done o ≡ Some what)
  some_seen (Some seen) some = (look_done seen, refl)
  some_seen None some = absurd (some refl)

  -- what is not busy was told
  is_told : (w : Walk) (left : ℕ) (o : Outcome) → IsEnd w left o → o ≢ Busy → (what : Deed) × (told_of o k hi t w ≡ Some what)
  is_told w left (Found value) ends idle = (_, refl)
  is_told w left Absent ends idle = (_, refl)
  is_told w left Busy ends idle = absurd (idle refl)
  is_told (Key m) left Seen ends idle = absurd (key_not_seen m left ends)
  is_told (Range m) left Seen ends idle = some_seen (looks.seen_at k hi t m.stage) (has_seen k hi t m.stage (range_seen m left ends))

module _ (z : Sizes) (k : List ℕ) (hi : KeyBound) (u : View) (m : Seek) (t : PathBuffer) (v : View) where
  pub told_over : IsOver z k hi u m t v → m.outcome ≢ Busy → (what : Deed) × MakesEvent u v what
  told_over over idle =
      let told = is_told k hi t m.walk m.left m.outcome over.ends idle in
      let opened = pinned_is z u over.walking.opened over.walking.may over.walking.pins_to in
      let sees = sees_all u over.walking.opened v v (ap (λ (a : View). a.seen) opened) (ap (λ (a : View). a.own) opened) (ap (λ (a : View). a.pass) opened)
      refl refl (told_of m.outcome k hi t m.walk) (over_told z k hi u m t v over).tells in
      (told.0, subst (SeesEvent u v) told.1 sees)

  pub told_idle : length k ≤ 64 → WentIdle z k hi u m t v → m.outcome ≢ Busy → (what : Deed) × MakesEvent u v what
  told_idle short c idle =
      let told = is_told k hi t m.walk m.left m.outcome c.over.ends idle in
      (told.0, subst (SeesEvent u v) told.1 (closed_sought z k hi u m t v c short).tells)

-- ---- one that will be busy

-- nothing is locked, and its own events are those that were
abbrev pub IsUntold : View → View → Type 0
IsUntold u v = (v.held ≡ []) × (v.own ≡ u.own)

module _ (z : Sizes) (k : List ℕ) (hi : KeyBound) (u : View) (m : Seek) (t : PathBuffer) where
  busy_over : (v : View) → IsOver z k hi u m t v → m.outcome ≡ Busy → IsUntold u v
  busy_over v over busy =
      let opened = pinned_is z u over.walking.opened over.walking.may over.walking.pins_to in
      let none = subst (SeesEvent over.walking.opened v) (ap (λ (o : Outcome). told_of o k hi t m.walk) busy) (over_told z k hi u m t v over).tells in
      (over_free z k hi u m t v over, none.1 ∙ ap (λ (a : View). a.own) opened)

  busy_free : (v : View) (s : SeekStage) → busy_at s m → StageFits z k hi u s m t v → IsUntold u v
  busy_free v stage.Pinning busy fits =
      let same = pinning_same z u v m.pinning fits.pinning fits.going in
      (same.0 ∙ fits.may.free, same.1)
  busy_free v stage.Walking busy fits = absurd busy
  busy_free v stage.Closing busy fits = busy_over v fits busy
  busy_free v stage.Ended busy fits =
      let before = busy_over fits.before fits.over busy in
      (ap (λ (a : View). a.held) fits.is ∙ before.0, ap (λ (a : View). a.own) fits.is ∙ before.1)

  pub busy_is_free : (v : View) → WillBeBusy m → Fits z k hi u m t v → IsUntold u v
  busy_is_free v busy fits = busy_free v m.stage busy fits
