-- A step of a call is the one that its machine asked for.
use Rattle.std.specs.Prelude.{◌≡◌, ◌<◌, ℕ, zero, suc, List, Some}
use Rattle.art_change.specs.ArtAttempt.declared.attempts.Room.{Room}
use Rattle.art_change.specs.declared.callers.Call.{Call}
use Rattle.art_change.specs.declared.callers.Call.TheVariants as call
use Rattle.art_change.specs.declared.callers.Caller.{Caller}
use Rattle.art_change.specs.Writes as writes
use Rattle.art_change.specs.declared.writes.Write.{Write}
use Rattle.art_epoch.specs.Limbo.{places_of}
use Rattle.art_epoch.specs.declared.limbo.Place.{Place}
use Rattle.art_key.specs.declared.bounds.Bound.{Bound}
use Rattle.art_step.specs.Acting.{Answers, telling}
use Rattle.art_step.specs.declared.actions.Action.{Action}
use Rattle.art_step.specs.declared.actions.Answer.{Answer}
use Rattle.art_look.specs.declared.path_buffers.PathBuffer.{PathBuffer}
use Rattle.art_look.specs.Seeks as seeks
use Rattle.art_look.specs.Walks.{deed_at}
use Rattle.art_look.specs.declared.seeks.Seek.{Seek}
use Rattle.art_step.specs.declared.views.Sizes.{Sizes}
use Rattle.art_step.specs.declared.views.View.{View}

-- ---- of a write

-- what the write m asked for at the view v, with the room r, where ps waited, was made, and it is n then, at the view w, with the room s,
-- where qs wait; and less is left
pub record WriteMakes (z : Sizes) (v : View) (m : Write) (r : Room) (ps : List Place) (w : View) (n : Write) (s : Room)
    (qs : List Place) : Type 0 where
  pub asked : Action
  pub answer : Answer
  pub asks : writes.asks m r ps ≡ Some asked
  pub allowed : writes.IsAllowed z m r v asked
  pub row : writes.Answers z m r asked answer v w
  pub left : writes.steps_left n s qs < writes.steps_left m r ps
  pub fits : (u : View) (waited : List Place) → writes.Fits z u waited m r ps v → writes.Fits z u waited n s qs w

-- so often it went on with no step, since a counter was at its end
abbrev pub WriteWaits : ℕ → Sizes → View → Write → Room → List Place → Write → Room → List Place → Type 0
WriteWaits zero z v m r ps n s qs = (n ≡ m) × (s ≡ r) × (qs ≡ ps)
WriteWaits (suc times) z v m r ps n s qs = (a : Write) × (b : Room) × (cs : List Place) × WriteWaits times z v m r ps a b cs ×
    WriteMakes z v a b cs v n s qs

-- and then it made a step
pub record WriteGoes (z : Sizes) (v : View) (m : Write) (r : Room) (ps : List Place) (w : View) (n : Write) (s : Room)
    (qs : List Place) : Type 0 where
  pub times : ℕ
  pub between : Write
  pub room : Room
  pub waiting : List Place
  pub waits : WriteWaits times z v m r ps between room waiting
  pub makes : WriteMakes z v between room waiting w n s qs

-- ---- of a seek

-- what the seek m asked for at the view v, with the path buffer t, was made, and it is n then, at the view w, with the path buffer s
pub record SeekMakes (z : Sizes) (k : List ℕ) (hi : Bound) (v : View) (m : Seek) (t : PathBuffer) (w : View) (n : Seek) (s : PathBuffer)
    : Type 0 where
  pub asked : Action
  pub answer : Answer
  pub asks : seeks.asks m ≡ Some asked
  pub row : Answers z (telling (deed_at m.walk k hi t)) asked answer v w
  pub fits : (u : View) → seeks.Fits z k hi u m t v → seeks.Fits z k hi u n s w

-- ---- of a call

abbrev pub GoesBy : Sizes → View → Caller → Call → View → Caller → Call → Type 0
GoesBy z v c (call.Write m) w d (call.Write n) = WriteGoes z v m c.room (places_of c.limbo) w n d.room (places_of d.limbo)
GoesBy z v c (call.Seek m) w d (call.Seek n) = SeekMakes z c.key.items c.hi v m c.path_buffer w n d.path_buffer
GoesBy z v c m w d n = ⊥

-- from the caller c, at the view v, to the caller d, at the view w, its call made the step that it asked for
abbrev pub GoesAsAsked : Sizes → View → Caller → View → Caller → Type 0
GoesAsAsked z v c w d = GoesBy z v c c.call w d d.call
