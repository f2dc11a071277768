-- What a list of turns comes to: one history, and the one event of each op.
use Rattle.std.specs.List.{slice_get}
use Rattle.std.specs.Prelude.{◌≡◌, ◌⊎◌, ◌++◌, ◌+◌, ◌<◌, ◌≤◌, ◌∷◌, ℕ, List, length, true, Option, Some, None}
use Rattle.art_change.specs.Calls.{HasCalled, IsCalling, StaysApart, Wish, restarts_in, told_by}
use Rattle.art_change.specs.declared.outcomes.Outcome.{Outcome}
use Rattle.art_key.specs.declared.columns.Column.{Column}
use Rattle.art_runs.specs.Ops.{IsApart, IsRunOfOps, IsTurnOf, caller_in, has_ended, outcome_in, turns_of}
use Rattle.art_runs.specs.TypedOps.{AreTyped}
use Rattle.art_runs.specs.declared.ops.Op.{Op}
use Rattle.art_step.specs.Events.{MakesEvent, SeesEvent}
use Rattle.art_step.specs.Histories.{IsAnswered, StartsWith, replay}
use Rattle.art_step.specs.Sound.{IsOneHistory, OneHolder, ShowsReplay}
use Rattle.art_step.specs.WordRows.{view_at, views_of}
use Rattle.art_step.specs.declared.deeds.Deed.{Deed}
use Rattle.art_step.specs.declared.views.Event.{Event}
use Rattle.art_step.specs.declared.views.View.{View}
use Rattle.art_tree.specs.Heaps.{Cells}
use Rattle.art_world.specs.Contents.{Contents, memory_now}

-- ---- one history

-- of the world l, which was k before: one legal history begins with all that each pass has seen, and so with what it had seen before, and
-- has the events of each at their places and no others. The tree has the rows that it leaves; its words are those of the world, but for
-- cells that a pass holds, which mean what they meant before its commit and what it wrote after that
pub record HasOneHistory (k l : Contents) : Type 0 where
  pub log : List Event
  pub history : IsOneHistory log (views_of l.views)
  pub before : (p : ℕ) → p < length k.views → StartsWith log (view_at k.views p).seen
  pub tree : Cells
  pub words : OneHolder (memory_now l) (views_of l.views) tree
  pub rows : ShowsReplay l.sizes log tree

-- ---- the one event of an op

-- the turns, the world k and its ops xs before them, the world l and its ops ys after them, and a pass p
module _ (turns : List ℕ) (k : Contents) (xs : List Op) (l : Contents) (ys : List Op) (p : ℕ) where
  -- the pass makes no event
  abbrev pub MakesNone : Type 0
  MakesNone = SeesEvent (view_at k.views p) (view_at l.views p) None

  -- at one of the turns, which is one of its own, the pass makes this event, by the one step of that turn, and it makes none before it and
  -- none after it. What the event says is what the map answers after the events before it: so a look found the rows of its range there
  pub record MakesOnce (what : Deed) : Type 0 where
    pub before : List ℕ
    pub after : List ℕ
    pub list : turns ≡ before ++ p ∷ after
    pub from : Contents
    pub waiting : List Op
    pub to : Contents
    pub moved : List Op
    pub run_before : IsRunOfOps before k xs from waiting
    pub turn : IsTurnOf p from waiting to moved
    pub run_after : IsRunOfOps after to moved l ys
    pub none_before : SeesEvent (view_at k.views p) (view_at from.views p) None
    pub step : (view_at to.views p).steps ≡ (view_at from.views p).steps + 1
    pub event : MakesEvent (view_at from.views p) (view_at to.views p) what
    pub answered : IsAnswered (replay ((view_at from.views p).seen ++ event.between)) what
    pub none_after : SeesEvent (view_at to.views p) (view_at l.views p) None

  -- the pass makes this event, once, or none
  abbrev pub Makes : Option Deed → Type 0
  Makes None = MakesNone
  Makes (Some what) = MakesOnce what

  -- it makes one event at most, which is an answer to the wish
  abbrev pub MakesOneAtMost : Wish → Type 0
  MakesOneAtMost w = MakesNone ⊎ ((o : Outcome) × (what : Deed) × (told_by w o ≡ Some what) × MakesOnce what)

  -- of the op a of the pass p, begun for the wish w, of a pass that had the view u then
  pub record IsCarriedOn (a : Op) (w : Wish) (given most : ℕ) (u : View) : Type 0 where
    -- what it is now, and its call goes on for what it was begun for, or has ended
    pub now : Op
    pub is : slice_get ys p ≡ Some now
    pub calling : IsCalling l.sizes w given most u (caller_in now) (view_at l.views p)
    -- whether or not it has ended, it makes one event at most, and none where it had made its event before
    pub once : MakesOneAtMost w
    pub told : (what : Deed) → MakesEvent u (view_at k.views p) what → MakesNone
    -- if it ended meanwhile, its call ended so, and the event is just that of its answer; of a refusal there is none
    pub called : outcome_in a ≡ None → (o : Outcome) → outcome_in now ≡ Some o →
        HasCalled l.sizes w given most (restarts_in (caller_in now)) u (caller_in now) o (view_at l.views p)
    pub answers : outcome_in a ≡ None → SeesEvent u (view_at k.views p) None → (o : Outcome) → outcome_in now ≡ Some o →
        Makes (told_by w o)
    -- it has ended once it had the turns that it was given and a thousand more; steps of its call that it made before count as turns
    pub ends : u.steps + given + 1000 ≤ (view_at k.views p).steps + turns_of p turns → has_ended now ≡ true
    -- where all keys spell tuples of a schema, it meets none that begins its own, or that its own begins
    pub apart : (schema : List Column) → AreTyped schema k xs → StaysApart (caller_in a) → IsApart now
