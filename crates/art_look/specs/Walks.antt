-- A descent by a key, or a look of a range: the key k is the one that is looked for, or the lower end of the range.
use Rattle.std.specs.Prelude.{◌≡◌, ℕ, ◌+◌, ◌≤◌, List, if◌then◌else◌, Option, Some, None}
use Rattle.std.specs.Option.{option_map}
use Rattle.art_find.specs.Descents as descents
use Rattle.art_find.specs.Descents.{IsReading}
use Rattle.art_find.specs.Driven.{GetFits, get_done}
use Rattle.art_step.specs.declared.actions.Action.{Action}
use Rattle.art_find.specs.declared.straight.Tally.{Tally}
use Rattle.art_key.specs.declared.bounds.Bound.{Bound as KeyBound}
use Rattle.art_look.specs.Driven.{LookFits}
use Rattle.art_look.specs.Looks as looks
use Rattle.art_look.specs.Seen.{look_done}
use Rattle.art_look.specs.declared.looks.Reached.{Reached}
use Rattle.art_look.specs.declared.looks.Seen.{Seen as SeenOf}
use Rattle.art_look.specs.declared.path_buffers.PathBuffer.{PathBuffer}
use Rattle.art_look.specs.declared.walks.Aim.{Aim}
use Rattle.art_look.specs.declared.walks.Aim.TheVariants as aim
use Rattle.art_look.specs.declared.walks.Outcome.{Outcome}
use Rattle.art_look.specs.declared.walks.Outcome.TheVariants.{Found, Absent, Seen, Busy}
use Rattle.art_look.specs.declared.walks.Walk.{Walk}
use Rattle.art_look.specs.declared.walks.Walk.TheVariants.{Key, Range}
use Rattle.art_step.specs.Shows.{HasValue}
use Rattle.art_step.specs.declared.deeds.Deed.{Deed}
use Rattle.art_step.specs.declared.views.Sizes.{Sizes}
use Rattle.art_step.specs.declared.views.View.{View}
use Rattle.art_tree.specs.Heaps.{Cells}

-- ---- what it asks and tells

abbrev pub aim_of : Walk → Aim
aim_of (Key m) = aim.Key
aim_of (Range m) = aim.Range

-- the next step
abbrev pub asks : Walk → Option Action
asks (Key m) = descents.asks m.stage
asks (Range m) = looks.asks m.stage

abbrev pub of_value : Option ℕ → Outcome
of_value (Some value) = Found value
of_value None = Absent

-- how it ended, if it has
abbrev pub ended_at : Walk → Option Outcome
ended_at (Key m) = option_map of_value (descents.ended_at m.stage)
ended_at (Range m) = if looks.has_ended m.stage then Some Seen else None

-- how far a look has seen, where it has come to that
abbrev pub reached_at : Walk → Option Reached
reached_at (Key m) = None
reached_at (Range m) = looks.reached_at m.stage

-- what a look has seen, where it has come to that
abbrev pub seen_at : Walk → List ℕ → KeyBound → PathBuffer → Option SeenOf
seen_at (Key m) k hi t = None
seen_at (Range m) k hi t = looks.seen_at k hi t m.stage

-- what it settles there, and the event that it makes
abbrev pub Settles : Walk → List ℕ → PathBuffer → Cells → Type 0
Settles (Key m) k t s = HasValue s k (descents.answer_at m.stage)
Settles (Range m) k t s = looks.Settles k t m.stage s

abbrev pub deed_at : Walk → List ℕ → KeyBound → PathBuffer → Deed
deed_at (Key m) k hi t = get_done k (descents.answer_at m.stage)
deed_at (Range m) k hi t = looks.deed_at k hi t m.stage

-- ---- what it knows, of a pass that began with the view u, where it restarted so often

abbrev pub Fits : Sizes → List ℕ → KeyBound → View → Walk → PathBuffer → ℕ → View → Type 0
Fits z k hi u (Key m) t n v = GetFits z k u v m n
Fits z k hi u (Range m) t n v = LookFits z k hi u v m t n

-- a walk that began with the view u goes on, so many of its turns are left, and so often it restarted
pub record HasTurns (z : Sizes) (k : List ℕ) (hi : KeyBound) (turns : ℕ) (u : View) (w : Walk) (t : PathBuffer) (c : Tally) (v : View) : Type 0 where
  pub going : ended_at w ≡ None
  pub walk : Fits z k hi u w t c.restarts v
  pub made : v.steps + c.left ≡ u.steps + turns
  pub few : c.restarts + c.left ≤ 4294967295

-- it stands at its beginning
pub record IsAtStart (z : Sizes) (k : List ℕ) (hi : KeyBound) (w : Walk) (t : PathBuffer) : Type 0 where
  pub going : ended_at w ≡ None
  pub fits : (u : View) → IsReading u u → Fits z k hi u w t 0 u

-- ---- how it ends

-- it ended so; or it goes on, and no turn is left
abbrev pub IsEnd : Walk → ℕ → Outcome → Type 0
IsEnd w left Busy = (ended_at w ≡ None) × (left ≡ 0)
IsEnd w left o = ended_at w ≡ Some o

-- its event, if it made one
abbrev pub told_of : Outcome → List ℕ → KeyBound → PathBuffer → Walk → Option Deed
told_of (Found value) k hi t w = Some (get_done k (Some value))
told_of Absent k hi t w = Some (get_done k None)
told_of Seen k hi t w = option_map look_done (seen_at w k hi t)
told_of Busy k hi t w = None
