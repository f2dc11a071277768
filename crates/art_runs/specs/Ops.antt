-- What contracts see of an op: the call of a pass that takes turns.
use Rattle.std.specs.Option.{is_some}
use Rattle.std.specs.Prelude.{◌≡◌, ◌≢◌, ◌==◌, ℕ, Bool, List, Option, Some, None, ⊤, count_by}
use Rattle.art_change.specs.AsAsked.{GoesAsAsked}
use Rattle.art_change.specs.Calls.{FindsOverlap, HasCalled, IsCalling, StaysApart, Wish, outcome_at, restarts_in}
use Rattle.art_change.specs.Made.{MakesStep}
use Rattle.art_change.specs.declared.callers.Caller.{Caller}
use Rattle.art_change.specs.declared.driver.Made.{Made}
use Rattle.art_change.specs.declared.outcomes.Outcome.{Outcome}
use Rattle.art_change.specs.declared.outcomes.Outcome.TheVariants.{Overlaps}
use Rattle.art_runs.specs.declared.ops.Op.{Op}
use Rattle.art_step.specs.WordRows.{view_at}
use Rattle.art_step.specs.declared.views.Sizes.{Sizes}
use Rattle.art_step.specs.declared.views.View.{View}
use Rattle.art_world.specs.Contents.{Contents}
use Rattle.art_world.specs.Turns.{IsRun, TakesTurn}

-- its call
abbrev pub caller_in : Op → Caller
caller_in a = a.caller.value

-- how it ended, if it has
abbrev pub outcome_in : Op → Option Outcome
outcome_in a = outcome_at (caller_in a)

-- the step that its last turn made, if it made one
abbrev pub last_in : Op → Option Made
last_in a = a.last

abbrev pub has_ended : Op → Bool
has_ended a = is_some (outcome_in a)

-- its call was begun for this wish, of a pass that had the view began then, and goes on or has ended
pub record IsUnderWay (z : Sizes) (a : Op) (v : View) : Type 0 where
  pub wish : Wish
  pub given : ℕ
  pub turns : ℕ
  pub began : View
  pub calling : IsCalling z wish given turns began (caller_in a) v

-- if it has ended, its call ended so, whatever it was begun for
abbrev pub EndsAsCalled : Op → Type 0
EndsAsCalled a = (o : Outcome) → outcome_in a ≡ Some o → (z : Sizes) (w : Wish) (given turns : ℕ) (u v : View) →
    IsCalling z w given turns u (caller_in a) v → HasCalled z w given turns (restarts_in (caller_in a)) u (caller_in a) o v

-- its call met no key that begins its own, or that its own begins, and did not end so
pub record IsApart (a : Op) : Type 0 where
  pub call : StaysApart (caller_in a)
  pub outcome : outcome_in a ≢ Some Overlaps

-- from the view v to w this step was made, or none
abbrev pub MakesLast : Sizes → Option Made → View → View → Type 0
MakesLast z (Some made) v w = MakesStep z v w made
MakesLast z None v w = w ≡ v

-- the step, if one was made, is the one that the call c asked for, which is d then
abbrev pub AsksLast : Sizes → Option Made → View → Caller → View → Caller → Type 0
AsksLast z (Some made) v c w d = GoesAsAsked z v c w d
AsksLast z None v c w d = ⊤

-- one turn of the op of the pass p: its call makes one step, the one that it asks for, which it keeps, or none, and it goes on for what
-- it was begun for; it meets a key that begins its own, or that its own begins, only by a check that finds one
pub record Goes (p : ℕ) (a : Op) (k : Contents) (b : Op) (l : Contents) : Type 0 where
  pub last : MakesLast k.sizes (last_in b) (view_at k.views p) (view_at l.views p)
  pub asked : AsksLast k.sizes (last_in b) (view_at k.views p) (caller_in a) (view_at l.views p) (caller_in b)
  pub calling : (w : Wish) (given turns : ℕ) (u : View) → IsCalling k.sizes w given turns u (caller_in a) (view_at k.views p) →
      IsCalling l.sizes w given turns u (caller_in b) (view_at l.views p)
  pub ends : EndsAsCalled b
  pub apart : (FindsOverlap k.sizes (caller_in a) (view_at k.views p) (view_at l.views p) → ⊥) → StaysApart (caller_in a) →
      StaysApart (caller_in b)

-- the turn is one of the op of the pass p, which has not ended: then the world k is l, and the ops xs are ys
abbrev pub IsTurnOf : ℕ → Contents → List Op → Contents → List Op → Type 0
IsTurnOf p k xs l ys = TakesTurn (λ a z v. IsUnderWay z a v) has_ended Goes p k xs l ys

-- the turns of the list, one after another
abbrev pub IsRunOfOps : List ℕ → Contents → List Op → Contents → List Op → Type 0
IsRunOfOps turns k xs l ys = IsRun (λ a z v. IsUnderWay z a v) has_ended Goes turns k xs l ys

-- how many of the turns name the pass p
abbrev pub turns_of : ℕ → List ℕ → ℕ
turns_of p turns = count_by (λ t. t == p) turns
