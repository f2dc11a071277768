-- Lists of turns, each the number of a pass.
use Rattle.std.specs.Prelude.{◌≡◌, ◌⊎◌, ℕ, ◌+◌, List, [], ◌∷◌, Bool, true, false, None, Some, slice_set}
use Rattle.std.specs.List.{slice_get}
use Rattle.art_step.specs.declared.views.Retired.{Retired}
use Rattle.art_step.specs.declared.views.Sizes.{Sizes}
use Rattle.art_step.specs.declared.views.View.{View}
use Rattle.art_step.specs.WordRows.{view_at, views_of}
use Rattle.art_step.specs.Sound.{IsSound}
use Rattle.art_step.specs.Steps.{OneStep}
use Rattle.art_step.specs.Steps.Give.{NobodyIsUnder, WentBack}
use Rattle.art_world.specs.Contents.{AtOnce, Contents, OnlyStepsOf, memory_now}

-- from the view v to the view w the pass made one step, or none, and its actor has ended
abbrev pub CountsOne : View → View → Bool → Type 0
CountsOne v w ended = (w.steps ≡ v.steps + 1) ⊎ ((w.steps ≡ v.steps) × (ended ≡ true))

-- the world l is k after one step of the pass; or it is k, and the actor has ended
abbrev pub MakesOne : ℕ → Contents → Contents → Bool → Type 0
MakesOne p k l ended = AtOnce (OneStep k.sizes p) k l ⊎ ((l ≡ k) × (ended ≡ true))

-- what left a limbo between the world k and the world l: no pass was still under a pin that its place held
abbrev pub FreesUnderNobody : Contents → Contents → Type 0
FreesUnderNobody k l = (q : ℕ) (e : Retired) → WentBack (view_at k.views q) (view_at l.views q) e → NobodyIsUnder (views_of k.views) e

-- actors: what each knows of the view of its pass, which have ended, and what a turn of one makes of it and of the world
module _ {A : Type 0} (fits : A → Sizes → View → Type 0) (ended : A → Bool) (makes : ℕ → A → Contents → A → Contents → Type 0) where
  -- the turn names no actor, or one that has ended
  abbrev pub NamesNobody : ℕ → List A → Type 0
  NamesNobody p xs = (slice_get xs p ≡ None) ⊎ ((x : A) × (slice_get xs p ≡ Some x) × (ended x ≡ true))

  -- the actor p makes its turn: then the world k is the world l, and the actors xs are ys
  pub record TakesTurn (p : ℕ) (k : Contents) (xs : List A) (l : Contents) (ys : List A) : Type 0 where
    pub before : A
    pub now : A
    pub named : slice_get xs p ≡ Some before
    pub goes_on : ended before ≡ false
    pub fits_before : fits before k.sizes (view_at k.views p)
    pub fits_now : fits now l.sizes (view_at l.views p)
    pub turn : makes p before k now l
    pub actors : ys ≡ slice_set xs p now
    pub only : OnlyStepsOf k l p
    pub step : MakesOne p k l (ended now)
    pub frees : FreesUnderNobody k l
    pub sound_before : IsSound k.sizes (memory_now k) (views_of k.views)
    pub sound : IsSound l.sizes (memory_now l) (views_of l.views)

  -- one turn: where it names nobody, nothing changes
  abbrev pub IsTurn : ℕ → Contents → List A → Contents → List A → Type 0
  IsTurn p k xs l ys = (NamesNobody p xs × (l ≡ k) × (ys ≡ xs)) ⊎ TakesTurn p k xs l ys

  -- the turns of the list, one after another
  abbrev pub IsRun : List ℕ → Contents → List A → Contents → List A → Type 0
  IsRun [] k xs l ys = (l ≡ k) × (ys ≡ xs)
  IsRun (t ∷ ts) k xs l ys = (m : Contents) × (zs : List A) × IsTurn t k xs m zs × IsRun ts m zs l ys
