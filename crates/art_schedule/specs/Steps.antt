-- Steps that were made one after another, and the marks on them.
use Rattle.std.specs.Prelude.{◌≡◌, ℕ, ◌+◌, ◌<◌, Bool, true, false, List, [], ◌∷◌, ◌++◌, length, count_by, bytes_eq}
use Rattle.art_model.specs.declared.rows.Row.{Row}
use Rattle.art_server.specs.ArtScan.Running.{HasNoStep, view_in}
use Rattle.art_server.specs.ArtTable.Tables.{sizes_in}
use Rattle.art_server.specs.ArtTable.Steps.{Made, MakesStep}
use Rattle.art_step.specs.declared.views.View.{View}
use Rattle.art_schedule.specs.declared.lines.Mark.{Mark}
use Rattle.art_schedule.specs.declared.lines.Mark.TheVariants.{Kind, Event}
use Rattle.art_server.specs.ArtScan.declared.running.Running.{Running}
use Rattle.art_server.specs.ArtTable.declared.tables.Table.{Table}
use Rattle.art_step.specs.declared.views.Sizes.{Sizes}
use Rattle.art_step.specs.StepNames.{step_name}

-- from the view v to w these steps were made, each from where the one before it left the pass
abbrev pub MakesSteps : Sizes → View → List Made → View → Type 0
MakesSteps z v [] w = w ≡ v
MakesSteps z v (step ∷ steps) w = (m : View) × MakesStep z v m step × MakesSteps z m steps w

-- a step has a mark where it is of the kind that the mark names, or makes an event
abbrev pub is_marked : Mark → Made → Bool
is_marked (Kind kind) step = bytes_eq (step_name step.kind) (step_name kind)
is_marked Event step = step.event

-- how many of the steps have the mark
abbrev pub marked : Mark → List Made → ℕ
marked mark steps = count_by (is_marked mark) steps

-- ---- so many steps

-- exactly so many were made
pub record MakesMany (t : Table) (n : ℕ) (old new : Running) : Type 0 where
  pub made : List Made
  pub steps : MakesSteps (sizes_in t) (view_in old) made (view_in new)
  pub many : length made ≡ n

-- fewer were made, and none is left
pub record MakesFewer (t : Table) (n : ℕ) (old new : Running) (rows : List Row) : Type 0 where
  pub made : List Made
  pub steps : MakesSteps (sizes_in t) (view_in old) made (view_in new)
  pub few : length made < n
  pub none : HasNoStep t new rows

abbrev pub StepsOrStops : Table → ℕ → Running → Running → List Row → Bool → Type 0
StepsOrStops t n old new rows true = MakesMany t n old new
StepsOrStops t n old new rows false = MakesFewer t n old new rows

-- ---- until a mark

-- the last step is the one that has the mark for the n-th time
pub record ReachesMark (t : Table) (mark : Mark) (n : ℕ) (old new : Running) : Type 0 where
  pub before : List Made
  pub last : Made
  pub steps : MakesSteps (sizes_in t) (view_in old) (before ++ last ∷ []) (view_in new)
  pub is : is_marked mark last ≡ true
  pub count : marked mark before + 1 ≡ n

-- fewer steps with the mark were made, and no step is left
pub record MissesMark (t : Table) (mark : Mark) (n : ℕ) (old new : Running) (rows : List Row) : Type 0 where
  pub made : List Made
  pub steps : MakesSteps (sizes_in t) (view_in old) made (view_in new)
  pub few : marked mark made < n
  pub none : HasNoStep t new rows

abbrev pub ReachesOrStops : Table → Mark → ℕ → Running → Running → List Row → Bool → Type 0
ReachesOrStops t mark n old new rows true = ReachesMark t mark n old new
ReachesOrStops t mark n old new rows false = MissesMark t mark n old new rows
