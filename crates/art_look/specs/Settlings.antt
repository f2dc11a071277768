-- What a walk stands at whose answer the next check settles.
use Rattle.std.specs.Prelude.{◌≡◌, Option, Some, None}
use Rattle.art_find.specs.declared.descents.Stage.{Stage}
use Rattle.art_find.specs.declared.descents.Stage.TheVariants as stage
use Rattle.art_look.specs.declared.looks.LookStage.{LookStage}
use Rattle.art_look.specs.declared.looks.LookStage.TheVariants as look_stage
use Rattle.art_look.specs.declared.walks.Settling.{Settling}
use Rattle.art_look.specs.declared.walks.Settling.TheVariants as settling
use Rattle.art_look.specs.declared.walks.Walk.{Walk}
use Rattle.art_look.specs.declared.walks.Walk.TheVariants.{Key, Range}
use Rattle.art_step.specs.declared.views.Stamp.{Stamp}

-- the stamp that is checked
abbrev pub stamp_of : Settling → Stamp
stamp_of (settling.Key x r) = x
stamp_of (settling.Range x r o) = x

abbrev pub LookStandsAt : Settling → LookStage → Type 0
LookStandsAt (settling.Range x r o) s = s ≡ look_stage.Decided x r o
LookStandsAt (settling.Key x r) s = ⊥

-- the walk stands there
abbrev pub StandsAt : Settling → Walk → Type 0
StandsAt (settling.Key x r) (Key m) = m.stage ≡ stage.Decided x r
StandsAt (settling.Key x r) (Range m) = ⊥
StandsAt (settling.Range x r o) (Key m) = ⊥
StandsAt (settling.Range x r o) (Range m) = m.stage ≡ look_stage.Decided x r o

-- what a walk stands at, if the next check settles the answer
abbrev pub look_settling : LookStage → Option Settling
look_settling (look_stage.Decided x r o) = Some (settling.Range x r o)
look_settling s = None

abbrev pub descent_settling : Stage → Option Settling
descent_settling (stage.Decided x r) = Some (settling.Key x r)
descent_settling s = None

abbrev pub settling_of : Walk → Option Settling
settling_of (Key m) = descent_settling m.stage
settling_of (Range m) = look_settling m.stage
