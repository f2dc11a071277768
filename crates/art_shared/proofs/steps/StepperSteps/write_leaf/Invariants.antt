-- What is shown.
use Rattle.art_cell.specs.declared.cells.Cell.TheVariants as cell
use Rattle.art_cell.specs.declared.cells.Link.TheVariants.{Leaf as leaf}
use Rattle.art_step.specs.declared.views.InHand.{InHand}
use Rattle.art_step.specs.Effects.{PutsWord}
use Rattle.art_step.specs.Steps.Write as write
use Rattle.art_step.specs.Views.{IsInHand}
use Rattle.art_shared.proofs.steps.StepperSteps.write_leaf.Given as goal

abbrev pub ghosts-store : goal.ghosts-store
ghosts-store a = record { shown = λ n v w. (y : InHand) → IsInHand v (leaf a._about.now.0) y → write.LeafOutcome v w y a._about.now.1 n; happens = λ n. PutsWord (cell.Leaf a._about.now.0) a._about.now.1 n }
