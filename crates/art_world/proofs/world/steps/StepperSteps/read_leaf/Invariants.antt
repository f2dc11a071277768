-- The word that is found.
use Rattle.art_cell.specs.declared.cells.Cell.TheVariants as cell
use Rattle.art_step.specs.Effects.{FindsWord}
use Rattle.art_step.specs.Steps.Read as read
use Rattle.art_world.proofs.world.steps.StepperSteps.read_leaf.Given as goal

abbrev pub ghosts-find : goal.ghosts-find
ghosts-find a = record { shown = λ v w. read.LeafOutcome v w a._about.now.0 a._about.now.1 a._about.now.2 a._about.now.3; happens = FindsWord (cell.Leaf a._about.now.1) a._about.now.2 a._about.now.3 }
