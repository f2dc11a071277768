-- What is shown.
use Rattle.art_cell.specs.declared.cells.Cell.TheVariants as cell
use Rattle.art_step.specs.Effects.{FindsWord}
use Rattle.art_step.specs.Steps.Read as read
use Rattle.art_shared.proofs.steps.StepperSteps.read_leaf.Given as goal

abbrev pub ghosts-load : goal.ghosts-load
ghosts-load a = record { shown = λ n v w. read.LeafOutcome v w a._about.now.0 a._about.now.1 a._about.now.2 n; happens = λ n. FindsWord (cell.Leaf a._about.now.1) a._about.now.2 n }
