-- What is shown.
use Rattle.art_cell.specs.declared.cells.Cell.TheVariants as cell
use Rattle.art_step.specs.Effects.{FindsVersion}
use Rattle.art_shared.specs.Marks.{Sees}
use Rattle.art_shared.proofs.pass.Pass.look.Given as goal

abbrev pub ghosts-load : goal.ghosts-load
ghosts-load a = record { shown = λ n. Sees a.self.now.seat.me.0.told; happens = λ n. FindsVersion cell.Anchor n }
