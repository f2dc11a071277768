use Rattle.art_cell.specs.declared.cells.Link.{Link}
use Rattle.art_step.specs.Steps.Give.{May, Outcome}
use Rattle.art_step.specs.declared.views.View.{View}
use Rattle.art_epoch.proofs.enter.give.Goals as goal

given : {v w : View} {d : Link} → (May v d → Outcome v w d) → May v d → Outcome v w d
given step may = step may

pub returns-clause-row : goal.returns-clause-row
returns-clause-row g c = given (assumption c) c.requires
