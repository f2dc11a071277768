use Rattle.std.proofs.Common.{ap, sym}
use Rattle.art_step.specs.Effects.{released_word}
use Rattle.art_shared.proofs.steps.rise.Goals as goal

pub returns-then-obsolete : goal.returns-then-obsolete
returns-then-obsolete c = ap (released_word 0) (sym c.if-obsolete.true)
