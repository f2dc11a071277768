use Rattle.std.proofs.Common.{subst}
use Rattle.art_look.proofs.Closes.{closed_sought}
use Rattle.art_look.proofs.seeks.Seek.ended.Goals as goal
use Rattle.art_look.specs.Seeks.{StageFits}
use Rattle.art_look.specs.declared.seeks.SeekStage.{SeekStage as StageOf}

pub returns-in-Ended-clause-sought : goal.returns-in-Ended-clause-sought
returns-in-Ended-clause-sought c z k hi u v t short fits =
    let m = c.args.self.now in
    closed_sought z k hi u m t v (subst (λ (s : StageOf). StageFits z k hi u s m t v) c.in-Ended.is fits) short
