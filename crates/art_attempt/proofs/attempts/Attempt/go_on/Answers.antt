use Rattle.std.proofs.Common.{ap, subst}
use Rattle.art_attempt.proofs.attempts.Attempt.go_on.Goals as goal
use Rattle.art_attempt.specs.Attempts.{StandsAt}
use Rattle.art_attempt.specs.declared.attempts.Stage.TheVariants as stages
use Rattle.art_find.specs.declared.findings.Position.{Position}

pub returns-in-Placed : goal.returns-in-Placed
returns-in-Placed c =
    let m = c.args.self.now in
    let same = subst (StandsAt c.args.position.now) c.in-Placed.is c.requires.at in
    ap (λ (t : Position). record m { stage = stages.Placed t c.args.part }) same
