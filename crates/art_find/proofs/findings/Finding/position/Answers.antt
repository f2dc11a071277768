use Rattle.std.proofs.Common.{◌∙◌, rules, sym}
use Rattle.art_find.proofs.Standing.{decided_stands}
use Rattle.art_find.proofs.findings.Finding.position.Goals as goal

pub returns-clause-at : goal.returns-clause-at
returns-clause-at c = search rules

pub returns-clause-stands : goal.returns-clause-stands
returns-clause-stands c z k what read_set u v fits =
    decided_stands z k what c.args.self.now read_set u v _ fits (sym c.decided.ensures ∙ c.in_ok-stamp.was)
