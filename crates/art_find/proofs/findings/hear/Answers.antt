use Rattle.std.proofs.Common.{rules}
use Rattle.art_find.proofs.findings.hear.Goals as goal

pub returns-in-Some-Read : goal.returns-in-Some-Read
returns-in-Some-Read c = search rules
