use Rattle.std.proofs.Common.{rules}
use Rattle.art_find.proofs.read_sets.Rereading.new.Goals as goal

pub returns-clause-fits : goal.returns-clause-fits
returns-clause-fits c = search rules
