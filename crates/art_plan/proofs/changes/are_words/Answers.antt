use Rattle.std.proofs.Common.{arith}
use Rattle.art_plan.proofs.changes.are_words.Goals as goal

pub returns : goal.returns
returns c place = omega (arith, c.type_inv.words place)
