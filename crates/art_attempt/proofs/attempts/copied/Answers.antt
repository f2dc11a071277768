use Rattle.std.proofs.Common.{arith}
use Rattle.art_attempt.proofs.attempts.copied.Goals as goal

pub returns-clause-key : goal.returns-clause-key
returns-clause-key c = record { bytes = λ i. omega (arith, c.type_inv.bytes i); short = c.requires }
