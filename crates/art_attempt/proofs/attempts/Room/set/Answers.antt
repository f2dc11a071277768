use Rattle.std.proofs.Common.{subst, rules}
use Rattle.art_attempt.specs.Trying.{IsKey}
use Rattle.art_attempt.proofs.attempts.Room.set.Goals as goal

pub returns-clause-key : goal.returns-clause-key
returns-clause-key c = subst IsKey c.as_slice.ensures.value c.copied-self.ensures.key

pub returns-clause-row : goal.returns-clause-row
returns-clause-row c = search rules
