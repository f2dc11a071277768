use Rattle.std.proofs.Common.{rules}
use Rattle.art_attempt.proofs.attempts.Room.spend.Goals as goal

pub returns-in-Some-copied : goal.returns-in-Some-copied
returns-in-Some-copied c = search rules

pub returns-in_default-copied : goal.returns-in_default-copied
returns-in_default-copied c = search rules
