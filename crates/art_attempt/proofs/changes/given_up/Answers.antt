use Rattle.art_attempt.proofs.changes.given_up.Goals as goal

pub returns-in-Changed : goal.returns-in-Changed
returns-in-Changed c = rw c.in-Changed.is
