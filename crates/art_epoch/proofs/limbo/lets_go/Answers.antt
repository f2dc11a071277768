use Rattle.art_epoch.proofs.limbo.lets_go.Goals as goal

pub returns-in-Some : goal.returns-in-Some
returns-in-Some c = rw c.in-Some.is
