use Rattle.art_epoch.proofs.enter.unpin.Goals as goal

pub returns-clause-row : goal.returns-clause-row
returns-clause-row g c = assumption c
