use Rattle.art_change.proofs.writes.Write.told.Goals as goal
use Rattle.art_epoch.specs.Limbo.{places_of}

pub returns-in-Trying-clause-fits : goal.returns-in-Trying-clause-fits
returns-in-Trying-clause-fits c z u v w ps = c.try_told.ensures.fits z u v w ps (places_of c.args.limbo.now)
