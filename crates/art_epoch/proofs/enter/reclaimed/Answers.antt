-- The step may have found the word of a pass.
use Rattle.art_epoch.specs.Limbo.{places_of}
use Rattle.art_epoch.proofs.Reclaimed.{reclaim_hears}
use Rattle.art_epoch.proofs.enter.reclaimed.Goals as goal

pub watched-found-requires : goal.watched-found-requires
watched-found-requires c = let k = c.requires in reclaim_hears k.0 k.1 k.4 (places_of c.args.limbo.now) c.args.reclaiming k.2 k.6 k.3 k.5 c.args.answer k.7 k.8
