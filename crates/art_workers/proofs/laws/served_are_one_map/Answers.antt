use Rattle.art_workers.proofs.OneMap.{served_are_one_map}
use Rattle.art_workers.proofs.laws.served_are_one_map.Goals as goal

pub returns : goal.returns
returns c = served_are_one_map
