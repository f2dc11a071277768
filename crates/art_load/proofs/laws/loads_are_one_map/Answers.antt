use Rattle.art_load.proofs.Closes.{loads_are_one_map}
use Rattle.art_load.proofs.laws.loads_are_one_map.Goals as goal

pub returns : goal.returns
returns c = loads_are_one_map
