use Rattle.art_key.proofs.TupleLaws.{keys_stand}
use Rattle.art_key.proofs.laws.keys_stand_as_tuples.Goals as goal

pub returns : goal.returns
returns c = keys_stand
