use Rattle.art_key.proofs.TupleLaws.{none_begins}
use Rattle.art_key.proofs.laws.no_key_begins_another.Goals as goal

pub returns : goal.returns
returns c = none_begins
