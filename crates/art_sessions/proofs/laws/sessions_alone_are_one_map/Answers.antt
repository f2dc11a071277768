use Rattle.art_sessions.proofs.OneMap.{sessions_alone_are_one_map}
use Rattle.art_sessions.proofs.laws.sessions_alone_are_one_map.Goals as goal

pub returns : goal.returns
returns c = sessions_alone_are_one_map
