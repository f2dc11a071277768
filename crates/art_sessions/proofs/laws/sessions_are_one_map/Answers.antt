use Rattle.art_sessions.proofs.Talks.{sessions_are_one_map}
use Rattle.art_sessions.proofs.laws.sessions_are_one_map.Goals as goal

pub returns : goal.returns
returns c = sessions_are_one_map
