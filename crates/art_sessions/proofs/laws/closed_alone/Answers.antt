use Rattle.art_sessions.proofs.Alone.{closed_alone}
use Rattle.art_sessions.proofs.laws.closed_alone.Goals as goal

pub returns : goal.returns
returns c = closed_alone
