use Rattle.art_closed.proofs.Waiting.{limbos_add_up}
use Rattle.art_closed.proofs.laws.limbos_add_up.Goals as goal

pub returns : goal.returns
returns c = limbos_add_up
