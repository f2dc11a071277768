use Rattle.art_typed.proofs.Events.{histories_are_typed}
use Rattle.art_typed.proofs.laws.histories_are_typed.Goals as goal

pub returns : goal.returns
returns c = histories_are_typed
