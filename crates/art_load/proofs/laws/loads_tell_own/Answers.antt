use Rattle.art_load.proofs.Told.{load_calls, loads_tell_own}
use Rattle.art_load.proofs.laws.loads_tell_own.Goals as goal

pub returns : goal.returns
returns c = record { law = loads_tell_own; calls = load_calls }
