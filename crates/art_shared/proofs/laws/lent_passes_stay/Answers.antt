use Rattle.art_shared.proofs.Lent.{lent_passes_stay}
use Rattle.art_shared.proofs.laws.lent_passes_stay.Goals as goal

pub returns : goal.returns
returns c = lent_passes_stay
