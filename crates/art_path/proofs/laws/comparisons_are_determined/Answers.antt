use Rattle.art_path.proofs.Comparing.{one_result}
use Rattle.art_path.proofs.laws.comparisons_are_determined.Goals as goal

pub returns : goal.returns
returns c = one_result
