use Rattle.art_load.proofs.Left.{rows_left}
use Rattle.art_load.proofs.laws.rows_left.Goals as goal

pub returns : goal.returns
returns c = rows_left
