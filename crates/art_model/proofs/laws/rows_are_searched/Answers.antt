use Rattle.art_model.proofs.Places.{searched}
use Rattle.art_model.proofs.laws.rows_are_searched.Goals as goal

pub returns : goal.returns
returns c = λ order rows t r sorted. searched order rows sorted t r
