use Rattle.art_model.proofs.TextOrder.{text_order}
use Rattle.art_model.proofs.laws.texts_stand_by_code_points.Goals as goal

pub returns : goal.returns
returns c = text_order
