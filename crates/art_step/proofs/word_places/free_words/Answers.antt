use Rattle.std.proofs.Common.{refl}
use Rattle.art_step.proofs.word_places.free_words.Goals as goal

pub returns : goal.returns
returns c = refl
