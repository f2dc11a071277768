use Rattle.art_closed.proofs.Spelled.{maps_spell_one_list}
use Rattle.art_closed.proofs.laws.maps_spell_one_list.Goals as goal

pub returns : goal.returns
returns c = maps_spell_one_list
