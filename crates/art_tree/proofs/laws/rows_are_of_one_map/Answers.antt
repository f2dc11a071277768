use Rattle.art_tree.proofs.Frame.{one_map}
use Rattle.art_tree.proofs.Full.{listed}
use Rattle.art_tree.proofs.laws.rows_are_of_one_map.Goals as goal

pub returns-clause-map : goal.returns-clause-map
returns-clause-map c = one_map

pub returns-clause-entries : goal.returns-clause-entries
returns-clause-entries c = listed
