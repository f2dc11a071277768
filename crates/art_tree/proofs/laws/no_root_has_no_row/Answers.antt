use Rattle.art_tree.proofs.Frame.{opened_sound, opened_unlinked, opened_rows}
use Rattle.art_tree.proofs.laws.no_root_has_no_row.Goals as goal

pub returns-clause-tree : goal.returns-clause-tree
returns-clause-tree c = opened_sound

pub returns-clause-unlinked : goal.returns-clause-unlinked
returns-clause-unlinked c = opened_unlinked

pub returns-clause-rows : goal.returns-clause-rows
returns-clause-rows c = opened_rows
