use Rattle.art_tree.proofs.Full.{row_below_cell}
use Rattle.art_tree.proofs.laws.cells_lead_to_rows.Goals as goal

pub returns : goal.returns
returns c = row_below_cell
