-- What goes with a leaf, by the cell that names it.
use Rattle.std.specs.Prelude.{ℕ, ◌+◌, ◌%◌, unwrap_or, nat_lt, if◌then◌else◌}
use Rattle.art_cell.specs.Reads.{word_read}
use Rattle.art_cell.specs.declared.cells.Cell.{Cell}
use Rattle.art_cell.specs.declared.cells.Cell.TheVariants as cell
use Rattle.art_cell.specs.declared.cells.Layout.{Layout}
use Rattle.art_cell.specs.declared.cells.Layout.TheVariants.{Node4, Node16, Node48, Node256}
use Rattle.art_plan.specs.declared.choose_remove.Loss.{Loss}
use Rattle.art_plan.specs.declared.choose_remove.Loss.TheVariants.{Leaf, Merges, Shrinks}
use Rattle.art_node.specs.Sizes.{smaller}
use Rattle.art_plan.specs.ArtFind.ReadSets.{node_of}
use Rattle.art_plan.specs.ArtFind.declared.read_sets.ReadSet.{ReadSet}
use Rattle.art_plan.specs.ArtFind.declared.findings.Position.{Position}

-- with how many children a node gives way to a smaller one, which has places for more; the smallest does not
abbrev pub few_of : Layout → ℕ
few_of Node4 = 0
few_of Node16 = 3
few_of Node48 = 12
few_of Node256 = 36

-- of a node that has so many children, with the leaf
abbrev pub loss_in : Layout → ℕ → Loss
loss_in k count = if nat_lt count 3 then Merges else if nat_lt (few_of k + 1) count then Leaf else Shrinks (smaller k)

-- the anchor stays
abbrev pub loss_of : Cell → ℕ → Loss
loss_of (cell.Node n) header = loss_in n.layout (header % 512)
loss_of c header = Leaf

-- by the header that was read
abbrev pub loss_at : Position → ReadSet → Loss
loss_at t read_set = loss_of t.stamp.cell (unwrap_or (word_read (node_of read_set) 1) 0)
