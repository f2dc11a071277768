-- The next larger and the next smaller layout.
use Rattle.art_cell.specs.declared.cells.Layout.{Layout}
use Rattle.art_cell.specs.declared.cells.Layout.TheVariants.{Node4, Node16, Node48, Node256}

abbrev pub larger : Layout → Layout
larger Node4 = Node16
larger Node16 = Node48
larger Node48 = Node256
larger Node256 = Node256

abbrev pub smaller : Layout → Layout
smaller Node4 = Node4
smaller Node16 = Node4
smaller Node48 = Node16
smaller Node256 = Node48
