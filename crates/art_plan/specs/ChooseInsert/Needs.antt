-- What an insert needs, by where its key stands.
use Rattle.std.specs.Prelude.{◌%◌, ◌==◌, if◌then◌else◌, Some, None, true, false}
use Rattle.art_cell.specs.Words.{places}
use Rattle.art_cell.specs.declared.cells.Layout.{Layout}
use Rattle.art_cell.specs.declared.cells.Layout.TheVariants.{Node4, Node256}
use Rattle.art_plan.specs.declared.choose_insert.Needs.{Needs}
use Rattle.art_find.specs.declared.descents.Verdict.{Verdict}
use Rattle.art_find.specs.declared.descents.Verdict.TheVariants.{LeafMismatch, PrefixMismatch, NoChild}
use Rattle.art_node.specs.Sizes.{larger}

-- no node, and nothing above is written
abbrev pub nothing : Needs
nothing = record { node = None; above = false }

-- the next larger node, in the place of a full one; the largest has a place for each byte, and is never full where one is free
abbrev pub full_needs : Layout → Needs
full_needs Node256 = nothing
full_needs layout = record { node = Some (larger layout); above = true }

-- a node that has both leaves, or the node with the other prefix and the leaf, is one of four places
abbrev pub needs_of : Verdict → Needs
needs_of (LeafMismatch l at byte) = record { node = Some Node4; above = false }
needs_of (PrefixMismatch n header at) = record { node = Some Node4; above = true }
needs_of (NoChild n header) = if header % 512 == places n.layout then full_needs n.layout else nothing
needs_of verdict = nothing
