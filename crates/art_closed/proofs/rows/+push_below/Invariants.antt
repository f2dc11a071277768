-- The rows below the children so far are written.
use Rattle.std.proofs.Common.{◌≡◌, ◌-◌, ◌++◌, take, vec_capacity}
use Rattle.std.specs.List.{flat_map}
use Rattle.art_cell.specs.declared.node_kinds.Entry.{Entry}
use Rattle.art_cell.specs.Children.{link_of}
use Rattle.art_closed.specs.Cells.{heap_in}
use Rattle.art_closed.specs.Listing.{listing, of_child, rows_spelled}
use Rattle.art_closed.proofs.rows.+push_below.Given as goal

abbrev pub decreases-push_below : goal.decreases-push_below
decreases-push_below l = l.depth

abbrev pub invariant-loop-entry : goal.invariant-loop-entry
invariant-loop-entry l =
    let below = λ (e : Entry). of_child (λ d. listing (heap_in l.reader.sizes l.reader.words.now) (l.depth - 1) d) (link_of e.child) in
    record {
      rows : l.rows.items ≡ l.fn.rows.items ++ rows_spelled l.schema (flat_map below (take l.entry-index l.entry-items));
      room : vec_capacity l.rows ≡ vec_capacity l.fn.rows;
    }
