-- Each handle that was made has its share of the table, with the pass that was given; those that are left are passes of the table.
use Rattle.std.proofs.Common.{◌≡◌, map}
use Rattle.std.specs.List.{All}
use Rattle.std.specs.Arc.{arc_value}
use Rattle.art_handle.specs.Handles.{IsOfItsTable, pass_of, table_of}
use Rattle.art_scan.specs.ArtTable.Tables.{IsPassOf}
use Rattle.art_handle.proofs.opening.shared.Given as goal

abbrev pub invariant-loop-pass : goal.invariant-loop-pass
invariant-loop-pass l = record {
  own : All IsOfItsTable l.handles.items;
  passes : map pass_of l.handles.items ≡ l.yielded;
  table : All (λ h. table_of h ≡ arc_value l.table) l.handles.items;
  left : All (IsPassOf (arc_value l.table)) l.pass-iterator.rest.items;
}
