use Rattle.std.proofs.Common.{◌≡◌, ◌++◌, length, map, Some}
use Rattle.std.specs.List.{All}
use Rattle.art_handle.specs.Handles.{IsOfItsTable}
use Rattle.art_index_c.specs.Columns.{over}
use Rattle.art_index_c.proofs.opening.fill.Given as goal

abbrev pub invariant-loop-handle : goal.invariant-loop-handle
invariant-loop-handle l = record {
  place : l.place ≡ length l.yielded;
  whole : l.yielded ++ l.handle-iterator.rest.items ≡ l.fn.handles.items;
  left : All IsOfItsTable (map (λ b. b.value) l.handle-iterator.rest.items);
  held : map (λ p. p.held) l.passes ≡ over (map Some (map (λ b. b.value) l.yielded)) (map (λ p. p.held) l.initial.passes);
}
