-- What an opaque pass owns, and what comes of it.
use base.Fml.{Fml, feq, fex, fsep, ftrue}
use denote.RawPtr.{Ptr, null_ptr}
use Rattle.std.specs.Prelude.{Option, Some, None}
use Rattle.std.specs.Box.Ownership.{box_owns}
use Rattle.std.specs.Global.{Global}
use Rattle.std_heap.specs.contracts.GlobalAllocator.TheImpl.{ghosts}
use Rattle.art_handle.specs.Handles.{IsOfItsTable}
use Rattle.art_handle.specs.contracts.handles.Handle.{the_row}

-- the box at p of the handle x
abbrev pub boxed : Global → Ptr → the_row.Denot → Fml
boxed alloc p x = box_owns (ghosts.dealloc_token alloc) the_row p x

-- nothing, at null; or the box at p of a handle whose pass is one of its table
abbrev pub owns_held : Global → Ptr → Option the_row.Denot → Fml
owns_held alloc p held =
    elim held as (λ _. Fml) [ None ↦ feq Ptr p null_ptr | Some x ↦ fsep (fex (IsOfItsTable x) (λ _. ftrue)) (boxed alloc p x) ]
