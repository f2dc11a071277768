-- The rows of a handle that is held: in a box, in a box that is taken apart, and opaque.
use mir.Syntax.{impl, tnil, dnil}
use mathlib.Core.List.{[]}
use denote.RattleType.{RattleType}
use denote.Signature.{Slot, plain}
use Rattle.std_alloc.proofs.BoxSteps.Form.{Bx}
use Rattle.std_heap.specs.contracts.Global as Heap
use Rattle.std_heap.specs.contracts.GlobalAllocator.TheImpl.{ghosts, dict}
use Rattle.std_heap.proofs.Global.TheLaws as heap
use Rattle.art_handle.specs.contracts.handles.Handle as Inner
use Rattle.art_handle.proofs.handles.Handle.TheLaws as inner
use Rattle.art_index_c.specs.contracts.opaque.OpaquePass as Opaque
use Rattle.art_index_c.specs.contracts.unboxed.Unboxed as Apart

-- a box of a handle on the heap
abbrev pub E : Bx
E = record { row = Inner.the_row; laws = inner.the_row_laws; al = record { row = Heap.the_row; laws = heap.the_row_laws; g = ghosts; d = dict; drops = impl [] tnil dnil } }

abbrev pub ApartRow : RattleType
ApartRow = Apart.the_row Inner.the_row Heap.the_row ghosts

abbrev pub OpaqueRow : RattleType
OpaqueRow = Opaque.the_row

abbrev pub FromHeap : Slot 0
FromHeap = plain (λ _. Heap.the_row)

abbrev pub FromApart : Slot 0
FromApart = plain (λ _. ApartRow)

abbrev pub FromOpaque : Slot 0
FromOpaque = plain (λ _. OpaqueRow)
