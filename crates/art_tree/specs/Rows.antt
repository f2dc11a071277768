-- The map from byte keys to values, and the heap whose rows it has.
use Rattle.std.specs.Prelude.{◌≡◌, ℕ, List, Some, ◌↔◌}
use Rattle.std.specs.Ordering.{nat_cmp}
use Rattle.std.specs.Cmp.Lexicographic.{slice_cmp}
use Rattle.std.specs.FinMap.{FinMap, get}
use Rattle.art_cell.specs.declared.cells.Link.{Link}
use Rattle.art_tree.specs.Tree.{Heap, StandsAt, Row}

-- byte keys in ascending order, each with its value
abbrev pub ByteMap : Type 0
ByteMap = FinMap (slice_cmp nat_cmp) ℕ

-- the rows of the heap are those of the map
abbrev pub HasRows : Heap → ByteMap → Type 0
HasRows h f = (k : List ℕ) (v : ℕ) → Row h k v ↔ (get f k ≡ Some v)

-- no row has the key
abbrev pub IsAbsent : Heap → List ℕ → Type 0
IsAbsent h k = (v : ℕ) → Row h k v → ⊥

-- a path has one cell, and a cell one path
abbrev pub IsOneToOne : Heap → Type 0
IsOneToOne h =
    ((c d : Link) (p : List ℕ) → StandsAt h c p → StandsAt h d p → c ≡ d)
    × ((c : Link) (p r : List ℕ) → StandsAt h c p → StandsAt h c r → p ≡ r)
