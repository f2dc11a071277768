-- What a cell on the way of a key shows of it.
use Rattle.std.specs.Prelude.{◌≡◌, ℕ, ◌*◌, ◌/◌, ◌%◌, List, ◌++◌, get_or, take}
use Rattle.art_cell.specs.declared.cells.Cell.{Cell}
use Rattle.art_cell.specs.declared.cells.Cell.TheVariants as cell
use Rattle.art_cell.specs.declared.cells.Link.TheVariants.{Leaf as leaf, Node as node}
use Rattle.art_cell.specs.declared.cells.Node.{Node}
use Rattle.art_cell.specs.Words.{child_of, nonzero, packed}
use Rattle.art_find.specs.Compares.{IsBeside}
use Rattle.art_find.specs.declared.descents.Beside.{Beside}
use Rattle.art_find.specs.declared.descents.LeafSeen.{LeafSeen}
use Rattle.art_node.specs.Searches.{KeysKnown}
use Rattle.art_path.specs.declared.compared.Compared.{Compared}
use Rattle.art_path.specs.Compared.{AreSame, IsCompared}
use Rattle.art_step.specs.Shows.{HasChild}
use Rattle.art_tree.specs.Heaps.{Cells, heap_of}
use Rattle.art_tree.specs.Tree.{StandsAt}

-- how many bytes the prefix has, by the header
abbrev pub count_in : ℕ → ℕ
count_in header = header / 512 % 128

-- the first bytes of the key, so many, lead to the node
abbrev pub IsOnNode : Cells → Node → List ℕ → ℕ → Type 0
IsOnNode s n k depth = StandsAt (heap_of s) (node n) (take depth k)

-- whose header is this
pub record HasHeader (s : Cells) (n : Node) (k : List ℕ) (depth header : ℕ) : Type 0 where
  pub at : IsOnNode s n k depth
  pub is_header : s (cell.Node n) 1 ≡ header

-- and whose prefix was compared with the key's next bytes as far as the word with a number
pub record IsInPrefix (s : Cells) (n : Node) (k : List ℕ) (depth header number : ℕ) (r : Compared) : Type 0 where
  pub on : HasHeader s n k depth header
  pub compared : IsCompared (packed (s (cell.Node n)) 2) (8 * number) k depth r

-- and has all bytes of the prefix next
pub record IsPassed (s : Cells) (n : Node) (k : List ℕ) (depth header : ℕ) : Type 0 where
  pub on : HasHeader s n k depth header
  pub same : AreSame (packed (s (cell.Node n)) 2) (count_in header) k depth

-- the path of the node with its prefix is the first bytes of the key, so many
pub record IsPastPrefix (s : Cells) (n : Node) (k : List ℕ) (depth header : ℕ) : Type 0 where
  pub place : List ℕ
  pub at : StandsAt (heap_of s) (node n) place
  pub is : place ++ (heap_of s).prefix n ≡ take depth k
  pub is_header : s (cell.Node n) 1 ≡ header

-- and the word of key bytes or of the index with a number is the next one that tells of the key's next byte
pub record IsAtKeys (s : Cells) (n : Node) (k : List ℕ) (depth header number : ℕ) : Type 0 where
  pub past : IsPastPrefix s n k depth header
  pub known : KeysKnown n.layout (get_or k depth 0) (s (cell.Node n)) number

-- and the child word at a place is that of the key's next byte
pub record IsAtSlot (s : Cells) (n : Node) (k : List ℕ) (depth header place : ℕ) : Type 0 where
  pub past : IsPastPrefix s n k depth header
  pub tells : child_of n.layout (s (cell.Node n)) (get_or k depth 0) ≡ nonzero (s (cell.Node n) place)

-- the path p leads to the leaf, which the cell names, and this is its value
pub record IsAtLeaf (s : Cells) (c : Cell) (l : ℕ) (p : List ℕ) (value : ℕ) : Type 0 where
  pub child : HasChild s c (leaf l) p
  pub is_value : s (cell.Leaf l) 0 ≡ value

-- and its key, of this length, was compared with another as far as the word with a number
pub record IsInKey (s : Cells) (seen : LeafSeen) (k p : List ℕ) (number : ℕ) (r : Beside) : Type 0 where
  pub leaf : IsAtLeaf s seen.stamp.cell seen.leaf p seen.value
  pub is_count : s (cell.Leaf seen.leaf) 1 ≡ seen.count
  pub beside : IsBeside (packed (s (cell.Leaf seen.leaf)) 2) (8 * number) k r
