-- What the words of all cells mean: a heap.
use Rattle.std.specs.Prelude.{◌≡◌, ℕ, ◌<◌, ◌≤◌, List, [], nat_lt, if◌then◌else◌, Option, None}
use Rattle.std.specs.Option.{option_and_then}
use Rattle.art_cell.specs.declared.cells.Layout.{Layout}
use Rattle.art_cell.specs.declared.cells.Node.{Node}
use Rattle.art_cell.specs.declared.cells.Link.{Link}
use Rattle.art_cell.specs.declared.cells.Cell.{Cell}
use Rattle.art_cell.specs.declared.cells.Cell.TheVariants as cell
use Rattle.art_cell.specs.Children.{link_of}
use Rattle.art_cell.specs.Leaves.{leaf_key}
use Rattle.art_tree.specs.Tree.{Heap}
use Rattle.art_cell.specs.Words.{Words, prefix_len, prefix_of, child_of}

-- the words of each cell, by their places
abbrev pub Cells : Type 0
Cells = Cell → Words

-- the prefix of a node: none where the header says more than 64 bytes
abbrev pub node_prefix : Words → List ℕ
node_prefix w = if nat_lt 64 (prefix_len w) then [] else prefix_of w

-- the child of a node at a byte: none where the word names no cell
abbrev pub node_child : Layout → Words → ℕ → Option Link
node_child layout w b = if nat_lt b 256 then option_and_then link_of (child_of layout w b) else None

-- the key of a leaf: none where its length is over 64 bytes
abbrev pub key_of : Words → List ℕ
key_of w = if nat_lt 64 (w 1) then [] else leaf_key w

-- what the cells mean, whatever their words
unfoldable pub heap_of : Cells → Heap
heap_of s = record {
  root = link_of (s cell.Anchor 1);
  prefix = λ n. node_prefix (s (cell.Node n));
  child = λ n b. node_child n.layout (s (cell.Node n)) b;
  key = λ l. key_of (s (cell.Leaf l));
  value = λ l. s (cell.Leaf l) 0;
}

-- what the heap says of each cell is read off its words: the root; of a node with a prefix of at most 64 bytes the prefix, and
-- the child at each byte; of a leaf the value, and of one with a key of at most 64 bytes the key
pub record WordsMean (s : Cells) : Type 0 where
  pub root : (heap_of s).root ≡ link_of (s cell.Anchor 1)
  pub prefix : (n : Node) → prefix_len (s (cell.Node n)) ≤ 64 → (heap_of s).prefix n ≡ prefix_of (s (cell.Node n))
  pub child : (n : Node) (b : ℕ) → b < 256 → (heap_of s).child n b ≡ option_and_then link_of (child_of n.layout (s (cell.Node n)) b)
  pub key : (l : ℕ) → s (cell.Leaf l) 1 ≤ 64 → (heap_of s).key l ≡ leaf_key (s (cell.Leaf l))
  pub value : (l : ℕ) → (heap_of s).value l ≡ s (cell.Leaf l) 0

-- of all cells, whatever their words
abbrev pub WordsMeanCells : Type 0
WordsMeanCells = (s : Cells) → WordsMean s

-- the words mean the same as those of the cell before
abbrev pub MeansTheSame : Cell → Words → Words → Type 0
MeansTheSame cell.Anchor w w' = link_of (w' 1) ≡ link_of (w 1)
MeansTheSame (cell.Leaf l) w w' = (key_of w' ≡ key_of w) × (w' 0 ≡ w 0)
MeansTheSame (cell.Node n) w w' = (node_prefix w' ≡ node_prefix w) × ((b : ℕ) → node_child n.layout w' b ≡ node_child n.layout w b)
