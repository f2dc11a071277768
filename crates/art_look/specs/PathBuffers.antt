-- What the cell where a look stands shows of its path buffer.
use Rattle.std.specs.Prelude.{◌≡◌, ℕ, ◌*◌, List, ◌++◌, map, take}
use Rattle.std.specs.List.{range_with_len}
use Rattle.art_cell.specs.declared.cells.Cell.{Cell}
use Rattle.art_cell.specs.declared.cells.Cell.TheVariants as cell
use Rattle.art_cell.specs.declared.cells.Link.{Link}
use Rattle.art_cell.specs.declared.cells.Link.TheVariants.{Leaf as leaf, Node as node}
use Rattle.art_cell.specs.declared.cells.Node.{Node}
use Rattle.art_cell.specs.Words.{child_of, nonzero, packed}
use Rattle.art_find.specs.declared.descents.LeafSeen.{LeafSeen}
use Rattle.art_find.specs.declared.descents.NodeSeen.{NodeSeen}
use Rattle.art_look.specs.Table.{IsFirst}
use Rattle.art_node.specs.Searches.{IsOccupied, KeysKnownFrom}
use Rattle.art_step.specs.Shows.{HasChild}
use Rattle.art_tree.specs.Heaps.{Cells, heap_of}
use Rattle.art_tree.specs.Looks.{NoChildFrom}
use Rattle.art_tree.specs.Tree.{StandsAt}

-- the node stands at r, its header is this, and q is r with the first bytes of its prefix, so many
pub record SpellsPrefix (s : Cells) (n : Node) (r : List ℕ) (header count : ℕ) (q : List ℕ) : Type 0 where
  pub at : StandsAt (heap_of s) (node n) r
  pub is_header : s (cell.Node n) 1 ≡ header
  pub spelled : q ≡ r ++ map (packed (s (cell.Node n)) 2) (range_with_len 0 count)

-- so far as the word with a number, where the path to it has so many bytes
abbrev pub SpellsWords : Cells → NodeSeen → ℕ → ℕ → List ℕ → Type 0
SpellsWords s seen depth number q = SpellsPrefix s seen.node (take depth q) seen.header (8 * number) q

-- with all of them
pub record SpellsPath (s : Cells) (n : Node) (r : List ℕ) (header : ℕ) (q : List ℕ) : Type 0 where
  pub at : StandsAt (heap_of s) (node n) r
  pub is_header : s (cell.Node n) 1 ≡ header
  pub spelled : q ≡ r ++ (heap_of s).prefix n

-- and the word of key bytes or of the index with a number is the next one that tells of its least child from a byte on
pub record SeeksKeys (s : Cells) (n : Node) (r : List ℕ) (header : ℕ) (q : List ℕ) (low number : ℕ) : Type 0 where
  pub path : SpellsPath s n r header q
  pub known : KeysKnownFrom n.layout low (s (cell.Node n)) number

-- and no byte before this one has a child, whose child word stands at this place
pub record SeeksChild (s : Cells) (n : Node) (r q : List ℕ) (low byte place : ℕ) : Type 0 where
  pub header : ℕ
  pub path : SpellsPath s n r header q
  pub none : NoChildFrom (heap_of s) n low byte
  pub tells : child_of n.layout (s (cell.Node n)) byte ≡ nonzero (s (cell.Node n) place)
  pub occupied : IsOccupied n.layout (s (cell.Node n)) place

-- the cell names the leaf, to which q leads: the root, or the least child
pub record HasFirst (s : Cells) (c : Cell) (lo q : List ℕ) (l : ℕ) : Type 0 where
  pub child : HasChild s c (leaf l) q
  pub first : IsFirst (heap_of s) lo q l

-- or a node at q
abbrev pub Leads : Cells → Cell → List ℕ → List ℕ → Link → Type 0
Leads s c lo q (leaf l) = HasFirst s c lo q l
Leads s c lo q (node n) = HasChild s c (node n) q

-- the leaf has this value
pub record HasFirstValue (s : Cells) (c : Cell) (lo q : List ℕ) (l value : ℕ) : Type 0 where
  pub leaf : HasFirst s c lo q l
  pub is_value : s (cell.Leaf l) 0 ≡ value

-- and k is the first bytes of its key, so many
pub record SpellsKey (s : Cells) (c : Cell) (lo q : List ℕ) (seen : LeafSeen) (count : ℕ) (k : List ℕ) : Type 0 where
  pub valued : HasFirstValue s c lo q seen.leaf seen.value
  pub is_count : s (cell.Leaf seen.leaf) 1 ≡ seen.count
  pub spelled : k ≡ map (packed (s (cell.Leaf seen.leaf)) 2) (range_with_len 0 count)
