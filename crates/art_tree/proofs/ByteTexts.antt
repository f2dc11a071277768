-- What words mean is texts of bytes, whatever the words.
use Rattle.std.proofs.Common.{◌≡◌, ℕ, ◌/◌, ◌%◌, ◌<◌, Bool, true, false, cond, ltb, List, [], ◌∷◌, ◌++◌, Some, None, map, sym, ap, subst, ⊎_elim}
use Rattle.std.proofs.lemmas.Bool.{cases_lt, le-ltb}
use Rattle.std.specs.List.{range_with_len}
use Rattle.std.specs.Option.{option_and_then}
use Rattle.art_cell.specs.declared.cells.Node.{Node}
use Rattle.art_cell.specs.declared.cells.Link.{Link}
use Rattle.art_cell.specs.declared.cells.Link.TheVariants.{Node as node}
use Rattle.art_cell.specs.declared.cells.Cell.TheVariants as cell
use Rattle.art_cell.specs.Children.{link_of}
use Rattle.art_tree.specs.Heaps.{Cells, heap_of}
use Rattle.art_tree.specs.Looks.{AreBytes}
use Rattle.art_cell.specs.Lemmas.Packed.{packed_below}
use Rattle.art_tree.specs.Tree.{StandsAt, top, down}
use Rattle.art_cell.specs.Words.{Words, packed, child_of}

-- bytes packed from a place on, or none where there are too many
packed_bytes : (w : Words) (too_many : Bool) (places : List ℕ) → AreBytes (cond too_many [] (map (packed w 2) places))
packed_bytes w true places = tt
packed_bytes w false [] = tt
packed_bytes w false (i ∷ places) = (packed_below w 2 i, packed_bytes w false places)

-- the keys of leaves
pub key_bytes : (cells : Cells) (l : ℕ) → AreBytes ((heap_of cells).key l)
unfolding heap_of
key_bytes cells l = let w = cells (cell.Leaf l) in packed_bytes w (ltb 64 (w 1)) (range_with_len 0 (w 1))

-- the prefixes of nodes
pub prefix_bytes : (cells : Cells) (n : Node) → AreBytes ((heap_of cells).prefix n)
unfolding heap_of
prefix_bytes cells n =
    let w = cells (cell.Node n) in
    let len = w 1 / 512 % 128 in
    packed_bytes w (ltb 64 len) (range_with_len 0 len)

-- a byte that has a child is one
pub child_byte : (cells : Cells) (n : Node) (b : ℕ) (c : Link) → (heap_of cells).child n b ≡ Some c → b < 256
unfolding heap_of
child_byte cells n b c e = ⊎_elim
    (λ (low : b < 256). low)
    (λ high.
    let none : (heap_of cells).child n b ≡ None = ap (λ t. cond t (option_and_then link_of (child_of n.layout (cells (cell.Node n)) b)) None) (le-ltb b 256 high) in
    absurd (cc))
    (cases_lt b 256)

pub append_bytes : (p q : List ℕ) → AreBytes p → AreBytes q → AreBytes (p ++ q)
append_bytes [] q first second = second
append_bytes (a ∷ p) q first second = (first.0, append_bytes p q first.1 second)

-- the paths of cells
pub path_bytes : (cells : Cells) (c : Link) (p : List ℕ) → StandsAt (heap_of cells) c p → AreBytes p
path_bytes cells c p (top e ep) = subst AreBytes (sym ep) tt
path_bytes cells c p (down {n = n} {p = q} b up e ep) =
    let h = heap_of cells in
    let last : AreBytes (b ∷ []) = (child_byte cells n b c e, tt) in
    subst AreBytes (sym ep) (append_bytes (q ++ h.prefix n) (b ∷ []) (append_bytes q (h.prefix n) (path_bytes cells (node n) q up) (prefix_bytes cells n)) last)
