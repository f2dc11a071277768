-- The numbers that a pass has in hand, as its code and as its view have them.
use Rattle.std.specs.Prelude.{◌≡◌, ℕ, ◌+◌, ◌-◌, ◌*◌, ◌/◌, ◌^◌, ◌<◌, ◌≤◌, min, max, List, [], ◌∷◌, Option, Some, None, is_some, Bool, true, false, ◌||◌, if◌then◌else◌, nat_lt, ⊤}
use Rattle.std.specs.Option.{option_map, option_or}
use Rattle.art_cell.specs.declared.cells.Link.{Link}
use Rattle.art_cell.specs.declared.cells.Link.TheVariants.{Leaf as leaf, Node as node}
use Rattle.art_cell.specs.declared.cells.Node.{Node}
use Rattle.art_cell.specs.declared.cells.Layout.{Layout}
use Rattle.art_cell.specs.declared.cells.Layout.TheVariants.{Node4, Node16, Node48, Node256}
use Rattle.art_cell.specs.declared.cells.Pool.{Pool}
use Rattle.art_cell.specs.declared.cells.Pool.TheVariants.{Leaves, N4, N16, N48, N256}
use Rattle.art_plan.specs.ArtCommit.CommitLaws.{HasNode}
use Rattle.art_epoch.specs.declared.stocks.Hints.{Hints}
use Rattle.art_epoch.specs.declared.stocks.RankedNode.{RankedNode}
use Rattle.art_epoch.specs.declared.stocks.Stock.{Stock}
use Rattle.art_epoch.specs.LeafWriter.{IsPacked}
use Rattle.art_step.specs.Views.{Member}
use Rattle.art_step.specs.declared.views.InHand.{InHand}
use Rattle.art_step.specs.WordPlaces.{free_words}
use Rattle.art_step.specs.declared.views.Sizes.{Sizes}
use Rattle.art_step.specs.declared.views.View.{View}

-- nothing is in hand; a search begins at these words
abbrev pub nothing : Hints → Stock
nothing h = record { leaf = None; written = false; node4 = None; node16 = None; node48 = None; node256 = None; hints = h }

-- the word of free numbers at which a pass, of so many, looks first in a pool of so many words: passes begin apart
abbrev pub first_word : ℕ → ℕ → ℕ → ℕ
first_word own passes words = if nat_lt own passes then own * words / passes else 0

abbrev pub first_hints : Sizes → ℕ → Hints
first_hints z own = record {
  leaves = first_word own z.passes (free_words z.leaves);
  n4 = first_word own z.passes (free_words z.n4);
  n16 = first_word own z.passes (free_words z.n16);
  n48 = first_word own z.passes (free_words z.n48);
  n256 = first_word own z.passes (free_words z.n256);
}

-- the word of free numbers of the pool at which a search begins
abbrev pub hint_in : Stock → Pool → ℕ
hint_in s Leaves = s.hints.leaves
hint_in s N4 = s.hints.n4
hint_in s N16 = s.hints.n16
hint_in s N48 = s.hints.n48
hint_in s N256 = s.hints.n256

-- the node of the layout, with its rank
abbrev pub ranked_node : Stock → Layout → Option RankedNode
ranked_node s Node4 = s.node4
ranked_node s Node16 = s.node16
ranked_node s Node48 = s.node48
ranked_node s Node256 = s.node256

-- the number of a node of the layout
abbrev pub node_in : Stock → Layout → Option ℕ
node_in s layout = option_map (λ (n : RankedNode). n.number) (ranked_node s layout)

-- its rank
abbrev pub rank_in : Stock → Layout → Option ℕ
rank_in s layout = option_map (λ (n : RankedNode). n.rank) (ranked_node s layout)

-- the number is among them
abbrev pub IsIn : Stock → Link → Type 0
IsIn s (leaf l) = s.leaf ≡ Some l
IsIn s (node n) = node_in s n.layout ≡ Some n.number

-- ---- one comes

-- a leaf comes in, whose words are still to be written
abbrev pub with_leaf : ℕ → Stock → Stock
with_leaf l s = record s { leaf = Some l; written = false; hints = record s.hints { leaves = l / 64 } }

-- the node of the layout is this one, or there is none
abbrev pub set_node : Layout → Option RankedNode → Stock → Stock
set_node Node4 o s = record s { node4 = o }
set_node Node16 o s = record s { node16 = o }
set_node Node48 o s = record s { node48 = o }
set_node Node256 o s = record s { node256 = o }

-- a number of the layout was found in the word of free numbers with this index
abbrev pub hints_after : Layout → ℕ → Hints → Hints
hints_after Node4 i h = record h { n4 = i }
hints_after Node16 i h = record h { n16 = i }
hints_after Node48 i h = record h { n48 = i }
hints_after Node256 i h = record h { n256 = i }

abbrev pub hinted : Layout → ℕ → Stock → Stock
hinted layout i s = record s { hints = hints_after layout i s.hints }

-- a search of its pool begins at the word of this number
abbrev pub hinted_at : Link → Stock → Stock
hinted_at (leaf l) s = record s { hints = record s.hints { leaves = l / 64 } }
hinted_at (node n) s = hinted n.layout (n.number / 64) s

-- the rank behind that of the node, as long as there is one
abbrev pub rank_after : Option RankedNode → ℕ
rank_after None = 0
rank_after (Some n) = min (n.rank + 1) (2 ^ 32 - 1)

-- the rank of a node that comes in
abbrev pub next_rank : Stock → ℕ
next_rank s = max (max (rank_after s.node4) (rank_after s.node16)) (max (rank_after s.node48) (rank_after s.node256))

abbrev pub with_number : Layout → ℕ → Stock → Stock
with_number layout i s = set_node layout (Some (record { number = i; rank = next_rank s })) (hinted layout (i / 64) s)

-- a node comes in
abbrev pub with_node : Node → Stock → Stock
with_node n s = with_number n.layout n.number s

-- the node of the layout that came in is behind each that was in hand, as long as there are ranks
abbrev pub ComesLast : Stock → Stock → Layout → Type 0
ComesLast s t layout =
    (other : Layout) (r : ℕ) → rank_in s other ≡ Some r → r < 2 ^ 32 - 1 → (q : ℕ) × (rank_in t layout ≡ Some q) × (r < q)

-- ---- one leaves

abbrev pub without_leaf : Stock → Stock
without_leaf s = record s { leaf = None; written = false }

abbrev pub without_node : Layout → Stock → Stock
without_node layout s = set_node layout None s

abbrev pub without : Link → Stock → Stock
without (leaf l) s = without_leaf s
without (node n) s = without_node n.layout s

-- these leave
abbrev pub without_all : List Link → Stock → Stock
without_all [] s = s
without_all (d ∷ ds) s = without_all ds (without d s)

-- each of these is among them, and none is named twice
abbrev pub AreIn : Stock → List Link → Type 0
AreIn s [] = ⊤
AreIn s (d ∷ ds) = IsIn s d × AreIn (without d s) ds

-- ---- in which order they go back

abbrev pub node_link : Stock → Layout → Option Link
node_link s layout = option_map (λ (i : ℕ). node (record { layout = layout; number = i })) (node_in s layout)

-- a node is in hand
abbrev pub has_node : Stock → Bool
has_node s = is_some s.node4 || is_some s.node16 || is_some s.node48 || is_some s.node256

-- the node is there, and was taken before the other, if that is there
abbrev pub is_before : Option RankedNode → Option RankedNode → Bool
is_before None b = false
is_before (Some a) None = true
is_before (Some a) (Some b) = nat_lt a.rank b.rank

-- of two layouts that whose node was taken first, or that of which there is one
abbrev pub earlier : Stock → Layout → Layout → Layout
earlier s one other = if is_before (ranked_node s other) (ranked_node s one) then other else one

-- the layout whose node was taken first, if a node is in hand
abbrev pub first_layout : Stock → Layout
first_layout s = earlier s Node4 (earlier s Node16 (earlier s Node48 Node256))

-- the node that was taken first
abbrev pub first_node : Stock → Option Link
first_node s = node_link s (first_layout s)

-- the first: the leaf, and then the nodes in the order in which they were taken
abbrev pub first_in : Stock → Option Link
first_in s = option_or (option_map leaf s.leaf) (first_node s)

-- there is a node of the layout, with this rank or one before it
abbrev pub HasRankBy : Stock → Layout → ℕ → Type 0
HasRankBy s layout r = (q : ℕ) × (rank_in s layout ≡ Some q) × (q ≤ r)

-- it is the leaf, or there is none and no node that is in hand was taken before it
abbrev pub GoesFirst : Stock → Link → Type 0
GoesFirst s (leaf l) = s.leaf ≡ Some l
GoesFirst s (node n) = (s.leaf ≡ None) × ((other : Layout) (r : ℕ) → rank_in s other ≡ Some r → HasRankBy s n.layout r)

abbrev pub one_of : Option ℕ → ℕ
one_of None = 0
one_of (Some i) = 1

-- how many there are
abbrev pub count_in : Stock → ℕ
count_in s =
    one_of s.leaf + one_of (node_in s Node4) + one_of (node_in s Node16) + one_of (node_in s Node48) + one_of (node_in s Node256)

-- ---- in hand

-- so many words of the leaf are written
abbrev pub words_written : Stock → ℕ
words_written s = if s.written then 10 else 0

-- just these numbers are in hand; the leaf has the words of this key and value, if they are written
pub record HasStock (z : Sizes) (k : List ℕ) (value : ℕ) (v : View) (s : Stock) : Type 0 where
  pub leaf : (l : ℕ) → s.leaf ≡ Some l → IsPacked z v l k value (words_written s)
  pub nodes : (n : Node) → node_in s n.layout ≡ Some n.number → HasNode z v n
  pub only : (x : InHand) → Member x v.hand → IsIn s x.link
