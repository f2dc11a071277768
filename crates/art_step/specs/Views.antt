-- The shared words as passes see them, and what passes know.
use Rattle.std.specs.Prelude.{◌≡◌, ◌≢◌, ◌⊎◌, ℕ, ◌+◌, ◌*◌, ◌-◌, ◌/◌, ◌%◌, ◌^◌, ◌==◌, ◌<◌, ◌≤◌, List, [], ◌∷◌, map, false, get_or, Bool, Option, Some, ⊤}
use Rattle.art_cell.specs.declared.cells.Pool.{Pool}
use Rattle.art_cell.specs.declared.cells.Pool.TheVariants.{Leaves, N4, N16, N48, N256}
use Rattle.art_cell.specs.declared.cells.Layout.{Layout}
use Rattle.art_cell.specs.declared.cells.Layout.TheVariants.{Node4, Node16, Node48, Node256}
use Rattle.art_cell.specs.declared.cells.Node.{Node}
use Rattle.art_cell.specs.declared.cells.Cell.{Cell}
use Rattle.art_cell.specs.declared.cells.Cell.TheVariants as cell
use Rattle.art_cell.specs.declared.cells.Link.{Link}
use Rattle.art_cell.specs.declared.cells.Link.TheVariants.{Leaf as leaf, Node as node}
use Rattle.art_step.specs.declared.views.Fact.{Fact}
use Rattle.art_step.specs.declared.views.Fact.TheVariants.{Starts, Word, LeafWord}
use Rattle.art_step.specs.declared.views.Found.{Found}
use Rattle.art_step.specs.declared.views.Holding.{Holding}
use Rattle.art_step.specs.declared.views.InHand.{InHand}
use Rattle.art_step.specs.declared.views.Note.{Note}
use Rattle.art_step.specs.declared.views.Retired.{Retired}
use Rattle.art_step.specs.declared.views.Stamp.{Stamp}
use Rattle.art_step.specs.declared.views.Word.TheVariants.{Version}
use Rattle.art_step.specs.declared.views.Sizes.{Sizes}
use Rattle.art_step.specs.declared.views.View.{View}
use Rattle.art_tree.specs.Heaps.{Cells}
use Rattle.art_cell.specs.Children.{link_in_pool, link_of, number_of}
use Rattle.art_cell.specs.Words.{Words, byte_of, first_child, places, size}

abbrev pub Member : {A : Type 0} → A → List A → Type 0
Member x [] = ⊥
Member x (y ∷ ys) = (x ≡ y) ⊎ Member x ys

-- ---- the shared words

-- the version word of each cell, its words after that, the words of free numbers of each pool, the epoch, and the words of the
-- passes. A leaf has no version word: it counts as obsolete, and its words begin at place 0
pub record Memory : Type 0 where
  pub version : Cell → ℕ
  pub words : Cells
  pub free_word : Pool → ℕ → ℕ
  pub epoch : ℕ
  pub pass_word : ℕ → ℕ

-- how many words a cell has, a version word included
abbrev pub size_of : Cell → ℕ
size_of cell.Anchor = 2
size_of (cell.Leaf l) = 10
size_of (cell.Node n) = size n.layout

-- the words that a list has, by their places, and 0 elsewhere
abbrev pub words_in : List ℕ → Words
words_in ws place = get_or ws place 0

-- ---- version words: bit 0 says obsolete, bit 1 locked, and the others are a counter

abbrev pub IsClear : ℕ → Type 0
IsClear x = x % 4 ≡ 0

abbrev pub IsLocked : ℕ → Type 0
IsLocked x = x % 4 ≡ 2

abbrev pub IsObsolete : ℕ → Type 0
IsObsolete x = x % 4 ≡ 1

-- no cell is upgraded whose counter is this or more
abbrev pub last_counter : ℕ
last_counter = 2 ^ 62 - 8

-- a version word: a counter goes on by at most one after the last upgrade
pub record IsVersion (x : ℕ) : Type 0 where
  pub form : IsClear x ⊎ (IsLocked x ⊎ IsObsolete x)
  pub clear : IsClear x → x ≤ 4 * last_counter + 4
  pub locked : IsLocked x → x ≤ 4 * last_counter + 2
  pub obsolete : IsObsolete x → x ≤ 4 * last_counter + 1

-- ---- numbers

-- how many nodes of the layout there are
abbrev pub nodes_of : Sizes → Layout → ℕ
nodes_of z Node4 = z.n4
nodes_of z Node16 = z.n16
nodes_of z Node48 = z.n48
nodes_of z Node256 = z.n256

-- there is such a leaf, or such a node
abbrev pub IsNumber : Sizes → Link → Type 0
IsNumber z (leaf l) = l < z.leaves
IsNumber z (node n) = n.number < nodes_of z n.layout

-- the pool that the number is of
abbrev pub pool_of_layout : Layout → Pool
pool_of_layout Node4 = N4
pool_of_layout Node16 = N16
pool_of_layout Node48 = N48
pool_of_layout Node256 = N256

abbrev pub pool_of : Link → Pool
pool_of (leaf l) = Leaves
pool_of (node n) = pool_of_layout n.layout

-- the pools in their order
abbrev pub pool_rank : Pool → ℕ
pool_rank Leaves = 0
pool_rank N4 = 1
pool_rank N16 = 2
pool_rank N48 = 3
pool_rank N256 = 4

-- a bit of a word
abbrev pub bit_of : ℕ → ℕ → ℕ
bit_of word i = word / 2 ^ i % 2

-- the words of free numbers have a bit for each number of their pool, 64 a word: which word, and which bit of it
abbrev pub free_index : Link → ℕ
free_index d = number_of d / 64

abbrev pub free_bit : Link → ℕ
free_bit d = number_of d % 64

-- the number with this bit of this word
abbrev pub number_at : Pool → ℕ → ℕ → Link
number_at pool index k = link_in_pool pool (64 * index + k)

-- a number is free where its bit is set
abbrev pub is_free : Memory → Link → Bool
is_free m d = bit_of (m.free_word (pool_of d) (free_index d)) (free_bit d) == 1

-- no number twice
abbrev pub IsOnce : List Link → Type 0
IsOnce [] = ⊤
IsOnce (d ∷ ds) = (Member d ds → ⊥) × IsOnce ds

-- the cell that the link names
abbrev pub cell_named : Link → Cell
cell_named (leaf l) = cell.Leaf l
cell_named (node n) = cell.Node n

-- ---- child words

-- a child word that passes may find: 0, or one that names a leaf or a node that there is
abbrev pub IsChildWord : Sizes → ℕ → Type 0
IsChildWord z word = (word ≡ 0) ⊎ ((d : Link) × (link_of word ≡ Some d) × IsNumber z d)

-- the places of a cell at which child words stand
abbrev pub IsChildPlace : Cell → ℕ → Type 0
IsChildPlace cell.Anchor i = i ≡ 1
IsChildPlace (cell.Leaf l) i = ⊥
IsChildPlace (cell.Node n) i = (first_child n.layout ≤ i) × (i < size n.layout)

-- ---- the form of a word, by itself

-- a header: at most as many children as the layout has places, a prefix of at most 64 bytes, and above bit 15 the places of a Node48
-- alone
pub record IsHeader (k : Layout) (word : ℕ) : Type 0 where
  pub few : word % 512 ≤ places k
  pub short : word / 512 % 128 ≤ 64
  pub low : k ≢ Node48 → word < 2 ^ 16

-- eight entries of an index, each 0 or a place plus 1
abbrev pub IsIndexWord : ℕ → Type 0
IsIndexWord word = (j : ℕ) → j < 8 → byte_of word j ≤ 48

-- a word that may stand at this place of the cell, whatever stands beside it. Key bytes, prefixes and values may be any
pub record IsWordOf (z : Sizes) (c : Cell) (i word : ℕ) : Type 0 where
  pub header : (n : Node) → c ≡ cell.Node n → i ≡ 1 → IsHeader n.layout word
  pub index : (n : Node) → c ≡ cell.Node n → n.layout ≡ Node48 → 10 ≤ i → i < 42 → IsIndexWord word
  pub length : (l : ℕ) → c ≡ cell.Leaf l → i ≡ 1 → word ≤ 64
  pub child : IsChildPlace c i → IsChildWord z word

-- such words stand in each cell, whoever holds it, and in each leaf
abbrev pub HaveForms : Sizes → Cells → Type 0
HaveForms z s = (c : Cell) (i : ℕ) → IsWordOf z c i (s c i)

-- ---- passes

-- the views, by the numbers of their passes
abbrev pub Views : Type 0
Views = ℕ → Option View

-- the view of the pass p became w, and no other changed
pub record SetsView (f : Views) (p : ℕ) (w : View) (g : Views) : Type 0 where
  pub here : g p ≡ Some w
  pub there : (q : ℕ) → q ≢ p → g q ≡ f q

-- ---- stamps, notes, and what was found

-- the version word of the cell was found at this step
abbrev pub found_version : View → Cell → ℕ → List Found
found_version v c x = record { word = Version c x; step = v.steps + 1 } ∷ v.found

abbrev pub note_of : Stamp → Fact → Note
note_of x y = record { stamp = x; fact = y }

-- ---- what a pass holds, has in hand and has in limbo

-- no cell that is held is this one
abbrev pub IsNotHeld : List Holding → Cell → Type 0
IsNotHeld hs c = (h : Holding) → Member h hs → h.cell ≢ c

-- the pass has not committed, or holds nothing more
abbrev pub MayLock : View → Type 0
MayLock v = (v.committed ≡ false) ⊎ (v.held ≡ [])

abbrev pub IsHolding : View → Cell → Holding → Type 0
IsHolding v c h = Member h v.held × (h.cell ≡ c)

abbrev pub IsInHand : View → Link → InHand → Type 0
IsInHand v d y = Member y v.hand × (y.link ≡ d)

abbrev pub links_in_hand : List InHand → List Link
links_in_hand xs = map (λ x. x.link) xs

abbrev pub links_in_limbo : List Retired → List Link
links_in_limbo es = map (λ e. e.link) es

abbrev pub IsInLimbo : View → Link → Type 0
IsInLimbo v d = (e : Retired) × Member e v.limbo × (e.link ≡ d)

-- no number in hand is this one
abbrev pub IsNotInHand : View → Link → Type 0
IsNotInHand v d = (i : InHand) → Member i v.hand → i.link ≢ d

-- ---- cells that a pass may begin

-- the word that is noted names the link
abbrev pub NamesLink : Fact → Link → Type 0
NamesLink (Word i word) d = link_of word ≡ Some d
NamesLink (Starts q) d = ⊥
NamesLink (LeafWord l i word) d = ⊥

-- the anchor, or a node that a noted word names
abbrev pub IsNamed : View → Cell → Type 0
IsNamed v cell.Anchor = ⊤
IsNamed v (cell.Leaf l) = ⊥
IsNamed v (cell.Node n) = (y : Note) × Member y v.notes × NamesLink y.fact (node n)
