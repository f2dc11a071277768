-- What a look of a range knows between two of its steps.
use Rattle.std.specs.Prelude.{◌≡◌, ℕ, ◌+◌, ◌*◌, ◌<◌, ◌≤◌, ◌==◌, Bool, true, false, if◌then◌else◌, List, length, take, Option, Some, None, ⊤}
use Rattle.art_cell.specs.declared.cells.Cell.TheVariants as cell
use Rattle.art_cell.specs.declared.cells.Link.{Link}
use Rattle.art_cell.specs.declared.cells.Link.TheVariants.{Leaf as leaf, Node as node}
use Rattle.art_cell.specs.declared.cells.Node.{Node}
use Rattle.art_cell.specs.declared.cells.Layout.{Layout}
use Rattle.art_cell.specs.declared.cells.Layout.TheVariants.{Node4, Node16, Node48, Node256}
use Rattle.art_cell.specs.Words.{size}
use Rattle.art_find.specs.Descents.{IsAbove, IsOn, IsReading, IsStamped, WasNamed}
use Rattle.art_find.specs.Ways.{count_in}
use Rattle.art_step.specs.Acting.{HasPath}
use Rattle.art_step.specs.declared.actions.Action.{Action}
use Rattle.art_step.specs.declared.actions.Action.TheVariants.{Begin, Read, ReadLeaf, Check, Settle}
use Rattle.art_find.specs.declared.descents.LeafSeen.{LeafSeen}
use Rattle.art_find.specs.declared.descents.NodeSeen.{NodeSeen}
use Rattle.art_key.specs.declared.bounds.Bound.{Bound as KeyBound}
use Rattle.art_look.specs.Fronts.{IsFront, low_at}
use Rattle.art_look.specs.Seen.{Stood, look_done, seen_of, with_key}
use Rattle.art_look.specs.Table.{IsRow}
use Rattle.art_look.specs.PathBuffers.{HasFirst, HasFirstValue, Leads, SeeksChild, SeeksKeys, SpellsKey, SpellsWords}
use Rattle.art_look.specs.declared.fronts.Front.{Front}
use Rattle.std.specs.Option.{option_map}
use Rattle.art_look.specs.declared.looks.ChildSought.{ChildSought}
use Rattle.art_look.specs.declared.looks.Look.{Look}
use Rattle.art_look.specs.declared.looks.LookStage.{LookStage}
use Rattle.art_look.specs.declared.looks.LookStage.TheVariants.{Start, Anchor, Child, Below, Both, Header, Prefix, Keys, Slot, Value, Length, Bytes, Decided, Ended}
use Rattle.art_look.specs.declared.looks.Reach.TheVariants.{Past}
use Rattle.art_look.specs.declared.looks.Reached.{Reached}
use Rattle.art_look.specs.declared.looks.Seen.{Seen}
use Rattle.art_look.specs.declared.path_buffers.PathBuffer.{PathBuffer}
use Rattle.art_node.specs.declared.searches.SoughtFrom.{SoughtFrom}
use Rattle.art_node.specs.declared.searches.SoughtFrom.TheVariants as sought
use Rattle.art_step.specs.Events.{MakesEvent}
use Rattle.art_step.specs.Shows.{HasStamp, OnlyTells, Shows}
use Rattle.art_step.specs.WordPlaces.{HasVersion}
use Rattle.art_step.specs.declared.deeds.Deed.{Deed}
use Rattle.art_step.specs.declared.views.Sizes.{Sizes}
use Rattle.art_step.specs.declared.views.Stamp.{Stamp}
use Rattle.art_step.specs.declared.views.View.{View}
use Rattle.art_tree.specs.Heaps.{Cells, heap_of}
use Rattle.art_tree.specs.Tree.{Begins, StandsAt}

-- ---- what it asks, and what it has seen

-- the next step
abbrev pub asks : LookStage → Option Action
asks Start = Some (Begin cell.Anchor)
asks (Anchor x) = Some (Read x 1)
asks (Child x d) = Some (Check x)
asks (Below x n) = Some (Begin (cell.Node n))
asks (Both x y n) = Some (Check x)
asks (Header y n) = Some (Read y 1)
asks (Prefix seen i) = Some (Read seen.stamp (2 + i))
asks (Keys seen f i) = Some (Read seen.stamp (10 + i))
asks (Slot a) = Some (Read a.seen.stamp a.place)
asks (Value x l) = Some (ReadLeaf x l 0)
asks (Length x l value) = Some (ReadLeaf x l 1)
asks (Bytes seen i) = Some (ReadLeaf seen.stamp seen.leaf (2 + i))
asks (Decided x r o) = Some (Settle x)
asks (Ended r o) = None

abbrev pub has_ended : LookStage → Bool
has_ended (Ended r o) = true
has_ended stage = false

-- a check settles what it has seen
abbrev pub IsSettling : LookStage → Type 0
IsSettling stage = (x : Stamp) × (asks stage ≡ Some (Settle x))

-- how far it has seen, where it has come to that
abbrev pub reached_at : LookStage → Option Reached
reached_at (Decided x r o) = Some (record { reach = r; value = o })
reached_at (Ended r o) = Some (record { reach = r; value = o })
reached_at stage = None

-- what it has seen of the range, with the path buffer's path and key
abbrev pub seen_to : List ℕ → KeyBound → PathBuffer → Reached → Seen
seen_to lo hi t r = seen_of lo hi t.path.items t.key.items r.reach r.value

-- the same, where it has come to that
abbrev pub seen_at : List ℕ → KeyBound → PathBuffer → LookStage → Option Seen
seen_at lo hi t stage = option_map (seen_to lo hi t) (reached_at stage)

-- the event that it makes there
abbrev pub deed_at : List ℕ → KeyBound → PathBuffer → LookStage → Deed
deed_at lo hi t (Decided x r o) = look_done (seen_of lo hi t.path.items t.key.items r o)
deed_at lo hi t stage = look_done (seen_of lo hi t.path.items t.key.items Past None)

-- what it settles there: that this row stands in the table of looks
abbrev pub Settles : List ℕ → PathBuffer → LookStage → Cells → Type 0
Settles lo t (Decided x r o) s = IsRow (heap_of s) lo t.path.items r (with_key t.key.items o)
Settles lo t stage s = ⊤

-- the stage after the cell that names a link was checked
abbrev pub stage_below : Stamp → Link → LookStage
stage_below x (leaf l) = Value x l
stage_below x (node n) = Below x n

-- the stage after a search in a node
abbrev pub staged : SoughtFrom → NodeSeen → Front → LookStage
staged (sought.Keys i) seen f = Keys seen f i
staged (sought.Child place byte) seen f = Slot (record { seen = seen; front = f; byte = byte; place = place })
staged sought.Nothing seen f = Decided seen.stamp Past None

-- and after a byte that has no child, in a layout
abbrev pub stage_past : Layout → ChildSought → LookStage
stage_past Node4 a = Decided a.seen.stamp Past None
stage_past Node16 a = Decided a.seen.stamp Past None
stage_past Node48 a = Decided a.seen.stamp Past None
stage_past Node256 a = Slot (record { seen = a.seen; front = a.front; byte = a.byte + 1; place = 11 + a.byte })

abbrev pub next_child : ChildSought → LookStage
next_child a = if a.byte == 255 then Decided a.seen.stamp Past None else stage_past a.seen.node.layout a

-- ---- how far it has come

-- at most so many steps were made since the look last began
abbrev pub most_steps : ℕ → LookStage → ℕ
most_steps depth Start = 0
most_steps depth (Anchor x) = 1
most_steps depth (Child x d) = 320 * depth + 2
most_steps depth (Below x n) = 320 * depth + 3
most_steps depth (Both x y n) = 320 * depth + 4
most_steps depth (Header y n) = 320 * depth + 5
most_steps depth (Prefix seen i) = 320 * depth + 6 + i
most_steps depth (Keys seen f i) = 320 * depth + 14 + i
most_steps depth (Slot a) = 320 * depth + 46 + a.byte
most_steps depth (Value x l) = 320 * depth + 3
most_steps depth (Length x l value) = 320 * depth + 4
most_steps depth (Bytes seen i) = 320 * depth + 5 + i
most_steps depth (Decided x r o) = 320 * depth + 302
most_steps depth (Ended r o) = 320 * depth + 303

-- and at least so many: the anchor is begun and read before what was seen is checked
abbrev pub least_steps : LookStage → ℕ
least_steps Start = 0
least_steps (Anchor x) = 1
least_steps (Ended r o) = 3
least_steps stage = 2

-- ---- what it knows

-- where a node is to be followed, its path begins lo
abbrev pub IsOnWay : List ℕ → List ℕ → Link → Type 0
IsOnWay lo q (leaf l) = ⊤
IsOnWay lo q (node n) = Begins q lo

-- the cell is stamped, and names what the path q leads to
pub record IsNamed (z : Sizes) (lo : List ℕ) (depth : ℕ) (x : Stamp) (d : Link) (q : List ℕ) (v : View) : Type 0 where
  pub stamp : HasStamp z v x
  pub long : length q ≡ depth
  pub few : depth ≤ 64
  pub front : IsOnWay lo q d
  pub noted : WasNamed x d v
  pub shows : Shows z v x (λ s. Leads s x.cell lo q d)

-- a node stands at q, and nothing of it was read
pub record IsEntered (z : Sizes) (lo : List ℕ) (depth : ℕ) (y : Stamp) (n : Node) (q : List ℕ) (v : View) : Type 0 where
  pub long : length q ≡ depth
  pub few : depth ≤ 64
  pub front : Begins q lo
  pub shows : Shows z v y (λ s. StandsAt (heap_of s) (node n) q)

-- q is the path to a node with bytes of its prefix
pub record IsSpelled (z : Sizes) (lo : List ℕ) (depth : ℕ) (seen : NodeSeen) (i : ℕ) (q : List ℕ) (v : View) : Type 0 where
  pub long : length q ≡ depth + 8 * i
  pub more : 8 * i < count_in seen.header
  pub short : depth + count_in seen.header < 64
  pub front : Begins (take depth q) lo
  pub shows : Shows z v seen.stamp (λ s. SpellsWords s seen depth i q)

-- q is the path to a node with its prefix, and its least child is looked for
pub record IsSought (lo : List ℕ) (depth : ℕ) (q : List ℕ) (f : Front) : Type 0 where
  pub deep : depth ≤ length q
  pub short : length q < 64
  pub front : Begins (take depth q) lo
  pub side : IsFront f lo q

pub record IsInKeys (z : Sizes) (lo : List ℕ) (depth : ℕ) (seen : NodeSeen) (f : Front) (i : ℕ) (q : List ℕ) (v : View) : Type 0 where
  pub sought : IsSought lo depth q f
  pub few : i < 32
  pub inside : 10 + i < size seen.node.layout
  pub shows : Shows z v seen.stamp (λ s. SeeksKeys s seen.node (take depth q) seen.header q (low_at f lo q) i)

pub record IsInSlots (z : Sizes) (lo : List ℕ) (depth : ℕ) (a : ChildSought) (q : List ℕ) (v : View) : Type 0 where
  pub sought : IsSought lo depth q a.front
  pub low : low_at a.front lo q ≤ a.byte
  pub byte : a.byte < 256
  pub after : 0 < a.place
  pub inside : a.place < size a.seen.node.layout
  pub shows : Shows z v a.seen.stamp (λ s. SeeksChild s a.seen.node (take depth q) q (low_at a.front lo q) a.byte a.place)

-- k is the bytes of a leaf's key that were read
pub record IsInKey (z : Sizes) (lo : List ℕ) (seen : LeafSeen) (i : ℕ) (q k : List ℕ) (v : View) : Type 0 where
  pub long : length k ≡ 8 * i
  pub more : 8 * i < seen.count
  pub short : seen.count ≤ 64
  pub shows : Shows z v seen.stamp (λ s. SpellsKey s seen.stamp.cell lo q seen (8 * i) k)

-- at each stage, of a pass that began with the view u and now has the view v
abbrev pub StageFits : Sizes → List ℕ → KeyBound → ℕ → LookStage → PathBuffer → View → View → Type 0
StageFits z lo hi depth Start t u v = IsReading u v
StageFits z lo hi depth (Anchor x) t u v = IsReading u v × HasStamp z v x × (x.cell ≡ cell.Anchor) × HasPath v x
StageFits z lo hi depth (Child x d) t u v = IsReading u v × IsNamed z lo depth x d t.path.items v
StageFits z lo hi depth (Below x n) t u v = IsReading u v × IsNamed z lo depth x (node n) t.path.items v × HasVersion z (cell.Node n)
StageFits z lo hi depth (Both x y n) t u v = IsStamped z u v y n × IsNamed z lo depth x (node n) t.path.items v
StageFits z lo hi depth (Header y n) t u v = IsOn z u v y n × IsEntered z lo depth y n t.path.items v
StageFits z lo hi depth (Prefix seen i) t u v = IsOn z u v seen.stamp seen.node × IsSpelled z lo depth seen i t.path.items v
StageFits z lo hi depth (Keys seen f i) t u v = IsOn z u v seen.stamp seen.node × IsInKeys z lo depth seen f i t.path.items v
StageFits z lo hi depth (Slot a) t u v = IsOn z u v a.seen.stamp a.seen.node × IsInSlots z lo depth a t.path.items v
StageFits z lo hi depth (Value x l) t u v = IsAbove z u v x l × (depth ≤ 64) ×
    Shows z v x (λ s. HasFirst s x.cell lo t.path.items l)
StageFits z lo hi depth (Length x l value) t u v = IsAbove z u v x l × (depth ≤ 64) ×
    Shows z v x (λ s. HasFirstValue s x.cell lo t.path.items l value)
StageFits z lo hi depth (Bytes seen i) t u v = IsAbove z u v seen.stamp seen.leaf × (depth ≤ 64) × IsInKey z lo seen i t.path.items t.key.items v
StageFits z lo hi depth (Decided x r o) t u v = IsReading u v × (depth ≤ 64) × HasStamp z v x ×
    Shows z v x (λ s. IsRow (heap_of s) lo t.path.items r (with_key t.key.items o))
StageFits z lo hi depth (Ended r o) t u v = MakesEvent u v (look_done (seen_of lo hi t.path.items t.key.items r o)) × OnlyTells u v ×
    Stood z lo t.path.items t.key.items r o × (depth ≤ 64)

abbrev pub Fits : Sizes → List ℕ → KeyBound → Look → PathBuffer → View → View → Type 0
Fits z lo hi m t u v = StageFits z lo hi m.depth m.stage t u v
