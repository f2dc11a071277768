-- What holds between any two steps of any passes.
use Rattle.std.specs.Prelude.{◌≡◌, ◌≢◌, ◌⊎◌, ◌↔◌, ℕ, zero, suc, ◌+◌, ◌*◌, ◌^◌, ◌<◌, ◌≤◌, List, [], length, Bool, true, false, if◌then◌else◌, nat_lt, Option, Some, None}
use Rattle.art_cell.specs.declared.cells.Node.{Node}
use Rattle.art_cell.specs.declared.cells.Cell.{Cell}
use Rattle.art_cell.specs.declared.cells.Cell.TheVariants as cell
use Rattle.art_cell.specs.declared.cells.Link.{Link}
use Rattle.art_cell.specs.declared.cells.Link.TheVariants.{Leaf as leaf, Node as node}
use Rattle.art_step.specs.declared.views.Event.{Event}
use Rattle.art_step.specs.declared.views.Holding.{Holding}
use Rattle.art_step.specs.declared.views.InHand.{InHand}
use Rattle.art_step.specs.declared.views.Note.{Note}
use Rattle.art_step.specs.declared.views.EpochSeen.{EpochSeen}
use Rattle.art_step.specs.declared.views.Retired.{Retired}
use Rattle.art_step.specs.declared.views.Sizes.{Sizes}
use Rattle.art_step.specs.declared.views.Stamp.{Stamp}
use Rattle.art_step.specs.declared.views.View.{View}
use Rattle.art_tree.specs.Heaps.{Cells, heap_of}
use Rattle.art_step.specs.Histories.{replay, IsLegal, places, StartsWith}
use Rattle.art_step.specs.Knowledge.{IsShape, Holds}
use Rattle.art_tree.specs.Rows.{HasRows}
use Rattle.art_tree.specs.Tree.{StandsAt}
use Rattle.art_step.specs.WordPlaces.{place_of}
use Rattle.art_step.specs.Views.{Member, Memory, size_of, words_in, IsClear, IsLocked, IsObsolete, IsOnce, last_counter, IsVersion, IsNumber, HaveForms, cell_named, is_free, links_in_hand, links_in_limbo, Views}

-- ---- one history

-- what the view of the pass p says of the history: what it has seen stands at its front, with all events of its own
pub record IsSeenBy (log : List Event) (p : ℕ) (v : View) : Type 0 where
  pub pass : v.pass ≡ p
  pub starts : StartsWith log v.seen
  pub own : places p log ≡ v.own
  pub all : places p v.seen ≡ v.own

-- it is legal, begins with what each pass has seen, and has the events of the passes and no others; each pass has seen its own
pub record IsOneHistory (log : List Event) (f : Views) : Type 0 where
  pub legal : IsLegal log
  pub tells : (p : ℕ) (v : View) → f p ≡ Some v → IsSeenBy log p v
  pub strangers : (p : ℕ) → f p ≡ None → places p log ≡ []

-- ---- the tree, which the logical words s mean: those of a cell that is held are its holder's old words before the commit,
-- and its new ones after it, and those of any other cell are the shared words

-- the tree has the rows that the history leaves
pub record ShowsReplay (z : Sizes) (log : List Event) (s : Cells) : Type 0 where
  pub shape : IsShape z s
  pub rows : HasRows (heap_of s) (replay log)

-- ---- one holder a cell

-- a cell that is held is locked and has the new words; from its upgrade on the counter is the stamped one
pub record Keeps (m : Memory) (s : Cells) (committed : Bool) (h : Holding) : Type 0 where
  pub locked : IsLocked (m.version h.cell)
  pub long : length h.new ≡ size_of h.cell
  pub new : m.words h.cell ≡ words_in h.new
  pub logical : s h.cell ≡ words_in (if committed then h.new else h.old)
  pub stamped : (x : ℕ) → h.stamped ≡ Some x → (m.version h.cell ≡ x + 2) × (x < 4 * last_counter)

-- of one view
pub record HoldsEach (m : Memory) (s : Cells) (v : View) : Type 0 where
  pub keeps : (h : Holding) → Member h v.held → Keeps m s v.committed h
  pub single : (h k : Holding) → Member h v.held → Member k v.held → h.cell ≡ k.cell → h ≡ k

pub record Holder (f : Views) (c : Cell) : Type 0 where
  pub pass : ℕ
  pub view : View
  pub is : f pass ≡ Some view
  pub holding : Holding
  pub holds : Member holding view.held
  pub cell : holding.cell ≡ c

-- a cell is locked exactly where a pass holds it, and that is one pass; a cell that is not locked has its logical words
pub record OneHolder (m : Memory) (f : Views) (s : Cells) : Type 0 where
  pub at_rest : (c : Cell) → (IsLocked (m.version c) → ⊥) → s c ≡ m.words c
  pub holder : (c : Cell) → IsLocked (m.version c) → Holder f c
  pub holds : (p : ℕ) (v : View) → f p ≡ Some v → HoldsEach m s v
  pub apart : (p q : ℕ) (v u : View) → p ≢ q → f p ≡ Some v → f q ≡ Some u → (h k : Holding) → Member h v.held → Member k u.held →
      h.cell ≢ k.cell

-- ---- an unchanged stamp vouches

pub record IsStampOf (m : Memory) (x : Stamp) : Type 0 where
  pub clear : IsClear x.version
  pub below : x.version ≤ m.version x.cell

-- while the cell's version word is the stamped one, the fact holds
pub record Vouches (m : Memory) (s : Cells) (y : Note) : Type 0 where
  pub stamp : IsStampOf m y.stamp
  pub same : m.version y.stamp.cell ≡ y.stamp.version → Holds s y.stamp.cell y.fact

-- of one view: each of its notes goes with its stamp, which it has too; and of a cell that it holds, what was noted under its
-- stamp holds until the commit
pub record Vouched (m : Memory) (s : Cells) (v : View) : Type 0 where
  pub stamps : (x : Stamp) → Member x v.stamps → IsStampOf m x
  pub noted : (y : Note) → Member y v.notes → Member y.stamp v.stamps
  pub notes : (y : Note) → Member y v.notes → Vouches m s y
  pub kept : v.committed ≡ false → (h : Holding) (y : Note) → Member h v.held → Member y v.notes → y.stamp.cell ≡ h.cell →
      h.stamped ≡ Some y.stamp.version → Holds s h.cell y.fact

abbrev pub StampsVouch : Memory → Views → Cells → Type 0
StampsVouch m f s = (p : ℕ) (v : View) → f p ≡ Some v → Vouched m s v

-- ---- each number in one place

-- where a number is: in the tree, free, in the hand of a pass, in the limbo of one; or there is no such number
pub data Whereabouts : Type 0 where
  InTree : Whereabouts
  IsFree : Whereabouts
  InHandOf : ℕ → Whereabouts
  InLimboOf : ℕ → Whereabouts
  Nowhere : Whereabouts

-- where the node of a cell that a pass holds may be: in the tree; before the commit in its hand, where the pass claimed it; and
-- after the commit in its limbo, where it did not
abbrev pub HeldAt : ℕ → Bool → Option ℕ → Whereabouts → Type 0
HeldAt p committed (Some x) w = (w ≡ InTree) ⊎ ((committed ≡ true) × (w ≡ InLimboOf p))
HeldAt p true None w = w ≡ InTree
HeldAt p false None w = w ≡ InHandOf p

-- of the pass p
pub record Accounts (m : Memory) (at : Link → Whereabouts) (p : ℕ) (v : View) : Type 0 where
  pub hand : (x : InHand) → Member x v.hand → at x.link ≡ InHandOf p
  pub in_hand : (d : Link) → at d ≡ InHandOf p → (x : InHand) × Member x v.hand × (x.link ≡ d)
  pub leaves : (x : InHand) (l : ℕ) → Member x v.hand → x.link ≡ leaf l → (length x.words ≡ 10) × (m.words (cell.Leaf l) ≡ words_in x.words)
  pub limbo : (e : Retired) → Member e v.limbo → at e.link ≡ InLimboOf p
  pub in_limbo : (d : Link) → at d ≡ InLimboOf p → (e : Retired) × Member e v.limbo × (e.link ≡ d)
  pub held : (h : Holding) (n : Node) → Member h v.held → h.cell ≡ cell.Node n → HeldAt p v.committed h.stamped (at (node n))
  pub hand_once : IsOnce (links_in_hand v.hand)
  pub limbo_once : IsOnce (links_in_limbo v.limbo)

-- each number of each pool is in exactly one place
pub record NumbersAccounted (z : Sizes) (m : Memory) (f : Views) (s : Cells) (at : Link → Whereabouts) : Type 0 where
  pub tree : (d : Link) → (at d ≡ InTree) ↔ ((r : List ℕ) × StandsAt (heap_of s) d r)
  pub free : (d : Link) → (at d ≡ IsFree) ↔ (is_free m d ≡ true)
  pub numbers : (d : Link) → (at d ≢ Nowhere) ↔ IsNumber z d
  pub accounts : (p : ℕ) (v : View) → f p ≡ Some v → Accounts m at p v
  pub strangers : (p : ℕ) (d : Link) → f p ≡ None → (at d ≢ InHandOf p) × (at d ≢ InLimboOf p)

-- ---- what is given back is under nobody's stamp

-- the pass q, whose view is v, stands under a pin that the place in limbo holds
abbrev pub IsUnder : ℕ → View → Retired → Type 0
IsUnder q v e = (v.pin ≢ 0) × Member (record { pass = q; count = v.pins }) e.pins

-- a stamp of the view is of the node
abbrev pub IsStamped : View → Node → Type 0
IsStamped v n = (x : Stamp) × Member x v.stamps × (x.cell ≡ cell.Node n)

-- what a place in limbo says of the pass q
pub record Awaits (q : ℕ) (v : View) (e : Retired) : Type 0 where
  -- a pass that has it in a stamp stands under a pin that the place holds
  pub stamped : (n : Node) → e.link ≡ node n → IsStamped v n → IsUnder q v e
  -- one for which it is marked stands under none
  pub marked : Member q e.marked → IsUnder q v e → ⊥
  -- its label is not below the epoch of such a pin
  pub label : (l : ℕ) → e.label ≡ Some l → IsUnder q v e → v.pin ≤ l
  -- the pins that it holds were made
  pub made : (k : ℕ) → Member (record { pass = q; count = k }) e.pins → k ≤ v.pins

-- of one pass: its word is its pin; only a pinned one has stamps, with the place of the cell, of nodes that are in the tree or in a
-- limbo, and holds what it upgraded
pub record IsPinned (z : Sizes) (m : Memory) (at : Link → Whereabouts) (p : ℕ) (v : View) : Type 0 where
  pub inside : p < z.passes
  pub word : m.pass_word p ≡ v.pin
  pub low : v.pin ≤ m.epoch
  pub noted : (t : EpochSeen) → v.noted ≡ Some t → (0 < t.epoch) × (t.epoch ≤ m.epoch)
  pub pinned : (x : Stamp) → Member x v.stamps → v.pin ≢ 0
  pub placed : (x : Stamp) → Member x v.stamps → x.first ≡ place_of z x.cell
  pub stamped : (n : Node) → IsStamped v n → (at (node n) ≡ InTree) ⊎ ((r : ℕ) × (at (node n) ≡ InLimboOf r))
  pub idle : v.pin ≡ 0 → (h : Holding) → Member h v.held → h.stamped ≡ None

-- a number in limbo that is marked for a pass is in no stamp of it; a clear version word is that of a cell of the tree
pub record MarkedUnstamped (z : Sizes) (m : Memory) (f : Views) (at : Link → Whereabouts) : Type 0 where
  pub epoch : 0 < m.epoch
  pub clear : (d : Link) → IsClear (m.version (cell_named d)) → at d ≡ InTree
  pub pinned : (p : ℕ) (v : View) → f p ≡ Some v → IsPinned z m at p v
  pub awaits : (q r : ℕ) (v u : View) (e : Retired) → f q ≡ Some v → f r ≡ Some u → Member e u.limbo → Awaits q v e

-- ---- words have their forms

-- 1 where the pass has noted an epoch from which the epoch may go on
abbrev pub early : Option EpochSeen → ℕ
early None = 0
early (Some t) = if nat_lt t.epoch (2 ^ 62) then 1 else 0

abbrev pub early_of : Option View → ℕ
early_of None = 0
early_of (Some v) = early v.noted

-- how many of the passes below n have noted such an epoch
abbrev pub early_notes : Views → ℕ → ℕ
early_notes f zero = 0
early_notes f (suc n) = early_of (f n) + early_notes f n

-- version words are so, a leaf counts as obsolete, each word has the form of its place, and the epoch stays below its bound,
-- whatever the passes that may raise it do
pub record WordsFormed (z : Sizes) (m : Memory) (f : Views) : Type 0 where
  pub versions : (c : Cell) → IsVersion (m.version c)
  pub leaves : (l : ℕ) → IsObsolete (m.version (cell.Leaf l))
  pub words : HaveForms z m.words
  pub epoch : m.epoch + early_notes f z.passes < 2 ^ 62 + z.passes

-- ---- all of it

pub record IsSound (z : Sizes) (m : Memory) (f : Views) : Type 0 where
  pub log : List Event
  pub logical : Cells
  pub at : Link → Whereabouts
  pub history : IsOneHistory log f
  pub shows : ShowsReplay z log logical
  pub holder : OneHolder m f logical
  pub vouch : StampsVouch m f logical
  pub numbers : NumbersAccounted z m f logical at
  pub unstamped : MarkedUnstamped z m f at
  pub formed : WordsFormed z m f

-- ---- kinds of step

-- words and views before a step of the pass p, whose view is v, and those after it
abbrev pub Kind : Type 1
Kind = Sizes → ℕ → View → Memory → Views → Memory → Views → Type 0

-- where all is sound and a step of this kind is made, all is sound after it
abbrev pub KeepsSound : Kind → Type 0
KeepsSound K = (z : Sizes) (p : ℕ) (v : View) (m : Memory) (f : Views) (m' : Memory) (f' : Views) → f p ≡ Some v → IsSound z m f →
    K z p v m f m' f' → IsSound z m' f'
