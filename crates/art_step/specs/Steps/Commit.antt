-- Commit: the first release of a change, the one step at which all held cells have their new words and the event is made.
use Rattle.std.specs.Prelude.{◌≡◌, Some, ℕ, List, [], ◌∷◌, ◌⊎◌, None, Bool, false, true, ◌↔◌, Option, ◌≢◌, ◌+◌, ◌++◌, length}
use Rattle.art_cell.specs.declared.cells.Cell.TheVariants as cell
use Rattle.art_cell.specs.declared.cells.Link.TheVariants.{Leaf as leaf, Node as node}
use Rattle.art_cell.specs.declared.cells.Cell.{Cell}
use Rattle.art_cell.specs.declared.cells.Link.{Link}
use Rattle.art_cell.specs.declared.cells.Node.{Node}
use Rattle.art_step.specs.Effects.{Unlocks}
use Rattle.art_step.specs.Events.{MakesEvent}
use Rattle.art_step.specs.Histories.{IsAnswered, becomes, event}
use Rattle.art_step.specs.Knowledge.{Holds, IsShape}
use Rattle.art_step.specs.Sound.{OneHolder, IsSound}
use Rattle.art_step.specs.Steps.Give.{HandsOver}
use Rattle.art_step.specs.Steps.Release.{IsNodeAmong, Drops}
use Rattle.art_step.specs.Views.{Member, words_in, IsNotHeld, IsOnce, Views, Memory, SetsView}
use Rattle.art_step.specs.declared.views.Event.{Event}
use Rattle.art_step.specs.declared.views.Holding.{Holding}
use Rattle.art_step.specs.declared.views.InHand.{InHand}
use Rattle.art_step.specs.declared.views.Note.{Note}
use Rattle.art_step.specs.declared.views.Pin.{Pin}
use Rattle.art_step.specs.declared.views.Retired.{Retired}
use Rattle.art_step.specs.declared.views.Sizes.{Sizes}
use Rattle.art_step.specs.declared.views.View.{View}
use Rattle.art_step.specs.declared.deeds.Deed.{Deed}
use Rattle.art_tree.specs.Changes.{IsUnlinked}
use Rattle.art_tree.specs.Heaps.{Cells, heap_of}
use Rattle.art_tree.specs.Rows.{ByteMap, HasRows}
use Rattle.art_tree.specs.Tree.{StandsAt}

-- ---- a change of the tree

-- what a pass that has not committed knows of the tree
pub record Knows (v : View) (s : Cells) : Type 0 where
  pub old : (h : Holding) → Member h v.held → s h.cell ≡ words_in h.old
  pub kept : (h : Holding) (y : Note) → Member h v.held → Member y v.notes → y.stamp.cell ≡ h.cell → h.stamped ≡ Some y.stamp.version →
      Holds s h.cell y.fact
  pub leaves : (x : InHand) (l : ℕ) → Member x v.hand → x.link ≡ leaf l → s (cell.Leaf l) ≡ words_in x.words
  pub hand : (x : InHand) → Member x v.hand → IsUnlinked (heap_of s) x.link

-- all held cells have their new words, and all other cells the words that they had
pub record AllNew (hs : List Holding) (s s' : Cells) : Type 0 where
  pub here : (h : Holding) → Member h hs → s' h.cell ≡ words_in h.new
  pub there : (c : Cell) → IsNotHeld hs c → s' c ≡ s c

abbrev pub IsLinked : Cells → Link → Type 0
IsLinked s d = (r : List ℕ) × StandsAt (heap_of s) d r

-- the tree s becomes s': the rows are those after the command, whose answer is the map's; each linked node that is not held
-- keeps its path; the numbers of us are unlinked and those of ls linked, and no others; each of us is named once, since it comes
-- back to the pass as often as it is named; nodes of us are held, and the numbers of ls are in hand, among them each that was
-- claimed
pub record Commits (z : Sizes) (v : View) (what : Deed) (us ls : List Link) (s s' : Cells) : Type 0 where
  pub shape : IsShape z s'
  pub rows : (b : ByteMap) → HasRows (heap_of s) b → IsAnswered b what × HasRows (heap_of s') (becomes b what)
  pub others : (n : Node) (p : List ℕ) → IsNotHeld v.held (cell.Node n) → StandsAt (heap_of s) (node n) p → StandsAt (heap_of s') (node n) p
  pub leaves : (d : Link) → Member d us → IsLinked s d × (IsLinked s' d → ⊥)
  pub comes : (d : Link) → Member d ls → IsLinked s' d × ((x : InHand) × Member x v.hand × (x.link ≡ d))
  pub once : IsOnce us
  pub stays : (d : Link) → IsLinked s d → Member d us ⊎ IsLinked s' d
  pub linked : (d : Link) → IsLinked s' d → Member d ls ⊎ IsLinked s d
  pub held : (n : Node) → Member (node n) us → (h : Holding) × Member h v.held × (h.cell ≡ cell.Node n)
  pub claimed : (h : Holding) (n : Node) → Member h v.held → h.stamped ≡ None → h.cell ≡ cell.Node n → Member (node n) ls

-- ---- where it may be made

-- so it is in each tree that is as the pass knows it
abbrev pub May : Sizes → View → Deed → List Link → List Link → Type 0
May z v what us ls = (s s' : Cells) → IsShape z s → Knows v s → AllNew v.held s s' → Commits z v what us ls s s'

pub record MayBeFirst (v : View) (us : List Link) (h : Holding) (b : Bool) : Type 0 where
  pub early : v.committed ≡ false
  pub held : Member h v.held
  pub obsolete : (b ≡ true) ↔ IsNodeAmong h.cell (λ d. Member d us)

-- the nodes that the pass claimed
abbrev pub claimed_node : Cell → Option ℕ → List Link → List Link
claimed_node (cell.Node n) None ds = node n ∷ ds
claimed_node (cell.Node n) (Some x) ds = ds
claimed_node cell.Anchor o ds = ds
claimed_node (cell.Leaf l) o ds = ds

abbrev pub claimed_nodes : List Holding → List Link
claimed_nodes [] = []
claimed_nodes (h ∷ hs) = claimed_node h.cell h.stamped (claimed_nodes hs)

-- what a commit brings into the tree: a leaf, if there is one, and the nodes that the pass claimed
abbrev pub coming : View → Option Link → List Link
coming v None = claimed_nodes v.held
coming v (Some d) = d ∷ claimed_nodes v.held

-- ---- the view after it

-- the pins are just those that stand
pub record AreStanding (f : Views) (ks : List Pin) : Type 0 where
  pub all : (q : ℕ) (u : View) → f q ≡ Some u → u.pin ≢ 0 → Member (record { pass = q; count = u.pins }) ks
  pub only : (q k : ℕ) → Member (record { pass = q; count = k }) ks → (u : View) × (f q ≡ Some u) × (u.pin ≢ 0) × (k ≡ u.pins)

-- a number that was just unlinked, with the pins that stand
abbrev pub retired : List Pin → Link → Retired
retired ks d = record { link = d; label = None; marked = []; pins = ks }

abbrev pub all_retired : List Pin → List Link → List Retired
all_retired ks [] = []
all_retired ks (d ∷ ds) = retired ks d ∷ all_retired ks ds

abbrev pub view_after : View → List Event → Deed → List Holding → List InHand → List Retired → View
view_after v log what hs xs es = record v {
  steps = v.steps + 1;
  seen = log ++ event v.pass what ∷ [];
  own = v.own ++ length log ∷ [];
  held = hs;
  committed = true;
  hand = xs;
  limbo = es;
}

-- ---- the step

-- the history grows by the event, the numbers that are linked leave the hand, and those that are unlinked go to limbo with the
-- pins that stand
pub record Step (z : Sizes) (p : ℕ) (v : View) (m : Memory) (f : Views) (m' : Memory) (f' : Views) (log : List Event) : Type 0 where
  pub what : Deed
  pub unlinked : List Link
  pub linked : List Link
  pub pins : List Pin
  pub holding : Holding
  pub held : List Holding
  pub hand : List InHand
  pub obsolete : Bool
  pub may : May z v what unlinked linked
  pub first : MayBeFirst v unlinked holding obsolete
  pub drops : Drops v.held holding.cell held
  pub hands : HandsOver v.hand linked hand
  pub standing : AreStanding f pins
  pub unlocks : Unlocks holding.cell obsolete m f m' f'
  pub view : SetsView f p (view_after v log what held hand (all_retired pins unlinked ++ v.limbo)) f'

-- each place that comes into the limbo holds the pins that stand
abbrev pub RetiresPinned : Views → View → View → Type 0
RetiresPinned f v w = (e : Retired) → Member e w.limbo → Member e v.limbo ⊎ AreStanding f e.pins

-- what happens at once: the version word of the cell is unlocked; the logical words of all cells that the view holds become the new
-- ones, and no others change; and each place that comes into the limbo of its pass holds the pins that stand just before
pub record UnlocksFirst (v : View) (c : Cell) (obsolete : Bool) (m : Memory) (f : Views) (m' : Memory) (f' : Views) : Type 0 where
  pub unlocks : Unlocks c obsolete m f m' f'
  pub logical : Cells
  pub logical_after : Cells
  pub holder : OneHolder m f logical
  pub holder_after : OneHolder m' f' logical_after
  pub bodies : AllNew v.held logical logical_after
  pub pins : (q : ℕ) (w : View) → f q ≡ Some v → f' q ≡ Some w → RetiresPinned f v w

-- the event is made, the numbers that come into the tree leave the hand, and those that leave it go to limbo, each with the same
-- pins: those that stand (`UnlocksFirst`)
pub record Outcome (v w : View) (what : Deed) (us ls : List Link) (h : Holding) : Type 0 where
  pub held : List Holding
  pub drops : Drops v.held h.cell held
  pub hand : List InHand
  pub hands : HandsOver v.hand ls hand
  pub pins : List Pin
  pub made : MakesEvent v w what
  pub is : w ≡ record v { steps = v.steps + 1; seen = w.seen; own = w.own; held = held; committed = true; hand = hand; limbo = all_retired pins us ++ v.limbo }

abbrev pub Law : Type 0
Law = (z : Sizes) (p : ℕ) (v : View) (m : Memory) (f : Views) (m' : Memory) (f' : Views) → f p ≡ Some v → (r : IsSound z m f) →
    Step z p v m f m' f' r.log → IsSound z m' f'
