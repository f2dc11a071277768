-- A change that may renew a node too: it makes two nodes at most, the new one of its own and the copy. What a pass holds on the way, and
-- what has to be shown before the first cell is locked.
use Rattle.std.specs.Prelude.{◌≡◌, ◌⊎◌, ◌↔◌, ℕ, ◌<◌, ◌≤◌, Bool, true, false, List, length, map, Option, Some, None}
use Rattle.std.specs.Option.{option_map}
use Rattle.art_cell.specs.Children.{child_word}
use Rattle.art_cell.specs.Reads.{word_of}
use Rattle.art_cell.specs.Words.{Words, size}
use Rattle.art_cell.specs.declared.cells.Cell.TheVariants as cell
use Rattle.art_cell.specs.declared.cells.Link.TheVariants.{Node as node}
use Rattle.art_cell.specs.declared.cells.Node.{Node}
use Rattle.art_plan.specs.Changes.{IsLocked, IsTarget, MayPut, MayTarget, OnlyLocks, filled_at, leaf_linked, node_made, put_at, target_at, targets, unlinked}
use Rattle.art_plan.specs.declared.changes.Change.{Change}
use Rattle.art_plan.specs.declared.changes.Put.{Put}
use Rattle.art_plan.specs.declared.changes.Target.{Target}
use Rattle.art_plan.specs.declared.changes.Twin.{Twin}
use Rattle.art_step.specs.Steps.Commit as commit
use Rattle.art_step.specs.Steps.Release.{IsNodeAmong}
use Rattle.art_step.specs.Views.{IsWordOf, IsInLimbo, Member, words_in}
use Rattle.art_step.specs.WordPlaces.{IsInside}
use Rattle.art_step.specs.declared.views.Holding.{Holding}
use Rattle.art_step.specs.declared.views.InHand.{InHand}
use Rattle.art_step.specs.declared.views.Sizes.{Sizes}
use Rattle.art_step.specs.declared.views.View.{View}

-- ---- the nodes that it makes

-- the copy, if it makes one
abbrev pub twin_node : Twin → Node
twin_node t = record { layout = t.body.layout; number = t.number }

abbrev pub node_copied : Change → Option Node
node_copied c = option_map twin_node c.copy

-- either: the copy where it is true, and else the node of its own
abbrev pub made_at : Bool → Change → Option Node
made_at true c = node_copied c
made_at false c = node_made c

-- a word of it
abbrev pub twin_word : Option Twin → Words
twin_word (Some t) i = word_of t.body i
twin_word None i = 0

abbrev pub made_word : Bool → Change → Words
made_word true c i = twin_word c.copy i
made_word false c i = word_of c.body i

-- how many words of each are written in the end, the version's place among them; 0 where it makes none
abbrev pub filled_ends : Change → Bool → ℕ
filled_ends c b = filled_at c (made_at b c)

-- ---- what is held on the way

-- a new node, which was claimed, with its words before a place; its number is not in limbo
pub record IsFilledBy (u : View) (word : Words) (n : Node) (place : ℕ) (h : Holding) : Type 0 where
  pub cell : h.cell ≡ cell.Node n
  pub stamped : h.stamped ≡ None
  pub long : length h.new ≡ size n.layout
  pub version : words_in h.new 0 ≡ 0
  pub apart : IsInLimbo u (node n) → ⊥
  pub words : (i : ℕ) → 0 < i → i < place → words_in h.new i ≡ word i

pub record IsNewBy (u : View) (c : Change) (filled : Bool → ℕ) (h : Holding) : Type 0 where
  pub which : Bool
  pub made : Node
  pub is : made_at which c ≡ Some made
  pub some : 0 < filled which
  pub filled_up : IsFilledBy u (made_word which c) made (filled which) h

-- just the targets from one index up to another are held, after these puts, and each new node with its words before a place, if that
-- is not 0
pub record HoldsWhole (u : View) (c : Change) (from to : ℕ) (ps : List Put) (filled : Bool → ℕ) (hs : List Holding) : Type 0 where
  pub each : (i : ℕ) (x : Target) → from ≤ i → i < to → target_at c i ≡ Some x → (h : Holding) × Member h hs × IsLocked u i x ps h
  pub new : (b : Bool) (n : Node) → made_at b c ≡ Some n → 0 < filled b → (h : Holding) × Member h hs × IsFilledBy u (made_word b c) n (filled b) h
  pub only : (h : Holding) → Member h hs → IsTarget u c from to ps h ⊎ IsNewBy u c filled h
  pub single : (h k : Holding) → Member h hs → Member k hs → h.cell ≡ k.cell → h ≡ k

-- ---- a plan

-- a new node may be claimed, and its words written
pub record MayMakeBy (z : Sizes) (u : View) (word : Words) (n : Node) : Type 0 where
  pub inside : IsInside z (cell.Node n)
  pub hand : (x : InHand) × Member x u.hand × (x.link ≡ node n)
  pub forms : (i : ℕ) → IsWordOf z (cell.Node n) i (word i)

-- all cells of the change are held, with their new words, and the pass has not committed
pub record IsWholeReady (u : View) (c : Change) (v : View) : Type 0 where
  pub same : OnlyLocks u v
  pub holds : HoldsWhole u c 0 (targets c) c.puts.items (filled_ends c) v.held

-- a change that may be made by a pass with the view u
pub record IsWhole (z : Sizes) (u : View) (c : Change) : Type 0 where
  pub some : 0 < targets c
  pub each : (i : ℕ) (x : Target) → target_at c i ≡ Some x → MayTarget z u x
  pub apart : (i j : ℕ) (x y : Target) → target_at c i ≡ Some x → target_at c j ≡ Some y → x.stamp.cell ≡ y.stamp.cell → i ≡ j
  pub puts : (j : ℕ) (p : Put) → put_at c j ≡ Some p → MayPut z c p
  pub new : (b : Bool) (n : Node) → made_at b c ≡ Some n → MayMakeBy z u (made_word b c) n
  pub two : (n : Node) → made_at false c ≡ Some n → made_at true c ≡ Some n → ⊥
  pub words : map child_word (unlinked c) ≡ c.effects.unlinked.items
  pub obsolete : (i : ℕ) (x : Target) → target_at c i ≡ Some x → (x.obsolete ≡ true) ↔ IsNodeAmong x.stamp.cell (λ d. Member d (unlinked c))
  pub gone : (n : Node) → Member (node n) (unlinked c) → (i : ℕ) × (x : Target) × (target_at c i ≡ Some x) × (x.stamp.cell ≡ cell.Node n)
  pub may : (v : View) → IsWholeReady u c v → commit.May z v c.effects.deed (unlinked c) (commit.coming v (leaf_linked c))
