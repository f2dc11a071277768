-- What a change locks, writes and makes, and what a pass holds on the way.
use Rattle.std.specs.Prelude.{◌≡◌, ◌⊎◌, ◌↔◌, ℕ, ◌<◌, ◌≤◌, ◌==◌, if◌then◌else◌, List, [], ◌∷◌, length, map, set, true, Option, Some, None}
use Rattle.std.specs.List.{slice_get}
use Rattle.std.specs.Option.{option_map}
use Rattle.art_cell.specs.Children.{child_word}
use Rattle.art_cell.specs.Reads.{word_of}
use Rattle.art_cell.specs.Words.{size}
use Rattle.art_cell.specs.declared.cells.Cell.TheVariants as cell
use Rattle.art_cell.specs.declared.cells.Link.{Link}
use Rattle.art_cell.specs.declared.cells.Link.TheVariants.{Node as node}
use Rattle.art_cell.specs.declared.cells.Node.{Node}
use Rattle.art_key.specs.declared.bounds.Bound.TheVariants.{End}
use Rattle.art_step.specs.Acting as effects
use Rattle.art_step.specs.declared.actions.Effects.{Effects}
use Rattle.art_plan.specs.declared.changes.Change.{Change}
use Rattle.art_plan.specs.declared.changes.Put.{Put}
use Rattle.art_plan.specs.declared.changes.Target.{Target}
use Rattle.art_step.specs.Shows.{rest_of}
use Rattle.art_step.specs.Steps.Commit as commit
use Rattle.art_step.specs.Steps.Release.{IsNodeAmong}
use Rattle.art_step.specs.Steps.Upgrade.{AgreesWithNotes}
use Rattle.art_step.specs.Views.{IsWordOf, IsInLimbo, IsNotInHand, Member, cell_named, note_of, size_of, words_in}
use Rattle.art_step.specs.WordPlaces.{HasVersion, IsInside}
use Rattle.art_step.specs.declared.deeds.Deed.TheVariants.{Look}
use Rattle.art_step.specs.declared.views.Fact.TheVariants.{Starts}
use Rattle.art_step.specs.declared.views.Holding.{Holding}
use Rattle.art_step.specs.declared.views.InHand.{InHand}
use Rattle.art_step.specs.declared.views.Sizes.{Sizes}
use Rattle.art_step.specs.declared.views.View.{View}

-- ---- the parts of a change

-- before it is planned: a look that finds no row, with no leaf that comes and none that leaves
abbrev pub no_effects : Effects
no_effects = effects.tells (Look (record { items = [] }) End None)

-- the target with an index, from the top down, if there is one
abbrev pub target_at : Change → ℕ → Option Target
target_at c i = slice_get c.targets.items i

abbrev pub put_at : Change → ℕ → Option Put
put_at c j = slice_get c.puts.items j

-- how many targets there are
abbrev pub targets : Change → ℕ
targets c = length c.targets.items

-- the node that it makes, if it makes one
abbrev pub node_made : Change → Option Node
node_made c = option_map (λ (number : ℕ). record { layout = c.body.layout; number = number }) c.node

-- the leaf that it links, if it links one
abbrev pub leaf_linked : Change → Option Link
leaf_linked c = effects.leaf_linked c.effects

-- what it unlinks
abbrev pub unlinked : Change → List Link
unlinked c = effects.unlinked c.effects

-- how many words of the node that it makes are written in the end, the version's place among them; 0 where it makes none
abbrev pub filled_at : Change → Option Node → ℕ
filled_at c (Some n) = size n.layout
filled_at c None = 0

abbrev pub filled_end : Change → ℕ
filled_end c = filled_at c (node_made c)

-- ---- what is written

-- the words of the target with an index, after these puts
abbrev pub with_puts : ℕ → List Put → List ℕ → List ℕ
with_puts i [] ws = ws
with_puts i (p ∷ ps) ws = with_puts i ps (if p.target == i then set ws p.place p.value else ws)

-- ---- what is held on the way, of a pass that had the view u when the change was planned

-- a target that was upgraded, with its words after these puts: its number is neither in hand nor in limbo
pub record IsLocked (u : View) (i : ℕ) (x : Target) (ps : List Put) (h : Holding) : Type 0 where
  pub cell : h.cell ≡ x.stamp.cell
  pub stamped : h.stamped ≡ Some x.stamp.version
  pub long : length h.old ≡ size_of x.stamp.cell
  pub version : words_in h.old 0 ≡ 0
  pub agrees : AgreesWithNotes u x.stamp h.old
  pub apart : (d : Link) → cell_named d ≡ x.stamp.cell → IsNotInHand u d × (IsInLimbo u d → ⊥)
  pub new : h.new ≡ with_puts i ps h.old

-- the new node, which was claimed, with its words before a place; its number is not in limbo
pub record IsFilled (u : View) (c : Change) (n : Node) (place : ℕ) (h : Holding) : Type 0 where
  pub cell : h.cell ≡ cell.Node n
  pub stamped : h.stamped ≡ None
  pub long : length h.new ≡ size n.layout
  pub version : words_in h.new 0 ≡ 0
  pub apart : IsInLimbo u (node n) → ⊥
  pub words : (i : ℕ) → 0 < i → i < place → words_in h.new i ≡ word_of c.body i

pub record IsTarget (u : View) (c : Change) (from to : ℕ) (ps : List Put) (h : Holding) : Type 0 where
  pub index : ℕ
  pub target : Target
  pub is : target_at c index ≡ Some target
  pub above : from ≤ index
  pub below : index < to
  pub locked : IsLocked u index target ps h

pub record IsNew (u : View) (c : Change) (filled : ℕ) (h : Holding) : Type 0 where
  pub made : Node
  pub is : node_made c ≡ Some made
  pub some : 0 < filled
  pub filled_up : IsFilled u c made filled h

-- just the targets from one index up to another are held, after these puts, and the new node with its words before a place, if that
-- is not 0
pub record Holds (u : View) (c : Change) (from to : ℕ) (ps : List Put) (filled : ℕ) (hs : List Holding) : Type 0 where
  pub each : (i : ℕ) (x : Target) → from ≤ i → i < to → target_at c i ≡ Some x → (h : Holding) × Member h hs × IsLocked u i x ps h
  pub new : (n : Node) → node_made c ≡ Some n → 0 < filled → (h : Holding) × Member h hs × IsFilled u c n filled h
  pub only : (h : Holding) → Member h hs → IsTarget u c from to ps h ⊎ IsNew u c filled h
  pub single : (h k : Holding) → Member h hs → Member k hs → h.cell ≡ k.cell → h ≡ k

-- but for what it holds, the pass is as it was
pub record OnlyLocks (u v : View) : Type 0 where
  pub rest : rest_of (record v { held = u.held; committed = u.committed }) ≡ rest_of u
  pub stamps : v.stamps ≡ u.stamps
  pub notes : v.notes ≡ u.notes
  pub failures : v.failures ≡ u.failures

-- ---- a plan

-- a target may be upgraded
pub record MayTarget (z : Sizes) (u : View) (x : Target) : Type 0 where
  pub inside : HasVersion z x.stamp.cell
  pub stamp : Member x.stamp u.stamps
  pub path : (q : List ℕ) × Member (note_of x.stamp (Starts q)) u.notes

-- a word of a target may be put
pub record MayPut (z : Sizes) (c : Change) (p : Put) : Type 0 where
  pub target : Target
  pub is : target_at c p.target ≡ Some target
  pub place : (0 < p.place) × (p.place < size_of target.stamp.cell)
  pub form : IsWordOf z target.stamp.cell p.place p.value

-- the new node may be claimed, and its words written
pub record MayMake (z : Sizes) (u : View) (c : Change) (n : Node) : Type 0 where
  pub inside : IsInside z (cell.Node n)
  pub hand : (x : InHand) × Member x u.hand × (x.link ≡ node n)
  pub forms : (i : ℕ) → IsWordOf z (cell.Node n) i (word_of c.body i)

-- all cells of the change are held, with their new words, and the pass has not committed
pub record IsReady (u : View) (c : Change) (v : View) : Type 0 where
  pub same : OnlyLocks u v
  pub holds : Holds u c 0 (targets c) c.puts.items (filled_end c) v.held

-- a change that may be made by a pass with the view u: what it writes is a commit of its deed, whatever the words of the targets
-- are of which nothing was noted; and just the nodes that it unlinks become obsolete
pub record IsPlanned (z : Sizes) (u : View) (c : Change) : Type 0 where
  pub plain : c.copy ≡ None
  pub some : 0 < targets c
  pub each : (i : ℕ) (x : Target) → target_at c i ≡ Some x → MayTarget z u x
  pub apart : (i j : ℕ) (x y : Target) → target_at c i ≡ Some x → target_at c j ≡ Some y → x.stamp.cell ≡ y.stamp.cell → i ≡ j
  pub puts : (j : ℕ) (p : Put) → put_at c j ≡ Some p → MayPut z c p
  pub new : (n : Node) → node_made c ≡ Some n → MayMake z u c n
  pub words : map child_word (unlinked c) ≡ c.effects.unlinked.items
  pub obsolete : (i : ℕ) (x : Target) → target_at c i ≡ Some x → (x.obsolete ≡ true) ↔ IsNodeAmong x.stamp.cell (λ d. Member d (unlinked c))
  pub gone : (n : Node) → Member (node n) (unlinked c) → (i : ℕ) × (x : Target) × (target_at c i ≡ Some x) × (x.stamp.cell ≡ cell.Node n)
  pub may : (v : View) → IsReady u c v → commit.May z v c.effects.deed (unlinked c) (commit.coming v (leaf_linked c))
