-- What every machine says of a view: that the pass only read, which cells it has stamped, and what follows from the notes under
-- a stamp.
use Rattle.std.specs.Prelude.{◌≡◌, ℕ, List, Bool, Option, Some}
use Rattle.std.specs.FinMap.{get}
use Rattle.art_cell.specs.declared.cells.Cell.{Cell}
use Rattle.art_cell.specs.declared.cells.Link.{Link}
use Rattle.art_step.specs.declared.views.Event.{Event}
use Rattle.art_step.specs.declared.views.Holding.{Holding}
use Rattle.art_step.specs.declared.views.InHand.{InHand}
use Rattle.art_step.specs.declared.views.EpochSeen.{EpochSeen}
use Rattle.art_step.specs.declared.views.Retired.{Retired}
use Rattle.art_step.specs.declared.views.Sizes.{Sizes}
use Rattle.art_step.specs.declared.views.Stamp.{Stamp}
use Rattle.art_step.specs.declared.views.View.{View}
use Rattle.art_tree.specs.Heaps.{Cells, heap_of}
use Rattle.art_step.specs.Knowledge.{IsShape, CellAt, child_at, HoldsAll}
use Rattle.art_tree.specs.Rows.{ByteMap, HasRows}
use Rattle.art_tree.specs.Tree.{StandsAt}
use Rattle.art_step.specs.Views.{Member}
use Rattle.art_step.specs.WordPlaces.{HasVersion}

-- ---- what reading leaves as it is

-- all of a view but steps, failures, stamps, notes, the last check and what was found
pub record Rest : Type 0 where
  pub pass : ℕ
  pub seen : List Event
  pub own : List ℕ
  pub pins : ℕ
  pub pin : ℕ
  pub noted : Option EpochSeen
  pub held : List Holding
  pub committed : Bool
  pub hand : List InHand
  pub limbo : List Retired

abbrev pub rest_of : View → Rest
rest_of v = record {
  pass = v.pass;
  seen = v.seen;
  own = v.own;
  pins = v.pins;
  pin = v.pin;
  noted = v.noted;
  held = v.held;
  committed = v.committed;
  hand = v.hand;
  limbo = v.limbo;
}

-- from the view v to w nothing changed but what reading changes: the pass began, read, and checked with no event
abbrev pub OnlyReads : View → View → Type 0
OnlyReads v w = rest_of w ≡ rest_of v

-- the same, but that it saw and made events
abbrev pub OnlyTells : View → View → Type 0
OnlyTells v w = OnlyReads v (record w { seen = v.seen; own = v.own })

-- ---- what is known under a stamp

-- the pass has the stamp, and there is such a cell
pub record HasStamp (z : Sizes) (v : View) (x : Stamp) : Type 0 where
  pub stamp : Member x v.stamps
  pub inside : HasVersion z x.cell

-- so it is in each shape in which the notes under the stamp hold
abbrev pub Shows : Sizes → View → Stamp → (Cells → Type 0) → Type 0
Shows z v x so = (s : Cells) → IsShape z s → HoldsAll v x s → so s

-- ---- what is shown of a cell, and of a key

-- the cell c is in the tree and has the child d, to which the path p leads
pub record HasChild (s : Cells) (c : Cell) (d : Link) (p : List ℕ) : Type 0 where
  pub path : List ℕ
  pub there : CellAt s c path
  pub byte : ℕ
  pub names : child_at (heap_of s) c byte ≡ Some d
  pub at : StandsAt (heap_of s) d p

-- the key has the value in the tree, or none
abbrev pub HasValue : Cells → List ℕ → Option ℕ → Type 0
HasValue s k o = (m : ByteMap) → HasRows (heap_of s) m → get m k ≡ o
