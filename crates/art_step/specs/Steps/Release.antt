-- Release: a held cell is unlocked, after the commit, or of a change that is given up with nothing written or claimed.
use Rattle.std.specs.Prelude.{List, ◌≢◌, ◌≡◌, Bool, true, ◌↔◌, ◌⊎◌, false, ◌+◌, ℕ}
use Rattle.art_cell.specs.declared.cells.Cell.TheVariants as cell
use Rattle.art_cell.specs.declared.cells.Link.TheVariants.{Node as node}
use Rattle.art_cell.specs.declared.cells.Cell.{Cell}
use Rattle.art_cell.specs.declared.cells.Link.{Link}
use Rattle.art_cell.specs.declared.cells.Node.{Node}
use Rattle.art_step.specs.Effects.{Unlocks}
use Rattle.art_step.specs.Sound.{KeepsSound}
use Rattle.art_step.specs.Steps.Upgrade.{HasClaimedNone}
use Rattle.art_step.specs.Views.{Member, IsInLimbo, Memory, Views, SetsView}
use Rattle.art_step.specs.declared.views.Holding.{Holding}
use Rattle.art_step.specs.declared.views.Sizes.{Sizes}
use Rattle.art_step.specs.declared.views.View.{View}

-- the list without the cell
pub record Drops (hs : List Holding) (c : Cell) (hs' : List Holding) : Type 0 where
  pub was : (h : Holding) → Member h hs' → Member h hs × (h.cell ≢ c)
  pub stays : (h : Holding) → Member h hs → h.cell ≢ c → Member h hs'

-- the node of the cell is one of these
abbrev pub IsNodeAmong : Cell → (Link → Type 0) → Type 0
IsNodeAmong c P = (n : Node) × (c ≡ cell.Node n) × P (node n)

-- after the commit a cell becomes obsolete just where its node is in limbo
abbrev pub May : View → Holding → Bool → Type 0
May v h obsolete = Member h v.held × (((v.committed ≡ true) × ((obsolete ≡ true) ↔ IsNodeAmong h.cell (IsInLimbo v)))
    ⊎ ((v.committed ≡ false) × (obsolete ≡ false) × ((k : Holding) → Member k v.held → k.new ≡ k.old) × HasClaimedNone v))

abbrev pub view_after : View → List Holding → View
view_after v hs = record v { steps = v.steps + 1; held = hs }

pub record Step (z : Sizes) (p : ℕ) (v : View) (m : Memory) (f : Views) (m' : Memory) (f' : Views) : Type 0 where
  pub holding : Holding
  pub held : List Holding
  pub obsolete : Bool
  pub may : May v holding obsolete
  pub drops : Drops v.held holding.cell held
  pub unlocks : Unlocks holding.cell obsolete m f m' f'
  pub view : SetsView f p (view_after v held) f'

pub record Outcome (v w : View) (h : Holding) : Type 0 where
  pub held : List Holding
  pub drops : Drops v.held h.cell held
  pub is : w ≡ view_after v held

abbrev pub Law : Type 0
Law = KeepsSound Step
