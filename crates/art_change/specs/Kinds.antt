-- What the view of a pass says of a step of each kind.
use Rattle.std.specs.Prelude.{◌⊎◌, ℕ, Option, Result, ⊤}
use Rattle.art_step.specs.declared.step_kinds.StepKind.{StepKind}
use Rattle.art_step.specs.declared.step_kinds.StepKind.TheVariants as kind
use Rattle.art_cell.specs.declared.cells.Cell.{Cell}
use Rattle.art_cell.specs.declared.cells.Link.{Link}
use Rattle.art_cell.specs.declared.cells.Node.{Node}
use Rattle.art_cell.specs.declared.cells.Pool.{Pool}
use Rattle.art_step.specs.Acting.{Upgrades, leaf_linked, unlinked}
use Rattle.art_step.specs.declared.actions.Effects.{Effects}
use Rattle.art_step.specs.Steps.Advance as advance
use Rattle.art_step.specs.Steps.Anchor as anchor
use Rattle.art_step.specs.Steps.Begin as begin
use Rattle.art_step.specs.Steps.Check as check
use Rattle.art_step.specs.Steps.Claim as claim
use Rattle.art_step.specs.Steps.Commit as commit
use Rattle.art_step.specs.Steps.Epoch as epoch
use Rattle.art_step.specs.Steps.Give as give
use Rattle.art_step.specs.Steps.Pin as pin
use Rattle.art_step.specs.Steps.Read as read
use Rattle.art_step.specs.Steps.Release as release
use Rattle.art_step.specs.Steps.Take as take_free
use Rattle.art_step.specs.Steps.Watch as watch
use Rattle.art_step.specs.Steps.Write as write
use Rattle.art_step.specs.Views.{IsHolding, IsInHand, IsInLimbo, IsOnce, links_in_limbo}
use Rattle.art_step.specs.declared.deeds.Deed.{Deed}
use Rattle.art_step.specs.declared.faults.Changed.{Changed}
use Rattle.art_step.specs.declared.faults.Locked.{Locked}
use Rattle.art_step.specs.declared.faults.UpgradeFault.{UpgradeFault}
use Rattle.art_step.specs.declared.views.Holding.{Holding}
use Rattle.art_step.specs.declared.views.InHand.{InHand}
use Rattle.art_step.specs.declared.views.Sizes.{Sizes}
use Rattle.art_step.specs.declared.views.Stamp.{Stamp}
use Rattle.art_step.specs.declared.views.View.{View}

-- a word was read: of a stamped cell, or of a leaf that it names
abbrev pub Reads : Sizes → View → View → Type 0
Reads z v w = ((x : Stamp) × (i : ℕ) × (word : ℕ) × read.Outcome z v w x i word)
    ⊎ ((x : Stamp) × (l : ℕ) × (i : ℕ) × (word : ℕ) × read.LeafOutcome v w x l i word)

-- a word was written: of a cell that is held, or of a leaf in hand
abbrev pub Writes : View → View → Type 0
Writes v w = ((c : Cell) × (h : Holding) × (i : ℕ) × (word : ℕ) × IsHolding v c h × write.Outcome v w h i word)
    ⊎ ((d : Link) × (y : InHand) × (i : ℕ) × (word : ℕ) × IsInHand v d y × write.LeafOutcome v w y i word)

-- a number went back, that was in hand or in limbo
abbrev pub Gives : View → View → Type 0
Gives v w = ((d : Link) × (y : InHand) × IsInHand v d y × give.Outcome v w d) ⊎ ((d : Link) × IsInLimbo v d × give.FreeOutcome v w d)

-- a cell that is held was released, unchanged
abbrev pub Releases : View → View → Type 0
Releases v w = (c : Cell) × (h : Holding) × IsHolding v c h × release.Outcome v w h

-- effects came about by the release of a cell that is held, and each number waits in limbo once
pub record CommitsBy (v w : View) (effects : Effects) (c : Cell) : Type 0 where
  pub holding : Holding
  pub held : IsHolding v c holding
  pub outcome : commit.Outcome v w effects.deed (unlinked effects) (commit.coming v (leaf_linked effects)) holding
  pub once : IsOnce (links_in_limbo w.limbo)

-- from the view v to w the pass made one step of this kind; an upgrade whose counter is at its end makes none
abbrev pub IsStep : StepKind → Sizes → View → View → Type 0
IsStep kind.Begin z v w = (c : Cell) × (r : Result Stamp Locked) × begin.Outcome z v w c r
IsStep kind.Read z v w = Reads z v w
IsStep kind.Check z v w = (x : Stamp) × (o : Option Deed) × (r : Result ⊤ Changed) × check.Outcome z v w x o r
IsStep kind.Upgrade z v w = (x : Stamp) × (r : Result ⊤ UpgradeFault) × Upgrades v w x r
IsStep kind.Write z v w = Writes v w
IsStep kind.Commit z v w = (effects : Effects) × (c : Cell) × CommitsBy v w effects c
IsStep kind.Release z v w = Releases v w
IsStep kind.Claim z v w = (n : Node) × claim.Outcome v w n
IsStep kind.Take z v w = (pool : Pool) × (i : ℕ) × (bit : Option ℕ) × (word : ℕ) × take_free.Outcome z v w pool i bit word
IsStep kind.Give z v w = Gives v w
IsStep kind.Epoch z v w = (word : ℕ) × epoch.Outcome z v w word
IsStep kind.Pin z v w = (word : ℕ) × pin.Outcome v w word
IsStep kind.Advance z v w = advance.Outcome v w
IsStep kind.Watch z v w = (pass : ℕ) × (word : ℕ) × watch.Outcome v w pass word
IsStep kind.Anchor z v w = anchor.Outcome v w
