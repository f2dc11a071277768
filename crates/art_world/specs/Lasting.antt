-- What lasts from step to step besides what is sound: no cell of the tree is obsolete, and what a pass has found it found at its
-- steps.
use Rattle.std.specs.Prelude.{◌≡◌, ℕ, ◌≤◌, Some}
use Rattle.art_cell.specs.declared.cells.Cell.TheVariants as cell
use Rattle.art_cell.specs.declared.cells.Link.TheVariants.{Node as node}
use Rattle.art_cell.specs.declared.cells.Node.{Node}
use Rattle.art_step.specs.declared.views.Found.{Found}
use Rattle.art_step.specs.declared.views.Sizes.{Sizes}
use Rattle.art_step.specs.declared.views.View.{View}
use Rattle.art_step.specs.Sound.{IsSound, InTree}
use Rattle.art_step.specs.Views.{IsObsolete, Member, Memory, Views}

-- what the pass has found it found at steps that it has made
abbrev pub IsTimely : View → Type 0
IsTimely v = (y : Found) → Member y v.found → y.step ≤ v.steps

-- no cell of the tree is obsolete: neither the anchor nor a node that stands in it
pub record NoneGone (z : Sizes) (m : Memory) (f : Views) : Type 0 where
  pub anchor : IsObsolete (m.version cell.Anchor) → ⊥
  pub nodes : (r : IsSound z m f) (n : Node) → r.at (node n) ≡ InTree → IsObsolete (m.version (cell.Node n)) → ⊥

pub record IsLasting (z : Sizes) (m : Memory) (f : Views) : Type 0 where
  pub gone : NoneGone z m f
  pub timely : (p : ℕ) (v : View) → f p ≡ Some v → IsTimely v
