-- A node with another prefix, and a node of two children.
use Rattle.std.specs.Prelude.{◌≡◌, ℕ, ◌<◌, List, ◌==◌, if◌then◌else◌, Option, Some, None}
use Rattle.art_cell.specs.declared.cells.Layout.{Layout}
use Rattle.art_cell.specs.declared.cells.Write.{Write}
use Rattle.art_cell.specs.Bodies.{IsBody}
use Rattle.art_cell.specs.Reads.{SameOutside, changes, written}
use Rattle.art_cell.specs.Words.{Words, prefix_of, child_of}

-- a node with this prefix and these child words
pub record IsNodeOf (k : Layout) (w : Words) (p : List ℕ) (child : ℕ → Option ℕ) : Type 0 where
  pub body : IsBody k w
  pub prefix : prefix_of w ≡ p
  pub children : (b : ℕ) → b < 256 → child_of k w b ≡ child b

-- the writes give the words another prefix, and no other children: those that differ and no others, in ascending place
pub record IsPrefixPlan (k : Layout) (w : Words) (writes : List Write) (p : List ℕ) : Type 0 where
  pub node : IsNodeOf k (written w writes) p (child_of k w)
  pub exact : writes ≡ changes k w (written w writes)
  pub outside : SameOutside k w (written w writes)

-- the child words of two bytes alone
abbrev pub two_of : ℕ → ℕ → ℕ → ℕ → ℕ → Option ℕ
two_of a c b d e = if e == a then Some c else if e == b then Some d else None
