-- What each case of an insert knows of what was read.
use Rattle.std.specs.Prelude.{◌≡◌, ℕ, ◌+◌, List, [], ◌∷◌, ◌++◌, take, drop, Some, None}
use Rattle.art_cell.specs.Reads.{word_of}
use Rattle.art_cell.specs.Words.{prefix_of}
use Rattle.art_cell.specs.declared.cells.Link.TheVariants.{Leaf as leaf}
use Rattle.art_cell.specs.declared.cells.Node.{Node}
use Rattle.art_commit.specs.CommitLaws.{HasLeaf, HasNode}
use Rattle.art_plan.specs.Insert.Puts.{node4}
use Rattle.art_plan.specs.declared.insert.NewLeaf.{NewLeaf}
use Rattle.art_plan.specs.declared.insert.Parting.{Parting}
use Rattle.art_plan.specs.Seen.{HasBelow, SiteFits, site_stamp}
use Rattle.art_plan.specs.declared.changes.Below.{Below}
use Rattle.art_plan.specs.declared.changes.Site.{Site}
use Rattle.art_step.specs.Shows.{Shows}
use Rattle.art_step.specs.Views.{IsNumber}
use Rattle.art_step.specs.declared.views.Sizes.{Sizes}
use Rattle.art_step.specs.declared.views.View.{View}
use Rattle.art_tree.specs.Heaps.{heap_of}
use Rattle.art_tree.specs.Tree.{Begins}

-- the leaf is in hand, with its words
abbrev pub IsInHand : Sizes → View → NewLeaf → Type 0
IsInHand z u new = HasLeaf z u new.number new.key.items new.value

-- so many bytes of the key lead to the site, which has no child
pub record IsAdd (z : Sizes) (u : View) (site : Site) (new : NewLeaf) (depth : ℕ) : Type 0 where
  pub place : SiteFits z u site new.key.items depth None
  pub new_leaf : IsInHand z u new

-- the site has another leaf, whose key is the new one as far as both are common, and has this byte there; a Node4 is in hand
pub record IsForkLeaf (z : Sizes) (u : View) (site : Site) (new : NewLeaf) (parting : Parting) (other byte number : ℕ) : Type 0 where
  pub place : SiteFits z u site new.key.items parting.depth (Some (leaf other))
  pub there : IsNumber z (leaf other)
  pub begins : Shows z u (site_stamp site) (λ s.
      Begins (take (parting.depth + parting.common) new.key.items ++ byte ∷ []) ((heap_of s).key other))
  pub made : HasNode z u (node4 number)
  pub new_leaf : IsInHand z u new

-- the bytes of the key lead to this byte of the node below; a node m is in hand
pub record IsGrow (z : Sizes) (u : View) (site : Site) (new : NewLeaf) (depth : ℕ) (below : Below) (byte : ℕ) (m : Node) : Type 0 where
  pub there : HasBelow z u site new.key.items depth below
  pub way : Begins (take depth new.key.items ++ prefix_of (word_of below.body.now) ++ byte ∷ []) new.key.items
  pub made : HasNode z u m
  pub new_leaf : IsInHand z u new

-- the node below has this prefix, which is the key's as far as both are common; a Node4 is in hand
pub record IsForkPrefix (z : Sizes) (u : View) (site : Site) (new : NewLeaf) (parting : Parting) (below : Below) (prefix : List ℕ)
    (number : ℕ) : Type 0 where
  pub there : HasBelow z u site new.key.items parting.depth below
  pub prefix_is : prefix_of (word_of below.body.now) ≡ prefix
  pub same : take parting.common prefix ≡ take parting.common (drop parting.depth new.key.items)
  pub made : HasNode z u (node4 number)
  pub new_leaf : IsInHand z u new
