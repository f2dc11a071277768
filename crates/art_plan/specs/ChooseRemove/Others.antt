-- The child beside another one, as the words that were read of a node have it, whatever they are.
use Rattle.std.specs.Prelude.{◌≡◌, ◌≢◌, ℕ, ◌<◌, ◌≤◌, List, Option, Some, None}
use Rattle.art_cell.specs.Bodies.{IsBody}
use Rattle.art_cell.specs.Children.{link_of}
use Rattle.art_cell.specs.Reads.{Agrees, IsLeastFrom, NoneFrom, word_read}
use Rattle.art_cell.specs.Words.{Words, first_child, size}
use Rattle.art_cell.specs.declared.cells.Link.{Link}
use Rattle.art_cell.specs.declared.cells.Layout.{Layout}
use Rattle.art_cell.specs.declared.node_kinds.Entry.{Entry}
use Rattle.art_plan.specs.ArtFind.ReadSets.{node_of}
use Rattle.art_plan.specs.ArtFind.Findings.{IsStanding}
use Rattle.art_plan.specs.ArtFind.Rereadings.{AreKnown}
use Rattle.art_plan.specs.ArtFind.declared.read_sets.ReadSet.{ReadSet}
use Rattle.art_plan.specs.ArtFind.declared.findings.Position.{Position}
use Rattle.art_step.specs.Knowledge.{KnowsPath}
use Rattle.art_step.specs.Views.{IsChildPlace, cell_named, size_of}
use Rattle.art_step.specs.declared.views.Sizes.{Sizes}
use Rattle.art_step.specs.declared.views.View.{View}

-- the word was read at a place of a child
pub record IsChildRead (k : Layout) (reads : List (Option ℕ)) (word : ℕ) : Type 0 where
  pub place : ℕ
  pub after : first_child k ≤ place
  pub inside : place < size k
  pub read : word_read reads place ≡ Some word

-- the words are those of a node, and each of them was read
pub record IsReadOf (k : Layout) (reads : List (Option ℕ)) (w : Words) : Type 0 where
  pub body : IsBody k w
  pub agrees : Agrees reads w
  pub known : AreKnown reads 1 (size k)

-- the least entry at a byte or above, if there is one
abbrev pub IsLeast : (ℕ → Option ℕ) → ℕ → Option Entry → Type 0
IsLeast child low (Some entry) = IsLeastFrom child low entry
IsLeast child low None = NoneFrom child low 256

-- an entry that is not at the byte, if there is one
abbrev pub IsBeside : (ℕ → Option ℕ) → ℕ → Option Entry → Type 0
IsBeside child byte (Some entry) = (entry.byte ≢ byte) × (child entry.byte ≡ Some entry.child)
IsBeside child byte None = (b : ℕ) → b < 256 → b ≢ byte → child b ≡ None

-- a word that was read of the cell at a place of a child names the link
pub record NamesChild (t : Position) (read_set : ReadSet) (d : Link) : Type 0 where
  pub place : ℕ
  pub child : IsChildPlace t.stamp.cell place
  pub word : ℕ
  pub read : word_read (node_of read_set) place ≡ Some word
  pub names : link_of word ≡ Some d

-- each pass that knows all words of the cell, and where the leaf stands, knows a path to the child in each tree in which they hold: so a
-- check of the cell gives the child its path
abbrev pub LeadsTo : Position → ReadSet → List ℕ → Link → Type 0
LeadsTo t read_set k d = (z : Sizes) (v : View) → IsStanding z k t read_set v → AreKnown (node_of read_set) 1 (size_of t.stamp.cell) →
    (q : List ℕ) × KnowsPath z v t.stamp (cell_named d) q
