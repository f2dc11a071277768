-- The words of a leaf in hand, of which so many are written.
use Rattle.std.specs.Prelude.{◌≡◌, ◌≢◌, ◌↔◌, ℕ, ◌+◌, ◌<◌, ◌≤◌, List, length, nat_lt, if◌then◌else◌, Option, Some, None}
use Rattle.art_cell.specs.Leaves.{leaf_word}
use Rattle.art_cell.specs.declared.cells.Link.TheVariants.{Leaf as leaf}
use Rattle.art_step.specs.Acting.{IsLeafInHand}
use Rattle.art_step.specs.declared.actions.Action.{Action}
use Rattle.art_step.specs.declared.actions.Action.TheVariants.{WriteLeaf}
use Rattle.art_epoch.specs.declared.leaf_writer.LeafWriter.{LeafWriter}
use Rattle.art_step.specs.Shows.{rest_of}
use Rattle.art_step.specs.Views.{IsInHand, Member, words_in}
use Rattle.art_step.specs.declared.views.InHand.{InHand}
use Rattle.art_step.specs.declared.views.Sizes.{Sizes}
use Rattle.art_step.specs.declared.views.View.{View}
use Rattle.art_tree.specs.WordChanges.{FitsWord}

-- the next word of the leaf
abbrev pub word_asked : ℕ → List ℕ → ℕ → ℕ → Option Action
word_asked l k value place = if nat_lt place 10 then Some (WriteLeaf l place (leaf_word k value place)) else None

-- a leaf is in hand, and so many of its words are those of this key and value
pub record IsPacked (z : Sizes) (v : View) (l : ℕ) (k : List ℕ) (value place : ℕ) : Type 0 where
  pub is : IsLeafInHand z v l
  pub words : (i : ℕ) → i < place → words_in is.hand.words i ≡ leaf_word k value i

-- nothing else changed from the view u to v but steps, and what that pass found
pub record OnlyPacks (u v : View) (l : ℕ) : Type 0 where
  pub rest : rest_of (record v { hand = u.hand }) ≡ rest_of u
  pub stamps : v.stamps ≡ u.stamps
  pub notes : v.notes ≡ u.notes
  pub failures : v.failures ≡ u.failures
  pub others : (y : InHand) → y.link ≢ leaf l → Member y v.hand ↔ Member y u.hand

-- of a pass that had the view u at the beginning
pub record LeafWriterFits (z : Sizes) (l : ℕ) (k : List ℕ) (value : ℕ) (m : LeafWriter) (u v : View) : Type 0 where
  pub low : m.place ≤ 10
  pub packed : IsPacked z v l k value m.place
  pub only : OnlyPacks u v l
  pub steps : v.steps ≡ u.steps + m.place
