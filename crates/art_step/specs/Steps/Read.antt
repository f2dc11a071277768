-- Read: a word of a stamped cell, or of a leaf that it names, is noted.
use Rattle.std.specs.Prelude.{ℕ, ◌<◌, ◌+◌, ◌∷◌, ◌≡◌}
use Rattle.art_cell.specs.declared.cells.Cell.TheVariants as cell
use Rattle.art_step.specs.Knowledge.{KnowsLeaf}
use Rattle.art_step.specs.Sound.{KeepsSound}
use Rattle.art_step.specs.Views.{IsWordOf, Member, IsNotHeld, size_of, note_of, Memory, Views, SetsView}
use Rattle.art_step.specs.declared.views.Fact.{Fact}
use Rattle.art_step.specs.declared.views.Fact.TheVariants.{Word, LeafWord}
use Rattle.art_step.specs.declared.views.Sizes.{Sizes}
use Rattle.art_step.specs.declared.views.Stamp.{Stamp}
use Rattle.art_step.specs.declared.views.View.{View}

-- the pass does not hold the cell; the place is none of its version word
pub record May (v : View) (x : Stamp) (i : ℕ) : Type 0 where
  pub stamp : Member x v.stamps
  pub free : IsNotHeld v.held x.cell
  pub place : (0 < i) × (i < size_of x.cell)

pub record MayLeaf (z : Sizes) (v : View) (x : Stamp) (l i : ℕ) : Type 0 where
  pub stamp : Member x v.stamps
  pub free : IsNotHeld v.held x.cell
  pub names : KnowsLeaf z v x l
  pub place : i < 10

abbrev pub view_after : View → Stamp → Fact → View
view_after v x y = record v { steps = v.steps + 1; notes = note_of x y ∷ v.notes }

pub record Step (z : Sizes) (p : ℕ) (v : View) (m : Memory) (f : Views) (m' : Memory) (f' : Views) : Type 0 where
  pub stamp : Stamp
  pub place : ℕ
  pub may : May v stamp place
  pub words : m' ≡ m
  pub view : SetsView f p (view_after v stamp (Word place (m.words stamp.cell place))) f'

pub record LeafStep (z : Sizes) (p : ℕ) (v : View) (m : Memory) (f : Views) (m' : Memory) (f' : Views) : Type 0 where
  pub stamp : Stamp
  pub number : ℕ
  pub place : ℕ
  pub may : MayLeaf z v stamp number place
  pub words : m' ≡ m
  pub view : SetsView f p (view_after v stamp (LeafWord number place (m.words (cell.Leaf number) place))) f'

-- the word has the form of its place, as all words have: a child word names what there is
pub record Outcome (z : Sizes) (v w : View) (x : Stamp) (i word : ℕ) : Type 0 where
  pub form : IsWordOf z x.cell i word
  pub is : w ≡ view_after v x (Word i word)

abbrev pub LeafOutcome : View → View → Stamp → ℕ → ℕ → ℕ → Type 0
LeafOutcome v w x l i word = w ≡ view_after v x (LeafWord l i word)

abbrev pub Law : Type 0
Law = KeepsSound Step

abbrev pub LeafLaw : Type 0
LeafLaw = KeepsSound LeafStep
