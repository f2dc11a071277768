-- Write: a word of a held cell before the commit, or of a leaf whose number is in hand.
use Rattle.std.specs.Prelude.{List, ◌≡◌, ◌⊎◌, ◌≢◌, ℕ, false, ◌<◌, set, ◌+◌}
use Rattle.art_cell.specs.declared.cells.Cell.TheVariants as cell
use Rattle.art_cell.specs.declared.cells.Link.TheVariants.{Leaf as leaf}
use Rattle.art_step.specs.Effects.{PutsWord}
use Rattle.art_step.specs.Sound.{KeepsSound}
use Rattle.art_step.specs.Views.{IsWordOf, IsOnce, Member, links_in_hand, size_of, Memory, Views, SetsView}
use Rattle.art_step.specs.declared.views.Holding.{Holding}
use Rattle.art_step.specs.declared.views.InHand.{InHand}
use Rattle.art_step.specs.declared.views.Sizes.{Sizes}
use Rattle.art_step.specs.declared.views.View.{View}

-- the list with x for the member h
pub record Puts {A : Type 0} (hs : List A) (h x : A) (hs' : List A) : Type 0 where
  pub has : Member x hs'
  pub was : (y : A) → Member y hs' → (y ≡ x) ⊎ (Member y hs × (y ≢ h))
  pub stays : (y : A) → Member y hs → y ≢ h → Member y hs'

-- ---- of a held cell, a word of the form that its place wants

pub record May (v : View) (h : Holding) (i : ℕ) : Type 0 where
  pub held : Member h v.held
  pub early : v.committed ≡ false
  pub place : (0 < i) × (i < size_of h.cell)

abbrev pub with_word : Holding → ℕ → ℕ → Holding
with_word h place x = record h { new = set h.new place x }

abbrev pub view_after : View → List Holding → View
view_after v hs = record v { steps = v.steps + 1; held = hs }

pub record Step (z : Sizes) (p : ℕ) (v : View) (m : Memory) (f : Views) (m' : Memory) (f' : Views) : Type 0 where
  pub holding : Holding
  pub held : List Holding
  pub place : ℕ
  pub value : ℕ
  pub may : May v holding place
  pub form : IsWordOf z holding.cell place value
  pub puts : Puts v.held holding (with_word holding place value) held
  pub word : PutsWord holding.cell place value m f m' f'
  pub view : SetsView f p (view_after v held) f'

pub record Outcome (v w : View) (h : Holding) (i x : ℕ) : Type 0 where
  pub held : List Holding
  pub puts : Puts v.held h (with_word h i x) held
  pub is : w ≡ view_after v held

abbrev pub Law : Type 0
Law = KeepsSound Step

-- ---- of a leaf in hand, likewise

pub record MayLeaf (v : View) (y : InHand) (l i : ℕ) : Type 0 where
  pub hand : Member y v.hand
  pub leaf : y.link ≡ leaf l
  pub place : i < 10

abbrev pub with_leaf_word : InHand → ℕ → ℕ → InHand
with_leaf_word y place x = record y { words = set y.words place x }

abbrev pub view_after_leaf : View → List InHand → View
view_after_leaf v ys = record v { steps = v.steps + 1; hand = ys }

pub record LeafStep (z : Sizes) (p : ℕ) (v : View) (m : Memory) (f : Views) (m' : Memory) (f' : Views) : Type 0 where
  pub leaf : InHand
  pub hand : List InHand
  pub number : ℕ
  pub place : ℕ
  pub value : ℕ
  pub may : MayLeaf v leaf number place
  pub form : IsWordOf z (cell.Leaf number) place value
  pub puts : Puts v.hand leaf (with_leaf_word leaf place value) hand
  pub once : IsOnce (links_in_hand v.hand) → IsOnce (links_in_hand hand)
  pub word : PutsWord (cell.Leaf number) place value m f m' f'
  pub view : SetsView f p (view_after_leaf v hand) f'

pub record LeafOutcome (v w : View) (y : InHand) (i x : ℕ) : Type 0 where
  pub hand : List InHand
  pub puts : Puts v.hand y (with_leaf_word y i x) hand
  pub is : w ≡ view_after_leaf v hand

abbrev pub LeafLaw : Type 0
LeafLaw = KeepsSound LeafStep
