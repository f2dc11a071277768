-- Claim: a node whose number is in hand is locked and held, and its counter begins at 0 again. No view has a stamp of it.
use Rattle.std.specs.Prelude.{◌≡◌, ◌⊎◌, List, ℕ, ◌+◌, None, ◌∷◌, false, true, length, Some}
use Rattle.art_cell.specs.declared.cells.Cell.TheVariants as cell
use Rattle.art_cell.specs.declared.cells.Link.TheVariants.{Node as node}
use Rattle.art_cell.specs.declared.cells.Node.{Node}
use Rattle.art_step.specs.Effects.{LocksClaimed}
use Rattle.art_step.specs.Sound.{KeepsSound, IsSound, IsStamped, IsUnder}
use Rattle.art_step.specs.Steps.Upgrade.{IsCopy}
use Rattle.art_step.specs.Views.{IsInLimbo, Member, IsNotHeld, MayLock, Memory, Views, SetsView, size_of, words_in, IsObsolete, is_free}
use Rattle.art_step.specs.declared.views.InHand.{InHand}
use Rattle.art_step.specs.declared.views.Retired.{Retired}
use Rattle.art_step.specs.declared.views.Sizes.{Sizes}
use Rattle.art_step.specs.declared.views.View.{View}
use Rattle.art_tree.specs.Heaps.{Cells, heap_of}
use Rattle.art_tree.specs.Tree.{StandsAt}

pub record May (v : View) (n : Node) : Type 0 where
  pub hand : (x : InHand) × Member x v.hand × (x.link ≡ node n)
  pub free : IsNotHeld v.held (cell.Node n)
  pub early : MayLock v

abbrev pub view_after : View → Node → List ℕ → View
view_after v n ws = record v {
  steps = v.steps + 1;
  held = record { cell = cell.Node n; stamped = None; old = ws; new = ws } ∷ v.held;
  committed = false;
}

pub record Step (z : Sizes) (p : ℕ) (v : View) (m : Memory) (f : Views) (m' : Memory) (f' : Views) : Type 0 where
  pub node : Node
  pub copy : List ℕ
  pub may : May v node
  pub copied : IsCopy m (cell.Node node) copy
  pub locks : LocksClaimed node m f m' f'
  pub view : SetsView f p (view_after v node copy) f'

-- the words of the cell stand in a list, where the place of the version word has 0; a number in hand is in no limbo
pub record Outcome (v w : View) (n : Node) : Type 0 where
  pub words : List ℕ
  pub long : length words ≡ size_of (cell.Node n)
  pub version : words_in words 0 ≡ 0
  pub apart : IsInLimbo v (node n) → ⊥
  pub is : w ≡ view_after v n words

abbrev pub Law : Type 0
Law = KeepsSound Step

-- a node's number in hand that the pass does not hold is obsolete
abbrev pub UnclaimedLaw : Type 0
UnclaimedLaw = (z : Sizes) (p : ℕ) (v : View) (m : Memory) (f : Views) (a : Node) → f p ≡ Some v → IsSound z m f → May v a →
    IsObsolete (m.version (cell.Node a))

-- a node's number that is free, or in the hand of a pass, is in no stamp of any view: so a claim may begin its counter again, and no
-- word that some view has stamped comes back
abbrev pub UnstampedLaw : Type 0
UnstampedLaw = (z : Sizes) (m : Memory) (f : Views) (a : Node) → IsSound z m f →
    ((is_free m (node a) ≡ true) ⊎ ((p : ℕ) × (v : View) × (f p ≡ Some v) × ((x : InHand) × Member x v.hand × (x.link ≡ node a)))) →
    (q : ℕ) (u : View) → f q ≡ Some u → IsStamped u a → ⊥

-- a node that a view has stamped is in the tree, or it is in a limbo and left the tree since the view's pass was pinned
pub data WasLinked (f : Views) (s : Cells) (q : ℕ) (u : View) (a : Node) : Type 0 where
  StillLinked : (r : List ℕ) → StandsAt (heap_of s) (node a) r → WasLinked f s q u a
  LinkedSincePin : (o : ℕ) (w : View) (e : Retired) → f o ≡ Some w → Member e w.limbo → e.link ≡ node a → IsUnder q u e → WasLinked f s q u a

abbrev pub LinkedLaw : Type 0
LinkedLaw = (z : Sizes) (m : Memory) (f : Views) (a : Node) (r : IsSound z m f) (q : ℕ) (u : View) → f q ≡ Some u → IsStamped u a →
    WasLinked f r.logical q u a
