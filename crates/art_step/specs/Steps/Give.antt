-- Give: a number in hand is free again, or one in limbo.
use Rattle.std.specs.Prelude.{List, ◌≡◌, ◌+◌, ◌∷◌, [], ℕ, ◌≢◌, ◌<◌, Some}
use Rattle.art_cell.specs.declared.cells.Cell.TheVariants as cell
use Rattle.art_cell.specs.declared.cells.Link.TheVariants.{Node as node}
use Rattle.art_cell.specs.declared.cells.Link.{Link}
use Rattle.art_cell.specs.declared.cells.Node.{Node}
use Rattle.art_step.specs.Effects.{SetsBit}
use Rattle.art_step.specs.Sound.{KeepsSound, IsSound, IsUnder}
use Rattle.art_step.specs.Views.{Member, IsNotHeld, IsOnce, Memory, Views, SetsView, links_in_hand, links_in_limbo}
use Rattle.art_step.specs.declared.views.InHand.{InHand}
use Rattle.art_step.specs.declared.views.Retired.{Retired}
use Rattle.art_step.specs.declared.views.Sizes.{Sizes}
use Rattle.art_step.specs.declared.views.View.{View}

-- ---- from the hand

-- the hand without the numbers of ls
pub record HandsOver (xs : List InHand) (ls : List Link) (xs' : List InHand) : Type 0 where
  pub was : (x : InHand) → Member x xs' → Member x xs × (Member x.link ls → ⊥)
  pub stays : (x : InHand) → Member x xs → (Member x.link ls → ⊥) → Member x xs'
  pub once : IsOnce (links_in_hand xs) → IsOnce (links_in_hand xs')

-- a number that is not held
pub record May (v : View) (d : Link) : Type 0 where
  pub hand : (x : InHand) × Member x v.hand × (x.link ≡ d)
  pub free : (n : Node) → d ≡ node n → IsNotHeld v.held (cell.Node n)

abbrev pub view_after : View → List InHand → View
view_after v xs = record v { steps = v.steps + 1; hand = xs }

pub record Step (z : Sizes) (p : ℕ) (v : View) (m : Memory) (f : Views) (m' : Memory) (f' : Views) : Type 0 where
  pub link : Link
  pub hand : List InHand
  pub may : May v link
  pub rest : HandsOver v.hand (link ∷ []) hand
  pub sets : SetsBit link m f m' f'
  pub view : SetsView f p (view_after v hand) f'

pub record Outcome (v w : View) (d : Link) : Type 0 where
  pub hand : List InHand
  pub rest : HandsOver v.hand (d ∷ []) hand
  pub is : w ≡ view_after v hand

abbrev pub Law : Type 0
Law = KeepsSound Step

-- ---- from limbo

-- the limbo without the number
pub record LetsGo (es : List Retired) (d : Link) (es' : List Retired) : Type 0 where
  pub was : (e : Retired) → Member e es' → Member e es × (e.link ≢ d)
  pub stays : (e : Retired) → Member e es → e.link ≢ d → Member e es'
  pub once : IsOnce (links_in_limbo es) → IsOnce (links_in_limbo es')

-- the pass is idle, and the number's place is marked for every other pass
pub record MayFree (z : Sizes) (v : View) (d : Link) : Type 0 where
  pub place : Retired
  pub limbo : Member place v.limbo
  pub link : place.link ≡ d
  pub idle : v.pin ≡ 0
  pub marked : (q : ℕ) → q < z.passes → q ≢ v.pass → Member q place.marked

abbrev pub view_freed : View → List Retired → View
view_freed v es = record v { steps = v.steps + 1; limbo = es }

pub record FreeStep (z : Sizes) (p : ℕ) (v : View) (m : Memory) (f : Views) (m' : Memory) (f' : Views) : Type 0 where
  pub link : Link
  pub limbo : List Retired
  pub may : MayFree z v link
  pub rest : LetsGo v.limbo link limbo
  pub sets : SetsBit link m f m' f'
  pub view : SetsView f p (view_freed v limbo) f'

pub record FreeOutcome (v w : View) (d : Link) : Type 0 where
  pub limbo : List Retired
  pub rest : LetsGo v.limbo d limbo
  pub is : w ≡ view_freed v limbo

abbrev pub FreeLaw : Type 0
FreeLaw = KeepsSound FreeStep

-- no pass is under a pin that the place holds
abbrev pub NobodyIsUnder : Views → Retired → Type 0
NobodyIsUnder f e = (q : ℕ) (u : View) → f q ≡ Some u → IsUnder q u e → ⊥

-- nor still is one when its number goes back
abbrev pub NobodyLaw : Type 0
NobodyLaw = (z : Sizes) (p : ℕ) (v : View) (m : Memory) (f : Views) (d : Link) → f p ≡ Some v → IsSound z m f → (may : MayFree z v d) →
    NobodyIsUnder f may.place

-- of a pass whose view goes from v to w: the number at the place waits in its limbo before that, and not after it
abbrev pub WentBack : View → View → Retired → Type 0
WentBack v w e = Member e v.limbo × (Member e.link (links_in_limbo w.limbo) → ⊥)
