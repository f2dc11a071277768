-- Two changes at once, one after the other in the words that they write.
use Rattle.std.specs.Prelude.{◌≡◌, ◌⊎◌, ◌↔◌, List, [], ◌∷◌, ◌++◌, Option, None, ℕ}
use Rattle.art_cell.specs.declared.cells.Node.{Node}
use Rattle.art_cell.specs.declared.cells.Cell.{Cell}
use Rattle.art_cell.specs.declared.cells.Cell.TheVariants as cell
use Rattle.art_cell.specs.declared.cells.Link.{Link}
use Rattle.art_step.specs.declared.views.Holding.{Holding}
use Rattle.art_step.specs.declared.views.InHand.{InHand}
use Rattle.art_step.specs.declared.views.Sizes.{Sizes}
use Rattle.art_step.specs.declared.views.View.{View}
use Rattle.art_step.specs.declared.deeds.Deed.{Deed}
use Rattle.art_step.specs.declared.deeds.Deed.TheVariants.{Look}
use Rattle.art_key.specs.declared.bounds.Bound.TheVariants.{At}
use Rattle.art_step.specs.Deeds.{key_of}
use Rattle.art_commit.specs.AnyChange.{IsInHand, IsHeld, IsClaimed}
use Rattle.art_commit.specs.CommitLaws.{Before}
use Rattle.art_tree.specs.Heaps.{Cells, heap_of}
use Rattle.art_step.specs.Histories.{IsAnswered, becomes}
use Rattle.art_tree.specs.Rows.{ByteMap, HasRows}
use Rattle.art_step.specs.Views.{IsNotHeld}
use Rattle.art_step.specs.Steps.Commit.{Knows, AllNew, IsLinked, Commits}
use Rattle.art_step.specs.Views.{Member}

-- ---- two commits

-- what the pass holds and has in hand for two changes, it holds and has in hand, and each node that it claimed it claimed for one
-- of them. A cell that both write is held for each, for the second with the words that the first gives it
pub record HasBoth (v one two : View) : Type 0 where
  pub held : (c : Cell) → IsHeld one c ⊎ IsHeld two c → IsHeld v c
  pub hand : (d : Link) → IsInHand one d ⊎ IsInHand two d → IsInHand v d
  pub claimed : (n : Node) → IsClaimed v n → IsClaimed one n ⊎ IsClaimed two n

-- what the two events say, one after the other, the one event says
abbrev pub SaysBoth : Cells → Deed → Deed → Deed → Type 0
SaysBoth s first second what = (f : ByteMap) → HasRows (heap_of s) f → IsAnswered f first → IsAnswered (becomes f first) second →
    IsAnswered f what × (becomes f what ≡ becomes (becomes f first) second)

-- a commit from s to t and one from t to s' are one commit from s to s'; what the second unlinks was linked before the first
abbrev pub JoinedCommits : Type 0
JoinedCommits = (z : Sizes) (v one two : View) (s t s' : Cells) (first second what : Deed) (us ls us' ls' : List Link) → Knows v s → HasBoth v one two →
    Commits z one first us ls s t → Commits z two second us' ls' t s' → ((d : Link) → Member d us' → IsLinked s d) → SaysBoth s first second what →
    Commits z v what (us ++ us') (ls ++ ls') s s'

-- a look of a range that has no keys: what a change does that does nothing else, as a copy
abbrev pub empty_look : Deed
empty_look = Look (key_of []) (At (key_of [])) None

-- it is so of every map, and changes no row
abbrev pub EmptyLookStays : Type 0
EmptyLookStays = (f : ByteMap) → IsAnswered f empty_look × (becomes f empty_look ≡ f)

-- ---- one pass's change, made of two

-- the cells of hs as they are held for the first change, where mid says their words between the two, and for the second
abbrev pub held_until : (Cell → List ℕ) → List Holding → List Holding
held_until mid [] = []
held_until mid (h ∷ hs) = record h { new = mid h.cell } ∷ held_until mid hs

-- st says with which version word a cell counts as stamped for the second change: one that the first claims may have any
abbrev pub held_from : (Cell → List ℕ) → (Cell → Option ℕ → Option ℕ) → List Holding → List Holding
held_from mid st [] = []
held_from mid st (h ∷ hs) = record h { old = mid h.cell; stamped = st h.cell h.stamped } ∷ held_from mid st hs

-- the view as it stands for the first change, which writes the cells of hs, and for the second, which writes those of hs with the
-- numbers of xs in hand; that change is not known by notes
abbrev pub for_first : View → (Cell → List ℕ) → List Holding → View
for_first v mid hs = record v { held = held_until mid hs }

abbrev pub for_second : View → (Cell → List ℕ) → (Cell → Option ℕ → Option ℕ) → List Holding → List InHand → View
for_second v mid st hs xs = record v { held = held_from mid st hs; notes = []; hand = xs }

-- the cells that the pass holds are those of hs, for the first change, and those of hs', for the second, and none is a leaf; xs
-- are in hand. Between the two, a cell that the first alone writes has its new words, and one that the second alone writes its
-- old ones
pub record IsInTwo (v : View) (hs hs' : List Holding) (xs : List InHand) (mid : Cell → List ℕ) (st : Cell → Option ℕ → Option ℕ) : Type 0 where
  pub held : (h : Holding) → Member h v.held ↔ (Member h hs ⊎ Member h hs')
  pub no_leaf : (h : Holding) (l : ℕ) → Member h v.held → h.cell ≡ cell.Leaf l → ⊥
  pub hand : (i : InHand) → Member i xs → Member i v.hand
  pub first_alone : (h : Holding) → Member h hs → IsNotHeld hs' h.cell → mid h.cell ≡ h.new
  pub claims : (h : Holding) → Member h v.held → h.stamped ≡ None → Member h hs ⊎ (Member h hs' × (st h.cell h.stamped ≡ None))
  pub second_alone : (h : Holding) → Member h hs' → IsNotHeld hs h.cell → mid h.cell ≡ h.old

-- where each is a commit for its own view, whatever words t of the other cells stand between, both are one for the pass's; what
-- the first links is not in hand for the second
abbrev pub TwoPartsCommit : Type 0
TwoPartsCommit = (z : Sizes) (v : View) (s s' : Cells) (hs hs' : List Holding) (xs : List InHand) (mid : Cell → List ℕ) (st : Cell → Option ℕ → Option ℕ) (first second what : Deed) (us ls us' ls' : List Link) →
    Before z v s s' → IsInTwo v hs hs' xs mid st → ((i : InHand) → Member i xs → Member i.link ls → ⊥) → ((d : Link) → Member d us' → IsLinked s d) → SaysBoth s first second what →
    ((t : Cells) → Before z (for_first v mid hs) s t → Commits z (for_first v mid hs) first us ls s t) →
    ((t : Cells) → AllNew (held_until mid hs) s t → Commits z (for_first v mid hs) first us ls s t → Before z (for_second v mid st hs' xs) t s' → Commits z (for_second v mid st hs' xs) second us' ls' t s') →
    Commits z v what (us ++ us') (ls ++ ls') s s'
