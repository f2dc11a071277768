-- What no view shows, the history and the logical words, is determined by what the words and the views are.
use Rattle.std.specs.Prelude.{◌≡◌, ◌⊎◌, ℕ, ◌+◌, Some}
use Rattle.art_cell.specs.declared.cells.Cell.{Cell}
use Rattle.art_cell.specs.declared.cells.Link.TheVariants.{Node as node}
use Rattle.art_cell.specs.declared.cells.Node.{Node}
use Rattle.art_step.specs.declared.views.Retired.{Retired}
use Rattle.art_step.specs.declared.views.Sizes.{Sizes}
use Rattle.art_step.specs.declared.views.View.{View}
use Rattle.art_tree.specs.Heaps.{Cells}
use Rattle.art_step.specs.Histories.{StartsWith}
use Rattle.art_step.specs.Sound.{IsSound, IsStamped, OneHolder}
use Rattle.art_step.specs.Steps.{OneStep}
use Rattle.art_step.specs.Steps.Commit.{AreStanding}
use Rattle.art_step.specs.Steps.Give.{NobodyIsUnder, WentBack}
use Rattle.art_step.specs.Views.{Member, Memory, Views}

-- there is one history
abbrev pub HistoryLaw : Type 0
HistoryLaw = (z : Sizes) (m : Memory) (f : Views) (r r' : IsSound z m f) → r.log ≡ r'.log

-- it only grows
abbrev pub HistoryGrows : Type 0
HistoryGrows = (z : Sizes) (p : ℕ) (m : Memory) (f : Views) (m' : Memory) (f' : Views) → OneStep z p m f m' f' → (r : IsSound z m f)
    (r' : IsSound z m' f') → StartsWith r'.log r.log

-- each cell has one body of logical words
abbrev pub LogicalLaw : Type 0
LogicalLaw = (m : Memory) (f : Views) (s s' : Cells) → OneHolder m f s → OneHolder m f s' → (c : Cell) → s c ≡ s' c

-- ---- what a step keeps of its own view

abbrev pub PassLaw : Type 0
PassLaw = (z : Sizes) (p : ℕ) (v w : View) (m : Memory) (f : Views) (m' : Memory) (f' : Views) → OneStep z p m f m' f' → f p ≡ Some v →
    f' p ≡ Some w → w.pass ≡ v.pass

-- each step counts
abbrev pub CountLaw : Type 0
CountLaw = (z : Sizes) (p : ℕ) (v w : View) (m : Memory) (f : Views) (m' : Memory) (f' : Views) → OneStep z p m f m' f' → f p ≡ Some v →
    f' p ≡ Some w → w.steps ≡ v.steps + 1

abbrev pub SeenLaw : Type 0
SeenLaw = (z : Sizes) (p : ℕ) (v w : View) (m : Memory) (f : Views) (m' : Memory) (f' : Views) → OneStep z p m f m' f' → f p ≡ Some v →
    f' p ≡ Some w → StartsWith w.seen v.seen

-- whatever kind of step takes a number out of limbo, no pass is still under a pin that its place held
abbrev pub LimboLaw : Type 0
LimboLaw = (z : Sizes) (p : ℕ) (v w : View) (m : Memory) (f : Views) (m' : Memory) (f' : Views) → OneStep z p m f m' f' → f p ≡ Some v →
    f' p ≡ Some w → (e : Retired) → WentBack v w e → NobodyIsUnder f e

-- it was in limbo before, with the same number and the same pins
abbrev pub WasInLimbo : View → Retired → Type 0
WasInLimbo v e = (d : Retired) × Member d v.limbo × (e.link ≡ d.link) × (e.pins ≡ d.pins)

-- a place keeps its number and its pins as long as it is in limbo, and holds the pins that stood as it came there
abbrev pub PinsLaw : Type 0
PinsLaw = (z : Sizes) (p : ℕ) (v w : View) (m : Memory) (f : Views) (m' : Memory) (f' : Views) → OneStep z p m f m' f' → f p ≡ Some v →
    f' p ≡ Some w → (e : Retired) → Member e w.limbo → WasInLimbo v e ⊎ AreStanding f e.pins

-- a node's number in limbo that is marked for a pass is in no stamp of that pass
abbrev pub MarkedLaw : Type 0
MarkedLaw = (z : Sizes) (m : Memory) (f : Views) (q p : ℕ) (v u : View) (e : Retired) (n : Node) → IsSound z m f → f q ≡ Some v →
    f p ≡ Some u → Member e u.limbo → Member q e.marked → e.link ≡ node n → IsStamped v n → ⊥
