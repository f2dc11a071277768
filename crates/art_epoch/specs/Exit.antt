-- The close of an attempt: the epoch is noted, which labels what was unlinked; each number that is still in hand goes back; then
-- the pass goes idle.
use Rattle.std.specs.Prelude.{◌≡◌, ℕ, ◌+◌, ◌^◌, ◌<◌, ◌≤◌, List, [], ◌∷◌, ◌++◌, length, Bool, true, false, Option, Some, None}
use Rattle.art_cell.specs.declared.cells.Link.{Link}
use Rattle.art_epoch.specs.Limbo.{IsLimbo, places_for}
use Rattle.art_step.specs.declared.actions.Action.{Action}
use Rattle.art_step.specs.declared.actions.Action.TheVariants.{GiveBack, ReadEpoch, StorePin}
use Rattle.art_epoch.specs.declared.limbo.Place.{Place}
use Rattle.art_epoch.specs.Stocks.{HasStock, count_in, first_in, without}
use Rattle.art_epoch.specs.declared.exit.Exit.{Exit}
use Rattle.art_epoch.specs.declared.exit.Exit.TheVariants.{Labelling, Giving, Ended}
use Rattle.art_epoch.specs.declared.stocks.Stock.{Stock}
use Rattle.art_step.specs.Steps.Pin.{IsNoted}
use Rattle.art_step.specs.Views.{Member}
use Rattle.art_step.specs.declared.views.Sizes.{Sizes}
use Rattle.art_step.specs.declared.views.View.{View}

-- ---- how it goes on

-- labels come first, where there is something to label
abbrev pub begins : List ℕ → Exit
begins [] = Giving
begins (word ∷ words) = Labelling

-- a number goes back, or the pass goes idle where there is none
abbrev pub gives_link : Option Link → Action
gives_link (Some d) = GiveBack d
gives_link None = StorePin 0

abbrev pub gives : Stock → Action
gives s = gives_link (first_in s)

-- the next step
abbrev pub asks : Exit → Stock → Option Action
asks Labelling s = Some ReadEpoch
asks Giving s = Some (gives s)
asks Ended s = None

abbrev pub is_ended : Exit → Bool
is_ended Ended = true
is_ended m = false

-- what is in hand once the first went back
abbrev pub without_link : Option Link → Stock → Stock
without_link (Some d) s = without d s
without_link None s = s

abbrev pub stock_given : Stock → Stock
stock_given s = without_link (first_in s) s

abbrev pub stage_of : Option Link → Exit
stage_of (Some d) = Giving
stage_of None = Ended

abbrev pub stage_given : Stock → Exit
stage_given s = stage_of (first_in s)

-- how many steps it makes from here on
abbrev pub steps_left : Exit → Stock → ℕ
steps_left Labelling s = 2 + count_in s
steps_left Giving s = 1 + count_in s
steps_left Ended s = 0

-- ---- how it ends, of a pass that had the view u at the beginning, where ps waited, and us were unlinked

-- what was unlinked waits after the others, with one label: the epoch that was noted
pub record AreLabelled (z : Sizes) (v : View) (ps qs : List Place) (us : List Link) : Type 0 where
  pub label : ℕ
  pub some : 0 < label
  pub low : label < 2 ^ 62 + z.passes
  pub noted : (d : Link) → Member d us → IsNoted v label
  pub places : qs ≡ ps ++ places_for label us

-- the pass is idle, holds nothing, and has nothing in hand; but for the note of the epoch and limbo it is as it was
pub record IsClosed (z : Sizes) (u v : View) (ps qs : List Place) (us : List Link) : Type 0 where
  pub labels : AreLabelled z v ps qs us
  pub is : v ≡ record u { steps = v.steps; noted = v.noted; pin = 0; stamps = []; notes = []; hand = []; limbo = v.limbo }
  pub free : v.held ≡ []
  pub limbo : IsLimbo qs [] v.limbo
  pub steps : v.steps ≤ u.steps + 7

-- ---- what it knows between two steps

-- nothing is held, these numbers are in hand, and limbo has room for what was unlinked
pub record MayClose (z : Sizes) (k : List ℕ) (value : ℕ) (u : View) (ps : List Place) (us : List Link) (s : Stock) : Type 0 where
  pub free : u.held ≡ []
  pub stock : HasStock z k value u s
  pub limbo : IsLimbo ps us u.limbo
  pub room : length ps + length us ≤ 64

-- what was unlinked has no label yet
pub record IsLabelling (z : Sizes) (k : List ℕ) (value : ℕ) (u v : View) (ps qs : List Place) (us : List Link) (s : Stock) : Type 0 where
  pub may : MayClose z k value u ps us s
  pub is : v ≡ u
  pub waiting : qs ≡ ps

-- it has, and these numbers are still in hand
pub record IsGiving (z : Sizes) (k : List ℕ) (value : ℕ) (u v : View) (ps qs : List Place) (us : List Link) (s : Stock) : Type 0 where
  pub free : u.held ≡ []
  pub labels : AreLabelled z v ps qs us
  pub is : v ≡ record u { steps = v.steps; noted = v.noted; hand = v.hand; limbo = v.limbo }
  pub stock : HasStock z k value v s
  pub limbo : IsLimbo qs [] v.limbo
  pub steps : v.steps + count_in s ≤ u.steps + 6

-- of a pass whose view was u when it began, where ps waited, and is v, where qs wait
abbrev pub ExitFits : Sizes → List ℕ → ℕ → View → List Place → List Link → Exit → List Place → Stock → View → Type 0
ExitFits z k value u ps us Labelling qs s v = IsLabelling z k value u v ps qs us s
ExitFits z k value u ps us Giving qs s v = IsGiving z k value u v ps qs us s
ExitFits z k value u ps us Ended qs s v = IsClosed z u v ps qs us × (first_in s ≡ None)
