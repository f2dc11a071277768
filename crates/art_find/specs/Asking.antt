-- What a look at a cell needs of the pass's view.
use Rattle.std.specs.Prelude.{◌<◌, Option, None, Some}
use Rattle.art_step.specs.Acting.{FindsWord, HasPath, IsBegin, IsCheck, WasChecked}
use Rattle.art_step.specs.declared.actions.Action.{Action}
use Rattle.art_step.specs.declared.actions.Action.TheVariants.{Begin, Read, ReadLeaf, Check, Settle}
use Rattle.art_cell.specs.declared.cells.Link.TheVariants.{Leaf as leaf}
use Rattle.art_step.specs.Shows.{Shows}
use Rattle.art_step.specs.Steps.Begin as begin
use Rattle.art_step.specs.Steps.Check as check
use Rattle.art_step.specs.Steps.Read as read
use Rattle.art_step.specs.Views.{Member}
use Rattle.art_step.specs.WordPlaces.{HasVersion, IsInside}
use Rattle.art_step.specs.declared.views.Sizes.{Sizes}
use Rattle.art_step.specs.declared.views.Stamp.{Stamp}
use Rattle.art_step.specs.declared.views.View.{View}
use Rattle.art_tree.specs.Heaps.{Cells}

-- what was read under the stamp shows that this is so: then an event that says it may be made at the check
pub record MaySettle (z : Sizes) (so : Cells → Type 0) (v : View) (x : Stamp) : Type 0 where
  pub stamp : Member x v.stamps
  pub shows : Shows z v x so

-- the action may be performed, of a machine that looks, and settles that this is so
abbrev pub MayLook : Sizes → (Cells → Type 0) → View → Action → Type 0
MayLook z so v (Begin c) = HasVersion z c × begin.May v c
MayLook z so v (Read x i) = IsInside z x.cell × read.May v x i × HasPath v x
MayLook z so v (ReadLeaf x l i) = (l < z.leaves) × read.MayLeaf z v x l i × WasChecked x (leaf l) v
MayLook z so v (Check x) = HasVersion z x.cell × check.May z v x None
MayLook z so v (Settle x) = HasVersion z x.cell × MaySettle z so v x
MayLook z so v action = ⊥

-- which kind of answer there is to what is asked
abbrev pub WantsVersion : Option Action → Type 0
WantsVersion (Some a) = IsBegin a
WantsVersion None = ⊥

abbrev pub WantsWord : Option Action → Type 0
WantsWord (Some a) = FindsWord a
WantsWord None = ⊥

abbrev pub WantsCheck : Option Action → Type 0
WantsCheck (Some a) = IsCheck a
WantsCheck None = ⊥
