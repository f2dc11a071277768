-- Epoch: the epoch is found and noted, to pin or to advance, and labels what is in limbo without a label.
use Rattle.std.specs.Prelude.{ℕ, map, ◌≡◌, ◌+◌, ◌^◌, ◌<◌, Option, Some, None}
use Rattle.art_step.specs.Sound.{KeepsSound}
use Rattle.art_step.specs.Views.{Memory, Views, SetsView}
use Rattle.art_step.specs.declared.views.Retired.{Retired}
use Rattle.art_step.specs.declared.views.Sizes.{Sizes}
use Rattle.art_step.specs.declared.views.View.{View}

-- a place without a label gets this one
abbrev pub label_or : Option ℕ → ℕ → Option ℕ
label_or None x = Some x
label_or (Some l) x = Some l

abbrev pub labelled : ℕ → Retired → Retired
labelled x e = record e { label = label_or e.label x }

-- the note takes the place of the one before
abbrev pub view_after : View → ℕ → View
view_after v x = record v { steps = v.steps + 1; noted = Some (record { epoch = x; step = v.steps + 1 }); limbo = map (labelled x) v.limbo }

pub record Step (z : Sizes) (p : ℕ) (v : View) (m : Memory) (f : Views) (m' : Memory) (f' : Views) : Type 0 where
  pub words : m' ≡ m
  pub view : SetsView f p (view_after v m.epoch) f'

-- the epoch is never 0, and below its bound
pub record Outcome (z : Sizes) (v w : View) (x : ℕ) : Type 0 where
  pub some : 0 < x
  pub low : x < 2 ^ 62 + z.passes
  pub is : w ≡ view_after v x

abbrev pub Law : Type 0
Law = KeepsSound Step
