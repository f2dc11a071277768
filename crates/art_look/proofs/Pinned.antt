-- A pass that was pinned.
use Rattle.std.proofs.Common.{◌≡◌, ◌≢◌, ℕ, ◌+◌, ◌<◌, [], map, Some, refl, ap, ◌∙◌, arith}
use Rattle.std.proofs.lemmas.Bool.{ne_eqb}
use Rattle.art_epoch.specs.Pins.{MayPin, Pins}
use Rattle.art_find.specs.Descents.{IsReading}
use Rattle.art_step.specs.Steps.Epoch as epoch
use Rattle.art_step.specs.Steps.Epoch.{labelled}
use Rattle.art_step.specs.Steps.Pin as pin
use Rattle.art_step.specs.declared.views.Sizes.{Sizes}
use Rattle.art_step.specs.declared.views.View.{View}

pinned_view : (v : View) (x : ℕ) → 0 < x → pin.view_after v x ≡ record v { steps = v.steps + 1; pins = v.pins + 1; pin = x }
pinned_view v x some = rw (ne_eqb x 0 (λ e. omega (arith, e, some))) refl

module _ (z : Sizes) (u o : View) (may : MayPin u) (p : Pins z u o) where
  -- all but its pin, the note of the epoch and the labels is as it was, two steps later
  pub pinned_is : o ≡ record u { steps = u.steps + 2; pins = u.pins + 1; pin = p.found; noted = Some (record { epoch = p.found; step = u.steps + 1 }); limbo = map (labelled p.found) u.limbo }
  pinned_is =
      p.is ∙ (pinned_view (epoch.view_after u p.found) p.found p.some
      ∙ ap (λ (n : ℕ). record u { steps = n; pins = u.pins + 1; pin = p.found; noted = Some (record { epoch = p.found; step = u.steps + 1 }); limbo = map (labelled p.found) u.limbo })
      (let two : (u.steps + 1) + 1 ≡ u.steps + 2 = omega arith in two))

  pub pinned_free : o.held ≡ []
  pinned_free = ap (λ (v : View). v.held) pinned_is ∙ may.free

  pub pinned_pin : o.pin ≢ 0
  pinned_pin zero = let same = ap (λ (v : View). v.pin) pinned_is in let some = p.some in omega (arith, zero, same, some)

  -- it has read nothing yet
  pub pinned_reads : IsReading o o
  pinned_reads = record { only = refl; free = pinned_free; pinned = pinned_pin }
