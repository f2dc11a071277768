-- What an attempt that fits knows at the stage where it stands; what stays of an attempt stays on.
use Rattle.std.proofs.Common.{◌≡◌, ◌∙◌, Option, Some, ap, sym, subst}
use Rattle.art_attempt.specs.declared.attempts.Room.{Room}
use Rattle.art_attempt.specs.Attempts.{Fits, HasMade, IsFinding, IsRoom, IsSameTry, PartFits, StageFits, asks, asks_at, deed_at, deed_by, finding_asks, found_in, part_asks, settled_by}
use Rattle.art_attempt.specs.Parts.{PartKnows}
use Rattle.art_attempt.specs.declared.attempts.Attempt.{Attempt}
use Rattle.art_attempt.specs.declared.attempts.Stage.{Stage}
use Rattle.art_attempt.specs.declared.attempts.Stage.TheVariants as stage
use Rattle.art_attempt.specs.declared.attempts.Part.{Part}
use Rattle.art_find.specs.declared.findings.Finding.{Finding}
use Rattle.art_find.specs.declared.findings.Position.{Position}
use Rattle.art_step.specs.Acting.{Answers, telling}
use Rattle.art_step.specs.declared.actions.Action.{Action}
use Rattle.art_step.specs.declared.actions.Answer.{Answer}
use Rattle.art_plan.specs.declared.apply.Apply.{Apply}
use Rattle.art_step.specs.declared.deeds.Deed.{Deed}
use Rattle.art_step.specs.declared.views.Sizes.{Sizes}
use Rattle.art_step.specs.declared.views.View.{View}

pub same_on : (l m n : Attempt) (r s t : Room) → IsSameTry l m r s → IsSameTry m n s t → IsSameTry l n r t
same_on l m n r s t a b = record { job = b.job ∙ a.job; key = b.key ∙ a.key; value = b.value ∙ a.value }

module _ (z : Sizes) (u : View) (m : Attempt) (r : Room) (v : View) where
  pub at_stage : (s : Stage) → m.stage ≡ s → Fits z u m r v → StageFits z u s m r v
  at_stage s is fits = subst (λ (s : Stage). StageFits z u s m r v) is fits.stage

  pub is_finding : (f : Finding) → m.stage ≡ stage.Finding f → Fits z u m r v → IsFinding z u m.job f r v
  is_finding f is fits = at_stage (stage.Finding f) is fits

  pub has_part : (t : Position) (p : Part) → m.stage ≡ stage.Placed t p → Fits z u m r v → PartFits z u m.job t p r v
  has_part t p is fits = at_stage (stage.Placed t p) is fits

  -- where it stands at this part
  module _ (t : Position) (p q : Part) (at : m.stage ≡ stage.Placed t p) (is : p ≡ q) (fits : Fits z u m r v) where
    pub at_part : PartFits z u m.job t q r v
    at_part = subst (λ (o : Part). PartFits z u m.job t o r v) is (has_part t p at fits)

  -- there it stays as long as that goes on
  module _ (t : Position) (p q : Part) (at : m.stage ≡ stage.Placed t p) (is : p ≡ q) where
    pub is_at : m.stage ≡ stage.Placed t q
    is_at = at ∙ ap (λ (o : Part). stage.Placed t o) is

    pub knows_at : PartKnows z u m.stage m.job r v → PartKnows z u (stage.Placed t q) m.job r v
    knows_at h = subst (λ (s : Stage). PartKnows z u s m.job r v) is_at h

    pub stays_at : IsRoom z r → PartFits z u m.job t q r v → Fits z u m r v
    stays_at room fits = record { room = room; stage = subst (λ (s : Stage). StageFits z u s m r v) (sym is_at) fits }

  pub has_made : (s : Apply) → m.stage ≡ stage.Apply s → Fits z u m r v → HasMade z u m.job s r v
  has_made s is fits = (at_stage (stage.Apply s) is fits).0

-- and asks what that does
pub asked_part : (m : Attempt) (r : Room) (t : Position) (p q : Part) → m.stage ≡ stage.Placed t p → p ≡ q → (o : Option Action) → asks m r ≡ o → part_asks q t r ≡ o
asked_part m r t p q at is o asked = sym (ap (λ (p : Part). part_asks p t r) is) ∙ (sym (ap (λ (s : Stage). asks_at s m r) at) ∙ asked)

pub asks_part : (m : Attempt) (r : Room) (t : Position) (p q : Part) → m.stage ≡ stage.Placed t p → p ≡ q → (o : Option Action) → part_asks q t r ≡ o → asks m r ≡ o
asks_part m r t p q at is o asked = ap (λ (s : Stage). asks_at s m r) at ∙ (ap (λ (p : Part). part_asks p t r) is ∙ asked)

-- it goes on where the key stands
module _ (z : Sizes) (u : View) (m n : Attempt) (t : Position) (p : Part) (r : Room) (v : View) where
  pub goes_on_at : n ≡ record m { stage = stage.Placed t p } → IsRoom z r → PartFits z u m.job t p r v → Fits z u n r v
  goes_on_at is room fits =
      let there : Fits z u (record m { stage = stage.Placed t p }) r v = record { room = room; stage = fits } in
      subst (λ (o : Attempt). Fits z u o r v) (sym is) there

-- the deed of its check, while the place is sought
pub deed_found : (m : Attempt) (f : Finding) (r : Room) → m.stage ≡ stage.Finding f → deed_at m r ≡ deed_by m.job f r
deed_found m f r is = ap (λ (s : Stage). settled_by m.job r.row (found_in s)) is

-- so it asks what the finding asks, and is told of that deed
module _ (m : Attempt) (f : Finding) (r : Room) (at : m.stage ≡ stage.Finding f) (a : Action) where
  pub asked_finding : asks m r ≡ Some a → finding_asks m.job f ≡ Some a
  asked_finding asked = sym (ap (λ (s : Stage). asks_at s m r) at) ∙ asked

  pub told_finding : (z : Sizes) (answer : Answer) (v w : View) → Answers z (telling (deed_at m r)) a answer v w → Answers z (telling (deed_by m.job f r)) a answer v w
  told_finding z answer v w row = subst (λ (d : Deed). Answers z (telling d) a answer v w) (deed_found m f r at) row
