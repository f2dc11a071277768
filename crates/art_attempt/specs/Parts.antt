-- What is known of a part where it stands, which may have ended.
use Rattle.std.specs.Prelude.{ℕ, Option, None}
use Rattle.art_attempt.specs.Attempts.{Fits, HasSupplies, IsNaming, IsReadingOn, IsSameTry, IsValidating}
use Rattle.art_attempt.specs.Validate as validate
use Rattle.art_attempt.specs.declared.attempts.Attempt.{Attempt}
use Rattle.art_attempt.specs.declared.attempts.Job.{Job}
use Rattle.art_attempt.specs.declared.attempts.Part.TheVariants as part
use Rattle.art_attempt.specs.declared.attempts.Stage.{Stage}
use Rattle.art_attempt.specs.declared.attempts.Stage.TheVariants as stage
use Rattle.art_attempt.specs.declared.attempts.Room.{Room}
use Rattle.art_attempt.specs.declared.validate.Validated.{Validated}
use Rattle.art_step.specs.Turns.{Spends}
use Rattle.art_step.specs.declared.views.Sizes.{Sizes}
use Rattle.art_step.specs.declared.views.View.{View}

abbrev pub PartKnows : Sizes → View → Stage → Job → Room → View → Type 0
PartKnows z u (stage.Finding f) j r v = ⊥
PartKnows z u (stage.Placed t (part.Reserve c s)) j r v = HasSupplies z u j t c s r v
PartKnows z u (stage.Placed t (part.Reading q)) j r v = IsReadingOn z u j t q r v
PartKnows z u (stage.Placed t (part.Naming byte n s)) j r v = IsNaming z u j t byte n s r v
PartKnows z u (stage.Placed t (part.Validate c s)) j r v = IsValidating z u j t c s r v
PartKnows z u (stage.Apply s) j r v = ⊥
PartKnows z u (stage.Ended e) j r v = ⊥

-- steps that come before a change lead from the first to the second: it is the same try, each step took one turn, and what was known is
-- known
pub record Prepares (z : Sizes) (m : Attempt) (r : Room) (left : ℕ) (v : View)
    (n : Attempt) (s : Room) (left' : ℕ) (w : View) : Type 0 where
  pub kept : IsSameTry m n r s
  pub turns : Spends v w left left'
  pub fits : (u : View) → Fits z u m r v → Fits z u n s w

-- how its validation ended, if it has
abbrev pub validated_in : Stage → Option Validated
validated_in (stage.Finding f) = None
validated_in (stage.Placed t (part.Reserve c s)) = None
validated_in (stage.Placed t (part.Reading q)) = None
validated_in (stage.Placed t (part.Naming byte n s)) = None
validated_in (stage.Placed t (part.Validate c s)) = validate.ended_at s
validated_in (stage.Apply s) = None
validated_in (stage.Ended e) = None
