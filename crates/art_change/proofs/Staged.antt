-- What is known of a write, at the stage where it stands.
use Rattle.std.proofs.Common.{◌≡◌, List, Option, sym, ap, ◌∙◌, subst}
use Rattle.art_attempt.specs.declared.attempts.Attempt.{Attempt}
use Rattle.art_attempt.specs.declared.attempts.Room.{Room}
use Rattle.art_change.specs.Writes.{Answers, Fits, StageFits, asks, asks_at, brings_at, left_at, steps_left}
use Rattle.art_change.specs.declared.writes.Stage.{Stage}
use Rattle.art_change.specs.declared.writes.Stage.TheVariants as stages
use Rattle.art_change.specs.declared.writes.Write.{Write}
use Rattle.art_epoch.specs.declared.limbo.Place.{Place}
use Rattle.art_step.specs.Acting as acting
use Rattle.art_step.specs.declared.actions.Action.{Action}
use Rattle.art_step.specs.declared.actions.Answer.{Answer}
use Rattle.art_step.specs.declared.views.Sizes.{Sizes}
use Rattle.art_step.specs.declared.views.View.{View}

module _ (m : Write) (r : Room) (s : Stage) (at : m.stage ≡ s) where
  pub fits_at : (z : Sizes) (u : View) (ps qs : List Place) (v : View) → Fits z u ps m r qs v → StageFits z u ps s m r qs v
  fits_at z u ps qs v fits = subst (λ (a : Stage). StageFits z u ps a m r qs v) at fits.stage

  pub asked_at : (qs : List Place) (o : Option Action) → asks m r qs ≡ o → asks_at s r qs ≡ o
  asked_at qs o is = sym (ap (λ (a : Stage). asks_at a r qs) at) ∙ is

  pub made_at : (z : Sizes) (a : Action) (answer : Answer) (v w : View) → Answers z m r a answer v w → acting.Answers z (brings_at s r a) a answer v w
  made_at z a answer v w row = subst (λ (x : Stage). acting.Answers z (brings_at x r a) a answer v w) at row

  pub steps_at : (qs : List Place) → steps_left m r qs ≡ left_at s m.left r qs
  steps_at qs = ap (λ (a : Stage). left_at a m.left r qs) at

-- a stage has one attempt
abbrev tried : Attempt → Stage → Attempt
tried d (stages.Trying t) = t
tried d s = d

pub same_attempt : (s : Stage) (t i : Attempt) → s ≡ stages.Trying t → s ≡ stages.Trying i → t ≡ i
same_attempt s t i one two = ap (tried t) (sym one ∙ two)
