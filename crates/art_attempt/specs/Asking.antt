-- What each step of an attempt needs of the pass's view, and what its answer says of the view after it.
use Rattle.std.specs.Prelude.{⊤, Option, Some, None}
use Rattle.art_find.specs.Asking.{MayLook}
use Rattle.art_step.specs.Acting as acting
use Rattle.art_step.specs.Acting.{telling}
use Rattle.art_step.specs.declared.actions.Action.{Action}
use Rattle.art_step.specs.declared.actions.Action.TheVariants.{Settle, Commit}
use Rattle.art_step.specs.declared.actions.Answer.{Answer}
use Rattle.art_step.specs.declared.actions.Effects.{Effects}
use Rattle.art_plan.specs.declared.changes.Change.{Change as ChangeOf}
use Rattle.art_step.specs.Steps.Check as check
use Rattle.art_step.specs.WordPlaces.{HasVersion}
use Rattle.art_step.specs.declared.deeds.Deed.{Deed}
use Rattle.art_step.specs.declared.views.Sizes.{Sizes}
use Rattle.art_step.specs.declared.views.View.{View}

-- what comes about: where a check settles the answer this deed is done, and what is committed is this change
abbrev pub given : Deed → ChangeOf → Action → Option Effects
given d c (Settle x) = telling d
given d c (Commit b o) = Some c.effects
given d c a = None

-- a check that settles the answer may tell the deed
abbrev pub MayAsk : Sizes → Deed → View → Action → Type 0
MayAsk z d v (Settle x) = HasVersion z x.cell × check.May z v x (Some d)
MayAsk z d v a = MayLook z (λ s. ⊤) v a

-- the step may be made, of an attempt that tells this deed where a check settles it, and makes this change
abbrev pub IsAllowed : Sizes → Deed → ChangeOf → View → Action → Type 0
IsAllowed z d c v a = acting.IsAllowed z (given d c a) v a

-- it was made, with this answer
abbrev pub Answers : Sizes → Deed → ChangeOf → Action → Answer → View → View → Type 0
Answers z d c a r v w = acting.Answers z (given d c a) a r v w
