-- Steps at an instant, for whoever stands on the trait.
use Rattle.art_step.specs.declared.views.Sizes.{Sizes}
use Rattle.art_step.specs.declared.views.View.{View}
use Rattle.art_step.specs.Effects.{Instant}
use Rattle.art_step.specs.Steps.{AtStep}
use Rattle.art_step.specs.Views.{Memory, Views}

-- what was so at the instant of a step, was so in other words
pub at_step_then : {z : Sizes} {v w : View} {I so so' : Instant} → ((m : Memory) (f : Views) (m' : Memory) (f' : Views) → so m f m' f' → so' m f m' f') → AtStep z v w I so → AtStep z v w I so'
at_step_then by t = record {
  words = t.words;
  views = t.views;
  words_after = t.words_after;
  views_after = t.views_after;
  instant = t.instant;
  pass = t.pass;
  before = t.before;
  after = t.after;
  step = t.step;
  was = by t.words t.views t.words_after t.views_after t.was;
}
