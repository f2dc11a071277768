-- A step of a part is one step.
use Rattle.std.proofs.Common.{◌≡◌, Option, Some}
use Rattle.art_attempt.proofs.Asked.{naming_asks_look, reads_look, supply_asks_supply, validate_asks_look}
use Rattle.art_attempt.proofs.Given.{look_once, supply_once}
use Rattle.art_attempt.specs.Attempts.{part_asks}
use Rattle.art_attempt.specs.Cases.{cells_of}
use Rattle.art_attempt.specs.declared.attempts.Part.{Part}
use Rattle.art_attempt.specs.declared.attempts.Part.TheVariants.{Reserve, Reading, Naming, Validate}
use Rattle.art_attempt.specs.declared.attempts.Room.{Room}
use Rattle.art_find.specs.declared.findings.Position.{Position}
use Rattle.art_step.specs.Acting.{Answers, steps_in}
use Rattle.art_step.specs.declared.actions.Action.{Action}
use Rattle.art_step.specs.declared.actions.Answer.{Answer}
use Rattle.art_step.specs.declared.actions.Effects.{Effects}
use Rattle.art_step.specs.declared.views.Sizes.{Sizes}
use Rattle.art_step.specs.declared.views.View.{View}

pub part_once : (z : Sizes) (f : Option Effects) (t : Position) (r : Room) (p : Part) (a : Action) (answer : Answer) (v w : View) → part_asks p t r ≡ Some a → Answers z f a answer v w → steps_in answer ≡ 1
part_once z f t r (Reserve c s) a answer v w is row = supply_once z f a answer v w (supply_asks_supply r.row.key.items r.row.value r.stock s a is) row
part_once z f t r (Reading q) a answer v w is row = look_once z f a answer v w (reads_look t.stamp q a is) row
part_once z f t r (Naming byte n s) a answer v w is row = look_once z f a answer v w (naming_asks_look t s a is) row
part_once z f t r (Validate c s) a answer v w is row = look_once z f a answer v w (validate_asks_look t (cells_of c t.verdict) s a is) row
