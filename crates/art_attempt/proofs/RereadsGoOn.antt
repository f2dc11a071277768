-- A rereading that asks for a step has not come to the end of its cell.
use Rattle.std.proofs.Common.{◌≡◌, ◌<◌, Some, refl}
use Rattle.std.proofs.lemmas.Bool.{lt-ltb, ltb-true}
use Rattle.std.proofs.lemmas.Option.{cond_some}
use Rattle.art_step.specs.declared.actions.Action.{Action}
use Rattle.art_step.specs.declared.actions.Action.TheVariants.{Read}
use Rattle.art_find.specs.Rereadings.{reads_next}
use Rattle.art_find.specs.declared.read_sets.Rereading.{Rereading}
use Rattle.art_step.specs.Views.{size_of}
use Rattle.art_step.specs.declared.views.Stamp.{Stamp}

pub reads_more : (x : Stamp) (r : Rereading) (a : Action) → reads_next x r ≡ Some a → r.place < size_of x.cell
reads_more x r a is = ltb-true r.place (size_of x.cell) (cond_some _ (Read x r.place) a is).0

pub more_reads : (x : Stamp) (r : Rereading) → r.place < size_of x.cell → reads_next x r ≡ Some (Read x r.place)
more_reads x r more = rw (lt-ltb r.place (size_of x.cell) more) refl
