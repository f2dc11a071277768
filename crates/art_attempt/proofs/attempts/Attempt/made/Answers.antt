use Rattle.std.proofs.Common.{◌≡◌, ◌∙◌, refl, sym, ap, subst}
use Rattle.art_attempt.proofs.Commits.{change_given_up, change_written}
use Rattle.art_attempt.proofs.attempts.Attempt.made.Goals as goal
use Rattle.art_attempt.specs.Attempts.{EndsBy, HasWritten, IsRoom, written}
use Rattle.art_attempt.specs.Rooms.{spent_by}
use Rattle.art_attempt.specs.declared.attempts.Ending.{Ending}
use Rattle.art_attempt.specs.declared.attempts.Job.{Job}
use Rattle.art_attempt.specs.declared.attempts.Job.TheVariants.{Insert, Remove}
use Rattle.art_attempt.specs.declared.attempts.Case.{Case}
use Rattle.art_attempt.specs.declared.attempts.Room.{Room}
use Rattle.art_find.specs.declared.findings.Position.{Position}
use Rattle.art_step.specs.declared.views.Sizes.{Sizes}
use Rattle.art_step.specs.declared.views.View.{View}

-- by the job
written_so : (z : Sizes) (u : View) (i : Job) (t : Position) (k : Case) (r : Room) (v : View) → HasWritten z u i t k r v → (j : Job) → i ≡ j → EndsBy z u i t k r (written j r.gone.value) v
written_so z u i t k r v has Insert is = (is, has)
written_so z u i t k r v has Remove is = (is, has, refl)

pub returns-in-Ok-clause-fits : goal.returns-in-Ok-clause-fits
returns-in-Ok-clause-fits c z u v s room h is =
    let m = c.args.self.now in
    let r = c.args.room.now in
    let then : Room = record r { stock = spent_by r.change r.stock } in
    let so = written_so z u m.job h.position h.chosen then v (change_written z u m.job s r v h c.args.made is c.in-Ok.is) m.job refl in
    let ends : EndsBy z u m.job h.position h.chosen then c.written.result v = subst (λ (e : Ending). EndsBy z u m.job h.position h.chosen then e v) (sym (c.written.ensures ∙ ap (λ (q : Room). written m.job q.gone.value) c.spend.ensures)) so in
    record {
      room = subst (IsRoom z) (sym c.spend.ensures) (record { sizes = room.sizes; key = room.key });
      stage = rw c.spend.ensures (record { position = h.position; case = h.chosen; ends = ends });
    }

pub returns-in-Err-clause-fits : goal.returns-in-Err-clause-fits
returns-in-Err-clause-fits c z u v s room h is =
    let m = c.args.self.now in
    let r = c.args.room.now in
    let ends = change_given_up z u m.job s r v h c.args.made is c.in-Err.fault c.in-Err.is in
    record {
      room = room;
      stage = record { position = h.position; case = h.chosen; ends = subst (λ (e : Ending). EndsBy z u m.job h.position h.chosen r e v) (sym c.given_up.ensures) ends };
    }
