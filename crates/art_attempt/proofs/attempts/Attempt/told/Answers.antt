use Rattle.std.proofs.Common.{◌≡◌, ◌∙◌, ◌-◌, ◌<◌, Some, ap, sym, subst}
use Rattle.art_attempt.proofs.Given.{ask_looks, look_once, look_row, made_row}
use Rattle.art_attempt.proofs.OneStep.{part_once}
use Rattle.art_attempt.proofs.Stages.{asked_finding, is_finding}
use Rattle.art_plan.proofs.Keeping.{asks_made}
use Rattle.art_attempt.specs.Asking.{given}
use Rattle.art_attempt.proofs.Finds.{finding_allowed}
use Rattle.art_attempt.proofs.Left.{free_less}
use Rattle.art_attempt.proofs.attempts.Attempt.told.Goals as goal
use Rattle.art_attempt.specs.Attempts.{Fits, StageFits, asks, asks_at, deed_at, deed_by, free_at, left_at, steps_left}
use Rattle.art_attempt.specs.declared.attempts.Attempt.{Attempt}
use Rattle.art_attempt.specs.declared.attempts.Stage.{Stage as StageOf}
use Rattle.art_attempt.specs.declared.attempts.Stage.TheVariants as stages
use Rattle.art_attempt.specs.declared.attempts.Room.{Room}
use Rattle.art_find.specs.declared.findings.Finding.{Finding}
use Rattle.art_step.specs.Acting.{IsLook, steps_in}
use Rattle.art_step.specs.declared.actions.Action.{Action}
use Rattle.art_step.specs.declared.views.Sizes.{Sizes}
use Rattle.art_step.specs.declared.views.View.{View}

-- on the way to the place it only looks
find_looks : (z : Sizes) (u : View) (m : Attempt) (f : Finding) (r : Room) (v : View) (a : Action) → m.stage ≡ stages.Finding f → Fits z u m r v → asks m r ≡ Some a → IsLook a
find_looks z u m f r v a at fits is = ask_looks z (deed_by m.job f r) v a (finding_allowed z u m.job f r v (is_finding z u m r v f at fits) a (asked_finding m f r at a is))

pub find_told-requires-clause-told : goal.find_told-requires-clause-told
find_told-requires-clause-told c =
    let m = c.args.self.now in
    let r = c.args.room.now in
    let q = c.requires in
    let look = find_looks q.0 q.1 m c.in-Finding.field-0 r q.2 q.4 c.in-Finding.is q.5 q.6 in
    (q.0, q.1, q.2, q.3, q.4, q.5, q.6, look_row q.0 (deed_at m r) r.change q.4 c.args.answer q.2 q.3 look q.7)

pub returns-in-Finding-clause-fits : goal.returns-in-Finding-clause-fits
returns-in-Finding-clause-fits c z u v w asked fits is row =
    let m = c.args.self.now in
    let r = c.args.room.now in
    let look = find_looks z u m c.in-Finding.field-0 r v asked c.in-Finding.is fits is in
    c.find_told.ensures.fits z u v w asked fits is (look_row z (deed_at m r) r.change asked c.args.answer v w look row)

pub returns-in-Finding-clause-left : goal.returns-in-Finding-clause-left
returns-in-Finding-clause-left c left begun =
    let m = c.args.self.now in
    let r = c.args.room.now in
    let q = c.requires in
    let look = find_looks q.0 q.1 m c.in-Finding.field-0 r q.2 q.4 c.in-Finding.is q.5 q.6 in
    let one = look_once q.0 (given (deed_at m r) r.change q.4) q.4 c.args.answer q.2 q.3 look q.7 in
    let next = c.find_told.new.self in
    subst (λ (s : StageOf). steps_left (left - steps_in c.args.answer) next < left_at left s) (sym c.in-Finding.is)
    (free_less left (steps_in c.args.answer) next.stage (begun (ap free_at c.in-Finding.is)) one c.find_told.ensures.free)

pub returns-in-Placed-clause-left : goal.returns-in-Placed-clause-left
returns-in-Placed-clause-left c left begun =
    let m = c.args.self.now in
    let r = c.args.room.now in
    let q = c.requires in
    let at = sym (ap (λ (s : StageOf). asks_at s m r) c.in-Placed.is) ∙ q.6 in
    let one = part_once q.0 (given (deed_at m r) r.change q.4) c.in-Placed.position r c.in-Placed.part q.4 c.args.answer q.2 q.3 at q.7 in
    let next = c.part_told.new.self in
    subst (λ (s : StageOf). steps_left (left - steps_in c.args.answer) next < left_at left s) (sym c.in-Placed.is)
    (free_less left (steps_in c.args.answer) next.stage (begun (ap free_at c.in-Placed.is)) one c.part_told.ensures.free)

pub returns-in-Placed-clause-overlaps : goal.returns-in-Placed-clause-overlaps
returns-in-Placed-clause-overlaps c is = absurd (c.part_told.ensures.not_overlaps is)

pub make_told-requires : goal.make_told-requires
make_told-requires c =
    let m = c.args.self.now in
    let r = c.args.room.now in
    let q = c.requires in
    let stage = subst (λ (s : StageOf). StageFits q.0 q.1 s m r q.2) c.in-Apply.is q.5.stage in
    let at = sym (ap (λ (s : StageOf). asks_at s m r) c.in-Apply.is) ∙ q.6 in
    (q.0, q.1, q.2, q.3, q.4, q.5.room, stage.0, at, made_row q.0 (deed_at m r) r.change q.4 c.args.answer q.2 q.3 (asks_made r.change c.in-Apply.apply q.4 at) q.7)

pub returns-in-Apply-clause-fits : goal.returns-in-Apply-clause-fits
returns-in-Apply-clause-fits c z u v w asked fits is row =
    let m = c.args.self.now in
    let r = c.args.room.now in
    let d = deed_at m r in
    let stage = subst (λ (s : StageOf). StageFits z u s m r v) c.in-Apply.is fits.stage in
    let at = sym (ap (λ (s : StageOf). asks_at s m r) c.in-Apply.is) ∙ is in
    c.make_told.ensures.fits z u v w asked fits.room stage.0 at (made_row z d r.change asked c.args.answer v w (asks_made r.change c.in-Apply.apply asked at) row)

pub returns-in-Apply-clause-left : goal.returns-in-Apply-clause-left
returns-in-Apply-clause-left c left begun =
    let m = c.args.self.now in
    subst (λ (s : StageOf). steps_left (left - steps_in c.args.answer) c.make_told.new.self < left_at left s) (sym c.in-Apply.is)
    (c.make_told.ensures.left left (λ is. begun (ap free_at c.in-Apply.is ∙ is)))

pub returns-in-Apply-clause-overlaps : goal.returns-in-Apply-clause-overlaps
returns-in-Apply-clause-overlaps c is = absurd (c.make_told.ensures.not_overlaps is)

pub returns-in-Ended-clause-overlaps : goal.returns-in-Ended-clause-overlaps
returns-in-Ended-clause-overlaps c is =
    let m = c.args.self.now in
    let r = c.args.room.now in
    let at = sym (ap (λ (s : StageOf). asks_at s m r) c.in-Ended.is) ∙ c.requires.6 in
    absurd (cc)
