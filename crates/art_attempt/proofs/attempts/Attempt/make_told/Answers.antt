use Rattle.std.proofs.Common.{◌≡◌, ◌∙◌, ◌-◌, ◌<◌, Some, ap, sym, subst, arith}
use Rattle.std.specs.Prelude.{Result, ⊤}
use Rattle.std.proofs.lemmas.Option.{same_Some}
use Rattle.art_attempt.proofs.Commits.{made_on}
use Rattle.art_attempt.proofs.Left.{anew_fault, by_end, ended_less, fault_ended, going_less, last_stays, step_or_last, still_made}
use Rattle.art_attempt.proofs.Looks.{begun_none}
use Rattle.art_attempt.proofs.Overlaps.{made_apart}
use Rattle.art_attempt.proofs.attempts.Attempt.make_told.Goals as goal
use Rattle.art_step.specs.Acting.{steps_in}
use Rattle.art_attempt.specs.Attempts.{apply_left, ending_at, ended_so, free_at, left_at}
use Rattle.art_attempt.specs.declared.attempts.Ending.{Ending}
use Rattle.art_attempt.specs.declared.attempts.Ending.TheVariants.{Restart, Overlaps}
use Rattle.art_attempt.specs.declared.attempts.Stage.{Stage as StageOf}
use Rattle.art_plan.proofs.Keeping.{answer_keeps}
use Rattle.art_plan.proofs.Told.{few_steps}
use Rattle.art_plan.specs.Apply.{fault_of}
use Rattle.art_step.specs.declared.faults.UpgradeFault.{UpgradeFault}
use Rattle.art_step.specs.declared.faults.UpgradeFault.TheVariants.{Changed}

pub returns-clause-fits : goal.returns-clause-fits
returns-clause-fits c z u v w asked room h is row =
    let m = c.args.self.now in
    let r = c.args.room.now in
    let keeps = answer_keeps z h.early v w r.change c.args.apply asked c.args.answer h.fits is row in
    c.make_on.ensures.fits z u w room (made_on z u m.job c.args.apply r v h w c.told.new.self keeps (c.told.ensures.fits z h.early v w asked h.fits is row))

pub returns-clause-left : goal.returns-clause-left
returns-clause-left c left begun =
    let m = c.args.self.now in
    let r = c.args.room.now in
    let s = c.args.apply in
    let q = c.requires in
    let h = q.6 in
    let next = c.told.new.self in
    let n = steps_in c.args.answer in
    let few = few_steps q.0 h.early q.2 r.change s h.fits (still_made r.change s q.4 q.7) in
    let fits = c.told.ensures.fits q.0 h.early q.2 q.3 q.4 h.fits q.7 q.8 in
    let last = last_stays (fault_of s) (fault_of next) c.told.ensures.stays in
    let some = step_or_last c.args.answer (fault_of next) c.told.ensures.refused in
    by_end next
    (λ is. subst (λ (e : StageOf). left_at (left - n) e < apply_left left s) (sym (c.make_on.ensures.going is))
    (going_less left n s next begun few last some c.told.ensures.steps (few_steps q.0 h.early q.3 r.change next fits is)))
    (λ made is. subst (λ (e : StageOf). left_at (left - n) e < apply_left left s) (sym (c.make_on.ensures.ended made is))
    (ended_less left n s next begun few last some m.job r.gone.value made is))

pub returns-clause-anew : goal.returns-clause-anew
returns-clause-anew c anew =
    let next = c.told.new.self in
    by_end next
    (λ is. let none = ap ending_at (c.make_on.ensures.going is) in absurd (cc))
    (λ made is.
    let at : ended_so c.args.self.now.job c.args.room.now.gone.value made ≡ Restart = same_Some {A = Ending} (ended_so c.args.self.now.job c.args.room.now.gone.value made) Restart (sym (ap ending_at (c.make_on.ensures.ended made is)) ∙ anew) in
    let why = anew_fault c.args.self.now.job c.args.room.now.gone.value made at in
    (why.0, c.told.ensures.why (Changed why.0) (fault_ended next (Changed why.0) (is ∙ ap (λ (r : Result ⊤ UpgradeFault). Some r) why.1))))

pub returns-clause-not_overlaps : goal.returns-clause-not_overlaps
returns-clause-not_overlaps c overlaps =
    by_end c.told.new.self
    (λ is. let none = ap ending_at (c.make_on.ensures.going is) in absurd (cc))
    (λ made is. made_apart c.args.self.now.job c.args.room.now.gone.value made (same_Some {A = Ending} (ended_so c.args.self.now.job c.args.room.now.gone.value made) Overlaps (sym (ap ending_at (c.make_on.ensures.ended made is)) ∙ overlaps)))

pub returns-clause-over : goal.returns-clause-over
returns-clause-over c free none =
    let next = c.told.new.self in
    by_end next
    (λ is.
    let begun = sym (ap free_at (c.make_on.ensures.going is)) ∙ free in
    let held = begun_none next (let more = c.told.ensures.steps in omega (arith, more)) in
    absurd (cc))
    (λ made is. let some = ap ending_at (c.make_on.ensures.ended made is) in absurd (cc))
