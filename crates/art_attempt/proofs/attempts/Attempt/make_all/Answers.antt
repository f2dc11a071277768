-- The change is made, and how that ended is looked at.
use Rattle.std.proofs.Common.{◌≡◌, ◌∙◌, ◌+◌, ◌≤◌, ◌<◌, ℕ, Some, true, ⊎_elim, sym, ap, subst, arith}
use Rattle.std.specs.Prelude.{Result, ⊤}
use Rattle.std.proofs.lemmas.Option.{same_Some}
use Rattle.art_attempt.proofs.Commits.{made_admitted, made_on}
use Rattle.art_attempt.proofs.Left.{by_end, run_begun, run_ended}
use Rattle.art_attempt.proofs.Overlaps.{made_apart}
use Rattle.art_attempt.proofs.Stages.{has_made}
use Rattle.art_attempt.specs.Attempts.{apply_left, ending_at, ended_so, left_at, steps_left}
use Rattle.art_attempt.specs.declared.attempts.Ending.{Ending}
use Rattle.art_attempt.specs.declared.attempts.Ending.TheVariants.{Overlaps}
use Rattle.art_attempt.specs.declared.attempts.Stage.{Stage}
use Rattle.art_plan.specs.Apply.{is_begun}
use Rattle.art_plan.specs.Apply as apply
use Rattle.art_step.specs.Deeds.{IsAdmitted}
use Rattle.art_step.specs.declared.deeds.Deed.{Deed}
use Rattle.art_step.specs.declared.faults.UpgradeFault.{UpgradeFault}
use Rattle.art_attempt.proofs.attempts.Attempt.make_all.Goals as goal

pub run-requires-clause-admitted : goal.run-requires-clause-admitted
run-requires-clause-admitted g c =
    let s = c.args.steps.now in
    let q = c.requires.fits in
    let h = has_made (g.S.Steps.sizes s) q.0 c.args.self.now c.args.room.now (g.S.Steps.view s) c.args.apply c.requires.stage q.1 in
    let r = c.args.room.now in
    subst (λ (d : Deed). IsAdmitted (g.S.Steps.admits s) d) (sym h.deed) (made_admitted (g.S.Steps.admits s) c.args.self.now.job r.row r.gone c.requires.admitted)

pub run-requires-clause-fits : goal.run-requires-clause-fits
run-requires-clause-fits g c =
    let s = c.args.steps.now in
    let q = c.requires.fits in
    let h = has_made (g.S.Steps.sizes s) q.0 c.args.self.now c.args.room.now (g.S.Steps.view s) c.args.apply c.requires.stage q.1 in
    (h.early, h.fits)

pub returns-clause-fits : goal.returns-clause-fits
returns-clause-fits g c u fits =
    let z = g.S.Steps.sizes c.args.steps.now in
    let v = g.S.Steps.view c.args.steps.now in
    let w = g.S.Steps.view c.run.new.steps in
    let m = c.args.self.now in
    let r = c.args.room.now in
    let h = has_made z u m r v c.args.apply c.requires.stage fits in
    c.make_on.ensures.fits z u w fits.room (made_on z u m.job c.args.apply r v h w c.run.new.self c.run.ensures.runs.keeps (c.run.ensures.fits h.early h.fits))

pub returns-clause-not_overlaps : goal.returns-clause-not_overlaps
returns-clause-not_overlaps g c overlaps =
    by_end c.run.new.self
    (λ is. let none = ap ending_at (c.make_on.ensures.going is) in absurd (cc))
    (λ made is. made_apart c.args.self.now.job c.args.room.now.gone.value made (same_Some {A = Ending} (ended_so c.args.self.now.job c.args.room.now.gone.value made) Overlaps (sym (ap ending_at (c.make_on.ensures.ended made is)) ∙ overlaps)))

pub returns-clause-turn : goal.returns-clause-turn
returns-clause-turn g c free none =
    ⊎_elim
    (λ (e : (r : Result ⊤ UpgradeFault) × (apply.ended_at c.run.new.self ≡ Some r)). let some = ap ending_at (c.make_on.ensures.ended e.0 e.1) in absurd (cc))
    (λ (b : (is_begun c.run.new.self ≡ true) × (c.run.new.left ≡ 1)). let one = b.1 in omega (arith, one))
    c.run.ensures.last

pub returns-clause-later : goal.returns-clause-later
returns-clause-later g c = c.run.ensures.runs.keeps.steps

pub returns-clause-counted : goal.returns-clause-counted
returns-clause-counted g c = let taken = c.run.ensures.runs.turns in let later = c.run.ensures.runs.keeps.steps in omega (arith, taken, later)

pub returns-clause-left : goal.returns-clause-left
returns-clause-left g c =
    let v = g.S.Steps.view c.args.steps.now in
    let w = g.S.Steps.view c.run.new.steps in
    let m = c.args.self.now in
    let next = c.run.new.self in
    let left = c.args.left.now in
    let left' = c.run.new.left in
    let runs = c.run.ensures.runs in
    let s = c.args.apply in
    let begun : is_begun s ≡ true → 0 < left = λ is. c.requires.turn in
    subst (λ (n : ℕ). w.steps + steps_left left' c.make_on.new.self ≤ v.steps + n) (sym (ap (left_at left) c.requires.stage))
    (by_end next
    (λ is. subst (λ (e : Stage). w.steps + left_at left' e ≤ v.steps + apply_left left s) (sym (c.make_on.ensures.going is))
    (run_begun left left' v w s next begun runs (⊎_elim
    (λ (e : (r : Result ⊤ UpgradeFault) × (apply.ended_at next ≡ Some r)). let some = e.1 in absurd (cc))
    (λ (b : (is_begun next ≡ true) × (left' ≡ 1)). b.0)
    c.run.ensures.last)))
    (λ made is. subst (λ (e : Stage). w.steps + left_at left' e ≤ v.steps + apply_left left s) (sym (c.make_on.ensures.ended made is))
    (run_ended left left' v w s next begun runs m.job c.args.room.now.gone.value made is)))
