use Rattle.std.proofs.Common.{◌∙◌, true, false, None, refl, ap, subst, arith}
use Rattle.std.specs.Prelude.{Result, Ok, Err}
use Rattle.art_step.specs.declared.actions.Answer.TheVariants.{Checked}
use Rattle.art_step.specs.declared.actions.Action.TheVariants.{Check}
use Rattle.art_find.specs.declared.straight.Tally.{Tally}
use Rattle.art_look.specs.Looks.{asks}
use Rattle.art_look.specs.declared.looks.LookStage.{LookStage}
use Rattle.art_look.proofs.Going.{anew_going, check_fails, has_gone, still_going}
use Rattle.art_step.specs.Steps.Check as check
use Rattle.art_step.specs.declared.faults.Changed.{Changed}
use Rattle.art_look.proofs.straight.hear_checked.Goals as goal

pub returns-in-Ok : goal.returns-in-Ok
returns-in-Ok c = record {
  gone = λ z lo t v w x asked found.
      let m = c.args.look.now in
      let n = c.checked_at.new.self in
      let e = c.checked_at.ensures in
      let is = ap (λ (s : LookStage). asks s) c.requires.at ∙ asked in
      let row = subst (λ (r : Result (Unit {0}) Changed). check.Outcome z v w x None r) c.in-Ok.is found in
      has_gone z lo v w m n t t (Check x) (Checked (Ok tt)) true refl (λ d. row) tt c.args.tally.now _ (still_going m.stage n.stage x is e.going) (λ on. e.steps) e.least
      (λ hi u fits. e.fits z lo hi t u v w (Check x) fits is row) (omega (arith, c.requires.turn.some)) refl;
}

pub returns-in-Err : goal.returns-in-Err
returns-in-Err c = record {
  gone = λ z lo t v w x asked found.
      let m = c.args.look.now in
      let n = c.restart.new.look in
      let e = c.restart.ensures in
      let fault = c.in-Err.field-0 in
      let is = ap (λ (s : LookStage). asks s) c.requires.at ∙ asked in
      let row = subst (λ (r : Result (Unit {0}) Changed). check.Outcome z v w x None r) c.in-Err.is found in
      let least = e.least in
      has_gone z lo v w m n t t (Check x) (Checked (Err fault)) false refl (λ d. row) tt c.args.tally.now _ (anew_going n.stage e.least) (λ on. absurd (cc)) (omega (arith, least))
      (λ hi u fits. e.fits z lo hi t u w (check_fails z lo hi m t u v w x fault is fits row)) (omega (arith, ap (λ (a : Tally). a.left) e.tally, c.requires.turn.some)) (ap (λ (a : Tally). a.restarts) e.tally);
}
