use Rattle.std.proofs.Common.{◌∙◌, true, false, refl, ap, subst, arith}
use Rattle.std.specs.Prelude.{Result, Ok, Err}
use Rattle.art_step.specs.declared.actions.Answer.TheVariants.{Begun}
use Rattle.art_step.specs.declared.actions.Action.TheVariants.{Begin}
use Rattle.art_find.specs.declared.straight.Tally.{Tally}
use Rattle.art_look.specs.Looks.{asks}
use Rattle.art_look.specs.declared.looks.LookStage.{LookStage}
use Rattle.art_look.proofs.Going.{anew_going, begun_fails, has_gone}
use Rattle.art_step.specs.Steps.Begin as begin
use Rattle.art_step.specs.declared.faults.Locked.{Locked}
use Rattle.art_step.specs.declared.views.Stamp.{Stamp}
use Rattle.art_look.proofs.straight.hear_begun.Goals as goal

pub returns-in-Ok : goal.returns-in-Ok
returns-in-Ok c = record {
  gone = λ z lo t v w cell asked found.
      let m = c.args.look.now in
      let e = c.began_at.ensures in
      let is = ap (λ (s : LookStage). asks s) c.requires.at ∙ asked in
      let row = subst (λ (r : Result Stamp Locked). begin.Outcome z v w cell r) c.in-Ok.is found in
      has_gone z lo v w m c.began_at.new.self t t (Begin cell) (Begun (Ok c.in-Ok.stamp)) true refl (λ d. row) tt c.args.tally.now _ e.going (λ on. e.steps) e.least
      (λ hi u fits. e.fits z lo hi t u v w (Begin cell) fits is row) (omega (arith, c.requires.turn.some)) refl;
}

pub returns-in-Err : goal.returns-in-Err
returns-in-Err c = record {
  gone = λ z lo t v w cell asked found.
      let m = c.args.look.now in
      let n = c.restart.new.look in
      let e = c.restart.ensures in
      let fault = c.in-Err.field-0 in
      let is = ap (λ (s : LookStage). asks s) c.requires.at ∙ asked in
      let row = subst (λ (r : Result Stamp Locked). begin.Outcome z v w cell r) c.in-Err.is found in
      let least = e.least in
      has_gone z lo v w m n t t (Begin cell) (Begun (Err fault)) false refl (λ d. row) tt c.args.tally.now _ (anew_going n.stage e.least) (λ on. absurd (cc)) (omega (arith, least))
      (λ hi u fits. e.fits z lo hi t u w (begun_fails z lo hi m t u v w cell fault is fits row)) (omega (arith, ap (λ (a : Tally). a.left) e.tally, c.requires.turn.some)) (ap (λ (a : Tally). a.restarts) e.tally);
}
