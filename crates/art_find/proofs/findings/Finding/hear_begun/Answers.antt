use Rattle.std.proofs.Common.{◌∙◌, Option, true, false, Some, refl, sym, ap, subst}
use Rattle.std.specs.Prelude.{Result, Ok, Err}
use Rattle.art_find.specs.Asking.{WantsVersion}
use Rattle.art_find.specs.Descents.{asks, ended_at}
use Rattle.art_step.specs.declared.actions.Answer.TheVariants.{Begun}
use Rattle.art_step.specs.declared.actions.Action.{Action}
use Rattle.art_step.specs.declared.actions.Action.TheVariants.{Begin}
use Rattle.art_find.specs.declared.descents.Descent.{Descent}
use Rattle.art_find.specs.declared.descents.Stage.{Stage}
use Rattle.art_cell.specs.declared.cells.Cell.TheVariants as cell
use Rattle.art_find.specs.declared.findings.Finding.{Finding}
use Rattle.art_find.proofs.Hearing.{CameTo, begun_fails, begun_going, heard, looked_on}
use Rattle.art_find.specs.Findings.{Enters, Keeps}
use Rattle.art_step.specs.Steps.Begin as begin
use Rattle.art_step.specs.declared.faults.Locked.{Locked}
use Rattle.art_step.specs.declared.views.Stamp.{Stamp}
use Rattle.art_find.proofs.findings.Finding.hear_begun.Goals as goal

pub returns-in-Ok : goal.returns-in-Ok
returns-in-Ok g c = record {
  looked = λ z k v w at.
      let m = c.args.self.now in
      let n = c.began_at.new.self in
      let y = c.in-Ok.stamp in
      let asked = Begin c.args.cell in
      let is = ap (λ (s : Stage). asks s) c.requires.at ∙ c.requires.asked in
      let row = subst (λ (r : Result Stamp Locked). begin.Outcome z v w c.args.cell r) c.in-Ok.is at in
      let came : CameTo z k asked (Begun (Ok y)) m.descent n v w = record {
        further = λ on. c.began_at.ensures.steps;
        anew = λ off. absurd (cc);
        stays = c.began_at.ensures.stays;
        going = ap (λ (d : Descent). ended_at d.stage) c.began_at.ensures.stays ∙ begun_going m.descent.stage y (subst WantsVersion (sym is) tt);
        fits = λ what u before. c.began_at.ensures.fits z k what u v w asked before is row;
      } in
      let keeps : Keeps (Begun (Ok y)) (asks m.descent.stage) (asks n.stage) n.depth m.above (g.K.Sink.kept c.args.sink.now) c.enter.new.self.above (g.K.Sink.kept c.enter.new.sink) =
      subst (λ (o : Option Action). Enters o (asks n.stage) n.depth m.above (g.K.Sink.kept c.args.sink.now) c.enter.new.self.above (g.K.Sink.kept c.enter.new.sink)) (sym is) c.enter.ensures.enters in
      looked_on z k true m c.enter.new.self (g.K.Sink.kept c.args.sink.now) (g.K.Sink.kept c.enter.new.sink) v w asked (Begun (Ok y)) is (λ d. row) refl
      (heard z k true m c.enter.new.self (g.K.Sink.kept c.args.sink.now) (g.K.Sink.kept c.enter.new.sink) v w asked (Begun (Ok y)) is (λ d. row) n c.enter.ensures.descent came keeps);
}

pub returns-in-Err : goal.returns-in-Err
returns-in-Err g c = record {
  looked = λ z k v w at.
      let m = c.args.self.now in
      let n = c.failed.new.self in
      let next : Finding = record m { descent = n } in
      let e = c.in-Err.field-0 in
      let asked = Begin c.args.cell in
      let is = ap (λ (s : Stage). asks s) c.requires.at ∙ c.requires.asked in
      let row = subst (λ (r : Result Stamp Locked). begin.Outcome z v w c.args.cell r) c.in-Err.is at in
      let came : CameTo z k asked (Begun (Err e)) m.descent n v w = record {
        further = λ on. absurd (cc);
        anew = λ off. c.failed.ensures.steps;
        stays = tt;
        going = ap (λ (d : Descent). ended_at d.stage) c.failed.ensures.start;
        fits = λ what u before. c.failed.ensures.fits z k what u w (begun_fails z k what m.descent u v w before c.args.cell e is row);
      } in
      let keeps : Keeps (Begun (Err e)) (asks m.descent.stage) (asks n.stage) n.depth m.above (g.K.Sink.kept c.args.sink.now) m.above (g.K.Sink.kept c.args.sink.now) =
      subst (λ (d : Descent). Enters (asks m.descent.stage) (asks d.stage) d.depth m.above (g.K.Sink.kept c.args.sink.now) m.above (g.K.Sink.kept c.args.sink.now)) (sym c.failed.ensures.start)
      (subst (λ (o : Option Action). Enters o (Some (Begin cell.Anchor)) m.descent.depth m.above (g.K.Sink.kept c.args.sink.now) m.above (g.K.Sink.kept c.args.sink.now)) (sym is) (refl, refl)) in
      looked_on z k false m next (g.K.Sink.kept c.args.sink.now) (g.K.Sink.kept c.args.sink.now) v w asked (Begun (Err e)) is (λ d. row) refl
      (heard z k false m next (g.K.Sink.kept c.args.sink.now) (g.K.Sink.kept c.args.sink.now) v w asked (Begun (Err e)) is (λ d. row) n refl came keeps);
}
