use Rattle.std.proofs.Common.{◌∙◌, Option, sym, ap, subst}
use Rattle.art_find.specs.Descents.{answer_at, asks}
use Rattle.art_step.specs.declared.actions.Answer.TheVariants.{Checked}
use Rattle.art_step.specs.declared.actions.Action.{Action}
use Rattle.art_step.specs.declared.actions.Action.TheVariants.{Check}
use Rattle.art_find.specs.declared.descents.Stage.{Stage}
use Rattle.art_find.proofs.Hearing.{CameTo, heard, looked_on, told_going}
use Rattle.art_find.specs.Driven.{get_done}
use Rattle.art_find.specs.Findings.{Enters, Keeps}
use Rattle.art_find.proofs.findings.Finding.hear_checked.Goals as goal

pub returns : goal.returns
returns g c = record {
  looked = λ z k v w row.
      let m = c.args.self.now in
      let n = c.check_told-on.new.self in
      let asked = Check c.args.stamp in
      let answer = Checked c.args.checked in
      let is = ap (λ (s : Stage). asks s) c.requires.at ∙ c.requires.asked in
      let told = c.check_told-on.ensures in
      let kept = g.K.Sink.kept c.args.sink.now in
      let kept' = g.K.Sink.kept c.enter.new.sink in
      let f = c.enter.new.self in
      let came : CameTo z k asked answer m.descent n v w = record {
        further = λ on. told.steps (told.on ∙ on);
        anew = λ off. told.anew (told.on ∙ off);
        stays = told.stays;
        going = told_going z (get_done k (answer_at m.descent.stage)) m.descent n asked answer v w is (λ x e. cc) row told.stays (λ off. told.anew (told.on ∙ off));
        fits = λ what u before. told.fits z k what u v w asked before is row;
      } in
      let keeps : Keeps answer (asks m.descent.stage) (asks n.stage) n.depth m.above kept f.above kept' =
      subst (λ (o : Option Action). Enters o (asks n.stage) n.depth m.above kept f.above kept') (sym is) c.enter.ensures.enters in
      looked_on z k c.check_told-on.result m f kept kept' v w asked answer is (λ d. row) told.on
      (heard z k c.check_told-on.result m f kept kept' v w asked answer is (λ d. row) n c.enter.ensures.descent came keeps);
}
