use Rattle.std.proofs.Common.{◌∙◌, Option, true, refl, sym, ap, subst}
use Rattle.art_find.specs.Descents.{asks}
use Rattle.art_step.specs.declared.actions.Answer.TheVariants.{Word}
use Rattle.art_step.specs.declared.actions.Action.{Action}
use Rattle.art_step.specs.declared.actions.Action.TheVariants.{Read}
use Rattle.art_find.specs.declared.descents.Stage.{Stage}
use Rattle.art_find.proofs.Hearing.{heard, looked_on, word_came}
use Rattle.art_find.specs.Findings.{IsHeard}
use Rattle.art_find.specs.declared.findings.Finding.{Finding}
use Rattle.art_find.proofs.findings.Finding.hear_word.Goals as goal

pub read_at-requires-clause-fits : goal.read_at-requires-clause-fits
read_at-requires-clause-fits g c =
    let q = c.requires.fits in
    (q.0, q.1, q.2, q.3, q.4.descent)

pub returns : goal.returns
returns g c = record {
  looked = λ z v w row.
      let k = c.args.key.now in
      let m = c.args.self.now in
      let n = c.read_at.new.self in
      let e = c.read_at.ensures in
      let next : Finding = record m { descent = n } in
      let asked = Read c.args.stamp c.args.place in
      let word = c.args.word in
      let is = ap (λ (s : Stage). asks s) c.requires.at ∙ c.requires.asked in
      let came = word_came z k v w m.descent n asked word is (λ d. row) e.steps e.stays e.going e.fits in
      let kept : IsHeard (asks m.descent.stage) word (g.K.Sink.kept c.args.sink.now) (g.K.Sink.kept c.note.new.self) = subst (λ (o : Option Action). IsHeard o word (g.K.Sink.kept c.args.sink.now) (g.K.Sink.kept c.note.new.self)) (sym is)
      (record { node = c.note.ensures.node; above = c.note.ensures.above }) in
      looked_on z k true m next (g.K.Sink.kept c.args.sink.now) (g.K.Sink.kept c.note.new.self) v w asked (Word word) is (λ d. row) refl
      (heard z k true m next (g.K.Sink.kept c.args.sink.now) (g.K.Sink.kept c.note.new.self) v w asked (Word word) is (λ d. row) n refl came (refl, kept));
}
