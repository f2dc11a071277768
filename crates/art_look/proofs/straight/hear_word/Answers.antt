use Rattle.std.proofs.Common.{◌∙◌, true, refl, ap, arith}
use Rattle.art_step.specs.declared.actions.Answer.TheVariants.{Word}
use Rattle.art_look.specs.Looks.{asks, deed_at}
use Rattle.art_look.specs.declared.looks.LookStage.{LookStage}
use Rattle.art_look.proofs.Going.{asks_look, has_gone}
use Rattle.art_look.proofs.straight.hear_word.Goals as goal

pub read_at-requires-clause-fits : goal.read_at-requires-clause-fits
read_at-requires-clause-fits c =
    let q = c.requires.looks in
    (q.0, q.2.0, q.2.1, q.1, q.2.2.fits)

pub returns : goal.returns
returns c = record {
  gone = λ z v w asked wants row.
      let m = c.args.look.now in
      let t = c.args.path_buffer.now in
      let lo = c.args.lo.now in
      let e = c.read_at.ensures in
      let is = ap (λ (s : LookStage). asks s) c.requires.at ∙ wants in
      has_gone z lo v w m c.read_at.new.self t c.read_at.new.path_buffer asked (Word c.args.word) true refl row (asks_look m.stage asked is) c.args.tally.now _ e.going (λ on. e.steps) e.least
      (λ hi u fits. e.fits z hi u v w asked fits is (row (deed_at lo hi t m.stage))) (omega (arith, c.requires.turn.some)) refl;
}
