use Rattle.std.proofs.Common.{◌∙◌, sym, ap, subst}
use Rattle.std.specs.Prelude.{None}
use Rattle.art_step.proofs.AnswerKinds.{answers_plain}
use Rattle.art_step.specs.Acting.{telling}
use Rattle.art_look.proofs.Parts.{pin_step}
use Rattle.art_look.proofs.seeks.Seek.told.Goals as goal
use Rattle.art_look.specs.Seeks.{StageFits, asks_at}
use Rattle.art_look.specs.Walks.{deed_at}
use Rattle.art_look.specs.declared.seeks.SeekStage.{SeekStage as StageOf}

pub pin_told-requires-clause-told : goal.pin_told-requires-clause-told
pin_told-requires-clause-told c =
    let m = c.args.self.now in
    let k = c.args.key.now in
    let t = c.args.path_buffer.now in
    let q = c.requires.told in
    let stage = subst (λ (s : StageOf). StageFits q.0 k q.1 q.2 s m t q.3) c.in-Pinning.is q.6 in
    let at = sym (ap (λ (s : StageOf). asks_at s m) c.in-Pinning.is) ∙ q.7 in
    (q.0, q.2, q.3, q.4, q.5, stage.pinning, at, answers_plain q.0 (telling (deed_at m.walk k q.1 t)) None q.5 c.args.answer q.3 q.4 (pin_step m.pinning q.5 at).plain q.8)

pub walk_told-requires-clause-told : goal.walk_told-requires-clause-told
walk_told-requires-clause-told c =
    let m = c.args.self.now in
    let k = c.args.key.now in
    let t = c.args.path_buffer.now in
    let q = c.requires.told in
    let stage = subst (λ (s : StageOf). StageFits q.0 k q.1 q.2 s m t q.3) c.in-Walking.is q.6 in
    let at = sym (ap (λ (s : StageOf). asks_at s m) c.in-Walking.is) ∙ q.7 in
    (q.0, q.1, q.2, q.3, q.4, q.5, stage.walking, at, q.8)

pub returns-in-Pinning-clause-fits : goal.returns-in-Pinning-clause-fits
returns-in-Pinning-clause-fits c z hi u v w asked fits is row =
    let m = c.args.self.now in
    let k = c.args.key.now in
    let t = c.args.path_buffer.now in
    let stage = subst (λ (s : StageOf). StageFits z k hi u s m t v) c.in-Pinning.is fits in
    let at = sym (ap (λ (s : StageOf). asks_at s m) c.in-Pinning.is) ∙ is in
    c.pin_told.ensures.fits z k hi u v w t asked stage at (answers_plain z (telling (deed_at m.walk k hi t)) None asked c.args.answer v w (pin_step m.pinning asked at).plain row)

pub returns-in-Walking-clause-fits : goal.returns-in-Walking-clause-fits
returns-in-Walking-clause-fits c z hi u v w asked fits is row =
    let m = c.args.self.now in
    let k = c.args.key.now in
    let t = c.args.path_buffer.now in
    let stage = subst (λ (s : StageOf). StageFits z k hi u s m t v) c.in-Walking.is fits in
    let at = sym (ap (λ (s : StageOf). asks_at s m) c.in-Walking.is) ∙ is in
    c.walk_told.ensures.fits z hi u v w asked stage.walking at row
