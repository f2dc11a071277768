use Rattle.std.proofs.Common.{◌≡◌, ◌∙◌, Some, subst}
use Rattle.art_step.specs.Acting.{Answers, telling}
use Rattle.art_find.specs.Driven.{get_done}
use Rattle.art_look.proofs.Walking.{key_on, range_on}
use Rattle.art_look.proofs.walks.Walk.told.Goals as goal
use Rattle.art_look.specs.Walks.{Fits, asks, deed_at}
use Rattle.art_look.specs.declared.walks.Walk.{Walk as WalkOf}

pub returns-in-Key-clause-fits : goal.returns-in-Key-clause-fits
returns-in-Key-clause-fits c z hi u v w n asked fits is row =
    let k = c.args.key.now in
    let t = c.args.path_buffer.now in
    let f = subst (λ (a : WalkOf). Fits z k hi u a t n v) c.in-Key.is fits in
    let i = subst (λ (a : WalkOf). asks a ≡ Some asked) c.in-Key.is is in
    let r = subst (λ (a : WalkOf). Answers z (telling (deed_at a k hi t)) asked c.args.answer v w) c.in-Key.is row in
    key_on z k u v w n asked c.args.answer c.in-Key.descent c.told.new.self c.requires.short i r (λ on. c.told.ensures.steps (c.told.ensures.on ∙ on))
    (c.told.ensures.fits z (get_done k) u v w asked f.fits i r) f

pub returns-in-Range-clause-fits : goal.returns-in-Range-clause-fits
returns-in-Range-clause-fits c z hi u v w n asked fits is row =
    let k = c.args.key.now in
    let t = c.args.path_buffer.now in
    let f = subst (λ (a : WalkOf). Fits z k hi u a t n v) c.in-Range.is fits in
    let i = subst (λ (a : WalkOf). asks a ≡ Some asked) c.in-Range.is is in
    let r = subst (λ (a : WalkOf). Answers z (telling (deed_at a k hi t)) asked c.args.answer v w) c.in-Range.is row in
    range_on z k u v w n asked c.args.answer hi c.in-Range.look c.told-in-Range.new.self t c.told-in-Range.new.path_buffer i r (λ on. c.told-in-Range.ensures.steps (c.told-in-Range.ensures.on ∙ on))
    (c.told-in-Range.ensures.fits z hi u v w asked f.fits i r) c.told-in-Range.ensures.least f
