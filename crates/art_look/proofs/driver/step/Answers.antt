use Rattle.std.proofs.Common.{◌∙◌, sym, ap, subst}
use Rattle.std.specs.Prelude.{IfSome, Option}
use Rattle.art_step.specs.Acting.{Answers, telling}
use Rattle.art_step.specs.declared.actions.Action.{Action}
use Rattle.art_look.specs.declared.walks.Walk.{Walk}
use Rattle.art_look.proofs.Parts.{counts_at}
use Rattle.art_look.proofs.Told.{seek_adds}
use Rattle.art_look.proofs.driver.step.Goals as goal
use Rattle.art_look.specs.Asking.{MaySeek, is_counted, told_by}
use Rattle.art_look.specs.Walks.{Settles, deed_at}
use Rattle.art_look.specs.declared.driver.Stepped.{Stepped}
use Rattle.art_step.specs.Events.{SeesEvent}

pub returns-clause-one : goal.returns-clause-one
returns-clause-one g c =
    let z = g.S.Steps.sizes c.args.steps.now in
    let v = g.S.Steps.view c.args.steps.now in
    let w = g.S.Steps.view c.make-answer.new.steps in
    let m = c.args.seek.now in
    let so = Settles m.walk c.args.key.now c.args.path_buffer.now in
    let may = subst (λ (o : Option Action). IfSome o (MaySeek z so v)) c.in-Some.is (c.next.ensures.allowed z c.args.key.now c.args.hi.now c.requires.fits.0 v c.args.path_buffer.now c.requires.fits.1) in
    (seek_adds z so (deed_at m.walk c.args.key.now c.args.hi.now c.args.path_buffer.now) c.make-answer.result v w m.stage m c.in-Some.action (sym c.next.ensures.asks ∙ c.in-Some.is) may (subst (λ (x : Walk). Answers z (telling (deed_at x c.args.key.now c.args.hi.now c.args.path_buffer.now)) c.in-Some.action c.make-answer.result v w) c.walk.ensures c.make-answer.ensures.row)).0

pub returns-clause-counted : goal.returns-clause-counted
returns-clause-counted g c =
    let m = c.args.seek.now in
    ap is_counted c.kind_of.ensures ∙ counts_at m.stage m c.in-Some.action c.make-answer.result (sym c.next.ensures.asks ∙ c.in-Some.is)

pub returns-clause-tells : goal.returns-clause-tells
returns-clause-tells g c =
    let z = g.S.Steps.sizes c.args.steps.now in
    let v = g.S.Steps.view c.args.steps.now in
    let w = g.S.Steps.view c.make-answer.new.steps in
    let m = c.args.seek.now in
    let d = deed_at m.walk c.args.key.now c.args.hi.now c.args.path_buffer.now in
    let so = Settles m.walk c.args.key.now c.args.path_buffer.now in
    let may = subst (λ (o : Option Action). IfSome o (MaySeek z so v)) c.in-Some.is (c.next.ensures.allowed z c.args.key.now c.args.hi.now c.requires.fits.0 v c.args.path_buffer.now c.requires.fits.1) in
    subst (λ (s : Stepped). SeesEvent v w (told_by s d)) (sym c.kind_of.ensures)
    (seek_adds z so d c.make-answer.result v w m.stage m c.in-Some.action (sym c.next.ensures.asks ∙ c.in-Some.is) may (subst (λ (x : Walk). Answers z (telling (deed_at x c.args.key.now c.args.hi.now c.args.path_buffer.now)) c.in-Some.action c.make-answer.result v w) c.walk.ensures c.make-answer.ensures.row)).1
