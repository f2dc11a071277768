-- A look that settles the answer tells the event of the walk; any other step needs no effects.
use Rattle.std.proofs.Common.{◌∙◌, Some, inl, inr, sym, ap, subst}
use Rattle.art_find.proofs.Looks.{allowed_look}
use Rattle.art_find.specs.Findings.{IsToSettle}
use Rattle.art_step.specs.Acting.{IsAllowed, telling, tells}
use Rattle.art_step.specs.declared.actions.Action.{Action}
use Rattle.art_step.specs.declared.actions.Action.TheVariants.{Settle}
use Rattle.art_step.specs.declared.actions.Effects.{Effects}
use Rattle.art_look.proofs.Walking.{may_settle}
use Rattle.art_look.proofs.driver.make.Goals as goal
use Rattle.art_look.specs.Asking.{MaySeek}
use Rattle.art_look.specs.Walks.{Settles, deed_at}

pub perform-requires-clause-allowed : goal.perform-requires-clause-allowed
perform-requires-clause-allowed g c =
    let z = g.S.Steps.sizes c.args.steps.now in
    let v = g.S.Steps.view c.args.steps.now in
    let k = c.args.key.now in
    let hi = c.args.hi.now in
    let t = c.args.path_buffer.now in
    let w = c.args.walk.now in
    let x = c.in-Settle.stamp in
    let asked = c.requires.asked (subst IsToSettle (sym c.in-Settle.is) tt) ∙ ap (λ (a : Action). Some a) c.in-Settle.is in
    let tells_so : IsAllowed z (telling (deed_at w k hi t)) v (Settle x) = elim (subst (MaySeek z (Settles w k t) v) c.in-Settle.is c.requires.allowed) [
      | inl look ↦ (look.0, may_settle z k hi t v w x asked look.1)
      | inr none ↦ absurd none.1
    ] in
    let same = c.telling-effects.ensures ∙ ap tells c.deed.ensures in
    subst (λ (e : Effects). IsAllowed z (Some e) v c.args.action) (sym same) (subst (λ (a : Action). IsAllowed z (telling (deed_at w k hi t)) v a) (sym c.in-Settle.is) tells_so)

pub perform-requires-in_default-clause-allowed : goal.perform-requires-in_default-clause-allowed
perform-requires-in_default-clause-allowed g c =
    let z = g.S.Steps.sizes c.args.steps.now in
    let v = g.S.Steps.view c.args.steps.now in
    let so = Settles c.args.walk.now c.args.key.now c.args.path_buffer.now in
    elim c.requires.allowed [
      | inl look ↦ allowed_look z v so c.args.action c.in_default.not-Settle look
      | inr all ↦ all.1
    ]
