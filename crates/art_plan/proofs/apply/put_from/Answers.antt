-- Each word may be put, and then one more is.
use Rattle.std.proofs.Common.{◌≡◌, ◌+◌, ◌-◌, List, sym, ◌∙◌, subst, arith}
use Rattle.std.proofs.lemmas.List.{take_all}
use Rattle.std.specs.Prelude.{Some}
use Rattle.art_cell.specs.declared.cells.Cell.{Cell}
use Rattle.art_plan.proofs.Allowed.{may_write}
use Rattle.art_plan.proofs.Locking.{write_on}
use Rattle.art_plan.proofs.Told.{put_target}
use Rattle.art_plan.proofs.Written.{more_writes, one_write}
use Rattle.art_plan.specs.Apply.{IsLocking}
use Rattle.art_plan.specs.Changes.{put_at, target_at, targets}
use Rattle.art_plan.specs.Whole.{filled_ends}
use Rattle.art_plan.specs.declared.changes.Put.{Put}
use Rattle.art_step.specs.Steps.Write as write
use Rattle.art_step.specs.Tokens.{cell_held}
use Rattle.art_step.specs.Views.{IsWordOf, IsHolding}
use Rattle.art_step.specs.declared.views.Holding.{Holding}
use Rattle.art_step.specs.declared.views.Sizes.{Sizes}
use Rattle.art_plan.proofs.apply.put_from.Goals as goal

pub unreachable-requires-in_default-target : goal.unreachable-requires-in_default-target
unreachable-requires-in_default-target g c =
    let q = c.requires.planned in
    let k = put_target (g.S.Steps.sizes c.args.steps.now) q.0 c.args.change.now q.1 c.loop-index.index c.in-Some.put (sym c.put.ensures ∙ c.in-Some.is) in
    c.in_default-target.not-Some k.0 (c.target.ensures ∙ k.1)

pub write-requires-clause-may : goal.write-requires-clause-may
write-requires-clause-may g c =
    let z = g.S.Steps.sizes c.args.steps.now in
    let q = c.requires.planned in
    let ch = c.args.change.now in
    let m = may_write z q.0 ch q.1 c.loop-index.index (filled_ends ch) c.in-Some.put c.in-Some-target.target (g.S.Steps.view c.loop-index.steps)
    (sym c.put.ensures ∙ c.in-Some.is) (sym c.target.ensures ∙ c.in-Some-target.is) (c.loop-index.invariant.put z q.0 q.1 q.2) in
    (m.holding, m.cell ∙ sym c.of-held.ensures, m.may)

pub write-requires-clause-form : goal.write-requires-clause-form
write-requires-clause-form g c =
    let z = g.S.Steps.sizes c.args.steps.now in
    let q = c.requires.planned in
    let ch = c.args.change.now in
    let p = c.in-Some.put in
    let i = c.loop-index.invariant in
    let m = may_write z q.0 ch q.1 c.loop-index.index (filled_ends ch) p c.in-Some-target.target (g.S.Steps.view c.loop-index.steps)
    (sym c.put.ensures ∙ c.in-Some.is) (sym c.target.ensures ∙ c.in-Some-target.is) (i.put z q.0 q.1 q.2) in
    subst (λ (y : Sizes). IsWordOf y (cell_held c.of-held.result) p.place p.value) (sym i.sizes)
    (subst (λ (d : Cell). IsWordOf z d p.place p.value) (sym c.of-held.ensures) m.form)

pub loop-index-preserved : goal.loop-index-preserved
loop-index-preserved g c =
    let s = c.args.steps.now in
    let t = c.loop-index.steps in
    let z = g.S.Steps.sizes s in
    let q = c.requires.planned in
    let i = c.loop-index.invariant in
    let v = g.S.Steps.view t in
    let w = g.S.Steps.view c.write.new.self in
    let ch = c.args.change.now in
    let j = c.loop-index.index in
    let p = c.in-Some.put in
    let x = c.in-Some-target.target in
    let at : put_at ch j ≡ Some p = sym c.put.ensures ∙ c.in-Some.is in
    let is : target_at ch p.target ≡ Some x = sym c.target.ensures ∙ c.in-Some-target.is in
    let row : (h : Holding) → IsHolding v x.stamp.cell h → write.Outcome v w h p.place p.value = λ h k.
    c.write.ensures.row h (subst (λ (d : Cell). IsHolding v d h) (sym c.of-held.ensures) k) in
    let m = may_write z q.0 ch q.1 j (filled_ends ch) p x v at is (i.put z q.0 q.1 q.2) in
    let one = one_write v w m.holding p.place p.value (row m.holding (m.may.held, m.cell)) in
    let above = c.loop-index.auto.index in
    record {
      only = g.met.S.Steps.only_then s t c.write.new.self i.only c.write.ensures.only;
      sizes = g.met.S.Steps.only_sizes t c.write.new.self c.write.ensures.only ∙ i.sizes;
      made = more_writes (g.S.Steps.view s) v w (j - c.args.from) 1 (j + 1 - c.args.from) i.made one (omega (arith, above));
      put = λ y u planned was. write_on y u ch planned j (filled_ends ch) p x v w at is (i.put y u planned was) row;
    }

pub returns-clause-put : goal.returns-clause-put
returns-clause-put g c z u planned was =
    let ch = c.args.change.now in
    let count = c.len-count.ensures.value in
    let over = c.loop-index-test.false in
    subst (λ (ps : List Put). IsLocking u ch (targets ch) ps (filled_ends ch) (g.S.Steps.view c.loop-index.steps)) (take_all c.loop-index.index ch.puts.items (omega (arith, count, over)))
    (c.loop-index.invariant.put z u planned was)
