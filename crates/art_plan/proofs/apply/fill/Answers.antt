-- Each word may be written, and then one more is.
use Rattle.std.proofs.Common.{◌≡◌, ℕ, ◌+◌, ◌-◌, ◌<◌, [], sym, ap, ◌∙◌, subst, arith}
use Rattle.std.specs.Prelude.{Some}
use Rattle.art_cell.specs.Words.{size}
use Rattle.art_cell.specs.declared.cells.Cell.{Cell}
use Rattle.art_cell.specs.declared.cells.Cell.TheVariants as cell
use Rattle.art_plan.proofs.Allowed.{may_fill}
use Rattle.art_plan.proofs.Locking.{fill_on}
use Rattle.art_plan.proofs.Told.{fill_fills, fill_so}
use Rattle.art_plan.proofs.Written.{more_writes, one_write}
use Rattle.art_plan.specs.Apply.{IsLocking, at_fill}
use Rattle.art_plan.specs.Changes.{filled_at, targets}
use Rattle.art_plan.specs.Whole.{filled_ends, made_at, made_word}
use Rattle.art_step.specs.Steps.Write as write
use Rattle.art_step.specs.Tokens.{cell_held}
use Rattle.art_step.specs.Views.{IsWordOf, IsHolding}
use Rattle.art_step.specs.WordPlaces.{IsInside}
use Rattle.art_step.specs.declared.views.Holding.{Holding}
use Rattle.art_step.specs.declared.views.Sizes.{Sizes}
use Rattle.art_plan.proofs.apply.fill.Goals as goal

pub write-requires-clause-may : goal.write-requires-clause-may
write-requires-clause-may g c =
    let q = c.requires.fits in
    let i = c.loop-index.invariant in
    let v = g.S.Steps.view c.loop-index.steps in
    let ch = c.args.change.now in
    let above = c.loop-index.auto.index in
    let some = q.1.stage.0 in
    let low : c.loop-index.index < size c.in-Some.node.layout = let is = c.size-size.ensures in let below = c.loop-index-test.true in omega (arith, is, below) in
    let m = may_fill (g.S.Steps.sizes c.args.steps.now) q.0 ch q.1.planned c.args.copy c.loop-index.index (at_fill ch c.args.copy c.loop-index.index) c.in-Some.node v (fill_so ch c.args.copy c.loop-index.index) (sym c.made_at.ensures ∙ c.in-Some.is) (omega (arith, above, some)) low (i.filled (g.S.Steps.sizes c.args.steps.now) q.0 q.1) in
    let held : cell_held c.loop-index.held ≡ cell.Node c.in-Some.node = ap cell_held i.held ∙ c.of-held.ensures in
    (m.holding, m.cell ∙ sym held, m.may)

pub write-requires-clause-inside : goal.write-requires-clause-inside
write-requires-clause-inside g c =
    let q = c.requires.fits in
    let i = c.loop-index.invariant in
    let n = c.in-Some.node in
    let may = q.1.planned.new c.args.copy n (sym c.made_at.ensures ∙ c.in-Some.is) in
    let held : cell_held c.loop-index.held ≡ cell.Node n = ap cell_held i.held ∙ c.of-held.ensures in
    subst (λ (y : Sizes). IsInside y (cell_held c.loop-index.held)) (sym i.sizes)
    (subst (λ (d : Cell). IsInside (g.S.Steps.sizes c.args.steps.now) d) (sym held) may.inside)

pub write-requires-clause-form : goal.write-requires-clause-form
write-requires-clause-form g c =
    let q = c.requires.fits in
    let i = c.loop-index.invariant in
    let z = g.S.Steps.sizes c.args.steps.now in
    let n = c.in-Some.node in
    let may = q.1.planned.new c.args.copy n (sym c.made_at.ensures ∙ c.in-Some.is) in
    let held : cell_held c.loop-index.held ≡ cell.Node n = ap cell_held i.held ∙ c.of-held.ensures in
    subst (λ (y : Sizes). IsWordOf y (cell_held c.loop-index.held) c.loop-index.index c.made_word.result) (sym i.sizes)
    (subst (λ (d : Cell). IsWordOf z d c.loop-index.index c.made_word.result) (sym held)
    (subst (IsWordOf z (cell.Node n) c.loop-index.index) (sym c.made_word.ensures) (may.forms c.loop-index.index)))

pub loop-index-preserved : goal.loop-index-preserved
loop-index-preserved g c =
    let s = c.args.steps.now in
    let t = c.loop-index.steps in
    let q = c.requires.fits in
    let i = c.loop-index.invariant in
    let v = g.S.Steps.view t in
    let w = g.S.Steps.view c.write.new.self in
    let ch = c.args.change.now in
    let n = c.in-Some.node in
    let at = c.loop-index.index in
    let b = c.args.copy in
    let made : made_at b ch ≡ Some n = sym c.made_at.ensures ∙ c.in-Some.is in
    let above = c.loop-index.auto.index in
    let first = q.1.stage.0 in
    let some : 0 < at = omega (arith, above, first) in
    let low : at < size n.layout = let is = c.size-size.ensures in let below = c.loop-index-test.true in omega (arith, is, below) in
    let held : cell_held c.loop-index.held ≡ cell.Node n = ap cell_held i.held ∙ c.of-held.ensures in
    let row : (h : Holding) → IsHolding v (cell.Node n) h → write.Outcome v w h at (made_word b ch at) = λ h k.
    subst (λ (x : ℕ). write.Outcome v w h at x) c.made_word.ensures (c.write.ensures.row h (subst (λ (d : Cell). IsHolding v d h) (sym held) k)) in
    let m = may_fill (g.S.Steps.sizes s) q.0 ch q.1.planned b at (at_fill ch b at) n v (fill_so ch b at) made some low (i.filled (g.S.Steps.sizes s) q.0 q.1) in
    let one = one_write v w m.holding at (made_word b ch at) (row m.holding (m.may.held, m.cell)) in
    record {
      only = g.met.S.Steps.only_then s t c.write.new.self i.only c.write.ensures.only;
      sizes = g.met.S.Steps.only_sizes t c.write.new.self c.write.ensures.only ∙ i.sizes;
      held = c.write.ensures.same ∙ i.held;
      made = more_writes (g.S.Steps.view s) v w (at - c.args.place) 1 (at + 1 - c.args.place) i.made one (omega (arith, above));
      filled = λ z u fits. fill_on z u ch fits.planned b at (at_fill ch b at) (at_fill ch b (at + 1)) (fill_fills ch b at) (fill_so ch b at) n v w made some low (i.filled z u fits) row;
    }

pub returns-clause-filled : goal.returns-clause-filled
returns-clause-filled g c z u fits =
    let ch = c.args.change.now in
    let n = c.in-Some.node in
    let b = c.args.copy in
    let last : filled_ends ch b ≡ size n.layout = ap (filled_at ch) (sym c.made_at.ensures ∙ c.in-Some.is) in
    let is = c.size-size.ensures in
    let within = c.loop-index.auto.index-end in
    let over = c.loop-index-test.false in
    let low = fits.stage.1 in
    subst (λ (k : ℕ). IsLocking u ch (targets ch) [] (at_fill ch b k) (g.S.Steps.view c.loop-index.steps)) (let below = within (omega (arith, last, is, low)) in omega (arith, last, is, over, below))
    (c.loop-index.invariant.filled z u fits)
