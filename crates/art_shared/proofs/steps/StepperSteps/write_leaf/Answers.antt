-- The words of the one leaf in hand are written.
use Rattle.std.proofs.Common.{◌≡◌, ◌+◌, ◌<◌, ◌∙◌, ℕ, ap, sym, subst}
use Rattle.art_cell.specs.declared.cells.Link.TheVariants.{Leaf as leaf}
use Rattle.art_cell.specs.declared.cells.Cell.TheVariants as cell
use Rattle.art_step.specs.Steps.Write as write
use Rattle.art_step.specs.Views.{IsWordOf}
use Rattle.art_step.specs.Tokens.{link_of_number}
use Rattle.art_shared.specs.Stepper.{basis_of, known_by, sizes_of, view_of}
use Rattle.art_shared.proofs.CellTurns.{turns_write_leaf}
use Rattle.art_shared.proofs.steps.StepperSteps.write_leaf.Goals as goal

pub store-requires-clause-may : goal.store-requires-clause-may
store-requires-clause-may c =
    let s = c.args.self.now in
    let o = c.requires.inside in
    let l : ℕ = c.in-Leaf.leaf in
    let named : leaf o.0 ≡ leaf l = sym o.2 ∙ (sym c.link.ensures ∙ c.in-Leaf.is) in
    let same : o.0 ≡ l = cc in
    let may : (l < (sizes_of s).leaves) × write.MayLeaf (view_of s) o.1 l c.args.place × IsWordOf (sizes_of s) (cell.Leaf l) c.args.place c.args.value =
    subst (λ (a : ℕ). (a < (sizes_of s).leaves) × write.MayLeaf (view_of s) o.1 a c.args.place × IsWordOf (sizes_of s) (cell.Leaf a) c.args.place c.args.value) same (o.3, o.4, o.5) in
    turns_write_leaf (basis_of s) (known_by s) o.1 l c.args.place c.args.value _ (c.word_at-at.ensures ∙ ap (λ (n : ℕ). n + c.args.place) c.place_of-first.ensures) may.0 may.1 may.2

pub returns-clause-row : goal.returns-clause-row
returns-clause-row c y held =
    let named : link_of_number c.args.number.now ≡ leaf c.in-Leaf.leaf = sym c.link.ensures ∙ c.in-Leaf.is in
    c.store.ensures.turn.row y (rw (sym named) held)

pub returns-clause-at_once : goal.returns-clause-at_once
returns-clause-at_once c l is =
    let named : leaf c.in-Leaf.leaf ≡ leaf l = sym c.in-Leaf.is ∙ c.link.ensures ∙ is in
    let same : c.in-Leaf.leaf ≡ l = cc in
    rw (sym same) c.store.ensures.turn.made
