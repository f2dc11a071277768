use Rattle.std.proofs.Common.{◌∙◌, ℕ, List, ap, sym, subst, arith}
use Rattle.art_cell.specs.Reads.{IsPlan, with_child, word_of}
use Rattle.art_cell.specs.Words.{child_of}
use Rattle.art_cell.specs.declared.cells.Layout.TheVariants.{Node256}
use Rattle.art_cell.specs.declared.cells.Write.{Write}
use Rattle.art_node256.specs.Changes.{child_words}
use Rattle.art_node256.proofs.Writes.{child_plan}
use Rattle.art_node256.proofs.kind.Node256NodeKind.plan_set.Goals as goal

pub returns-clause-plan : goal.returns-clause-plan
returns-clause-plan c =
    let w = word_of c.args.body.now in
    let byte = c.args.byte in
    let child = c.args.child in
    let at = c.place_of.ensures in
    let is = c.plan_child.ensures ∙ ap (λ (p : ℕ). child_words (w p) byte child) at in
    subst (λ (xs : List Write). IsPlan Node256 w xs (with_child (child_of Node256 w) byte child)) (sym is)
    (child_plan w byte child (omega arith) c.requires.child (omega arith) c.requires.body.meaning c.requires.there)
