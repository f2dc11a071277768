use Rattle.std.proofs.Common.{rules, ◌≡◌, ◌+◌, ◌∙◌, ℕ, List, subst, ap, sym, arith}
use Rattle.art_cell.specs.declared.cells.Write.{Write}
use Rattle.art_cell.specs.Reads.{IsPlan, with_child, word_of}
use Rattle.art_cell.specs.Words.{child_of}
use Rattle.art_node4.specs.Edits.{changed}
use Rattle.art_node4.specs.Sorted.{layout_of}
use Rattle.art_node4.proofs.Planned.{set_plan}
use Rattle.art_node4.proofs.plans.plan_set.Goals as goal

pub returns-clause-plan : goal.returns-clause-plan
returns-clause-plan c =
    let k = layout_of c.args.sorted in
    let w = word_of c.args.body.now in
    let at = c.position.result in
    let is : c.push_changed.new.writes.items ≡ changed w (c.first_child.result + at) c.args.child = search rules in
    subst (λ (xs : List Write). IsPlan k w xs (with_child (child_of k w) c.args.byte c.args.child)) (sym (is ∙ ap (λ (f : ℕ). changed w (f + at) c.args.child) c.first_child.ensures.value))
    (set_plan c.args.sorted w at c.args.byte c.requires.body.meaning (omega arith) c.position.ensures c.requires.there c.args.child c.ranges.child.fits c.requires.child)
