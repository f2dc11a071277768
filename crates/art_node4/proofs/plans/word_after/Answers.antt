use Rattle.std.proofs.Common.{◌∙◌, ℕ, ◌-◌, ap, sym, arith}
use Rattle.art_cell.specs.Reads.{word_of}
use Rattle.art_cell.specs.declared.node_kinds.Entry.{Entry}
use Rattle.art_node4.specs.Edits.{children_after}
use Rattle.art_node4.specs.Sorted.{entry_or_none}
use Rattle.art_node4.proofs.Edited.{at_keys, at_children}
use Rattle.art_node4.proofs.plans.word_after.Goals as goal

pub returns-then-place-first_child : goal.returns-then-place-first_child
returns-then-place-first_child c =
    c.key_word_after.ensures ∙ sym (at_keys c.args.sorted (word_of c.args.body.now) (children_after c.args.sorted c.args.body.now c.args.edit) c.args.place (omega arith) (omega arith))

pub returns-else-place-first_child : goal.returns-else-place-first_child
returns-else-place-first_child c =
    let xs = children_after c.args.sorted c.args.body.now c.args.edit in
    ap (λ (e : Entry). e.child) c.entry_after.ensures
    ∙ ap (λ (f : ℕ). (entry_or_none xs (c.args.place - f)).child) c.first_child-first_child.ensures.value
    ∙ sym (at_children c.args.sorted (word_of c.args.body.now) xs c.args.place (omega arith) c.requires.within)
