use Rattle.std.proofs.Common.{◌≡◌, ℕ, ◌-◌, ◌∙◌, ap, subst, sym, arith}
use Rattle.std.proofs.lemmas.List.Edits.{get_or-insert_above, get_or-remove_above}
use Rattle.std.specs.List.{insert}
use Rattle.art_cell.specs.Reads.{word_of}
use Rattle.art_cell.specs.Words.{entries}
use Rattle.art_node4.specs.declared.plans.Edit.{Edit}
use Rattle.art_node4.specs.Edits.{CanEdit, edited}
use Rattle.art_node4.specs.Sorted.{entry_or_none, layout_of, no_entry}
use Rattle.art_node4.proofs.plans.entry_after.Goals as goal

pub returns-in-Add-2 : goal.returns-in-Add-2
returns-in-Add-2 c =
    let k = layout_of c.args.sorted in
    let xs = entries k (word_of c.args.body.now) in
    let can = subst (λ (e : Edit). CanEdit k e xs) c.in-Add-2.is c.requires.edit.can in
    subst (λ (e : Edit). c.entry_at.result ≡ entry_or_none (edited e xs) c.args.position) (sym c.in-Add-2.is) (
    c.entry_at.ensures
    ∙ sym (get_or-insert_above xs c.in-Add-2.at c.in-Add-2.entry no_entry (c.args.position - 1) (omega arith) can.0)
    ∙ ap (λ (n : ℕ). entry_or_none (insert xs c.in-Add-2.at c.in-Add-2.entry) n) (omega arith)
    )

pub returns-in-Remove : goal.returns-in-Remove
returns-in-Remove c =
    let k = layout_of c.args.sorted in
    let xs = entries k (word_of c.args.body.now) in
    let can = subst (λ (e : Edit). CanEdit k e xs) c.in-Remove.is c.requires.edit.can in
    subst (λ (e : Edit). c.entry_at-in-Remove.result ≡ entry_or_none (edited e xs) c.args.position) (sym c.in-Remove.is) (
    c.entry_at-in-Remove.ensures ∙ sym (get_or-remove_above xs c.in-Remove.at no_entry c.args.position (omega arith) can.0)
    )
