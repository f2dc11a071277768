use Rattle.std.proofs.Common.{◌≡◌, ◌+◌, ◌-◌, subst, sym}
use Rattle.art_cell.specs.Reads.{word_of}
use Rattle.art_cell.specs.Words.{entries}
use Rattle.art_node4.specs.declared.plans.Edit.{Edit}
use Rattle.art_node4.specs.Edits.{CanEdit, edited, rewritten}
use Rattle.art_node4.specs.Sorted.{layout_of}
use Rattle.art_node4.proofs.Edited.{header_added, header_removed}
use Rattle.art_node4.proofs.plans.header_after.Goals as goal

pub returns-in-Add : goal.returns-in-Add
returns-in-Add c =
    let k = layout_of c.args.sorted in
    let w = word_of c.args.body.now in
    let can = subst (λ (e : Edit). CanEdit k e (entries k w)) c.in-Add.is c.requires.can in
    subst (λ (e : Edit). w 1 + 1 ≡ rewritten k w (edited e (entries k w)) 1) (sym c.in-Add.is) (header_added c.args.sorted w _ _ c.requires.body.meaning can)

pub returns-in-Remove : goal.returns-in-Remove
returns-in-Remove c =
    let k = layout_of c.args.sorted in
    let w = word_of c.args.body.now in
    let can = subst (λ (e : Edit). CanEdit k e (entries k w)) c.in-Remove.is c.requires.can in
    subst (λ (e : Edit). w 1 - 1 ≡ rewritten k w (edited e (entries k w)) 1) (sym c.in-Remove.is) (header_removed c.args.sorted w _ c.requires.body.meaning can)
