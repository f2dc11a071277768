use Rattle.std.proofs.Common.{sym, subst}
use Rattle.art_cell.specs.declared.cells.Layout.{Layout}
use Rattle.art_cell.specs.declared.cells.Layout.TheVariants.{Node48}
use Rattle.art_node4.specs.declared.layouts.Sorted.TheVariants.{Four, Sixteen}
use Rattle.art_node.specs.Searches.{IsNextWord, SoughtTells}
use Rattle.art_node.proofs.SoughtWords.{tells_fewer, tells_next, next_has_word}
use Rattle.art_node.proofs.searches.next_word.Goals as goal

pub returns-in-Node4-clause-tells : goal.returns-in-Node4-clause-tells
returns-in-Node4-clause-tells c =
    tells_next Four c.args.layout c.args.byte c.args.header c.args.number c.args.word c.sorted_child.result c.in-Node4.is c.sorted_child.ensures.tells

pub returns-in-Node16-clause-tells : goal.returns-in-Node16-clause-tells
returns-in-Node16-clause-tells c =
    tells_next Sixteen c.args.layout c.args.byte c.args.header c.args.number c.args.word c.sorted_child-in-Node16.result c.in-Node16.is
    c.sorted_child-in-Node16.ensures.tells

pub returns-in-Node48-clause-tells : goal.returns-in-Node48-clause-tells
returns-in-Node48-clause-tells c =
    subst (λ (k : Layout). SoughtTells k c.args.byte (IsNextWord k c.args.byte c.args.header c.args.number c.args.word) c.indexed_child.result)
    (sym c.in-Node48.is)
    (tells_fewer Node48 c.args.byte _ _ c.indexed_child.result (next_has_word c.args.byte c.args.header c.args.number c.args.word)
    c.indexed_child.ensures.tells)

pub returns-in-Node48-clause-later : goal.returns-in-Node48-clause-later
returns-in-Node48-clause-later c = c.indexed_child.ensures.later c.args.number
