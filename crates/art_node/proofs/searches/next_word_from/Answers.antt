use Rattle.std.proofs.Common.{sym, subst}
use Rattle.art_cell.specs.declared.cells.Layout.{Layout}
use Rattle.art_cell.specs.declared.cells.Layout.TheVariants.{Node48}
use Rattle.art_node4.specs.declared.layouts.Sorted.TheVariants.{Four, Sixteen}
use Rattle.art_node.specs.Searches.{IsNextWordFrom, SoughtFromTells}
use Rattle.art_node.proofs.SoughtWords.{tells_fewer_from, tells_next_from, next_has_word_from}
use Rattle.art_node.proofs.searches.next_word_from.Goals as goal

pub returns-in-Node4-clause-tells : goal.returns-in-Node4-clause-tells
returns-in-Node4-clause-tells c =
    tells_next_from Four c.args.layout c.args.low c.args.header c.args.number c.args.word c.sorted_child_from.result c.in-Node4.is c.sorted_child_from.ensures.tells

pub returns-in-Node16-clause-tells : goal.returns-in-Node16-clause-tells
returns-in-Node16-clause-tells c =
    tells_next_from Sixteen c.args.layout c.args.low c.args.header c.args.number c.args.word c.sorted_child_from-in-Node16.result c.in-Node16.is
    c.sorted_child_from-in-Node16.ensures.tells

pub returns-in-Node48-clause-tells : goal.returns-in-Node48-clause-tells
returns-in-Node48-clause-tells c =
    subst (λ (k : Layout). SoughtFromTells k c.args.low (IsNextWordFrom k c.args.low c.args.header c.args.number c.args.word) c.indexed_child_from.result)
    (sym c.in-Node48.is)
    (tells_fewer_from Node48 c.args.low _ _ c.indexed_child_from.result (next_has_word_from c.args.low c.args.header c.args.number c.args.word)
    c.indexed_child_from.ensures.tells)
