use Rattle.std.proofs.Common.{get_or, arith}
use Rattle.art_cell.specs.declared.cells.Layout.TheVariants.{Node4}
use Rattle.art_cell.specs.Lemmas.Empty.{cleared, cleared_body, no_child}
use Rattle.art_node.proofs.words.bare.Goals as goal

pub returns-clause-body : goal.returns-clause-body
returns-clause-body c = cleared_body Node4 (λ p. get_or c.clear.new.words p 0) c.clear.ensures.fits (λ p low. c.clear.ensures.here p (omega arith) (omega arith))

pub returns-clause-none : goal.returns-clause-none
returns-clause-none c b low =
    no_child Node4 (λ p. 0) (λ p. get_or c.clear.new.words p 0) b low (cleared Node4 (λ p. get_or c.clear.new.words p 0) c.clear.ensures.fits (λ p within. c.clear.ensures.here p (omega arith) (omega arith)))
