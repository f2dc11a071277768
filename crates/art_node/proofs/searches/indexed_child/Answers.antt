use Rattle.art_node.proofs.searches.indexed_child.Goals as goal

pub returns-in-Some-clause-tells : goal.returns-in-Some-clause-tells
returns-in-Some-clause-tells c = (c.in-Some.ensures.0, c.in-Some.ensures.1, λ w body has. c.in-Some.ensures.2 w has)
