use Rattle.art_node.proofs.Copies.{true_from}
use Rattle.art_plan.proofs.insert.with_more.Goals as goal

pub returns-clause-more : goal.returns-clause-more
returns-clause-more g c = c.add.ensures.added (true_from c.add.result (λ refused. c.requires.room (c.add.ensures.full.0 refused)))
