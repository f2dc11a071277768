use Rattle.art_find.proofs.read_sets.ReadSet.reread_node.Goals as goal

pub returns-then-self-clause-fits : goal.returns-then-self-clause-fits
returns-then-self-clause-fits c = rw c.if-self.true c.told.ensures.fits

pub returns-else-self-clause-fits : goal.returns-else-self-clause-fits
returns-else-self-clause-fits c = rw c.if-self.false c.told-else-self.ensures.fits

pub returns-then-self-clause-stays : goal.returns-then-self-clause-stays
returns-then-self-clause-stays c = rw c.if-self.true c.told.ensures.stays

pub returns-else-self-clause-stays : goal.returns-else-self-clause-stays
returns-else-self-clause-stays c = rw c.if-self.false c.told-else-self.ensures.stays
