use Rattle.art_step.proofs.numbers.spent.Goals as goal

pub returns : goal.returns
returns c = rw (c.in_ok-number.was, c.spend.ensures)
