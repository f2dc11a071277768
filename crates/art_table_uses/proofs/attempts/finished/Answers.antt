use Rattle.art_table_uses.proofs.attempts.finished.Goals as goal

pub finish-requires : goal.finish-requires
finish-requires c = (c.requires.job, c.requires.turns, c.requires.pass, c.requires.goes)

pub returns : goal.returns
returns c = c.finish.ensures.pass
