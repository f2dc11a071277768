use Rattle.art_table_uses.proofs.commands.finished.Goals as goal

pub finish-requires : goal.finish-requires
finish-requires c = (c.requires.command, c.requires.turns, c.requires.pass, c.requires.runs)
