use Rattle.art_table_uses.proofs.commands.stepped.Goals as goal

pub step-requires : goal.step-requires
step-requires c = (c.requires.command, c.requires.turns, c.requires.pass, c.requires.runs)

pub returns : goal.returns
returns c =
    let old = c.requires in
    record { command = old.command; turns = old.turns; pass = old.pass; runs = c.step.ensures.goes_on old.command old.turns old.pass old.runs }
