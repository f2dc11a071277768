use Rattle.art_table_uses.proofs.attempts.stepped.Goals as goal

pub step-requires : goal.step-requires
step-requires c = (c.requires.job, c.requires.turns, c.requires.pass, c.requires.goes)

pub returns : goal.returns
returns c =
    let old = c.requires in
    record { job = old.job; turns = old.turns; pass = old.pass; goes = c.step.ensures.goes_on old.job old.turns old.pass old.goes }
