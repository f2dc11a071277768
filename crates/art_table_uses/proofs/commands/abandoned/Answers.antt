use Rattle.std.proofs.lemmas.Result.{IfErr-weaker}
use Rattle.art_table_uses.proofs.commands.abandoned.Goals as goal

pub abandon-requires : goal.abandon-requires
abandon-requires c = (c.requires.command, c.requires.turns, c.requires.pass, c.requires.runs)

pub returns-clause-back : goal.returns-clause-back
returns-clause-back c =
    let old = c.requires in
    IfErr-weaker c.abandon.result _ _ (λ r goes_on. record { command = old.command; turns = old.turns; pass = old.pass; runs = goes_on old.command old.turns old.pass old.runs }) c.abandon.ensures.goes_on
