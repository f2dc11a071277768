use Rattle.art_table_uses.proofs.commands.begun.Goals as goal

pub returns : goal.returns
returns c = record { command = c.args.command; turns = 1000; pass = c.args.pass; runs = c.start_command.ensures.running }
