use Rattle.art_table.proofs.jobs.result_of.Goals as goal

pub returns-in-Busy : goal.returns-in-Busy
returns-in-Busy c = rw c.in-Busy.is
