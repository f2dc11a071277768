use Rattle.art_table.proofs.calls.inserted_of.Goals as goal

pub returns-in-Present : goal.returns-in-Present
returns-in-Present c = λ schema. rw c.in-Present.is
