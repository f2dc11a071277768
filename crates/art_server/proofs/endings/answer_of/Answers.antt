use Rattle.art_server.proofs.endings.answer_of.Goals as goal

pub returns-in-Found : goal.returns-in-Found
returns-in-Found c = rw c.in-Found.is
