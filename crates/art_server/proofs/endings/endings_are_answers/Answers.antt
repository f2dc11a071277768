use Rattle.art_server.proofs.EndingLaws.{reply_answers}
use Rattle.art_server.proofs.endings.endings_are_answers.Goals as goal

pub returns : goal.returns
returns c = λ t command turns p rows ending q ends. reply_answers t turns p rows q command ending ends
