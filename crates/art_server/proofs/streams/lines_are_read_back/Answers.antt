use Rattle.art_server.proofs.StreamLaws.{lines_of-all}
use Rattle.art_server.proofs.streams.lines_are_read_back.Goals as goal

pub returns : goal.returns
returns c = lines_of-all
