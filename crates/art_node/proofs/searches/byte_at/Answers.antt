use Rattle.art_node.proofs.SoughtWords.{shifted_byte}
use Rattle.art_node.proofs.searches.byte_at.Goals as goal

pub returns : goal.returns
returns c = shifted_byte c.args.word c.args.index c.requires
