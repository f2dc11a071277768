use Rattle.std.proofs.Common.{◌∙◌, sym}
use Rattle.art_node.proofs.LeafWords.{prefix_is_read}
use Rattle.art_node.proofs.words.prefix.Goals as goal

pub returns-clause-prefix : goal.returns-clause-prefix
returns-clause-prefix c =
    prefix_is_read c.args.reads.now c.in_ok-get.field-0 c.read_header-length.result.prefix_length c.key_in.result (sym c.get.ensures ∙ c.in_ok-get.was) c.read_header-length.ensures.prefix c.key_in.ensures
