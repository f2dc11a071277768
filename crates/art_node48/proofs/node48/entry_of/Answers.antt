use Rattle.std.proofs.Common.{◌∙◌, ap, sym}
use Rattle.art_cell.specs.Words.{key_byte}
use Rattle.art_cell.specs.Reads.{word_of}
use Rattle.art_node48.proofs.Index.{key_byte_is}
use Rattle.art_node48.proofs.node48.entry_of.Goals as goal

pub returns : goal.returns
returns c =
    let w = word_of c.args.body.now in
    c.entry_in.ensures ∙ sym (key_byte_is w c.from-byte.result) ∙ ap (key_byte w) c.from-byte.ensures
