use Rattle.std.proofs.Common.{◌∙◌, ap, sym, arith}
use Rattle.std.specs.Option.{option_map}
use Rattle.art_node.proofs.LeafWords.{leaf_read_is, leaf_is_read}
use Rattle.art_node.proofs.words.unpack.Goals as goal

pub returns-clause-leaf : goal.returns-clause-leaf
returns-clause-leaf c = λ w agrees.
    let read =
    leaf_read_is c.args.reads.now c.in_ok-value.value c.in_ok-length.length c.in_ok-key_in.field-0.items
    (sym c.get.ensures ∙ c.in_ok-value.was) (sym c.get-2.ensures ∙ c.in_ok-length.was) (omega (arith, c.if-length-gt-KEY_BYTES.false))
    (sym c.key_in.ensures ∙ ap (option_map (λ key. key.items)) c.in_ok-key_in.was) in
    leaf_is_read c.args.reads.now w (c.in_ok-key_in.field-0.items, c.in_ok-value.value) agrees read
