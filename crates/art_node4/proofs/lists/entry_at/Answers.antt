use Rattle.std.proofs.Common.{ℕ, ◌+◌, ◌∙◌, refl, ap, sym, arith}
use Rattle.art_cell.specs.Lemmas.Packed.{packed_is}
use Rattle.art_cell.specs.Reads.{word_of}
use Rattle.art_node4.proofs.NodeWords.{entry_used, entry_unused}
use Rattle.art_node4.proofs.lists.entry_at.Goals as goal

pub returns-then-position-count : goal.returns-then-position-count
returns-then-position-count c =
    let w = word_of c.args.body.now in
    let used = entry_used c.args.sorted w c.args.position c.requires.meaning (omega arith) in
    let byte = c.byte_at.ensures ∙ sym (packed_is w 10 c.args.position _ refl) in
    let child = ap (λ (f : ℕ). w (f + c.args.position)) c.first_child.ensures.value in
    (λ j. record { byte = byte j; child = child j }) ∙ sym used

pub returns-else-position-count : goal.returns-else-position-count
returns-else-position-count c = sym (entry_unused c.args.sorted (word_of c.args.body.now) c.args.position c.requires.meaning (omega arith))
