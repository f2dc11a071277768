use Rattle.std.proofs.Common.{ℕ, ap, ◌∙◌, arith, below_more, get_or-set_other, get_or-set_same}
use Rattle.art_cell.specs.Words.{byte_of}
use Rattle.art_cell.specs.Lemmas.Packed.{eight-set, byte_of-from_be_bytes}
use Rattle.art_node4.proofs.Writing.{eight_zeros}
use Rattle.art_node4.proofs.plans.key_word.Goals as goal

pub loop-index-init : goal.loop-index-init
loop-index-init c = record { eight = eight_zeros; bytes = λ i h. absurd (omega arith) }

pub loop-index-preserved : goal.loop-index-preserved
loop-index-preserved c =
    let eight = c.loop-index.invariant.eight in
    let small = c.entry_or_none.type_inv in
    record {
      eight = eight-set c.loop-index.bytes c.loop-index.index c.entry_or_none.result.byte eight (omega arith) (omega arith);
      bytes =
          below_more _ _
          (λ i h. get_or-set_other c.loop-index.bytes c.loop-index.index i c.entry_or_none.result.byte 0 (λ e. omega arith) ∙ c.loop-index.invariant.bytes i h)
          (get_or-set_same c.loop-index.bytes c.loop-index.index c.entry_or_none.result.byte 0 (omega (arith, eight.eight)) ∙ ap (λ e. e.byte) c.entry_or_none.ensures);
    }

pub returns : goal.returns
returns c i h =
    ap (λ (n : ℕ). byte_of n i) c.from_be_bytes.ensures ∙ byte_of-from_be_bytes c.loop-index.bytes i c.loop-index.invariant.eight h ∙ c.loop-index.invariant.bytes i (omega arith)
