use Rattle.std.proofs.Common.{◌≡◌, ◌%◌, ◌<◌, Some, ◌∙◌, ap, sym, arith, get_or}
use Rattle.std.specs.Option.{option_map}
use Rattle.art_cell.specs.Words.{byte_of}
use Rattle.art_cell.specs.Lemmas.Packed.{byte_of-to_be_bytes}
use Rattle.art_cell.specs.Leaves.{key_byte_read, key_read}
use Rattle.art_node.proofs.KeyBytes.{goes_on}
use Rattle.art_node.proofs.words.key_in.Goals as goal

pub loop-at-preserved : goal.loop-at-preserved
loop-at-preserved c =
    let at = c.loop-at.at in
    let byte = get_or c.to_be_bytes.result (at % 8) 0 in
    let low : at % 8 < 8 = omega arith in
    let same : byte_of c.in_ok-word.word (at % 8) ≡ byte = byte_of-to_be_bytes c.in_ok-word.word (at % 8) low ∙ sym (ap (λ bytes. get_or bytes (at % 8) 0) c.to_be_bytes.ensures) in
    let read : key_byte_read c.args.reads.now at ≡ Some byte = ap (option_map (λ word. byte_of word (at % 8))) (sym c.get.ensures ∙ c.in_ok-word.was) ∙ ap Some same in
    record {
      few = omega (arith, c.push.ensures.len, c.loop-at.invariant.few);
      read = rw (c.push.ensures.items) (goes_on c.args.reads.now c.loop-at.key.items at c.args.length byte (key_read c.args.reads.now 0 c.args.length) c.loop-at-test.true read c.loop-at.invariant.read);
    }
