-- All of a word, or its first bytes.
use Rattle.std.proofs.Common.{◌≡◌, ◌≤◌, ◌++◌, ℕ, List, length, get_or, map, take, sym, ap, ◌∙◌, arith}
use Rattle.std.proofs.Math.Seq.{take-length}
use Rattle.std.specs.Int.{w64, to_be_bytes}
use Rattle.std.specs.List.{range_with_len}
use Rattle.art_cell.specs.Lemmas.Packed.{byte_of-to_be_bytes}
use Rattle.art_cell.specs.Words.{byte_of}
use Rattle.art_look.proofs.Spelling.{bytes_spelled}
use Rattle.art_look.proofs.path_buffers.spell.Goals as goal

module _ (word count : ℕ) (bytes : List ℕ) (few : count ≤ 8) (are : bytes ≡ to_be_bytes w64 word) where
  first_spelled : take count bytes ≡ map (byte_of word) (range_with_len 0 count)
  first_spelled = bytes_spelled word count bytes (omega (arith, ap length are, few)) (λ i low. byte_of-to_be_bytes word i (omega (arith, low, few)) ∙ sym (ap (λ (l : List ℕ). get_or l i 0) are))

  all_spelled : count ≡ 8 → bytes ≡ map (byte_of word) (range_with_len 0 count)
  all_spelled all =
      let whole : length bytes ≡ count = omega (arith, ap length are, all) in
      sym (ap (λ (n : ℕ). take n bytes) (sym whole) ∙ take-length bytes) ∙ first_spelled

pub returns-then-count-eq8 : goal.returns-then-count-eq8
returns-then-count-eq8 c =
    c.append.ensures ∙ ap (λ (l : List ℕ). c.args.text.now.items ++ l) (all_spelled c.args.word c.args.count c.to_be_bytes-bytes.result c.requires.few c.to_be_bytes-bytes.ensures c.if-count-eq8.true)

pub returns-else-count-eq8 : goal.returns-else-count-eq8
returns-else-count-eq8 c =
    c.append-else-count-eq8.ensures ∙ ap (λ (l : List ℕ). c.args.text.now.items ++ l) (first_spelled c.args.word c.args.count c.to_be_bytes-bytes.result c.requires.few c.to_be_bytes-bytes.ensures)
