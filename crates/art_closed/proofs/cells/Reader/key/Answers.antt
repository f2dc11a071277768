use Rattle.std.proofs.Common.{◌≡◌, ◌%◌, ◌<◌, ◌++◌, ◌∷◌, [], ℕ, List, get_or, map, ap, sym, ◌∙◌, arith}
use Rattle.std.proofs.lemmas.List.FromFn.{map-range_with_len_more}
use Rattle.std.specs.List.{range_with_len}
use Rattle.art_cell.specs.declared.cells.Cell.TheVariants as cells
use Rattle.art_cell.specs.Lemmas.Packed.{byte_of-to_be_bytes}
use Rattle.art_cell.specs.Words.{byte_of, packed}
use Rattle.art_closed.specs.Cells.{cells_in}
use Rattle.art_closed.proofs.Read.{packed_byte}
use Rattle.art_closed.proofs.cells.Reader.key.Goals as goal

pub loop-at-preserved : goal.loop-at-preserved
loop-at-preserved c =
    let r = c.args.self.now in
    let w = cells_in r.sizes r.words.now (cells.Leaf c.args.number) in
    let at = c.loop-at.at in
    let byte = get_or c.to_be_bytes.result (at % 8) 0 in
    let low : at % 8 < 8 = omega arith in
    let same : byte_of c.word-word.result (at % 8) ≡ byte = byte_of-to_be_bytes c.word-word.result (at % 8) low ∙ sym (ap (λ bytes. get_or bytes (at % 8) 0) c.to_be_bytes.ensures) in
    let is : byte ≡ packed w 2 at = sym same ∙ (ap (λ (x : ℕ). byte_of x (at % 8)) c.word-word.ensures ∙ sym (packed_byte w at)) in
    record {
      few = omega (arith, c.push.ensures.len, c.loop-at.invariant.few);
      read = c.push.ensures.items ∙ (ap (λ (l : List ℕ). l ++ byte ∷ []) c.loop-at.invariant.read ∙ (ap (λ (b : ℕ). map (packed w 2) (range_with_len 0 at) ++ b ∷ []) is ∙ sym (map-range_with_len_more (packed w 2) 0 at at (omega arith))));
    }
