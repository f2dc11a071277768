use Rattle.std.proofs.Common.{List, ℕ, ◌<◌, ◌∙◌, ap, arith, get_or, length, replicate, set}
use Rattle.art_index_c.proofs.Overwrites.{over-more}
use Rattle.art_index_c.proofs.columns.Column.with.Goals as goal

pub loop-place-preserved : goal.loop-place-preserved
loop-place-preserved c =
    let i = c.loop-place.place in let bytes = c.args.bytes.now in
    let lt : i < length bytes = omega arith in
    ap (λ (text : List ℕ). set text i (get_or bytes i 0)) c.loop-place.invariant ∙ over-more (λ b. b) bytes (replicate 24 0) i 0 lt c.requires
