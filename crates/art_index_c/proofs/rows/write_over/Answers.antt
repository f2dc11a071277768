use Rattle.std.proofs.Common.{List, ◌<◌, ◌∙◌, ap, arith, length, map, set, take}
use Rattle.art_index_c.specs.Columns.{over, row_of}
use Rattle.art_index_c.specs.declared.rows.Row.{Row}
use Rattle.art_index_c.proofs.Overwrites.{over-more}
use Rattle.art_index_c.proofs.rows.write_over.Goals as goal

pub loop-place-preserved : goal.loop-place-preserved
loop-place-preserved c =
    let i = c.loop-place.place in let found = c.args.found.now in let rows = c.args.rows.now in
    let lt : i < length found = omega arith in
    ap (λ (rs : List Row). set rs i c.of.result) c.loop-place.invariant
    ∙ (ap (λ (row : Row). set (over (map row_of (take i found)) rows) i row) (c.of.ensures ∙ ap row_of c.index-found-place.is)
    ∙ over-more row_of found rows i c.index-found-place.result lt c.requires)
