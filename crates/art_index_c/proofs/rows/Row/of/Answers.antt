use Rattle.std.proofs.Common.{List, [], ◌<◌, ◌∙◌, ap, arith, length, map, replicate, set, take}
use Rattle.art_index_c.specs.Columns.{column_of, column_with, over}
use Rattle.art_index_c.specs.declared.columns.Column.{Column}
use Rattle.art_index_c.proofs.Overwrites.{over-more}
use Rattle.art_index_c.proofs.rows.Row.of.Goals as goal

pub loop-place-preserved : goal.loop-place-preserved
loop-place-preserved c =
    let i = c.loop-place.place in let values = c.as_slice-values.result.now in let blank = replicate 8 (column_with 0 0 0 []) in
    let lt : i < length values = omega arith in
    ap (λ (columns : List Column). set columns i c.of.result) c.loop-place.invariant
    ∙ (ap (λ (column : Column). set (over (map column_of (take i values)) blank) i column) (c.of.ensures ∙ ap column_of c.index-values-place.is)
    ∙ over-more column_of values blank i c.index-values-place.result lt c.as_slice-values.ensures.fits)
