use Rattle.std.proofs.Common.{◌≤◌, ◌∙◌, ℕ, List, [], Some, None, refl, sym, ap, subst, arith}
use Rattle.std.specs.Option.{IfNone, IsSome, option_map}
use Rattle.std.specs.Prelude.{Option, unwrap_or}
use Rattle.art_cell.specs.declared.cells.Cell.TheVariants as cell
use Rattle.art_key.specs.declared.columns.Column.{Column}
use Rattle.art_key.specs.Spelling.{IsKeyOf, IsSpelling, tuple_spelled}
use Rattle.art_model.specs.Rows.{Tuple}
use Rattle.art_model.specs.declared.values.Value.{Value}
use Rattle.art_tree.proofs.Meanings.{words_mean}
use Rattle.art_closed.specs.Cells.{cells_in, heap_in}
use Rattle.art_closed.proofs.rows.row.Goals as goal

reads : (schema : List Column) (bytes : List ℕ) (o : Option Tuple) → IfNone o ((t : List Value) → IsSpelling schema t bytes → ⊥) → IsKeyOf schema bytes → IsSome o
reads schema bytes None none is = absurd (none is.0 is.1)
reads schema bytes (Some t) none is = refl

pub unwrap-tuple-requires : goal.unwrap-tuple-requires
unwrap-tuple-requires c =
    let r = c.args.reader.now in
    let s = cells_in r.sizes r.words.now in
    let h = heap_in r.sizes r.words.now in
    let l = c.args.number in
    let within = c.requires.within in
    let leaf = c.requires.shape.leaves l within.0 within.1 in
    let short : s (cell.Leaf l) 1 ≤ 64 = omega (arith, leaf.2.len, leaf.3) in
    let bytes = c.as_slice.ensures.value ∙ (c.key-key.ensures ∙ sym ((words_mean s).key l short)) in
    let is = c.requires.keys (h.key l) (h.value l) (record { number = l; path = within.0; at = within.1; key = refl; value = refl }) in
    reads c.args.schema.now c.as_slice.result.now c.decode.result c.decode.ensures.none (subst (IsKeyOf c.args.schema.now) (sym bytes) is)

pub returns : goal.returns
returns c =
    let r = c.args.reader.now in
    let s = cells_in r.sizes r.words.now in
    let l = c.args.number in
    let within = c.requires.within in
    let leaf = c.requires.shape.leaves l within.0 within.1 in
    let short : s (cell.Leaf l) 1 ≤ 64 = omega (arith, leaf.2.len, leaf.3) in
    let bytes = c.as_slice.ensures.value ∙ (c.key-key.ensures ∙ sym ((words_mean s).key l short)) in
    let read = ap (option_map (λ (t : Tuple). t.items)) (sym c.unwrap-tuple.ensures) ∙ (c.decode.ensures.exact ∙ ap (tuple_spelled c.args.schema.now) bytes) in
    let value = c.value.ensures ∙ sym ((words_mean s).value l) in
    λ i. record { tuple = record { items = unwrap_or (read i) [] }; value = value i }
