use Rattle.std.proofs.Common.{◌≡◌, ◌++◌, ◌∙◌, List, [], None, length, refl, sym, ap, subst, arith}
use Rattle.art_cell.specs.Children.{link_of}
use Rattle.art_key.specs.declared.columns.Column.{Column}
use Rattle.art_model.specs.declared.rows.Row.{Row}
use Rattle.art_step.specs.Knowledge.{IsShape}
use Rattle.art_step.specs.declared.views.Sizes.{Sizes}
use Rattle.art_tree.specs.Tree.{top}
use Rattle.art_tree.proofs.Meanings.{words_mean}
use Rattle.art_closed.specs.Cells.{cells_in, heap_in, schema_left}
use Rattle.art_closed.specs.Listing.{listing, rows_spelled}
use Rattle.art_closed.specs.Rows.{AreRowsOf, SpellsTuples}
use Rattle.art_closed.proofs.Whole.{few_from_root, no_rows, rows_from_root}
use Rattle.art_closed.proofs.rows.list_rows.Goals as goal

pub push_below-requires-clause-keys : goal.push_below-requires-clause-keys
push_below-requires-clause-keys c =
    let e = c.args.words.now in
    subst (λ (s : List Column). SpellsTuples s (heap_in c.sizes.result e)) (sym c.schema.ensures)
    (subst (λ (y : Sizes). SpellsTuples (schema_left e) (heap_in y e)) (sym c.sizes.ensures) c.requires.keys)

pub push_below-requires-clause-within : goal.push_below-requires-clause-within
push_below-requires-clause-within c =
    let s = cells_in c.sizes.result c.args.words.now in
    ([], top ((words_mean s).root ∙ (ap link_of (sym c.word.ensures) ∙ (sym c.named_by.ensures ∙ c.in-Some.is))) refl, omega arith)

pub push_below-requires-clause-room : goal.push_below-requires-clause-room
push_below-requires-clause-room c =
    let e = c.args.words.now in
    let z = c.sizes.result in
    let s = cells_in z e in
    let shape = subst (λ (y : Sizes). IsShape y (cells_in y e)) (sym c.sizes.ensures) c.requires.shape in
    let keys = subst (λ (y : Sizes). SpellsTuples (schema_left e) (heap_in y e)) (sym c.sizes.ensures) c.requires.keys in
    let root = (words_mean s).root ∙ (ap link_of (sym c.word.ensures) ∙ (sym c.named_by.ensures ∙ c.in-Some.is)) in
    let few = few_from_root z s shape (schema_left e) keys c.in-Some.root root in
    let none = ap (λ (l : List Row). length l) c.requires.empty in
    let leaves = ap (λ (y : Sizes). y.leaves) c.sizes.ensures in
    omega (arith, few, none, leaves, c.requires.room)

pub returns-in-Some : goal.returns-in-Some
returns-in-Some c =
    let e = c.args.words.now in
    let z = c.sizes.result in
    let s = cells_in z e in
    let shape = subst (λ (y : Sizes). IsShape y (cells_in y e)) (sym c.sizes.ensures) c.requires.shape in
    let keys = subst (λ (y : Sizes). SpellsTuples (schema_left e) (heap_in y e)) (sym c.sizes.ensures) c.requires.keys in
    let root = (words_mean s).root ∙ (ap link_of (sym c.word.ensures) ∙ (sym c.named_by.ensures ∙ c.in-Some.is)) in
    let listed = c.push_below.ensures.rows ∙ ap (λ (l : List Row). l ++ rows_spelled c.schema.result.now (listing (heap_in z e) 64 c.in-Some.root)) c.requires.empty in
    let spelled = ap (λ (k : List Column). rows_spelled k (listing (heap_in z e) 64 c.in-Some.root)) c.schema.ensures in
    subst (λ (y : Sizes). AreRowsOf (schema_left e) (heap_in y e) c.push_below.new.rows.items) c.sizes.ensures
    (subst (AreRowsOf (schema_left e) (heap_in z e)) (sym (listed ∙ spelled)) (rows_from_root z s shape (schema_left e) keys c.in-Some.root root))

pub returns-in_default : goal.returns-in_default
returns-in_default c =
    let e = c.args.words.now in
    let z = c.sizes.result in
    let s = cells_in z e in
    let shape = subst (λ (y : Sizes). IsShape y (cells_in y e)) (sym c.sizes.ensures) c.requires.shape in
    let keys = subst (λ (y : Sizes). SpellsTuples (schema_left e) (heap_in y e)) (sym c.sizes.ensures) c.requires.keys in
    let none : (heap_in z e).root ≡ None = (words_mean s).root ∙ (ap link_of (sym c.word.ensures) ∙ (sym c.named_by.ensures ∙ c.in_default.is)) in
    subst (λ (y : Sizes). AreRowsOf (schema_left e) (heap_in y e) c.args.rows.now.items) c.sizes.ensures
    (subst (AreRowsOf (schema_left e) (heap_in z e)) (sym c.requires.empty) (no_rows z s shape (schema_left e) keys none))
