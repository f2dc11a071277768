use Rattle.std.proofs.Common.{◌≡◌, ◌+◌, ◌-◌, ◌≤◌, ◌++◌, ◌∷◌, [], ◌∙◌, List, length, vec_capacity, sym, ap, subst, arith, append-nil}
use Rattle.art_cell.specs.declared.cells.Link.{Link}
use Rattle.art_cell.specs.declared.cells.Link.TheVariants.{Node as node}
use Rattle.art_cell.specs.declared.cells.Cell.TheVariants as cell
use Rattle.art_cell.specs.declared.node_kinds.Entry.{Entry}
use Rattle.art_cell.specs.Words.{entries}
use Rattle.art_model.specs.declared.rows.Row.{Row}
use Rattle.std.specs.Prelude.{Option}
use Rattle.art_closed.specs.Cells.{cells_in, heap_in}
use Rattle.art_closed.specs.Listing.{IsWithin, Pair, listing, of_child, rows_spelled}
use Rattle.art_closed.proofs.Listed.{listing_leaf}
use Rattle.art_closed.proofs.Walk.{all_below, child_within, deep, one_more, room_below}
use Rattle.art_closed.proofs.rows.+push_below.Goals as goal
use Rattle.art_closed.proofs.rows.+push_below.Goals.{in-Some, in_default}

pub push_reserved-requires : goal.push_reserved-requires
push_reserved-requires t c =
    let r = c.args.reader.now in
    let h = heap_in r.sizes r.words.now in
    let one : length (listing h c.args.depth c.args.link) ≡ 1 = ap (λ (x : Link). length (listing h c.args.depth x)) c.in-Leaf.is ∙ ap (λ (l : List Pair). length l) (listing_leaf h c.args.depth c.in-Leaf.number) in
    omega (arith, one, c.requires.room, c.args.rows.now.ok.0)

pub push_below-requires : goal.push_below-requires
push_below-requires t c =
    let r = c.args.reader.now in
    let s = cells_in r.sizes r.words.now in
    let n = c.in-Node.node in
    let es : List Entry = c.as_slice-entry-items.result.now in
    let are : es ≡ entries n.layout (s (cell.Node n)) = c.as_slice-entry-items.ensures.value ∙ c.children.ensures in
    let within : IsWithin (heap_in r.sizes r.words.now) c.args.depth (node n) = subst (IsWithin (heap_in r.sizes r.words.now) c.args.depth) c.in-Node.is c.requires.within in
    let d : Entry = record { byte = 0; child = 0 } in
    let is = sym c.named_by.ensures ∙ c.in-Some.is in
    let pos = deep r.sizes s c.requires.shape n c.args.depth within es are in
    let fits = subst (λ (x : Link). length c.args.rows.now.items + length (listing (heap_in r.sizes r.words.now) c.args.depth x) ≤ vec_capacity c.args.rows.now) c.in-Node.is c.requires.room in
    let room = room_below r.sizes s c.requires.shape n c.args.depth within es are c.loop-entry.entry-index d c.loop-entry-test.true c.args.schema.now c.args.rows.now.items c.loop-entry.rows.items c.loop-entry.invariant.rows (vec_capacity c.args.rows.now) c.in-Some.child is fits in (
      omega (arith, pos, c.decreases),
      (
        c.requires.shape,
        (
          c.requires.keys,
          (
            child_within r.sizes s c.requires.shape n c.args.depth within es are c.loop-entry.entry-index d c.loop-entry-test.true c.in-Some.child is,
            omega (arith, room, c.loop-entry.invariant.room),
          ),
        ),
      ),
    )

pub loop-entry-preserved : goal.loop-entry-preserved
loop-entry-preserved t c =
    let r = c.args.reader.now in
    let s = cells_in r.sizes r.words.now in
    let n = c.in-Node.node in
    let es : List Entry = c.as_slice-entry-items.result.now in
    let are : es ≡ entries n.layout (s (cell.Node n)) = c.as_slice-entry-items.ensures.value ∙ c.children.ensures in
    let within : IsWithin (heap_in r.sizes r.words.now) c.args.depth (node n) = subst (IsWithin (heap_in r.sizes r.words.now) c.args.depth) c.in-Node.is c.requires.within in
    let d : Entry = record { byte = 0; child = 0 } in
    let more = one_more r.sizes s c.requires.shape n c.args.depth within es are c.loop-entry.entry-index d c.loop-entry-test.true c.args.schema.now c.args.rows.now.items c.loop-entry.rows.items c.loop-entry.invariant.rows c.match-named_by.rows.items in
    let listed = λ (o : Option Link). c.loop-entry.rows.items ++ rows_spelled c.args.schema.now (of_child (λ (x : Link). listing (heap_in r.sizes r.words.now) (c.args.depth - 1) x) o) in
    elim c.match-named_by.branch [
      | in-Some w ↦ record {
        rows = more (ap (λ v. v.items) w.rows-is ∙ (w.push_below.ensures.rows ∙ ap listed (sym w.in-Some.is ∙ c.named_by.ensures)));
        room = ap (λ v. vec_capacity v) w.rows-is ∙ (w.push_below.ensures.room ∙ c.loop-entry.invariant.room);
      }
      | in_default w ↦ record {
        rows = more (ap (λ v. v.items) w.rows-is ∙ (sym (append-nil c.loop-entry.rows.items) ∙ ap listed (sym w.in_default.is ∙ c.named_by.ensures)));
        room = ap (λ v. vec_capacity v) w.rows-is ∙ c.loop-entry.invariant.room;
      }
    ]

pub returns-in-Leaf-clause-rows : goal.returns-in-Leaf-clause-rows
returns-in-Leaf-clause-rows t c =
    let r = c.args.reader.now in
    let h = heap_in r.sizes r.words.now in
    let listed = λ (l : List Pair). c.args.rows.now.items ++ rows_spelled c.args.schema.now l in
    c.push_reserved.ensures.items ∙ (ap (λ (x : Row). c.args.rows.now.items ++ x ∷ []) c.row.ensures
    ∙ (ap listed (sym (listing_leaf h c.args.depth c.in-Leaf.number)) ∙ ap (λ (x : Link). listed (listing h c.args.depth x)) (sym c.in-Leaf.is)))

pub returns-after-loop-entry-clause-rows : goal.returns-after-loop-entry-clause-rows
returns-after-loop-entry-clause-rows t c =
    let r = c.args.reader.now in
    let s = cells_in r.sizes r.words.now in
    let n = c.in-Node.node in
    let es : List Entry = c.as_slice-entry-items.result.now in
    let are : es ≡ entries n.layout (s (cell.Node n)) = c.as_slice-entry-items.ensures.value ∙ c.children.ensures in
    let within : IsWithin (heap_in r.sizes r.words.now) c.args.depth (node n) = subst (IsWithin (heap_in r.sizes r.words.now) c.args.depth) c.in-Node.is c.requires.within in
    all_below r.sizes s c.requires.shape n c.args.depth within es are c.args.schema.now c.loop-entry.entry-index c.args.rows.now.items c.loop-entry.rows.items c.loop-entry-test.false c.loop-entry.invariant.rows
    ∙ ap (λ (x : Link). c.args.rows.now.items ++ rows_spelled c.args.schema.now (listing (heap_in r.sizes r.words.now) c.args.depth x)) (sym c.in-Node.is)
