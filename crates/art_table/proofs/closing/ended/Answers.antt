use Rattle.std.proofs.Common.{◌∙◌, List, ap}
use Rattle.art_cell.specs.declared.cells.Pool.{Pool}
use Rattle.art_cell.specs.declared.cells.Pool.TheVariants as pool
use Rattle.art_closed.specs.Cells.{memory_in, schema_left, sizes_left}
use Rattle.art_closed.specs.Counts.{IsCounted}
use Rattle.art_shared.specs.declared.law.Basis.{Basis}
use Rattle.art_table.proofs.Whole.{by_pool, closed_at, keys_at, known_at, seats_of_table, shape_at, waiting_at}
use Rattle.art_table.proofs.closing.ended.Goals as goal
use Rattle.art_table.specs.Closing.{count_of, seats_of, waits}
use Rattle.art_table.specs.declared.closing.Closed.{Closed}
use Rattle.art_table.specs.declared.passes.Pass.{Pass}

pub close-words-requires : goal.close-words-requires
close-words-requires c p a e = seats_of_table c.args.table c.args.passes.items c.requires.of c.requires.all c.seats_of.result.items c.seats_of.ensures p a e

pub list_rows-requires-clause-shape : goal.list_rows-requires-clause-shape
list_rows-requires-clause-shape c =
    let sizes = ap (λ (b : Basis). b.sizes) c.close-words.ensures.basis in
    shape_at c.args.table c.args.passes.items c.requires.of c.requires.all c.seats_of.result.items c.seats_of.ensures c.close-words.result (sizes_left c.close-words.result) sizes c.close-words.ensures.closes

pub list_rows-requires-clause-keys : goal.list_rows-requires-clause-keys
list_rows-requires-clause-keys c =
    let sizes = ap (λ (b : Basis). b.sizes) c.close-words.ensures.basis in
    let schema = ap (λ (b : Basis). b.schema) c.close-words.ensures.basis in
    keys_at c.args.table c.args.passes.items c.requires.of c.requires.all c.seats_of.result.items c.seats_of.ensures c.close-words.result (sizes_left c.close-words.result) sizes c.close-words.ensures.closes (schema_left c.close-words.result) schema

pub count-requires-clause-known : goal.count-requires-clause-known
count-requires-clause-known c =
    let sizes = ap (λ (b : Basis). b.sizes) c.close-words.ensures.basis in
    known_at c.args.table c.args.passes.items c.requires.of c.requires.all c.seats_of.result.items c.seats_of.ensures c.close-words.result (sizes_left c.close-words.result) sizes c.close-words.ensures.closes pool.Leaves c.of-waiting.result.leaves
    (c.of-waiting.ensures.leaves ∙ ap (λ (l : List Pass). waits pool.Leaves l) c.deref.ensures.value)

pub count-requires-2-clause-known : goal.count-requires-2-clause-known
count-requires-2-clause-known c =
    let sizes = ap (λ (b : Basis). b.sizes) c.close-words.ensures.basis in
    known_at c.args.table c.args.passes.items c.requires.of c.requires.all c.seats_of.result.items c.seats_of.ensures c.close-words.result (sizes_left c.close-words.result) sizes c.close-words.ensures.closes pool.N4 c.of-waiting.result.n4
    (c.of-waiting.ensures.n4 ∙ ap (λ (l : List Pass). waits pool.N4 l) c.deref.ensures.value)

pub count-requires-3-clause-known : goal.count-requires-3-clause-known
count-requires-3-clause-known c =
    let sizes = ap (λ (b : Basis). b.sizes) c.close-words.ensures.basis in
    known_at c.args.table c.args.passes.items c.requires.of c.requires.all c.seats_of.result.items c.seats_of.ensures c.close-words.result (sizes_left c.close-words.result) sizes c.close-words.ensures.closes pool.N16 c.of-waiting.result.n16
    (c.of-waiting.ensures.n16 ∙ ap (λ (l : List Pass). waits pool.N16 l) c.deref.ensures.value)

pub count-requires-4-clause-known : goal.count-requires-4-clause-known
count-requires-4-clause-known c =
    let sizes = ap (λ (b : Basis). b.sizes) c.close-words.ensures.basis in
    known_at c.args.table c.args.passes.items c.requires.of c.requires.all c.seats_of.result.items c.seats_of.ensures c.close-words.result (sizes_left c.close-words.result) sizes c.close-words.ensures.closes pool.N48 c.of-waiting.result.n48
    (c.of-waiting.ensures.n48 ∙ ap (λ (l : List Pass). waits pool.N48 l) c.deref.ensures.value)

pub count-requires-5-clause-known : goal.count-requires-5-clause-known
count-requires-5-clause-known c =
    let sizes = ap (λ (b : Basis). b.sizes) c.close-words.ensures.basis in
    known_at c.args.table c.args.passes.items c.requires.of c.requires.all c.seats_of.result.items c.seats_of.ensures c.close-words.result (sizes_left c.close-words.result) sizes c.close-words.ensures.closes pool.N256 c.of-waiting.result.n256
    (c.of-waiting.ensures.n256 ∙ ap (λ (l : List Pass). waits pool.N256 l) c.deref.ensures.value)

pub returns : goal.returns
returns c =
    let t = c.args.table in
    let ps = c.args.passes.items in
    let e = c.close-words.result in
    let z = sizes_left e in
    let sizes = ap (λ (b : Basis). b.sizes) c.close-words.ensures.basis in
    let schema = ap (λ (b : Basis). b.schema) c.close-words.ensures.basis in
    let waiting = waiting_at t ps c.requires.of c.requires.all c.seats_of.result.items c.seats_of.ensures e z sizes c.close-words.ensures.closes in
    let made : Closed = record { rows = c.list_rows.new.rows; leaves = c.count.result; n4 = c.count-2.result; n16 = c.count-3.result; n48 = c.count-4.result; n256 = c.count-5.result } in
    closed_at t ps c.requires.of c.requires.all c.seats_of.result.items c.seats_of.ensures e z sizes c.close-words.ensures.closes (schema_left c.close-words.result) schema made c.list_rows.ensures
    (by_pool (λ (p : Pool). IsCounted z (memory_in z e) (seats_of ps) p (count_of p made))
    (c.count.ensures (seats_of ps) (waiting pool.Leaves c.of-waiting.result.leaves (c.of-waiting.ensures.leaves ∙ ap (λ (l : List Pass). waits pool.Leaves l) c.deref.ensures.value)))
    (c.count-2.ensures (seats_of ps) (waiting pool.N4 c.of-waiting.result.n4 (c.of-waiting.ensures.n4 ∙ ap (λ (l : List Pass). waits pool.N4 l) c.deref.ensures.value)))
    (c.count-3.ensures (seats_of ps) (waiting pool.N16 c.of-waiting.result.n16 (c.of-waiting.ensures.n16 ∙ ap (λ (l : List Pass). waits pool.N16 l) c.deref.ensures.value)))
    (c.count-4.ensures (seats_of ps) (waiting pool.N48 c.of-waiting.result.n48 (c.of-waiting.ensures.n48 ∙ ap (λ (l : List Pass). waits pool.N48 l) c.deref.ensures.value)))
    (c.count-5.ensures (seats_of ps) (waiting pool.N256 c.of-waiting.result.n256 (c.of-waiting.ensures.n256 ∙ ap (λ (l : List Pass). waits pool.N256 l) c.deref.ensures.value))))
