use Rattle.std.proofs.Common.{◌≡◌, ◌≤◌, ◌∙◌, ◌+◌, ◌*◌, ap, ap₂, arith, refl, sym}
use Rattle.std.proofs.Math.Nat.{mul-le-mul}
use Rattle.art_cell.specs.Words.{size}
use Rattle.art_cell.specs.declared.cells.Layout.TheVariants.{Node4, Node16, Node48, Node256}
use Rattle.art_cell.specs.declared.cells.Layout.{Layout}
use Rattle.art_cell.specs.declared.cells.Pool.TheVariants.{Leaves, N4, N16, N48, N256}
use Rattle.art_cell.specs.declared.cells.Pool.{Pool}
use Rattle.art_step.specs.Views.{pool_of_layout}
use Rattle.art_step.specs.WordPlaces.{first_cell, place_of, words_each}
use Rattle.art_step.specs.declared.views.Sizes.{Sizes}
use Rattle.art_step.proofs.views.Sizes.place_of.Goals as goal

pub returns-in-Anchor : goal.returns-in-Anchor
returns-in-Anchor c = ap (place_of c.args.self) (sym c.in-Anchor.is)

pub returns-in-Leaf : goal.returns-in-Leaf
returns-in-Leaf c = ap (place_of c.args.self) (sym c.in-Leaf.is)

size_each : (k : Layout) → size k ≡ words_each (pool_of_layout k)
size_each Node4 = refl
size_each Node16 = refl
size_each Node48 = refl
size_each Node256 = refl

pub returns-in-Node : goal.returns-in-Node
returns-in-Node c =
    ap₂ (λ first each. first + each * c.in-Node.node.number)
    (c.first_cell.ensures ∙ ap (first_cell c.args.self) c.pool_of_layout-pool.ensures)
    (c.size.ensures ∙ size_each c.in-Node.node.layout)
    ∙ ap (place_of c.args.self) (sym c.in-Node.is)

size_few : (k : Layout) → size k ≤ 266
size_few Node4 = omega arith
size_few Node16 = omega arith
size_few Node48 = omega arith
size_few Node256 = omega arith

first_few : (z : Sizes) (p : Pool) → first_cell z p ≤ 16 + 10 * z.leaves + 15 * z.n4 + 28 * z.n16 + 90 * z.n48
first_few z Leaves = omega arith
first_few z N4 = omega arith
first_few z N16 = omega arith
first_few z N48 = omega arith
first_few z N256 = omega arith

pub overflow_add-result-in-Node : goal.overflow_add-result-in-Node
overflow_add-result-in-Node c =
    let first = first_few c.args.self c.pool_of_layout-pool.result in
    let node = c.in-Node.node in
    let few : c.size.result ≤ 266 = omega (arith, c.size.ensures, size_few node.layout) in
    let words : c.size.result * node.number ≤ 266 * node.number = mul-le-mul few (omega arith) in
    omega (arith, first, words, c.first_cell.ensures)
