-- In a table of the sizes that there may be, few words are looked at for the numbers that a change wants.
use Rattle.std.proofs.Common.{ℕ, ◌≤◌, ◌^◌, Option, Some, None, arith}
use Rattle.art_attempt.specs.Trying.{IsLimited}
use Rattle.art_cell.specs.declared.cells.Layout.{Layout}
use Rattle.art_cell.specs.declared.cells.Layout.TheVariants.{Node4, Node16, Node48, Node256}
use Rattle.art_attempt.specs.Reserve.{few_steps, node_looks}
use Rattle.art_attempt.specs.declared.reserve.Demand.{Demand}
use Rattle.art_step.specs.WordPlaces.{free_words}
use Rattle.art_step.specs.declared.views.Sizes.{Sizes}

few_words : (n : ℕ) → n ≤ 2 ^ 20 → free_words n ≤ 16384
few_words n few = omega (arith, few)

few_node_words : (n : ℕ) → n ≤ 2 ^ 18 → free_words n ≤ 4096
few_node_words n few = omega (arith, few)

few_nodes : (z : Sizes) (o : Option Layout) → IsLimited z → node_looks z o ≤ 4097
few_nodes z None limited = omega arith
few_nodes z (Some Node4) limited = let few = few_node_words z.n4 limited.n4 in omega (arith, few)
few_nodes z (Some Node16) limited = let low = limited.n16 in let few = few_node_words z.n16 (omega (arith, low)) in omega (arith, few)
few_nodes z (Some Node48) limited = let low = limited.n48 in let few = few_node_words z.n48 (omega (arith, low)) in omega (arith, few)
few_nodes z (Some Node256) limited = let low = limited.n256 in let few = few_node_words z.n256 (omega (arith, low)) in omega (arith, few)

pub few_looks : (z : Sizes) (demand : Demand) → IsLimited z → few_steps z demand ≤ 20492
few_looks z demand limited =
    let leaves = few_words z.leaves limited.leaves in
    let nodes = few_nodes z demand.node limited in
    omega (arith, leaves, nodes)
