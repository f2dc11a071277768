use Rattle.std.proofs.Common.{◌-◌, ℕ, sym, ap, arith, refl, subst}
use Rattle.art_closed.specs.Cells.{memory_in}
use Rattle.art_closed.specs.Counts.{HasWaiting, IsCounted}
use Rattle.art_closed.specs.declared.counts.PoolCount.{PoolCount}
use Rattle.art_closed.proofs.Counted.{counted, fits}
use Rattle.art_step.specs.declared.views.Sizes.{Sizes}
use Rattle.art_closed.proofs.counts.count.Goals as goal

pub overflow_sub-result : goal.overflow_sub-result
overflow_sub-result c =
    let e = c.args.words.now in
    let z = c.sizes-sizes.result in
    let known = subst (λ (y : Sizes). HasWaiting y (memory_in y e) c.args.pool c.args.waiting c.requires.known.0) (sym c.sizes-sizes.ensures) c.requires.known.1 in
    let few = fits z (memory_in z e) c.requires.known.0 known.accounted c.args.pool c.args.waiting known.waiting in
    omega (arith, few, c.free_numbers-free.ensures, c.pool_size.ensures)

pub overflow_sub-result-2 : goal.overflow_sub-result-2
overflow_sub-result-2 c =
    let e = c.args.words.now in
    let z = c.sizes-sizes.result in
    let known = subst (λ (y : Sizes). HasWaiting y (memory_in y e) c.args.pool c.args.waiting c.requires.known.0) (sym c.sizes-sizes.ensures) c.requires.known.1 in
    let few = fits z (memory_in z e) c.requires.known.0 known.accounted c.args.pool c.args.waiting known.waiting in
    omega (arith, few, c.free_numbers-free.ensures, c.pool_size.ensures)

pub returns : goal.returns
returns c passes was =
    let e = c.args.words.now in
    let z = c.sizes-sizes.result in
    let known = subst (λ (y : Sizes). HasWaiting y (memory_in y e) c.args.pool c.args.waiting passes) (sym c.sizes-sizes.ensures) was in
    let r : PoolCount = record { linked = c.pool_size.result - c.free_numbers-free.result - c.args.waiting; free = c.free_numbers-free.result; in_limbo = c.args.waiting } in
    subst (λ (y : Sizes). IsCounted y (memory_in y e) passes c.args.pool r) c.sizes-sizes.ensures
    (counted z (memory_in z e) passes known.accounted c.args.pool c.args.waiting known.waiting r (ap (λ (n : ℕ). n - c.free_numbers-free.result - c.args.waiting) c.pool_size.ensures) c.free_numbers-free.ensures refl)
