-- The number is one that there is, and not free; once its bit is set, it is.
use Rattle.art_world.specs.Stepper.{pass_of, view_of, world_of}
use Rattle.art_step.specs.WordRows.{views_of}
use Rattle.art_world.proofs.ViewLists.{at_view}
use Rattle.std.proofs.Common.{◌≡◌, ◌∙◌, ◌+◌, ◌*◌, ◌/◌, ◌%◌, ◌^◌, ℕ, ap, ap₂, arith}
use Rattle.art_cell.specs.declared.cells.Pool.{Pool}
use Rattle.art_step.specs.Tokens.{link_of_number}
use Rattle.art_step.specs.Views.{free_bit, free_index, pool_of}
use Rattle.art_step.specs.WordPlaces.{first_free_word}
use Rattle.art_step.proofs.NumberMoves.{bit_room, bit_whole, free_word_low, in_use, moves_sets, puts_free_word}
use Rattle.art_step.proofs.WordPlaces.{has_free_word}
use Rattle.art_world.specs.Contents.{memory_now}
use Rattle.art_world.proofs.world.epoch_steps.StepperEpochSteps.bits_set.Goals as goal

pub free_word-found-requires : goal.free_word-found-requires
free_word-found-requires c =
    let s = c.args.self.now in
    let k = world_of s in
    let r = c.stays_sound.ensures in
    let d = link_of_number c.args.number in
    rw (c.pool-pool.ensures, c.number.ensures) (has_free_word k.sizes d (in_use k.sizes k.words (views_of k.views) (pass_of s) (view_of s) r.sound (at_view k.views (pass_of s) s.inside) r.words d c.requires.may).0)

pub overflow_add-found : goal.overflow_add-found
overflow_add-found c =
    let s = c.args.self.now in
    let k = world_of s in
    let r = c.stays_sound.ensures in
    let d = link_of_number c.args.number in
    let found : c.free_word-found.result ≡ (memory_now k).free_word (pool_of d) (free_index d) = c.free_word-found.ensures ∙ ap₂ (λ (q : Pool) (n : ℕ). (memory_now k).free_word q (n / 64)) c.pool-pool.ensures c.number.ensures in
    let bit : 1 * 2 ^ (c.number-2.result % 64) % 18446744073709551616 ≡ 2 ^ free_bit d = bit_whole c.number-2.result ∙ ap (λ (n : ℕ). 2 ^ (n % 64)) c.number-2.ensures in
    let room = bit_room (memory_now k) d c.free_word-found.result found (in_use k.sizes k.words (views_of k.views) (pass_of s) (view_of s) r.sound (at_view k.views (pass_of s) s.inside) r.words d c.requires.may).1 (omega arith) in
    omega (arith, room, bit)

pub put-requires-clause-place : goal.put-requires-clause-place
put-requires-clause-place c i =
    let s = c.args.self.now in
    let k = world_of s in
    let r = c.stays_sound.ensures in
    let d = link_of_number c.args.number in
    rw (c.first_free_word.ensures, c.sizes.ensures, c.pool-pool.ensures, c.number.ensures) (free_word_low k.sizes k.words i.long (pool_of d) (free_index d) (has_free_word k.sizes d (in_use k.sizes k.words (views_of k.views) (pass_of s) (view_of s) r.sound (at_view k.views (pass_of s) s.inside) r.words d c.requires.may).0))

pub put-requires-clause-moves : goal.put-requires-clause-moves
put-requires-clause-moves c i =
    let s = c.args.self.now in
    let k = world_of s in
    let d = link_of_number c.args.number in
    let inside = has_free_word k.sizes d (in_use k.sizes k.words (views_of k.views) (pass_of s) (view_of s) i.sound (at_view k.views (pass_of s) s.inside) i.long d c.requires.may).0 in
    let found : c.free_word-found.result ≡ (memory_now k).free_word (pool_of d) (free_index d) = c.free_word-found.ensures ∙ ap₂ (λ (q : Pool) (n : ℕ). (memory_now k).free_word q (n / 64)) c.pool-pool.ensures c.number.ensures in
    let bit : 1 * 2 ^ (c.number-2.result % 64) % 18446744073709551616 ≡ 2 ^ free_bit d = bit_whole c.number-2.result ∙ ap (λ (n : ℕ). 2 ^ (n % 64)) c.number-2.ensures in
    let place = c.first_free_word.ensures ∙ ap₂ first_free_word c.sizes.ensures c.pool-pool.ensures in
    let sets = puts_free_word k.sizes k.words i.long (pool_of d) (free_index d) inside _ _ ((memory_now k).free_word (pool_of d) (free_index d) + 2 ^ free_bit d) (ap₂ (λ (a b : ℕ). a + b / 64) place c.number.ensures) (ap₂ (λ (a b : ℕ). a + b) found bit) in
    rw c.spend-freed.ensures (moves_sets k.sizes k.words (views_of k.views) (pass_of s) (view_of s) i.sound (at_view k.views (pass_of s) s.inside) i.long _ d c.requires.may (λ g. sets))
