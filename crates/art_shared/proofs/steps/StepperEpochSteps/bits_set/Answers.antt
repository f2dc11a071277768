-- The number is one that there is, and not free; once its bit is set, it is.
use Rattle.std.proofs.Common.{◌≡◌, ◌∙◌, ◌+◌, ◌*◌, ◌/◌, ◌%◌, ◌^◌, ℕ, ap, ap₂}
use Rattle.art_step.specs.Tokens.{link_of_number}
use Rattle.art_step.specs.Views.{free_bit, free_index, pool_of}
use Rattle.art_step.specs.WordPlaces.{first_free_word}
use Rattle.art_step.proofs.NumberMoves.{bit_whole}
use Rattle.art_step.proofs.WordPlaces.{has_free_word}
use Rattle.art_shared.specs.Stepper.{basis_of, known_by, sizes_of}
use Rattle.art_shared.proofs.EpochTurns.{free_low, turns_give}
use Rattle.art_shared.proofs.Stamps.{number_there}
use Rattle.art_shared.proofs.steps.StepperEpochSteps.bits_set.Goals as goal

pub word_at-at-requires : goal.word_at-at-requires
word_at-at-requires c =
    let s = c.args.self.now in
    let d = link_of_number c.args.number in
    rw (c.first_free_word-first.ensures, c.pool.ensures, c.number.ensures) (free_low (sizes_of s) (pool_of d) (free_index d) (has_free_word (sizes_of s) d (number_there s d c.requires.may)))

pub set_bits-requires-clause-place : goal.set_bits-requires-clause-place
set_bits-requires-clause-place c =
    let s = c.args.self.now in
    let d = link_of_number c.args.number in
    rw (c.word_at-at.ensures, c.first_free_word-first.ensures, c.pool.ensures, c.number.ensures) (free_low (sizes_of s) (pool_of d) (free_index d) (has_free_word (sizes_of s) d (number_there s d c.requires.may)))

pub set_bits-requires-clause-may : goal.set_bits-requires-clause-may
set_bits-requires-clause-may c =
    let s = c.args.self.now in
    let d = link_of_number c.args.number in
    let bit : 1 * 2 ^ (c.number-2.result % 64) % 18446744073709551616 ≡ 2 ^ free_bit d = bit_whole c.number-2.result ∙ ap (λ (n : ℕ). 2 ^ (n % 64)) c.number-2.ensures in
    let first = c.first_free_word-first.ensures ∙ ap (first_free_word (sizes_of s)) c.pool.ensures in
    rw c.spend-freed.ensures (turns_give (basis_of s) (known_by s) d _ _ bit (c.word_at-at.ensures ∙ ap₂ (λ (a b : ℕ). a + b / 64) first c.number.ensures) c.requires.may)

-- what is shown of the link of the number is what the contract says
pub returns-clause-at_once : goal.returns-clause-at_once
returns-clause-at_once c = rw c.spend-freed.ensures at c.set_bits.ensures.turn.made

pub returns-clause-hand : goal.returns-clause-hand
returns-clause-hand c = (rw c.spend-freed.ensures at c.set_bits.ensures.turn.row).0

pub returns-clause-limbo : goal.returns-clause-limbo
returns-clause-limbo c = (rw c.spend-freed.ensures at c.set_bits.ensures.turn.row).1
