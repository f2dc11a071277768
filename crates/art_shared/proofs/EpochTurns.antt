-- The kinds of steps of numbers and epochs, as steps on a word of the table: the pass makes each whatever the table is.
use Rattle.std.proofs.Common.{◌≡◌, ◌≢◌, ◌⊎◌, ℕ, ◌+◌, ◌-◌, ◌*◌, ◌%◌, ◌^◌, ◌<◌, List, slice_set, get_or, ⊎_elim, sym, ap, ◌∙◌, subst, arith, eq-eqb, ne_eqb}
use Rattle.std.proofs.lemmas.Bool.{cases_eq, eqb-false}
use Rattle.std.proofs.lemmas.Nat.{and-not, and_comm, or_disjoint, pow_below}
use Rattle.std.proofs.lemmas.Nat.Bits.{and_pow}
use Rattle.std.proofs.Math.Nat.{mod-eq_of_lt}
use Rattle.std.specs.Prelude.{◌==◌, None, Some, bit_and, bit_or}
use Rattle.art_cell.specs.declared.cells.Link.{Link}
use Rattle.art_cell.specs.declared.cells.Pool.{Pool}
use Rattle.art_step.specs.declared.views.Sizes.{Sizes}
use Rattle.art_step.specs.declared.views.View.{View}
use Rattle.art_step.specs.Effects.{FindsEpoch, FindsPassWord, PutsPassWord, RaisesEpoch, SetsBit, SetsFreeWord}
use Rattle.art_step.specs.Steps.Advance as advance
use Rattle.art_step.specs.Steps.Epoch as epoch
use Rattle.art_step.specs.Steps.Give as give
use Rattle.art_step.specs.Steps.Pin as pin
use Rattle.art_step.specs.Steps.Take as take_free
use Rattle.art_step.specs.Steps.Take.{without_bit}
use Rattle.art_step.specs.Steps.Watch as watch
use Rattle.art_step.specs.Views.{Memory, bit_of, free_bit, free_index, pool_of}
use Rattle.art_step.specs.WordPlaces.{HasFreeWord, epoch_place, first_free_word, pass_place, word_count}
use Rattle.art_step.specs.WordRows.{free_word_in, memory_of}
use Rattle.art_step.proofs.EpochMoves.{epoch_fits, moves_advances, moves_notes, moves_pins, moves_watches}
use Rattle.art_step.proofs.Moves.{Moves}
use Rattle.art_step.proofs.NumberMoves.{in_use, keeps_free_word, moves_sets, moves_takes, puts_free_word}
use Rattle.art_step.proofs.WordPlaces.{free_below, has_free_word}
use Rattle.art_step.proofs.WordRows.{free_word_found, pass_word_found, sets_epoch, sets_pass_word}
use Rattle.art_shared.specs.declared.law.Basis.{Basis}
use Rattle.art_shared.specs.declared.law.Known.{Known}
use Rattle.art_shared.specs.Passes.{view_in}
use Rattle.art_shared.specs.Turns.{MayTurn}
use Rattle.art_shared.proofs.Turning.{looks}
use Rattle.art_shared.proofs.Typed.{pinned_sees, quiet, taken_sees}

-- ---- one bit of a word

-- a word without the bit, by a mask of all others
pub masked : (n k : ℕ) → n < 2 ^ 64 → k < 64 → bit_and n (2 ^ 64 - 1 - 2 ^ k) ≡ without_bit (Some k) n
masked n k low few =
    let one = pow_below k 64 few in
    let rest = and-not 64 (2 ^ k) n one low in
    let bit : bit_and (2 ^ k) n ≡ bit_of n k * 2 ^ k = and_comm (2 ^ k) n ∙ and_pow n k in
    let mask : bit_and n (2 ^ 64 - 1 - 2 ^ k) ≡ bit_and (2 ^ 64 - 1 - 2 ^ k) n = and_comm n (2 ^ 64 - 1 - 2 ^ k) in
    ⊎_elim
    (λ (is : bit_of n k ≡ 1). rw (eq-eqb (bit_of n k) 1 is) (let b : bit_and (2 ^ k) n ≡ 2 ^ k = bit ∙ (ap (λ (x : ℕ). x * 2 ^ k) is ∙ omega arith) in omega (arith, rest, b, mask)))
    (λ (other : bit_of n k ≢ 1). rw (ne_eqb (bit_of n k) 1 other) (let z : bit_of n k ≡ 0 = omega arith in let b : bit_and (2 ^ k) n ≡ 0 = bit ∙ (ap (λ (x : ℕ). x * 2 ^ k) z ∙ omega arith) in omega (arith, rest, b, mask)))
    (cases_eq (bit_of n k) 1)

-- a word that has not the bit, with it: or adds it
pub gains : (n k : ℕ) → bit_of n k ≢ 1 → bit_or n (2 ^ k) ≡ n + 2 ^ k
gains n k clear = let z : bit_of n k ≡ 0 = omega arith in or_disjoint n (2 ^ k) (and_pow n k ∙ (ap (λ (x : ℕ). x * 2 ^ k) z ∙ omega arith))

-- a word of free numbers is one of the table
pub free_low : (z : Sizes) (pool : Pool) (i : ℕ) → HasFreeWord z pool i → first_free_word z pool + i < word_count z
free_low z pool i has = let low = (free_below z pool i has).1 in omega (arith, low)

-- what is shown where a number goes back, from the hand or from limbo
abbrev pub Frees : Sizes → Link → View → View → Type 0
Frees z d v w = (give.May v d → give.Outcome v w d) × (give.MayFree z v d → give.FreeOutcome v w d)

module _ (basis : Basis) (me : Known) where
  abbrev z : Sizes
  z = basis.sizes

  abbrev v : View
  v = view_in me

  found_free : (ws : List ℕ) (pool : Pool) (i at : ℕ) → at ≡ first_free_word z pool + i → HasFreeWord z pool i → get_or ws at 0 ≡ free_word_in z ws pool i
  found_free ws pool i at is has = ap (λ (j : ℕ). get_or ws j 0) is ∙ sym (free_word_found z ws pool i has)

  -- ---- numbers

  pub turns_look_free : (pool : Pool) (i at : ℕ) → at ≡ first_free_word z pool + i → take_free.May z pool i None
      → MayTurn basis me at (λ n. n) (λ n v w. take_free.Outcome z v w pool i None n) (λ n. take_free.Takes pool i None n)
  turns_look_free pool i at is may = record {
    moves = λ ws f s low.
        let n : ℕ = get_or ws at 0 in
        let found = found_free ws pool i at is may.word in
        let keeps = subst (λ (x : ℕ). SetsFreeWord (memory_of z ws) pool i x (memory_of z ws)) (sym found) (keeps_free_word z ws s.long pool i may.word) in
        looks z ws f v.pass v at (λ v w. take_free.Outcome z v w pool i None n) (take_free.Takes pool i None n)
        (moves_takes z ws f v.pass v s.sound s.here s.long ws pool i None n may found keeps);
    adds = λ n w row. quiet basis.schema v w (ap (λ (u : View). u.own) row.is ∙ (taken_sees v pool i None n row.words).1);
  }

  pub turns_take : (pool : Pool) (i k mask at : ℕ) → mask ≡ 2 ^ 64 - 1 - 2 ^ k → at ≡ first_free_word z pool + i → take_free.May z pool i (Some k)
      → MayTurn basis me at (λ n. bit_and n mask) (λ n v w. take_free.Outcome z v w pool i (Some k) n) (λ n. take_free.Takes pool i (Some k) n)
  turns_take pool i k mask at up is may = record {
    moves = λ ws f s low.
        let n : ℕ = get_or ws at 0 in
        let found = found_free ws pool i at is may.word in
        moves_takes z ws f v.pass v s.sound s.here s.long (slice_set ws at (bit_and n mask)) pool i (Some k) n may found
        (puts_free_word z ws s.long pool i may.word at (bit_and n mask) (without_bit (Some k) n) is (ap (bit_and n) up ∙ masked n k low may.low));
    adds = λ n w row. quiet basis.schema v w (ap (λ (u : View). u.own) row.is ∙ (taken_sees v pool i (Some k) n row.words).1);
  }

  pub turns_give : (d : Link) (bit at : ℕ) → bit ≡ 2 ^ free_bit d → at ≡ first_free_word z (pool_of d) + free_index d → give.May v d ⊎ give.MayFree z v d
      → MayTurn basis me at (λ n. bit_or n bit) (λ n v w. Frees z d v w) (λ n. SetsBit d)
  turns_give d bit at up is may = record {
    moves = λ ws f s low.
        let n : ℕ = get_or ws at 0 in
        let m : Memory = memory_of z ws in
        let used = in_use z ws f v.pass v s.sound s.here s.long d may in
        let has = has_free_word z d used.0 in
        let found : n ≡ m.free_word (pool_of d) (free_index d) = found_free ws (pool_of d) (free_index d) at is has in
        let clear : bit_of n (free_bit d) ≢ 1 = eqb-false _ 1 (ap (λ (w : ℕ). bit_of w (free_bit d) == 1) found ∙ used.1) in
        let sum : bit_or n bit ≡ m.free_word (pool_of d) (free_index d) + 2 ^ free_bit d = ap (bit_or n) up ∙ (gains n (free_bit d) clear ∙ ap (λ (x : ℕ). x + 2 ^ free_bit d) found) in
        moves_sets z ws f v.pass v s.sound s.here s.long (slice_set ws at (bit_or n bit)) d may
        (λ g. puts_free_word z ws s.long (pool_of d) (free_index d) has at (bit_or n bit) (m.free_word (pool_of d) (free_index d) + 2 ^ free_bit d) is sum);
    adds = λ n w row. quiet basis.schema v w (⊎_elim
        (λ (m : give.May v d). ap (λ (u : View). u.own) (row.0 m).is)
        (λ (m : give.MayFree z v d). ap (λ (u : View). u.own) (row.1 m).is)
        may);
  }

  -- ---- epochs and pins

  pub turns_epoch : (at : ℕ) → at ≡ epoch_place z → MayTurn basis me at (λ n. n) (λ n v w. epoch.Outcome z v w n) (λ n. FindsEpoch n)
  turns_epoch at is = record {
    moves = λ ws f s low.
        let n : ℕ = get_or ws at 0 in
        looks z ws f v.pass v at (λ v w. epoch.Outcome z v w n) (FindsEpoch n) (moves_notes z ws f v.pass v s.sound s.here s.long n (ap (λ (j : ℕ). get_or ws j 0) is));
    adds = λ n w row. quiet basis.schema v w (ap (λ (u : View). u.own) row.is);
  }

  pub turns_advance : (at : ℕ) → at ≡ epoch_place z → z.passes < 2 ^ 32 → advance.May v → MayTurn basis me at (λ n. (n + 1) % 2 ^ 64) (λ n. advance.Outcome) (λ n. RaisesEpoch n)
  turns_advance at is few may = record {
    moves = λ ws f s low.
        let n : ℕ = get_or ws at 0 in
        let found : n ≡ (memory_of z ws).epoch = ap (λ (j : ℕ). get_or ws j 0) is in
        let up : n + 1 ≡ (n + 1) % 2 ^ 64 = sym (mod-eq_of_lt (epoch_fits z ws f v.pass v s.sound s.here s.long n found few)) in
        subst (λ (y : ℕ). Moves z ws f v.pass v (slice_set ws at y) advance.Outcome (RaisesEpoch n)) up
        (moves_advances z ws f v.pass v s.sound s.here s.long (slice_set ws at (n + 1)) n found may (rw is (sets_epoch z ws (get_or ws (epoch_place z) 0 + 1) s.long)));
    adds = λ n w row. quiet basis.schema v w (ap (λ (u : View). u.own) row);
  }

  pub turns_pin : (p x at : ℕ) → p ≡ v.pass → p < z.passes → at ≡ pass_place z p → pin.May v x → MayTurn basis me at (λ _. x) (λ _ v w. pin.Outcome v w x) (λ _. PutsPassWord v.pass x)
  turns_pin p x at own few is may = record {
    moves = λ ws f s low.
        moves_pins z ws f v.pass v s.sound s.here s.long (slice_set ws at x) x may (rw (is, own) (sets_pass_word z ws v.pass x (subst (λ (q : ℕ). q < z.passes) own few) s.long));
    adds = λ n w row. quiet basis.schema v w (ap (λ (u : View). u.own) row ∙ (pinned_sees v x).1);
  }

  pub turns_watch : (q at : ℕ) → at ≡ pass_place z q → watch.May z v q → MayTurn basis me at (λ n. n) (λ n v w. watch.Outcome v w q n) (λ n. FindsPassWord q n)
  turns_watch q at is may = record {
    moves = λ ws f s low.
        let n : ℕ = get_or ws at 0 in
        looks z ws f v.pass v at (λ v w. watch.Outcome v w q n) (FindsPassWord q n)
        (moves_watches z ws f v.pass v s.sound s.here s.long q n may (ap (λ (j : ℕ). get_or ws j 0) is ∙ sym (pass_word_found z ws q may.there)));
    adds = λ n w row. quiet basis.schema v w (ap (λ (u : View). u.own) row);
  }
