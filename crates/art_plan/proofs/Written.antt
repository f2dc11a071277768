-- Words that are written one after another.
use Rattle.std.proofs.Common.{◌≡◌, Bool, ℕ, ◌+◌, ◌<◌, ◌≤◌, List, [], Option, Some, true, false, length, refl, sym, ap, ◌∙◌, subst, arith}
use Rattle.std.proofs.lemmas.Option.{slice_get_within}
use Rattle.art_cell.specs.Words.{size}
use Rattle.art_cell.specs.declared.cells.Node.{Node}
use Rattle.art_cell.specs.declared.cells.Layout.{Layout}
use Rattle.art_cell.specs.declared.cells.Layout.TheVariants.{Node4, Node16, Node48, Node256}
use Rattle.art_plan.proofs.Told.{claim_some, few_filled, two_are}
use Rattle.art_plan.specs.Apply.{Fits, IsLocking, OnlyWrites, at_fill, fills_left, is_writing, most_steps, so_many, words_left}
use Rattle.art_plan.specs.declared.apply.Apply.{Apply}
use Rattle.art_plan.specs.declared.apply.Apply.TheVariants.{Upgrading, Claiming, Filling, Writing, Committing, Releasing, ReleasingNode, GivingUp, Ended}
use Rattle.art_plan.specs.Changes.{filled_at, targets}
use Rattle.art_plan.specs.Whole.{filled_ends, made_at}
use Rattle.art_plan.specs.declared.changes.Change.{Change}
use Rattle.art_step.specs.Steps.Write as write
use Rattle.art_step.specs.declared.views.Holding.{Holding}
use Rattle.art_step.specs.declared.views.Sizes.{Sizes}
use Rattle.art_step.specs.declared.views.View.{View}

-- one of them
pub one_write : (v w : View) (h : Holding) (i x : ℕ) → write.Outcome v w h i x → OnlyWrites v w 1
one_write v w h i x k = k.is ∙ ap (λ (hs : List Holding). record v { steps = v.steps + 1; held = hs }) (sym (ap (λ (t : View). t.held) k.is))

-- more of them
pub more_writes : (v w x : View) (n m k : ℕ) → OnlyWrites v w n → OnlyWrites w x m → k ≡ n + m → OnlyWrites v x k
more_writes v w x n m k first then is =
    let all : v.steps + n + m ≡ v.steps + k = omega arith in
    then ∙ (ap (λ (t : View). record t { steps = t.steps + m; held = x.held }) first ∙ ap (λ (s : ℕ). record v { steps = s; held = x.held }) all)

pub writes_steps : (v w : View) (n : ℕ) → OnlyWrites v w n → w.steps ≡ v.steps + n
writes_steps v w n only = ap (λ (t : View). t.steps) only

pub writes_failures : (v w : View) (n : ℕ) → OnlyWrites v w n → w.failures ≡ v.failures
writes_failures v w n only = ap (λ (t : View). t.failures) only

-- ---- the words that are left

-- there is one of a new node whose words are not all written
pub some_fills : (c : Change) (b : Bool) (place : ℕ) → place < filled_ends c b → 0 < fills_left c b place
some_fills c false place low = omega (arith, low)
some_fills c true place low = omega (arith, low)

-- with those that are made, there are no more steps than before the first word of a target
pub few_fills : (c : Change) (b : Bool) (place : ℕ) → place < filled_ends c b → most_steps (Filling b place) + fills_left c b place ≤ most_steps (Writing 0)
few_fills c false place low = let first = few_filled c (made_at false c) in let copy = few_filled c (made_at true c) in omega (arith, low, first, copy)
few_fills c true place low = let few = few_filled c (made_at true c) in omega (arith, low, few)

module _ (z : Sizes) (u v : View) (c : Change) where
  -- there is one
  pub some_words : (m : Apply) → Fits z c m u v → is_writing m ≡ true → 0 < words_left c m
  some_words (Upgrading i) fits on = absurd (cc)
  some_words (Claiming b) fits on = absurd (cc)
  some_words (Filling b place) fits on = let some = some_fills c b place fits.stage.1 in omega (arith, some)
  some_words (Writing j) fits on =
      let p = fits.stage.0 in
      let low : j < length c.puts.items = slice_get_within c.puts.items j p.0 p.1 in
      omega (arith, low)
  some_words Committing fits on = absurd (cc)
  some_words (Releasing i) fits on = absurd (cc)
  some_words (ReleasingNode b) fits on = absurd (cc)
  some_words (GivingUp locked released e) fits on = absurd (cc)
  some_words (Ended r) fits on = absurd (cc)

  -- with those that are made, there are no more steps than before a commit
  pub few_words_left : (m : Apply) → Fits z c m u v → is_writing m ≡ true → most_steps m + words_left c m ≤ most_steps Committing
  few_words_left (Upgrading i) fits on = absurd (cc)
  few_words_left (Claiming b) fits on = absurd (cc)
  few_words_left (Filling b place) fits on =
      let few = few_fills c b place fits.stage.1 in
      let puts = fits.small.puts in
      omega (arith, few, puts)
  few_words_left (Writing j) fits on =
      let p = fits.stage.0 in
      let low : j < length c.puts.items = slice_get_within c.puts.items j p.0 p.1 in
      let puts = fits.small.puts in
      omega (arith, low, puts)
  few_words_left Committing fits on = absurd (cc)
  few_words_left (Releasing i) fits on = absurd (cc)
  few_words_left (ReleasingNode b) fits on = absurd (cc)
  few_words_left (GivingUp locked released e) fits on = absurd (cc)
  few_words_left (Ended r) fits on = absurd (cc)

-- ---- from the first new node to the copy

more_words : (k : Layout) → 1 < size k
more_words Node4 = omega arith
more_words Node16 = omega arith
more_words Node48 = omega arith
more_words Node256 = omega arith

-- with both filled all is
pub both_filled : (u v : View) (c : Change) (n : ℕ) → n ≡ filled_ends c true → IsLocking u c (targets c) [] (so_many (filled_ends c false) n) v → IsLocking u c (targets c) [] (filled_ends c) v
both_filled u v c n is = subst (λ (f : Bool → ℕ). IsLocking u c (targets c) [] f v) (two_are (so_many (filled_ends c false) n) (filled_ends c) refl is)

-- once the words of the first are written, those of the copy are next
pub copy_is_next : (z : Sizes) (u v w : View) (c : Change) (place n : ℕ) (m : Node) → made_at true c ≡ Some m → Fits z c (Filling false place) u v → OnlyWrites v w n → n + place ≡ filled_ends c false
    → IsLocking u c (targets c) [] (at_fill c false (filled_ends c false)) w → Fits z c (Filling true 1) u w
copy_is_next z u v w c place n m made fits only count locking = record {
  planned = fits.planned;
  small = fits.small;
  stage = (
    omega arith,
    subst (λ (o : Option Node). 1 < filled_at c o) (sym made) (more_words m.layout),
    subst (λ (k : ℕ). IsLocking u c (targets c) [] (so_many (filled_ends c false) k) w) (claim_some c true m made) locking,
  );
  steps =
      let before = fits.steps in
      let is = writes_steps v w n only in
      let few = few_filled c (made_at false c) in
      omega (arith, before, is, few, count);
}
