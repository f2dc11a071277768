-- A search for a number of a pool, from step to step.
use Rattle.std.proofs.Common.{◌≡◌, ◌≢◌, ℕ, ◌+◌, ◌-◌, ◌*◌, ◌^◌, ◌<◌, ◌≤◌, ◌==◌, Bool, true, false, if◌then◌else◌, nat_lt, List, ◌∷◌, length, inl, inr, ⊎_elim, sym, refl, ap, ◌∙◌, subst, arith, ltb-true, ltb-false, w64}
use Rattle.std.proofs.lemmas.Bool.{cases_Bool, cases_eq, cases_lt, eqb-false, eq-eqb, le-ltb, lt-ltb, ne_eqb}
use Rattle.std.proofs.lemmas.Nat.Bits.{bit_at-trailing_zeros}
use Rattle.std.proofs.lemmas.Option.{same_Some}
use Rattle.std.specs.Int.{trailing_zeros}
use Rattle.std.specs.Prelude.{Option, Some, None, IfSome}
use Rattle.art_cell.specs.declared.cells.Pool.{Pool}
use Rattle.art_step.proofs.Words.{is_word, word_row}
use Rattle.art_step.specs.Acting.{Answers, FindsWord as IsHeard, IsWord, word_in}
use Rattle.art_step.specs.declared.actions.Answer.{Answer}
use Rattle.art_step.specs.declared.actions.Answer.TheVariants.{Word}
use Rattle.art_epoch.specs.Taking.{Fits, GaveNone, IsLowest, IsSearch, IsSeen, MadeFew, NoneAround, OnlyTakes, SearchFits, TookFirst, TookNone, WasFound, WasLost, after_clear, after_look, around, asks, asks_at, looks_made, search_after, steps_left}
use Rattle.art_step.specs.declared.actions.Action.{Action}
use Rattle.art_step.specs.declared.actions.Action.TheVariants.{ClearBit}
use Rattle.art_epoch.specs.declared.stocks.Search.{Search}
use Rattle.art_epoch.specs.declared.stocks.Search.TheVariants.{Looking, Clearing, Took}
use Rattle.art_epoch.specs.declared.stocks.Taking.{Taking}
use Rattle.art_step.specs.declared.views.Found.{Found}
use Rattle.art_step.specs.declared.views.InHand.{InHand}
use Rattle.art_step.specs.declared.views.Sizes.{Sizes}
use Rattle.art_step.specs.declared.views.View.{View}
use Rattle.art_step.proofs.FreeBits.{number_again}
use Rattle.art_step.specs.declared.views.Word.TheVariants.{Free as free_word}
use Rattle.art_step.specs.Steps.Take as take_free
use Rattle.art_step.specs.Views.{IsNumber, Member, bit_of, number_at, pool_rank}

-- ---- words that go round

around_ahead : (words first n : ℕ) → n < words - first → around words first n ≡ first + n
around_ahead words first n low = rw (lt-ltb n (words - first) low) refl

around_back : (words first n : ℕ) → words - first ≤ n → around words first n ≡ n - (words - first)
around_back words first n high = rw (le-ltb n (words - first) high) refl

pub around_inside : (words first n : ℕ) → n < words → around words first n < words
around_inside words first n low = ⊎_elim
    (λ (ahead : n < words - first). let e = around_ahead words first n ahead in omega (arith, e))
    (λ (back : words - first ≤ n). let e = around_back words first n back in omega (arith, e))
    (cases_lt n (words - first))

-- each word comes
around_again : (words first j : ℕ) → j < words → (n : ℕ) × (n < words) × (around words first n ≡ j)
around_again words first j low = ⊎_elim
    (λ (before : j < first). let e = around_back words first (j + (words - first)) (omega arith) in (j + (words - first), omega (arith, low), e ∙ omega arith))
    (λ (past : first ≤ j). let e = around_ahead words first (j - first) (omega arith) in (j - first, omega (arith, low), e ∙ omega arith))
    (cases_lt j first)

-- ---- the view after a word was found

-- from v to w the word was found as x, and nothing else changed but steps, failures and the hand
record FindsWord (v w : View) (pool : Pool) (i x : ℕ) : Type 0 where
  only : OnlyTakes v w
  steps : w.steps ≡ v.steps + 1
  found : w.found ≡ record { word = free_word pool i x; step = v.steps + 1 } ∷ v.found

finds_in : (v : View) (pool : Pool) (i : ℕ) (bit : Option ℕ) (x : ℕ) (ws : List ℕ) → FindsWord v (take_free.view_after v pool i bit x ws) pool i x
finds_in v pool i None x ws = record { only = refl; steps = refl; found = refl }
finds_in v pool i (Some k) x ws = ⊎_elim
    (λ (e : (bit_of x k == 1) ≡ true). rw e record { only = refl; steps = refl; found = refl })
    (λ (e : (bit_of x k == 1) ≡ false). rw e record { only = refl; steps = refl; found = refl })
    (cases_Bool (bit_of x k == 1))

only_then : (u v w : View) → OnlyTakes u v → OnlyTakes v w → OnlyTakes u w
only_then u v w a b = b ∙ ap (λ (y : View). record y { steps = w.steps; failures = w.failures; found = w.found; hand = w.hand }) a

module _ (v w : View) (pool : Pool) (i x : ℕ) (k : FindsWord v w pool i x) where
  -- what was found stays found
  found_on : (since : ℕ) (q : Pool) (j y t : ℕ) → WasFound v since q j y t → WasFound w since q j y t
  found_on since q j y t o = record { later = o.later; found = subst (λ (xs : List Found). Member (record { word = free_word q j y; step = t }) xs) (sym k.found) (inr o.found) }

  gave_none_on : (since : ℕ) (q : Pool) (j : ℕ) → GaveNone v since q j → GaveNone w since q j
  gave_none_on since q j o = ⊎_elim
      (λ (e : (t : ℕ) × WasFound v since q j 0 t). inl (e.0, found_on since q j 0 e.0 e.1))
      (λ (l : WasLost v since q j). inr record {
        word = l.word;
        bit = l.bit;
        lowest = l.lowest;
        at = l.at;
        seen = found_on since q j l.word l.at l.seen;
        again = l.again;
        later = l.later;
        after = l.after;
        gone = l.gone;
        lost = found_on since q j l.again l.later l.lost;
      })
      o

  -- and so does this word
  found_now : (since : ℕ) → since ≤ v.steps → WasFound w since pool i x (v.steps + 1)
  found_now since low = record { later = omega arith; found = subst (λ (xs : List Found). Member (record { word = free_word pool i x; step = v.steps + 1 }) xs) (sym k.found) (inl refl) }

  -- it is the last one that was found there
  last_now : take_free.last_found pool i w.found ≡ x
  last_now = ap (take_free.last_found pool i) k.found ∙ rw (eq-eqb (pool_rank pool) (pool_rank pool) refl, eq-eqb i i refl) refl

  before_on : (since words first n : ℕ) → NoneAround v since pool words first n → NoneAround w since pool words first n
  before_on since words first n o j low = gave_none_on since pool (around words first j) (o j low)

  -- where the word gave none, neither did those before the next
  before_next : (since words first n : ℕ) → i ≡ around words first n → NoneAround v since pool words first n → GaveNone w since pool i → NoneAround w since pool words first (n + 1)
  before_next since words first n here o none j low = ⊎_elim
      (λ (e : j ≡ n). subst (GaveNone w since pool) (here ∙ ap (around words first) (sym e)) none)
      (λ (other : j ≢ n). before_on since words first n o j (omega arith))
      (cases_eq j n)

-- ---- from stage to stage

lowest_bit : (x : ℕ) → x ≢ 0 → x < 2 ^ 64 → IsLowest x (trailing_zeros w64 x)
lowest_bit x some low = let k = bit_at-trailing_zeros w64 x (omega arith) low in record { low = k.0; is = k.1; least = k.2 }

module _ (z : Sizes) (v0 : View) (m : Taking) (v w : View) (x : ℕ) (fits : Fits z v0 m v) where
  abbrev After : Search → Type 0
  After s = Fits z v0 (record m { search = s }) w

  module _ (i : ℕ) (bit : Option ℕ) (row : take_free.Outcome z v w m.pool i bit x) where
    finds : FindsWord v w m.pool i x
    finds = subst (λ (u : View). FindsWord v u m.pool i x) (sym row.is) (finds_in v m.pool i bit x row.words)

    -- the search has come to another stage
    comes_to : (s : Search) → v.steps + 1 + steps_left m.words s ≤ v0.steps + 2 * m.words → v.steps + 1 + v0.failures ≤ v0.steps + looks_made s + w.failures → v.failures ≤ w.failures
        → SearchFits z v0 w m.pool m.words m.first s → After s
    comes_to s few counted failed search = let e = finds.steps in let some = fits.some in let before = fits.failed in record {
      words = fits.words;
      few = fits.few;
      only = only_then v0 v w fits.only finds.only;
      steps = omega arith;
      some = omega arith;
      counted = omega (arith, e, counted);
      failed = omega (arith, before, failed);
      search = search;
    }

  -- how many steps were made before
  counted_at : (s : Search) → m.search ≡ s → MadeFew v0 v (looks_made s)
  counted_at s is = subst (λ (t : Search). MadeFew v0 v (looks_made t)) is fits.counted

  -- the index of the word that comes after so many
  abbrev at : ℕ → ℕ
  at n = around m.words m.first n

  -- a word was looked at
  looks : (n : ℕ) → m.search ≡ Looking n → n < m.words → x < 2 ^ 64 → take_free.Outcome z v w m.pool (at n) None x → After (after_look n x)
  looks n is inside low row =
      let was : SearchFits z v0 v m.pool m.words m.first (Looking n) = subst (SearchFits z v0 v m.pool m.words m.first) is fits.search in
      let steps : v.steps + 2 * (m.words - n) ≤ v0.steps + 2 * m.words = subst (λ (s : Search). v.steps + steps_left m.words s ≤ v0.steps + 2 * m.words) is fits.steps in
      let k = finds (at n) None row in
      let hand : w.hand ≡ v0.hand = ap (λ (u : View). u.hand) row.is ∙ was.2 in
      let same : w.failures ≡ v.failures = ap (λ (u : View). u.failures) row.is in
      let counted = counted_at (Looking n) is in
      let now : WasFound w v0.steps m.pool (at n) x (v.steps + 1) = found_now v w m.pool (at n) x k v0.steps fits.some in
      ⊎_elim
      (λ (none : x ≡ 0).
      rw (eq-eqb x 0 none) (comes_to (at n) None row (Looking (n + 1)) (omega arith) (omega (arith, same, counted)) (omega (arith, same))
      (omega arith, before_next v w m.pool (at n) x k v0.steps m.words m.first n refl was.1 (inl (v.steps + 1, subst (λ (y : ℕ). WasFound w v0.steps m.pool (at n) y (v.steps + 1)) none now)), hand)))
      (λ (some : x ≢ 0).
      rw (ne_eqb x 0 some) (comes_to (at n) None row (Clearing n (trailing_zeros w64 x)) (omega arith) (omega (arith, same, counted)) (omega (arith, same)) record {
        inside = inside;
        before = before_on v w m.pool (at n) x k v0.steps m.words m.first n was.1;
        word = x;
        lowest = lowest_bit x some low;
        at = v.steps + 1;
        past = let e = k.steps in omega arith;
        found = now;
        last = last_now v w m.pool (at n) x k;
        hand = hand;
      }))
      (cases_eq x 0)

  -- a bit was cleared, or was not there any more
  clears : (n k : ℕ) → m.search ≡ Clearing n k → take_free.Outcome z v w m.pool (at n) (Some k) x → After (after_clear n k x)
  clears n k is row =
      let was : IsSeen v0 v m.pool m.words m.first n k = subst (SearchFits z v0 v m.pool m.words m.first) is fits.search in
      let steps : v.steps + (2 * (m.words - n) - 1) ≤ v0.steps + 2 * m.words = subst (λ (s : Search). v.steps + steps_left m.words s ≤ v0.steps + 2 * m.words) is fits.steps in
      let inside = was.inside in
      let f = finds (at n) (Some k) row in
      by_bit was f (bit_of x k == 1) refl row.there row.long (ap (λ (u : View). u.hand) row.is) (ap (λ (u : View). u.failures) row.is)
    where
      cleared_view : Bool → View
      cleared_view b = if b then record (take_free.view_noted v m.pool (at n) x) { hand = record { link = number_at m.pool (at n) k; words = row.words } ∷ v.hand }
          else record (take_free.view_noted v m.pool (at n) x) { failures = v.failures + bit_of (take_free.last_found m.pool (at n) v.found) k }

      -- the bit was there when the word was last found: it was lost, which is a failure
      lost_one : IsSeen v0 v m.pool m.words m.first n k → (bit_of x k == 1) ≡ false → w.failures ≡ (take_free.view_after v m.pool (at n) (Some k) x row.words).failures → w.failures ≡ v.failures + 1
      lost_one was unset failures =
          failures ∙ ap (λ (b : Bool). (cleared_view b).failures) unset ∙ ap (λ (c : ℕ). v.failures + c) (ap (λ (y : ℕ). bit_of y k) was.last ∙ was.lowest.is)

      by_bit : (was : IsSeen v0 v m.pool m.words m.first n k) → FindsWord v w m.pool (at n) x → (b : Bool) → (bit_of x k == 1) ≡ b
          → IfSome (if b then Some (number_at m.pool (at n) k) else None) (λ d. IsNumber z d) → IfSome (if b then Some (number_at m.pool (at n) k) else None) (λ d. length row.words ≡ take_free.word_count_of d)
          → w.hand ≡ (take_free.view_after v m.pool (at n) (Some k) x row.words).hand → w.failures ≡ (take_free.view_after v m.pool (at n) (Some k) x row.words).failures
          → After (if b then Took n k else Looking (n + 1))
      by_bit was f true set there long hand failures = comes_to (at n) (Some k) row (Took n k) (let inside = was.inside in let all = subst (λ (s : Search). v.steps + steps_left m.words s ≤ v0.steps + 2 * m.words) is fits.steps in omega arith)
          (let same : w.failures ≡ v.failures = failures ∙ ap (λ (b : Bool). (cleared_view b).failures) set in let counted = counted_at (Clearing n k) is in omega (arith, same, counted))
          (let same : w.failures ≡ v.failures = failures ∙ ap (λ (b : Bool). (cleared_view b).failures) set in omega (arith, same)) record {
            inside = was.inside;
            low = was.lowest.low;
            before = before_on v w m.pool (at n) x f v0.steps m.words m.first n was.before;
            took = record {
              index = at n;
              bit = k;
              is = refl;
              there = there;
              fits = let again = number_again m.pool (64 * at n + k) in let inside = around_inside m.words m.first n was.inside in let low = was.lowest.low in let few = fits.few in omega (arith, again, inside, low, few);
              word = was.word;
              lowest = was.lowest;
              at = was.at;
              found = found_on v w m.pool (at n) x f v0.steps m.pool (at n) was.word was.at was.found;
              words = row.words;
              long = long;
              hand = hand ∙ (ap (λ (b : Bool). (cleared_view b).hand) set
                  ∙ ap (λ (h : List InHand). record { link = number_at m.pool (at n) k; words = row.words } ∷ h) was.hand);
            };
            is = refl;
          }
      by_bit was f false unset there long hand failures = comes_to (at n) (Some k) row (Looking (n + 1)) (let inside = was.inside in let all = subst (λ (s : Search). v.steps + steps_left m.words s ≤ v0.steps + 2 * m.words) is fits.steps in omega arith)
          (let more = lost_one was unset failures in let counted = counted_at (Clearing n k) is in omega (arith, more, counted)) (let more = lost_one was unset failures in omega (arith, more)) (
            let inside = was.inside in omega arith,
            before_next v w m.pool (at n) x f v0.steps m.words m.first n refl was.before (inr record {
              word = was.word;
              bit = k;
              lowest = was.lowest;
              at = was.at;
              seen = found_on v w m.pool (at n) x f v0.steps m.pool (at n) was.word was.at was.found;
              again = x;
              later = v.steps + 1;
              after = let past = was.past in omega arith;
              gone = let not_one = eqb-false (bit_of x k) 1 unset in omega arith;
              lost = found_now v w m.pool (at n) x f v0.steps fits.some;
            }),
            hand ∙ (ap (λ (b : Bool). (cleared_view b).hand) unset ∙ was.hand),
          )

-- what was asked at a stage
asked_looking : (pool : Pool) (words first n : ℕ) (a : Action) → asks_at pool words first (Looking n) ≡ Some a → (n < words) × (ClearBit pool (around words first n) None ≡ a)
asked_looking pool words first n a is = by_test (nat_lt n words) refl is
  where
    by_test : (b : Bool) → nat_lt n words ≡ b → (if b then Some (ClearBit pool (around words first n) None) else None) ≡ Some a → (n < words) × (ClearBit pool (around words first n) None ≡ a)
    by_test true low e = (ltb-true n words low, same_Some _ a e)
    by_test false low e = absurd (cc)

-- the machine goes on as the step was answered
pub told_fits : (z : Sizes) (v0 : View) (m : Taking) (v w : View) (a : Action) (answer : Answer) → word_in answer < 2 ^ 64 → Fits z v0 m v → asks m ≡ Some a → Answers z None a answer v w
    → Fits z v0 (record m { search = search_after (word_in answer) m.search }) w
told_fits z v0 m v w a answer low fits asked row = by_search m.search refl asked
  where
    x : ℕ
    x = word_in answer

    at : (b : Action) → b ≡ a → IsHeard b → Answers z None b (Word x) v w
    at b same finds = word_row z None b answer v w finds (subst (λ (c : Action). Answers z None c answer v w) (sym same) row)

    by_search : (s : Search) → m.search ≡ s → asks_at m.pool m.words m.first s ≡ Some a → Fits z v0 (record m { search = search_after x s }) w
    by_search (Looking n) is e = let k = asked_looking m.pool m.words m.first n a e in looks z v0 m v w x fits n is k.0 low (at _ k.1 tt)
    by_search (Clearing n k) is e = clears z v0 m v w x fits n k is (at _ (same_Some (ClearBit m.pool (around m.words m.first n) (Some k)) a e) tt)
    by_search (Took n k) is e = absurd (cc)

-- what it asks for finds a word
pub hears_word : (z : Sizes) (m : Taking) (v w : View) (a : Action) (answer : Answer) → asks m ≡ Some a → Answers z None a answer v w → IsWord answer
hears_word z m v w a answer asked row = by_search m.search asked
  where
    at : (b : Action) → b ≡ a → IsHeard b → IsWord answer
    at b same finds = is_word z None b answer v w finds (subst (λ (c : Action). Answers z None c answer v w) (sym same) row)

    by_search : (s : Search) → asks_at m.pool m.words m.first s ≡ Some a → IsWord answer
    by_search (Looking n) e = at _ (asked_looking m.pool m.words m.first n a e).1 tt
    by_search (Clearing n k) e = at _ (same_Some (ClearBit m.pool (around m.words m.first n) (Some k)) a e) tt
    by_search (Took n k) e = absurd (cc)

-- ---- the stage is one of 32 bits

pub is_search : (z : Sizes) (v0 : View) (m : Taking) (v : View) (a : Action) → Fits z v0 m v → asks m ≡ Some a → IsSearch m.search
is_search z v0 m v a fits asked = by_search m.search fits.search asked
  where
    by_search : (s : Search) → SearchFits z v0 v m.pool m.words m.first s → asks_at m.pool m.words m.first s ≡ Some a → IsSearch s
    by_search (Looking n) k e = let low = (asked_looking m.pool m.words m.first n a e).0 in let few = fits.few in omega arith
    by_search (Clearing n k) o e = let low = o.inside in let few = fits.few in (omega arith, o.lowest.low)
    by_search (Took n k) o e = tt

-- a number that was taken fits 32 bits
pub took_low : (z : Sizes) (v0 : View) (m : Taking) (v : View) (n k : ℕ) → Fits z v0 m v → m.search ≡ Took n k → 64 * around m.words m.first n + k < 2 ^ 32
took_low z v0 m v n k fits is =
    let o = subst (SearchFits z v0 v m.pool m.words m.first) is fits.search in
    let low = around_inside m.words m.first n o.inside in
    let bit = o.low in
    let few = fits.few in
    omega (arith, low, bit, few)

-- ---- how many steps were made

-- at most one for each word, one more, and one for each failure
pub few_looks : (z : Sizes) (v0 : View) (m : Taking) (v : View) → Fits z v0 m v → MadeFew v0 v (m.words + 1)
few_looks z v0 m v fits =
    let few = few_at m.search fits.search in
    let counted = fits.counted in
    omega (arith, few, counted)
  where
    few_at : (s : Search) → SearchFits z v0 v m.pool m.words m.first s → looks_made s ≤ m.words + 1
    few_at (Looking n) o = let low = o.0 in omega (arith, low)
    few_at (Clearing n k) o = let low = o.inside in omega (arith, low)
    few_at (Took n k) o = let low = o.inside in omega (arith, low)

-- ---- how it ends

pub took : (z : Sizes) (v0 : View) (m : Taking) (v : View) (n k : ℕ) → Fits z v0 m v → m.search ≡ Took n k → TookFirst z v0 v m.pool m.first (number_at m.pool (around m.words m.first n) k)
took z v0 m v n k fits is =
    let o = subst (SearchFits z v0 v m.pool m.words m.first) is fits.search in
    let low = o.inside in
    let words = fits.words in
    record {
      took = o.took;
      passed = n;
      few = omega (arith, low, words);
      is = o.is ∙ ap (λ (c : ℕ). around c m.first n) words;
      before = subst (λ (c : ℕ). NoneAround v v0.steps m.pool c m.first n) words o.before;
    }

pub none_taken : (z : Sizes) (v0 : View) (m : Taking) (v : View) → Fits z v0 m v → asks m ≡ None → ((n k : ℕ) → m.search ≢ Took n k) → TookNone z v0 v m.pool
none_taken z v0 m v fits asked other = by_search m.search refl fits.search asked
  where
    by_search : (s : Search) → m.search ≡ s → SearchFits z v0 v m.pool m.words m.first s → asks_at m.pool m.words m.first s ≡ None → TookNone z v0 v m.pool
    by_search (Looking n) is o e = by_test (nat_lt n m.words) refl e
      where
        by_test : (b : Bool) → nat_lt n m.words ≡ b → (if b then Some (ClearBit m.pool (around m.words m.first n) None) else None) ≡ None → TookNone z v0 v m.pool
        by_test true low e = absurd (cc)
        by_test false high e =
            let past : m.words ≤ n = ltb-false n m.words high in
            let words = fits.words in
            record {
              none = λ j low.
                  let p = around_again m.words m.first j (omega (arith, low, words)) in
                  let inside = p.1 in
                  subst (GaveNone v v0.steps m.pool) p.2 (o.1 p.0 (omega (arith, inside, past)));
              hand = o.2;
            }
    by_search (Clearing n k) is o e = absurd (cc)
    by_search (Took n k) is o e = absurd (other n k is)
