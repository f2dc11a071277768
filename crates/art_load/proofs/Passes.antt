-- A sum over the events of a history, pass by pass.
use Rattle.std.proofs.Common.{◌≡◌, ℕ, ◌+◌, ◌<◌, ◌==◌, nat_lt, Bool, true, false, if◌then◌else◌, refl, sym, ◌∙◌, subst, arith}
use Rattle.std.proofs.Common.{List, [], ◌∷◌, ◌++◌, length, append_assoc, length-append, Some, inl, inr}
use Rattle.std.proofs.lemmas.Bool.Decides.{nat_tests}
use Rattle.std.proofs.lemmas.List.Sums.{sum_by-cons}
use Rattle.std.specs.List.{slice_get, sum_by}
use Rattle.art_key.specs.declared.events.Event.{Event}
use Rattle.art_sessions.proofs.Places.{stands}
use Rattle.art_step.specs.Views.{Member}
use Rattle.art_table.specs.Closing.{places_from}

-- ---- one event

-- what counts from the number n on counts at n, or from n + 1 on
step : (x n v : ℕ) → (if nat_lt x n then 0 else v) ≡ (if x == n then v else 0) + (if nat_lt x (n + 1) then 0 else v)
step x n v = grind (arith, nat_tests)

not_below : (x v : ℕ) → (if nat_lt x 0 then 0 else v) ≡ v
not_below x v = grind (arith, nat_tests)

is_below : (x n v : ℕ) → x < n → (if nat_lt x n then 0 else v) ≡ 0
is_below x n v low = grind (arith, nat_tests)

-- ---- all of them

module _ (w : Event → ℕ) where
  -- what an event of the pass n weighs, and 0 for others
  abbrev pub of_pass : ℕ → Event → ℕ
  of_pass n e = if e.pass == n then w e else 0

  -- what an event of the pass n or of a later one weighs, and 0 for others
  abbrev pub from_pass : ℕ → Event → ℕ
  from_pass n e = if nat_lt e.pass n then 0 else w e

  pub next_pass : (n : ℕ) (es : List Event) → sum_by (from_pass n) es ≡ sum_by (of_pass n) es + sum_by (from_pass (n + 1)) es
  next_pass n [] = refl
  next_pass n (e ∷ es) =
      let one = step e.pass n (w e) in
      let rest = next_pass n es in
      let all = sum_by-cons (from_pass n) e es in
      let here = sum_by-cons (of_pass n) e es in
      let later = sum_by-cons (from_pass (n + 1)) e es in
      omega (arith, one, rest, all, here, later)

  pub all_passes : (es : List Event) → sum_by (from_pass 0) es ≡ sum_by w es
  all_passes [] = refl
  all_passes (e ∷ es) =
      let one = not_below e.pass (w e) in
      let rest = all_passes es in
      let all = sum_by-cons (from_pass 0) e es in
      let same = sum_by-cons w e es in
      omega (arith, one, rest, all, same)

  pub no_pass : (n : ℕ) (es : List Event) → ((e : Event) → Member e es → e.pass < n) → sum_by (from_pass n) es ≡ 0
  no_pass n [] below = refl
  no_pass n (e ∷ es) below =
      let one = is_below e.pass n (w e) (below e (inl refl)) in
      let rest = no_pass n es (λ d m. below d (inr m)) in
      let all = sum_by-cons (from_pass n) e es in
      omega (arith, one, rest, all)

-- ---- at their places

-- a place weighs what the event weighs that stands there
module _ (log : List Event) (w : Event → ℕ) (weight : ℕ → ℕ) (some : (k : ℕ) (e : Event) → slice_get log k ≡ Some e → weight k ≡ w e) where
  one_place : (b : Bool) (k x : ℕ) (rest : List ℕ) → weight k ≡ x
      → sum_by weight (if b then k ∷ rest else rest) ≡ (if b then x else 0) + sum_by weight rest
  one_place true k x rest is = let one = sum_by-cons weight k rest in omega (arith, one, is)
  one_place false k x rest is = omega arith

  places_weigh : (n : ℕ) (front es : List Event) → log ≡ front ++ es
      → sum_by weight (places_from n (length front) es) ≡ sum_by (of_pass w n) es
  places_weigh n front [] is = refl
  places_weigh n front (e ∷ es) is =
      let split : log ≡ (front ++ e ∷ []) ++ es = is ∙ sym (append_assoc front (e ∷ []) es) in
      let here = some (length front) e (stands log front es e split) in
      let next : length (front ++ e ∷ []) ≡ length front + 1 = length-append front (e ∷ []) in
      let rest =
      subst (λ (k : ℕ). sum_by weight (places_from n k es) ≡ sum_by (of_pass w n) es) next
      (places_weigh n (front ++ e ∷ []) es split) in
      let one = one_place (e.pass == n) (length front) (w e) (places_from n (length front + 1) es) here in
      let all = sum_by-cons (of_pass w n) e es in
      omega (arith, rest, one, all)

  -- the places of a pass weigh what its events weigh
  pub pass_weighs : (n : ℕ) → sum_by weight (places_from n 0 log) ≡ sum_by (of_pass w n) log
  pass_weighs n = places_weigh n [] log refl
