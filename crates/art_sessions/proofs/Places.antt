-- Places in a history.
use Rattle.std.proofs.Common.{◌≡◌, ℕ, ◌+◌, ◌<◌, ◌≤◌, List, [], ◌∷◌, ◌++◌, length, take, append_assoc, length-append, Some, sym, ap, ◌∙◌, arith}
use Rattle.std.proofs.lemmas.Option.{slice_get-get_or}
use Rattle.std.proofs.Math.Seq.{get_or-append_seam, take-append_seam}
use Rattle.std.specs.List.{AllByRecursion, slice_get}
use Rattle.art_key.specs.declared.events.Event.{Event}
use Rattle.art_sessions.specs.Points.{IsWithin}
use Rattle.art_server.specs.ArtTable.Marks.{StartsWith}

-- ---- what stands after a front

at_seam : (xs ys : List Event) (e : Event) → slice_get (xs ++ e ∷ ys) (length xs) ≡ Some e
at_seam xs ys e =
    let long = length-append xs (e ∷ ys) in
    let here : length xs < length (xs ++ e ∷ ys) = omega (arith, long) in
    slice_get-get_or (xs ++ e ∷ ys) (length xs) e here ∙ ap (λ (x : Event). Some x) (get_or-append_seam xs e ys e)

module _ (log before rest : List Event) (e : Event) (split : log ≡ (before ++ e ∷ []) ++ rest) where
  pub stands : slice_get log (length before) ≡ Some e
  stands = ap (λ (l : List Event). slice_get l (length before)) (split ∙ append_assoc before (e ∷ []) rest) ∙ at_seam before rest e

  pub front : take (length before) log ≡ before
  front = ap (take (length before)) (split ∙ append_assoc before (e ∷ []) rest) ∙ take-append_seam before (e ∷ rest)

  pub front_more : take (length before + 1) log ≡ before ++ e ∷ []
  front_more =
      ap (λ (k : ℕ). take k log) (sym (length-append before (e ∷ [])))
      ∙ (ap (take (length (before ++ e ∷ []))) split ∙ take-append_seam (before ++ e ∷ []) rest)

-- ---- places within others

pub no_shorter : (a b : List Event) → StartsWith b a → length a ≤ length b
no_shorter a b starts =
    let long = ap (length {A = Event}) starts.1 in
    let parts = length-append a starts.0 in
    omega (arith, long, parts)

pub all_within : (from to lower upper : ℕ) → lower ≤ from → to ≤ upper → (ks : List ℕ) → AllByRecursion (IsWithin from to) ks → AllByRecursion (IsWithin lower upper) ks
all_within from to lower upper low high [] are = tt
all_within from to lower upper low high (k ∷ ks) are =
    ((omega (arith, are.0.0, low), omega (arith, are.0.1, high)), all_within from to lower upper low high ks are.1)
