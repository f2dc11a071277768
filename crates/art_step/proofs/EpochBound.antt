-- How far the epoch goes up: together with the passes that may still raise it, it stays below its bound.
use Rattle.std.proofs.Common.{◌≡◌, ◌≢◌, ℕ, zero, suc, ◌+◌, ◌^◌, ◌<◌, ◌≤◌, Bool, true, false, if◌then◌else◌, ⊎_elim, refl, ap, ◌∙◌, arith, lt-ltb, le-ltb}
use Rattle.std.proofs.lemmas.Bool.{cases_eq, cases_lt}
use Rattle.std.specs.Prelude.{Option, Some, None, nat_lt}
use Rattle.art_step.specs.declared.views.EpochSeen.{EpochSeen}
use Rattle.art_step.specs.declared.views.View.{View}
use Rattle.art_step.specs.Sound.{early, early_of, early_notes}
use Rattle.art_step.specs.Views.{SetsView, Views}

early_one : (o : Option EpochSeen) → early o ≤ 1
early_one None = omega arith
early_one (Some t) = elim (nat_lt t.epoch (2 ^ 62)) as (λ (b : Bool). (if b then 1 else 0) ≤ 1) [ true ↦ omega arith | false ↦ omega arith ]

early_of_one : (o : Option View) → early_of o ≤ 1
early_of_one None = omega arith
early_of_one (Some v) = early_one v.noted

-- no more passes may raise it than there are
early_few : (f : Views) (n : ℕ) → early_notes f n ≤ n
early_few f zero = omega arith
early_few f (suc n) = let a = early_of_one (f n) in let b = early_few f n in omega arith

module _ (f g : Views) (p : ℕ) (w : View) (t : SetsView f p w g) where
  same_below : (n : ℕ) → n ≤ p → early_notes g n ≡ early_notes f n
  same_below zero low = refl
  same_below (suc n) low =
      let a = same_below n (omega arith) in
      let other : n ≢ p = λ (e : n ≡ p). omega arith in
      let b : early_of (g n) ≡ early_of (f n) = ap early_of (t.there n other) in omega arith

  -- the count changes by what the one view says
  one_turns : (n : ℕ) → p < n → early_notes g n + early_of (f p) ≡ early_notes f n + early_of (g p)
  one_turns zero low = absurd (omega arith)
  one_turns (suc n) low = ⊎_elim
      (λ (is : n ≡ p).
      let a = same_below n (omega arith) in
      let b : early_of (f n) ≡ early_of (f p) = ap (λ (x : ℕ). early_of (f x)) is in
      let c : early_of (g n) ≡ early_of (g p) = ap (λ (x : ℕ). early_of (g x)) is in omega arith)
      (λ (other : n ≢ p).
      let a = one_turns n (omega arith) in
      let b : early_of (g n) ≡ early_of (f n) = ap early_of (t.there n other) in omega arith)
      (cases_eq n p)

  module _ (n : ℕ) (v : View) (inside : p < n) (at : f p ≡ Some v) (x : ℕ) (old : x + early_notes f n < 2 ^ 62 + n) where
    -- the pass keeps its note
    pub bound_rests : w.noted ≡ v.noted → x + early_notes g n < 2 ^ 62 + n
    bound_rests same =
        let a = one_turns n inside in
        let b : early_of (f p) ≡ early v.noted = ap early_of at in
        let c : early_of (g p) ≡ early v.noted = ap early_of t.here ∙ ap early same in omega arith

    -- it notes the epoch
    pub bound_notes : (s : EpochSeen) → w.noted ≡ Some s → s.epoch ≡ x → x + early_notes g n < 2 ^ 62 + n
    bound_notes s same is =
        let a = one_turns n inside in
        let few = early_few g n in
        let c : early_of (g p) ≡ early (Some s) = ap early_of t.here ∙ ap early same in
        ⊎_elim
        (λ (under : s.epoch < 2 ^ 62). omega arith)
        (λ (above : 2 ^ 62 ≤ s.epoch). let none : early (Some s) ≡ 0 = ap (λ (b : Bool). if b then 1 else 0) (le-ltb s.epoch (2 ^ 62) above) in omega arith)
        (cases_lt s.epoch (2 ^ 62))

    -- it spends a note, and raises the epoch
    pub bound_rises : (s : EpochSeen) → v.noted ≡ Some s → s.epoch < 2 ^ 62 → w.noted ≡ None → (x + 1) + early_notes g n < 2 ^ 62 + n
    bound_rises s was under none =
        let a = one_turns n inside in
        let one : early (Some s) ≡ 1 = ap (λ (b : Bool). if b then 1 else 0) (lt-ltb s.epoch (2 ^ 62) under) in
        let b : early_of (f p) ≡ early (Some s) = ap early_of at ∙ ap early was in
        let c : early_of (g p) ≡ 0 = ap early_of t.here ∙ ap early none in omega arith
