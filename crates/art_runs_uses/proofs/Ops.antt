-- The ops of a bench: one more, and another one in the place of one.
use Rattle.std.proofs.Common.{◌≡◌, ◌⊎◌, ◌∙◌, ◌+◌, ◌<◌, ◌≤◌, ℕ, zero, suc, List, [], ◌∷◌, ◌++◌, Some, length, inl, inr, refl, sym, ap, subst, arith, ⊎_elim}
use Rattle.std.proofs.lemmas.List.Edits.{length-insert, length-remove}
use Rattle.std.proofs.lemmas.Option.{same_Some, slice_get_within}
use Rattle.std.specs.List.{insert, remove, slice_get}
use Rattle.art_runs.specs.ArtChange.Calls.{IsCaller}
use Rattle.art_runs.specs.ArtChange.declared.callers.Caller.{Caller}
use Rattle.art_change.proofs.Newcomers.{newcomer_at, newcomer_fresh}
use Rattle.art_change.specs.Writes.{IsFresh}
use Rattle.art_runs.specs.Ops.{IsUnderWay}
use Rattle.art_runs.specs.declared.ops.Op.{Op}
use Rattle.art_runs_uses.specs.Benches.{IsBegun, IsBench}
use Rattle.art_step.specs.Opening.{newcomer}
use Rattle.art_step.specs.WordRows.{newcomers, view_at}
use Rattle.art_step.specs.declared.views.Sizes.{Sizes}
use Rattle.art_step.specs.declared.views.View.{View}
use Rattle.art_world.specs.Contents.{Contents}
use Rattle.art_world.specs.Opening.{OpensAt}

-- ---- lists

module _ {A : Type 0} where
  -- one more at the end
  get_last : (xs : List A) (x y : A) (p : ℕ) → slice_get (xs ++ x ∷ []) p ≡ Some y → (slice_get xs p ≡ Some y) ⊎ ((p ≡ length xs) × (y ≡ x))
  get_last [] x y zero e = inr (refl, sym (same_Some x y e))
  get_last [] x y (suc p) e = absurd (cc)
  get_last (a ∷ xs) x y zero e = inl e
  get_last (a ∷ xs) x y (suc p) e = ⊎_elim (λ (h : slice_get xs p ≡ Some y). inl h) (λ (h : (p ≡ length xs) × (y ≡ x)). inr (ap suc h.0, h.1)) (get_last xs x y p e)

  -- another one in the place of one
  get_replaced : (xs : List A) (i : ℕ) (x y : A) (p : ℕ) → i < length xs → slice_get (insert (remove xs i) i x) p ≡ Some y → (slice_get xs p ≡ Some y) ⊎ ((p ≡ i) × (y ≡ x))
  get_replaced [] i x y p low e = absurd (omega (arith, low))
  get_replaced (a ∷ xs) zero x y zero low e = inr (refl, sym (same_Some x y e))
  get_replaced (a ∷ xs) zero x y (suc p) low e = inl e
  get_replaced (a ∷ xs) (suc i) x y zero low e = inl e
  get_replaced (a ∷ xs) (suc i) x y (suc p) low e =
      ⊎_elim (λ (h : slice_get xs p ≡ Some y). inl h) (λ (h : (p ≡ i) × (y ≡ x)). inr (ap suc h.0, h.1)) (get_replaced xs i x y p (omega (arith, low)) e)

-- ---- a world that just opened

newcomers_count : (k n : ℕ) → length (newcomers k n) ≡ n
newcomers_count k zero = refl
newcomers_count k (suc n) = ap suc (newcomers_count (suc k) n)

-- the op of each pass is under way, of a pass that made no step yet
abbrev pub AreFirst : Sizes → List Op → Type 0
AreFirst z xs = (p : ℕ) (a : Op) → slice_get xs p ≡ Some a → IsUnderWay z a (newcomer p)

pub first_more : (z : Sizes) (xs : List Op) (n : ℕ) (c : Caller) (op : Op) → length xs ≡ n → n < z.passes → ((u : View) → IsFresh z u n → IsCaller z u c) → IsBegun c op → AreFirst z xs
    → AreFirst z (xs ++ op ∷ [])
first_more z xs n c op count low new begun each p a e = ⊎_elim
    (λ (h : slice_get xs p ≡ Some a). each p a h)
    (λ (h : (p ≡ length xs) × (a ≡ op)).
    let first : IsUnderWay z op (newcomer n) = begun z (newcomer n) (new (newcomer n) (newcomer_fresh z n low)) in
    let same : n ≡ p = sym (h.0 ∙ count) in
    subst (λ (b : Op). IsUnderWay z b (newcomer p)) (sym h.1) (subst (λ (q : ℕ). IsUnderWay z op (newcomer q)) same first))
    (get_last xs op a p e)

pub opened_bench : (z : Sizes) (k : ℕ) (w : Contents) (xs : List Op) → OpensAt z k w → length xs ≤ z.passes → AreFirst z xs → IsBench w xs
opened_bench z k w xs opens few each = record {
  few = let count = ap (λ (vs : List View). length vs) opens.views ∙ newcomers_count 0 z.passes in omega (arith, few, count);
  each = λ p a e.
      let view : view_at w.views p ≡ newcomer p = ap (λ (vs : List View). view_at vs p) opens.views ∙ newcomer_at z.passes p in
      subst (λ (y : Sizes). IsUnderWay y a (view_at w.views p)) (sym opens.sizes) (subst (λ (v : View). IsUnderWay z a v) (sym view) (each p a e));
}

-- ---- another op in the place of one that has ended

pub replaced_bench : (w : Contents) (xs : List Op) (i : ℕ) (op : Op) (c : Caller) (next : Op) → IsBench w xs → slice_get xs i ≡ Some op
    → ((z : Sizes) (v : View) → IsUnderWay z op v → IsCaller z v c) → IsBegun c next → IsBench w (insert (remove xs i) i next)
replaced_bench w xs i op c next bench at ended begun =
    let low : i < length xs = slice_get_within xs i op at in
    let less = length-remove xs i low in
    record {
      few = let more = length-insert (remove xs i) i next (omega (arith, low, less)) in let few = bench.few in omega (arith, less, more, few);
      each = λ p a e. ⊎_elim
          (λ (h : slice_get xs p ≡ Some a). bench.each p a h)
          (λ (h : (p ≡ i) × (a ≡ next)).
          let v : View = view_at w.views i in
          let first : IsUnderWay w.sizes next v = begun w.sizes v (ended w.sizes v (bench.each i op at)) in
          subst (λ (b : Op). IsUnderWay w.sizes b (view_at w.views p)) (sym h.1) (subst (λ (q : ℕ). IsUnderWay w.sizes next (view_at w.views q)) (sym h.0) first))
          (get_replaced xs i next a p low e);
    }
