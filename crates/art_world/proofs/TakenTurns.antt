-- One turn of an actor, and a list of turns.
use Rattle.std.proofs.Common.{◌≡◌, ◌≢◌, ℕ, zero, suc, ◌+◌, ◌<◌, ◌≤◌, List, [], ◌∷◌, Bool, true, Some, inl, inr, refl, length, take, get_or, set, sym, ap, ◌∙◌, subst, ⊎_elim, arith, get_or-set_other, get_or-set_same}
use Rattle.std.proofs.lemmas.Bool.{cases_eq, cases_lt}
use Rattle.std.proofs.lemmas.List.{length-set}
use Rattle.std.proofs.lemmas.Option.{same_Some, slice_get_past, slice_get_within, slice_get-get_or}
use Rattle.std.specs.List.{slice_get}
use Rattle.art_step.specs.declared.views.Retired.{Retired}
use Rattle.art_step.specs.declared.views.Sizes.{Sizes}
use Rattle.art_step.specs.declared.views.View.{View}
use Rattle.art_step.specs.Opening.{newcomer}
use Rattle.art_step.specs.Steps.{OneStep}
use Rattle.art_step.specs.Steps.Give.{WentBack}
use Rattle.art_step.proofs.Gathered.{member_key}
use Rattle.art_step.proofs.LimboWaits.{limbo_law}
use Rattle.art_step.proofs.Determined.{step_view, steps_count}
use Rattle.art_world.specs.Turns.{CountsOne, FreesUnderNobody, IsRun, IsTurn, MakesOne, NamesNobody, TakesTurn}
use Rattle.art_world.specs.Contents.{AtOnce, Chain, Contents, OnlyStepsOf, memory_now}
use Rattle.art_step.specs.WordRows.{view_at, views_of}

-- ---- an actor in its place

pub placed_here : {A : Type 0} (xs : List A) (p : ℕ) (x : A) → p < length xs → slice_get (set xs p x) p ≡ Some x
placed_here xs p x inside =
    slice_get-get_or (set xs p x) p x (subst (λ (n : ℕ). p < n) (sym (length-set xs p x)) inside) ∙ ap Some (get_or-set_same xs p x x inside)

pub placed_there : {A : Type 0} (xs : List A) (p q : ℕ) (x : A) → q ≢ p → slice_get (set xs p x) q ≡ slice_get xs q
placed_there {A} xs p q x other =
    ⊎_elim
    (λ (low : q < length xs).
    slice_get-get_or (set xs p x) q x (subst (λ (n : ℕ). q < n) (sym (length-set xs p x)) low)
    ∙ (ap Some (get_or-set_other xs p q x x other) ∙ sym (slice_get-get_or xs q x low)))
    (λ (past : length xs ≤ q).
    slice_get_past (set xs p x) q (subst (λ (n : ℕ). n ≤ q) (sym (length-set xs p x)) past) ∙ sym (slice_get_past xs q past))
    (cases_lt q (length xs))

-- what each actor knows of its pass's view holds on, where one has made its turn
pub fits_on : {A : Type 0} (Fits : A → Sizes → View → Type 0) (k l : Contents) (xs : List A) (p : ℕ) (x : A) → p < length xs → OnlyStepsOf k l p → Fits x l.sizes (view_at l.views p)
    → ((q : ℕ) (a : A) → slice_get xs q ≡ Some a → Fits a k.sizes (view_at k.views q)) → (q : ℕ) (a : A) → slice_get (set xs p x) q ≡ Some a → Fits a l.sizes (view_at l.views q)
fits_on {A} Fits k l xs p x inside only mine all q a is =
    ⊎_elim
    (λ (e : q ≡ p).
    let same : x ≡ a = same_Some x a (sym (placed_here xs p x inside) ∙ (ap (slice_get (set xs p x)) (sym e) ∙ is)) in
    subst (λ (i : ℕ). Fits a l.sizes (view_at l.views i)) (sym e) (subst (λ (b : A). Fits b l.sizes (view_at l.views p)) same mine))
    (λ (other : q ≢ p).
    subst (λ (v : View). Fits a l.sizes v) (sym (only.others q other))
    (subst (λ (z : Sizes). Fits a z (view_at k.views q)) (sym only.sizes) (all q a (sym (placed_there xs p q x other) ∙ is))))
    (cases_eq q p)

-- ---- each step counts

-- the view of a pass that there is
seen_at : (vs : List View) (p : ℕ) (v : View) → views_of vs p ≡ Some v → view_at vs p ≡ v
seen_at vs p v is = same_Some _ v (sym (slice_get-get_or vs p (newcomer p) (slice_get_within vs p v is)) ∙ is)

-- so many steps of a pass raise its count by so many
chain_counts : (n p : ℕ) (v : View) (a b : Contents) → views_of a.views p ≡ Some v → Chain n p a b → (w : View) × (views_of b.views p ≡ Some w) × (w.steps ≡ v.steps + n)
chain_counts zero p v a b at none = (v, subst (λ (k : Contents). views_of k.views p ≡ Some v) (sym none) at, omega arith)
chain_counts (suc n) p v a b at (c, sizes, step, rest) =
    let w = step_view a.sizes p (memory_now a) (views_of a.views) (memory_now c) (views_of c.views) step in
    let one = steps_count a.sizes p v w.0 (memory_now a) (views_of a.views) (memory_now c) (views_of c.views) step at w.1.here in
    let more = chain_counts n p w.0 c b w.1.here rest in
    (more.0, more.1, let count = more.2 in omega arith)

-- so a turn that counts one is one step, and one that counts none is none
pub one_made : (p : ℕ) (a b : Contents) (ended : Bool) → p < length a.views → OnlyStepsOf a b p → CountsOne (view_at a.views p) (view_at b.views p) ended → MakesOne p a b ended
one_made p a b ended inside only counts = by_count only.made.0 only.made.1
  where
    at : views_of a.views p ≡ Some (view_at a.views p)
    at = slice_get-get_or a.views p (newcomer p) inside

    by_count : (n : ℕ) → Chain n p a b → MakesOne p a b ended
    by_count n chain =
        let all = chain_counts n p (view_at a.views p) a b at chain in
        let now : view_at b.views p ≡ all.0 = seen_at b.views p all.0 all.1 in
        let count : (view_at b.views p).steps ≡ (view_at a.views p).steps + n = ap (λ (v : View). v.steps) now ∙ all.2 in
        ⊎_elim
        (λ (one : (view_at b.views p).steps ≡ (view_at a.views p).steps + 1). inl (just_one n chain (omega arith)))
        (λ (none : ((view_at b.views p).steps ≡ (view_at a.views p).steps) × (ended ≡ true)). let same = none.0 in inr (not_one n chain (omega arith), none.1))
        counts
      where
        just_one : (n : ℕ) → Chain n p a b → n ≡ 1 → AtOnce (OneStep a.sizes p) a b
        just_one zero chain is = absurd (omega arith)
        just_one (suc zero) (c, sizes, step, same) is = subst (λ (k : Contents). AtOnce (OneStep a.sizes p) a k) (sym same) step
        just_one (suc (suc n)) chain is = absurd (omega arith)

        not_one : (n : ℕ) → Chain n p a b → n ≡ 0 → b ≡ a
        not_one zero chain is = chain
        not_one (suc n) chain is = absurd (omega arith)

-- ---- what leaves a limbo

-- a number that waits before a step and not after it went back
stays_put : (v : View) (e : Retired) → WentBack v v e → ⊥
stays_put v e back = back.1 (member_key (λ (y : Retired). y.link) v.limbo e back.0)

-- so what leaves one at a turn leaves it under nobody
pub frees_under_nobody : (p : ℕ) (a b : Contents) (ended : Bool) → p < length a.views → OnlyStepsOf a b p → MakesOne p a b ended → FreesUnderNobody a b
frees_under_nobody p a b ended inside only made q e back = ⊎_elim
    (λ (same : q ≡ p). ⊎_elim
    (λ (one : AtOnce (OneStep a.sizes p) a b).
    let mine = subst (λ (i : ℕ). WentBack (view_at a.views i) (view_at b.views i) e) same back in
    limbo_law a.sizes p (view_at a.views p) (view_at b.views p) (memory_now a) (views_of a.views) (memory_now b) (views_of b.views) one
    (there a.views inside) (there b.views (subst (λ (n : ℕ). p < n) (sym only.count) inside)) e mine)
    (λ (none : (b ≡ a) × (ended ≡ true)). absurd (stays_put (view_at a.views q) e (subst (λ (c : Contents). WentBack (view_at a.views q) (view_at c.views q) e) none.0 back)))
    made)
    (λ (other : q ≢ p). absurd (stays_put (view_at a.views q) e (subst (λ (v : View). WentBack (view_at a.views q) v e) (only.others q other) back)))
    (cases_eq q p)
  where
    there : (vs : List View) → p < length vs → views_of vs p ≡ Some (view_at vs p)
    there vs low = slice_get-get_or vs p (newcomer p) low

-- ---- one turn

module _ {A : Type 0} (fits : A → Sizes → View → Type 0) (ended : A → Bool) (makes : ℕ → A → Contents → A → Contents → Type 0) (p : ℕ) (k : Contents) (xs : List A) (l : Contents) (ys : List A) where
  abbrev Turn : Type 0
  Turn = IsTurn fits ended makes p k xs l ys

  inside : TakesTurn fits ended makes p k xs l ys → p < length xs
  inside t = slice_get_within xs p t.before t.named

  -- it leaves the sizes, how many passes and actors there are, and all views and actors but those of the pass
  pub turn_sizes : Turn → l.sizes ≡ k.sizes
  turn_sizes t = ⊎_elim (λ (n : NamesNobody fits ended makes p xs × (l ≡ k) × (ys ≡ xs)). ap (λ (w : Contents). w.sizes) n.1) (λ (t : TakesTurn fits ended makes p k xs l ys). t.only.sizes) t

  pub turn_passes : Turn → length l.views ≡ length k.views
  turn_passes t = ⊎_elim (λ (n : NamesNobody fits ended makes p xs × (l ≡ k) × (ys ≡ xs)). ap (λ (w : Contents). length w.views) n.1) (λ (t : TakesTurn fits ended makes p k xs l ys). t.only.count) t

  pub turn_actors : Turn → length ys ≡ length xs
  turn_actors t = ⊎_elim (λ (n : NamesNobody fits ended makes p xs × (l ≡ k) × (ys ≡ xs)). ap length n.2) (λ (t : TakesTurn fits ended makes p k xs l ys). ap length t.actors ∙ length-set xs p t.now) t

  pub turn_others : Turn → (q : ℕ) → q ≢ p → view_at l.views q ≡ view_at k.views q
  turn_others t q other = ⊎_elim (λ (n : NamesNobody fits ended makes p xs × (l ≡ k) × (ys ≡ xs)). ap (λ (w : Contents). view_at w.views q) n.1) (λ (t : TakesTurn fits ended makes p k xs l ys). t.only.others q other) t

  pub turn_past : Turn → (q : ℕ) → length xs ≤ q → view_at l.views q ≡ view_at k.views q
  turn_past t q past = ⊎_elim
      (λ (n : NamesNobody fits ended makes p xs × (l ≡ k) × (ys ≡ xs)). ap (λ (w : Contents). view_at w.views q) n.1)
      (λ (t : TakesTurn fits ended makes p k xs l ys). t.only.others q (λ e. let low = inside t in absurd (omega (arith, low, past, e)))) t

-- ---- a list of turns, and one more

module _ {A : Type 0} (fits : A → Sizes → View → Type 0) (ended : A → Bool) (makes : ℕ → A → Contents → A → Contents → Type 0) (m : Contents) (zs : List A) (l : Contents) (ys : List A) where
  run_longer : (ts : List ℕ) (i : ℕ) (k : Contents) (xs : List A) → i < length ts → IsRun fits ended makes (take i ts) k xs m zs → IsTurn fits ended makes (get_or ts i 0) m zs l ys → IsRun fits ended makes (take (suc i) ts) k xs l ys
  run_longer [] i k xs low run turn = absurd (omega arith)
  run_longer (t ∷ ts) zero k xs low run turn =
      (l, ys, subst (λ (w : Contents × List A). IsTurn fits ended makes t w.0 w.1 l ys) (λ i. (run.0 i, run.1 i)) turn, (refl, refl))
  run_longer (t ∷ ts) (suc i) k xs low run turn = (run.0, run.1, run.2, run_longer ts i run.0 run.1 (omega arith) run.3 turn)

  pub run_more : (ts : List ℕ) (i : ℕ) (k : Contents) (xs : List A) → i < length ts → IsRun fits ended makes (take i ts) k xs m zs → IsTurn fits ended makes (get_or ts i 0) m zs l ys → IsRun fits ended makes (take (i + 1) ts) k xs l ys
  run_more ts i k xs low run turn =
      let next : suc i ≡ i + 1 = omega arith in
      subst (λ (n : ℕ). IsRun fits ended makes (take n ts) k xs l ys) next (run_longer ts i k xs low run turn)

-- ---- inductions over a run

-- what each turn keeps, a run keeps
pub run_keeps : {A : Type 0} (fits : A → Sizes → View → Type 0) (ended : A → Bool) (makes : ℕ → A → Contents → A → Contents → Type 0) (P : Contents → List A → Type 0)
    → ((p : ℕ) (k : Contents) (xs : List A) (l : Contents) (ys : List A) → IsTurn fits ended makes p k xs l ys → P k xs → P l ys)
    → (ts : List ℕ) (k : Contents) (xs : List A) (l : Contents) (ys : List A) → IsRun fits ended makes ts k xs l ys → P k xs → P l ys
run_keeps {A} fits ended makes P turn [] k xs l ys run at = subst (λ (w : Contents × List A). P w.0 w.1) (λ i. (sym run.0 i, sym run.1 i)) at
run_keeps {A} fits ended makes P turn (t ∷ ts) k xs l ys (m, zs, first, rest) at = run_keeps fits ended makes P turn ts m zs l ys rest (turn t k xs m zs first at)
