-- The targets and the puts of a change to which the renewal of a node is added: where they are then.
use Rattle.std.proofs.Common.{◌≡◌, ◌≢◌, ◌⊎◌, ℕ, zero, suc, ◌+◌, ◌<◌, Bool, true, false, List, [], ◌∷◌, ◌++◌, length, take, drop, set, get_or, cond, eqb, Some, None, refl, sym, ap, ◌∙◌, subst, inl, inr, ⊎_elim, arith, eq-eqb, ne_eqb, get_or-set_other, get_or-set_same, length-set}
use Rattle.std.proofs.Math.Seq.{take-suc}
use Rattle.std.proofs.lemmas.Bool.{cases_eq}
use Rattle.std.specs.List.{cons_option, filter_map, slice_get}
use Rattle.art_plan.specs.Changes.{with_puts}
use Rattle.art_plan.specs.Renewing.{lower_targets, moved_put}
use Rattle.art_plan.specs.declared.changes.Put.{Put}
use Rattle.art_plan.specs.declared.changes.Target.{Target}
use Rattle.art_step.specs.Views.{Member, words_in}

-- ---- indices

-- where the target with an index is then
abbrev pub lower : Bool → ℕ → ℕ
lower false i = suc (suc i)
lower true i = suc i

-- it stays a target: it is not the first, where that is the worn node
abbrev pub IsLower : Bool → ℕ → Type 0
IsLower first i = first ≡ true → i ≢ 0

pub lower_high : (first : Bool) (i : ℕ) → IsLower first i → 1 < lower first i
lower_high false i low = omega arith
lower_high true i low = let some = low refl in omega arith

pub lower_once : (first : Bool) (i j : ℕ) → lower first i ≡ lower first j → i ≡ j
lower_once false i j e = omega (arith, e)
lower_once true i j e = omega (arith, e)

pub lower_at : (first : Bool) (a b : Target) (xs : List Target) (i : ℕ) → IsLower first i → slice_get (a ∷ b ∷ lower_targets first xs) (lower first i) ≡ slice_get xs i
lower_at false a b xs i low = refl
lower_at true a b xs zero low = absurd (low refl refl)
lower_at true a b [] (suc i) low = refl
lower_at true a b (x ∷ xs) (suc i) low = refl

-- each index is that of one of the two that come first, or of a target of before
pub either_index : (first : Bool) (j : ℕ) → (j ≡ 0) ⊎ ((j ≡ 1) ⊎ ((i : ℕ) × (j ≡ lower first i) × IsLower first i))
either_index first zero = inl refl
either_index first (suc zero) = inr (inl refl)
either_index false (suc (suc i)) = inr (inr (i, refl, λ e. absurd (cc)))
either_index true (suc (suc i)) = inr (inr (suc i, refl, λ e f. absurd (cc)))

-- ---- puts

-- the words of a target of before get the same puts
pub with_moved : (first : Bool) (ps : List Put) (i : ℕ) (ws : List ℕ) → IsLower first i → with_puts (lower first i) (filter_map (moved_put first) ps) ws ≡ with_puts i ps ws
with_moved first [] i ws low = refl
with_moved false (p ∷ ps) i ws low =
    with_moved false ps i (cond (eqb (p.target + 2) (suc (suc i))) (set ws p.place p.value) ws) low
    ∙ ap (λ (b : Bool). with_puts i ps (cond b (set ws p.place p.value) ws)) same
  where
    same : eqb (p.target + 2) (suc (suc i)) ≡ eqb p.target i
    same = ⊎_elim
        (λ (e : p.target ≡ i). eq-eqb (p.target + 2) (suc (suc i)) (omega (arith, e)) ∙ sym (eq-eqb p.target i e))
        (λ (f : p.target ≢ i). ne_eqb (p.target + 2) (suc (suc i)) (λ e. f (omega (arith, e))) ∙ sym (ne_eqb p.target i f))
        (cases_eq p.target i)
with_moved true (p ∷ ps) i ws low = by_first (λ us. with_moved true ps i us low) (eqb p.target 0) refl
  where
    same : eqb (p.target + 1) (suc i) ≡ eqb p.target i
    same = ⊎_elim
        (λ (e : p.target ≡ i). eq-eqb (p.target + 1) (suc i) (omega (arith, e)) ∙ sym (eq-eqb p.target i e))
        (λ (f : p.target ≢ i). ne_eqb (p.target + 1) (suc i) (λ e. f (omega (arith, e))) ∙ sym (ne_eqb p.target i f))
        (cases_eq p.target i)

    by_first : ((us : List ℕ) → with_puts (suc i) (filter_map (moved_put true) ps) us ≡ with_puts i ps us) → (b : Bool) → eqb p.target 0 ≡ b
        → with_puts (suc i) (cons_option (cond b None (Some (record p { target = p.target + 1 }))) (filter_map (moved_put true) ps)) ws ≡ with_puts i (p ∷ ps) ws
    by_first on true e =
        let zero_is : p.target ≡ 0 = ⊎_elim (λ (is : p.target ≡ 0). is) (λ (f : p.target ≢ 0). let no : true ≡ false = sym e ∙ ne_eqb p.target 0 f in absurd (cc)) (cases_eq p.target 0) in
        let other : p.target ≢ i = λ is. low refl (sym is ∙ zero_is) in
        on ws ∙ ap (λ (b : Bool). with_puts i ps (cond b (set ws p.place p.value) ws)) (sym (ne_eqb p.target i other))
    by_first on false e =
        on (cond (eqb (p.target + 1) (suc i)) (set ws p.place p.value) ws)
        ∙ ap (λ (b : Bool). with_puts i ps (cond b (set ws p.place p.value) ws)) same

-- and the words of the two that come first get none of them
pub with_none_moved : (first : Bool) (ps : List Put) (j : ℕ) (ws : List ℕ) → j < 2 → with_puts j (filter_map (moved_put first) ps) ws ≡ ws
with_none_moved first [] j ws low = refl
with_none_moved false (p ∷ ps) j ws low =
    ap (λ (b : Bool). with_puts j (filter_map (moved_put false) ps) (cond b (set ws p.place p.value) ws)) (ne_eqb (p.target + 2) j (λ e. omega (arith, e)))
    ∙ with_none_moved false ps j ws low
with_none_moved true (p ∷ ps) j ws low = by_first (with_none_moved true ps j ws low) (eqb p.target 0) refl
  where
    by_first : with_puts j (filter_map (moved_put true) ps) ws ≡ ws → (b : Bool) → eqb p.target 0 ≡ b → with_puts j (cons_option (cond b None (Some (record p { target = p.target + 1 }))) (filter_map (moved_put true) ps)) ws ≡ ws
    by_first on true e = on
    by_first on false e =
        let some : p.target ≢ 0 = λ is. (let no : true ≡ false = sym (eq-eqb p.target 0 is) ∙ e in cc) in
        ap (λ (b : Bool). with_puts j (filter_map (moved_put true) ps) (cond b (set ws p.place p.value) ws)) (ne_eqb (p.target + 1) j (λ f. some (omega (arith, f, low))))
        ∙ on

-- what a moved put was
pub record WasPut (first : Bool) (ps : List Put) (p : Put) : Type 0 where
  pub put : Put
  pub has : Member put ps
  pub is : p ≡ record put { target = lower first put.target }
  pub low : IsLower first put.target

pub was_put : (first : Bool) (ps : List Put) (p : Put) → Member p (filter_map (moved_put first) ps) → WasPut first ps p
was_put first [] p i = absurd i
was_put false (q ∷ ps) p i = ⊎_elim
    (λ (e : p ≡ record q { target = q.target + 2 }). record {
      put = q;
      has = inl refl;
      is = e ∙ ap (λ (t : ℕ). record q { target = t }) (let two : q.target + 2 ≡ suc (suc q.target) = omega arith in two);
      low = λ f. absurd (cc);
    })
    (λ (j : Member p (filter_map (moved_put false) ps)). let o = was_put false ps p j in record { put = o.put; has = inr o.has; is = o.is; low = o.low })
    i
was_put true (q ∷ ps) p i = by_first (was_put true ps p) (eqb q.target 0) refl i
  where
    later : WasPut true ps p → WasPut true (q ∷ ps) p
    later o = record { put = o.put; has = inr o.has; is = o.is; low = o.low }

    by_first : (Member p (filter_map (moved_put true) ps) → WasPut true ps p) → (b : Bool) → eqb q.target 0 ≡ b → Member p (cons_option (cond b None (Some (record q { target = q.target + 1 }))) (filter_map (moved_put true) ps)) → WasPut true (q ∷ ps) p
    by_first on true e j = later (on j)
    by_first on false e j = ⊎_elim
        (λ (is : p ≡ record q { target = q.target + 1 }). record {
          put = q;
          has = inl refl;
          is = is ∙ ap (λ (t : ℕ). record q { target = t }) (let one : q.target + 1 ≡ suc q.target = omega arith in one);
          low = λ f is_zero. (let no : true ≡ false = sym (eq-eqb q.target 0 is_zero) ∙ e in cc);
        })
        (λ (k : Member p (filter_map (moved_put true) ps)). later (on k)) j

-- ---- words after puts

-- a word after one more is written is that word, or what it was
set_either : (ws : List ℕ) (place value i : ℕ) → (get_or (set ws place value) i 0 ≡ value) ⊎ (get_or (set ws place value) i 0 ≡ get_or ws i 0)
set_either [] place value i = inr refl
set_either (w ∷ ws) zero value zero = inl refl
set_either (w ∷ ws) zero value (suc i) = inr refl
set_either (w ∷ ws) (suc place) value zero = inr refl
set_either (w ∷ ws) (suc place) value (suc i) = set_either ws place value i

-- and what it was where another place is written
set_keeps : (ws : List ℕ) (place value i : ℕ) → place ≢ i → get_or (set ws place value) i 0 ≡ get_or ws i 0
set_keeps [] place value i other = refl
set_keeps (w ∷ ws) zero value zero other = absurd (other refl)
set_keeps (w ∷ ws) zero value (suc i) other = refl
set_keeps (w ∷ ws) (suc place) value zero other = refl
set_keeps (w ∷ ws) (suc place) value (suc i) other = set_keeps ws place value i (λ e. other (ap suc e))

-- what is so of a word, and of each that a target is given at the place, is so after all puts
pub word_after : (Q : ℕ → Type 0) (t i : ℕ) (ps : List Put) (ws : List ℕ) → ((p : Put) → Member p ps → p.target ≡ t → p.place ≡ i → Q p.value) → Q (words_in ws i) → Q (words_in (with_puts t ps ws) i)
word_after Q t i [] ws each was = was
word_after Q t i (p ∷ ps) ws each was = word_after Q t i ps (cond (eqb p.target t) (set ws p.place p.value) ws) (λ q j. each q (inr j)) now
  where
    now : Q (words_in (cond (eqb p.target t) (set ws p.place p.value) ws) i)
    now = ⊎_elim
        (λ (is : p.target ≡ t).
        subst (λ (b : Bool). Q (words_in (cond b (set ws p.place p.value) ws) i)) (sym (eq-eqb p.target t is))
        (⊎_elim
        (λ (here : p.place ≡ i). ⊎_elim
        (λ (e : get_or (set ws p.place p.value) i 0 ≡ p.value). subst Q (sym e) (each p (inl refl) is here))
        (λ (e : get_or (set ws p.place p.value) i 0 ≡ get_or ws i 0). subst Q (sym e) was)
        (set_either ws p.place p.value i))
        (λ (there : p.place ≢ i). subst Q (sym (set_keeps ws p.place p.value i there)) was)
        (cases_eq p.place i)))
        (λ (other : p.target ≢ t). subst (λ (b : Bool). Q (words_in (cond b (set ws p.place p.value) ws) i)) (sym (ne_eqb p.target t other)) was)
        (cases_eq p.target t)

-- the same words stand at the first places of two lists, so many
abbrev pub SameFirst : ℕ → List ℕ → List ℕ → Type 0
SameFirst m ws us = (i : ℕ) → i < m → words_in ws i ≡ words_in us i

-- puts whose places are within both lists leave it so
pub same_after : (m t : ℕ) (ps : List Put) (ws us : List ℕ) → SameFirst m ws us → ((p : Put) → Member p ps → p.target ≡ t → (p.place < length ws) × (p.place < length us))
    → SameFirst m (with_puts t ps ws) (with_puts t ps us)
same_after m t [] ws us same within = same
same_after m t (p ∷ ps) ws us same within = same_after m t ps (cond (eqb p.target t) (set ws p.place p.value) ws) (cond (eqb p.target t) (set us p.place p.value) us) now later
  where
    later : (q : Put) → Member q ps → q.target ≡ t → (q.place < length (cond (eqb p.target t) (set ws p.place p.value) ws)) × (q.place < length (cond (eqb p.target t) (set us p.place p.value) us))
    later q i is =
        let low = within q (inr i) is in
        (subst (λ (n : ℕ). q.place < n) (sym (long (eqb p.target t) ws)) low.0, subst (λ (n : ℕ). q.place < n) (sym (long (eqb p.target t) us)) low.1)
      where
        long : (b : Bool) (xs : List ℕ) → length (cond b (set xs p.place p.value) xs) ≡ length xs
        long true xs = length-set xs p.place p.value
        long false xs = refl

    each : (low : (p.place < length ws) × (p.place < length us)) → SameFirst m (set ws p.place p.value) (set us p.place p.value)
    each low i before = ⊎_elim
        (λ (e : i ≡ p.place). ap (λ (j : ℕ). get_or (set ws p.place p.value) j 0) e ∙ (get_or-set_same ws p.place p.value 0 low.0 ∙ (sym (get_or-set_same us p.place p.value 0 low.1) ∙ ap (λ (j : ℕ). get_or (set us p.place p.value) j 0) (sym e))))
        (λ (f : i ≢ p.place). get_or-set_other ws p.place i p.value 0 f ∙ (same i before ∙ sym (get_or-set_other us p.place i p.value 0 f)))
        (cases_eq i p.place)

    now : SameFirst m (cond (eqb p.target t) (set ws p.place p.value) ws) (cond (eqb p.target t) (set us p.place p.value) us)
    now = ⊎_elim
        (λ (is : p.target ≡ t).
        let low = within p (inl refl) is in
        subst (λ (b : Bool). SameFirst m (cond b (set ws p.place p.value) ws) (cond b (set us p.place p.value) us)) (sym (eq-eqb p.target t is)) (each low))
        (λ (other : p.target ≢ t). subst (λ (b : Bool). SameFirst m (cond b (set ws p.place p.value) ws) (cond b (set us p.place p.value) us)) (sym (ne_eqb p.target t other)) same)
        (cases_eq p.target t)

-- ---- lists

-- an element of a list is a member
pub element : (ps : List Put) (i : ℕ) (d : Put) → i < length ps → Member (get_or ps i d) ps
element [] i d low = absurd (omega arith)
element (p ∷ ps) zero d low = inl refl
element (p ∷ ps) (suc i) d low = inr (element ps i d (omega arith))

-- one more of them is taken
pub take_more : (ps : List Put) (i : ℕ) (d : Put) → i < length ps → take (i + 1) ps ≡ take i ps ++ get_or ps i d ∷ []
take_more ps i d low = let next : i + 1 ≡ suc i = omega arith in ap (λ (n : ℕ). take n ps) next ∙ take-suc ps i d low

-- all targets but the first
pub lower_is_drop : (xs : List Target) → lower_targets true xs ≡ drop 1 xs
lower_is_drop [] = refl
lower_is_drop (x ∷ xs) = refl

-- the index of a member
pub member_at : {A : Type 0} (xs : List A) (x : A) → Member x xs → (i : ℕ) × (slice_get xs i ≡ Some x)
member_at [] x i = absurd i
member_at (y ∷ ys) x i = ⊎_elim
    (λ (e : x ≡ y). (0, ap Some (sym e)))
    (λ (j : Member x ys). let o = member_at ys x j in (suc o.0, o.1)) i
