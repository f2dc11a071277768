-- How paths stand to the lower end of a range.
use Rattle.std.proofs.Common.{◌≡◌, ℕ, true, false, ◌+◌, ◌<◌, ◌≤◌, List, [], ◌∷◌, ◌++◌, length, get_or, take, drop, inl, inr, refl, sym, ap, ◌∙◌, subst, arith, append-nil, append_assoc, ⊎_elim, length-append, nat_cmp}
use Rattle.std.specs.Cmp.Lexicographic.{slice_cmp}
use Rattle.std.specs.Ordering.{is_lt}
use Rattle.std.specs.declared.cmp.Ordering.{Ordering}
use Rattle.std.specs.declared.cmp.Ordering.TheVariants.{Less, Equal, Greater}
use Rattle.std.proofs.Math.Seq.{take-length}
use Rattle.std.proofs.lemmas.Bool.{eqb-false, eqb-true}
use Rattle.std.proofs.lemmas.List.{take-append-drop, take_more, get_or_append_left}
use Rattle.art_look.specs.Fronts.{IsFront, IsLow, IsPast, is_within, low_at}
use Rattle.art_look.specs.declared.fronts.Front.{Front}
use Rattle.art_look.specs.declared.fronts.Front.TheVariants.{Within, Beyond}
use Rattle.art_path.specs.Common.{IsCommon}
use Rattle.art_tree.specs.Looks.{Before}
use Rattle.art_tree.specs.Tree.{Begins}
use Rattle.art_tree.proofs.Order.{before_byte, before_front, before_longer, before_not, not_before_front}
use Rattle.art_tree.proofs.Paths.{begins_more, next_byte}
use Rattle.art_tree.proofs.Part.{begins_drop, begins_take}

-- the first bytes of a text begin it, and with the next one
front_begins : (xs : List ℕ) (n : ℕ) → Begins (take n xs) xs
front_begins xs n = (drop n xs, take-append-drop n xs)

next_begins : (p xs : List ℕ) (n : ℕ) → n < length xs → p ≡ take n xs → Begins (p ++ get_or xs n 0 ∷ []) xs
next_begins p xs n low is = subst (λ (q : List ℕ). Begins q xs) (take_more xs n 0 low ∙ ap (λ (q : List ℕ). q ++ get_or xs n 0 ∷ []) (sym is)) (front_begins xs (n + 1))

-- ---- by the bytes that the path and the lower end have in common

module _ (lo p : List ℕ) (n : ℕ) (common : IsCommon p lo n) where
  pub ends_within : n ≡ length lo → IsPast lo p
  ends_within all = inr (begins_drop lo p (ap (λ (i : ℕ). take i p) (sym all) ∙ common.same ∙ ap (λ (i : ℕ). take i lo) all ∙ take-length lo))

  pub goes_on : (n ≡ length lo → ⊥) → n ≡ length p → IsFront Within lo p
  goes_on more all = (
    begins_drop p lo (ap (λ (i : ℕ). take i lo) (sym all) ∙ sym common.same ∙ ap (λ (i : ℕ). take i p) all ∙ take-length p),
    let low = common.within_other in omega (arith, low, more, all),
  )

  module _ (more : n < length lo) (longer : n < length p) where
    low_begins : Begins (take n p ++ get_or lo n 0 ∷ []) lo
    low_begins = next_begins (take n p) lo n more common.same

    path_begins : Begins (take n p ++ get_or p n 0 ∷ []) p
    path_begins = next_begins (take n p) p n longer refl

    pub stands_before : get_or p n 0 < get_or lo n 0 → Before p lo × (Begins p lo → ⊥)
    stands_before less = (
      before_byte (take n p) p lo (get_or p n 0) (get_or lo n 0) path_begins low_begins less,
      λ f.
          let same : get_or lo n 0 ≡ get_or p n 0 = ap (λ (l : List ℕ). get_or l n 0) (sym f.1) ∙ get_or_append_left p f.0 0 n longer in
          omega (arith, same, less),
    )

    pub stands_past : get_or lo n 0 ≤ get_or p n 0 → IsPast lo p
    stands_past high =
        let apart = common.longest longer more in
        inl (before_byte (take n p) lo p (get_or lo n 0) (get_or p n 0) low_begins path_begins (omega (arith, high, λ (e : get_or lo n 0 ≡ get_or p n 0). apart (sym e))))

-- ---- the byte from which on the least child is looked for

pub front_low : (f : Front) (lo p : List ℕ) → IsFront f lo p → IsLow lo p (low_at f lo p)
front_low Within lo p is = inl (next_begins p lo (length p) is.1 (sym (begins_take p lo is.0)))
front_low Beyond lo p past = inr (refl, past)

-- ---- a text past the lower end, with a byte more

-- a text is before all longer ones that begin with it
pub before_more : (p : List ℕ) (a : ℕ) (rest : List ℕ) → Before p (p ++ a ∷ rest)
before_more p a rest = subst (λ (q : List ℕ). Before q (p ++ a ∷ rest)) (append-nil p) (before_front p [] (a ∷ rest))

pub past_more : (lo p : List ℕ) (a : ℕ) → IsPast lo p → Before lo (p ++ a ∷ [])
past_more lo p a past = ⊎_elim
    (λ (e : Before lo p). before_longer lo p (p ++ a ∷ []) e (a ∷ [], refl))
    (λ (f : Begins lo p). longer f.0 (ap (λ (q : List ℕ). q ++ a ∷ []) f.1))
    past
  where
    longer : (rest : List ℕ) → (lo ++ rest) ++ a ∷ [] ≡ p ++ a ∷ [] → Before lo (p ++ a ∷ [])
    longer [] is = subst (Before lo) (ap (λ (q : List ℕ). q ++ a ∷ []) (sym (append-nil lo)) ∙ is) (before_more lo a [])
    longer (b ∷ rest) is = subst (Before lo) (sym (append_assoc lo (b ∷ rest) (a ∷ [])) ∙ is) (before_more lo b (rest ++ a ∷ []))

-- where a path begins the lower end and the lower end goes on, it is not past it
pub not_past : (lo p : List ℕ) → IsFront Within lo p → IsPast lo p → ⊥
not_past lo p is past = ⊎_elim
    (λ (e : Before lo p). not_before_front p lo is.0 e)
    (λ (f : Begins lo p). let long = ap length f.1 in omega (arith, is.1, long, length-append lo f.0))
    past

-- so the path with a byte does not begin it where the path is past it
pub past_apart : (lo p : List ℕ) (a : ℕ) → IsPast lo p → Begins (p ++ a ∷ []) lo → ⊥
past_apart lo p a past f =
    let long = ap length f.1 in
    not_past lo p (begins_more p (a ∷ []) lo f, omega (arith, long, length-append (p ++ a ∷ []) f.0, length-append p (a ∷ []))) past

-- a child goes on along the lower end where its byte is the next one
pub within_begins : (f : Front) (lo p : List ℕ) (b : ℕ) → IsFront f lo p → is_within f lo p b ≡ true → Begins (p ++ b ∷ []) lo
within_begins Within lo p b is same = subst (λ (a : ℕ). Begins (p ++ a ∷ []) lo) (eqb-true (get_or lo (length p) 0) b same) (next_begins p lo (length p) is.1 (sym (begins_take p lo is.0)))
within_begins Beyond lo p b is same = cc

pub not_within_apart : (f : Front) (lo p : List ℕ) (b : ℕ) → IsFront f lo p → is_within f lo p b ≡ false → Begins (p ++ b ∷ []) lo → ⊥
not_within_apart Within lo p b is apart begins = eqb-false (get_or lo (length p) 0) b apart (next_byte p lo (get_or lo (length p) 0) b (next_begins p lo (length p) is.1 (sym (begins_take p lo is.0))) begins)
not_within_apart Beyond lo p b past apart begins = past_apart lo p b past begins

-- ---- whether a text stands before another, by how it stands to that as a lower end

not_less : (o : Ordering) → (o ≡ Less → ⊥) → is_lt o ≡ false
not_less Less never = absurd (never refl)
not_less Equal never = refl
not_less Greater never = refl

pub past_not_less : (lo p : List ℕ) → IsPast lo p → is_lt (slice_cmp nat_cmp p lo) ≡ false
past_not_less lo p past = not_less (slice_cmp nat_cmp p lo) (λ before.
    ⊎_elim (λ (e : Before lo p). before_not lo p e before) (λ (f : Begins lo p). not_before_front lo p f before) past)

pub within_less : (lo p : List ℕ) → IsFront Within lo p → is_lt (slice_cmp nat_cmp p lo) ≡ true
within_less lo p is = more is.0.0 is.0.1
  where
    more : (rest : List ℕ) → p ++ rest ≡ lo → is_lt (slice_cmp nat_cmp p lo) ≡ true
    more [] all = let same = ap length (sym (append-nil p) ∙ all) in absurd (omega (arith, same, is.1))
    more (a ∷ rest) all = ap is_lt (subst (Before p) all (before_more p a rest))
