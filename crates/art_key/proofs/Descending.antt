-- Values that descend: the complements of spellings keep the laws of a coding.
use Rattle.std.proofs.Common.{◌≡◌, ℕ, zero, suc, ◌-◌, ◌<◌, ◌≤◌, Bool, true, false, List, [], ◌∷◌, ◌++◌, length, take, drop, min, inl, inr, Option, Some, None, refl, sym, ap, subst, ◌∙◌, arith, nat_cmp, Ordering, Less, Equal, Greater}
use Rattle.std.proofs.lemmas.Bool.{cases_lt, true≢false}
use Rattle.std.proofs.lemmas.Cmp.{nat_list_cmp_total, tied_itself}
use Rattle.std.proofs.lemmas.List.{append-nil, append_assoc, length-append, length-drop, length-map, map-append, take-append-drop, take-map, take_all}
use Rattle.std.proofs.lemmas.Map.Lookups.{exact_bytes}
use Rattle.std.proofs.lemmas.Option.{none-some, some_pair_parts}
use Rattle.std.proofs.Math.Seq.{drop-append_seam}
use Rattle.std.specs.Cmp.{nat_cmp_total, ranked}
use Rattle.std.specs.Cmp.Lexicographic.{slice_cmp}
use Rattle.std.specs.Option.{option_map}
use Rattle.std.specs.Ordering.{is_gt, ordering_reverse, ordering_then}
use Rattle.art_model.specs.declared.values.Value.{Value}
use Rattle.art_model.specs.Rows.{column_cmp}
use Rattle.art_model.specs.Values.{value_cmp}
use Rattle.art_model.proofs.Order.{value_total}
use Rattle.art_key.specs.Kinds.{AreBytes, Coding, IsCoding, complement, front_in, in_order}
use Rattle.art_key.specs.Orders.{nat_cmp_equal, nat_cmp_greater}

-- ---- complements

complement_twice : (bytes : List ℕ) → AreBytes bytes → complement (complement bytes) ≡ bytes
complement_twice [] are = refl
complement_twice (b ∷ bytes) are = let same : 255 - (255 - b) ≡ b = omega (arith, are.0) in λ i. same i ∷ complement_twice bytes are.1 i

complement_bytes : (bytes : List ℕ) → AreBytes (complement bytes)
complement_bytes [] = tt
complement_bytes (b ∷ bytes) = (omega arith, complement_bytes bytes)

-- complements behind others, of which the first are bytes
complement_behind : (s x : List ℕ) → AreBytes s → complement (complement s ++ x) ≡ s ++ complement x
complement_behind s x are = map-append (λ b. 255 - b) (complement s) x ∙ ap (λ l. l ++ complement x) (complement_twice s are)

length-complement : (bytes : List ℕ) → length (complement bytes) ≡ length bytes
length-complement bytes = length-map bytes (λ b. 255 - b)

-- ---- two texts, whatever comes after them

not_less : {A : Type 0} → Greater ≡ Less → A
not_less e = absurd (true≢false (ap is_gt e))

longer : (t : List ℕ) → slice_cmp nat_cmp (t ++ 0 ∷ []) (t ++ []) ≡ Greater
longer [] = refl
longer (b ∷ t) = ap (λ o. ordering_then o (slice_cmp nat_cmp (t ++ 0 ∷ []) (t ++ []))) (tied_itself nat_cmp_total b) ∙ longer t

-- what is the same in front does not count
same_front : (s x y : List ℕ) → slice_cmp nat_cmp (s ++ x) (s ++ y) ≡ slice_cmp nat_cmp x y
same_front [] x y = refl
same_front (b ∷ s) x y = ap (λ o. ordering_then o (slice_cmp nat_cmp (s ++ x) (s ++ y))) (tied_itself nat_cmp_total b) ∙ same_front s x y

abbrev StandBelow : List ℕ → List ℕ → Type 0
StandBelow s t = (x y : List ℕ) → slice_cmp nat_cmp (s ++ x) (t ++ y) ≡ Less

-- of two texts that stand so whatever comes after them, neither begins the other: they part within both, and so do the complements
turned : (s t : List ℕ) → AreBytes s → AreBytes t → StandBelow s t → (x y : List ℕ) → slice_cmp nat_cmp (complement s ++ x) (complement t ++ y) ≡ Greater
turned [] t are_s are_t below x y = not_less (sym (longer t) ∙ below (t ++ 0 ∷ []) [])
turned (b ∷ s) [] are_s are_t below x y = not_less (below [] [])
turned (b ∷ s) (d ∷ t) are_s are_t below x y =
    by (slice_cmp nat_cmp (complement s ++ x) (complement t ++ y)) (λ later. turned s t are_s.1 are_t.1 later x y) (nat_cmp b d) refl
  where
    by : (rest : Ordering) → (StandBelow s t → rest ≡ Greater) → (o : Ordering) → nat_cmp b d ≡ o → ordering_then (nat_cmp (255 - b) (255 - d)) rest ≡ Greater
    by rest goes_on Less e =
        let less : b < d = ranked b d Less (sym e) in
        ap (λ o. ordering_then o rest) (nat_cmp_greater (255 - b) (255 - d) (omega (arith, are_t.0)))
    by rest goes_on Equal e =
        let same : b ≡ d = ranked b d Equal (sym e) in
        ap (λ o. ordering_then o rest) (nat_cmp_equal (255 - b) (255 - d) (omega arith))
        ∙ goes_on (λ u v. ap (λ o. ordering_then o (slice_cmp nat_cmp (s ++ u) (t ++ v))) (sym e) ∙ below u v)
    by rest goes_on Greater e = not_less (ap (λ o. ordering_then o (slice_cmp nat_cmp (s ++ []) (t ++ []))) (sym e) ∙ below [] [])

module _ (k : Coding) (law : IsCoding false k) where
  -- ---- the order

  module _ (place other : ℕ) (u v : Value) (u_stands : k.fault place u ≡ None) (v_stands : k.fault other v ≡ None) where
    stand : (x y : List ℕ) {o : Ordering} → value_cmp u v ≡ o → slice_cmp nat_cmp (k.spelling u ++ x) (k.spelling v ++ y) ≡ ordering_then o (slice_cmp nat_cmp x y)
    stand x y e = law.order place other u v x y u_stands v_stands ∙ ap (λ o. ordering_then o (slice_cmp nat_cmp x y)) e

    back : {o : Ordering} → value_cmp u v ≡ o → value_cmp v u ≡ ordering_reverse o
    back e = value_total.antisymm v u ∙ ap ordering_reverse e

    u_bytes : AreBytes (k.spelling u)
    u_bytes = law.bytes place u u_stands

    v_bytes : AreBytes (k.spelling v)
    v_bytes = law.bytes other v v_stands

    order : (x y : List ℕ) → slice_cmp nat_cmp (complement (k.spelling u) ++ x) (complement (k.spelling v) ++ y) ≡ ordering_then (column_cmp true u v) (slice_cmp nat_cmp x y)
    order x y = by (slice_cmp nat_cmp x y) refl (value_cmp u v) refl
      where
        by : (rest : Ordering) → slice_cmp nat_cmp x y ≡ rest → (o : Ordering) → value_cmp u v ≡ o → slice_cmp nat_cmp (complement (k.spelling u) ++ x) (complement (k.spelling v) ++ y) ≡ ordering_then (value_cmp v u) rest
        by rest is Less e = turned (k.spelling u) (k.spelling v) u_bytes v_bytes (λ p q. stand p q e) x y ∙ sym (ap (λ o. ordering_then o rest) (back e))
        by rest is Equal e =
            let one : k.spelling u ++ [] ≡ k.spelling v ++ [] = exact_bytes _ _ (stand [] [] e) in
            let same : k.spelling u ≡ k.spelling v = sym (append-nil (k.spelling u)) ∙ one ∙ append-nil (k.spelling v) in
            ap (λ (s : List ℕ). slice_cmp nat_cmp (complement s ++ x) (complement (k.spelling v) ++ y)) same
            ∙ same_front (complement (k.spelling v)) x y ∙ is ∙ sym (ap (λ o. ordering_then o rest) (back e))
        by rest is Greater e =
            let below : StandBelow (k.spelling v) (k.spelling u) = λ p q.
            nat_list_cmp_total.antisymm (k.spelling v ++ p) (k.spelling u ++ q) ∙ ap ordering_reverse (stand q p e) in
            nat_list_cmp_total.antisymm (complement (k.spelling u) ++ x) (complement (k.spelling v) ++ y)
            ∙ ap ordering_reverse (turned (k.spelling v) (k.spelling u) v_bytes u_bytes below y x) ∙ sym (ap (λ o. ordering_then o rest) (back e))

  -- ---- reading back

  -- a value that was found, and the bytes behind its spelling
  abbrev behind : List ℕ → Value × List ℕ → Value × List ℕ
  behind bytes found = (found.0, drop (length (k.spelling found.0)) bytes)

  again : (place : ℕ) (v : Value) (rest : List ℕ) → k.fault place v ≡ None → front_in true k (complement (k.spelling v) ++ rest) ≡ Some (v, rest)
  again place v rest stands =
      let bytes : List ℕ = complement (k.spelling v) ++ rest in
      let read : k.front (complement bytes) ≡ Some (v, complement rest) =
      ap k.front (complement_behind (k.spelling v) rest (law.bytes place v stands)) ∙ law.again place v (complement rest) stands in
      let after : drop (length (k.spelling v)) bytes ≡ rest =
      ap (λ n. drop n bytes) (sym (length-complement (k.spelling v))) ∙ drop-append_seam (complement (k.spelling v)) rest in
      ap (option_map (behind bytes)) read ∙ ap (λ (r : List ℕ). Some (v, r)) after

  takes : (place : ℕ) (v : Value) (bytes rest : List ℕ) → AreBytes bytes → front_in true k bytes ≡ Some (v, rest)
      → (k.fault place v ≡ None) × (bytes ≡ complement (k.spelling v) ++ rest)
  takes place v bytes rest are e = by (k.front (complement bytes)) refl e
    where
      by : (o : Option (Value × List ℕ)) → k.front (complement bytes) ≡ o → option_map (behind bytes) o ≡ Some (v, rest)
          → (k.fault place v ≡ None) × (bytes ≡ complement (k.spelling v) ++ rest)
      by None read e = absurd (none-some (v, rest) e)
      by (Some (w, r)) read e =
          let took = law.takes place w (complement bytes) r (complement_bytes bytes) read in
          let spelled : bytes ≡ complement (k.spelling w) ++ complement r =
          sym (complement_twice bytes are) ∙ ap complement took.1 ∙ map-append (λ b. 255 - b) (k.spelling w) r in
          let after : drop (length (k.spelling w)) bytes ≡ complement r =
          ap (drop (length (k.spelling w))) spelled
          ∙ ap (λ n. drop n (complement (k.spelling w) ++ complement r)) (sym (length-complement (k.spelling w)))
          ∙ drop-append_seam (complement (k.spelling w)) (complement r) in
          let whole : bytes ≡ complement (k.spelling w) ++ drop (length (k.spelling w)) bytes = spelled ∙ ap (λ (l : List ℕ). complement (k.spelling w) ++ l) (sym after) in
          let same = some_pair_parts w v (drop (length (k.spelling w)) bytes) rest e in
          (subst (λ (x : Value). k.fault place x ≡ None) same.0 took.0, whole ∙ (λ i. complement (k.spelling (same.0 i)) ++ same.1 i))

  pub keeps_laws : (descends : Bool) → IsCoding descends (in_order descends k)
  keeps_laws false = record { order = law.order; again = law.again; takes = law.takes; bytes = law.bytes; narrow = law.narrow }
  keeps_laws true = record {
    order = λ place other u v x y u_stands v_stands. order place other u v u_stands v_stands x y;
    again = again;
    takes = takes;
    bytes = λ place v stands. complement_bytes (k.spelling v);
    narrow = λ place v stands. subst (λ n. n ≤ k.width) (sym (length-complement (k.spelling v))) (law.narrow place v stands);
  }

  -- ---- the value at the front is spelled by the first bytes

  take_past : (n : ℕ) (s rest : List ℕ) → length s ≤ n → (part : List ℕ) × (take n (s ++ rest) ≡ s ++ part)
  take_past n [] rest few = (take n rest, refl)
  take_past zero (b ∷ s) rest few = absurd (omega arith)
  take_past (suc n) (b ∷ s) rest few = let p = take_past n s rest (omega arith) in (p.0, ap (λ (l : List ℕ). b ∷ l) p.1)

  -- what the complements of the first bytes are read as is what all bytes are
  module _ (most : ℕ) (bytes : List ℕ) (wide : k.width ≤ most) where
    abbrev first : List ℕ
    first = complement (take most bytes)

    first_is : first ≡ take most (complement bytes)
    first_is = sym (take-map (λ b. 255 - b) most bytes)

    pub none_in_front : k.front first ≡ None → front_in true k bytes ≡ None
    none_in_front none = by (k.front (complement bytes)) refl
      where
        by : (o : Option (Value × List ℕ)) → k.front (complement bytes) ≡ o
            → option_map (behind bytes) (k.front (complement bytes)) ≡ None
        by None read = ap (option_map (behind bytes)) read
        by (Some (v, rest)) read =
            let took = law.takes 0 v (complement bytes) rest (complement_bytes bytes) read in
            let narrow : length (k.spelling v) ≤ most = omega (arith, law.narrow 0 v took.0) in
            let part = take_past most (k.spelling v) rest narrow in
            let again = ap k.front (first_is ∙ ap (take most) took.1 ∙ part.1) ∙ law.again 0 v part.0 took.0 in
            absurd (none-some (v, part.0) (sym none ∙ again))

    pub rest_fits : (v : Value) (rest : List ℕ) → k.front first ≡ Some (v, rest) → length rest ≤ length first
    rest_fits v rest read =
        let took = law.takes 0 v first rest (complement_bytes (take most bytes)) read in
        omega (arith, ap length took.1, length-append (k.spelling v) rest)

    pub some_in_front : (v : Value) (rest : List ℕ) → k.front first ≡ Some (v, rest) → front_in true k bytes ≡ Some (v, drop (length first - length rest) bytes)
    some_in_front v rest read =
        let took = law.takes 0 v first rest (complement_bytes (take most bytes)) read in
        let whole : complement bytes ≡ k.spelling v ++ (rest ++ drop most (complement bytes)) =
        sym (take-append-drop most (complement bytes)) ∙ ap (λ (l : List ℕ). l ++ drop most (complement bytes)) (sym first_is ∙ took.1)
        ∙ append_assoc (k.spelling v) rest (drop most (complement bytes)) in
        let all = ap k.front whole ∙ law.again 0 v (rest ++ drop most (complement bytes)) took.0 in
        let long : length (k.spelling v) ≡ length first - length rest = omega (arith, ap length took.1, length-append (k.spelling v) rest) in
        ap (option_map (behind bytes)) all ∙ ap (λ n. Some (v, drop n bytes)) long

-- ---- parts of bytes, as code takes them

-- as many as there are, at most so many
pub take_least : (n most : ℕ) (bytes : List ℕ) → n ≡ min (length bytes) most → take n bytes ≡ take most bytes
take_least n most bytes least = elim (cases_lt (length bytes) most) [
  | inl few ↦ take_all n bytes (omega arith) ∙ sym (take_all most bytes (omega arith))
  | inr many ↦ ap (λ m. take m bytes) (omega arith)
]

-- all from a place on
pub take_behind : (n : ℕ) (bytes : List ℕ) → take (length bytes - n) (drop n bytes) ≡ drop n bytes
take_behind n bytes = take_all (length bytes - n) (drop n bytes) (omega (arith, length-drop n bytes))

-- the complements of the first bytes, where they were appended to none
pub first_complements : {read items start : List ℕ} {n : ℕ} (bytes : List ℕ) → read ≡ items → items ≡ start ++ complement (take n bytes) → start ≡ [] → n ≡ min (length bytes) 64
    → read ≡ complement (take 64 bytes)
first_complements {read} {items} {start} {n} bytes same appended none least =
    same ∙ appended ∙ ap (λ (l : List ℕ). l ++ complement (take n bytes)) none ∙ ap complement (take_least n 64 bytes least)
