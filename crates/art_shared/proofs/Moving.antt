-- A view that moves from one seat to another: the members are the same.
use Rattle.art_key.specs.Spelling.{IsKeyOf}
use Rattle.std.proofs.Common.{◌≡◌, ◌≢◌, ℕ, zero, suc, true, false, ◌==◌, if◌then◌else◌, ◌+◌, ◌≤◌, List, [], ◌∷◌, ◌++◌, length, map, set, inl, inr, ⊎_elim, sym, refl, ap, ◌∙◌, subst, arith, eq-eqb, ne_eqb, append-nil, append_assoc, length-append}
use Rattle.std.specs.Prelude.{Option, Some, None}
use mathlib.Core.Option.{some, some-injective, some-ne-none}
use mathlib.Core.Logic.{dite}
use native.Mathlib.Decide.{ℕ_discrete}
use lib.ListN.{get_elem?}
use Rattle.art_cell.specs.declared.cells.Cell.TheVariants as cell
use Rattle.art_step.specs.declared.views.View.{View}
use Rattle.art_step.specs.Sound.{IsSound}
use Rattle.art_step.specs.Views.{Member, Views}
use Rattle.art_step.specs.WordRows.{memory_of}
use Rattle.atomic_table.specs.Table.{Enters, Joins, Splits}
use Rattle.atomic_table.proofs.Lists.{at_map, set_else}
use Rattle.std.proofs.lemmas.List.{map-append, map-set}
use Rattle.art_step.specs.declared.views.Event.{Event}
use Rattle.art_step.specs.Histories.{AreAdmitted, StartsWith}
use Rattle.art_step.proofs.SetsView.{member_append}
use Rattle.art_shared.specs.declared.law.Basis.{Basis}
use Rattle.art_shared.specs.declared.law.Known.{Known}
use Rattle.art_shared.specs.Passes.{glued, nobody}
use Rattle.art_shared.specs.Rule.{Apart, BeginsAt, Kept, Words, all_told, all_views, find, joined, passes_of, seated}
use Rattle.art_shared.proofs.Lists.{joined_append, joined_here, joined_set}
use Rattle.art_shared.proofs.Seated.{members}

-- the views of one pass
abbrev only : ℕ → List View → List View
only q [] = []
only q (v ∷ vs) = if v.pass == q then v ∷ only q vs else only q vs

abbrev first : List View → Option View
first [] = None
first (v ∷ vs) = Some v

find_is : (vs : List View) (q : ℕ) → find vs q ≡ first (only q vs)
find_is [] q = refl
find_is (v ∷ vs) q = let h = find_is vs q in elim (v.pass == q) as (λ b. (if b then Some v else find vs q) ≡ first (if b then v ∷ only q vs else only q vs)) [ true ↦ refl | false ↦ h ]

only_append : (q : ℕ) (xs ys : List View) → only q (xs ++ ys) ≡ only q xs ++ only q ys
only_append q [] ys = refl
only_append q (v ∷ vs) ys = let h = only_append q vs ys in
    elim (v.pass == q) as (λ b. (if b then v ∷ only q (vs ++ ys) else only q (vs ++ ys)) ≡ (if b then v ∷ only q vs else only q vs) ++ only q ys) [ true ↦ ap (λ (l : List View). v ∷ l) h | false ↦ h ]

mem_only : (q : ℕ) (vs : List View) → Member q (passes_of vs) → 1 ≤ length (only q vs)
mem_only q [] i = absurd i
mem_only q (v ∷ vs) i = dite (ℕ_discrete v.pass q)
    (λ is. rw (eq-eqb v.pass q is) (omega arith))
    (λ other. rw (ne_eqb v.pass q other) (⊎_elim (λ (e : q ≡ v.pass). absurd (other (sym e))) (λ (j : Member q (passes_of vs)). mem_only q vs j) i))

not_only : (q : ℕ) (vs : List View) → (Member q (passes_of vs) → ⊥) → only q vs ≡ []
not_only q [] h = refl
not_only q (v ∷ vs) h = rw (ne_eqb v.pass q (λ e. h (inl (sym e)))) (not_only q vs (λ i. h (inr i)))

pub at_most : (vs : List View) → Apart (passes_of vs) → (q : ℕ) → length (only q vs) ≤ 1
at_most [] a q = omega arith
at_most (v ∷ vs) a q = dite (ℕ_discrete v.pass q)
    (λ is. let e = not_only q vs (λ i. a.0 (subst (λ (p : ℕ). Member p (passes_of vs)) (sym is) i)) in rw (eq-eqb v.pass q is, e) (omega arith))
    (λ other. rw (ne_eqb v.pass q other) (at_most vs a.1 q))

pub apart_of : (vs : List View) → ((q : ℕ) → length (only q vs) ≤ 1) → Apart (passes_of vs)
apart_of [] h = tt
apart_of (v ∷ vs) h =
    let here : suc (length (only v.pass vs)) ≤ 1 = rw (eq-eqb v.pass v.pass refl) at (h v.pass) in (
      (λ i. let j = mem_only v.pass vs i in omega arith),
      apart_of vs (λ q. dite (ℕ_discrete v.pass q) (λ is. rw (sym is) (omega arith)) (λ other. rw (ne_eqb v.pass q other) at (h q))),
    )

swap : (r t : List View) → length r + length t ≤ 1 → t ++ r ≡ r ++ t
swap [] t h = append-nil t
swap (x ∷ xs) [] h = sym (append-nil (x ∷ xs))
swap (x ∷ xs) (y ∷ ys) h = absurd (omega arith)

module _ (q : ℕ) where
  -- a seat's view r ++ l is cut: it keeps l, and a new seat has r
  pub cut_only : (vss : List (List View)) (id : ℕ) (r l : List View) → get_elem? vss id ≡ some (r ++ l) → length (only q (joined vss)) ≤ 1 → only q (joined (set vss id l ++ r ∷ [])) ≡ only q (joined vss)
  cut_only [] id r l e h = absurd (some-ne-none (r ++ l) (sym e))
  cut_only (x ∷ xs) zero r l e h =
      let f : x ≡ r ++ l = some-injective x (r ++ l) e in
      let J : List View = joined xs in
      let a : only q (l ++ joined (xs ++ r ∷ [])) ≡ (only q l ++ only q J) ++ only q r =
      only_append q l (joined (xs ++ r ∷ [])) ∙ (ap (λ (z : List View). only q l ++ only q z) (joined_append xs (r ∷ []) ∙ ap (λ (z : List View). J ++ z) (append-nil r)) ∙ (ap (λ (z : List View). only q l ++ z) (only_append q J r) ∙ sym (append_assoc (only q l) (only q J) (only q r)))) in
      let b : only q (x ++ J) ≡ only q r ++ (only q l ++ only q J) =
      ap (λ (z : List View). only q (z ++ J)) f ∙ (ap (only q) (append_assoc r l J) ∙ (only_append q r (l ++ J) ∙ ap (λ (z : List View). only q r ++ z) (only_append q l J))) in
      let n : length (only q r) + length (only q l ++ only q J) ≤ 1 = let k = ap length b in omega (arith, length-append (only q r) (only q l ++ only q J)) in
      a ∙ (swap (only q r) (only q l ++ only q J) n ∙ sym b)
  cut_only (x ∷ xs) (suc id) r l e h =
      let n : length (only q (joined xs)) ≤ 1 = let k = ap length (only_append q x (joined xs)) in omega (arith, length-append (only q x) (only q (joined xs))) in
      only_append q x (joined (set xs id l ++ r ∷ [])) ∙ (ap (λ (z : List View). only q x ++ z) (cut_only xs id r l e n) ∙ sym (only_append q x (joined xs)))

  -- what stands at a place
  put_only : (vss : List (List View)) (id : ℕ) (a y : List View) → get_elem? vss id ≡ some a → (before : List View) × (behind : List View) × (only q (joined vss) ≡ before ++ (only q a ++ behind)) × (only q (joined (set vss id y)) ≡ before ++ (only q y ++ behind))
  put_only [] id a y e = absurd (some-ne-none a (sym e))
  put_only (x ∷ xs) zero a y e = let f : x ≡ a = some-injective x a e in ([], only q (joined xs), only_append q x (joined xs) ∙ ap (λ (z : List View). only q z ++ only q (joined xs)) f, only_append q y (joined xs))
  put_only (x ∷ xs) (suc id) a y e =
      let k = put_only xs id a y e in (
        only q x ++ k.0,
        k.1,
        only_append q x (joined xs) ∙ (ap (λ (z : List View). only q x ++ z) k.2 ∙ sym (append_assoc (only q x) k.0 (only q a ++ k.1))),
        only_append q x (joined (set xs id y)) ∙ (ap (λ (z : List View). only q x ++ z) k.3 ∙ sym (append_assoc (only q x) k.0 (only q y ++ k.1))),
      )

  past_one : (r B D : List View) → length r + length B ≤ 1 → r ++ (B ++ D) ≡ B ++ (r ++ D)
  past_one r B D h = sym (append_assoc r B D) ∙ (ap (λ (z : List View). z ++ D) (sym (swap r B h)) ∙ append_assoc B r D)

  -- a seat takes in the view of another, which is left with none
  pub glue_only : (vss : List (List View)) (id other : ℕ) (a b : List View) → other ≢ id → get_elem? vss id ≡ some a → get_elem? vss other ≡ some b → length (only q (joined vss)) ≤ 1
      → only q (joined (set (set vss id (a ++ b)) other [])) ≡ only q (joined vss)
  glue_only [] id other a b d e f h = absurd (some-ne-none a (sym e))
  glue_only (x ∷ xs) zero zero a b d e f h = absurd (d refl)
  glue_only (x ∷ xs) zero (suc other) a b d e f h =
      let g : x ≡ a = some-injective x a e in
      let k = put_only xs other b [] f in
      let fa : List View = only q a in let fb : List View = only q b in let B : List View = k.0 in let D : List View = k.1 in
      let right : only q (x ++ joined xs) ≡ fa ++ (B ++ (fb ++ D)) = only_append q x (joined xs) ∙ (ap (λ (z : List View). only q z ++ only q (joined xs)) g ∙ ap (λ (z : List View). fa ++ z) k.2) in
      let left : only q ((a ++ b) ++ joined (set xs other [])) ≡ (fa ++ fb) ++ (B ++ D) = only_append q (a ++ b) (joined (set xs other [])) ∙ (ap (λ (z : List View). z ++ only q (joined (set xs other []))) (only_append q a b) ∙ ap (λ (z : List View). (fa ++ fb) ++ z) k.3) in
      let n : length fb + length B ≤ 1 = let j = ap length right in omega (arith, length-append fa (B ++ (fb ++ D)), length-append B (fb ++ D), length-append fb D) in
      left ∙ (append_assoc fa fb (B ++ D) ∙ (ap (λ (z : List View). fa ++ z) (past_one fb B D n) ∙ sym right))
  glue_only (x ∷ xs) (suc id) zero a b d e f h =
      let g : x ≡ b = some-injective x b f in
      let k = put_only xs id a (a ++ b) e in
      let fa : List View = only q a in let fb : List View = only q b in let B : List View = k.0 in let D : List View = k.1 in
      let right : only q (x ++ joined xs) ≡ fb ++ (B ++ (fa ++ D)) = only_append q x (joined xs) ∙ (ap (λ (z : List View). only q z ++ only q (joined xs)) g ∙ ap (λ (z : List View). fb ++ z) k.2) in
      let left : only q (joined (set xs id (a ++ b))) ≡ B ++ ((fa ++ fb) ++ D) = k.3 ∙ ap (λ (z : List View). B ++ (z ++ D)) (only_append q a b) in
      let n : length fb + length (B ++ fa) ≤ 1 = let j = ap length right in omega (arith, length-append fb (B ++ (fa ++ D)), length-append B (fa ++ D), length-append fa D, length-append B fa) in
      let shape : B ++ ((fa ++ fb) ++ D) ≡ (B ++ fa) ++ (fb ++ D) = simp append_assoc in
      let shape' : fb ++ (B ++ (fa ++ D)) ≡ fb ++ ((B ++ fa) ++ D) = simp append_assoc in
      left ∙ (shape ∙ (sym (past_one fb (B ++ fa) D n) ∙ (sym shape' ∙ sym right)))
  glue_only (x ∷ xs) (suc id) (suc other) a b d e f h =
      let n : length (only q (joined xs)) ≤ 1 = let k = ap length (only_append q x (joined xs)) in omega (arith, length-append (only q x) (only q (joined xs))) in
      only_append q x (joined (set (set xs id (a ++ b)) other [])) ∙ (ap (λ (z : List View). only q x ++ z) (glue_only xs id other a b (λ i. d (ap suc i)) e f n) ∙ sym (only_append q x (joined xs)))

members_same : (vss uss : List (List View)) → ((q : ℕ) → only q (joined uss) ≡ only q (joined vss)) → members uss ≡ members vss
members_same vss uss h = λ i q. (find_is (joined uss) q ∙ (ap first (h q) ∙ sym (find_is (joined vss) q))) i

apart_same : (vss uss : List (List View)) → ((q : ℕ) → only q (joined uss) ≡ only q (joined vss)) → Apart (passes_of (joined vss)) → Apart (passes_of (joined uss))
apart_same vss uss h a = apart_of (joined uss) (λ q. let n = at_most (joined vss) a q in let e = ap length (h q) in omega arith)

-- the rule stands where the views of all passes are the same, and what is told is a beginning of the history
kept_again : (b : Basis) (s : Words) (ks : List Known) (k : Kept b s) → seated ks ≡ seated s.views → Apart (passes_of (all_views ks)) → ((h : List Event) → Member h (all_told ks) → StartsWith k.sound.log h)
    → Kept b record { words = s.words; homes = s.homes; views = ks }
kept_again b s ks k same apart told =
    let both = subst (λ (f : Views). (r : IsSound b.sizes (memory_of b.sizes s.words) f) × ((h : List Event) → Member h (all_told ks) → StartsWith r.log h) × AreAdmitted (IsKeyOf b.schema) r.log) (sym same) (k.sound, told, k.typed) in
    record {
      long = k.long;
      sound = both.0;
      apart = apart;
      told = both.1;
      typed = both.2;
      begins = subst (BeginsAt b.counter_start ((memory_of b.sizes s.words).version cell.Anchor)) (sym same) k.begins;
    }

-- what one seat knows
abbrev pub views_in : Known → List View
views_in k = k.views

abbrev pub told_in : Known → List (List Event)
told_in k = k.told

module _ (basis : Basis) where
  -- the rule stands where views move to a new seat, which is told beginnings of the history
  pub splits : (id : ℕ) (whole left right : Known) → whole.views ≡ right.views ++ left.views → left.told ≡ whole.told
      → ((s : Words) (k : Kept basis s) → get_elem? s.views id ≡ some whole → (h : List Event) → Member h right.told → StartsWith k.sound.log h) → Splits (Kept basis) id whole left right
  splits id whole left right e same starts s k at =
      let vss : List (List View) = map views_in s.views in
      let ks : List Known = set s.views id left ++ right ∷ [] in
      let uss : List (List View) = set vss id left.views ++ right.views ∷ [] in
      let is : map views_in ks ≡ uss = map-append views_in (set s.views id left) (right ∷ []) ∙ ap (λ (l : List (List View)). l ++ right.views ∷ []) (map-set views_in s.views id left) in
      let here : get_elem? vss id ≡ some (right.views ++ left.views) = at_map views_in s.views id whole at ∙ ap (λ (l : List View). some l) e in
      let h : (q : ℕ) → only q (joined uss) ≡ only q (joined vss) = λ q. cut_only q vss id right.views left.views here (at_most (joined vss) k.apart q) in
      kept_again basis s ks k (ap members is ∙ members_same vss uss h) (subst (λ (l : List (List View)). Apart (passes_of (joined l))) (sym is) (apart_same vss uss h k.apart))
      (λ x i.
      let told : map told_in ks ≡ set (map told_in s.views) id left.told ++ right.told ∷ [] = map-append told_in (set s.views id left) (right ∷ []) ∙ ap (λ (l : List (List (List Event))). l ++ right.told ∷ []) (map-set told_in s.views id left) in
      let among : Member x (joined (set (map told_in s.views) id left.told) ++ joined (right.told ∷ [])) = subst (Member x) (ap joined told ∙ joined_append (set (map told_in s.views) id left.told) (right.told ∷ [])) i in
      ⊎_elim
      (λ (j : Member x (joined (set (map told_in s.views) id left.told))). ⊎_elim
      (λ (m : Member x left.told). k.told x (joined_here x (map told_in s.views) id whole.told (at_map told_in s.views id whole at) (subst (Member x) same m)))
      (λ (m : Member x (joined (map told_in s.views))). k.told x m)
      (joined_set x (map told_in s.views) id left.told j))
      (λ (j : Member x (joined (right.told ∷ []))). starts s k at x (subst (Member x) (append-nil right.told) j))
      (member_append x (joined (set (map told_in s.views) id left.told)) (joined (right.told ∷ [])) among))

  -- where a seat comes that has no pass
  pub enters : (slots : ℕ) → Enters (Kept basis) slots 0 (λ n w. w ≡ nobody)
  enters slots s k homes low =
      let ks : List Known = s.views ++ nobody ∷ [] in
      let is : joined (map views_in ks) ≡ joined (map views_in s.views) = ap joined (map-append views_in s.views (nobody ∷ [])) ∙ (joined_append (map views_in s.views) ([] ∷ []) ∙ append-nil (joined (map views_in s.views))) in
      let told : joined (map told_in ks) ≡ joined (map told_in s.views) = ap joined (map-append told_in s.views (nobody ∷ [])) ∙ (joined_append (map told_in s.views) ([] ∷ []) ∙ append-nil (joined (map told_in s.views))) in
      (nobody, kept_again basis s ks k (ap find is) (subst (λ (l : List View). Apart (passes_of l)) (sym is) k.apart) (λ x i. k.told x (subst (Member x) told i)), refl)

  -- and where one takes in what another knows, which is left with nothing
  pub joins : (id other : ℕ) (a b : Known) → Joins (Kept basis) id a other b (glued a b) nobody
  joins id other a b s k at apart at' =
      let vss : List (List View) = map views_in s.views in
      let ks : List Known = set (set s.views id (glued a b)) other nobody in
      let uss : List (List View) = set (set vss id (a.views ++ b.views)) other [] in
      let is : map views_in ks ≡ uss = map-set views_in (set s.views id (glued a b)) other nobody ∙ ap (λ (l : List (List View)). set l other []) (map-set views_in s.views id (glued a b)) in
      let was : get_elem? s.views other ≡ some b = sym (set_else s.views id other (glued a b) apart) ∙ at' in
      let h : (q : ℕ) → only q (joined uss) ≡ only q (joined vss) = λ q. glue_only q vss id other a.views b.views apart (at_map views_in s.views id a at) (at_map views_in s.views other b was) (at_most (joined vss) k.apart q) in
      let tss : List (List (List Event)) = map told_in s.views in
      let told : map told_in ks ≡ set (set tss id (a.told ++ b.told)) other [] = map-set told_in (set s.views id (glued a b)) other nobody ∙ ap (λ (l : List (List (List Event))). set l other []) (map-set told_in s.views id (glued a b)) in
      kept_again basis s ks k (ap members is ∙ members_same vss uss h) (subst (λ (l : List (List View)). Apart (passes_of (joined l))) (sym is) (apart_same vss uss h k.apart))
      (λ x i. k.told x (⊎_elim
      (λ (j : Member x []). absurd j)
      (λ (j : Member x (joined (set tss id (a.told ++ b.told)))). ⊎_elim
      (λ (m : Member x (a.told ++ b.told)). ⊎_elim
      (λ (n : Member x a.told). joined_here x tss id a.told (at_map told_in s.views id a at) n)
      (λ (n : Member x b.told). joined_here x tss other b.told (at_map told_in s.views other b was) n)
      (member_append x a.told b.told m))
      (λ (m : Member x (joined tss)). m)
      (joined_set x tss id (a.told ++ b.told) j))
      (joined_set x (set tss id (a.told ++ b.told)) other [] (subst (λ (l : List (List (List Event))). Member x (joined l)) told i))))
