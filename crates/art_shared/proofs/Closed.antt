-- The end of a table: the seat that is left has the views of all passes that are closed.
use Rattle.art_key.specs.Spelling.{IsKeyOf}
use Rattle.art_step.specs.Histories.{AreAdmitted}
use Rattle.std.proofs.Common.{◌≡◌, ◌≢◌, ◌⊎◌, ◌↔◌, ℕ, zero, suc, ◌<◌, true, false, List, [], ◌∷◌, ◌++◌, length, map, inl, inr, ⊎_elim, sym, refl, ap, ◌∙◌, subst, arith, eqb, ne_eqb}
use Rattle.std.proofs.lemmas.Bool.{cases_eq, false≢true}
use Rattle.std.proofs.lemmas.Map.Steps.{length-le_from_distinct_below}
use Rattle.std.proofs.lemmas.Option.{same_Some}
use Rattle.std.specs.List.{AllByRecursion, IsDistinct, list_any, slice_get}
use Rattle.std.specs.Prelude.{Some}
use mathlib.Core.Option.{some, some-injective, some-ne-none}
use lib.ListN.{get_elem?}
use Rattle.art_step.specs.declared.views.Sizes.{Sizes}
use Rattle.art_step.specs.declared.views.View.{View}
use Rattle.art_step.specs.Sound.{IsSound}
use Rattle.art_step.specs.Views.{Member}
use Rattle.art_step.specs.WordRows.{memory_of}
use Rattle.art_step.proofs.SetsView.{member_append, member_back, member_front}
use Rattle.atomic_table.proofs.Lists.{at_map}
use Rattle.art_shared.specs.declared.law.Basis.{Basis}
use Rattle.art_shared.specs.declared.law.Known.{Known}
use Rattle.art_shared.specs.declared.pass.Pass.{Pass}
use Rattle.art_shared.specs.Closing.{Closes, numbers_of}
use Rattle.art_shared.specs.Passes.{view_in}
use Rattle.art_shared.specs.Rule.{Apart, Kept, Words, joined, passes_of, seated}
use Rattle.art_shared.proofs.Ending.{closes_by}
use Rattle.art_shared.proofs.Lists.{apart_too, joined_here}
use Rattle.art_shared.proofs.Moving.{views_in}
use Rattle.art_shared.proofs.Seated.{apart_right, member_found}

-- the views of some passes
abbrev pub pass_views : List Pass → List View
pass_views ps = map (λ (a : Pass). view_in a.seat.me.0) ps

-- the last of them goes to the seat that is left
pub joins_last : (v : View) (a b c : List View) → Member v (a ++ (b ++ c)) ↔ Member v ((a ++ c) ++ b)
joins_last v a b c = (
  λ i. ⊎_elim
      (λ (j : Member v a). member_front v (a ++ c) b (member_front v a c j))
      (λ (j : Member v (b ++ c)). ⊎_elim
      (λ (k : Member v b). member_back v (a ++ c) b k)
      (λ (k : Member v c). member_front v (a ++ c) b (member_back v a c k))
      (member_append v b c j))
      (member_append v a (b ++ c) i),
  λ i. ⊎_elim
      (λ (j : Member v (a ++ c)). ⊎_elim
      (λ (k : Member v a). member_front v a (b ++ c) k)
      (λ (k : Member v c). member_back v a (b ++ c) (member_back v b c k))
      (member_append v a c j))
      (λ (j : Member v b). member_back v a (b ++ c) (member_front v b c j))
      (member_append v (a ++ c) b i),
)

-- the last of a list, and the others
pub get_end : {A : Type 0} (xs : List A) (x : A) → slice_get (xs ++ x ∷ []) (length xs) ≡ Some x
get_end [] x = refl
get_end (y ∷ xs) x = get_end xs x

pub get_before : {A : Type 0} (xs ys : List A) (p : ℕ) (s : A) → slice_get xs p ≡ Some s → slice_get (xs ++ ys) p ≡ Some s
get_before [] ys p s e = absurd (cc)
get_before (x ∷ xs) ys zero s e = e
get_before (x ∷ xs) ys (suc p) s e = get_before xs ys p s e

pub no_items : {A : Type 0} (xs : List A) → length xs ≡ 0 → xs ≡ []
no_items [] e = refl
no_items (x ∷ xs) e = absurd (omega arith)

-- ---- as many passes apart as there are numbers for them are all passes

member_or : (q : ℕ) (ps : List ℕ) → Member q ps ⊎ (Member q ps → ⊥)
member_or q [] = inr (λ i. i)
member_or q (p ∷ ps) = ⊎_elim
    (λ (e : q ≡ p). inl (inl e))
    (λ (other : q ≢ p). ⊎_elim (λ (i : Member q ps). inl (inr i)) (λ (none : Member q ps → ⊥). inr (λ i. ⊎_elim (λ (e : q ≡ p). other e) (λ (j : Member q ps). none j) i)) (member_or q ps))
    (cases_eq q p)

all_other : (p : ℕ) (ps : List ℕ) → (Member p ps → ⊥) → AllByRecursion (λ y. eqb p y ≡ false) ps
all_other p [] none = tt
all_other p (q ∷ ps) none = (ne_eqb p q (λ e. none (inl e)), all_other p ps (λ i. none (inr i)))

is_distinct : (ps : List ℕ) → Apart ps → IsDistinct eqb ps
unfolding IsDistinct
is_distinct [] a = tt
is_distinct (p ∷ ps) a = (all_other p ps a.0, is_distinct ps a.1)

any_member : (q : ℕ) (ps : List ℕ) → list_any (eqb q) ps ≡ true → Member q ps
any_member q [] h = absurd (false≢true h)
any_member q (p ∷ ps) h = ⊎_elim (λ (e : q ≡ p). inl e) (λ (other : q ≢ p). inr (any_member q ps (rw (ne_eqb q p other) at h))) (cases_eq q p)

all_there : (n : ℕ) (ps : List ℕ) → Apart ps → ((q : ℕ) → Member q ps → q < n) → length ps ≡ n → (q : ℕ) → q < n → Member q ps
all_there n ps apart below long q low = ⊎_elim
    (λ (i : Member q ps). i)
    (λ (none : Member q ps → ⊥).
    let more = length-le_from_distinct_below (q ∷ ps) n (is_distinct (q ∷ ps) (none, apart)) (λ r h. ⊎_elim (λ (e : r ≡ q). subst (λ (k : ℕ). k < n) (sym e) low) (λ (j : Member r ps). below r j) (any_member r (q ∷ ps) h)) in
    absurd (omega (arith, more, long)))
    (member_or q ps)

-- ---- the views of a seat

apart_front : (x ys : List View) → Apart (passes_of (x ++ ys)) → Apart (passes_of x)
apart_front [] ys a = tt
apart_front (v ∷ vs) ys a = (λ i. a.0 (passes_front v.pass vs ys i), apart_front vs ys a.1)
  where
    passes_front : (p : ℕ) (vs ys : List View) → Member p (passes_of vs) → Member p (passes_of (vs ++ ys))
    passes_front p [] ys i = absurd i
    passes_front p (u ∷ us) ys i = ⊎_elim (λ (e : p ≡ u.pass). inl e) (λ (j : Member p (passes_of us)). inr (passes_front p us ys j)) i

apart_here : (xs : List (List View)) (id : ℕ) (x : List View) → get_elem? xs id ≡ some x → Apart (passes_of (joined xs)) → Apart (passes_of x)
apart_here [] id x e a = absurd (some-ne-none x (sym e))
apart_here (y ∷ xs) zero x e a = subst (λ (l : List View). Apart (passes_of l)) (some-injective y x e) (apart_front y (joined xs) a)
apart_here (y ∷ xs) (suc id) x e a = apart_here xs id x e (apart_right y (joined xs) a)

pass_of_view : (vs : List View) (p : ℕ) → Member p (passes_of vs) → (v : View) × Member v vs × (v.pass ≡ p)
pass_of_view [] p i = absurd i
pass_of_view (v ∷ vs) p i = ⊎_elim (λ (e : p ≡ v.pass). (v, inl refl, sym e)) (λ (j : Member p (passes_of vs)). let k = pass_of_view vs p j in (k.0, inr k.1, k.2)) i

view_of_pass : (ps : List Pass) (a : Pass) → Member a ps → Member (view_in a.seat.me.0) (pass_views ps)
view_of_pass [] a i = absurd i
view_of_pass (b ∷ ps) a i = ⊎_elim (λ (e : a ≡ b). inl (ap (λ (c : Pass). view_in c.seat.me.0) e)) (λ (j : Member a ps). inr (view_of_pass ps a j)) i

pass_with_view : (ps : List Pass) (v : View) → Member v (pass_views ps) → (a : Pass) × Member a ps × (view_in a.seat.me.0 ≡ v)
pass_with_view [] v i = absurd i
pass_with_view (b ∷ ps) v i = ⊎_elim (λ (e : v ≡ view_in b.seat.me.0). (b, inl refl, sym e)) (λ (j : Member v (pass_views ps)). let k = pass_with_view ps v j in (k.0, inr k.1, k.2)) i

length_passes : (vs : List View) → length (passes_of vs) ≡ length vs
length_passes [] = refl
length_passes (v ∷ vs) = ap suc (length_passes vs)

same_passes : (ps : List Pass) → passes_of (pass_views ps) ≡ numbers_of ps
same_passes [] = refl
same_passes (a ∷ ps) = ap (λ (l : List ℕ). (view_in a.seat.me.0).pass ∷ l) (same_passes ps)

member_pass : (p : ℕ) (vs us : List View) → ((v : View) → Member v vs → Member v us) → Member p (passes_of vs) → Member p (passes_of us)
member_pass p vs us sub i = let u = pass_of_view vs p i in subst (λ (q : ℕ). Member q (passes_of us)) u.2 (pass_here u.0 us (sub u.0 u.1))
  where
    pass_here : (v : View) (us : List View) → Member v us → Member v.pass (passes_of us)
    pass_here v [] i = absurd i
    pass_here v (u ∷ us) i = ⊎_elim (λ (e : v ≡ u). inl (ap (λ (w : View). w.pass) e)) (λ (j : Member v us). inr (pass_here v us j)) i

length_views : (ps : List Pass) → length (pass_views ps) ≡ length ps
length_views [] = refl
length_views (a ∷ ps) = ap suc (length_views ps)

-- ---- the end

pub closes : (b : Basis) (id : ℕ) (s : Words) (k : Kept b s) (known : Known) (ps : List Pass) (ws : List ℕ) → get_elem? s.views id ≡ some known → ((v : View) → Member v (pass_views ps) ↔ Member v known.views)
    → length known.views ≡ length ps → ws ≡ s.words → Closes b ws ps
closes b id s k known ps ws at all long is =
    let z : Sizes = b.sizes in
    let vss : List (List View) = map views_in s.views in
    let here : get_elem? vss id ≡ some known.views = at_map views_in s.views id known at in
    let found : (u : View) → Member u known.views → seated s.views u.pass ≡ Some u = λ u i. member_found (joined vss) u k.apart (joined_here u vss id known.views here i) in
    let both : (r : IsSound z (memory_of z ws) (seated s.views)) × AreAdmitted (IsKeyOf b.schema) r.log =
    subst (λ (l : List ℕ). (r : IsSound z (memory_of z l) (seated s.views)) × AreAdmitted (IsKeyOf b.schema) r.log) (sym is) (k.sound, k.typed) in
    let apart : Apart (numbers_of ps) = subst Apart (same_passes ps)
    (apart_too (passes_of known.views) (passes_of (pass_views ps)) (apart_here vss id known.views here k.apart)
    (λ p i. member_pass p known.views (pass_views ps) (λ v j. (all v).1 j) i)
    (length_passes (pass_views ps) ∙ (length_views ps ∙ (sym long ∙ sym (length_passes known.views))))) in
    closes_by b ws (seated s.views) ps both.0 (ap length is ∙ k.long) apart both.1 (λ a i. found (view_in a.seat.me.0) ((all (view_in a.seat.me.0)).0 (view_of_pass ps a i))) (λ count p v e.
    let low = (k.sound.unstamped.pinned p v e).inside in
    let there = all_there z.passes (passes_of known.views) (apart_here vss id known.views here k.apart)
    (λ q i. let u = pass_of_view known.views q i in subst (λ (n : ℕ). n < z.passes) u.2 (k.sound.unstamped.pinned u.0.pass u.0 (found u.0 u.1)).inside)
    (length_passes known.views ∙ (long ∙ count)) p low in
    let u = pass_of_view known.views p there in
    let same : u.0 ≡ v = same_Some u.0 v (sym (found u.0 u.1) ∙ (ap (seated s.views) u.2 ∙ e)) in
    let a = pass_with_view ps u.0 ((all u.0).1 u.1) in
    (a.0, a.1, a.2 ∙ same))
