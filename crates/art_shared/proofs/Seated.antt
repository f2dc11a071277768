-- The views of a table's seats, as those of passes apart; and what one seat's step makes of them.
use Rattle.std.proofs.Common.{◌≡◌, ◌≢◌, ℕ, zero, suc, ◌==◌, if◌then◌else◌, List, [], ◌∷◌, ◌++◌, set, inl, inr, ⊎_elim, sym, refl, ap, ◌∙◌, subst, eq-eqb, ne_eqb}
use Rattle.std.specs.Prelude.{Option, Some}
use mathlib.Core.Option.{some, some-injective, some-ne-none}
use lib.ListN.{get_elem?}
use Rattle.art_step.specs.declared.views.View.{View}
use Rattle.art_step.specs.declared.views.Pin.{Pin}
use Rattle.art_step.specs.Steps.Commit.{AreStanding}
use Rattle.art_step.specs.Views.{Member, SetsView, Views}
use Rattle.art_step.proofs.Gathered.{Gathered, gathered}
use Rattle.std.proofs.lemmas.Bool.{cases_eq}
use Rattle.std.proofs.lemmas.Option.{same_Some}
use Rattle.art_shared.specs.Rule.{Apart, find, joined, passes_of}

-- the view of a pass, where each seat has some views
abbrev pub members : List (List View) → Views
members vss p = find (joined vss) p

past : (x ys : List View) (p : ℕ) → (Member p (passes_of x) → ⊥) → find (x ++ ys) p ≡ find ys p
past [] ys p h = refl
past (v ∷ vs) ys p h = rw (ne_eqb v.pass p (λ e. h (inl (sym e)))) (past vs ys p (λ i. h (inr i)))

alike : (x ys zs : List View) (p : ℕ) → find ys p ≡ find zs p → find (x ++ ys) p ≡ find (x ++ zs) p
alike [] ys zs p e = e
alike (v ∷ vs) ys zs p e = ap (λ (o : Option View). if v.pass == p then Some v else o) (alike vs ys zs p e)

pub apart_right : (x ys : List View) → Apart (passes_of (x ++ ys)) → Apart (passes_of ys)
apart_right [] ys a = a
apart_right (v ∷ vs) ys a = apart_right vs ys a.1

member_right : (x ys : List View) (p : ℕ) → Member p (passes_of ys) → Member p (passes_of (x ++ ys))
member_right [] ys p i = i
member_right (v ∷ vs) ys p i = inr (member_right vs ys p i)

apart_left : (x ys : List View) (p : ℕ) → Apart (passes_of (x ++ ys)) → Member p (passes_of ys) → Member p (passes_of x) → ⊥
apart_left [] ys p a i j = j
apart_left (v ∷ vs) ys p a i j = ⊎_elim (λ (e : p ≡ v.pass). a.0 (subst (λ (q : ℕ). Member q (passes_of (vs ++ ys))) e (member_right vs ys p i))) (λ (j : Member p (passes_of vs)). apart_left vs ys p a.1 i j) j

member_joined : (vss : List (List View)) (id : ℕ) (v : View) → get_elem? vss id ≡ some (v ∷ []) → Member v.pass (passes_of (joined vss))
member_joined [] id v e = absurd (some-ne-none (v ∷ []) (sym e))
member_joined (x ∷ xs) zero v e = let f : x ≡ v ∷ [] = some-injective x (v ∷ []) e in subst (λ (y : List View). Member v.pass (passes_of (y ++ joined xs))) (sym f) (inl refl)
member_joined (x ∷ xs) (suc id) v e = member_right x (joined xs) v.pass (member_joined xs id v e)

past_map : (y a b : List View) → passes_of a ≡ passes_of b → passes_of (y ++ a) ≡ passes_of (y ++ b)
past_map [] a b h = h
past_map (u ∷ us) a b h = ap (λ (l : List ℕ). u.pass ∷ l) (past_map us a b h)

pub passes_set : (vss : List (List View)) (id : ℕ) (v w : View) → get_elem? vss id ≡ some (v ∷ []) → w.pass ≡ v.pass → passes_of (joined (set vss id (w ∷ []))) ≡ passes_of (joined vss)
passes_set [] id v w e same = refl
passes_set (x ∷ xs) zero v w e same = let f : x ≡ v ∷ [] = some-injective x (v ∷ []) e in subst (λ (y : List View). w.pass ∷ passes_of (joined xs) ≡ passes_of (y ++ joined xs)) (sym f) (ap (λ (q : ℕ). q ∷ passes_of (joined xs)) same)
passes_set (x ∷ xs) (suc id) v w e same = past_map x (joined (set xs id (w ∷ []))) (joined xs) (passes_set xs id v w e same)

pub at_member : (vss : List (List View)) (id : ℕ) (v : View) → get_elem? vss id ≡ some (v ∷ []) → Apart (passes_of (joined vss)) → members vss v.pass ≡ Some v
at_member [] id v e a = absurd (some-ne-none (v ∷ []) (sym e))
at_member (x ∷ xs) zero v e a = let f : x ≡ v ∷ [] = some-injective x (v ∷ []) e in subst (λ (y : List View). find (y ++ joined xs) v.pass ≡ Some v) (sym f) (rw (eq-eqb v.pass v.pass refl) refl)
at_member (x ∷ xs) (suc id) v e a = past x (joined xs) v.pass (apart_left x (joined xs) v.pass a (member_joined xs id v e)) ∙ at_member xs id v e (apart_right x (joined xs) a)

here_member : (vss : List (List View)) (id : ℕ) (v w : View) → get_elem? vss id ≡ some (v ∷ []) → w.pass ≡ v.pass → Apart (passes_of (joined vss)) → members (set vss id (w ∷ [])) v.pass ≡ Some w
here_member [] id v w e same a = absurd (some-ne-none (v ∷ []) (sym e))
here_member (x ∷ xs) zero v w e same a = rw (eq-eqb w.pass v.pass same) refl
here_member (x ∷ xs) (suc id) v w e same a = past x (joined (set xs id (w ∷ []))) v.pass (apart_left x (joined xs) v.pass a (member_joined xs id v e)) ∙ here_member xs id v w e same (apart_right x (joined xs) a)

there_member : (vss : List (List View)) (id : ℕ) (v w : View) → get_elem? vss id ≡ some (v ∷ []) → w.pass ≡ v.pass → (q : ℕ) → q ≢ v.pass → members (set vss id (w ∷ [])) q ≡ members vss q
there_member [] id v w e same q other = refl
there_member (x ∷ xs) zero v w e same q other =
    let f : x ≡ v ∷ [] = some-injective x (v ∷ []) e in
    subst (λ (y : List View). find (w ∷ joined xs) q ≡ find (y ++ joined xs) q) (sym f) (rw (ne_eqb w.pass q (λ h. other (sym h ∙ same)), ne_eqb v.pass q (λ h. other (sym h))) refl)
there_member (x ∷ xs) (suc id) v w e same q other = alike x (joined (set xs id (w ∷ []))) (joined xs) q (there_member xs id v w e same q other)

pub turns_member : (vss : List (List View)) (id : ℕ) (v w : View) → get_elem? vss id ≡ some (v ∷ []) → w.pass ≡ v.pass → Apart (passes_of (joined vss)) → SetsView (members vss) v.pass w (members (set vss id (w ∷ [])))
turns_member vss id v w e same a = record { here = here_member vss id v w e same a; there = there_member vss id v w e same }

-- ---- the pins that stand

pub found_member : (vs : List View) (q : ℕ) (u : View) → find vs q ≡ Some u → Member u vs × (u.pass ≡ q)
found_member [] q u e = absurd (cc)
found_member (v ∷ vs) q u e = ⊎_elim
    (λ (is : v.pass ≡ q). let same : v ≡ u = same_Some v u (sym (rw (eq-eqb v.pass q is) refl) ∙ e) in (inl (sym same), sym (ap (λ (a : View). a.pass) same) ∙ is))
    (λ (other : v.pass ≢ q). let rest = found_member vs q u (sym (rw (ne_eqb v.pass q other) refl) ∙ e) in (inr rest.0, rest.1))
    (cases_eq v.pass q)

member_passes : (vs : List View) (u : View) → Member u vs → Member u.pass (passes_of vs)
member_passes [] u i = i
member_passes (v ∷ vs) u i = ⊎_elim (λ (e : u ≡ v). inl (ap (λ (a : View). a.pass) e)) (λ (j : Member u vs). inr (member_passes vs u j)) i

pub member_found : (vs : List View) (u : View) → Apart (passes_of vs) → Member u vs → find vs u.pass ≡ Some u
member_found [] u a i = absurd i
member_found (v ∷ vs) u a i = ⊎_elim
    (λ (e : u ≡ v). rw (eq-eqb v.pass u.pass (sym (ap (λ (b : View). b.pass) e))) (ap Some (sym e)))
    (λ (j : Member u vs). rw (ne_eqb v.pass u.pass (λ e. a.0 (subst (λ (q : ℕ). Member q (passes_of vs)) (sym e) (member_passes vs u j)))) (member_found vs u a.1 j))
    i

abbrev pin_of : ℕ → ℕ → Pin
pin_of q n = record { pass = q; count = n }

-- those of the views that are pinned
pub standing : (vs : List View) → Apart (passes_of vs) → (ks : List Pin) × AreStanding (find vs) ks
standing vs apart =
    let Stands : View → Pin → Type 0 = λ u k. (u.pin ≢ 0) × (k ≡ pin_of u.pass u.pins) in
    let ks : Gathered Stands vs = gathered Stands vs (λ u i. ⊎_elim
    (λ (idle : u.pin ≡ 0). inr (λ k stands. stands.0 idle))
    (λ (pinned : u.pin ≢ 0). inl (pin_of u.pass u.pins, (pinned, refl), λ k stands. stands.1))
    (cases_eq u.pin 0)) in (
      ks.list,
      record {
        all = λ q u is pinned. let at = found_member vs q u is in ks.each u (pin_of q u.pins) at.0 (pinned, ap (λ (n : ℕ). pin_of n u.pins) (sym at.1));
        only = λ q n i.
            let k = ks.from (pin_of q n) i in
            (k.0, subst (λ (j : ℕ). find vs j ≡ Some k.0) (sym (ap (λ (a : Pin). a.pass) k.2.1)) (member_found vs k.0 apart k.1), k.2.0, ap (λ (a : Pin). a.count) k.2.1);
      },
    )
