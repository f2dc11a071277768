-- The pins that stand, gathered from the views.
use Rattle.std.proofs.Common.{◌≡◌, ◌≢◌, ℕ, zero, suc, List, [], ◌∷◌, slice_get, inl, inr, ⊎_elim, refl, sym, ap, ◌∙◌, subst}
use Rattle.std.proofs.lemmas.Bool.{cases_eq}
use Rattle.std.proofs.lemmas.Option.{same_Some}
use Rattle.std.specs.Prelude.{Some}
use Rattle.art_step.specs.declared.views.Pin.{Pin}
use Rattle.art_step.specs.declared.views.View.{View}
use Rattle.art_step.specs.Steps.Commit.{AreStanding}
use Rattle.art_step.specs.Views.{Member}
use Rattle.art_step.specs.WordRows.{views_of}
use Rattle.art_step.proofs.Gathered.{Gathered, gathered}

view_member : (vs : List View) (q : ℕ) (u : View) → slice_get vs q ≡ Some u → Member u vs
view_member [] q u e = absurd (cc)
view_member (x ∷ vs) zero u e = inl (sym (same_Some x u e))
view_member (x ∷ vs) (suc q) u e = inr (view_member vs q u e)

view_place : (vs : List View) (u : View) → Member u vs → (q : ℕ) × (slice_get vs q ≡ Some u)
view_place [] u i = absurd i
view_place (x ∷ vs) u i = ⊎_elim (λ (e : u ≡ x). (zero, ap Some (sym e))) (λ (j : Member u vs). let k = view_place vs u j in (suc k.0, k.1)) i

abbrev pin_of : ℕ → ℕ → Pin
pin_of q n = record { pass = q; count = n }

-- those of the views that are pinned, where each view stands at its pass
pub standing : (vs : List View) → ((q : ℕ) (u : View) → views_of vs q ≡ Some u → u.pass ≡ q) → (ks : List Pin) × AreStanding (views_of vs) ks
standing vs own =
    let Stands : View → Pin → Type 0 = λ u k. (u.pin ≢ 0) × (k ≡ pin_of u.pass u.pins) in
    let ks : Gathered Stands vs = gathered Stands vs (λ u i. ⊎_elim
    (λ (idle : u.pin ≡ 0). inr (λ k stands. stands.0 idle))
    (λ (pinned : u.pin ≢ 0). inl (pin_of u.pass u.pins, (pinned, refl), λ k stands. stands.1))
    (cases_eq u.pin 0)) in (
      ks.list,
      record {
        all = λ q u is pinned. ks.each u (pin_of q u.pins) (view_member vs q u is) (pinned, ap (λ (n : ℕ). pin_of n u.pins) (sym (own q u is)));
        only = λ q n i.
            let k = ks.from (pin_of q n) i in
            let at = view_place vs k.0 k.1 in
            let same : at.0 ≡ q = sym (own at.0 k.0 at.1) ∙ sym (ap (λ (a : Pin). a.pass) k.2.1) in
            (k.0, subst (λ (j : ℕ). views_of vs j ≡ Some k.0) same at.1, k.2.0, ap (λ (a : Pin). a.count) k.2.1);
      },
    )
