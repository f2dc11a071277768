-- What a pass that is lent knows outside its steps: its stamps have the places of their cells, and its numbers are numbers that there are.
use Rattle.std.proofs.Common.{◌≡◌, ◌≢◌, ◌⊎◌, ◌<◌, ◌≤◌, ◌&&◌, Bool, true, false, List, [], ◌∷◌, map, ⊎_elim, sym, refl, subst, eq-eqb, ne_eqb}
use Rattle.std.proofs.lemmas.Bool.{cases_eq, cases_lt, false≢true, le-ltb, lt-ltb}
use Rattle.art_cell.specs.declared.cells.Link.{Link}
use Rattle.art_cell.specs.Children.{number_of}
use Rattle.art_step.specs.declared.views.InHand.{InHand}
use Rattle.art_step.specs.declared.views.Retired.{Retired}
use Rattle.art_step.specs.declared.views.Sizes.{Sizes}
use Rattle.art_step.specs.declared.views.Stamp.{Stamp}
use Rattle.art_step.specs.declared.views.View.{View}
use Rattle.art_step.specs.Steps.Give as give
use Rattle.art_step.specs.Views.{IsNumber, Member, links_in_hand, links_in_limbo, pool_of}
use Rattle.art_step.specs.WordPlaces.{place_of, pool_size}
use Rattle.art_step.proofs.WordPlaces.{is_number}
use Rattle.art_shared.specs.declared.law.Basis.{Basis}
use Rattle.art_shared.specs.declared.stepper.Stepper.{Stepper}
use Rattle.art_shared.specs.Passes.{all_placed, are_numbers}
use Rattle.art_shared.specs.Stepper.{sizes_of, view_of}

placed_at : (z : Sizes) (xs : List Stamp) (x : Stamp) → all_placed z xs ≡ true → Member x xs → x.first ≡ place_of z x.cell
placed_at z [] x h i = absurd i
placed_at z (y ∷ ys) x h i = ⊎_elim
    (λ (e : y.first ≡ place_of z y.cell). ⊎_elim
    (λ (s : x ≡ y). subst (λ (a : Stamp). a.first ≡ place_of z a.cell) (sym s) e)
    (λ (j : Member x ys). placed_at z ys x (rw (eq-eqb y.first (place_of z y.cell) e) at h) j)
    i)
    (λ (other : y.first ≢ place_of z y.cell). absurd (false≢true (rw (ne_eqb y.first (place_of z y.cell) other) at h)))
    (cases_eq y.first (place_of z y.cell))

pub stamp_at : (a : Stepper) (x : Stamp) → Member x (view_of a).stamps → x.first ≡ place_of (sizes_of a) x.cell
stamp_at a x i = subst (λ (b : Basis). x.first ≡ place_of b.sizes x.cell) a.basis (placed_at (a.pass.now.seat.me.0.basis.sizes) (view_of a).stamps x a.pass.now.placed i)

-- ---- and its numbers in hand and in limbo are numbers that there are

numbers_at : {A : Type 0} (z : Sizes) (link : A → Link) (xs : List A) (x : A) → are_numbers z (map link xs) ≡ true → Member x xs → IsNumber z (link x)
numbers_at z link [] x h i = absurd i
numbers_at z link (y ∷ ys) x h i = ⊎_elim
    (λ (low : number_of (link y) < pool_size z (pool_of (link y))). ⊎_elim
    (λ (s : x ≡ y). subst (λ (a : _). IsNumber z (link a)) (sym s) ((is_number z (link y)).1 low))
    (λ (j : Member x ys). numbers_at z link ys x (rw (lt-ltb (number_of (link y)) (pool_size z (pool_of (link y))) low) at h) j)
    i)
    (λ (high : pool_size z (pool_of (link y)) ≤ number_of (link y)). absurd (false≢true (rw (le-ltb (number_of (link y)) (pool_size z (pool_of (link y))) high) at h)))
    (cases_lt (number_of (link y)) (pool_size z (pool_of (link y))))

both_true : (a b : Bool) → (a && b) ≡ true → (a ≡ true) × (b ≡ true)
both_true true b h = (refl, h)
both_true false b h = absurd (false≢true h)

-- a number that may go back is one of them
pub number_there : (a : Stepper) (d : Link) → give.May (view_of a) d ⊎ give.MayFree (sizes_of a) (view_of a) d → IsNumber (sizes_of a) d
number_there a d may =
    let v : View = view_of a in
    let both = both_true (are_numbers a.pass.now.seat.me.0.basis.sizes (links_in_hand v.hand)) (are_numbers a.pass.now.seat.me.0.basis.sizes (links_in_limbo v.limbo)) a.pass.now.numbers in
    subst (λ (b : Basis). IsNumber b.sizes d) a.basis
    (⊎_elim
    (λ (m : give.May v d). subst (IsNumber a.pass.now.seat.me.0.basis.sizes) m.hand.2 (numbers_at a.pass.now.seat.me.0.basis.sizes (λ (x : InHand). x.link) v.hand m.hand.0 both.0 m.hand.1))
    (λ (m : give.MayFree (sizes_of a) v d). subst (IsNumber a.pass.now.seat.me.0.basis.sizes) m.link (numbers_at a.pass.now.seat.me.0.basis.sizes (λ (x : Retired). x.link) v.limbo m.place both.1 m.limbo))
    may)
