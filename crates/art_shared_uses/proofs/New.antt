-- A pass that made no step yet may call.
use Rattle.std.proofs.Common.{◌≡◌, ◌<◌, ℕ, zero, suc, List, [], ◌∷◌, take, Some, ap}
use Rattle.std.specs.List.{slice_get}
use Rattle.art_change.specs.Calls.{IsCaller, IsFresh}
use Rattle.art_change.specs.declared.callers.Caller.{Caller}
use Rattle.art_shared.specs.declared.law.Known.{Known}
use Rattle.art_shared.specs.declared.pass.Pass.{Pass}
use Rattle.art_shared.specs.declared.shared.Shared.{Shared}
use Rattle.art_shared.specs.Passes.{view_in}
use Rattle.art_shared.specs.Tables.{sizes_in, view_of_pass}
use Rattle.art_shared_uses.specs.Clients.{IsNew, Writes}
use Rattle.art_step.specs.declared.views.View.{View}

pub writes_new : (t : Shared) (a : Pass) (c : Caller) (own : ℕ) → IsNew t a → own ≡ (view_of_pass a).pass → own < (sizes_in t).passes → ((u : View) → IsFresh (sizes_in t) u own → IsCaller (sizes_in t) u c) → Writes t a c
writes_new t a c own is own_is inside new = record {
  of = is.of;
  may = new (view_of_pass a) record {
    own_is = own_is;
    inside = inside;
    may = record { idle = ap (λ (k : Known). (view_in k).pin) is.new; free = ap (λ (k : Known). (view_in k).held) is.new };
    hand = ap (λ (k : Known). (view_in k).hand) is.new;
    limbo = ap (λ (k : Known). (view_in k).limbo) is.new;
  };
}

-- the first elements of a list are its own
pub get_taken : {A : Type 0} (n : ℕ) (xs : List A) (p : ℕ) (a : A) → slice_get (take n xs) p ≡ Some a → slice_get xs p ≡ Some a
get_taken zero xs p a e = absurd (cc)
get_taken (suc n) [] p a e = e
get_taken (suc n) (x ∷ xs) zero a e = e
get_taken (suc n) (x ∷ xs) (suc p) a e = get_taken n xs p a e
