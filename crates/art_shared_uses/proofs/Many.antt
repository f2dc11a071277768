-- Passes of a table, each of which a thread had.
use Rattle.std.proofs.Common.{◌≡◌, ◌<◌, ℕ, List, length, Ok, Err, Result, IfOk, Vec, Global, refl, subst, arith}
use Rattle.std.proofs.lemmas.Option.{get_or_from_slice_get, slice_get_read, slice_get_within}
use Rattle.std.specs.Prelude.{slice_index_or, vec_len}
use Rattle.art_shared.specs.declared.pass.Pass.{Pass}
use Rattle.art_shared.specs.declared.shared.Shared.{Shared}
use Rattle.art_shared.specs.Tables.{IsPassOf}
use Rattle.art_shared_uses.specs.Clients.{AreNew, AreOf, IsNew}

-- the pass at a place is one of them
pub new_at : (t : Shared) (js : List Pass) → AreNew t js → (i : ℕ) (a : Pass) → i < length js → a ≡ slice_index_or js i a → IsNew t a
new_at t js new i a low is = new i a (slice_get_read js (length js) i a refl low is)

-- as many passes come back, and each is one of the table
pub come_back : {E : Type 0} (t : Shared) (js : Vec Pass Global) (r : Result (Vec Pass Global) E) → IfOk r (λ v. vec_len v ≡ vec_len js)
    → IfOk r (λ v. (i : ℕ) (a : Pass) → i < length js.items → IsPassOf t (slice_index_or v.items i a)) → IfOk r (λ v. AreOf t v.items)
come_back t js (Ok v) len each = λ p a e.
    let low : p < length js.items = omega (arith, v.ok, js.ok, len, slice_get_within v.items p a e) in
    subst (IsPassOf t) (get_or_from_slice_get v.items p a a e) (each p a low)
come_back t js (Err e) len each = each
