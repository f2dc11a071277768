-- Passes of a table, each of which a thread had.
use Rattle.std.proofs.Common.{◌≡◌, ◌<◌, ℕ, List, length, Ok, Err, Result, IfOk, Vec, Global, sym, subst, arith}
use Rattle.std.specs.Prelude.{slice_index_or, vec_len}
use Rattle.art_table.specs.declared.passes.Pass.{Pass}
use Rattle.art_table.specs.declared.tables.Table.{Table}
use Rattle.art_table.specs.Tables.{AreOf, IsPassOf}

-- the pass at a place is one of them
pub of_at : (t : Table) (js : List Pass) → AreOf t js → (i : ℕ) (a : Pass) → i < length js → a ≡ slice_index_or js i a → IsPassOf t a
of_at t js are i a low is = subst (IsPassOf t) (sym is) (are i a low)

-- as many passes come back, and each is one of the table
pub come_back : {E : Type 0} (t : Table) (js : Vec Pass Global) (r : Result (Vec Pass Global) E) → IfOk r (λ v. vec_len v ≡ vec_len js)
    → IfOk r (λ v. (i : ℕ) (a : Pass) → i < length js.items → IsPassOf t (slice_index_or v.items i a)) → IfOk r (λ v. AreOf t v.items)
come_back t js (Ok v) len each = λ p a low. each p a (omega (arith, v.ok, js.ok, len, low))
come_back t js (Err e) len each = each
