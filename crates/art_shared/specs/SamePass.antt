-- A pass before some steps of its own, and after them.
use Rattle.std.specs.Prelude.{◌≡◌}
use Rattle.art_shared.specs.declared.pass.Pass.{Pass}

-- it is the same pass at the same table, which was told nothing
pub record SamePass (a b : Pass) : Type 0 where
  pub number : b.number ≡ a.number
  pub table : b.seat.table_id ≡ a.seat.table_id
  pub seat : b.seat.id ≡ a.seat.id
  pub basis : b.seat.me.0.basis ≡ a.seat.me.0.basis
  pub told : b.seat.me.0.told ≡ a.seat.me.0.told

-- it is the same pass at the same table, whatever it was told
pub record SameSeat (a b : Pass) : Type 0 where
  pub number : b.number ≡ a.number
  pub table : b.seat.table_id ≡ a.seat.table_id
  pub seat : b.seat.id ≡ a.seat.id
  pub basis : b.seat.me.0.basis ≡ a.seat.me.0.basis
