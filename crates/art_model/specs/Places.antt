-- Where a tuple stands among sorted rows.
use Rattle.std.specs.Prelude.{◌≡◌, ℕ, ◌+◌, ◌<◌, ◌≤◌, List, length, take, drop, slice_index_or}
use Rattle.std.specs.declared.cmp.Ordering.TheVariants.{Less, Equal, Greater}
use Rattle.std.specs.List.{AllByRecursion}
use Rattle.art_model.specs.declared.rows.Row.{Row}
use Rattle.art_model.specs.Rows.{Order, Tuple, tuple_cmp}

-- the rows all stand before the tuple
abbrev pub StandBefore : Order → Tuple → List Row → Type 0
StandBefore order t rows = AllByRecursion (λ row. tuple_cmp order row.tuple t ≡ Less) rows

-- the rows all stand after the tuple
abbrev pub StandAfter : Order → Tuple → List Row → Type 0
StandAfter order t rows = AllByRecursion (λ row. tuple_cmp order row.tuple t ≡ Greater) rows

-- the row at place i has the tuple; those before it stand before the tuple, and those after it after
pub record IsPlaceOf (order : Order) (rows : List Row) (t : Tuple) (i : ℕ) : Type 0 where
  pub within : i < length rows
  pub same : (d : Row) → tuple_cmp order (slice_index_or rows i d).tuple t ≡ Equal
  pub before : StandBefore order t (take i rows)
  pub after : StandAfter order t (drop (i + 1) rows)

-- no row has the tuple: those before place i stand before it, and those from i on after it
pub record IsGapFor (order : Order) (rows : List Row) (t : Tuple) (i : ℕ) : Type 0 where
  pub within : i ≤ length rows
  pub before : StandBefore order t (take i rows)
  pub after : StandAfter order t (drop i rows)
