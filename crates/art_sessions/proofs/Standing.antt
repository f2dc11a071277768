-- The rows that a legal history leaves are sorted, and stand in the schema.
use Rattle.std.proofs.Common.{◌≡◌, ℕ, zero, suc, List, [], ◌∷◌, take, Option, Some, None, refl}
use Rattle.std.specs.List.{AllByRecursion}
use Rattle.std.specs.List.Sorted.{IsStrictlySortedBy}
use Rattle.art_key.specs.Columns.{order_of}
use Rattle.art_key.specs.Histories.{IsAnswered, IsLegal, IsLegalFrom, StandsIn, becomes, run}
use Rattle.art_key.specs.declared.columns.Column.{Column}
use Rattle.art_key.specs.declared.events.Deed.{Deed}
use Rattle.art_key.specs.declared.events.Deed.TheVariants.{Done, Look}
use Rattle.art_key.specs.declared.events.Event.{Event}
use Rattle.art_model.specs.Answers.{get_answer, insert_answer, remove_answer}
use Rattle.art_model.specs.Rows.{IsSortedRows, Order, Tuple, value_at}
use Rattle.art_model.specs.declared.commands.Command.TheVariants.{Insert, Remove, Get, Scan}
use Rattle.art_model.specs.declared.rows.Row.{Row}
use Rattle.art_sessions.specs.Points.{rows_at}
use Rattle.art_typed.proofs.Cuts.{all_with, all_without, sorted_with, sorted_without}

module _ (schema : List Column) where
  abbrev order : Order
  order = order_of schema

  abbrev Stands : Row → Type 0
  Stands row = StandsIn schema row.tuple

  pub record IsStanding (rows : List Row) : Type 0 where
    pub sorted : IsSortedRows (order_of schema) rows
    pub stand : AllByRecursion (λ (row : Row). StandsIn schema row.tuple) rows

  -- ---- after one event

  inserted : (rows : List Row) (t : Tuple) (v : ℕ) → IsStanding rows → StandsIn schema t → (there : Option ℕ) → value_at rows t ≡ there → IsStanding (insert_answer order rows t v there).1
  inserted rows t v s stands None is = record { sorted = sorted_with order rows t v s.sorted is; stand = all_with order Stands rows t v s.sorted is stands s.stand }
  inserted rows t v s stands (Some value) is = s

  removed : (rows : List Row) (t : Tuple) → IsStanding rows → (there : Option ℕ) → value_at rows t ≡ there → IsStanding (remove_answer order rows t there).1
  removed rows t s None is = s
  removed rows t s (Some value) is = record { sorted = sorted_without order rows t value s.sorted is; stand = all_without order rows t value s.sorted is Stands s.stand }

  looked_up : (rows : List Row) → IsStanding rows → (there : Option ℕ) → IsStanding (get_answer rows there).1
  looked_up rows s None = s
  looked_up rows s (Some value) = s

  after : (rows : List Row) (what : Deed) → IsStanding rows → IsAnswered schema rows what → IsStanding (becomes schema rows what)
  after rows (Done (Insert t v) reply) s answered = inserted rows t v s answered.0 (value_at rows t) refl
  after rows (Done (Remove t) reply) s answered = removed rows t s (value_at rows t) refl
  after rows (Done (Get t) reply) s answered = looked_up rows s (value_at rows t)
  after rows (Done (Scan lo hi limit) reply) s answered = absurd answered.0
  after rows (Look lo hi found) s answered = s

  -- ---- after all of them

  after_all : (rows : List Row) (log : List Event) → IsStanding rows → IsLegalFrom schema rows log → IsStanding (run schema rows log)
  after_all rows [] s legal = s
  after_all rows (e ∷ es) s legal = after_all (becomes schema rows e.what) es (after rows e.what s legal.0) legal.1

  legal_front : (rows : List Row) (log : List Event) (k : ℕ) → IsLegalFrom schema rows log → IsLegalFrom schema rows (take k log)
  legal_front rows log zero legal = tt
  legal_front rows [] (suc k) legal = tt
  legal_front rows (e ∷ es) (suc k) legal = (legal.0, legal_front (becomes schema rows e.what) es k legal.1)

  none_stand : IsStanding []
  unfolding IsStrictlySortedBy
  none_stand = record { sorted = tt; stand = tt }

  pub rows_stand_at : (log : List Event) (k : ℕ) → IsLegal schema log → IsStanding (rows_at schema log k)
  rows_stand_at log k legal = after_all [] (take k log) none_stand (legal_front [] log k legal)
