-- Each insert that is told leaves one row more, and each removal one less.
use Rattle.std.proofs.Common.{◌≡◌, ℕ, ◌+◌, List, [], ◌∷◌, length, length-append, Option, Some, None, refl, sym, ap, ◌∙◌, subst, arith}
use Rattle.std.proofs.lemmas.List.Sums.{sum_by-cons}
use Rattle.std.specs.List.{sum_by}
use Rattle.std.specs.List.Sorted.{IsStrictlySortedBy}
use Rattle.std.specs.Prelude.{Ok}
use Rattle.art_key.specs.Columns.{order_of}
use Rattle.art_key.specs.Histories.{IsAnswered, IsLegalFrom, becomes, run}
use Rattle.art_key.specs.declared.columns.Column.{Column}
use Rattle.art_key.specs.declared.events.Deed.{Deed}
use Rattle.art_key.specs.declared.events.Deed.TheVariants.{Done, Look}
use Rattle.art_key.specs.declared.events.Event.{Event}
use Rattle.art_load.specs.Counts.{inserted_in, removed_in}
use Rattle.art_load.specs.Left.{RowsLeft}
use Rattle.art_load.specs.Own.{told_by, told_of}
use Rattle.art_model.proofs.Places.{gap_value, gap_with, place_value, place_without}
use Rattle.art_model.specs.Answers.{get_answer, insert_answer, remove_answer}
use Rattle.art_model.specs.Rows.{IsSortedRows, Order, Tuple, value_at, with_row, without_row}
use Rattle.art_model.specs.declared.commands.Command.TheVariants.{Insert, Remove, Get, Scan}
use Rattle.art_model.specs.declared.commands.Reply.{Reply}
use Rattle.art_model.specs.declared.rows.Row.{Row}
use Rattle.art_typed.proofs.Cuts.{Cut, cut, sorted_with, sorted_without}
use Rattle.art_typed.proofs.Cuts.Cut.{Gap, Place}

-- ---- one row more, and one less

module _ (order : Order) (rows : List Row) (t : Tuple) (sorted : IsSortedRows order rows) where
  one_longer : (v : ℕ) → value_at rows t ≡ None → length (with_row order rows t v) ≡ length rows + 1
  one_longer v none = by (cut order rows t sorted)
    where
      by : Cut order rows t → length (with_row order rows t v) ≡ length rows + 1
      by (Gap front back is before after) =
          let row : Row = record { tuple = t; value = v } in
          let cut_is = ap (λ (l : List Row). length (with_row order l t v)) is in
          let added = ap (λ (l : List Row). length l) (gap_with order front back t before after v) in
          let long = ap (λ (l : List Row). length l) is in
          omega (arith, cut_is, added, long, length-append front (row ∷ back), length-append front back)
      by (Place front row back is before same after) =
          let there = ap (λ (l : List Row). value_at l t) is ∙ place_value order front back t before after row same in
          let both = sym none ∙ there in
          absurd (cc)

  one_shorter : (v : ℕ) → value_at rows t ≡ Some v → length (without_row order rows t) + 1 ≡ length rows
  one_shorter v there = by (cut order rows t sorted)
    where
      by : Cut order rows t → length (without_row order rows t) + 1 ≡ length rows
      by (Gap front back is before after) =
          let none = ap (λ (l : List Row). value_at l t) is ∙ gap_value order front back t before after in
          let both = sym there ∙ none in
          absurd (cc)
      by (Place front row back is before same after) =
          let cut_is = ap (λ (l : List Row). length (without_row order l t)) is in
          let taken = ap (λ (l : List Row). length l) (place_without order front back t before after row same) in
          let long = ap (λ (l : List Row). length l) is in
          omega (arith, cut_is, taken, long, length-append front (row ∷ back), length-append front back)

-- ---- one event

module _ (schema : List Column) where
  abbrev order : Order
  order = order_of schema

  -- what a reply says of how many rows there are then
  record Changes (rows after : List Row) (reply : Reply) : Type 0 where
    pub sorted : IsSortedRows (order_of schema) after
    pub count : length after + removed_in (Ok reply) ≡ length rows + inserted_in (Ok reply)

  inserted : (rows : List Row) (t : Tuple) (v : ℕ) → IsSortedRows order rows → (there : Option ℕ) → value_at rows t ≡ there
      → Changes rows (insert_answer order rows t v there).1 (insert_answer order rows t v there).0
  inserted rows t v s None is =
      let more = one_longer order rows t s v is in
      record { sorted = sorted_with order rows t v s is; count = omega (arith, more) }
  inserted rows t v s (Some value) is = record { sorted = s; count = refl }

  removed : (rows : List Row) (t : Tuple) → IsSortedRows order rows → (there : Option ℕ) → value_at rows t ≡ there
      → Changes rows (remove_answer order rows t there).1 (remove_answer order rows t there).0
  removed rows t s None is = record { sorted = s; count = refl }
  removed rows t s (Some value) is =
      let less = one_shorter order rows t s value is in
      record { sorted = sorted_without order rows t value s is; count = omega (arith, less) }

  looked_up : (rows : List Row) → IsSortedRows order rows → (there : Option ℕ)
      → Changes rows (get_answer rows there).1 (get_answer rows there).0
  looked_up rows s None = record { sorted = s; count = refl }
  looked_up rows s (Some value) = record { sorted = s; count = refl }

  -- the rows after an event are sorted, and as many as it says
  abbrev Counted : List Row → Deed → Type 0
  Counted rows what =
      IsSortedRows order (becomes schema rows what)
      × (length (becomes schema rows what) + told_of removed_in what ≡ length rows + told_of inserted_in what)

  told : (rows after : List Row) (reply said : Reply) → said ≡ reply → Changes rows after reply
      → IsSortedRows order after × (length after + removed_in (Ok said) ≡ length rows + inserted_in (Ok said))
  told rows after reply said same changes =
      let c = subst (Changes rows after) (sym same) changes in (c.sorted, c.count)

  counted : (rows : List Row) (what : Deed) → IsSortedRows order rows → IsAnswered schema rows what → Counted rows what
  counted rows (Done (Insert t v) reply) s a =
      let there = value_at rows t in
      told rows (insert_answer order rows t v there).1 (insert_answer order rows t v there).0 reply a.1 (inserted rows t v s there refl)
  counted rows (Done (Remove t) reply) s a =
      let there = value_at rows t in
      told rows (remove_answer order rows t there).1 (remove_answer order rows t there).0 reply a.1 (removed rows t s there refl)
  counted rows (Done (Get t) reply) s a =
      let there = value_at rows t in
      told rows (get_answer rows there).1 (get_answer rows there).0 reply a.1 (looked_up rows s there)
  counted rows (Done (Scan lo hi limit) reply) s a = absurd a.0
  counted rows (Look lo hi found) s a = (s, refl)

  -- ---- all of them

  all_counted : (rows : List Row) (log : List Event) → IsSortedRows order rows → IsLegalFrom schema rows log
      → length (run schema rows log) + sum_by (told_by removed_in) log ≡ length rows + sum_by (told_by inserted_in) log
  all_counted rows [] s legal = refl
  all_counted rows (e ∷ es) s legal =
      let one = counted rows e.what s legal.0 in
      let rest = all_counted (becomes schema rows e.what) es one.0 legal.1 in
      let here = one.1 in
      omega (arith, here, rest, sum_by-cons (told_by removed_in) e es, sum_by-cons (told_by inserted_in) e es)

  none_sorted : IsSortedRows order []
  unfolding IsStrictlySortedBy
  none_sorted = tt

pub rows_left : RowsLeft
rows_left schema log legal =
    let all = all_counted schema [] log (none_sorted schema) legal in
    omega (arith, all)
