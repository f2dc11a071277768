-- What one look found: the rows of its range answer as all rows do, at a tuple of the range.
use Rattle.std.proofs.Common.{◌≡◌, ◌&&◌, Bool, true, false, not, List, [], ◌∷◌, Option, Some, None, IsSome, cond, refl, sym, ap, ◌∙◌, subst}
use Rattle.std.proofs.lemmas.Bool.{false≢true}
use Rattle.std.proofs.lemmas.Cmp.{tied_itself}
use Rattle.std.proofs.lemmas.List.Elements.{All-head, filter_passes}
use Rattle.std.specs.declared.cmp.Ordering.TheVariants.{Equal}
use Rattle.std.specs.List.{All, AllByRecursion, cons_option}
use Rattle.std.specs.Option.{is_some}
use Rattle.art_key.specs.declared.bounds.Bound.{Bound}
use Rattle.art_key.specs.declared.columns.Column.{Column}
use Rattle.art_key.specs.Bounds.{is_before}
use Rattle.art_key.specs.Columns.{order_of}
use Rattle.art_key.specs.Histories.{OnlyRow, StandsIn, bound_at, is_in_range, rows_in}
use Rattle.art_model.specs.declared.rows.Row.{Row}
use Rattle.art_model.specs.Rows.{Tuple, is_same, tuple_cmp, value_at}
use Rattle.art_model.proofs.Order.{equal_by, same_by, tuple_total}
use Rattle.art_scan.proofs.Bounds.{same_key}

-- a row that is not at the tuple may stand before the others or not
skips : (row : Row) (rows : List Row) (t : Tuple) → is_same row.tuple t ≡ false → (b : Bool) → value_at (cond b (row ∷ rows) rows) t ≡ value_at rows t
skips row rows t e true = ap (λ c. cond c (Some row.value) (value_at rows t)) e
skips row rows t e false = refl

module _ (schema : List Column) where
  -- the tuple of each row stands in the schema
  abbrev pub Stand : List Row → Type 0
  Stand rows = AllByRecursion (λ (row : Row). StandsIn schema row.tuple) rows

  -- a tuple with a row has one that stands in the schema
  pub standing : (rows : List Row) (t : Tuple) → Stand rows → IsSome (value_at rows t) → (s : Tuple) × StandsIn schema s × (tuple_cmp (order_of schema) s t ≡ Equal)
  standing [] t stand there = absurd (false≢true there)
  standing (row ∷ rows) t stand there = by (standing rows t stand.1) (is_same row.tuple t) refl
    where
      by : (IsSome (value_at rows t) → (s : Tuple) × StandsIn schema s × (tuple_cmp (order_of schema) s t ≡ Equal)) → (b : Bool) → is_same row.tuple t ≡ b
          → (s : Tuple) × StandsIn schema s × (tuple_cmp (order_of schema) s t ≡ Equal)
      by rest true e = (row.tuple, stand.0, equal_by (order_of schema) row.tuple t e)
      by rest false e = rest (subst (λ (b : Bool). is_some (cond b (Some row.value) (value_at rows t)) ≡ true) e there)

  -- ---- the rows of a range

  module _ (lo hi : Bound) where
    pub in_range : (t : Tuple) → is_before (bound_at schema t) lo ≡ false → is_before (bound_at schema t) hi ≡ true → is_in_range schema lo hi t ≡ true
    in_range t low high = ap (λ b. not b && is_before (bound_at schema t) hi) low ∙ high

    -- at a tuple of the range they have the value that all rows have
    pub value_in_range : (rows : List Row) (t : Tuple) → StandsIn schema t → is_in_range schema lo hi t ≡ true → Stand rows → value_at (rows_in schema rows lo hi) t ≡ value_at rows t
    value_in_range [] t stands inside stand = refl
    value_in_range (row ∷ rows) t stands inside stand = by (value_in_range rows t stands inside stand.1) (is_same row.tuple t) refl
      where
        passed_by : value_at (rows_in schema rows lo hi) t ≡ value_at rows t → is_same row.tuple t ≡ false
            → value_at (rows_in schema (row ∷ rows) lo hi) t ≡ value_at (row ∷ rows) t
        passed_by rest e =
            skips row (rows_in schema rows lo hi) t e (is_in_range schema lo hi row.tuple) ∙ (rest ∙ sym (ap (λ c. cond c (Some row.value) (value_at rows t)) e))

        by : value_at (rows_in schema rows lo hi) t ≡ value_at rows t → (b : Bool) → is_same row.tuple t ≡ b
            → value_at (rows_in schema (row ∷ rows) lo hi) t ≡ value_at (row ∷ rows) t
        by rest false e = passed_by rest e
        by rest true e =
            let inside_too : is_in_range schema lo hi row.tuple ≡ true = ap (λ (b : Bound). not (is_before b lo) && is_before b hi) (same_key schema row.tuple t stand.0 stands (equal_by (order_of schema) row.tuple t e)) ∙ inside in
            ap (λ b. value_at (cond b (row ∷ rows_in schema rows lo hi) (rows_in schema rows lo hi)) t) inside_too
            ∙ (ap (λ b. cond b (Some row.value) (value_at (rows_in schema rows lo hi) t)) e ∙ sym (ap (λ b. cond b (Some row.value) (value_at rows t)) e))

    module _ (rows : List Row) (stand : Stand rows) where
      -- the row that was found lies in the range, and stood with its value
      pub found_inside : (row : Row) → OnlyRow schema rows lo hi (Some row) → is_in_range schema lo hi row.tuple ≡ true
      found_inside row only =
          let P : Row → Type 0 = λ r. is_in_range schema lo hi r.tuple ≡ true in
          All-head P row [] (subst (All P) only.1 (filter_passes (λ (r : Row). is_in_range schema lo hi r.tuple) rows))

      pub found_stood : (row : Row) → OnlyRow schema rows lo hi (Some row) → value_at rows row.tuple ≡ Some row.value
      found_stood row only =
          sym (value_in_range rows row.tuple only.0 (found_inside row only) stand)
          ∙ (ap (λ (l : List Row). value_at l row.tuple) only.1 ∙ ap (λ b. cond b (Some row.value) None) (same_by (order_of schema) row.tuple row.tuple (tied_itself (tuple_total (order_of schema)) row.tuple)))

      -- a tuple of the range that has a row was found
      pub is_found : (t : Tuple) → StandsIn schema t → is_in_range schema lo hi t ≡ true → IsSome (value_at rows t)
          → (found : Option Row) → OnlyRow schema rows lo hi found → (listed : List Row) → IsSome (value_at (cons_option found listed) t)
      is_found t stands inside there None only listed =
          absurd (false≢true (ap (λ (l : List Row). is_some (value_at l t)) (sym only) ∙ (ap is_some (value_in_range rows t stands inside stand) ∙ there)))
      is_found t stands inside there (Some row) only listed =
          first (is_same row.tuple t) (ap (λ (l : List Row). is_some (value_at l t)) (sym only.1) ∙ (ap is_some (value_in_range rows t stands inside stand) ∙ there))
        where
          first : (b : Bool) → is_some (cond b (Some row.value) None) ≡ true → is_some (cond b (Some row.value) (value_at listed t)) ≡ true
          first true e = refl
          first false e = absurd (false≢true e)

-- what is listed after the row that was found is listed with it
pub is_listed : (found : Option Row) (listed : List Row) (t : Tuple) → IsSome (value_at listed t) → IsSome (value_at (cons_option found listed) t)
is_listed None listed t there = there
is_listed (Some row) listed t there = by (is_same row.tuple t)
  where
    by : (b : Bool) → is_some (cond b (Some row.value) (value_at listed t)) ≡ true
    by true = refl
    by false = there
