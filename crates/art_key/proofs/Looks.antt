-- A look over rows, one after another: what of it is left to be found in those that follow.
use Rattle.std.proofs.Common.{◌≡◌, ◌≢◌, ℕ, ◌+◌, ◌<◌, ◌↔◌, List, ◌∷◌, length, get_or, drop, Bool, cond, true, false, Option, Some, None, sym, ap, subst, ◌∙◌}
use Rattle.std.proofs.lemmas.List.{drop_more}
use Rattle.art_model.specs.declared.rows.Row.{Row}
use Rattle.art_key.specs.declared.bounds.Bound.{Bound}
use Rattle.art_key.specs.declared.columns.Column.{Column}
use Rattle.art_key.specs.Histories.{StandsIn, AllStandIn, OnlyRow, is_in_range, rows_in}

module _ (schema : List Column) (lo hi : Bound) where
  -- the rows in the range, by whether the first one is in it
  rows_in-cons : (row : Row) (rows : List Row) {b : Bool} → is_in_range schema lo hi row.tuple ≡ b
      → rows_in schema (row ∷ rows) lo hi ≡ cond b (row ∷ rows_in schema rows lo hi) (rows_in schema rows lo hi)
  rows_in-cons row rows e = ap (λ b. cond b (row ∷ rows_in schema rows lo hi) (rows_in schema rows lo hi)) e

  -- the first row is out of the range
  out_of_range : (row : Row) (rows : List Row) (left : Option Row) → is_in_range schema lo hi row.tuple ≡ false → OnlyRow schema (row ∷ rows) lo hi left ↔ OnlyRow schema rows lo hi left
  out_of_range row rows None out = (λ h. sym (rows_in-cons row rows out) ∙ h, λ h. rows_in-cons row rows out ∙ h)
  out_of_range row rows (Some found) out = (λ h. (h.0, sym (rows_in-cons row rows out) ∙ h.1), λ h. (h.0, rows_in-cons row rows out ∙ h.1))

  -- it is the one that is left to be found
  is_left : (row : Row) (rows : List Row) → is_in_range schema lo hi row.tuple ≡ true → StandsIn schema row.tuple → OnlyRow schema (row ∷ rows) lo hi (Some row) ↔ OnlyRow schema rows lo hi None
  is_left row rows within stands =
      (λ h. let e = sym (rows_in-cons row rows within) ∙ h.1 in cc, λ h. (stands, rows_in-cons row rows within ∙ ap (λ others. row ∷ others) h))

  -- it is another one
  is_another : (row : Row) (rows : List Row) (left : Option Row) → is_in_range schema lo hi row.tuple ≡ true → left ≢ Some row → OnlyRow schema (row ∷ rows) lo hi left → ⊥
  is_another row rows None within other h = let e = sym (rows_in-cons row rows within) ∙ h in cc
  is_another row rows (Some found) within other h = let e = sym (rows_in-cons row rows within) ∙ h.1 in other (cc)

  -- ---- at the row of a place, where the look from there on says what all of it says

  module _ (rows : List Row) (i : ℕ) (row : Row) (within : i < length rows) (is : row ≡ get_or rows i row) (left : Option Row) {Found : Type 0} (so_far : OnlyRow schema (drop i rows) lo hi left ↔ Found) where
    from_here : drop i rows ≡ row ∷ drop (i + 1) rows
    from_here = drop_more rows i row within ∙ ap (λ r. r ∷ drop (i + 1) rows) (sym is)

    here : OnlyRow schema (row ∷ drop (i + 1) rows) lo hi left ↔ Found
    here = subst (λ rest. OnlyRow schema rest lo hi left ↔ Found) from_here so_far

    pub passes_over : is_in_range schema lo hi row.tuple ≡ false → OnlyRow schema (drop (i + 1) rows) lo hi left ↔ Found
    passes_over out =
        let same = out_of_range row (drop (i + 1) rows) left out in
        (λ h. here.0 (same.1 h), λ f. same.0 (here.1 f))

    pub finds : is_in_range schema lo hi row.tuple ≡ true → AllStandIn schema rows → left ≡ Some row → OnlyRow schema (drop (i + 1) rows) lo hi None ↔ Found
    finds inside stand is-left =
        let stands : StandsIn schema row.tuple = subst (λ r. StandsIn schema r.tuple) (sym is) (stand i row within) in
        let same = is_left row (drop (i + 1) rows) inside stands in
        let now : OnlyRow schema (row ∷ drop (i + 1) rows) lo hi (Some row) ↔ Found = subst (λ o. OnlyRow schema (row ∷ drop (i + 1) rows) lo hi o ↔ Found) is-left here in
        (λ h. now.0 (same.1 h), λ f. same.0 (now.1 f))

    pub stops : is_in_range schema lo hi row.tuple ≡ true → left ≢ Some row → Found → ⊥
    stops inside other f = is_another row (drop (i + 1) rows) left inside other (here.1 f)
