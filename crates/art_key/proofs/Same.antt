-- What `==` says of values and of rows: that they are the same.
use Rattle.std.proofs.Common.{◌≡◌, ◌≢◌, not, Bool, true, false, Option, Some, None, Bor, refl, sym, ap, ◌∙◌}
use Rattle.std.specs.Bool.{Decides}
use Rattle.std.specs.Option.{option_copied, option_eq}
use Rattle.std.proofs.lemmas.Bool.{not-true, not-false}
use Rattle.std.proofs.lemmas.Bool.Decides.{Decides-and, Decides-eqb, Decides-int_eq, Decides-like, not_from_Decides}
use Rattle.std.proofs.lemmas.Slice.Eq.{slice_eq-Decides, bytes_eq-Decides}
use Rattle.art_model.specs.contracts.values.ValuePartialEq.TheImpl.{eq-value as value_eq}
use Rattle.art_model.specs.contracts.rows.RowPartialEq.TheImpl.{eq-value as row_eq}
use Rattle.art_model.specs.declared.rows.Row.{Row}
use Rattle.art_model.specs.declared.values.Value.{Value}
use Rattle.art_model.specs.declared.values.Value.TheVariants.{Bool as Truth, Int, Text}

value_eq-Decides : (a b : Value) → Decides (value_eq.it a b) (a ≡ b)
value_eq-Decides (Truth true) (Truth true) = (λ e. refl, λ e. refl)
value_eq-Decides (Truth false) (Truth false) = (λ e. refl, λ e. refl)
value_eq-Decides (Int a) (Int b) = (λ e. ap Int ((Decides-int_eq a b).0 e), λ e. (Decides-int_eq a b).1 (cc))
value_eq-Decides (Text a) (Text b) = (λ e. ap Text ((bytes_eq-Decides a b).0 e), λ e. (bytes_eq-Decides a b).1 (cc))
value_eq-Decides _ _ = (λ e. absurd (cc), λ e. absurd (cc))

row_eq-Decides : (a b : Row) → Decides (row_eq.it a b) (a ≡ b)
row_eq-Decides a b =
    Decides-like _ (λ same. λ i. record { tuple = record { items = same.0 i }; value = same.1 i }) (λ e. (ap (λ (r : Row). r.tuple.items) e, ap (λ (r : Row). r.value) e)) (
    Decides-and _ _ (slice_eq-Decides value_eq-Decides a.tuple.items b.tuple.items _ refl) (Decides-eqb a.value b.value)
    )

-- whether a row is there, and it is this one
abbrev there_eq : Option (Bor Row) → Bor Row → Bool
there_eq there row = option_eq (λ (x y : Bor Row). row_eq.it x.now y.now) there (Some row)

there_eq-Decides : (there : Option (Bor Row)) (row : Bor Row) → Decides (there_eq there row) (option_copied there ≡ Some row.now)
there_eq-Decides None row = (λ e. absurd (cc), λ e. absurd (cc))
there_eq-Decides (Some other) row = Decides-like _ (λ e. ap Some e) (λ e. cc) (row_eq-Decides other.now row.now)

-- ---- what `!=` answered

module _ (there : Option (Bor Row)) (row : Bor Row) (differs : Bool) (is : differs ≡ not (there_eq there row)) where
  pub differs_from_ne : differs ≡ true → option_copied there ≢ Some row.now
  differs_from_ne e = not_from_Decides (there_eq there row) (there_eq-Decides there row) (not-true (there_eq there row) (sym is ∙ e))

  pub same_from_ne : differs ≡ false → option_copied there ≡ Some row.now
  same_from_ne e = (there_eq-Decides there row).0 (not-false (there_eq there row) (sym is ∙ e))
