-- The order of values and of tuples is total, and tells apart just those that have not the same values.
use Rattle.std.proofs.Common.{◌≡◌, ◌<◌, Bool, true, false, ◌&&◌, List, [], ◌∷◌, length, arith, refl, sym, ap, ap₂, ◌∙◌, subst}
use Rattle.std.proofs.lemmas.Bool.{true≢false}
use Rattle.std.specs.Cmp.{IsTotalOrder, alike_right, back_total, on_total}
use Rattle.std.specs.Cmp.Lexicographic.{lists_total, slice_cmp}
use Rattle.std.specs.declared.cmp.Ordering.{Ordering}
use Rattle.std.specs.declared.cmp.Ordering.TheVariants.{Less, Equal, Greater}
use Rattle.std.specs.Ordering.{is_eq, is_gt, ordering_reverse, ordering_then}
use Rattle.art_model.specs.contracts.values.ValueOrd.TheImpl.{cmp-value}
use Rattle.art_model.specs.contracts.values.ValueOrd.TheImpl.Laws.{total-law}
use Rattle.art_model.specs.declared.values.Value.{Value}
use Rattle.art_model.specs.declared.values.Value.TheVariants.{Bool as Truth, Int, Text}
use Rattle.art_model.specs.Values.{value_cmp}
use Rattle.art_model.specs.Rows.{Order, Tuple, column_cmp, is_same, tuple_cmp, values_cmp}

-- what the derived comparison computes is the order of values
pub derived_cmp : (a b : Value) → cmp-value.it a b ≡ value_cmp a b
derived_cmp (Truth a) (Truth b) = refl
derived_cmp (Truth a) (Int n) = refl
derived_cmp (Truth a) (Text s) = refl
derived_cmp (Int m) (Truth b) = refl
derived_cmp (Int m) (Int n) = refl
derived_cmp (Int m) (Text s) = refl
derived_cmp (Text s) (Truth b) = refl
derived_cmp (Text s) (Int n) = refl
derived_cmp (Text s) (Text t) = refl

pub value_total : IsTotalOrder value_cmp
value_total = subst IsTotalOrder (λ i a b. derived_cmp a b i) total-law

column_total : (d : Bool) → IsTotalOrder (column_cmp d)
column_total false = value_total
column_total true = back_total value_total

-- ---- values, one for each column

then_reversed : (o p : Ordering) → ordering_then (ordering_reverse o) (ordering_reverse p) ≡ ordering_reverse (ordering_then o p)
then_reversed Less p = refl
then_reversed Equal p = refl
then_reversed Greater p = refl

both_equal : (o p : Ordering) → ordering_then o p ≡ Equal → (o ≡ Equal) × (p ≡ Equal)
both_equal Less p e = absurd (true≢false (ap is_eq (sym e)))
both_equal Equal p e = (refl, e)
both_equal Greater p e = absurd (true≢false (ap is_eq (sym e)))

not_less : {A : Type 0} → Greater ≡ Less → A
not_less e = absurd (true≢false (ap is_gt e))

-- the first column decides, and after it those that are ordered already
module _ (d : Bool) (ds : List Bool) (rest : IsTotalOrder (values_cmp ds)) where
  abbrev first : IsTotalOrder (column_cmp d)
  first = column_total d

  antisymm : (vs ws : List Value) → values_cmp (d ∷ ds) vs ws ≡ ordering_reverse (values_cmp (d ∷ ds) ws vs)
  antisymm [] [] = refl
  antisymm [] (w ∷ ws) = refl
  antisymm (v ∷ vs) [] = refl
  antisymm (v ∷ vs) (w ∷ ws) = ap₂ ordering_then (first.antisymm v w) (rest.antisymm vs ws) ∙ then_reversed (column_cmp d w v) (values_cmp ds ws vs)

  chain : (u v w : Value) (us vs ws : List Value) (o p : Ordering) → column_cmp d u v ≡ o → column_cmp d v w ≡ p
      → ordering_then o (values_cmp ds us vs) ≡ Less → ordering_then p (values_cmp ds vs ws) ≡ Less
      → ordering_then (column_cmp d u w) (values_cmp ds us ws) ≡ Less
  chain u v w us vs ws Less Less e f h g = ap (λ q. ordering_then q (values_cmp ds us ws)) (first.trans u v w e f)
  chain u v w us vs ws Less Equal e f h g = ap (λ q. ordering_then q (values_cmp ds us ws)) (sym (alike_right first v w u f) ∙ e)
  chain u v w us vs ws Equal Less e f h g = ap (λ q. ordering_then q (values_cmp ds us ws)) (first.congr u v w e ∙ f)
  chain u v w us vs ws Equal Equal e f h g = ap₂ ordering_then (first.congr u v w e ∙ f) (rest.trans us vs ws h g)
  chain u v w us vs ws Less Greater e f h g = not_less g
  chain u v w us vs ws Equal Greater e f h g = not_less g
  chain u v w us vs ws Greater p e f h g = not_less h

  trans : (us vs ws : List Value) → values_cmp (d ∷ ds) us vs ≡ Less → values_cmp (d ∷ ds) vs ws ≡ Less → values_cmp (d ∷ ds) us ws ≡ Less
  trans [] [] ws h g = g
  trans [] (v ∷ vs) [] h g = not_less g
  trans [] (v ∷ vs) (w ∷ ws) h g = refl
  trans (u ∷ us) [] ws h g = not_less h
  trans (u ∷ us) (v ∷ vs) [] h g = g
  trans (u ∷ us) (v ∷ vs) (w ∷ ws) h g = chain u v w us vs ws (column_cmp d u v) (column_cmp d v w) refl refl h g

  congr : (us vs ws : List Value) → values_cmp (d ∷ ds) us vs ≡ Equal → values_cmp (d ∷ ds) us ws ≡ values_cmp (d ∷ ds) vs ws
  congr [] [] ws e = refl
  congr [] (v ∷ vs) ws e = absurd (true≢false (ap is_eq (sym e)))
  congr (u ∷ us) [] ws e = absurd (true≢false (ap is_eq (sym e)))
  congr (u ∷ us) (v ∷ vs) [] e = refl
  congr (u ∷ us) (v ∷ vs) (w ∷ ws) e =
      let same = both_equal (column_cmp d u v) (values_cmp ds us vs) e in
      ap₂ ordering_then (first.congr u v w same.0) (rest.congr us vs ws same.1)

values_total : (ds : List Bool) → IsTotalOrder (values_cmp ds)
values_total [] = lists_total value_total
values_total (d ∷ ds) = record { antisymm = antisymm d ds (values_total ds); trans = trans d ds (values_total ds); congr = congr d ds (values_total ds) }

pub tuple_total : (order : Order) → IsTotalOrder (tuple_cmp order)
tuple_total order = on_total (λ (t : Tuple). t.items) (values_total order.items)

-- ---- what is the same in one order is so in each

reversed_same : (o : Ordering) → is_eq (ordering_reverse o) ≡ is_eq o
reversed_same Less = refl
reversed_same Equal = refl
reversed_same Greater = refl

then_same : (o p : Ordering) → is_eq (ordering_then o p) ≡ (is_eq o && is_eq p)
then_same Less p = refl
then_same Equal p = refl
then_same Greater p = refl

column_same : (d : Bool) (v w : Value) → is_eq (column_cmp d v w) ≡ is_eq (value_cmp v w)
column_same false v w = refl
column_same true v w = ap is_eq (value_total.antisymm w v) ∙ reversed_same (value_cmp v w)

values_same : (ds : List Bool) (vs ws : List Value) → is_eq (values_cmp ds vs ws) ≡ is_eq (slice_cmp value_cmp vs ws)
values_same [] vs ws = refl
values_same (d ∷ ds) [] [] = refl
values_same (d ∷ ds) [] (w ∷ ws) = refl
values_same (d ∷ ds) (v ∷ vs) [] = refl
values_same (d ∷ ds) (v ∷ vs) (w ∷ ws) =
    then_same (column_cmp d v w) (values_cmp ds vs ws)
    ∙ ap₂ (λ a b. a && b) (column_same d v w) (values_same ds vs ws)
    ∙ sym (then_same (value_cmp v w) (slice_cmp value_cmp vs ws))

pub same_is : (order : Order) (a b : Tuple) → is_eq (tuple_cmp order a b) ≡ is_same a b
same_is order a b = values_same order.items a.items b.items

-- what an answer of the order says of that
pub same_by : (order : Order) (a b : Tuple) {o : Ordering} → tuple_cmp order a b ≡ o → is_same a b ≡ is_eq o
same_by order a b e = sym (same_is order a b) ∙ ap is_eq e

equal_from : (o : Ordering) → is_eq o ≡ true → o ≡ Equal
equal_from Less e = absurd (true≢false (sym e))
equal_from Equal e = refl
equal_from Greater e = absurd (true≢false (sym e))

pub equal_by : (order : Order) (a b : Tuple) → is_same a b ≡ true → tuple_cmp order a b ≡ Equal
equal_by order a b e = equal_from (tuple_cmp order a b) (same_is order a b ∙ e)

pub same_turned : (a b : Tuple) → is_same a b ≡ is_same b a
same_turned a b = ap is_eq ((lists_total value_total).antisymm a.items b.items) ∙ reversed_same (slice_cmp value_cmp b.items a.items)

-- ---- where one of three lists is at its end

module _ (ds : List Bool) (vs ws : List Value) (o : Ordering) (is : o ≡ slice_cmp cmp-value.it vs ws) where
  plain : o ≡ slice_cmp value_cmp vs ws
  plain = is ∙ (λ i. slice_cmp (λ a b. derived_cmp a b i) vs ws)

  pub no_order : length ds < 1 → o ≡ values_cmp ds vs ws
  no_order few = plain ∙ by ds few
    where
      by : (ds : List Bool) → length ds < 1 → slice_cmp value_cmp vs ws ≡ values_cmp ds vs ws
      by [] few = refl
      by (d ∷ ds) few = absurd (omega arith)

none_left : (ds : List Bool) (vs ws : List Value) → length vs < 1 → slice_cmp value_cmp vs ws ≡ values_cmp ds vs ws
none_left [] vs ws few = refl
none_left (d ∷ ds) [] [] few = refl
none_left (d ∷ ds) [] (w ∷ ws) few = refl
none_left (d ∷ ds) (v ∷ vs) ws few = absurd (omega arith)

none_right : (ds : List Bool) (vs ws : List Value) → length ws < 1 → slice_cmp value_cmp vs ws ≡ values_cmp ds vs ws
none_right [] vs ws few = refl
none_right (d ∷ ds) [] [] few = refl
none_right (d ∷ ds) (v ∷ vs) [] few = refl
none_right (d ∷ ds) vs (w ∷ ws) few = absurd (omega arith)

pub no_left : (ds : List Bool) (vs ws : List Value) (o : Ordering) → o ≡ slice_cmp cmp-value.it vs ws → length vs < 1 → o ≡ values_cmp ds vs ws
no_left ds vs ws o is few = plain ds vs ws o is ∙ none_left ds vs ws few

pub no_right : (ds : List Bool) (vs ws : List Value) (o : Ordering) → o ≡ slice_cmp cmp-value.it vs ws → length ws < 1 → o ≡ values_cmp ds vs ws
no_right ds vs ws o is few = plain ds vs ws o is ∙ none_right ds vs ws few
