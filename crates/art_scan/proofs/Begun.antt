-- What is wrong with a scan, by what is tested of it.
use Rattle.std.proofs.Common.{◌≡◌, ℕ, ◌<◌, ◌≤◌, ◌==◌, Bool, true, false, List, Option, Some, None, if◌then◌else◌, nat_lt, refl, sym, ap, ◌∙◌, arith}
use Rattle.std.proofs.lemmas.Bool.Decides.{nat_tests}
use Rattle.std.specs.Ordering.{is_le}
use Rattle.arrayvec.specs.ArrayVec.{ArrayVec}
use Rattle.art_key.specs.Bounds.{is_before}
use Rattle.art_key.specs.Columns.{order_of, tuple_fault}
use Rattle.art_key.specs.Histories.{StandsIn}
use Rattle.art_key.specs.Spelling.{spelling}
use Rattle.art_key.specs.declared.bounds.Bound.{Bound}
use Rattle.art_key.specs.declared.bounds.Bound.TheVariants.{At}
use Rattle.art_key.specs.declared.columns.Column.{Column}
use Rattle.art_key.specs.declared.faults.ValueFault.{ValueFault}
use Rattle.art_model.specs.Rows.{Tuple, tuple_cmp}
use Rattle.art_scan.proofs.Keys.{after_ends_range}
use Rattle.art_scan.specs.Scans.{limit_fault, or_value, range_fault, scan_fault}
use Rattle.art_scan.specs.declared.faults.ScanFault.TheVariants.{BadRange, BadLimit}
use Rattle.art_step.specs.Deeds.{bound_of}
use Rattle.art_tree.specs.Looks.{after}

limit_none : (limit : ℕ) → limit ≡ 0 → limit_fault limit ≡ Some BadLimit
limit_none limit is = ap limit_fault is

limit_many : (limit : ℕ) → 100 < limit → limit_fault limit ≡ Some BadLimit
limit_many limit many =
    let some : (limit == 0) ≡ false = grind (arith, nat_tests) in
    let more : nat_lt 100 limit ≡ true = grind (arith, nat_tests) in
    rw (some, more) refl

limit_good : (limit : ℕ) → 0 < limit → limit ≤ 100 → limit_fault limit ≡ None
limit_good limit low high =
    let some : (limit == 0) ≡ false = grind (arith, nat_tests) in
    let few : nat_lt 100 limit ≡ false = grind (arith, nat_tests) in
    rw (some, few) refl

-- the lower key is before the bound just above the upper one exactly where the tuples are in order
pub in_order : (schema : List Column) (lo hi : Tuple) → StandsIn schema lo → StandsIn schema hi → (k l : ArrayVec ℕ) (end : Bound) → k.items ≡ spelling schema lo.items → l.items ≡ spelling schema hi.items
    → bound_of end ≡ after l.items → is_le (tuple_cmp (order_of schema) lo hi) ≡ is_before (At k) end
in_order schema lo hi lo_stands hi_stands k l end low high is =
    sym (after_ends_range schema hi end hi_stands (is ∙ ap after high) lo lo_stands)
    ∙ ap (λ (a : List ℕ). is_before (At (record { items = a })) end) (sym low)

module _ (schema : List Column) (lo hi : Tuple) (limit : ℕ) (lo_stands : StandsIn schema lo) (hi_stands : StandsIn schema hi) where
  tuples_stand : scan_fault schema lo hi limit ≡ range_fault (order_of schema) lo hi limit
  tuples_stand =
      ap (λ (o : Option ValueFault). or_value o (or_value (tuple_fault schema hi.items) (range_fault (order_of schema) lo hi limit))) lo_stands
      ∙ ap (λ (o : Option ValueFault). or_value o (range_fault (order_of schema) lo hi limit)) hi_stands

  at_order : (b : Bool) → is_le (tuple_cmp (order_of schema) lo hi) ≡ b → range_fault (order_of schema) lo hi limit ≡ (if b then limit_fault limit else Some BadRange)
  at_order b is = ap (λ (c : Bool). if c then limit_fault limit else Some BadRange) is

  pub bad_range : is_le (tuple_cmp (order_of schema) lo hi) ≡ false → scan_fault schema lo hi limit ≡ Some BadRange
  bad_range is = tuples_stand ∙ at_order false is

  pub no_limit : is_le (tuple_cmp (order_of schema) lo hi) ≡ true → limit ≡ 0 → scan_fault schema lo hi limit ≡ Some BadLimit
  no_limit is none = tuples_stand ∙ (at_order true is ∙ limit_none limit none)

  pub high_limit : is_le (tuple_cmp (order_of schema) lo hi) ≡ true → 100 < limit → scan_fault schema lo hi limit ≡ Some BadLimit
  high_limit is many = tuples_stand ∙ (at_order true is ∙ limit_many limit many)

  pub no_fault : is_le (tuple_cmp (order_of schema) lo hi) ≡ true → 0 < limit → limit ≤ 100 → scan_fault schema lo hi limit ≡ None
  no_fault is low high = tuples_stand ∙ (at_order true is ∙ limit_good limit low high)
