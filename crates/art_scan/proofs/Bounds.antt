-- The order of bounds, and how the keys of tuples stand to a bound.
use Rattle.std.proofs.Common.{◌≡◌, true, false, List, refl, sym, ap, ◌∙◌}
use Rattle.std.proofs.lemmas.Bool.{false_from_ne_true, false≢true, true≢false}
use Rattle.std.proofs.lemmas.Cmp.{nat_list_cmp_total}
use Rattle.std.proofs.lemmas.Map.Lookups.{exact_bytes}
use Rattle.std.specs.Cmp.{IsTotalOrder, alike_right}
use Rattle.std.specs.declared.cmp.Ordering.{Ordering}
use Rattle.std.specs.declared.cmp.Ordering.TheVariants.{Less, Equal, Greater}
use Rattle.std.specs.Ordering.{is_lt, ordering_reverse}
use Rattle.art_key.specs.declared.bounds.Bound.{Bound}
use Rattle.art_key.specs.declared.bounds.Bound.TheVariants.{At, End}
use Rattle.art_key.specs.declared.columns.Column.{Column}
use Rattle.art_key.specs.Bounds.{is_before}
use Rattle.art_key.specs.Columns.{order_of}
use Rattle.art_key.specs.Histories.{StandsIn, bound_at}
use Rattle.art_key.specs.Spelling.{spelling}
use Rattle.art_key.proofs.TupleLaws.{keys_stand}
use Rattle.art_model.specs.Rows.{Tuple, tuple_cmp}

pub less_from : (o : Ordering) → is_lt o ≡ true → o ≡ Less
less_from Less e = refl
less_from Equal e = absurd (false≢true e)
less_from Greater e = absurd (false≢true e)

-- what is below a third is below what is not below it
below : {K : Type 0} {R : K → K → Ordering} (o : IsTotalOrder R) (x y z : K) → R x z ≡ Less → is_lt (R y z) ≡ false → R x y ≡ Less
below {K} {R} o x y z low high = by (R y z) refl
  where
    by : (p : Ordering) → R y z ≡ p → R x y ≡ Less
    by Less e = absurd (true≢false (sym (ap is_lt e) ∙ high))
    by Equal e = alike_right o y z x e ∙ low
    by Greater e = o.trans x z y low (o.antisymm z y ∙ ap ordering_reverse e)

-- ---- bounds

pub before_on : (a b c : Bound) → is_before a b ≡ true → is_before b c ≡ true → is_before a c ≡ true
before_on (At a) (At b) (At c) low high = ap is_lt (nat_list_cmp_total.trans a.items b.items c.items (less_from _ low) (less_from _ high))
before_on (At a) (At b) End low high = refl
before_on (At a) End c low high = absurd (false≢true high)
before_on End b c low high = absurd (false≢true low)

-- a bound before a third is before one that is not
pub parted : (a b c : Bound) → is_before a c ≡ true → is_before b c ≡ false → is_before a b ≡ true
parted (At a) (At b) (At c) low high = ap is_lt (below nat_list_cmp_total a.items b.items c.items (less_from _ low) high)
parted (At a) (At b) End low high = absurd (true≢false high)
parted (At a) End c low high = refl
parted End b c low high = absurd (false≢true low)

-- what is not before the end of a range is not before where it begins
pub not_before : (b from to : Bound) → is_before from to ≡ true → is_before b to ≡ false → is_before b from ≡ false
not_before b from to up high = false_from_ne_true (is_before b from) (λ low. true≢false (sym (before_on b from to low up) ∙ high))

-- ---- the keys of two tuples

module _ (schema : List Column) (s t : Tuple) (s_stands : StandsIn schema s) (t_stands : StandsIn schema t) where
  pub key_before : is_before (bound_at schema s) (bound_at schema t) ≡ is_lt (tuple_cmp (order_of schema) s t)
  key_before = ap is_lt (keys_stand schema s.items t.items s_stands t_stands)

  -- a bound that the one is before and the other is not parts them
  pub bound_parts : (b : Bound) → is_before (bound_at schema s) b ≡ true → is_before (bound_at schema t) b ≡ false → tuple_cmp (order_of schema) s t ≡ Less
  bound_parts b low high = less_from (tuple_cmp (order_of schema) s t) (sym key_before ∙ parted (bound_at schema s) (bound_at schema t) b low high)

  pub same_key : tuple_cmp (order_of schema) s t ≡ Equal → bound_at schema s ≡ bound_at schema t
  same_key e = ap (λ l. At (record { items = l })) (exact_bytes (spelling schema s.items) (spelling schema t.items) (keys_stand schema s.items t.items s_stands t_stands ∙ e))
