-- The keys of a schema that are below the bound just above one of them.
use Rattle.std.proofs.Common.{◌≡◌, ◌⊎◌, ◌↔◌, ℕ, true, List, [], ◌∷◌, append-nil, inl, inr, refl, sym, ap, ◌∙◌, subst}
use Rattle.std.proofs.lemmas.Bool.{false≢true}
use Rattle.std.proofs.lemmas.Cmp.{tied_itself}
use Rattle.std.proofs.lemmas.Map.Lookups.{exact_bytes}
use Rattle.std.specs.Cmp.{both_ways}
use Rattle.std.specs.Cmp.Lexicographic.{slice_cmp}
use Rattle.std.specs.declared.cmp.Ordering.{Ordering}
use Rattle.std.specs.declared.cmp.Ordering.TheVariants.{Less, Equal, Greater}
use Rattle.std.specs.Ordering.{is_le, is_lt, nat_cmp}
use Rattle.art_key.specs.declared.bounds.Bound.{Bound}
use Rattle.art_key.specs.declared.bounds.Bound.TheVariants.{At, End}
use Rattle.art_key.specs.declared.columns.Column.{Column}
use Rattle.art_key.specs.Bounds.{is_before}
use Rattle.art_key.specs.Columns.{order_of}
use Rattle.art_key.specs.Histories.{StandsIn, bound_at}
use Rattle.art_key.specs.Kinds as key
use Rattle.art_key.specs.Spelling.{spelling}
use Rattle.art_key.proofs.TupleLaws.{are_bytes, keys_stand, none_begins}
use Rattle.art_model.specs.Rows.{Tuple, tuple_cmp, values_cmp}
use Rattle.art_model.proofs.Order.{tuple_total}
use Rattle.art_scan.specs.Ends.{AfterEndsRange}
use Rattle.art_scan.proofs.Bounds.{less_from}
use Rattle.art_step.specs.Deeds.{bound_of, key_of}
use Rattle.art_tree.specs.Looks as tree
use Rattle.art_tree.specs.Looks.{Before, IsBelow, after}
use Rattle.art_tree.specs.Tree.{Begins}
use Rattle.art_tree.proofs.After.{after_caps}

-- ---- the same in the words of the tree

bytes : (k : List ℕ) → key.AreBytes k → tree.AreBytes k
bytes [] h = tt
bytes (a ∷ k) h = (h.0, bytes k h.1)

below : (k : List ℕ) (b : Bound) → is_before (At (key_of k)) b ≡ true → IsBelow k (bound_of b)
below k (At q) e = less_from (slice_cmp nat_cmp k q.items) e
below k End e = tt

before_from : (k : List ℕ) (b : Bound) → IsBelow k (bound_of b) → is_before (At (key_of k)) b ≡ true
before_from k (At q) e = ap is_lt e
before_from k End e = refl

-- ---- a tuple and hi

module _ (schema : List Column) (t hi : Tuple) (t_stands : StandsIn schema t) (hi_stands : StandsIn schema hi) where
  key_bytes : (s : Tuple) → StandsIn schema s → tree.AreBytes (spelling schema s.items)
  key_bytes s stands = bytes (spelling schema s.items) (are_bytes schema s.items (spelling schema s.items) (record { stands = stands; spelled = refl }))

  le_from : Before (spelling schema t.items) (spelling schema hi.items) ⊎ Begins (spelling schema hi.items) (spelling schema t.items) → is_le (tuple_cmp (order_of schema) t hi) ≡ true
  le_from (inl before) = ap is_le (sym (keys_stand schema t.items hi.items t_stands hi_stands) ∙ before)
  le_from (inr begins) =
      let same : hi.items ≡ t.items = (none_begins schema hi.items t.items begins.0 hi_stands t_stands begins.1).0 in
      ap (λ l. is_le (values_cmp (order_of schema).items t.items l)) same ∙ ap is_le (tied_itself (tuple_total (order_of schema)) t)

  from_le : is_le (tuple_cmp (order_of schema) t hi) ≡ true → Before (spelling schema t.items) (spelling schema hi.items) ⊎ Begins (spelling schema hi.items) (spelling schema t.items)
  from_le = by (tuple_cmp (order_of schema) t hi) refl
    where
      keys : slice_cmp nat_cmp (spelling schema t.items) (spelling schema hi.items) ≡ tuple_cmp (order_of schema) t hi
      keys = keys_stand schema t.items hi.items t_stands hi_stands

      by : (o : Ordering) → tuple_cmp (order_of schema) t hi ≡ o → is_le o ≡ true → Before (spelling schema t.items) (spelling schema hi.items) ⊎ Begins (spelling schema hi.items) (spelling schema t.items)
      by Less e le = inl (keys ∙ e)
      by Equal e le = inr ([], append-nil (spelling schema hi.items) ∙ sym (exact_bytes (spelling schema t.items) (spelling schema hi.items) (keys ∙ e)))
      by Greater e le = absurd (false≢true le)

  at_end : (end : Bound) → bound_of end ≡ after (spelling schema hi.items) → is_before (bound_at schema t) end ≡ is_le (tuple_cmp (order_of schema) t hi)
  at_end end is =
      let k = spelling schema t.items in
      let p = spelling schema hi.items in
      let exact : IsBelow k (bound_of end) ↔ (Before k p ⊎ Begins p k) = subst (λ b. IsBelow k b ↔ (Before k p ⊎ Begins p k)) (sym is) (after_caps p k (key_bytes hi hi_stands) (key_bytes t t_stands)) in
      both_ways (is_before (bound_at schema t) end) (is_le (tuple_cmp (order_of schema) t hi)) (λ e. le_from (exact.0 (below k end e))) (λ e. before_from k end (exact.1 (from_le e)))

pub after_ends_range : AfterEndsRange
after_ends_range schema hi end hi_stands is t t_stands = at_end schema t hi t_stands hi_stands end is
