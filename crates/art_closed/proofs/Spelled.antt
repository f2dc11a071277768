-- Rows that a map spells: those of ascending pairs, and that there is one list of them.
use Rattle.std.proofs.Common.{◌≡◌, ℕ, Bool, true, false, List, [], ◌∷◌, Some, None, cond, inl, inr, ⊎_elim, refl, sym, ap, ap₂, ◌∙◌, subst, append-nil}
use Rattle.std.proofs.lemmas.Cmp.{nat_list_cmp_total, tied_itself}
use Rattle.std.proofs.lemmas.Map.Lookups.{exact_bytes}
use Rattle.std.proofs.lemmas.Option.{same_Some}
use Rattle.std.specs.FinMap.{get}
use Rattle.std.specs.List.{AllByRecursion}
use Rattle.std.specs.List.Sorted.{IsStrictlySortedBy}
use Rattle.std.specs.Cmp.Lexicographic.{slice_cmp}
use Rattle.std.specs.declared.cmp.Ordering.{Ordering}
use Rattle.std.specs.declared.cmp.Ordering.TheVariants.{Less, Equal, Greater}
use Rattle.std.specs.Ordering.{nat_cmp, ordering_reverse}
use Rattle.std.specs.Prelude.{Option}
use Rattle.art_key.specs.declared.columns.Column.{Column}
use Rattle.art_key.specs.Columns.{order_of}
use Rattle.art_key.specs.Histories.{StandsIn}
use Rattle.art_key.specs.Spelling.{IsKeyOf, spelling}
use Rattle.art_key.proofs.TupleLaws.{keys_stand, none_begins}
use Rattle.art_model.specs.declared.rows.Row.{Row}
use Rattle.art_model.specs.Rows.{IsSortedRows, Tuple, is_same, tuple_cmp, value_at}
use Rattle.art_model.proofs.Order.{equal_by, same_by, tuple_total}
use Rattle.art_step.specs.Views.{Member}
use Rattle.art_tree.specs.Rows.{ByteMap, HasRows}
use Rattle.art_tree.specs.Tree.{Heap}
use Rattle.art_tree.specs.Tree.{Row as LeafRow}
use Rattle.art_typed.specs.Typed.{Spells, tuple_of}
use Rattle.art_typed.proofs.Ranges.{have_values, known}
use Rattle.art_closed.specs.Laws.{MapsSpellOneList}
use Rattle.art_closed.specs.Listing.{Pair, row_spelled, rows_spelled}
use Rattle.art_closed.specs.Rows.{AreRowsOf, SpellsTuples}
use Rattle.art_closed.proofs.Listed.{pair_cmp}
use Rattle.art_closed.proofs.Members.{all_members, map_member, member_all, member_map}

abbrev row_cmp : List Column → Row → Row → Ordering
row_cmp schema a b = tuple_cmp (order_of schema) a.tuple b.tuple

-- a value stands in a row with the same tuple
value_row : (rows : List Row) (t : Tuple) (v : ℕ) → value_at rows t ≡ Some v → (row : Row) × Member row rows × (is_same row.tuple t ≡ true) × (row.value ≡ v)
value_row [] t v e = absurd (cc)
value_row (row ∷ rows) t v e = by (is_same row.tuple t) refl e (λ f. let w = value_row rows t v f in (w.0, inr w.1, w.2, w.3))
  where
    by : (b : Bool) → is_same row.tuple t ≡ b → cond b (Some row.value) (value_at rows t) ≡ Some v
        → (value_at rows t ≡ Some v → (r : Row) × Member r (row ∷ rows) × (is_same r.tuple t ≡ true) × (r.value ≡ v)) → (r : Row) × Member r (row ∷ rows) × (is_same r.tuple t ≡ true) × (r.value ≡ v)
    by true is f rest = (row, inl refl, is, same_Some row.value v f)
    by false is f rest = rest f

-- tuples of the schema that are the same are one, with one spelling
module _ (schema : List Column) (a b : Tuple) (here : StandsIn schema a) (there : StandsIn schema b) (same : is_same a b ≡ true) where
  same_bytes : spelling schema a.items ≡ spelling schema b.items
  same_bytes = exact_bytes (spelling schema a.items) (spelling schema b.items) (keys_stand schema a.items b.items here there ∙ equal_by (order_of schema) a b same)

  same_tuple : a ≡ b
  same_tuple = λ i. record { items = (none_begins schema a.items b.items [] here there (append-nil (spelling schema a.items) ∙ same_bytes)).0 i }

-- ---- the rows of ascending pairs

module _ (schema : List Column) (h : Heap) (keys : SpellsTuples schema h) (xs : List Pair)
    (rows : (x : Pair) → Member x xs → LeafRow h x.0 x.1) (all : (k : List ℕ) (v : ℕ) → LeafRow h k v → Member (k, v) xs) (sorted : IsStrictlySortedBy pair_cmp xs) where
  is_key : (x : Pair) → Member x xs → IsKeyOf schema x.0
  is_key x i = keys x.0 x.1 (rows x i)

  stands : (x : Pair) → Member x xs → StandsIn schema (tuple_of schema x.0)
  stands x i = (known schema x.0 (is_key x i)).0

  -- tuples stand as their keys do
  stand_as_keys : (x y : Pair) → IsKeyOf schema x.0 → IsKeyOf schema y.0 → tuple_cmp (order_of schema) (tuple_of schema x.0) (tuple_of schema y.0) ≡ pair_cmp x y
  stand_as_keys x y kx ky =
      let a = known schema x.0 kx in
      let b = known schema y.0 ky in
      sym (keys_stand schema (tuple_of schema x.0).items (tuple_of schema y.0).items a.0 b.0) ∙ ap₂ (slice_cmp nat_cmp) (sym a.1) (sym b.1)

  rows_less : (x : Pair) → IsKeyOf schema x.0 → (ys : List Pair) → ((y : Pair) → Member y ys → IsKeyOf schema y.0) → AllByRecursion (λ (y : Pair). pair_cmp x y ≡ Less) ys
      → AllByRecursion (λ (r : Row). row_cmp schema (row_spelled schema x) r ≡ Less) (rows_spelled schema ys)
  rows_less x kx [] are less = tt
  rows_less x kx (y ∷ ys) are less = (stand_as_keys x y kx (are y (inl refl)) ∙ less.0, rows_less x kx ys (λ z i. are z (inr i)) less.1)

  rows_ascend : (ys : List Pair) → ((y : Pair) → Member y ys → IsKeyOf schema y.0) → IsStrictlySortedBy pair_cmp ys → IsSortedRows (order_of schema) (rows_spelled schema ys)
  unfolding IsStrictlySortedBy
  rows_ascend [] are s = tt
  rows_ascend (y ∷ ys) are s = (rows_less y (are y (inl refl)) ys (λ z i. are z (inr i)) s.0, rows_ascend ys (λ z i. are z (inr i)) s.1)

  abbrev listed : List Row
  listed = rows_spelled schema xs

  in_order : IsSortedRows (order_of schema) listed
  in_order = rows_ascend xs is_key sorted

  all_stand : AllByRecursion (λ (r : Row). StandsIn schema r.tuple) listed
  all_stand = all_members (λ (r : Row). StandsIn schema r.tuple) listed (λ r i.
      let x = map_member (row_spelled schema) xs r i in
      subst (λ (w : Row). StandsIn schema w.tuple) (sym x.2) (stands x.0 x.1))

  module _ (m : ByteMap) (has : HasRows h m) where
    -- where the map has a value, a row with the tuple has it
    some : (t : Tuple) (v : ℕ) → StandsIn schema t → get m (spelling schema t.items) ≡ Some v → value_at listed t ≡ Some v
    some t v there e =
        let k = spelling schema t.items in
        let i = all k v ((has k v).1 e) in
        let key = known schema k (is_key (k, v) i) in
        let cmp : tuple_cmp (order_of schema) (tuple_of schema k) t ≡ Equal = sym (keys_stand schema (tuple_of schema k).items t.items key.0 there) ∙ (ap (λ (l : List ℕ). slice_cmp nat_cmp l k) (sym key.1) ∙ itself k) in
        let tuple : tuple_of schema k ≡ t = same_tuple schema (tuple_of schema k) t key.0 there (same_by (order_of schema) (tuple_of schema k) t cmp) in
        subst (λ (q : Tuple). value_at listed q ≡ Some v) tuple
        (member_all (λ (r : Row). value_at listed r.tuple ≡ Some r.value) listed (have_values (order_of schema) listed in_order) (row_spelled schema (k, v)) (member_map (row_spelled schema) xs (k, v) i))
      where
        itself : (l : List ℕ) → slice_cmp nat_cmp l l ≡ Equal
        itself l = tied_itself nat_list_cmp_total l

    -- and where a row has it, the map does
    none : (t : Tuple) (v : ℕ) → StandsIn schema t → value_at listed t ≡ Some v → get m (spelling schema t.items) ≡ Some v
    none t v there e =
        let w = value_row listed t v e in
        let x = map_member (row_spelled schema) xs w.0 w.1 in
        let key = known schema x.0.0 (is_key x.0 x.1) in
        let same : is_same (tuple_of schema x.0.0) t ≡ true = subst (λ (r : Row). is_same r.tuple t ≡ true) x.2 w.2 in
        let bytes : x.0.0 ≡ spelling schema t.items = key.1 ∙ same_bytes schema (tuple_of schema x.0.0) t key.0 there same in
        let value : x.0.1 ≡ v = sym (ap (λ (r : Row). r.value) x.2) ∙ w.3 in
        ap (get m) (sym bytes) ∙ ((has x.0.0 x.0.1).0 (rows x.0 x.1) ∙ ap (λ (n : ℕ). Some n) value)

    spells : Spells schema m listed
    spells = record {
      sorted = in_order;
      stand = all_stand;
      same = λ t there. by t there (get m (spelling schema t.items)) (value_at listed t) refl refl;
      keys = λ k v e. keys k v ((has k v).1 e);
    }
      where
        by : (t : Tuple) → StandsIn schema t → (x y : Option ℕ) → get m (spelling schema t.items) ≡ x → value_at listed t ≡ y → get m (spelling schema t.items) ≡ value_at listed t
        by t there (Some v) y e f = e ∙ sym (some t v there e)
        by t there None None e f = e ∙ sym f
        by t there None (Some v) e f = let g = none t v there f in cc (e, g)

  pub rows_of : AreRowsOf schema h listed
  rows_of m has = spells m has

-- ---- one list

-- two sorted lists of rows with the same rows are one
module _ (schema : List Column) (irreflexive : (a : Row) → row_cmp schema a a ≡ Less → ⊥)
    (asymmetric : (a b : Row) → row_cmp schema a b ≡ Less → row_cmp schema b a ≡ Less → ⊥) where
  one_list : (xs ys : List Row) → IsSortedRows (order_of schema) xs → IsSortedRows (order_of schema) ys → ((r : Row) → Member r xs → Member r ys) → ((r : Row) → Member r ys → Member r xs) → xs ≡ ys
  unfolding IsStrictlySortedBy
  one_list [] [] s t f g = refl
  one_list [] (y ∷ ys) s t f g = absurd (g y (inl refl))
  one_list (x ∷ xs) [] s t f g = absurd (f x (inl refl))
  one_list (x ∷ xs) (y ∷ ys) s t f g = ap₂ (λ (r : Row) (rs : List Row). r ∷ rs) first (one_list xs ys s.1 t.1 (λ r i. later r i (f r (inr i))) (λ r i. earlier r i (g r (inr i))))
    where
      after_x : (r : Row) → Member r xs → row_cmp schema x r ≡ Less
      after_x r i = member_all (λ (w : Row). row_cmp schema x w ≡ Less) xs s.0 r i

      after_y : (r : Row) → Member r ys → row_cmp schema y r ≡ Less
      after_y r i = member_all (λ (w : Row). row_cmp schema y w ≡ Less) ys t.0 r i

      first : x ≡ y
      first = ⊎_elim (λ (e : x ≡ y). e) (λ (i : Member x ys). ⊎_elim (λ (e : y ≡ x). sym e) (λ (j : Member y xs). absurd (asymmetric x y (after_x y j) (after_y x i))) (g y (inl refl))) (f x (inl refl))

      later : (r : Row) → Member r xs → Member r (y ∷ ys) → Member r ys
      later r i j = ⊎_elim (λ (e : r ≡ y). absurd (irreflexive x (subst (λ (w : Row). row_cmp schema x w ≡ Less) (e ∙ sym first) (after_x r i)))) (λ (k : Member r ys). k) j

      earlier : (r : Row) → Member r ys → Member r (x ∷ xs) → Member r xs
      earlier r i j = ⊎_elim (λ (e : r ≡ x). absurd (irreflexive y (subst (λ (w : Row). row_cmp schema y w ≡ Less) (e ∙ first) (after_y r i)))) (λ (k : Member r xs). k) j

module _ (schema : List Column) (m : ByteMap) (a b : List Row) (r : Spells schema m a) (q : Spells schema m b) where
  in_other : (w : Row) → Member w a → Member w b
  in_other w i =
      let there : StandsIn schema w.tuple = member_all (λ (x : Row). StandsIn schema x.tuple) a r.stand w i in
      let value : value_at b w.tuple ≡ Some w.value = sym (q.same w.tuple there) ∙ (r.same w.tuple there ∙ member_all (λ (x : Row). value_at a x.tuple ≡ Some x.value) a (have_values (order_of schema) a r.sorted) w i) in
      let found = value_row b w.tuple w.value value in
      let stands_there = member_all (λ (x : Row). StandsIn schema x.tuple) b q.stand found.0 found.1 in
      let tuple = same_tuple schema found.0.tuple w.tuple stands_there there found.2 in
      subst (λ (x : Row). Member x b) (ap₂ (λ (t : Tuple) (v : ℕ). record { tuple = t; value = v }) tuple found.3) found.1

pub maps_spell_one_list : MapsSpellOneList
maps_spell_one_list schema m a b r q =
    one_list schema irreflexive asymmetric a b r.sorted q.sorted (in_other schema m a b r q) (in_other schema m b a q r)
  where
    turned : (x y : Row) → row_cmp schema x y ≡ ordering_reverse (row_cmp schema y x)
    turned x y = (tuple_total (order_of schema)).antisymm x.tuple y.tuple

    asymmetric : (x y : Row) → row_cmp schema x y ≡ Less → row_cmp schema y x ≡ Less → ⊥
    asymmetric x y e f = let g : Less ≡ Greater = sym e ∙ (turned x y ∙ ap ordering_reverse f) in cc (g)

    irreflexive : (x : Row) → row_cmp schema x x ≡ Less → ⊥
    irreflexive x e = asymmetric x x e e
