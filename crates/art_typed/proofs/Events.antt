-- Each event of byte keys is one of typed rows.
use Rattle.std.proofs.Common.{◌≡◌, ℕ, Bool, true, false, List, [], ◌∷◌, Some, None, cond, inl, inr, refl, sym, ap, ◌∙◌, subst}
use Rattle.std.proofs.lemmas.Map.Lookups.{exact_bytes}
use Rattle.std.proofs.lemmas.Cmp.{nat_list_cmp_total}
use Rattle.std.specs.FinMap.{empty, get, get-empty, get-insert, get-remove, insert, remove}
use Rattle.std.specs.Cmp.Lexicographic.{slice_cmp}
use Rattle.std.specs.declared.cmp.Ordering.{Ordering}
use Rattle.std.specs.declared.cmp.Ordering.TheVariants.{Less, Equal, Greater}
use Rattle.std.specs.Ordering.{is_eq, nat_cmp}
use Rattle.std.specs.List.Sorted.{IsStrictlySortedBy}
use Rattle.std.specs.Prelude.{Option}
use Rattle.art_key.specs.declared.columns.Column.{Column}
use Rattle.art_key.specs.Columns.{order_of}
use Rattle.art_key.specs.Histories as typed_history
use Rattle.art_key.specs.Histories.{StandsIn}
use Rattle.art_key.specs.Spelling.{IsKeyOf, spelling}
use Rattle.art_key.proofs.TupleLaws.{keys_stand}
use Rattle.art_model.specs.declared.commands.Answer.TheVariants as short
use Rattle.art_model.specs.declared.commands.Answer.{Answer}
use Rattle.art_model.specs.declared.rows.Row.{Row}
use Rattle.art_model.proofs.Order.{same_is}
use Rattle.art_model.specs.Answers.{get_answer, insert_answer, remove_answer, reply_of_answer}
use Rattle.art_model.specs.Rows.{Order, Tuple, is_same, value_at, with_row, without_row}
use Rattle.art_step.specs.declared.deeds.Act.{Act}
use Rattle.art_step.specs.declared.deeds.Act.TheVariants as act
use Rattle.art_step.specs.declared.deeds.Deed.{Deed as ByteDeed}
use Rattle.art_step.specs.declared.deeds.Deed.TheVariants as bytes
use Rattle.art_step.specs.declared.views.Event.{Event as ByteEvent}
use Rattle.art_step.specs.Deeds.{IsAdmitted, key_asked}
use Rattle.art_step.specs.Histories.{AreAdmitted, IsAnswered, IsLegalFrom, answer, becomes, by_value, run}
use Rattle.art_tree.specs.Rows.{ByteMap}
use Rattle.art_typed.specs.Laws.{HistoriesAreTyped}
use Rattle.art_typed.specs.Typed.{Spells, deed_of, tuple_of, typed}
use Rattle.art_typed.proofs.Cuts.{all_with, all_without, sorted_with, sorted_without, value_with, value_without}
use Rattle.art_typed.proofs.Ranges.{known, looked}

equal : (o : Ordering) → is_eq o ≡ true → o ≡ Equal
equal Less e = absurd (cc)
equal Equal e = refl
equal Greater e = absurd (cc)

module _ (schema : List Column) (m : ByteMap) (rows : List Row) (r : Spells schema m rows) (k : List ℕ) (is : IsKeyOf schema k) where
  abbrev t : Tuple
  t = tuple_of schema k

  abbrev order : Order
  order = order_of schema

  stands : StandsIn schema t
  stands = (known schema k is).0

  at : get m k ≡ value_at rows t
  at = ap (get m) (known schema k is).1 ∙ r.same t stands

  -- a key compares with this one as its tuple with that of this
  same_test : (q : Tuple) → StandsIn schema q → is_eq (slice_cmp nat_cmp (spelling schema q.items) k) ≡ is_same q t
  same_test q there = ap (λ (l : List ℕ). is_eq (slice_cmp nat_cmp (spelling schema q.items) l)) (known schema k is).1 ∙ (ap is_eq (keys_stand schema q.items t.items there stands) ∙ same_is order q t)

  inserted : (value : ℕ) → get m k ≡ None → Spells schema (insert m k value) (with_row order rows t value)
  inserted value none =
      let gone : value_at rows t ≡ None = sym at ∙ none in
      record {
        sorted = sorted_with order rows t value r.sorted gone;
        stand = all_with order (λ (row : Row). StandsIn schema row.tuple) rows t value r.sorted gone stands r.stand;
        same = λ q there. get-insert nat_list_cmp_total m k value (spelling schema q.items)
            ∙ (ap (λ b. cond b (Some value) (get m (spelling schema q.items))) (same_test q there)
            ∙ (ap (λ (o : Option ℕ). cond (is_same q t) (Some value) o) (r.same q there) ∙ sym (value_with order rows t q value r.sorted gone)));
        keys = λ j v e. by j v (is_eq (slice_cmp nat_cmp j k)) refl (sym (get-insert nat_list_cmp_total m k value j) ∙ e);
      }
    where
      by : (j : List ℕ) (v : ℕ) (b : Bool) → is_eq (slice_cmp nat_cmp j k) ≡ b → cond b (Some value) (get m j) ≡ Some v → IsKeyOf schema j
      by j v true same e = subst (IsKeyOf schema) (sym (exact_bytes j k (equal (slice_cmp nat_cmp j k) same))) is
      by j v false other e = r.keys j v e

  removed : (value : ℕ) → get m k ≡ Some value → Spells schema (remove m k) (without_row order rows t)
  removed value some =
      let there : value_at rows t ≡ Some value = sym at ∙ some in
      record {
        sorted = sorted_without order rows t value r.sorted there;
        stand = all_without order rows t value r.sorted there (λ (row : Row). StandsIn schema row.tuple) r.stand;
        same = λ q stands_too. get-remove nat_list_cmp_total m k (spelling schema q.items)
            ∙ (ap (λ b. cond b None (get m (spelling schema q.items))) (same_test q stands_too)
            ∙ (ap (λ (o : Option ℕ). cond (is_same q t) None o) (r.same q stands_too) ∙ sym (value_without order rows t value r.sorted there q)));
        keys = λ j v e. by j v (is_eq (slice_cmp nat_cmp j k)) (sym (get-remove nat_list_cmp_total m k j) ∙ e);
      }
    where
      by : (j : List ℕ) (v : ℕ) (b : Bool) → cond b None (get m j) ≡ Some v → IsKeyOf schema j
      by j v true e = absurd (cc)
      by j v false e = r.keys j v e

  -- ---- commands

  abbrev Goes : Answer → ByteMap → Rattle.art_model.specs.Answers.Outcome → Type 0
  Goes a n o = (reply_of_answer a ≡ o.0) × Spells schema n o.1

  inserts : (value : ℕ) (o : Option ℕ) → get m k ≡ o → Goes (by_value o short.Present short.Inserted) (by_value o (λ _. m) (insert m k value)) (insert_answer order rows t value o)
  inserts value None e = (refl, inserted value e)
  inserts value (Some there) e = (refl, r)

  removes : (o : Option ℕ) → get m k ≡ o → Goes (by_value o short.Removed short.Absent) (by_value o (λ _. remove m k) m) (remove_answer order rows t o)
  removes None e = (refl, r)
  removes (Some there) e = (refl, removed there e)

  gets : (o : Option ℕ) → Goes (by_value o short.Found short.Absent) m (get_answer rows o)
  gets None = (refl, r)
  gets (Some there) = (refl, r)

-- ---- one event

module _ (schema : List Column) (m : ByteMap) (rows : List Row) (r : Spells schema m rows) where
  abbrev Steps : ByteDeed → Type 0
  Steps what = typed_history.IsAnswered schema rows (deed_of schema what) × Spells schema (becomes m what) (typed_history.becomes schema rows (deed_of schema what))

  does : (a : Act) (x : Answer) → x ≡ answer m a → IsKeyOf schema (key_asked a) → Steps (bytes.Done a x)
  does (act.Insert k value) x e is =
      let go = subst (Goes schema m rows r k.items is (by_value (get m k.items) short.Present short.Inserted) (by_value (get m k.items) (λ _. m) (insert m k.items value))) (ap (insert_answer (order_of schema) rows (tuple_of schema k.items) value) (at schema m rows r k.items is)) (inserts schema m rows r k.items is value (get m k.items) refl) in
      ((stands schema m rows r k.items is, ap reply_of_answer e ∙ go.0), go.1)
  does (act.Remove k) x e is =
      let go = subst (Goes schema m rows r k.items is (by_value (get m k.items) short.Removed short.Absent) (by_value (get m k.items) (λ _. remove m k.items) m)) (ap (remove_answer (order_of schema) rows (tuple_of schema k.items)) (at schema m rows r k.items is)) (removes schema m rows r k.items is (get m k.items) refl) in
      ((stands schema m rows r k.items is, ap reply_of_answer e ∙ go.0), go.1)
  does (act.Get k) x e is =
      let go = subst (Goes schema m rows r k.items is (by_value (get m k.items) short.Found short.Absent) m) (ap (get_answer rows) (at schema m rows r k.items is)) (gets schema m rows r k.items is (get m k.items)) in
      ((stands schema m rows r k.items is, ap reply_of_answer e ∙ go.0), go.1)

  steps : (what : ByteDeed) → IsAnswered m what → IsAdmitted (IsKeyOf schema) what → Steps what
  steps (bytes.Done a x) e is = does a x e is
  steps (bytes.Look lo hi found) only is = (looked schema m rows r lo hi found only, r)

-- ---- a history

legal_from : (schema : List Column) (log : List ByteEvent) (m : ByteMap) (rows : List Row) → Spells schema m rows → IsLegalFrom m log → AreAdmitted (IsKeyOf schema) log
    → typed_history.IsLegalFrom schema rows (typed schema log) × Spells schema (run m log) (typed_history.run schema rows (typed schema log))
legal_from schema [] m rows r legal keys = (tt, r)
legal_from schema (e ∷ log) m rows r legal keys =
    let here = steps schema m rows r e.what legal.0 (keys e (inl refl)) in
    let rest = legal_from schema log (becomes m e.what) (typed_history.becomes schema rows (deed_of schema e.what)) here.1 legal.1 (λ x i. keys x (inr i)) in
    ((here.0, rest.0), rest.1)

none_yet : (schema : List Column) → Spells schema empty []
unfolding IsStrictlySortedBy
none_yet schema = record {
  sorted = tt;
  stand = tt;
  same = λ t there. get-empty (slice_cmp nat_cmp) (spelling schema t.items);
  keys = λ k value e. let none = sym (get-empty {X = ℕ} (slice_cmp nat_cmp) k) ∙ e in absurd (cc);
}

pub histories_are_typed : HistoriesAreTyped
histories_are_typed schema log legal keys = legal_from schema log empty [] (none_yet schema) legal keys
