-- Words that are the same after the version, within the cell, are the same node.
use Rattle.std.proofs.Common.{◌≡◌, ◌⊎◌, ℕ, zero, suc, ◌+◌, ◌-◌, ◌*◌, ◌/◌, ◌%◌, ◌^◌, ◌<◌, ◌≤◌, List, length, find, eqb, Option, refl, sym, ap, ap₂, ◌∙◌, inl, inr, arith, eq-eqb, ne_eqb}
use Rattle.std.proofs.lemmas.Bool.{cases_lt, cases_eq}
use Rattle.std.specs.List.{range_with_len}
use Rattle.std.specs.Option.{option_and_then}
use Rattle.art_cell.specs.Bodies.{HasForm, IsBody, IsIndexed, IsSorted, used_count}
use Rattle.art_cell.specs.Lemmas.Entries.{same_listed}
use Rattle.art_cell.specs.Lemmas.Headers.{SamePrefix, prefix_kept, same_prefix_of}
use Rattle.art_cell.specs.Lemmas.Packed.{packed_same}
use Rattle.art_cell.specs.Words.{Words, child_of, count_of, indexed_child, is_used, key_byte, nonzero, prefix_of, size, sorted_child}
use Rattle.art_cell.specs.declared.cells.Layout.{Layout}
use Rattle.art_cell.specs.declared.cells.Layout.TheVariants.{Node4, Node16, Node48, Node256}
use Rattle.art_node.specs.Prefixes.{IsNodeOf}
use Rattle.art_tree.specs.WordChanges.{WritesNode}

pub past_prefix : (k : Layout) → 10 < size k
past_prefix Node4 = omega arith
past_prefix Node16 = omega arith
past_prefix Node48 = omega arith
past_prefix Node256 = omega arith

-- the same words of the cell
abbrev pub SameWithin : Layout → Words → Words → Type 0
SameWithin k w v = (i : ℕ) → 0 < i → i < size k → v i ≡ w i

-- ---- sorted bytes

module _ (slots first : ℕ) (w v : Words) (head : v 1 ≡ w 1) (enough : slots ≤ 8 * (first - 10))
    (keys : (i : ℕ) → i < 8 * (first - 10) → key_byte v i ≡ key_byte w i) (children : (i : ℕ) → i < slots → v (first + i) ≡ w (first + i)) where
  same_count : count_of v ≡ count_of w
  same_count = ap (λ (h : ℕ). h % 512) head

  sorted_form : IsSorted slots first w → IsSorted slots first v
  sorted_form form = record {
    header = omega (arith, form.header, head);
    few = omega (arith, form.few, same_count);
    ascends = λ i j lt high.
        let low : j < count_of w = omega (arith, high, same_count) in
        let is = form.ascends i j lt low in
        let few = form.few in
        let one = keys i (omega arith) in
        let two = keys j (omega arith) in
        omega (arith, is, one, two);
    some = λ i high.
        let low : i < count_of w = omega (arith, high, same_count) in
        let is = form.some i low in
        let few = form.few in
        let one = children i (omega arith) in
        omega (arith, is, one);
    no_byte = λ i past high. keys i high ∙ form.no_byte i (omega (arith, past, same_count)) high;
    no_child = λ i past high. children i high ∙ form.no_child i (omega (arith, past, same_count)) high;
  }

  module _ (b : ℕ) where
    abbrev sought : Words → ℕ → ℕ → Option ℕ
    sought u from n = option_and_then (λ i. nonzero (u (first + i))) (find (λ i. eqb (key_byte u i) b) (range_with_len from n))

    same_sought : (from n : ℕ) → from + n ≤ slots → sought v from n ≡ sought w from n
    same_sought from zero within = refl
    same_sought from (suc n) within =
        let key : key_byte v from ≡ key_byte w from = keys from (omega arith) in
        let child : v (first + from) ≡ w (first + from) = children from (omega arith) in
        elim (cases_eq (key_byte w from) b) [
          | inl here ↦ rw (eq-eqb (key_byte w from) b here, eq-eqb (key_byte v from) b (key ∙ here)) (ap nonzero child)
          | inr other ↦ rw (ne_eqb (key_byte w from) b other, ne_eqb (key_byte v from) b (λ e. other (sym key ∙ e))) (same_sought (from + 1) n (omega arith))
        ]

    sorted_same : IsSorted slots first w → sorted_child first v b ≡ sorted_child first w b
    sorted_same form = ap (λ (n : ℕ). sought v 0 n) same_count ∙ same_sought 0 (count_of w) (omega (arith, form.few))

-- ---- an index

module _ (w v : Words) (head : v 1 ≡ w 1) (keys : (b : ℕ) → b < 256 → key_byte v b ≡ key_byte w b) (children : (p : ℕ) → p < 48 → v (42 + p) ≡ w (42 + p)) where
  same_used : (p : ℕ) → is_used v p ≡ is_used w p
  same_used p = ap (λ (h : ℕ). h / 2 ^ (16 + p) % 2) head

  same_used_count : (n : ℕ) → used_count v n ≡ used_count w n
  same_used_count zero = refl
  same_used_count (suc n) = ap₂ (λ (a b : ℕ). a + b) (same_used n) (same_used_count n)

  indexed_form : IsIndexed w → IsIndexed v
  indexed_form form = record {
    within = λ b low. let is = form.within b low in let e = keys b low in omega (arith, is, e);
    once = λ a b a-low b-low some same. form.once a b a-low b-low (let e = keys a a-low in omega (arith, e, some)) (sym (keys a a-low) ∙ same ∙ keys b b-low);
    named = λ b p low is.
        let was = form.named b p low (sym (keys b low) ∙ is) in
        let high = form.within b low in
        let e = keys b low in
        let child = children p (omega (arith, high, e, is)) in
        (same_used p ∙ was.0, omega (arith, was.1, child));
    used = λ p low is. let was = form.used p low (sym (same_used p) ∙ is) in (was.0, was.1, keys was.0 was.1 ∙ was.2);
    free = λ p low is. children p low ∙ form.free p low (sym (same_used p) ∙ is);
    places = ap (λ (h : ℕ). h % 512) head ∙ form.places ∙ sym (same_used_count 48);
  }

  indexed_same : IsIndexed w → (b : ℕ) → b < 256 → indexed_child v b ≡ indexed_child w b
  indexed_same form b low = elim (cases_eq (key_byte w b) 0) [
    | inl none ↦ rw (eq-eqb (key_byte w b) 0 none, eq-eqb (key_byte v b) 0 (keys b low ∙ none)) refl
    | inr some ↦
        let high = form.within b low in
        let at : 41 + key_byte w b ≡ 42 + (key_byte w b - 1) = omega (arith, some) in
        let child : v (41 + key_byte v b) ≡ w (41 + key_byte w b) =
        ap (λ (i : ℕ). v (41 + i)) (keys b low) ∙ ap v at ∙ children (key_byte w b - 1) (omega (arith, some, high)) ∙ ap w (sym at) in
        rw (ne_eqb (key_byte w b) 0 some, ne_eqb (key_byte v b) 0 (λ e. some (sym (keys b low) ∙ e))) (ap nonzero child)
  ]

-- ---- any layout

module _ (w v : Words) where
  keys_same : (k : Layout) (n : ℕ) → SameWithin k w v → ((i : ℕ) → i < n → 10 + i / 8 < size k) → (i : ℕ) → i < n → key_byte v i ≡ key_byte w i
  keys_same k n same inside i low = packed_same w v 10 i (same (10 + i / 8) (omega arith) (inside i low))

  form_within : (k : Layout) → SameWithin k w v → HasForm k w → HasForm k v
  form_within Node4 same form = sorted_form 4 11 w v (same 1 (omega arith) (omega arith)) (omega arith) (keys_same Node4 8 same (λ i low. omega arith)) (λ i low. same (11 + i) (omega arith) (omega arith)) form
  form_within Node16 same form = sorted_form 16 12 w v (same 1 (omega arith) (omega arith)) (omega arith) (keys_same Node16 16 same (λ i low. omega arith)) (λ i low. same (12 + i) (omega arith) (omega arith)) form
  form_within Node48 same form = indexed_form w v (same 1 (omega arith) (omega arith)) (keys_same Node48 256 same (λ i low. omega arith)) (λ p low. same (42 + p) (omega arith) (omega arith)) form
  form_within Node256 same form = let head = same 1 (omega arith) (omega arith) in omega (arith, head, form)

  pub child_within : (k : Layout) (b : ℕ) → SameWithin k w v → HasForm k w → b < 256 → child_of k v b ≡ child_of k w b
  child_within Node4 b same form low = sorted_same 4 11 w v (same 1 (omega arith) (omega arith)) (omega arith) (keys_same Node4 8 same (λ i low. omega arith)) (λ i low. same (11 + i) (omega arith) (omega arith)) b form
  child_within Node16 b same form low = sorted_same 16 12 w v (same 1 (omega arith) (omega arith)) (omega arith) (keys_same Node16 16 same (λ i low. omega arith)) (λ i low. same (12 + i) (omega arith) (omega arith)) b form
  child_within Node48 b same form low = indexed_same w v (same 1 (omega arith) (omega arith)) (keys_same Node48 256 same (λ i low. omega arith)) (λ p low. same (42 + p) (omega arith) (omega arith)) form b low
  child_within Node256 b same form low = ap nonzero (same (10 + b) (omega arith) (omega arith))

  module _ (k : Layout) (same : SameWithin k w v) (body : IsBody k w) where
    same_prefix : SamePrefix w v
    same_prefix =
        let high = past_prefix k in record {
          len = ap (λ (h : ℕ). h / 512 % 128) (same 1 (omega arith) (omega arith));
          words = λ place low before. same place (omega arith) (omega arith);
        }

    pub body_within : ((p : ℕ) → v p < 2 ^ 64) → IsBody k v
    body_within fits =
        let high = past_prefix k in record {
          words = fits;
          prefix = prefix_kept w v same_prefix body.prefix;
          form = form_within k same body.form;
          counted = ap (λ (h : ℕ). h % 512) (same 1 (omega arith) (omega arith)) ∙ body.counted
              ∙ sym (ap length (same_listed (child_of k w) (child_of k v) 0 256 (λ b from low. child_within k b same body.form (omega arith))));
        }

    pub prefix_within : prefix_of v ≡ prefix_of w
    prefix_within = same_prefix_of w v same_prefix body.prefix

-- words that are 0 outside and those of a node within are that node's
pub node_within : (k : Layout) (w v : Words) (p : List ℕ) (child : ℕ → Option ℕ) → SameWithin k w v → ((i : ℕ) → (i ≡ 0) ⊎ (size k ≤ i) → v i ≡ 0) → IsNodeOf k w p child → WritesNode k v p child
node_within k w v p child same outside is = record {
  body = body_within w v k same is.body fits;
  prefix = prefix_within w v k same is.body ∙ is.prefix;
  children = λ b low. child_within w v k b same is.body.form low ∙ is.children b low;
}
  where
    fits : (i : ℕ) → v i < 2 ^ 64
    fits i = elim (cases_eq i 0) [
      | inl first ↦ omega (arith, outside i (inl first))
      | inr later ↦ elim (cases_lt i (size k)) [
        | inl low ↦ let e = same i (omega arith) low in let bound = is.body.words i in omega (arith, e, bound)
        | inr past ↦ omega (arith, outside i (inr past))
      ]
    ]
