-- A change of one child of a node of 48 places.
use Rattle.std.proofs.Common.{◌≡◌, ◌≢◌, ◌⊎◌, ℕ, zero, suc, ◌+◌, ◌-◌, ◌*◌, ◌/◌, ◌%◌, ◌^◌, ◌<◌, ◌≤◌, Some, None, refl, sym, ap, subst, ◌∙◌, inl, inr, arith, eq-eqb, ne_eqb}
use Rattle.std.proofs.lemmas.Bool.{cases_eq, cases_lt}
use Rattle.std.proofs.lemmas.Nat.{one_shl}
use Rattle.art_cell.specs.declared.cells.Layout.TheVariants.{Node48}
use Rattle.art_cell.specs.Words.{Words, count_of, is_used, key_byte, nonzero, indexed_child}
use Rattle.art_cell.specs.Bodies.{used_count, IsIndexed, IsBody, Becomes, TakesPlace}
use Rattle.art_cell.specs.Lemmas.Entries.{listed_some, becomes_with, becomes_other, becomes_without}
use Rattle.art_cell.specs.Lemmas.Headers.{UsesPlace, uses_place, frees_place, bit_more_below, bit_at_least, count_less, used_kept}
use Rattle.art_cell.specs.Reads.{with_child, without_child}
use Rattle.art_node48.specs.Changes.{Wrote, IsLowestFree}
use Rattle.art_node48.proofs.Index.{no_child_at_none, child_at_entry, nonzero_some}

-- ---- how many places are in use

used_bit : (w : Words) (p : ℕ) → (is_used w p ≡ 0) ⊎ (is_used w p ≡ 1)
used_bit w p = by_bit (is_used w p) (omega arith)
  where
    by_bit : (n : ℕ) → n < 2 → (n ≡ 0) ⊎ (n ≡ 1)
    by_bit zero low = inl refl
    by_bit (suc zero) low = inr refl
    by_bit (suc (suc n)) low = absurd (omega arith)

sum_same : (a b c d : ℕ) → a ≡ b → c ≡ d → a + c ≡ b + d
sum_same a b c d e f = omega arith

sum_more : (a b c d : ℕ) → a ≡ b → c ≡ d + 1 → a + c ≡ b + d + 1
sum_more a b c d e f = omega arith

sum_first : (a b c d : ℕ) → a ≡ 1 → b ≡ 0 → c ≡ d → a + c ≡ b + d + 1
sum_first a b c d e z f = omega arith

pub used_same : (w after : Words) (n : ℕ) → ((q : ℕ) → q < n → is_used after q ≡ is_used w q) → used_count after n ≡ used_count w n
used_same w after zero same = refl
used_same w after (suc n) same =
    sum_same (is_used after n) (is_used w n) (used_count after n) (used_count w n) (same n (omega arith)) (used_same w after n (λ q low. same q (omega arith)))

-- one place more in use
pub used_more : (w after : Words) (p n : ℕ) → p < n → is_used w p ≡ 0 → is_used after p ≡ 1 → ((q : ℕ) → q ≢ p → is_used after q ≡ is_used w q) → used_count after n ≡ used_count w n + 1
used_more w after p zero low free used same = absurd (omega arith)
used_more w after p (suc n) low free used same =
    elim (cases_eq n p) [
      | inl here ↦
          sum_first (is_used after n) (is_used w n) (used_count after n) (used_count w n) (ap (is_used after) here ∙ used) (ap (is_used w) here ∙ free) (
          used_same w after n (λ q below. same q (λ e. omega arith))
          )
      | inr apart ↦
          sum_more (is_used after n) (is_used w n) (used_count after n) (used_count w n) (same n apart) (used_more w after p n (omega arith) free used same)
    ]

sum_all : (a c n : ℕ) → a ≡ 1 → c ≡ n → a + c ≡ suc n
sum_all a c n e f = omega arith

-- each place is in use
pub used_all : (w : Words) (n : ℕ) → ((q : ℕ) → q < n → is_used w q ≡ 1) → used_count w n ≡ n
used_all w zero all = refl
used_all w (suc n) all = sum_all (is_used w n) (used_count w n) n (all n (omega arith)) (used_all w n (λ q low. all q (omega arith)))

sum_few : (a c n : ℕ) → a < 2 → c ≤ n → a + c ≤ suc n
sum_few a c n e f = omega arith

used_few : (w : Words) (n : ℕ) → used_count w n ≤ n
used_few w zero = omega arith
used_few w (suc n) = sum_few (is_used w n) (used_count w n) n (omega arith) (used_few w n)

sum_free : (a c n : ℕ) → a ≡ 0 → c ≤ n → a + c < suc n
sum_free a c n e f = omega arith

sum_rest : (a c n : ℕ) → a < 2 → c < n → a + c < suc n
sum_rest a c n e f = omega arith

-- one place is free
pub used_not_all : (w : Words) (p n : ℕ) → p < n → is_used w p ≡ 0 → used_count w n < n
used_not_all w p zero low free = absurd (omega arith)
used_not_all w p (suc n) low free =
    elim (cases_eq n p) [
      | inl here ↦ sum_free (is_used w n) (used_count w n) n (ap (is_used w) here ∙ free) (used_few w n)
      | inr apart ↦ sum_rest (is_used w n) (used_count w n) n (omega arith) (used_not_all w p n (omega arith) free)
    ]

pub full_where_all : (w : Words) → IsIndexed w → ((q : ℕ) → q < 48 → is_used w q ≡ 1) → count_of w ≡ 48
full_where_all w are all = are.places ∙ used_all w 48 all

pub not_full : (w : Words) (p : ℕ) → IsIndexed w → p < 48 → is_used w p ≡ 0 → count_of w < 48
not_full w p are low free = subst (λ (n : ℕ). n < 48) (sym are.places) (used_not_all w p 48 low free)

-- ---- the form after a change

-- the byte's entry, the place's child and the place's bit are these, and all else is as it was; no other byte names the place
pub record Step (w after : Words) (byte place entry child used : ℕ) : Type 0 where
  pub within : place < 48
  pub wrote_entry : key_byte after byte ≡ entry
  pub entries : (b : ℕ) → b < 256 → b ≢ byte → key_byte after b ≡ key_byte w b
  pub wrote_child : after (42 + place) ≡ child
  pub children : (p : ℕ) → p < 48 → p ≢ place → after (42 + p) ≡ w (42 + p)
  pub wrote_bit : is_used after place ≡ used
  pub bits : (p : ℕ) → p ≢ place → is_used after p ≡ is_used w p
  pub was : (key_byte w byte ≡ 0) ⊎ (key_byte w byte ≡ suc place)
  pub unnamed : (b : ℕ) → b < 256 → b ≢ byte → key_byte w b ≢ suc place
  pub places : count_of after ≡ used_count after 48

-- the entry names the place, which is used and has the child, or names none, and the place is free and has none
abbrev pub Gives : ℕ → ℕ → ℕ → ℕ → Type 0
Gives place entry child used = (entry ≡ suc place) × (0 < child) × (used ≡ 1)

abbrev pub Takes : ℕ → ℕ → ℕ → Type 0
Takes entry child used = (entry ≡ 0) × (child ≡ 0) × (used ≡ 0)

-- the place of an entry that is not the byte's own
other_place : (w after : Words) (byte place entry child used b p : ℕ) → IsIndexed w → Step w after byte place entry child used → b < 256 → b ≢ byte → key_byte after b ≡ suc p
    → (p ≢ place) × (is_used after p ≡ 1) × (0 < after (42 + p))
other_place w after byte place entry child used b p are step low apart is =
    let was : key_byte w b ≡ suc p = sym (step.entries b low apart) ∙ is in
    let away : p ≢ place = λ e. step.unnamed b low apart (was ∙ ap suc e) in
    let there = are.named b p low was in
    let within : p < 48 = omega (arith, was, are.within b low) in
    (away, step.bits p away ∙ there.0, subst (λ (n : ℕ). 0 < n) (sym (step.children p within away)) there.1)

one_not_zero : (n : ℕ) → n ≡ 1 → n ≡ 0 → ⊥
one_not_zero n one none = omega arith

form_after : (w after : Words) (byte place entry child used : ℕ) → byte < 256 → IsIndexed w → Step w after byte place entry child used → Gives place entry child used ⊎ Takes entry child used → IsIndexed after
form_after w after byte place entry child used in_range are step kind = record {
  within = within;
  once = once;
  named = named;
  used = in_use;
  free = free;
  places = step.places;
}
  where
    entry_at_most : entry ≤ 48
    entry_at_most = elim kind [
      | inl gives ↦ omega (arith, gives.0, step.within)
      | inr takes ↦ omega (arith, takes.0)
    ]

    named_by : 0 < entry → entry ≡ suc place
    named_by some = elim kind [
      | inl gives ↦ gives.0
      | inr takes ↦ absurd (omega (arith, takes.0))
    ]

    within : (b : ℕ) → b < 256 → key_byte after b ≤ 48
    within b low = elim (cases_eq b byte) [
      | inl here ↦ omega (arith, ap (key_byte after) here, step.wrote_entry, entry_at_most)
      | inr apart ↦ omega (arith, step.entries b low apart, are.within b low)
    ]

    -- where the byte itself has an entry, no other byte has the same
    no_other : (a : ℕ) → a < 256 → a ≢ byte → 0 < key_byte after a → key_byte after a ≢ key_byte after byte
    no_other a low apart some same =
        let is : key_byte w a ≡ entry = sym (step.entries a low apart) ∙ same ∙ step.wrote_entry in
        step.unnamed a low apart (is ∙ named_by (omega (arith, same, step.wrote_entry, some)))

    once : (a b : ℕ) → a < 256 → b < 256 → 0 < key_byte after a → key_byte after a ≡ key_byte after b → a ≡ b
    once a b low_a low_b some same =
        elim (cases_eq a byte) [
          | inl a_here ↦
              elim (cases_eq b byte) [
                | inl b_here ↦ a_here ∙ sym b_here
                | inr b_apart ↦ absurd (no_other b low_b b_apart (subst (λ (n : ℕ). 0 < n) same some) (sym same ∙ ap (key_byte after) a_here))
              ]
          | inr a_apart ↦
              elim (cases_eq b byte) [
                | inl b_here ↦ absurd (no_other a low_a a_apart some (same ∙ ap (key_byte after) b_here))
                | inr b_apart ↦
                    let kept_a = step.entries a low_a a_apart in
                    let kept_b = step.entries b low_b b_apart in
                    are.once a b low_a low_b (subst (λ (n : ℕ). 0 < n) kept_a some) (sym kept_a ∙ same ∙ kept_b)
              ]
        ]

    named_here : (p : ℕ) → entry ≡ suc p → (is_used after p ≡ 1) × (0 < after (42 + p))
    named_here p is = elim kind [
      | inl gives ↦
          let here : place ≡ p = omega (arith, gives.0, is) in
          (ap (is_used after) (sym here) ∙ step.wrote_bit ∙ gives.2, subst (λ (n : ℕ). 0 < n) (sym (ap (λ (q : ℕ). after (42 + q)) (sym here) ∙ step.wrote_child)) gives.1)
      | inr takes ↦ absurd (omega (arith, takes.0, is))
    ]

    named : (b p : ℕ) → b < 256 → key_byte after b ≡ suc p → (is_used after p ≡ 1) × (0 < after (42 + p))
    named b p low is = elim (cases_eq b byte) [
      | inl here ↦ named_here p (sym step.wrote_entry ∙ ap (key_byte after) (sym here) ∙ is)
      | inr apart ↦
          let there = other_place w after byte place entry child used b p are step low apart is in
          (there.1, there.2)
    ]

    not_of_byte : (p b : ℕ) → p ≢ place → key_byte w b ≡ suc p → b ≢ byte
    not_of_byte p b away is here =
        let own : key_byte w byte ≡ suc p = ap (key_byte w) (sym here) ∙ is in
        elim step.was [
          | inl none ↦ absurd (omega (arith, none, own))
          | inr some ↦ away (omega (arith, some, own))
        ]

    in_use : (p : ℕ) → p < 48 → is_used after p ≡ 1 → (b : ℕ) × (b < 256) × (key_byte after b ≡ suc p)
    in_use p low is = elim (cases_eq p place) [
      | inl here ↦ elim kind [
        | inl gives ↦ (byte, in_range, step.wrote_entry ∙ gives.0 ∙ ap suc (sym here))
        | inr takes ↦ absurd (one_not_zero (is_used after p) is (ap (is_used after) here ∙ step.wrote_bit ∙ takes.2))
      ]
      | inr away ↦
          let there = are.used p low (sym (step.bits p away) ∙ is) in
          (there.0, there.1, step.entries there.0 there.1 (not_of_byte p there.0 away there.2) ∙ there.2)
    ]

    free : (p : ℕ) → p < 48 → is_used after p ≡ 0 → after (42 + p) ≡ 0
    free p low is = elim (cases_eq p place) [
      | inl here ↦ elim kind [
        | inl gives ↦ absurd (one_not_zero (is_used after p) (ap (is_used after) here ∙ step.wrote_bit ∙ gives.2) is)
        | inr takes ↦ ap (λ (q : ℕ). after (42 + q)) here ∙ step.wrote_child ∙ takes.1
      ]
      | inr away ↦ step.children p low away ∙ are.free p low (sym (step.bits p away) ∙ is)
    ]

-- ---- the children after a change

-- each other byte has the child that it had
other_child : (w after : Words) (byte place entry child used b : ℕ) → IsIndexed w → Step w after byte place entry child used → b < 256 → b ≢ byte → indexed_child after b ≡ indexed_child w b
other_child w after byte place entry child used b are step low apart =
    by_entry (key_byte after b) refl
  where
    kept : key_byte w b ≡ key_byte after b
    kept = sym (step.entries b low apart)

    by_entry : (n : ℕ) → key_byte after b ≡ n → indexed_child after b ≡ indexed_child w b
    by_entry zero is = no_child_at_none after b is ∙ sym (no_child_at_none w b (kept ∙ is))
    by_entry (suc p) is =
        let there = other_place w after byte place entry child used b p are step low apart is in
        let within : p < 48 = omega (arith, kept, is, are.within b low) in
        let at : after (41 + suc p) ≡ w (41 + suc p) = ap after (omega arith) ∙ step.children p within there.0 ∙ ap w (omega arith) in
        child_at_entry after b (suc p) is (λ e. omega arith) ∙ ap nonzero at ∙ sym (child_at_entry w b (suc p) (kept ∙ is) (λ e. omega arith))

given_child : (w after : Words) (byte place entry child used : ℕ) → Step w after byte place entry child used → Gives place entry child used → indexed_child after byte ≡ Some child
given_child w after byte place entry child used step gives =
    child_at_entry after byte (suc place) (step.wrote_entry ∙ gives.0) (λ e. omega arith) ∙ ap nonzero (ap after (omega arith) ∙ step.wrote_child) ∙ nonzero_some child (λ e. omega (arith, gives.1))

pub children_given : (w after : Words) (byte place entry child used : ℕ) → IsIndexed w → Step w after byte place entry child used → Gives place entry child used
    → (b : ℕ) → b < 256 → indexed_child after b ≡ with_child (indexed_child w) byte child b
children_given w after byte place entry child used are step gives b low = elim (cases_eq b byte) [
  | inl here ↦ ap (indexed_child after) here ∙ given_child w after byte place entry child used step gives ∙ sym (rw (eq-eqb b byte here) refl)
  | inr apart ↦ other_child w after byte place entry child used b are step low apart ∙ sym (rw (ne_eqb b byte apart) refl)
]

pub children_taken : (w after : Words) (byte place entry child used : ℕ) → IsIndexed w → Step w after byte place entry child used → Takes entry child used
    → (b : ℕ) → b < 256 → indexed_child after b ≡ without_child (indexed_child w) byte b
children_taken w after byte place entry child used are step takes b low = elim (cases_eq b byte) [
  | inl here ↦ ap (indexed_child after) here ∙ no_child_at_none after byte (step.wrote_entry ∙ takes.0) ∙ sym (rw (eq-eqb b byte here) refl)
  | inr apart ↦ other_child w after byte place entry child used b are step low apart ∙ sym (rw (ne_eqb b byte apart) refl)
]

-- ---- the three changes

-- the byte's entry names the place, which is in use and has a child
pub record Stands (w : Words) (byte place : ℕ) : Type 0 where
  pub within : place < 48
  pub names : key_byte w byte ≡ suc place
  pub used : is_used w place ≡ 1

pub entry_some : (w : Words) (byte entry : ℕ) → (c : ℕ) × (indexed_child w byte ≡ Some c) → key_byte w byte ≡ entry → 0 < entry
entry_some w byte zero there is =
    let none = no_child_at_none w byte is in
    let some = there.1 in
    absurd cc
entry_some w byte (suc place) there is = omega arith

pub stands : (w : Words) (byte entry place : ℕ) → IsBody Node48 w → byte < 256 → (c : ℕ) × (indexed_child w byte ≡ Some c) → key_byte w byte ≡ entry → place ≡ entry - 1 → Stands w byte place
stands w byte entry place body low there is at =
    let some = entry_some w byte entry there is in
    let names : key_byte w byte ≡ suc place = is ∙ omega arith in
    record {
      within = omega (arith, names, body.form.within byte low);
      names = names;
      used = (body.form.named byte place low names).0;
    }

pub no_entry : (w : Words) (byte : ℕ) → IsIndexed w → byte < 256 → indexed_child w byte ≡ None → key_byte w byte ≡ 0
no_entry w byte are low none = by_entry (key_byte w byte) refl
  where
    by_entry : (n : ℕ) → key_byte w byte ≡ n → key_byte w byte ≡ 0
    by_entry zero is = is
    by_entry (suc p) is =
        let some = (are.named byte p low is).1 in
        let at : w (41 + suc p) ≡ w (42 + p) = ap w (omega arith) in
        let child = child_at_entry w byte (suc p) is (λ e. omega arith) ∙ ap nonzero at ∙ nonzero_some (w (42 + p)) (λ e. omega (arith, some)) in
        absurd cc

-- no other byte has the place of one
unnamed_where_stands : (w : Words) (byte place : ℕ) → IsIndexed w → byte < 256 → Stands w byte place → (b : ℕ) → b < 256 → b ≢ byte → key_byte w b ≢ suc place
unnamed_where_stands w byte place are in_range stand b low apart is =
    apart (are.once b byte low in_range (omega (arith, is)) (is ∙ sym stand.names))

pub becomes_added : (w after : Words) (header byte place child : ℕ) → IsBody Node48 w → byte < 256 → indexed_child w byte ≡ None → place < 48 → UsesPlace (w 1) header place → 0 < child → header < 2 ^ 64 → child < 2 ^ 64
    → Wrote w after header byte (place + 1) place child → Becomes Node48 w after (with_child (indexed_child w) byte child)
becomes_added w after header byte place child body low none within uses some header_fits child_fits wrote =
    becomes_with Node48 w after byte child low none body count (record {
      words = wrote.below body.words header_fits child_fits;
      prefix = record { len = ap (λ (h : ℕ). h / 512 % 128) wrote.wrote_header ∙ uses.len; words = wrote.prefix };
      form = form_after w after byte place (place + 1) child 1 low body.form step (inl gives);
      children = children_given w after byte place (place + 1) child 1 body.form step gives;
    })
  where
    count : count_of after ≡ count_of w + 1
    count = ap (λ (h : ℕ). h % 512) wrote.wrote_header ∙ uses.count

    gives : Gives place (place + 1) child 1
    gives = (omega arith, some, refl)

    bit : is_used after place ≡ 1
    bit = ap (λ (h : ℕ). h / 2 ^ (16 + place) % 2) wrote.wrote_header ∙ uses.used

    bits : (q : ℕ) → q ≢ place → is_used after q ≡ is_used w q
    bits q apart = ap (λ (h : ℕ). h / 2 ^ (16 + q) % 2) wrote.wrote_header ∙ uses.others q apart

    step : Step w after byte place (place + 1) child 1
    step = record {
      within = within;
      wrote_entry = wrote.wrote_entry;
      entries = wrote.entries;
      wrote_child = wrote.wrote_child;
      children = wrote.children;
      wrote_bit = bit;
      bits = bits;
      was = inl (no_entry w byte body.form low none);
      unnamed = λ b in_range apart is. one_not_zero (is_used w place) ((body.form.named b place in_range is).0) uses.free;
      places = count ∙ ap (λ (n : ℕ). n + 1) body.form.places ∙ sym (used_more w after place 48 within uses.free bit bits);
    }

-- no free place is below the lowest one
pub takes_lowest : (w after : Words) (header byte place child : ℕ) → IsLowestFree (w 1) place → Wrote w after header byte (place + 1) place child → TakesPlace w after byte
takes_lowest w after header byte place child lowest wrote = record { lowest = at_most; others = wrote.entries }
  where
    at_most : (p : ℕ) → p < 48 → is_used w p ≡ 0 → key_byte after byte ≤ suc p
    at_most p within free = elim (cases_lt p place) [
      | inl below ↦ absurd (one_not_zero (is_used w p) (lowest.least p below) free)
      | inr above ↦ omega (arith, wrote.wrote_entry, above)
    ]

pub becomes_set : (w after : Words) (header byte entry place child : ℕ) → IsBody Node48 w → byte < 256 → (c : ℕ) × (indexed_child w byte ≡ Some c) → Stands w byte place → entry ≡ suc place → header ≡ w 1 → 0 < child → child < 2 ^ 64
    → Wrote w after header byte entry place child → Becomes Node48 w after (with_child (indexed_child w) byte child)
becomes_set w after header byte entry place child body low there stand is same some child_fits wrote =
    becomes_other Node48 w after byte there.0 child low there.1 body (ap (λ (h : ℕ). h % 512) kept) (record {
      words = wrote.below body.words (subst (λ (h : ℕ). h < 2 ^ 64) (sym same) (body.words 1)) child_fits;
      prefix = record { len = ap (λ (h : ℕ). h / 512 % 128) kept; words = wrote.prefix };
      form = form_after w after byte place entry child 1 low body.form step (inl gives);
      children = children_given w after byte place entry child 1 body.form step gives;
    })
  where
    kept : after 1 ≡ w 1
    kept = wrote.wrote_header ∙ same

    gives : Gives place entry child 1
    gives = (is, some, refl)

    bits : (q : ℕ) → is_used after q ≡ is_used w q
    bits q = ap (λ (h : ℕ). h / 2 ^ (16 + q) % 2) kept

    step : Step w after byte place entry child 1
    step = record {
      within = stand.within;
      wrote_entry = wrote.wrote_entry;
      entries = wrote.entries;
      wrote_child = wrote.wrote_child;
      children = wrote.children;
      wrote_bit = bits place ∙ stand.used;
      bits = λ q apart. bits q;
      was = inr stand.names;
      unnamed = unnamed_where_stands w byte place body.form low stand;
      places = ap (λ (h : ℕ). h % 512) kept ∙ body.form.places ∙ sym (used_same w after 48 (λ q below. bits q));
    }

pub becomes_taken : (w after : Words) (header byte place : ℕ) → IsBody Node48 w → byte < 256 → (c : ℕ) × (indexed_child w byte ≡ Some c) → Stands w byte place → UsesPlace header (w 1) place → header < 2 ^ 64
    → Wrote w after header byte 0 place 0 → Becomes Node48 w after (without_child (indexed_child w) byte)
becomes_taken w after header byte place body low there stand frees header_fits wrote =
    becomes_without Node48 w after byte there.0 low there.1 body (sym count) (record {
      words = wrote.below body.words header_fits (omega arith);
      prefix = record { len = ap (λ (h : ℕ). h / 512 % 128) wrote.wrote_header ∙ sym frees.len; words = wrote.prefix };
      form = form_after w after byte place 0 0 0 low body.form step (inr takes);
      children = children_taken w after byte place 0 0 0 body.form step takes;
    })
  where
    count : count_of w ≡ count_of after + 1
    count = frees.count ∙ ap (λ (h : ℕ). h % 512 + 1) (sym wrote.wrote_header)

    takes : Takes 0 0 0
    takes = (refl, refl, refl)

    bit : is_used after place ≡ 0
    bit = ap (λ (h : ℕ). h / 2 ^ (16 + place) % 2) wrote.wrote_header ∙ frees.free

    bits : (q : ℕ) → q ≢ place → is_used after q ≡ is_used w q
    bits q apart = ap (λ (h : ℕ). h / 2 ^ (16 + q) % 2) wrote.wrote_header ∙ sym (frees.others q apart)

    suc_same : (a b : ℕ) → a + 1 ≡ b + 1 → a ≡ b
    suc_same a b e = omega arith

    step : Step w after byte place 0 0 0
    step = record {
      within = stand.within;
      wrote_entry = wrote.wrote_entry;
      entries = wrote.entries;
      wrote_child = wrote.wrote_child;
      children = wrote.children;
      wrote_bit = bit;
      bits = bits;
      was = inr stand.names;
      unnamed = unnamed_where_stands w byte place body.form low stand;
      places = suc_same (count_of after) (used_count after 48) (sym count ∙ body.form.places ∙ used_more after w place 48 stand.within bit stand.used (λ q apart. sym (bits q apart)));
    }

-- ---- the header that is written

-- the code's power of a place's bit
power : (place : ℕ) → place < 48 → 1 * 2 ^ (16 + place) % 2 ^ 64 ≡ 2 ^ (16 + place)
power place within = one_shl (16 + place) 64 (omega arith)

pub header_more : (w : Words) (place : ℕ) → IsBody Node48 w → IsLowestFree (w 1) place → w 1 + 1 * 2 ^ (16 + place) % 2 ^ 64 + 1 < 2 ^ 64
header_more w place body lowest =
    let is = power place lowest.within in
    let below = bit_more_below (w 1) (16 + place) lowest.free (omega (arith, lowest.within)) (body.words 1) in
    let uses = uses_place (w 1) (w 1 + 2 ^ (16 + place) + 1) place refl lowest.free (omega (arith, not_full w place body.form lowest.within lowest.free)) in
    let few = not_full w place body.form lowest.within lowest.free in
    subst (λ (unit : ℕ). w 1 + unit + 1 < 2 ^ 64) (sym is) (no_wrap (w 1 + 2 ^ (16 + place)) (w 1) below uses.count few)
  where
    no_wrap : (mid h : ℕ) → mid < 2 ^ 64 → (mid + 1) % 512 ≡ h % 512 + 1 → h % 512 < 48 → mid + 1 < 2 ^ 64
    no_wrap mid h below count few = omega arith

pub header_uses : (w : Words) (place header : ℕ) → IsBody Node48 w → IsLowestFree (w 1) place → header ≡ w 1 + 1 * 2 ^ (16 + place) % 2 ^ 64 + 1 → UsesPlace (w 1) header place
header_uses w place header body lowest is =
    uses_place (w 1) header place (is ∙ ap (λ (unit : ℕ). w 1 + unit + 1) (power place lowest.within)) lowest.free (omega (arith, not_full w place body.form lowest.within lowest.free))

some_counted : (w : Words) (byte : ℕ) → IsBody Node48 w → byte < 256 → (c : ℕ) × (indexed_child w byte ≡ Some c) → 0 < count_of w
some_counted w byte body low there = subst (λ (n : ℕ). 0 < n) (sym body.counted) (listed_some (indexed_child w) byte there.0 0 256 (omega arith) low there.1)

pub header_less : (w : Words) (byte place : ℕ) → IsBody Node48 w → byte < 256 → (c : ℕ) × (indexed_child w byte ≡ Some c) → Stands w byte place → 1 * 2 ^ (16 + place) % 2 ^ 64 + 1 ≤ w 1
header_less w byte place body low there stand =
    let some = some_counted w byte body low there in
    let mid = w 1 - 1 in
    let back : mid + 1 ≡ w 1 = back_again (w 1) some in
    let less = count_less (w 1) mid back some in
    let high = bit_at_least mid (16 + place) (used_kept (w 1) mid place less.1 ∙ stand.used) in
    subst (λ (unit : ℕ). unit + 1 ≤ w 1) (sym (power place stand.within)) (one_more (2 ^ (16 + place)) mid (w 1) high back)
  where
    back_again : (h : ℕ) → 0 < h % 512 → h - 1 + 1 ≡ h
    back_again h some = omega arith

    one_more : (unit mid h : ℕ) → unit ≤ mid → mid + 1 ≡ h → unit + 1 ≤ h
    one_more unit mid h high back = omega arith

pub header_frees : (w : Words) (byte place header : ℕ) → IsBody Node48 w → byte < 256 → (c : ℕ) × (indexed_child w byte ≡ Some c) → Stands w byte place → header ≡ w 1 - 1 * 2 ^ (16 + place) % 2 ^ 64 - 1
    → UsesPlace header (w 1) place
header_frees w byte place header body low there stand is =
    let same = power place stand.within in
    let room = header_less w byte place body low there stand in
    frees_place (w 1) header place (taken_from (w 1) header (1 * 2 ^ (16 + place) % 2 ^ 64) (2 ^ (16 + place)) room is same) stand.used (some_counted w byte body low there)
  where
    taken_from : (h header unit power : ℕ) → unit + 1 ≤ h → header ≡ h - unit - 1 → unit ≡ power → h ≡ header + power + 1
    taken_from h header unit power room is same = omega arith
