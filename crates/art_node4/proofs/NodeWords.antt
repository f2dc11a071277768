-- The words of a node with sorted bytes, and the entries that they hold.
use Rattle.std.proofs.Common.{◌≡◌, ◌≢◌, ◌⊎◌, ℕ, zero, suc, ◌+◌, ◌-◌, ◌*◌, ◌/◌, ◌%◌, ◌^◌, ◌<◌, ◌≤◌, cond, eqb, List, [], ◌∷◌, ◌++◌, length, get_or, map, Option, Some, None, refl, sym, ap, subst, ◌∙◌, inl, inr, arith, eq-eqb, ne_eqb, get_or-set_other, get_or-set_same}
use Rattle.std.specs.Prelude.{set, find}
use Rattle.std.specs.List.{range_with_len, insert, remove}
use Rattle.std.specs.Option.{option_and_then}
use Rattle.std.proofs.lemmas.Bool.{cases_eq, cases_lt, cases_order}
use Rattle.std.proofs.lemmas.List.Edits.{length-insert, length-remove}
use Rattle.std.proofs.lemmas.List.{length-set, get_or_past}
use Rattle.std.proofs.lemmas.List.FromFn.{length-map-range_with_len, get_or-map-range_with_len, map-range_with_len_more, fill_by_all}
use Rattle.art_cell.specs.declared.cells.Layout.{Layout}
use Rattle.art_cell.specs.declared.node_kinds.Entry.{Entry}
use Rattle.art_cell.specs.Words.{Words, size, places, first_child, count_of, prefix_len, prefix_of, packed, key_byte, nonzero, sorted_child, child_of, entries}
use Rattle.art_cell.specs.Bodies.{HasPrefix, IsSorted, HasForm, IsBody, Becomes}
use Rattle.art_cell.specs.Lemmas.Entries.{same_listed}
use Rattle.art_cell.specs.Reads.{Agrees, word_read, NoneFrom, SameOutside, with_child, without_child}
use Rattle.art_cell.specs.Lemmas.Packed.{packed_below, packed_same}
use Rattle.art_node4.specs.declared.layouts.Sorted.{Sorted}
use Rattle.art_node4.specs.declared.layouts.Sorted.TheVariants.{Four, Sixteen}
use Rattle.art_node4.specs.Sorted.{layout_of, BelowAll, IsFirstFrom, no_entry, entry_or_none, IsPosition, Holds}
use Rattle.art_cell.specs.Lemmas.Headers.{with_count, count-with_count, prefix_len-with_count, with_count_below}
use Rattle.art_node4.proofs.Ascending.{Ascends, lookup, listed-lookup, ascends_at, some_at, lookup_at, lookup_none, found_at, lookup-insert, Ascends-insert, lookup-set, Ascends-set, lookup-remove, Ascends-remove}

-- ---- the two layouts

-- where the words of a layout stand
pub record Fits (k : Layout) : Type 0 where
  pub few : places k ≤ 16
  pub low : 11 ≤ first_child k
  pub keys : places k ≤ 8 * (first_child k - 10)
  pub after_keys : (i : ℕ) → i < 8 * (first_child k - 10) → 10 + i / 8 < first_child k
  pub last : first_child k + places k ≡ size k

pub fits : (s : Sorted) → Fits (layout_of s)
fits Four = record { few = omega arith; low = omega arith; keys = omega arith; after_keys = λ i h. omega arith; last = refl }
fits Sixteen = record { few = omega arith; low = omega arith; keys = omega arith; after_keys = λ i h. omega arith; last = refl }

-- the form of these layouts, of which the layout is an argument
abbrev pub IsSortedOf : Layout → Words → Type 0
IsSortedOf k w = IsSorted (places k) (first_child k) w

pub form_is : (s : Sorted) (w : Words) → HasForm (layout_of s) w → IsSortedOf (layout_of s) w
form_is Four w form = form
form_is Sixteen w form = form

pub form_from : (s : Sorted) (w : Words) → IsSortedOf (layout_of s) w → HasForm (layout_of s) w
form_from Four w form = form
form_from Sixteen w form = form

pub child_is : (s : Sorted) (w : Words) (b : ℕ) → child_of (layout_of s) w b ≡ sorted_child (first_child (layout_of s)) w b
child_is Four w b = refl
child_is Sixteen w b = refl

-- ---- the entries that stand at the positions

abbrev pub entry_here : ℕ → Words → ℕ → Entry
entry_here first w i = record { byte = key_byte w i; child = w (first + i) }

some_child : (c : ℕ) → 0 < c → nonzero c ≡ Some c
some_child c some = rw (ne_eqb c 0 (λ e. omega arith)) refl

-- the first position with the byte gives its child
found : (first : ℕ) (w : Words) (from count b : ℕ) → ((i : ℕ) → from ≤ i → i < from + count → 0 < w (first + i))
    → option_and_then (λ i. nonzero (w (first + i))) (find (λ i. eqb (key_byte w i) b) (range_with_len from count)) ≡ lookup (map (entry_here first w) (range_with_len from count)) b
found first w from zero b some = refl
found first w from (suc count) b some =
    elim (cases_eq b (key_byte w from)) [
      | inl here ↦ rw (eq-eqb b (key_byte w from) here, eq-eqb (key_byte w from) b (sym here)) (some_child (w (first + from)) (some from (omega arith) (omega arith)))
      | inr apart ↦ rw (ne_eqb b (key_byte w from) apart, ne_eqb (key_byte w from) b (λ e. apart (sym e))) (found first w (from + 1) count b (λ i low high. some i (omega arith) (omega arith)))
    ]

Ascends-here : (first : ℕ) (w : Words) (from count low : ℕ) → ((i : ℕ) → from ≤ i → i < from + count → 0 < w (first + i))
    → ((i j : ℕ) → i < j → j < from + count → key_byte w i < key_byte w j) → ((i : ℕ) → from ≤ i → i < from + count → low ≤ key_byte w i)
    → Ascends low (map (entry_here first w) (range_with_len from count))
Ascends-here first w from zero low some ascends above = tt
Ascends-here first w from (suc count) low some ascends above = (
  above from (omega arith) (omega arith),
  packed_below w 10 from,
  some from (omega arith) (omega arith),
  Ascends-here first w (from + 1) count (key_byte w from + 1) (λ i l h. some i (omega arith) (omega arith)) (λ i j lt h. ascends i j lt (omega arith))
      (λ i l h. let less = ascends from i (omega arith) (omega arith) in omega (arith, less)),
)

-- the entries at the positions in use
abbrev pub entries_here : Layout → Words → List Entry
entries_here k w = map (entry_here (first_child k) w) (range_with_len 0 (count_of w))

pub ascends_here : (k : Layout) (w : Words) → IsSortedOf k w → Ascends 0 (entries_here k w)
ascends_here k w form =
    Ascends-here (first_child k) w 0 (count_of w) 0 (λ i l h. form.some i (omega arith)) (λ i j lt h. form.ascends i j lt (omega arith)) (λ i l h. omega arith)

pub child_here : (s : Sorted) (w : Words) (b : ℕ) → IsSortedOf (layout_of s) w → child_of (layout_of s) w b ≡ lookup (entries_here (layout_of s) w) b
child_here s w b form = child_is s w b ∙ found (first_child (layout_of s)) w 0 (count_of w) b (λ i l h. form.some i (omega arith))

-- the children, listed, are the entries at the positions
pub entries_is : (s : Sorted) (w : Words) → IsSortedOf (layout_of s) w → entries (layout_of s) w ≡ entries_here (layout_of s) w
entries_is s w form =
    same_listed (lookup (entries_here (layout_of s) w)) (child_of (layout_of s) w) 0 256 (λ b l h. child_here s w b form)
    ∙ listed-lookup 0 256 (entries_here (layout_of s) w) (ascends_here (layout_of s) w form) refl

-- ---- what a body says

pub ascends_body : (s : Sorted) (w : Words) → IsBody (layout_of s) w → Ascends 0 (entries (layout_of s) w)
ascends_body s w body =
    let form = form_is s w body.form in
    subst (Ascends 0) (sym (entries_is s w form)) (ascends_here (layout_of s) w form)

pub child_body : (s : Sorted) (w : Words) (b : ℕ) → IsBody (layout_of s) w → child_of (layout_of s) w b ≡ lookup (entries (layout_of s) w) b
child_body s w b body =
    let form = form_is s w body.form in
    child_here s w b form ∙ ap (λ (xs : List Entry). lookup xs b) (sym (entries_is s w form))

-- a body holds its own entries
pub holds_body : (s : Sorted) (w : Words) → IsBody (layout_of s) w → Holds (layout_of s) w (entries (layout_of s) w) w
holds_body s w body = subst (λ (xs : List Entry). Holds (layout_of s) w xs w) (sym (entries_is s w form)) (record {
  header = header;
  keys = keys;
  children = children;
  prefix = λ p l h. refl;
  outside = (refl, λ p h. refl);
})
  where
    form : IsSortedOf (layout_of s) w
    form = form_is s w body.form

    many : length (entries_here (layout_of s) w) ≡ count_of w
    many = length-map-range_with_len (entry_here (first_child (layout_of s)) w) 0 (count_of w)

    header : w 1 ≡ with_count (w 1) (length (entries_here (layout_of s) w))
    header = omega (arith, many)

    used : (i : ℕ) → i < count_of w → entry_here (first_child (layout_of s)) w i ≡ entry_or_none (entries_here (layout_of s) w) i
    used i h = sym (get_or-map-range_with_len (entry_here (first_child (layout_of s)) w) 0 (count_of w) i i no_entry h (omega arith))

    unused : (i : ℕ) → count_of w ≤ i → no_entry ≡ entry_or_none (entries_here (layout_of s) w) i
    unused i h = sym (get_or_past (entries_here (layout_of s) w) i no_entry (omega (arith, many)))

    keys : (i : ℕ) → i < 8 * (first_child (layout_of s) - 10) → key_byte w i ≡ (entry_or_none (entries_here (layout_of s) w) i).byte
    keys i h =
        elim (cases_lt i (count_of w)) [
          | inl here ↦ ap (λ (e : Entry). e.byte) (used i here)
          | inr past ↦ form.no_byte i past h ∙ ap (λ (e : Entry). e.byte) (unused i past)
        ]

    children : (i : ℕ) → i < places (layout_of s) → w (first_child (layout_of s) + i) ≡ (entry_or_none (entries_here (layout_of s) w) i).child
    children i h =
        elim (cases_lt i (count_of w)) [
          | inl here ↦ ap (λ (e : Entry). e.child) (used i here)
          | inr past ↦ form.no_child i past h ∙ ap (λ (e : Entry). e.child) (unused i past)
        ]

-- the entry at a position in use, and past the last one
pub entry_used : (s : Sorted) (w : Words) (i : ℕ) → IsBody (layout_of s) w → i < count_of w → entry_or_none (entries (layout_of s) w) i ≡ entry_here (first_child (layout_of s)) w i
entry_used s w i body h =
    ap (λ (xs : List Entry). entry_or_none xs i) (entries_is s w (form_is s w body.form))
    ∙ get_or-map-range_with_len (entry_here (first_child (layout_of s)) w) 0 (count_of w) i i no_entry h (omega arith)

pub entry_unused : (s : Sorted) (w : Words) (i : ℕ) → IsBody (layout_of s) w → count_of w ≤ i → entry_or_none (entries (layout_of s) w) i ≡ no_entry
entry_unused s w i body h = get_or_past (entries (layout_of s) w) i no_entry (omega (arith, body.counted))

-- ---- the words after a write

pub count_held : (k : Layout) (w after : Words) (xs : List Entry) → length xs ≤ 16 → Holds k w xs after → count_of after ≡ length xs
count_held k w after xs few holds = ap (λ (h : ℕ). h % 512) holds.header ∙ count-with_count (w 1) (length xs) (omega arith)

form_held : (s : Sorted) (w after : Words) (xs : List Entry) → w 1 < 2 ^ 16 → length xs ≤ places (layout_of s) → Ascends 0 xs → Holds (layout_of s) w xs after → IsSortedOf (layout_of s) after
form_held s w after xs small few ascends holds =
    let most : length xs ≤ 16 = omega (arith, (fits s).few) in
    let count = count_held (layout_of s) w after xs most holds in
    let below = with_count_below (w 1) (length xs) small (omega arith) in
    record {
      header = omega (arith, holds.header, below);
      few = omega (arith, count);
      ascends = λ i j lt h.
          let less = ascends_at 0 xs i j ascends lt (omega (arith, count)) in
          omega (arith, less, holds.keys i (omega (arith, count, (fits s).keys)), holds.keys j (omega (arith, count, (fits s).keys)));
      some = λ i h.
          let some = some_at 0 xs i ascends (omega (arith, count)) in
          omega (arith, some, holds.children i (omega (arith, count)));
      no_byte = λ i le h. holds.keys i h ∙ ap (λ (e : Entry). e.byte) (get_or_past xs i no_entry (omega (arith, count)));
      no_child = λ i le h. holds.children i h ∙ ap (λ (e : Entry). e.child) (get_or_past xs i no_entry (omega (arith, count)));
    }

here_held : (s : Sorted) (w after : Words) (xs : List Entry) → length xs ≤ places (layout_of s) → Holds (layout_of s) w xs after → entries_here (layout_of s) after ≡ xs
here_held s w after xs few holds =
    let count = count_held (layout_of s) w after xs (omega (arith, (fits s).few)) holds in
    sym (fill_by_all (entry_here (first_child (layout_of s)) after) xs (count_of after) no_entry (sym count) (λ i h.
    let within : i < places (layout_of s) = omega (arith, count) in
    λ j. record { byte = sym (holds.keys i (omega (arith, within, (fits s).keys))) j; child = sym (holds.children i within) j }))

same_range : {X : Type 0} (f g : ℕ → X) (from count : ℕ) → ((i : ℕ) → from ≤ i → i < from + count → f i ≡ g i) → map f (range_with_len from count) ≡ map g (range_with_len from count)
same_range f g from zero same = refl
same_range {X} f g from (suc count) same =
    let rest = same_range f g (from + 1) count (λ i low high. same i (omega arith) (omega arith)) in
    let here = same from (omega arith) (omega arith) in
    λ j. here j ∷ rest j

prefix_len_held : (k : Layout) (w after : Words) (xs : List Entry) → length xs ≤ 16 → Holds k w xs after → prefix_len after ≡ prefix_len w
prefix_len_held k w after xs few holds = ap (λ (h : ℕ). h / 512 % 128) holds.header ∙ prefix_len-with_count (w 1) (length xs) (omega arith)

byte_held : (k : Layout) (w after : Words) (xs : List Entry) (i : ℕ) → Holds k w xs after → i < 64 → packed after 2 i ≡ packed w 2 i
byte_held k w after xs i holds h = packed_same w after 2 i (holds.prefix (2 + i / 8) (omega arith) (omega arith))

has_prefix_held : (k : Layout) (w after : Words) (xs : List Entry) → length xs ≤ 16 → Holds k w xs after → HasPrefix w → HasPrefix after
has_prefix_held k w after xs few holds prefix =
    let same = prefix_len_held k w after xs few holds in
    record {
      short = omega (arith, same, prefix.short);
      unused = λ i low high. byte_held k w after xs i holds high ∙ prefix.unused i (omega (arith, same)) high;
    }

prefix_held : (k : Layout) (w after : Words) (xs : List Entry) → length xs ≤ 16 → Holds k w xs after → HasPrefix w → prefix_of after ≡ prefix_of w
prefix_held k w after xs few holds prefix =
    let same = prefix_len_held k w after xs few holds in
    ap (λ (n : ℕ). map (packed after 2) (range_with_len 0 n)) same
    ∙ same_range (packed after 2) (packed w 2) 0 (prefix_len w) (λ i low high. byte_held k w after xs i holds (omega (arith, prefix.short)))

pub becomes : (s : Sorted) (w after : Words) (xs : List Entry) (child : ℕ → Option ℕ) → IsBody (layout_of s) w → ((p : ℕ) → after p < 2 ^ 64)
    → length xs ≤ places (layout_of s) → Ascends 0 xs → ((b : ℕ) → lookup xs b ≡ child b) → Holds (layout_of s) w xs after → Becomes (layout_of s) w after child
becomes s w after xs child body words few ascends same holds =
    let most : length xs ≤ 16 = omega (arith, (fits s).few) in
    let form : IsSortedOf (layout_of s) after = form_held s w after xs (form_is s w body.form).header few ascends holds in
    let here = here_held s w after xs few holds in
    record {
      body = record {
        words = words;
        prefix = has_prefix_held (layout_of s) w after xs most holds body.prefix;
        form = form_from s after form;
        counted = count_held (layout_of s) w after xs most holds ∙ sym (ap (λ (ys : List Entry). length ys) (entries_is s after form ∙ here));
      };
      prefix = prefix_held (layout_of s) w after xs most holds body.prefix;
      children = λ b h. child_here s after b form ∙ ap (λ (ys : List Entry). lookup ys b) here ∙ same b;
    }

-- ---- one child more, another, and one less

pub add_becomes : (s : Sorted) (w after : Words) (i byte c : ℕ) → IsBody (layout_of s) w → child_of (layout_of s) w byte ≡ None → byte < 256 → 0 < c
    → IsPosition (entries (layout_of s) w) byte i → length (entries (layout_of s) w) ≢ places (layout_of s) → ((p : ℕ) → after p < 2 ^ 64)
    → Holds (layout_of s) w (insert (entries (layout_of s) w) i (record { byte = byte; child = c })) after
    → Becomes (layout_of s) w after (with_child (child_of (layout_of s) w) byte c)
add_becomes s w after i byte c body free small some at room words holds =
    let xs = entries (layout_of s) w in
    let form = form_is s w body.form in
    let more = length-insert xs i (record { byte = byte; child = c }) at.within in
    becomes s w after (insert xs i (record { byte = byte; child = c })) (with_child (child_of (layout_of s) w) byte c) body words
    (omega (arith, more, body.counted, form.few, room))
    (Ascends-insert 0 xs i byte c (ascends_body s w body) at.within at.before at.above (sym (child_body s w byte body) ∙ free) (omega arith) small some)
    (λ b. lookup-insert 0 xs i byte c b at.within at.before ∙ ap (λ (o : Option ℕ). cond (eqb b byte) (Some c) o) (sym (child_body s w b body)))
    holds

-- where a byte with a child stands
pub stands : (s : Sorted) (w : Words) (i byte c : ℕ) → IsBody (layout_of s) w → child_of (layout_of s) w byte ≡ Some c → IsPosition (entries (layout_of s) w) byte i
    → (i < length (entries (layout_of s) w)) × (byte ≡ (entry_or_none (entries (layout_of s) w) i).byte)
stands s w i byte c body there at =
    found_at 0 (entries (layout_of s) w) i byte c (ascends_body s w body) at.within at.before at.above (sym (child_body s w byte body) ∙ there)

-- the place of a child that a byte has is one of the cell
pub place_within : (s : Sorted) (w : Words) (i : ℕ) → IsBody (layout_of s) w → i < length (entries (layout_of s) w) → i < places (layout_of s)
place_within s w i body h = let form = form_is s w body.form in omega (arith, form.few, body.counted)

-- only one child word differs
pub record ChildDiffers (k : Layout) (w after : Words) (i c : ℕ) : Type 0 where
  pub here : after (first_child k + i) ≡ c
  pub elsewhere : (p : ℕ) → p ≢ first_child k + i → after p ≡ w p

holds_child : (s : Sorted) (w after : Words) (xs : List Entry) (i byte c : ℕ) → Holds (layout_of s) w xs w → i < length xs → i < places (layout_of s) → byte ≡ (entry_or_none xs i).byte → ChildDiffers (layout_of s) w after i c
    → Holds (layout_of s) w (set xs i (record { byte = byte; child = c })) after
holds_child s w after xs i byte c holds within place at differs = record {
  header = differs.elsewhere 1 (λ e. omega (arith, e, (fits s).low)) ∙ holds.header ∙ ap (with_count (w 1)) (sym (length-set xs i entry));
  keys = keys;
  children = children;
  prefix = λ p low high. differs.elsewhere p (λ e. omega (arith, e, (fits s).low));
  outside = (sym (differs.elsewhere 0 (λ e. omega (arith, e, (fits s).low))), λ p h. sym (differs.elsewhere p (λ e. omega (arith, e, (fits s).last))));
}
  where
    entry : Entry
    entry = record { byte = byte; child = c }

    keys : (j : ℕ) → j < 8 * (first_child (layout_of s) - 10) → key_byte after j ≡ (entry_or_none (set xs i (record { byte = byte; child = c })) j).byte
    keys j h =
        let same = packed_same w after 10 j (differs.elsewhere (10 + j / 8) (λ e. omega (arith, e, (fits s).after_keys j h))) in
        elim (cases_eq j i) [
          | inl here ↦ same ∙ holds.keys j h ∙ ap (λ (n : ℕ). (entry_or_none xs n).byte) here ∙ sym at ∙ sym (ap (λ (e : Entry). e.byte) (ap (entry_or_none (set xs i (record { byte = byte; child = c }))) here ∙ get_or-set_same xs i (record { byte = byte; child = c }) no_entry within))
          | inr apart ↦ same ∙ holds.keys j h ∙ sym (ap (λ (e : Entry). e.byte) (get_or-set_other xs i j (record { byte = byte; child = c }) no_entry apart))
        ]

    children : (j : ℕ) → j < places (layout_of s) → after (first_child (layout_of s) + j) ≡ (entry_or_none (set xs i (record { byte = byte; child = c })) j).child
    children j h =
        elim (cases_eq j i) [
          | inl here ↦ ap (λ (n : ℕ). after (first_child (layout_of s) + n)) here ∙ differs.here ∙ sym (ap (λ (e : Entry). e.child) (ap (entry_or_none (set xs i (record { byte = byte; child = c }))) here ∙ get_or-set_same xs i (record { byte = byte; child = c }) no_entry within))
          | inr apart ↦ differs.elsewhere (first_child (layout_of s) + j) (λ e. apart (omega (arith, e))) ∙ holds.children j h ∙ sym (ap (λ (e : Entry). e.child) (get_or-set_other xs i j (record { byte = byte; child = c }) no_entry apart))
        ]

pub set_becomes : (s : Sorted) (w after : Words) (i byte c d : ℕ) → IsBody (layout_of s) w → child_of (layout_of s) w byte ≡ Some d → 0 < c
    → IsPosition (entries (layout_of s) w) byte i → ((p : ℕ) → after p < 2 ^ 64) → ChildDiffers (layout_of s) w after i c
    → Becomes (layout_of s) w after (with_child (child_of (layout_of s) w) byte c)
set_becomes s w after i byte c d body there some at words differs =
    let xs = entries (layout_of s) w in
    let form = form_is s w body.form in
    let here = stands s w i byte d body there at in
    becomes s w after (set xs i (record { byte = byte; child = c })) (with_child (child_of (layout_of s) w) byte c) body words
    (omega (arith, length-set xs i (record { byte = byte; child = c }), body.counted, form.few))
    (Ascends-set 0 xs i byte c (ascends_body s w body) here.0 here.1 some)
    (λ b. lookup-set xs i byte c b here.0 at.before here.1 ∙ ap (λ (o : Option ℕ). cond (eqb b byte) (Some c) o) (sym (child_body s w b body)))
    (holds_child s w after xs i byte c (holds_body s w body) here.0 (place_within s w i body here.0) here.1 differs)

pub take_becomes : (s : Sorted) (w after : Words) (i byte d : ℕ) → IsBody (layout_of s) w → child_of (layout_of s) w byte ≡ Some d
    → IsPosition (entries (layout_of s) w) byte i → ((p : ℕ) → after p < 2 ^ 64) → Holds (layout_of s) w (remove (entries (layout_of s) w) i) after
    → Becomes (layout_of s) w after (without_child (child_of (layout_of s) w) byte)
take_becomes s w after i byte d body there at words holds =
    let xs = entries (layout_of s) w in
    let form = form_is s w body.form in
    let here = stands s w i byte d body there at in
    becomes s w after (remove xs i) (without_child (child_of (layout_of s) w) byte) body words
    (omega (arith, length-remove xs i here.0, body.counted, form.few))
    (Ascends-remove 0 xs i (ascends_body s w body))
    (λ b. lookup-remove 0 xs i byte b (ascends_body s w body) here.0 at.before here.1 ∙ ap (λ (o : Option ℕ). cond (eqb b byte) None o) (sym (child_body s w b body)))
    holds

-- ---- what a search found

entry_at_position : (k : Layout) (w : Words) (i : ℕ) → i < count_of w → entry_or_none (entries_here k w) i ≡ entry_here (first_child k) w i
entry_at_position k w i h = get_or-map-range_with_len (entry_here (first_child k) w) 0 (count_of w) i i no_entry h (omega arith)

-- the child at the position that was found
pub child_at : (s : Sorted) (w : Words) (byte index at : ℕ) → IsBody (layout_of s) w → IsFirstFrom w byte index at
    → child_of (layout_of s) w at ≡ Some (w (first_child (layout_of s) + index))
child_at s w byte index at body first =
    let form = form_is s w body.form in
    let many = length-map-range_with_len (entry_here (first_child (layout_of s)) w) 0 (count_of w) in
    let entry = entry_at_position (layout_of s) w index first.used in
    child_here s w at form
    ∙ ap (lookup (entries_here (layout_of s) w)) (first.here ∙ sym (ap (λ (e : Entry). e.byte) entry))
    ∙ lookup_at 0 (entries_here (layout_of s) w) index (ascends_here (layout_of s) w form) (omega (arith, many, first.used))
    ∙ ap (λ (e : Entry). Some e.child) entry

-- a byte that stands nowhere has no child
absent : (s : Sorted) (w : Words) (b : ℕ) → IsBody (layout_of s) w → ((i : ℕ) → i < count_of w → key_byte w i ≢ b) → child_of (layout_of s) w b ≡ None
absent s w b body other =
    let form = form_is s w body.form in
    let many = length-map-range_with_len (entry_here (first_child (layout_of s)) w) 0 (count_of w) in
    child_here s w b form
    ∙ lookup_none (entries_here (layout_of s) w) b (λ i h e.
    let used : i < count_of w = omega (arith, many) in
    other i used (sym (ap (λ (x : Entry). x.byte) (entry_at_position (layout_of s) w i used)) ∙ e))

-- no byte before the one that was found has a child
pub none_before : (s : Sorted) (w : Words) (byte index at : ℕ) → IsBody (layout_of s) w → IsFirstFrom w byte index at → NoneFrom (child_of (layout_of s) w) byte at
none_before s w byte index at body first b low high =
    absent s w b body (λ i used e. apart i used e (cases_order i index))
  where
    form : IsSortedOf (layout_of s) w
    form = form_is s w body.form

    apart : (i : ℕ) → i < count_of w → key_byte w i ≡ b → (i ≡ index) ⊎ ((i < index) ⊎ (index < i)) → ⊥
    apart i used e (inl here) = let same = ap (key_byte w) here in omega (arith, same, e, first.here)
    apart i used e (inr (inl before)) = let less = first.before i before in omega (arith, less, e)
    apart i used e (inr (inr after)) = let more = form.ascends index i after used in omega (arith, more, e, first.here)

-- where each byte is below one, none from there on has a child
pub none_past : (s : Sorted) (w : Words) (byte : ℕ) → IsBody (layout_of s) w → BelowAll w (count_of w) byte → NoneFrom (child_of (layout_of s) w) byte 256
none_past s w byte body below b low high = absent s w b body (λ i used e. let less = below i used in omega (arith, less, e))

-- ---- as the functions cite them

-- one entry more is listed
pub list_more : (first : ℕ) (w : Words) (index byte c : ℕ) (xs ys : List Entry) → xs ≡ map (entry_here first w) (range_with_len 0 index) → byte ≡ key_byte w index → c ≡ w (first + index)
    → ys ≡ xs ++ record { byte = byte; child = c } ∷ [] → ys ≡ map (entry_here first w) (range_with_len 0 (index + 1))
list_more first w index byte c xs ys so_far key child more =
    let entry : ◌≡◌ {A = Entry} (record { byte = byte; child = c }) (entry_here first w index) = λ j. record { byte = key j; child = child j } in
    more
    ∙ ap (λ (zs : List Entry). zs ++ record { byte = byte; child = c } ∷ []) so_far
    ∙ ap (λ (e : Entry). map (entry_here first w) (range_with_len 0 index) ++ e ∷ []) entry
    ∙ sym (map-range_with_len_more (entry_here first w) 0 index index (omega arith))

pub added : (s : Sorted) (w after : Words) (xs ys : List Entry) (i byte c : ℕ) → xs ≡ entries (layout_of s) w → IsBody (layout_of s) w → child_of (layout_of s) w byte ≡ None → byte < 256 → 0 < c
    → IsPosition (entries (layout_of s) w) byte i → length (entries (layout_of s) w) ≢ places (layout_of s) → ((p : ℕ) → after p < 2 ^ 64)
    → ys ≡ insert xs i (record { byte = byte; child = c }) → Holds (layout_of s) w ys after
    → Becomes (layout_of s) w after (with_child (child_of (layout_of s) w) byte c)
added s w after xs ys i byte c same body free small some at room words is holds =
    add_becomes s w after i byte c body free small some at room words
    (subst (λ (zs : List Entry). Holds (layout_of s) w zs after) (is ∙ ap (λ (zs : List Entry). insert zs i (record { byte = byte; child = c })) same) holds)

-- the list has room for one entry more
pub room_for : (s : Sorted) (w : Words) (xs : List Entry) → xs ≡ entries (layout_of s) w → IsBody (layout_of s) w → length xs ≤ places (layout_of s)
room_for s w xs same body =
    let form = form_is s w body.form in
    omega (arith, ap (λ (zs : List Entry). length zs) same, body.counted, form.few)

-- the position of a byte with a child is in use
pub in_use : (s : Sorted) (w : Words) (xs : List Entry) (i byte d : ℕ) → xs ≡ entries (layout_of s) w → IsBody (layout_of s) w → child_of (layout_of s) w byte ≡ Some d
    → IsPosition (entries (layout_of s) w) byte i → i < length xs
in_use s w xs i byte d same body there at =
    let here = stands s w i byte d body there at in
    omega (arith, here.0, ap (λ (zs : List Entry). length zs) same)

pub taken : (s : Sorted) (w after : Words) (xs ys : List Entry) (i byte d : ℕ) → xs ≡ entries (layout_of s) w → IsBody (layout_of s) w → child_of (layout_of s) w byte ≡ Some d
    → IsPosition (entries (layout_of s) w) byte i → ((p : ℕ) → after p < 2 ^ 64) → ys ≡ remove xs i → Holds (layout_of s) w ys after
    → Becomes (layout_of s) w after (without_child (child_of (layout_of s) w) byte)
taken s w after xs ys i byte d same body there at words is holds =
    take_becomes s w after i byte d body there at words
    (subst (λ (zs : List Entry). Holds (layout_of s) w zs after) (is ∙ ap (λ (zs : List Entry). remove zs i) same) holds)

-- a child word is written
child_differs : (k : Layout) (words : List ℕ) (i place c : ℕ) → place ≡ first_child k + i → place < length words → ChildDiffers k (λ p. get_or words p 0) (λ p. get_or (set words place c) p 0) i c
child_differs k words i place c at within = record {
  here = ap (λ (p : ℕ). get_or (set words place c) p 0) (sym at) ∙ get_or-set_same words place c 0 within;
  elsewhere = λ p apart. get_or-set_other words place p c 0 (λ e. apart (e ∙ at));
}

pub was_set : (s : Sorted) (words : List ℕ) (i byte place c d : ℕ) → IsBody (layout_of s) (λ p. get_or words p 0)
    → child_of (layout_of s) (λ p. get_or words p 0) byte ≡ Some d → 0 < c → IsPosition (entries (layout_of s) (λ p. get_or words p 0)) byte i → ((p : ℕ) → get_or (set words place c) p 0 < 2 ^ 64)
    → place ≡ first_child (layout_of s) + i → place < length words
    → Becomes (layout_of s) (λ p. get_or words p 0) (λ p. get_or (set words place c) p 0) (with_child (child_of (layout_of s) (λ p. get_or words p 0)) byte c)
was_set s words i byte place c d body there some at below is within =
    set_becomes s (λ p. get_or words p 0) (λ p. get_or (set words place c) p 0) i byte c d body there some at below
    (child_differs (layout_of s) words i place c is within)

pub set_outside_at : (s : Sorted) (words : List ℕ) (i place c : ℕ) → place ≡ first_child (layout_of s) + i → i < places (layout_of s) → SameOutside (layout_of s) (λ p. get_or words p 0) (λ p. get_or (set words place c) p 0)
set_outside_at s words i place c is h = (
  sym (get_or-set_other words place 0 c 0 (λ e. omega (arith, e, is, (fits s).low))),
  λ p out. sym (get_or-set_other words place p c 0 (λ e. omega (arith, e, is, (fits s).last))),
)

pub few_in_use : (s : Sorted) (w : Words) → IsBody (layout_of s) w → count_of w ≤ places (layout_of s)
few_in_use s w body = let form = form_is s w body.form in form.few

-- a child word that was read at the position that was found
pub child_read : (s : Sorted) (w : Words) (byte index at first_place c : ℕ) (reads : List (Option ℕ)) → IsBody (layout_of s) w → Agrees reads w → IsFirstFrom w byte index at
    → first_place ≡ first_child (layout_of s) → word_read reads (first_place + index) ≡ Some c → child_of (layout_of s) w at ≡ Some c
child_read s w byte index at first_place c reads body agrees first is read =
    child_at s w byte index at body first ∙ ap (λ (n : ℕ). Some (w (n + index))) (sym is) ∙ ap (λ (n : ℕ). Some n) (agrees (first_place + index) c read)

-- no child word of a body is 0
pub child_read_some : (s : Sorted) (w : Words) (byte index at first_place c : ℕ) (reads : List (Option ℕ)) → IsBody (layout_of s) w → Agrees reads w → IsFirstFrom w byte index at
    → first_place ≡ first_child (layout_of s) → word_read reads (first_place + index) ≡ Some c → 0 < c
child_read_some s w byte index at first_place c reads body agrees first is read =
    let form = form_is s w body.form in
    let same = ap (λ (n : ℕ). w (n + index)) is in
    omega (arith, form.some index first.used, same, agrees (first_place + index) c read)
