-- The children of a map in order, how many there are, and a body after one of them changes.
use Rattle.std.proofs.Common.{◌≡◌, ◌≢◌, ℕ, zero, suc, ◌+◌, ◌-◌, ◌^◌, ◌<◌, ◌≤◌, List, [], ◌∷◌, ◌++◌, length, Option, Some, None, refl, sym, ap, ◌∙◌, inl, inr, arith, eq-eqb, ne_eqb, add-one, append-nil, append_assoc, get_or, take, length-take}
use Rattle.std.proofs.lemmas.Bool.{cases_lt, cases_order}
use Rattle.std.proofs.lemmas.List.Elements.{filter_map-append}
use Rattle.std.specs.List.{cons_option, filter_map, range_with_len}
use Rattle.std.specs.Option.{option_map}
use Rattle.art_cell.specs.declared.cells.Layout.{Layout}
use Rattle.art_cell.specs.declared.node_kinds.Entry.{Entry}
use Rattle.art_cell.specs.Words.{Words, count_of, nonzero, child_of, entry_at, listed, nth_entry}
use Rattle.art_cell.specs.Bodies.{HasForm, IsBody, Becomes}
use Rattle.art_cell.specs.Lemmas.Differing.{range_both}
use Rattle.art_cell.specs.Lemmas.Headers.{SamePrefix, prefix_kept, same_prefix_of}
use Rattle.art_cell.specs.Reads.{NoneFrom, with_child, without_child}

-- the same child for each of the bytes
abbrev pub SameFrom : (ℕ → Option ℕ) → (ℕ → Option ℕ) → ℕ → ℕ → Type 0
SameFrom child other from count = (b : ℕ) → from ≤ b → b < from + count → other b ≡ child b

-- the same child for each of the bytes but one
abbrev pub SameBut : ℕ → (ℕ → Option ℕ) → (ℕ → Option ℕ) → ℕ → ℕ → Type 0
SameBut byte child other from count = (b : ℕ) → from ≤ b → b < from + count → b ≢ byte → other b ≡ child b

-- a map with one entry more, or less, is the same at the other bytes
pub with_here : (child : ℕ → Option ℕ) (byte c : ℕ) → with_child child byte c byte ≡ Some c
with_here child byte c = rw (eq-eqb byte byte refl) refl

pub with_elsewhere : (child : ℕ → Option ℕ) (byte c from count : ℕ) → SameBut byte child (with_child child byte c) from count
with_elsewhere child byte c from count b low high apart = rw (ne_eqb b byte apart) refl

pub without_here : (child : ℕ → Option ℕ) (byte : ℕ) → without_child child byte byte ≡ None
without_here child byte = rw (eq-eqb byte byte refl) refl

pub without_elsewhere : (child : ℕ → Option ℕ) (byte from count : ℕ) → SameBut byte child (without_child child byte) from count
without_elsewhere child byte from count b low high apart = rw (ne_eqb b byte apart) refl

-- the entry of a byte with this child
abbrev entry_of : ℕ → Option ℕ → Option Entry
entry_of b o = option_map (λ c. record { byte = b; child = c }) o

-- ---- one entry more, less, or another

front_same : (child other : ℕ → Option ℕ) (b : ℕ) (xs ys : List Entry) → other b ≡ child b → ys ≡ xs → cons_option (entry_at other b) ys ≡ cons_option (entry_at child b) xs
front_same child other b xs ys here rest = ap (λ (o : Option ℕ). cons_option (entry_of b o) ys) here ∙ ap (cons_option (entry_at child b)) rest

pub same_listed : (child other : ℕ → Option ℕ) (from count : ℕ) → SameFrom child other from count → listed other from count ≡ listed child from count
same_listed child other from zero same = refl
same_listed child other from (suc count) same =
    front_same child other from (listed child (from + 1) count) (listed other (from + 1) count) (same from (omega arith) (omega arith))
    (same_listed child other (from + 1) count (λ b low high. same b (omega arith) (omega arith)))

length-front : (b c : ℕ) (o : Option ℕ) (xs : List Entry) → o ≡ Some c → length (cons_option (entry_of b o) xs) ≡ suc (length xs)
length-front b c None xs e = absurd cc
length-front b c (Some d) xs e = refl

length-no_front : (b : ℕ) (o : Option ℕ) (xs : List Entry) → o ≡ None → length (cons_option (entry_of b o) xs) ≡ length xs
length-no_front b None xs e = refl
length-no_front b (Some d) xs e = absurd cc

-- a child where the byte had none is one entry more
pub one_more_listed : (child other : ℕ → Option ℕ) (byte c from count : ℕ) → from ≤ byte → byte < from + count → child byte ≡ None → other byte ≡ Some c → SameBut byte child other from count
    → length (listed other from count) ≡ suc (length (listed child from count))
one_more_listed child other byte c from zero low high was is same = absurd (omega arith)
one_more_listed child other byte c from (suc count) low high was is same =
    elim (cases_order from byte) [
      | inl here ↦
          let rest : listed other (from + 1) count ≡ listed child (from + 1) count = same_listed child other (from + 1) count (λ b low high. same b (omega arith) (omega arith) (λ e. omega arith)) in
          length-front from c (other from) (listed other (from + 1) count) (ap other here ∙ is)
          ∙ ap (λ (xs : List Entry). suc (length xs)) rest
          ∙ sym (ap suc (length-no_front from (child from) (listed child (from + 1) count) (ap child here ∙ was)))
      | inr apart ↦
          let past : from + 1 ≤ byte = elim apart [
            | inl lt ↦ omega arith
            | inr gt ↦ absurd (omega arith)
          ] in
          let more = one_more_listed child other byte c (from + 1) count past (omega arith) was is (λ b low high. same b (omega arith) (omega arith)) in
          same_front (child from) (other from) (same from (omega arith) (omega arith) (λ e. omega arith)) more
    ]
  where
    same_front : (o p : Option ℕ) → p ≡ o → length (listed other (from + 1) count) ≡ suc (length (listed child (from + 1) count))
        → length (cons_option (entry_of from p) (listed other (from + 1) count)) ≡ suc (length (cons_option (entry_of from o) (listed child (from + 1) count)))
    same_front None None e more = more
    same_front None (Some d) e more = absurd cc
    same_front (Some d) None e more = absurd cc
    same_front (Some d) (Some f) e more = ap suc more

-- another child for a byte that has one changes no number
pub as_many_listed : (child other : ℕ → Option ℕ) (byte c d from count : ℕ) → from ≤ byte → byte < from + count → child byte ≡ Some c → other byte ≡ Some d → SameBut byte child other from count
    → length (listed other from count) ≡ length (listed child from count)
as_many_listed child other byte c d from count low high was is same =
    let gone = without_child child byte in
    let more = one_more_listed gone child byte c from count low high (without_here child byte) was (λ b l h apart. sym (without_elsewhere child byte from count b l h apart)) in
    let other_more = one_more_listed gone other byte d from count low high (without_here child byte) is (λ b l h apart. same b l h apart ∙ sym (without_elsewhere child byte from count b l h apart)) in
    other_more ∙ sym more

-- the child of a byte gone is one entry less
pub one_less_listed : (child other : ℕ → Option ℕ) (byte c from count : ℕ) → from ≤ byte → byte < from + count → child byte ≡ Some c → other byte ≡ None → SameBut byte child other from count
    → suc (length (listed other from count)) ≡ length (listed child from count)
one_less_listed child other byte c from count low high was is same =
    sym (one_more_listed other child byte c from count low high is was (λ b l h apart. sym (same b l h apart)))

-- ---- the children of one byte more

cons_option-append : (o : Option Entry) (xs ys : List Entry) → cons_option o (xs ++ ys) ≡ cons_option o xs ++ ys
cons_option-append None xs ys = refl
cons_option-append (Some x) xs ys = refl

listed_more : (child : ℕ → Option ℕ) (from count b : ℕ) → from + count ≡ b → listed child from (suc count) ≡ listed child from count ++ cons_option (entry_at child b) []
listed_more child from zero b e = ap (λ (n : ℕ). cons_option (entry_at child n) []) (omega arith)
listed_more child from (suc count) b e =
    ap (cons_option (entry_at child from)) (listed_more child (from + 1) count b (omega arith))
    ∙ cons_option-append (entry_at child from) (listed child (from + 1) count) (cons_option (entry_at child b) [])

pub listed_with : (child : ℕ → Option ℕ) (from count b c : ℕ) → from + count ≡ b → child b ≡ Some c → listed child from (count + 1) ≡ listed child from count ++ record { byte = b; child = c } ∷ []
listed_with child from count b c e is =
    ap (listed child from) (add-one count) ∙ listed_more child from count b e ∙ ap (λ (o : Option ℕ). listed child from count ++ cons_option (entry_of b o) []) is

pub listed_without : (child : ℕ → Option ℕ) (from count b : ℕ) → from + count ≡ b → child b ≡ None → listed child from (count + 1) ≡ listed child from count
listed_without child from count b e is =
    ap (listed child from) (add-one count) ∙ listed_more child from count b e ∙ ap (λ (o : Option ℕ). listed child from count ++ cons_option (entry_of b o) []) is ∙ append-nil (listed child from count)

pub listed_none : (child : ℕ → Option ℕ) (from count : ℕ) → NoneFrom child from (from + count) → listed child from count ≡ []
listed_none child from zero none = refl
listed_none child from (suc count) none =
    ap (λ (o : Option ℕ). cons_option (entry_of from o) (listed child (from + 1) count)) (none from (omega arith) (omega arith))
    ∙ listed_none child (from + 1) count (λ b low high. none b (omega arith) (omega arith))

-- ---- how many children so many bytes can have

length-cons_option : (o : Option Entry) (xs : List Entry) → length (cons_option o xs) ≤ suc (length xs)
length-cons_option None xs = omega arith
length-cons_option (Some x) xs = omega arith

pub listed_at_most : (child : ℕ → Option ℕ) (from count : ℕ) → length (listed child from count) ≤ count
listed_at_most child from zero = omega arith
listed_at_most child from (suc count) = omega (arith, length-cons_option (entry_at child from) (listed child (from + 1) count), listed_at_most child (from + 1) count)

-- a byte with no child leaves room
pub listed_room : (child : ℕ → Option ℕ) (byte from count : ℕ) → from ≤ byte → byte < from + count → child byte ≡ None → length (listed child from count) < count
listed_room child byte from count low high free =
    let more = one_more_listed child (with_child child byte 0) byte 0 from count low high free (with_here child byte 0) (with_elsewhere child byte 0 from count) in
    omega (arith, more, listed_at_most (with_child child byte 0) from count)

-- a byte with a child is one at least
pub listed_some : (child : ℕ → Option ℕ) (byte c from count : ℕ) → from ≤ byte → byte < from + count → child byte ≡ Some c → 0 < length (listed child from count)
listed_some child byte c from count low high is =
    let less = one_less_listed child (without_child child byte) byte c from count low high is (without_here child byte) (without_elsewhere child byte from count) in
    omega (arith, less)

-- ---- the least entry, in a loop

pub none_from_more : (child : ℕ → Option ℕ) (low high next : ℕ) → next ≤ high + 1 → NoneFrom child low high → child high ≡ None → NoneFrom child low next
none_from_more child low high next e before here b above below =
    elim (cases_lt b high) [
      | inl lt ↦ before b above lt
      | inr ge ↦ ap child (omega arith) ∙ here
    ]

-- ---- a body after a change of one child

pub nonzero_some : (c : ℕ) → 0 < c → nonzero c ≡ Some c
nonzero_some c some = rw (ne_eqb c 0 (λ e. omega arith)) refl

-- all that a change keeps and makes, but the count
pub record Changed (k : Layout) (w after : Words) (child : ℕ → Option ℕ) : Type 0 where
  pub words : (p : ℕ) → after p < 2 ^ 64
  pub prefix : SamePrefix w after
  pub form : HasForm k after
  pub children : (b : ℕ) → b < 256 → child_of k after b ≡ child b

becomes : (k : Layout) (w after : Words) (child : ℕ → Option ℕ) → IsBody k w → Changed k w after child → count_of after ≡ length (listed child 0 256) → Becomes k w after child
becomes k w after child body changed counted = record {
  body = record {
    words = changed.words;
    prefix = prefix_kept w after changed.prefix body.prefix;
    form = changed.form;
    counted = counted ∙ ap length (sym (same_listed child (child_of k after) 0 256 (λ b low high. changed.children b high)));
  };
  prefix = same_prefix_of w after changed.prefix body.prefix;
  children = changed.children;
}

pub becomes_with : (k : Layout) (w after : Words) (byte c : ℕ) → byte < 256 → child_of k w byte ≡ None → IsBody k w → count_of after ≡ count_of w + 1 → Changed k w after (with_child (child_of k w) byte c)
    → Becomes k w after (with_child (child_of k w) byte c)
becomes_with k w after byte c low free body count changed =
    let child = child_of k w in
    let more = one_more_listed child (with_child child byte c) byte c 0 256 (omega arith) low free (with_here child byte c) (with_elsewhere child byte c 0 256) in
    becomes k w after (with_child child byte c) body changed (count ∙ omega (arith, body.counted) ∙ sym more)

pub becomes_other : (k : Layout) (w after : Words) (byte c d : ℕ) → byte < 256 → child_of k w byte ≡ Some c → IsBody k w → count_of after ≡ count_of w → Changed k w after (with_child (child_of k w) byte d)
    → Becomes k w after (with_child (child_of k w) byte d)
becomes_other k w after byte c d low is body count changed =
    let child = child_of k w in
    let same = as_many_listed child (with_child child byte d) byte c d 0 256 (omega arith) low is (with_here child byte d) (with_elsewhere child byte d 0 256) in
    becomes k w after (with_child child byte d) body changed (count ∙ body.counted ∙ sym same)

pub becomes_without : (k : Layout) (w after : Words) (byte c : ℕ) → byte < 256 → child_of k w byte ≡ Some c → IsBody k w → count_of after + 1 ≡ count_of w → Changed k w after (without_child (child_of k w) byte)
    → Becomes k w after (without_child (child_of k w) byte)
becomes_without k w after byte c low is body count changed =
    let child = child_of k w in
    let less = one_less_listed child (without_child child byte) byte c 0 256 (omega arith) low is (without_here child byte) (without_elsewhere child byte 0 256) in
    becomes k w after (without_child child byte) body changed (omega (arith, body.counted, less))

-- ---- the children one after another

listed_both : (child : ℕ → Option ℕ) (from m n : ℕ) → listed child from (m + n) ≡ listed child from m ++ listed child (from + m) n
listed_both child from m n =
    ap (filter_map (entry_at child)) (range_both from m n) ∙ filter_map-append (entry_at child) (range_with_len from m) (range_with_len (from + m) n)

at_seam : (xs ys : List Entry) (y d : Entry) → get_or (xs ++ y ∷ ys) (length xs) d ≡ y
at_seam [] ys y d = refl
at_seam (x ∷ xs) ys y d = at_seam xs ys y d

-- where the children before an index are those below a byte, and the byte has a child, this is the one at the index
pub nth_listed : (child : ℕ → Option ℕ) (byte c index : ℕ) → byte < 256 → child byte ≡ Some c → listed child 0 byte ≡ take index (listed child 0 256) → index < length (listed child 0 256)
    → record { byte = byte; child = c } ≡ nth_entry (listed child 0 256) index
nth_listed child byte c index low is before there =
    let entry : Entry = record { byte = byte; child = c } in
    let count : byte + 1 + (255 - byte) ≡ 256 = omega arith in
    let many : length (listed child 0 byte) ≡ index = ap length before ∙ length-take index (listed child 0 256) ∙ omega arith in
    let all : listed child 0 256 ≡ listed child 0 byte ++ entry ∷ listed child (0 + (byte + 1)) (255 - byte) =
    ap (listed child 0) (sym count)
    ∙ listed_both child 0 (byte + 1) (255 - byte)
    ∙ ap (λ (es : List Entry). es ++ listed child (0 + (byte + 1)) (255 - byte)) (listed_with child 0 byte byte c (omega arith) is)
    ∙ append_assoc (listed child 0 byte) (entry ∷ []) (listed child (0 + (byte + 1)) (255 - byte)) in
    sym (ap (λ (es : List Entry). nth_entry es index) all
    ∙ ap (nth_entry (listed child 0 byte ++ entry ∷ listed child (0 + (byte + 1)) (255 - byte))) (sym many)
    ∙ at_seam (listed child 0 byte) (listed child (0 + (byte + 1)) (255 - byte)) entry (record { byte = 0; child = 0 }))

-- and where they are all that there are, there is none at the index
pub no_nth_listed : (child : ℕ → Option ℕ) (index : ℕ) → listed child 0 256 ≡ take index (listed child 0 256) → ¬ (index < length (listed child 0 256))
no_nth_listed child index before there =
    let many : length (listed child 0 256) ≡ index = ap length before ∙ length-take index (listed child 0 256) ∙ omega arith in
    omega arith
