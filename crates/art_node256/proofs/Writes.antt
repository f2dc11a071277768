-- What the words mean after the child word of a byte, and the header, were written.
use Rattle.std.proofs.Common.{◌≡◌, ◌≢◌, ◌⊎◌, ℕ, zero, suc, [], ◌∷◌, ◌+◌, ◌-◌, ◌/◌, ◌%◌, ◌^◌, ◌<◌, ◌≤◌, List, length, set, get_or, cond, eqb, Option, Some, None, refl, sym, ap, subst, ◌∙◌, inl, inr, arith, eq-eqb, ne_eqb, get_or-set_same, get_or-set_other, length-set}
use Rattle.std.proofs.lemmas.Bool.{cases_eq}
use Rattle.art_cell.specs.declared.cells.Layout.TheVariants.{Node256}
use Rattle.art_cell.specs.Words.{Words, nonzero, child_of}
use Rattle.art_cell.specs.Bodies.{IsBody, Becomes}
use Rattle.art_cell.specs.Reads.{IsPlan, SameOutside, changes, most_writes, with_child, without_child, written}
use Rattle.art_cell.specs.Lemmas.Differing.{after_prefix, differing_most, differing_one, exact_changes, one_differs}
use Rattle.art_cell.specs.declared.cells.Write.{Write}
use Rattle.art_node256.specs.Changes.{both_words, child_words}
use Rattle.art_cell.specs.Lemmas.Headers.{KeepsRest, count_more, count_less, prefix_len_kept, header_below}
use Rattle.art_cell.specs.Lemmas.Entries.{Changed, listed_room, listed_some, nonzero_some, becomes_with, becomes_other, becomes_without}

-- the child word of a byte and the header were written, and no other word
pub record IsWritten (w after : Words) (byte c header : ℕ) : Type 0 where
  pub here : after (10 + byte) ≡ c
  pub head : after 1 ≡ header
  pub others : (p : ℕ) → p ≢ 10 + byte → p ≢ 1 → after p ≡ w p

abbrev words_of : List ℕ → Words
words_of ws p = get_or ws p 0

pub written_child : (ws : List ℕ) (place byte c : ℕ) → place ≡ 10 + byte → place < length ws → IsWritten (words_of ws) (words_of (set ws place c)) byte c (get_or ws 1 0)
written_child ws place byte c at within = record {
  here = subst (λ (p : ℕ). get_or (set ws place c) p 0 ≡ c) at (get_or-set_same ws place c 0 within);
  head = get_or-set_other ws place 1 c 0 (λ e. omega arith);
  others = λ p apart other. get_or-set_other ws place p c 0 (λ e. apart (e ∙ at));
}

pub written_both : (ws : List ℕ) (place byte c header : ℕ) → place ≡ 10 + byte → place < length ws → IsWritten (words_of ws) (words_of (set (set ws 1 header) place c)) byte c header
written_both ws place byte c header at within =
    let last = written_child (set ws 1 header) place byte c at (omega (arith, length-set ws 1 header)) in
    record {
      here = last.here;
      head = last.head ∙ get_or-set_same ws 1 header 0 (omega arith);
      others = λ p apart other. last.others p apart other ∙ get_or-set_other ws 1 p header 0 other;
    }

-- the children after it, where `o` is what the new child word names
abbrev child_or : Words → ℕ → Option ℕ → ℕ → Option ℕ
child_or w byte o b = cond (eqb b byte) o (nonzero (w (10 + b)))

children_after : (w after : Words) (byte c header : ℕ) (o : Option ℕ) → nonzero c ≡ o → IsWritten w after byte c header → (b : ℕ) → nonzero (after (10 + b)) ≡ child_or w byte o b
children_after w after byte c header o names written b =
    elim (cases_eq b byte) [
      | inl e ↦ rw (eq-eqb b byte e) (ap (λ (n : ℕ). nonzero (after (10 + n))) e ∙ ap nonzero written.here ∙ names)
      | inr apart ↦ rw (ne_eqb b byte apart) (ap nonzero (written.others (10 + b) (λ e. apart (omega arith)) (λ e. omega arith)))
    ]

changed : (w after : Words) (byte c header : ℕ) (o : Option ℕ) → nonzero c ≡ o → c < 2 ^ 64 → IsBody Node256 w → KeepsRest (w 1) header → IsWritten w after byte c header → Changed Node256 w after (child_or w byte o)
changed w after byte c header o names low body kept written = record {
  words = words;
  prefix = record {
    len = prefix_len_kept (w 1) (after 1) kept_after;
    words = λ place first last. written.others place (λ e. omega arith) (λ e. omega arith);
  };
  form = small;
  children = λ b within. children_after w after byte c header o names written b;
}
  where
    kept_after : KeepsRest (w 1) (after 1)
    kept_after = ap (λ (h : ℕ). h / 512) written.head ∙ kept

    small : after 1 < 2 ^ 16
    small = header_below (w 1) (after 1) 128 kept_after body.form

    words : (p : ℕ) → after p < 2 ^ 64
    words p =
        elim (cases_eq p (10 + byte)) [
          | inl e ↦ omega (arith, ap after e, written.here)
          | inr apart ↦
              elim (cases_eq p 1) [
                | inl e ↦ omega (arith, ap after e, small)
                | inr other ↦ omega (arith, written.others p apart other, body.words p)
              ]
        ]

-- a free byte means that the node is not full, and a byte with a child that it has one
pub free_room : (w : Words) (byte : ℕ) → byte < 256 → IsBody Node256 w → child_of Node256 w byte ≡ None → w 1 % 512 < 256
free_room w byte low body free = omega (arith, body.counted, listed_room (child_of Node256 w) byte 0 256 (omega arith) low free)

pub taken_some : (w : Words) (byte c : ℕ) → byte < 256 → IsBody Node256 w → child_of Node256 w byte ≡ Some c → 0 < w 1 % 512
taken_some w byte c low body is = omega (arith, body.counted, listed_some (child_of Node256 w) byte c 0 256 (omega arith) low is)

pub added : (w after : Words) (byte c : ℕ) → byte < 256 → 0 < c → c < 2 ^ 64 → IsBody Node256 w → child_of Node256 w byte ≡ None → IsWritten w after byte c (w 1 + 1) → Becomes Node256 w after (with_child (child_of Node256 w) byte c)
added w after byte c low some fits body free written =
    let count = count_more (w 1) (w 1 + 1) refl (omega (arith, free_room w byte low body free)) in
    becomes_with Node256 w after byte c low free body (ap (λ (h : ℕ). h % 512) written.head ∙ count.0) (changed w after byte c (w 1 + 1) (Some c) (nonzero_some c some) fits body count.1 written)

pub replaced : (w after : Words) (byte c : ℕ) → byte < 256 → 0 < c → c < 2 ^ 64 → IsBody Node256 w → (d : ℕ) × (child_of Node256 w byte ≡ Some d) → IsWritten w after byte c (w 1) → Becomes Node256 w after (with_child (child_of Node256 w) byte c)
replaced w after byte c low some fits body there written =
    becomes_other Node256 w after byte there.0 c low there.1 body (ap (λ (h : ℕ). h % 512) written.head) (changed w after byte c (w 1) (Some c) (nonzero_some c some) fits body refl written)

pub removed : (w after : Words) (byte : ℕ) → byte < 256 → IsBody Node256 w → (d : ℕ) × (child_of Node256 w byte ≡ Some d) → IsWritten w after byte 0 (w 1 - 1) → Becomes Node256 w after (without_child (child_of Node256 w) byte)
removed w after byte low body there written =
    let some = taken_some w byte there.0 low body there.1 in
    let count = count_less (w 1) (w 1 - 1) (omega arith) some in
    becomes_without Node256 w after byte there.0 low there.1 body (ap (λ (h : ℕ). h % 512 + 1) written.head ∙ count.0) (changed w after byte 0 (w 1 - 1) None refl (omega arith) body count.1 written)

-- ---- how many words differ

-- the header and a child word at most
pub few_written : (w after : Words) (byte c header : ℕ) → IsWritten w after byte c header → length (changes Node256 w after) ≤ most_writes
few_written w after byte c header written =
    let all = after_prefix w after Node256 0 256 refl (λ p low high. sym (written.others p (λ e. omega arith) (λ e. omega arith))) in
    let keys = differing_most w after 10 0 in
    let children = differing_one w after (10 + byte) 10 256 (λ p low high apart. sym (written.others p apart (λ e. omega arith))) in
    omega arith

-- a child word alone, where the header is as it was
pub one_written : (w after : Words) (byte c : ℕ) → IsWritten w after byte c (w 1) → length (changes Node256 w after) ≤ 1
one_written w after byte c written = one_differs w after Node256 (10 + byte) (λ p some within apart. same p apart (cases_eq p 1))
  where
    same : (p : ℕ) → p ≢ 10 + byte → (p ≡ 1) ⊎ (p ≢ 1) → w p ≡ after p
    same p apart (inl first) = ap w first ∙ sym written.head ∙ ap after (sym first)
    same p apart (inr later) = sym (written.others p apart later)

-- ---- plans

-- after the two writes
pub both_written : (w : Words) (byte c header : ℕ) → IsWritten w (written w (both_words header byte c)) byte c header
both_written w byte c header = record {
  here = rw (ne_eqb 1 (10 + byte) (λ e. omega arith), eq-eqb (10 + byte) (10 + byte) refl) refl;
  head = refl;
  others = λ p apart other. rw (ne_eqb 1 p (λ e. other (sym e)), ne_eqb (10 + byte) p (λ e. apart (sym e))) refl;
}

-- they are the words that differ, and lie within the cell
pub both_exact : (w : Words) (byte c header : ℕ) → byte < 256 → w 1 ≢ header → w (10 + byte) ≢ c → both_words header byte c ≡ changes Node256 w (written w (both_words header byte c))
both_exact w byte c header low more other =
    let after : Words = written w (both_words header byte c) in
    let is = both_written w byte c header in
    exact_changes w after Node256 (both_words header byte c) (
      omega arith,
      omega arith,
      sym is.head,
      (λ e. more (e ∙ is.head)),
      (λ p first before. absurd (omega (arith, first, before))),
      (
        omega arith,
        omega (arith, low),
        sym is.here,
        (λ e. other (e ∙ is.here)),
        (λ p first before. sym (is.others p (λ e. omega (arith, e, before)) (λ e. omega (arith, e, first)))),
        (λ p first before. sym (is.others p (λ e. omega (arith, e, first)) (λ e. omega (arith, e, first)))),
      ),
    )

pub both_outside : (w : Words) (byte c header : ℕ) → byte < 256 → SameOutside Node256 w (written w (both_words header byte c))
both_outside w byte c header low =
    let is = both_written w byte c header in
    (sym (is.others 0 (λ e. omega (arith, e)) (λ e. omega (arith, e))), λ p past. sym (is.others p (λ e. omega (arith, e, past, low)) (λ e. omega (arith, e, past))))

-- a byte with no child has the word 0, and one with a child another
pub free_word : (w : Words) (byte : ℕ) → child_of Node256 w byte ≡ None → w (10 + byte) ≡ 0
free_word w byte free = by_word (w (10 + byte)) free
  where
    by_word : (n : ℕ) → nonzero n ≡ None → n ≡ 0
    by_word zero is = refl
    by_word (suc n) is = let no : None ≡ Some (suc n) = sym is ∙ nonzero_some (suc n) (omega arith) in cc

pub some_word : (w : Words) (byte d : ℕ) → child_of Node256 w byte ≡ Some d → 0 < w (10 + byte)
some_word w byte d there = by_word (w (10 + byte)) there
  where
    by_word : (n : ℕ) → nonzero n ≡ Some d → 0 < n
    by_word zero is = cc
    by_word (suc n) is = omega arith

-- another child word alone, or the one that it had
module _ (w : Words) (byte c : ℕ) (low : byte < 256) (some : 0 < c) (fits : c < 2 ^ 64) (body : IsBody Node256 w) (there : (d : ℕ) × (child_of Node256 w byte ≡ Some d)) where
  same_child : w (10 + byte) ≡ c → IsPlan Node256 w [] (with_child (child_of Node256 w) byte c)
  same_child same = record {
    becomes = replaced w w byte c low some fits body there (record { here = same; head = refl; others = λ p apart other. refl });
    exact = exact_changes w w Node256 [] (λ p first before. refl);
    outside = (refl, λ p past. refl);
  }

  other_child : w (10 + byte) ≢ c → IsPlan Node256 w (record { place = 10 + byte; value = c } ∷ []) (with_child (child_of Node256 w) byte c)
  other_child other =
      let one : List Write = record { place = 10 + byte; value = c } ∷ [] in
      let is : IsWritten w (written w one) byte c (w 1) = record {
        here = rw (eq-eqb (10 + byte) (10 + byte) refl) refl;
        head = rw (ne_eqb (10 + byte) 1 (λ e. omega (arith, e))) refl;
        others = λ p apart second. rw (ne_eqb (10 + byte) p (λ e. apart (sym e))) refl;
      } in
      let same : (p : ℕ) → p ≢ 10 + byte → w p ≡ written w one p = λ p apart. rw (ne_eqb (10 + byte) p (λ e. apart (sym e))) refl in
      record {
        becomes = replaced w (written w one) byte c low some fits body there is;
        exact = exact_changes w (written w one) Node256 one (
          omega arith,
          omega (arith, low),
          sym is.here,
          (λ e. other (e ∙ is.here)),
          (λ p first before. same p (λ e. omega (arith, e, before))),
          (λ p first before. same p (λ e. omega (arith, e, first))),
        );
        outside = (same 0 (λ e. omega (arith, e)), λ p past. same p (λ e. omega (arith, e, past, low)));
      }

  pub child_plan : IsPlan Node256 w (child_words (w (10 + byte)) byte c) (with_child (child_of Node256 w) byte c)
  child_plan = elim (cases_eq (w (10 + byte)) c) [
    | inl same ↦ rw (eq-eqb (w (10 + byte)) c same) (same_child same)
    | inr other ↦ rw (ne_eqb (w (10 + byte)) c other) (other_child other)
  ]
