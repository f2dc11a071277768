-- The words that a change of one child writes are just those that differ.
use Rattle.std.proofs.Common.{◌≡◌, ◌≢◌, ℕ, suc, ◌+◌, ◌/◌, ◌%◌, ◌^◌, ◌<◌, ◌≤◌, List, [], ◌∷◌, Some, refl, sym, subst, ap, ◌∙◌, inl, inr, arith, eq-eqb, ne_eqb}
use Rattle.std.proofs.lemmas.Bool.{cases_eq}
use Rattle.art_cell.specs.declared.cells.Layout.TheVariants.{Node48}
use Rattle.art_cell.specs.declared.cells.Write.{Write}
use Rattle.art_cell.specs.Lemmas.Differing.{exact_changes}
use Rattle.art_cell.specs.Lemmas.Packed.{with_byte}
use Rattle.art_cell.specs.Bodies.{IsBody}
use Rattle.art_cell.specs.Reads.{IsPlan, SameOutside, changes, with_child, written}
use Rattle.art_cell.specs.Words.{Words, byte_of, indexed_child, key_byte}
use Rattle.art_node48.specs.Changes.{Wrote, child_words, three_words}
use Rattle.art_node48.proofs.Index.{key_byte_is}
use Rattle.art_node48.proofs.Steps.{Stands, becomes_set}
use Rattle.art_node48.proofs.Writes.{Three, wrote_three}

module _ (w : Words) (header byte entry place child : ℕ) (low : byte < 256) (within : place < 48) where
  abbrev at : ℕ
  at = 10 + byte / 8

  abbrev word : ℕ
  word = with_byte (w at) (byte % 8) entry

  abbrev after : Words
  after = written w (three_words w header byte entry place child)

  three_written : Three w after header at word place child
  three_written = record {
    first = refl;
    second = rw (ne_eqb 1 at (λ e. omega (arith, e)), eq-eqb at at refl) refl;
    third = rw (ne_eqb 1 (42 + place) (λ e. omega (arith, e)), ne_eqb at (42 + place) (λ e. omega (arith, e, low)), eq-eqb (42 + place) (42 + place) refl) refl;
    rest = λ p a b c. rw (ne_eqb 1 p (λ e. a (sym e)), ne_eqb at p (λ e. b (sym e)), ne_eqb (42 + place) p (λ e. c (sym e))) refl;
  }

  pub three_wrote : entry ≤ 48 → Wrote w after header byte entry place child
  three_wrote named = wrote_three w after header byte entry place child low named within three_written

  -- where the entry is another one, so is the word that it stands in
  other_index : entry ≤ 48 → key_byte w byte ≢ entry → w at ≢ after at
  other_index named other e =
      other (key_byte_is w byte ∙ ap (λ (x : ℕ). byte_of x (byte % 8)) e ∙ sym (key_byte_is after byte) ∙ (three_wrote named).wrote_entry)

  pub three_exact : entry ≤ 48 → w 1 ≢ header → key_byte w byte ≢ entry → w (42 + place) ≢ child → three_words w header byte entry place child ≡ changes Node48 w after
  three_exact named more other new =
      let is = three_written in
      exact_changes w after Node48 (three_words w header byte entry place child) (
        omega arith,
        omega arith,
        sym is.first,
        (λ e. more (e ∙ is.first)),
        (λ p first before. absurd (omega (arith, first, before))),
        (
          omega arith,
          omega (arith, low),
          sym is.second,
          other_index named other,
          (λ p first before. sym (is.rest p (λ e. omega (arith, e, first)) (λ e. omega (arith, e, before)) (λ e. omega (arith, e, before, low)))),
          (
            omega (arith, low),
            omega (arith, within),
            sym is.third,
            (λ e. new (e ∙ is.third)),
            (λ p first before. sym (is.rest p (λ e. omega (arith, e, first)) (λ e. omega (arith, e, first)) (λ e. omega (arith, e, before)))),
            (λ p first before. sym (is.rest p (λ e. omega (arith, e, first)) (λ e. omega (arith, e, first, low)) (λ e. omega (arith, e, first)))),
          ),
        ),
      )

  pub three_outside : SameOutside Node48 w after
  three_outside =
      let is = three_written in
      (sym (is.rest 0 (λ e. omega (arith, e)) (λ e. omega (arith, e)) (λ e. omega (arith, e))), λ p past. sym (is.rest p (λ e. omega (arith, e, past)) (λ e. omega (arith, e, past, low)) (λ e. omega (arith, e, past, within))))

-- ---- another child alone

module _ (w : Words) (byte entry place child : ℕ) (low : byte < 256) (within : place < 48) (named : key_byte w byte ≡ entry) where
  abbrev one : List Write
  one = record { place = 42 + place; value = child } ∷ []

  one_same : (p : ℕ) → p ≢ 42 + place → w p ≡ written w one p
  one_same p apart = rw (ne_eqb (42 + place) p (λ e. apart (sym e))) refl

  one_here : written w one (42 + place) ≡ child
  one_here = rw (eq-eqb (42 + place) (42 + place) refl) refl

  one_entry : (b : ℕ) → b < 256 → key_byte (written w one) b ≡ key_byte w b
  one_entry b few = key_byte_is (written w one) b ∙ ap (λ (x : ℕ). byte_of x (b % 8)) (sym (one_same (10 + b / 8) (λ e. omega (arith, e, few)))) ∙ sym (key_byte_is w b)

  one_wrote : Wrote w (written w one) (w 1) byte entry place child
  one_wrote = record {
    wrote_header = sym (one_same 1 (λ e. omega (arith, e)));
    wrote_entry = one_entry byte low ∙ named;
    entries = λ b few apart. one_entry b few;
    wrote_child = one_here;
    children = λ p few apart. sym (one_same (42 + p) (λ e. apart (omega (arith, e))));
    version = one_same 0 (λ e. omega (arith, e));
    prefix = λ p first before. sym (one_same p (λ e. omega (arith, e, before)));
    outside = λ p past. one_same p (λ e. omega (arith, e, past, within));
    below = λ was header_fits child_fits p. elim (cases_eq p (42 + place)) [
      | inl here ↦ subst (λ (n : ℕ). n < 2 ^ 64) (sym (ap (written w one) here ∙ one_here)) child_fits
      | inr apart ↦ subst (λ (n : ℕ). n < 2 ^ 64) (one_same p apart) (was p)
    ];
  }

  same_wrote : w (42 + place) ≡ child → Wrote w w (w 1) byte entry place child
  same_wrote is = record {
    wrote_header = refl;
    wrote_entry = named;
    entries = λ b few apart. refl;
    wrote_child = is;
    children = λ p few apart. refl;
    version = refl;
    prefix = λ p first before. refl;
    outside = λ p past. refl;
    below = λ was header_fits child_fits p. was p;
  }

  module _ (body : IsBody Node48 w) (there : (c : ℕ) × (indexed_child w byte ≡ Some c)) (stand : Stands w byte place) (is : entry ≡ suc place) (some : 0 < child) (fits : child < 2 ^ 64) where
    kept_plan : w (42 + place) ≡ child → IsPlan Node48 w [] (with_child (indexed_child w) byte child)
    kept_plan same = record {
      becomes = becomes_set w w (w 1) byte entry place child body low there stand is refl some fits (same_wrote same);
      exact = exact_changes w w Node48 [] (λ p first before. refl);
      outside = (refl, λ p past. refl);
    }

    other_plan : w (42 + place) ≢ child → IsPlan Node48 w one (with_child (indexed_child w) byte child)
    other_plan other = record {
      becomes = becomes_set w (written w one) (w 1) byte entry place child body low there stand is refl some fits one_wrote;
      exact = exact_changes w (written w one) Node48 one (
        omega arith,
        omega (arith, within),
        sym one_here,
        (λ e. other (e ∙ one_here)),
        (λ p first before. one_same p (λ e. omega (arith, e, before))),
        (λ p first before. one_same p (λ e. omega (arith, e, first))),
      );
      outside = (one_same 0 (λ e. omega (arith, e)), λ p past. one_same p (λ e. omega (arith, e, past, within)));
    }

    pub child_plan : IsPlan Node48 w (child_words (w (42 + place)) (42 + place) child) (with_child (indexed_child w) byte child)
    child_plan = elim (cases_eq (w (42 + place)) child) [
      | inl same ↦ rw (eq-eqb (w (42 + place)) child same) (kept_plan same)
      | inr other ↦ rw (ne_eqb (w (42 + place)) child other) (other_plan other)
    ]
