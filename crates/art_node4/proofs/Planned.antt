-- What a plan writes makes the node with the child, or without it.
use Rattle.std.proofs.Common.{◌≡◌, ◌≢◌, ℕ, ◌+◌, ◌^◌, ◌<◌, ◌≤◌, List, [], ◌∷◌, length, None, Some, refl, sym, subst, ap, ◌∙◌, inl, inr, arith, eq-eqb, ne_eqb}
use Rattle.std.proofs.lemmas.Bool.{cases_eq}
use Rattle.std.specs.List.{insert, remove}
use Rattle.std.proofs.lemmas.List.Edits.{length-insert, length-remove}
use Rattle.art_cell.proofs.ChangedWords.{plan_from}
use Rattle.art_cell.specs.Bodies.{IsBody}
use Rattle.art_cell.specs.declared.node_kinds.Entry.{Entry}
use Rattle.art_cell.specs.declared.cells.Write.{Write}
use Rattle.art_cell.specs.Lemmas.Differing.{exact_changes}
use Rattle.art_cell.specs.Reads.{IsPlan, changes, most_writes, with_child, without_child, written}
use Rattle.art_cell.specs.Words.{Words, child_of, entries, first_child, places, size}
use Rattle.art_node4.specs.declared.plans.Edit.TheVariants.{Add, Remove}
use Rattle.art_node4.specs.declared.layouts.Sorted.{Sorted}
use Rattle.art_node4.specs.Edits.{CanEdit, changed, rewritten}
use Rattle.art_node4.specs.Sorted.{IsPosition, layout_of}
use Rattle.art_node4.proofs.Differing.{few_held}
use Rattle.art_node4.proofs.Edited.{edited_fit, entries_fit, holds_rewritten, outside_rewritten, words_rewritten}
use Rattle.art_node4.proofs.NodeWords.{add_becomes, fits, place_within, room_for, set_becomes, stands, take_becomes}

-- ---- one child more, and one less

module _ (s : Sorted) (w : Words) (position byte : ℕ) (body : IsBody (layout_of s) w) (small : byte < 256) (at : IsPosition (entries (layout_of s) w) byte position) where
  abbrev xs : List Entry
  xs = entries (layout_of s) w

  module _ (child : ℕ) (fits_child : child < 2 ^ 64) (some : 0 < child) (free : child_of (layout_of s) w byte ≡ None) (room : length (entries (layout_of s) w) < places (layout_of s)) where
    abbrev entry : Entry
    entry = record { byte = byte; child = child }

    pub can_add : CanEdit (layout_of s) (Add position (record { byte = byte; child = child })) (entries (layout_of s) w)
    can_add = (at.within, room, record { byte = omega arith; child = fits_child })

    abbrev more : Words
    more = rewritten (layout_of s) w (insert xs position entry)

    few_more : length (insert xs position entry) ≤ 16
    few_more = omega (arith, length-insert xs position entry at.within, (fits s).few)

    pub add_plan : (writes : List Write) → writes ≡ changes (layout_of s) w (rewritten (layout_of s) w (insert (entries (layout_of s) w) position (record { byte = byte; child = child })))
        → IsPlan (layout_of s) w writes (with_child (child_of (layout_of s) w) byte child)
    add_plan writes exact =
        let all = edited_fit (layout_of s) xs (Add position entry) can_add (entries_fit s w body) in
        plan_from (layout_of s) w more writes (with_child (child_of (layout_of s) w) byte child) (outside_rewritten s w (insert xs position entry)) exact
        (add_becomes s w more position byte child body free small some at (λ e. omega arith) (words_rewritten s w (insert xs position entry) all body few_more) (holds_rewritten s w (insert xs position entry) all))

    pub add_few : (writes : List Write) → writes ≡ changes (layout_of s) w (rewritten (layout_of s) w (insert (entries (layout_of s) w) position (record { byte = byte; child = child }))) → length writes ≤ most_writes
    add_few writes exact =
        let all = edited_fit (layout_of s) xs (Add position entry) can_add (entries_fit s w body) in
        let few = few_held s w more (insert xs position entry) (holds_rewritten s w (insert xs position entry) all) in
        omega (arith, ap (λ (ys : List Write). length ys) exact, few)

  module _ (there : (c : ℕ) × (child_of (layout_of s) w byte ≡ Some c)) where
    pub can_remove : CanEdit (layout_of s) (Remove position) (entries (layout_of s) w)
    can_remove =
        let here = stands s w position byte there.0 body there.1 at in
        (here.0, few_in_node)
      where
        few_in_node : length (entries (layout_of s) w) ≤ places (layout_of s)
        few_in_node = room_for s w (entries (layout_of s) w) refl body

    abbrev less : Words
    less = rewritten (layout_of s) w (remove xs position)

    few_less : length (remove xs position) ≤ 16
    few_less = omega (arith, length-remove xs position can_remove.0, can_remove.1, (fits s).few)

    pub drop_plan : (writes : List Write) → writes ≡ changes (layout_of s) w (rewritten (layout_of s) w (remove (entries (layout_of s) w) position))
        → IsPlan (layout_of s) w writes (without_child (child_of (layout_of s) w) byte)
    drop_plan writes exact =
        let all = edited_fit (layout_of s) xs (Remove position) can_remove (entries_fit s w body) in
        plan_from (layout_of s) w less writes (without_child (child_of (layout_of s) w) byte) (outside_rewritten s w (remove xs position)) exact
        (take_becomes s w less position byte there.0 body there.1 at (words_rewritten s w (remove xs position) all body few_less) (holds_rewritten s w (remove xs position) all))

    pub drop_few : (writes : List Write) → writes ≡ changes (layout_of s) w (rewritten (layout_of s) w (remove (entries (layout_of s) w) position)) → length writes ≤ most_writes
    drop_few writes exact =
        let all = edited_fit (layout_of s) xs (Remove position) can_remove (entries_fit s w body) in
        let few = few_held s w less (remove xs position) (holds_rewritten s w (remove xs position) all) in
        omega (arith, ap (λ (ys : List Write). length ys) exact, few)

    -- ---- another child alone

    module _ (child : ℕ) (fits_child : child < 2 ^ 64) (some : 0 < child) where
      abbrev place : ℕ
      place = first_child (layout_of s) + position

      place_low : place < size (layout_of s)
      place_low = omega (arith, (fits s).last, place_within s w position body (can_remove.0))

      abbrev one : List Write
      one = record { place = place; value = child } ∷ []

      one_same : (p : ℕ) → p ≢ place → w p ≡ written w one p
      one_same p apart = rw (ne_eqb place p (λ e. apart (sym e))) refl

      one_here : written w one place ≡ child
      one_here = rw (eq-eqb place place refl) refl

      one_fits : (p : ℕ) → written w one p < 2 ^ 64
      one_fits p = elim (cases_eq p place) [
        | inl here ↦ subst (λ (n : ℕ). n < 2 ^ 64) (sym (ap (written w one) here ∙ one_here)) fits_child
        | inr apart ↦ subst (λ (n : ℕ). n < 2 ^ 64) (one_same p apart) (body.words p)
      ]

      kept_plan : w place ≡ child → IsPlan (layout_of s) w [] (with_child (child_of (layout_of s) w) byte child)
      kept_plan same = record {
        becomes = set_becomes s w w position byte child there.0 body there.1 some at body.words (record { here = same; elsewhere = λ p apart. refl });
        exact = exact_changes w w (layout_of s) [] (λ p first before. refl);
        outside = (refl, λ p past. refl);
      }

      other_plan : w place ≢ child → IsPlan (layout_of s) w one (with_child (child_of (layout_of s) w) byte child)
      other_plan other = record {
        becomes = set_becomes s w (written w one) position byte child there.0 body there.1 some at one_fits (record { here = one_here; elsewhere = λ p apart. sym (one_same p apart) });
        exact = exact_changes w (written w one) (layout_of s) one (
          omega (arith, (fits s).low),
          place_low,
          sym one_here,
          (λ e. other (e ∙ one_here)),
          (λ p first before. one_same p (λ e. omega (arith, e, before))),
          (λ p first before. one_same p (λ e. omega (arith, e, first))),
        );
        outside = (one_same 0 (λ e. omega (arith, e, (fits s).low)), λ p past. one_same p (λ e. omega (arith, e, past, place_low)));
      }

      pub set_plan : IsPlan (layout_of s) w (changed w (first_child (layout_of s) + position) child) (with_child (child_of (layout_of s) w) byte child)
      set_plan = elim (cases_eq (w place) child) [
        | inl same ↦ rw (eq-eqb (w place) child same) (kept_plan same)
        | inr other ↦ rw (ne_eqb (w place) child other) (other_plan other)
      ]
