-- The child beside another one, found in words that were read.
use Rattle.std.proofs.Common.{◌≡◌, ◌⊎◌, ℕ, ◌+◌, ◌<◌, ◌≤◌, Bool, true, false, List, Option, Some, None, sym, ◌∙◌, subst, inl, inr, ⊎_elim, arith}
use Rattle.std.proofs.lemmas.Bool.{cases_lt}
use Rattle.std.specs.Bool.{then_some}
use Rattle.art_cell.specs.Reads.{IsLeastFrom, IsUnread, NextNeeds, NextTells, NoneFrom, word_read}
use Rattle.art_cell.specs.Words.{Words, child_of, first_child}
use Rattle.art_cell.specs.declared.cells.Layout.{Layout}
use Rattle.art_cell.specs.declared.cells.Layout.TheVariants.{Node4, Node16, Node48, Node256}
use Rattle.art_cell.specs.declared.node_kinds.Entry.{Entry}
use Rattle.art_cell.specs.declared.node_kinds.NextProbe.{NextProbe}
use Rattle.art_cell.specs.declared.node_kinds.NextProbe.TheVariants.{Need, Entry as Told, None as Nothing}
use Rattle.art_plan.specs.ChooseRemove.Others.{IsBeside, IsChildRead, IsLeast, IsReadOf}
use Rattle.art_plan.proofs.ChildPlaces.{child_stands}

after_header : (k : Layout) → 1 ≤ first_child k
after_header Node4 = omega arith
after_header Node16 = omega arith
after_header Node48 = omega arith
after_header Node256 = omega arith

module _ (k : Layout) (reads : List (Option ℕ)) (w : Words) (all : IsReadOf k reads w) where
  -- the word of a child was read, at a place of a child
  pub child_read : (b word : ℕ) → b < 256 → child_of k w b ≡ Some word → IsChildRead k reads word
  child_read b word low is =
      let at = child_stands k w b word all.body low is in
      let first = after_header k in
      let read = all.known at.0 (omega (arith, first, at.1.0)) at.1.1 in
      record {
        place = at.0;
        after = at.1.0;
        inside = at.1.1;
        read = subst (λ (v : ℕ). word_read reads at.0 ≡ Some v) (sym (all.agrees at.0 read.0 read.1) ∙ at.2) read.1;
      }

  -- and no word of it is missing
  pub none_unread : (place : ℕ) → IsUnread k reads place → ⊥
  none_unread place unread =
      let read = all.known place (omega (arith, unread.0)) unread.1 in
      let no : None ≡ Some read.0 = sym unread.2 ∙ read.1 in
      absurd (cc)

-- where the least entry is at the byte, the one beside it is the least after it
pub after_least : (child : ℕ → Option ℕ) (byte : ℕ) (first : Entry) (r : Option Entry) → IsLeastFrom child 0 first → first.byte ≡ byte → IsLeast child (byte + 1) r → IsBeside child byte r
after_least child byte first (Some entry) least at next = let above = next.above in (λ e. omega (arith, above, e), next.here)
after_least child byte first None least at next = λ b low apart. elim (cases_lt b byte) [
  | inl before ↦ least.least b (omega arith) (omega (arith, before, at))
  | inr after ↦ next b (omega (arith, after, apart)) low
]

-- ---- the least entry, if its child word stands at a place of a child

module _ (k : Layout) (reads : List (Option ℕ)) (low : ℕ) (w : Words) (all : IsReadOf k reads w) where
  -- it does, so it is told
  pub least_told : (entry : Entry) (stands : Bool) → entry.byte < 256 → IsLeastFrom (child_of k w) low entry → (IsChildRead k reads entry.child → stands ≡ true) → IsLeast (child_of k w) low (then_some stands entry)
  least_told entry true small least there = least
  least_told entry false small least there = let no = there (child_read k reads w all entry.byte entry.child small least.here) in absurd (cc)

  -- no word is missing, so where no entry is told there is none
  pub none_told : (r : NextProbe) → ((place : ℕ) × (r ≡ Need place)) ⊎ (r ≡ Nothing) → NextNeeds k reads r → NextTells (child_of k w) low r → NoneFrom (child_of k w) low 256
  none_told (Need place) either needs tells = absurd (none_unread k reads w all place needs)
  none_told (Told entry) either needs tells = ⊎_elim (λ (is : (place : ℕ) × (Told entry ≡ Need place)). let e = is.1 in absurd (cc)) (λ (is : Told entry ≡ Nothing). absurd (cc)) either
  none_told Nothing either needs tells = tells
