-- A node that gets two children.
use Rattle.std.proofs.Common.{◌≡◌, ◌≢◌, ℕ, ◌<◌, ◌==◌, if◌then◌else◌, List, length, Option, Some, None, refl, sym, ap, subst, ◌∙◌, inl, inr, arith, eq-eqb, ne_eqb}
use Rattle.std.proofs.lemmas.Bool.{cases_eq}
use Rattle.art_cell.specs.declared.cells.Layout.{Layout}
use Rattle.art_cell.specs.declared.cells.Layout.TheVariants.{Node4}
use Rattle.art_cell.specs.Bodies.{Becomes, IsFull}
use Rattle.art_cell.specs.Lemmas.Entries.{listed_none, one_more_listed}
use Rattle.art_cell.specs.Reads.{with_child}
use Rattle.art_cell.specs.Words.{Words, child_of, count_of}
use Rattle.art_node.specs.Prefixes.{IsNodeOf, two_of}

-- a node with the children of one that has none
pub has_none : (k : Layout) (e w : Words) (p : List ℕ) → k ≡ Node4 → IsNodeOf k w p (child_of k e) → ((b : ℕ) → b < 256 → child_of Node4 e b ≡ None) → IsNodeOf Node4 w p (λ b. None)
has_none k e w p is node none =
    let here = subst (λ (l : Layout). IsNodeOf l w p (child_of l e)) is node in
    record { body = here.body; prefix = here.prefix; children = λ b low. here.children b low ∙ none b low }

module _ (w : Words) (p : List ℕ) (node : IsNodeOf Node4 w p (λ b. None)) where
  none_counted : count_of w ≡ 0
  none_counted = node.body.counted ∙ ap length (listed_none (child_of Node4 w) 0 256 (λ b low high. node.children b high))

  pub room_for_one : ¬ (IsFull Node4 w)
  room_for_one full = omega (arith, full, none_counted)

  module _ (a c : ℕ) (after : Words) (small : a < 256) (first : Becomes Node4 w after (with_child (child_of Node4 w) a c)) where
    first_child : (b : ℕ) → b < 256 → child_of Node4 after b ≡ (if b == a then Some c else None)
    first_child b low = first.children b low ∙ ap (λ (o : Option ℕ). if b == a then Some c else o) (node.children b low)

    one_counted : count_of after ≡ 1
    one_counted =
        let more =
        one_more_listed (child_of Node4 w) (child_of Node4 after) a c 0 256 (omega arith) small (node.children a small) (first_child a small ∙ rw (eq-eqb a a refl) refl)
        (λ b low high apart. first.children b high ∙ rw (ne_eqb b a apart) refl) in
        omega (arith, first.body.counted, more, node.body.counted, none_counted)

    pub room_for_another : ¬ (IsFull Node4 after)
    room_for_another full = omega (arith, full, one_counted)

    pub still_free : (b : ℕ) → b < 256 → a ≢ b → child_of Node4 after b ≡ None
    still_free b low apart = first_child b low ∙ rw (ne_eqb b a (λ e. apart (sym e))) refl

    pub has_two : (b d : ℕ) (end : Words) → a ≢ b → Becomes Node4 after end (with_child (child_of Node4 after) b d) → IsNodeOf Node4 end p (two_of a c b d)
    has_two b d end apart second = record { body = second.body; prefix = second.prefix ∙ first.prefix ∙ node.prefix; children = each }
      where
        each : (e : ℕ) → e < 256 → child_of Node4 end e ≡ two_of a c b d e
        each e low =
            elim (cases_eq e b) [
              | inl here ↦
                  let put : with_child (child_of Node4 after) b d e ≡ Some d = rw (eq-eqb e b here) refl in
                  let two : two_of a c b d e ≡ Some d = rw (ne_eqb e a (λ i. apart (sym i ∙ here)), eq-eqb e b here) refl in
                  second.children e low ∙ put ∙ sym two
              | inr elsewhere ↦
                  let kept : with_child (child_of Node4 after) b d e ≡ child_of Node4 after e = rw (ne_eqb e b elsewhere) refl in
                  let two : two_of a c b d e ≡ (if e == a then Some c else None) = rw (ne_eqb e b elsewhere) refl in
                  second.children e low ∙ kept ∙ first_child e low ∙ sym two
            ]
