-- A node that gets the children of another one after another.
use Rattle.std.proofs.Common.{◌≡◌, ℕ, Bool, true, false, ◌+◌, ◌<◌, ◌≤◌, List, [], ◌∷◌, ◌++◌, length, get_or, take, Option, None, refl, sym, ap, subst, ◌∙◌, arith, eq-eqb, ne_eqb}
use Rattle.std.proofs.lemmas.List.{take_all, take_more}
use Rattle.art_cell.specs.declared.cells.Layout.{Layout}
use Rattle.art_cell.specs.declared.node_kinds.Entry.{Entry}
use Rattle.art_cell.specs.Words.{Words, count_of, places, prefix_of, child_of, listed, entries}
use Rattle.art_cell.specs.Bodies.{IsBody, IsFull, Becomes, IsRelaid}
use Rattle.art_cell.specs.Reads.{with_child}
use Rattle.art_cell.specs.Lemmas.Empty.{IsEmpty, no_child, empty_body, empty_prefix}
use Rattle.art_cell.specs.Lemmas.Entries.{one_more_listed, same_listed}
use Rattle.art_node.proofs.Lookups.{child_in, child_listed, IsNext, next_listed, one_more_in, child_some}

-- the node has the first i children, and the prefix
pub record Copied (k l : Layout) (w next : Words) (i : ℕ) : Type 0 where
  pub body : IsBody l next
  pub prefix : prefix_of next ≡ prefix_of w
  pub count : length (listed (child_of l next) 0 256) ≡ i
  pub children : (b : ℕ) → b < 256 → child_of l next b ≡ child_in (take i (entries k w)) b

pub copied_start : (k l : Layout) (w next : Words) → IsBody k w → IsEmpty l w next → Copied k l w next 0
copied_start k l w next body empty = record {
  body = empty_body l w next body.prefix body.words empty;
  prefix = empty_prefix l w next body.prefix empty;
  count = ap length (same_listed (λ _. None) (child_of l next) 0 256 (λ b low high. no_child l w next b high empty));
  children = λ b low. no_child l w next b low empty;
}

pub next_child : (k : Layout) (w : Words) (i : ℕ) (d e : Entry) → i < length (entries k w) → e ≡ get_or (entries k w) i d → IsNext (child_of k w) 0 256 (take i (entries k w)) e
next_child k w i d e lt is = subst (IsNext (child_of k w) 0 256 (take i (entries k w))) (sym is) (next_listed (child_of k w) 0 256 i d lt)

pub next_is_free : (k l : Layout) (w next : Words) (i : ℕ) (d e : Entry) → Copied k l w next i → i < length (entries k w) → e ≡ get_or (entries k w) i d → child_of l next e.byte ≡ None
next_is_free k l w next i d e so_far lt is =
    let here = next_child k w i d e lt is in
    so_far.children e.byte here.high ∙ here.first

pub next_is_some : (k : Layout) (w : Words) (i : ℕ) (d e : Entry) → i < length (entries k w) → e ≡ get_or (entries k w) i d → 0 < e.child
next_is_some k w i d e lt is = let here = next_child k w i d e lt is in child_some k w e.byte e.child here.here

pub next_has_room : (k l : Layout) (w next : Words) (i : ℕ) → IsBody k w → count_of w ≤ places l → Copied k l w next i → i < length (entries k w) → ¬ (IsFull l next)
next_has_room k l w next i body fits so_far lt = λ full. omega (arith, full, so_far.body.counted, so_far.count, body.counted)

pub copied_more : (k l : Layout) (w next after : Words) (i : ℕ) (d e : Entry) → Copied k l w next i → i < length (entries k w) → e ≡ get_or (entries k w) i d → Becomes l next after (with_child (child_of l next) e.byte e.child) → Copied k l w after (i + 1)
copied_more k l w next after i d e so_far lt is becomes =
    let here = next_child k w i d e lt is in
    let free = next_is_free k l w next i d e so_far lt is in
    let more =
    one_more_listed (child_of l next) (child_of l after) e.byte e.child 0 256 (omega arith) here.high free
    (becomes.children e.byte here.high ∙ rw (eq-eqb e.byte e.byte refl) refl)
    (λ b low high apart. becomes.children b high ∙ rw (ne_eqb b e.byte apart) refl) in
    let taken : take (i + 1) (entries k w) ≡ take i (entries k w) ++ e ∷ [] = take_more_here (entries k w) i d e lt is in
    record {
      body = becomes.body;
      prefix = becomes.prefix ∙ so_far.prefix;
      count = more ∙ omega (arith, so_far.count);
      children = λ b low.
          becomes.children b low
          ∙ with_same b low
          ∙ sym (one_more_in (take i (entries k w)) e b here.first)
          ∙ ap (λ (es : List Entry). child_in es b) (sym taken);
    }
  where
    with_same : (b : ℕ) → b < 256 → with_child (child_of l next) e.byte e.child b ≡ with_child (child_in (take i (entries k w))) e.byte e.child b
    with_same b low = ap (λ (o : Option ℕ). with_child (λ _. o) e.byte e.child b) (so_far.children b low)

    take_more_here : (es : List Entry) (i : ℕ) (d e : Entry) → i < length es → e ≡ get_or es i d → take (i + 1) es ≡ take i es ++ e ∷ []
    take_more_here es i d e lt is = take_more es i d lt ∙ ap (λ (x : Entry). take i es ++ x ∷ []) (sym is)

pub copied_end : (k l : Layout) (w next : Words) (i : ℕ) → length (entries k w) ≤ i → Copied k l w next i → IsRelaid k l w next
copied_end k l w next i all so_far = record {
  body = so_far.body;
  prefix = so_far.prefix;
  children = λ b low. so_far.children b low ∙ ap (λ (es : List Entry). child_in es b) (take_all i (entries k w) all) ∙ child_listed (child_of k w) 0 256 b (omega arith) low;
}

pub true_from : (b : Bool) → (b ≡ false → ⊥) → b ≡ true
true_from true h = refl
true_from false h = absurd (h refl)
