-- A node in the next larger layout, before and after one more child comes.
use Rattle.std.proofs.Common.{◌≡◌, ℕ, ◌<◌, length, None, refl, sym, ap, ◌∙◌, subst, inl, inr, arith, eq-eqb, ne_eqb}
use Rattle.std.proofs.lemmas.Bool.{cases_eq}
use Rattle.art_cell.specs.Bodies.{Becomes, IsBody, IsFull, IsRelaid}
use Rattle.art_cell.specs.Lemmas.Entries.{listed_room, same_listed}
use Rattle.art_cell.specs.Reads.{IsBodyOf, with_child, word_of}
use Rattle.art_cell.specs.Words.{Words, child_of, count_of, places, prefix_of}
use Rattle.art_cell.specs.declared.cells.Body.{Body}
use Rattle.art_cell.specs.declared.cells.Layout.{Layout}
use Rattle.art_cell.specs.declared.cells.Layout.TheVariants.{Node256}
use Rattle.art_plan.specs.Puts.{IsCrowded}
use Rattle.art_node.specs.Prefixes.{IsNodeOf}
use Rattle.art_node.specs.Sizes.{larger}

-- the largest nodes have a place for each byte
pub not_largest : (body : Body) (byte : ℕ) → byte < 256 → IsCrowded body byte → body.layout ≡ Node256 → ⊥
not_largest body byte low crowded is =
    let meaning : IsBody Node256 (word_of body) = subst (λ (k : Layout). IsBody k (word_of body)) is crowded.meaning in
    let free : child_of Node256 (word_of body) byte ≡ None = subst (λ (k : Layout). child_of k (word_of body) byte ≡ None) is crowded.free in
    let full : count_of (word_of body) ≡ 256 = subst (λ (k : Layout). IsFull k (word_of body)) is crowded.full in
    let room = listed_room (child_of Node256 (word_of body)) byte 0 256 (omega arith) low free in
    omega (arith, full, meaning.counted, room)

-- in the layout l the words g are a node with a place for the byte, which is free
pub record HasMoreRoom (l : Layout) (g : Body) (byte : ℕ) : Type 0 where
  pub whole : IsBodyOf l g
  pub free : child_of l (word_of g) byte ≡ None
  pub room : IsFull l (word_of g) → ⊥

same_count : (k l : Layout) (w g : Words) → IsBody k w → IsRelaid k l w g → count_of g ≡ count_of w
same_count k l w g body relaid =
    relaid.body.counted ∙ ap length (same_listed (child_of k w) (child_of l g) 0 256 (λ b low high. relaid.children b (omega arith))) ∙ sym body.counted

module _ (k : Layout) (body g : Body) (byte : ℕ) (is : body.layout ≡ k) (low : byte < 256) (crowded : IsCrowded body byte) (layout : g.layout ≡ larger body.layout) (relaid : IsRelaid body.layout (larger body.layout) (word_of body) (word_of g)) where
  relaid_as : IsRelaid k (larger k) (word_of body) (word_of g)
  relaid_as = subst (λ (i : Layout). IsRelaid i (larger i) (word_of body) (word_of g)) is relaid

  pub more_room : places k < places (larger k) → HasMoreRoom (larger k) g byte
  more_room more = record {
    whole = record { layout = layout ∙ ap larger is; meaning = relaid_as.body };
    free = relaid_as.children byte low ∙ subst (λ (i : Layout). child_of i (word_of body) byte ≡ None) is crowded.free;
    room = λ full.
        let count = same_count body.layout (larger body.layout) (word_of body) (word_of g) crowded.meaning relaid in
        let was : count_of (word_of body) ≡ places k = subst (λ (i : Layout). IsFull i (word_of body)) is crowded.full in
        omega (arith, full, count, was, more);
  }

  -- with the child it is the node with the old children and this one
  pub grown_node : (child : ℕ) (after : Words) → Becomes (larger k) (word_of g) after (with_child (child_of (larger k) (word_of g)) byte child)
      → IsNodeOf (larger body.layout) after (prefix_of (word_of body)) (with_child (child_of body.layout (word_of body)) byte child)
  grown_node child after becomes = subst (λ (i : Layout). IsNodeOf (larger i) after (prefix_of (word_of body)) (with_child (child_of i (word_of body)) byte child)) (sym is) (record {
    body = becomes.body;
    prefix = becomes.prefix ∙ relaid.prefix;
    children = λ b b-low. becomes.children b b-low ∙ same b b-low;
  })
    where
      same : (b : ℕ) → b < 256 → with_child (child_of (larger k) (word_of g)) byte child b ≡ with_child (child_of k (word_of body)) byte child b
      same b b-low = elim (cases_eq b byte) [
        | inl here ↦ rw (eq-eqb b byte here) refl
        | inr other ↦ rw (ne_eqb b byte other) (relaid_as.children b b-low)
      ]
