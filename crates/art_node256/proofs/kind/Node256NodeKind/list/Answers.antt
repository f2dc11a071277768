use Rattle.std.proofs.Common.{◌≡◌, ◌≢◌, ℕ, ◌+◌, List, [], ◌∷◌, ◌++◌, length, sym, ap, ◌∙◌, arith}
use Rattle.art_cell.specs.declared.cells.Layout.TheVariants.{Node256}
use Rattle.art_cell.specs.declared.node_kinds.Entry.{Entry}
use Rattle.art_cell.specs.Words.{Words, nonzero, child_of, listed}
use Rattle.art_cell.specs.Reads.{word_of}
use Rattle.art_cell.specs.Lemmas.Entries.{listed_at_most, listed_with, listed_without, nonzero_some}
use Rattle.art_node256.proofs.kind.Node256NodeKind.list.Goals as goal
use Rattle.art_node256.proofs.kind.Node256NodeKind.list.Goals.{then-child-ne0, else-child-ne0}

-- one byte more, whose child word is not 0
with_child_word : (w : Words) (place byte : ℕ) (before now : List Entry) → place ≡ 10 + byte → before ≡ listed (child_of Node256 w) 0 byte → w place ≢ 0 → now ≡ before ++ record { byte = byte; child = w place } ∷ []
    → now ≡ listed (child_of Node256 w) 0 (byte + 1)
with_child_word w place byte before now at is some more =
    let here = ap (λ (p : ℕ). nonzero (w p)) (sym at) ∙ nonzero_some (w place) (omega (arith, some)) in
    more ∙ ap (λ (xs : List Entry). xs ++ record { byte = byte; child = w place } ∷ []) is ∙ sym (listed_with (child_of Node256 w) 0 byte byte (w place) (omega arith) here)

-- one byte more, whose child word is 0
with_no_child_word : (w : Words) (place byte : ℕ) (before now : List Entry) → place ≡ 10 + byte → before ≡ listed (child_of Node256 w) 0 byte → w place ≡ 0 → now ≡ before
    → now ≡ listed (child_of Node256 w) 0 (byte + 1)
with_no_child_word w place byte before now at is none same =
    same ∙ is ∙ sym (listed_without (child_of Node256 w) 0 byte byte (omega arith) (ap (λ (p : ℕ). nonzero (w p)) (sym at) ∙ ap nonzero none))

pub push-requires : goal.push-requires
push-requires c =
    let some = listed_at_most (child_of Node256 (word_of c.args.body.now)) 0 c.loop-index.index in
    omega (arith, ap length c.loop-index.invariant)

pub loop-index-preserved : goal.loop-index-preserved
loop-index-preserved c =
    let words = word_of c.args.body.now in
    elim c.if-child-ne0.branch [
      | then-child-ne0 w ↦
          with_child_word words c.place_of.result c.loop-index.index c.loop-index.entries.items _ c.place_of.ensures c.loop-index.invariant w.if-child-ne0.true (ap (λ v. v.items) w.entries-is ∙ w.push.ensures.items)
      | else-child-ne0 w ↦
          with_no_child_word words c.place_of.result c.loop-index.index c.loop-index.entries.items _ c.place_of.ensures c.loop-index.invariant w.if-child-ne0.false (ap (λ v. v.items) w.entries-is)
    ]

pub returns : goal.returns
returns c =
    let last : c.loop-index.index ≡ 256 = omega arith in
    c.loop-index.invariant ∙ ap (listed (child_of Node256 (word_of c.args.body.now)) 0) last
