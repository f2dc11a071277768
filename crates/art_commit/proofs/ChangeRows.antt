-- What a change makes of the rows, and the leaf that the pass has in hand.
use Rattle.std.proofs.Common.{◌≡◌, ℕ, List, Option, Some, None, refl, sym, ap, ◌∙◌, subst, subst₂, arith}
use Rattle.std.specs.FinMap.{get, insert, remove}
use Rattle.art_cell.specs.declared.cells.Cell.TheVariants as cell
use Rattle.art_cell.specs.declared.cells.Link.TheVariants.{Leaf as leaf, Node as node}
use Rattle.art_cell.specs.declared.cells.Node.{Node}
use Rattle.art_model.specs.declared.commands.Answer.TheVariants.{Inserted, Present, Removed, Absent}
use Rattle.art_step.specs.Deeds.{key_of}
use Rattle.art_step.specs.declared.deeds.Act.TheVariants.{Insert, Remove}
use Rattle.art_step.specs.declared.views.Sizes.{Sizes}
use Rattle.art_step.specs.declared.views.View.{View}
use Rattle.art_step.specs.declared.deeds.Deed.TheVariants.{Done}
use Rattle.art_tree.specs.Changes.{IsUnlinked}
use Rattle.art_commit.specs.AnyChange.{RowsBy}
use Rattle.art_commit.specs.CommitLaws.{HasLeaf, HasNode}
use Rattle.art_tree.specs.Heaps.{Cells, heap_of}
use Rattle.art_step.specs.Histories.{by_value}
use Rattle.art_step.specs.Knowledge.{IsLeafCell}
use Rattle.art_cell.specs.Leaves.{IsLeaf}
use Rattle.art_tree.specs.Rows.{ByteMap, HasRows, IsAbsent}
use Rattle.art_step.specs.Steps.Commit.{Knows}
use Rattle.art_tree.specs.Tree.{Heap, StandsAt, Row}
use Rattle.art_tree.proofs.Meanings.{words_mean}

-- ---- rows

-- an absent key is not in the map
absent_get : (h : Heap) (m : ByteMap) (k : List ℕ) → HasRows h m → IsAbsent h k → get m k ≡ None
absent_get h m k rows absent = each (get m k) refl
  where
    each : (o : Option ℕ) → get m k ≡ o → get m k ≡ None
    each None e = e
    each (Some u) e = absurd (absent u ((rows k u).1 e))

-- an absent key is inserted
insert_rows : (h h' : Heap) (k : List ℕ) (value : ℕ) → IsAbsent h k → ((m : ByteMap) → HasRows h m → HasRows h' (insert m k value)) → RowsBy h h' (Done (Insert (key_of k) value) Inserted)
insert_rows h h' k value absent after m rows =
    let none = absent_get h m k rows absent in
    (ap (λ o. by_value o Present Inserted) (sym none), subst (λ o. HasRows h' (by_value o (λ _. m) (insert m k value))) (sym none) (after m rows))

-- a linked leaf's row is removed
pub remove_rows : (h h' : Heap) (l : ℕ) (p : List ℕ) → StandsAt h (leaf l) p → ((m : ByteMap) → HasRows h m → HasRows h' (remove m (h.key l))) → RowsBy h h' (Done (Remove (key_of (h.key l))) (Removed (h.value l)))
remove_rows h h' l p at after m rows =
    let o : Row h (h.key l) (h.value l) = record { number = l; path = p; at = at; key = refl; value = refl } in
    let some = (rows (h.key l) (h.value l)).0 o in
    (ap (λ o. by_value o Removed Absent) (sym some), subst (λ o. HasRows h' (by_value o (λ _. remove m (h.key l)) m)) (sym some) (after m rows))

-- ---- the leaf in hand

module _ (z : Sizes) (v : View) (s : Cells) (l : ℕ) (k : List ℕ) (value : ℕ) (knows : Knows v s) (has : HasLeaf z v l k value) where
  -- it has its words
  leaf_words : IsLeaf (s (cell.Leaf l)) k value
  leaf_words = subst (λ w. IsLeaf w k value) (sym (knows.leaves has.hand l has.has has.link)) has.words

  -- which say its key and its value
  pub leaf_has_key : (heap_of s).key l ≡ k
  leaf_has_key = (words_mean s).key l (omega (arith, leaf_words.len, has.short)) ∙ leaf_words.key

  pub leaf_has_value : (heap_of s).value l ≡ value
  leaf_has_value = (words_mean s).value l ∙ leaf_words.value

  -- and it is not linked
  pub leaf_unlinked : IsUnlinked (heap_of s) (leaf l)
  leaf_unlinked = subst (IsUnlinked (heap_of s)) has.link (knows.hand has.hand has.has)

  -- it is inserted, where its key is absent
  pub inserted_rows : (h' : Heap) → IsAbsent (heap_of s) k → ((m : ByteMap) → HasRows (heap_of s) m → HasRows h' (insert m ((heap_of s).key l) ((heap_of s).value l))) → RowsBy (heap_of s) h' (Done (Insert (key_of k) value) Inserted)
  inserted_rows h' absent rows = insert_rows (heap_of s) h' k value absent (λ m i. subst₂ (λ j u. HasRows h' (insert m j u)) leaf_has_key leaf_has_value (rows m i))

  -- where it is not written it has the form of a leaf
  pub leaf_formed : (s' : Cells) → s' (cell.Leaf l) ≡ s (cell.Leaf l) → IsLeafCell (s' (cell.Leaf l))
  leaf_formed s' same = (k, value, subst (λ w. IsLeaf w k value) (sym same) leaf_words, has.short)

-- nor is a node in hand
pub node_unlinked : (z : Sizes) (v : View) (s : Cells) (m : Node) → Knows v s → HasNode z v m → IsUnlinked (heap_of s) (node m)
node_unlinked z v s m knows has = subst (IsUnlinked (heap_of s)) has.link (knows.hand has.hand has.has)
