-- A leaf that comes to a place, goes from it or gives way to another is a commit.
use Rattle.std.proofs.Common.{◌≡◌, ◌≢◌, ℕ, List, [], ◌∷◌, Option, Some, None, refl, sym, ◌∙◌, subst, subst₂, inl, inr, ⊎_elim}
use Rattle.std.specs.FinMap.{empty, insert, remove}
use Rattle.art_cell.specs.declared.cells.Node.{Node}
use Rattle.art_cell.specs.declared.cells.Cell.{Cell}
use Rattle.art_cell.specs.declared.cells.Cell.TheVariants as cell
use Rattle.art_cell.specs.declared.cells.Link.{Link}
use Rattle.art_cell.specs.declared.cells.Link.TheVariants.{Leaf as leaf, Node as node}
use Rattle.art_model.specs.declared.commands.Answer.TheVariants.{Inserted, Removed}
use Rattle.art_step.specs.Deeds.{key_of}
use Rattle.art_step.specs.declared.deeds.Act.TheVariants.{Insert, Remove}
use Rattle.art_step.specs.declared.views.Sizes.{Sizes}
use Rattle.art_step.specs.declared.views.View.{View}
use Rattle.art_step.specs.declared.deeds.Deed.{Deed}
use Rattle.art_step.specs.declared.deeds.Deed.TheVariants.{Done}
use Rattle.art_tree.specs.Changes.{IsUnlinked, Edits, Replaces}
use Rattle.art_commit.specs.CommitLaws.{Before, HasLeaf, HoldsJust, ClaimedAmong, AddCommits, DropCommits, ReplaceCommits}
use Rattle.art_tree.specs.Heaps.{Cells, heap_of}
use Rattle.art_tree.specs.Laws.{Does, EditTouched, EditPaths, ReplaceTouched, ReplacePaths}
use Rattle.art_tree.specs.Rows.{ByteMap, HasRows}
use Rattle.art_step.specs.Steps.Commit.{Commits}
use Rattle.art_tree.specs.Tree.{Place, Slot, Heap, child_at_place, StandsAt, PlaceAt, Begins, HasTwo}
use Rattle.art_step.specs.Views.{Member, IsNumber}
use Rattle.art_tree.specs.WordChanges.{WritesPlace, cell_of, WritesOnly}
use Rattle.art_commit.proofs.ChangeRows.{remove_rows, inserted_rows, leaf_has_key, leaf_has_value, leaf_unlinked, leaf_formed}
use Rattle.art_commit.proofs.ChangeShapes.{place_formed, anchor_formed}
use Rattle.art_tree.proofs.Lookup.{absent_free}
use Rattle.art_tree.proofs.Meanings.{Fits, no_leaf}
use Rattle.art_tree.proofs.Places.{at_place, same_link}
use Rattle.art_tree.proofs.TreeLaws.{add_law, drop_law, replace_law}
use Rattle.art_tree.proofs.WordChanges.{add_by_words, drop_by_words, replace_by_words}
use Rattle.art_commit.specs.AnyChange.{IsFormed, Touches, Forms, RowsBy}
use Rattle.art_commit.proofs.AnyChange.{once_one, in_hand, same_words, only_written, commits_by}
use Rattle.art_step.specs.Histories.{IsAnswered, becomes}

module _ (z : Sizes) (v : View) (s s' : Cells) (x : Place) (r : List ℕ) (l : ℕ) (b : Before z v s s') (just : HoldsJust v (λ c. c ≡ cell_of x)) (at : PlaceAt (heap_of s) x r) where
  abbrev h : Heap
  h = heap_of s

  abbrev h' : Heap
  h' = heap_of s'

  abbrev Written : Cell → Type 0
  Written c = c ≡ cell_of x

  same : (c : Cell) → (Written c → ⊥) → s' c ≡ s c
  same = same_words z v s s' Written b just

  place_rest : WritesOnly s s' Written
  place_rest = only_written s s' Written same

  place_forms : (o : Option Link) (ls : List Link) → WritesPlace s s' x o → Fits o → ((d : Link) → Member d ls → IsNumber z d × IsFormed s' d) → Forms z ls s s' Written
  place_forms o ls put fits new = record {
    anchor = anchor_formed z s s' x o b.shape put fits (same cell.Anchor);
    nodes = λ n _ is. place_formed z s s' x o r b.shape at put fits n is;
    no_leaf = no_leaf x;
    new = new;
  }

  -- a leaf in hand comes to the place
  new_leaf_forms : (i : ℕ) (k : List ℕ) (value : ℕ) → HasLeaf z v i k value → WritesPlace s s' x (Some (leaf i)) → Forms z (leaf i ∷ []) s s' Written
  new_leaf_forms i k value has put = place_forms (Some (leaf i)) (leaf i ∷ []) put has.fits (λ d j. ⊎_elim
      (λ (e : d ≡ leaf i). subst (λ y. IsNumber z y × IsFormed s' y) (sym e)
      (has.number, leaf_formed z v s i k value b.knows has s' (same (cell.Leaf i) (no_leaf x i))))
      (λ (j : ⊥). absurd j) j)

  -- ---- it comes to a free place

  module _ (k : List ℕ) (value : ℕ) (has : HasLeaf z v l k value) (put : WritesPlace s s' x (Some (leaf l))) (free : child_at_place h x ≡ None) (begins : Begins r k) where
    new : IsUnlinked h (leaf l)
    new = leaf_unlinked z v s l k value b.knows has

    key : h.key l ≡ k
    key = leaf_has_key z v s l k value b.knows has

    edits : Edits h h' x l × (child_at_place h' x ≡ Some (leaf l))
    edits = add_by_words s s' x l (record { put = put; rest = place_rest }) has.fits free new

    add_does : (f : ByteMap) → Does h h' (EditTouched l) (EditPaths h' x l r) f (insert f (h.key l) (h.value l))
    add_does f = add_law h h' x l r f b.shape.tree at edits.0 free edits.1 new (subst (Begins r) (sym key) begins)

    add_touches : Touches v [] (leaf l ∷ []) s (EditTouched l) (EditPaths h' x l r)
    add_touches = record {
      leaves = λ d i. absurd i;
      comes = λ d i. ⊎_elim (λ (e : d ≡ leaf l). ((r, (e, refl, edits.1)), in_hand v (leaf l) d e (has.hand, has.has, has.link))) (λ (i : ⊥). absurd i) i;
      stays = λ d o. inl (λ t. new o.0 (subst (λ y. StandsAt h y o.0) t o.1));
      linked = λ d q e. inl (inl e.0);
      held = λ n o t. absurd (cc);
    }

    added : ClaimedAmong v (λ n. ⊥) → Commits z v (Done (Insert (key_of k) value) Inserted) [] (leaf l ∷ []) s s'
    added among = commits_by z v s s' Written b just (Done (Insert (key_of k) value) Inserted) [] (leaf l ∷ []) (EditTouched l) (EditPaths h' x l r) (add_does empty).moves
        (inserted_rows z v s l k value b.knows has h' (absent_free h x r k b.shape.tree at free begins) (λ m rows. (add_does m).rows rows)) add_touches (new_leaf_forms l k value has put) (λ n. ⊥) among (λ n i. absurd i) tt

  -- ---- it goes

  module _ (put : WritesPlace s s' x None) (was : child_at_place h x ≡ Some (leaf l)) (two : (n : Node) (c : ℕ) → x ≡ Slot n c → HasTwo h' n) where
    drop_edits : Edits h h' x l × (child_at_place h' x ≡ None)
    drop_edits = drop_by_words s s' x l r (record { put = put; rest = place_rest }) b.shape.tree.once at was

    drop_does : (f : ByteMap) → Does h h' (EditTouched l) (EditPaths h' x l r) f (remove f (h.key l))
    drop_does f = drop_law h h' x l r f b.shape.tree at drop_edits.0 was drop_edits.1 two

    linked_leaf : StandsAt h (leaf l) r
    linked_leaf = at_place h x (leaf l) r at was

    drop_touches : Touches v (leaf l ∷ []) [] s (EditTouched l) (EditPaths h' x l r)
    drop_touches = record {
      leaves = λ d i. ⊎_elim
          (λ (e : d ≡ leaf l). (e, (r, subst (λ y. StandsAt h y r) (sym e) linked_leaf), λ q p. let gone = drop_edits.1 in let here = p.2 in absurd (cc)))
          (λ (i : ⊥). absurd i) i;
      comes = λ d i. absurd i;
      stays = λ d o. ⊎_elim (λ (e : d ≡ leaf l). inr (inl (inl e))) (λ (f : d ≢ leaf l). inl f) (same_link d (leaf l));
      linked = λ d q e. let gone = drop_edits.1 in let here = e.2 in absurd (cc);
      held = λ n o t. absurd (cc);
    }

    dropped : ClaimedAmong v (λ n. ⊥) → Commits z v (Done (Remove (key_of (h.key l))) (Removed (h.value l))) (leaf l ∷ []) [] s s'
    dropped among = commits_by z v s s' Written b just (Done (Remove (key_of (h.key l))) (Removed (h.value l))) (leaf l ∷ []) [] (EditTouched l) (EditPaths h' x l r) (drop_does empty).moves
        (remove_rows h h' l r linked_leaf (λ m rows. (drop_does m).rows rows)) drop_touches (place_forms None [] put tt (λ d i. absurd i)) (λ n. ⊥) among (λ n i. absurd i) (once_one (leaf l))

  -- ---- it gives way to another with its key

  module _ (i : ℕ) (k : List ℕ) (value : ℕ) (what : Deed) (has : HasLeaf z v i k value) (put : WritesPlace s s' x (Some (leaf i))) (was : child_at_place h x ≡ Some (leaf l)) (same_key : h.key l ≡ k) where
    other_new : IsUnlinked h (leaf i)
    other_new = leaf_unlinked z v s i k value b.knows has

    goes : StandsAt h (leaf l) r
    goes = at_place h x (leaf l) r at was

    apart : leaf l ≢ leaf i
    apart e = other_new r (subst (λ y. StandsAt h y r) e goes)

    replaces : Replaces h h' x l i
    replaces = replace_by_words s s' x l i (record { put = put; rest = place_rest }) has.fits was other_new

    replace_does : (f : ByteMap) → Does h h' (ReplaceTouched l i) (ReplacePaths i r) f (insert f (h.key i) (h.value i))
    replace_does f = replace_law h h' x l i r f b.shape.tree at replaces (leaf_has_key z v s i k value b.knows has ∙ sym same_key)

    replaced_rows : ((f : ByteMap) → HasRows h f → IsAnswered f what × (becomes f what ≡ insert f k value)) → RowsBy h h' what
    replaced_rows gives f rows =
        let o = gives f rows in
        (o.0, subst (HasRows h') (sym o.1) (subst₂ (λ j u. HasRows h' (insert f j u)) (leaf_has_key z v s i k value b.knows has) (leaf_has_value z v s i k value b.knows has) ((replace_does f).rows rows)))

    replace_touches : Touches v (leaf l ∷ []) (leaf i ∷ []) s (ReplaceTouched l i) (ReplacePaths i r)
    replace_touches = record {
      leaves = λ d j. ⊎_elim
          (λ (e : d ≡ leaf l). (inl e, (r, subst (λ y. StandsAt h y r) (sym e) goes), λ q p. apart (sym e ∙ p.0)))
          (λ (j : ⊥). absurd j) j;
      comes = λ d j. ⊎_elim (λ (e : d ≡ leaf i). ((r, (e, refl)), in_hand v (leaf i) d e (has.hand, has.has, has.link))) (λ (j : ⊥). absurd j) j;
      stays = λ d o. ⊎_elim
          (λ (e : d ≡ leaf l). inr (inl (inl e)))
          (λ (f : d ≢ leaf l). inl (λ t. ⊎_elim f (λ (e : d ≡ leaf i). other_new o.0 (subst (λ y. StandsAt h y o.0) e o.1)) t))
          (same_link d (leaf l));
      linked = λ d q e. inl (inl e.0);
      held = λ n o t. ⊎_elim (λ (e : node n ≡ leaf l). absurd (cc)) (λ (e : node n ≡ leaf i). absurd (cc)) t;
    }

    replaced : ((f : ByteMap) → HasRows h f → IsAnswered f what × (becomes f what ≡ insert f k value)) → ClaimedAmong v (λ n. ⊥) → Commits z v what (leaf l ∷ []) (leaf i ∷ []) s s'
    replaced gives among = commits_by z v s s' Written b just what (leaf l ∷ []) (leaf i ∷ []) (ReplaceTouched l i) (ReplacePaths i r) (replace_does empty).moves
        (replaced_rows gives) replace_touches (new_leaf_forms i k value has put) (λ n. ⊥) among (λ n j. absurd j) (once_one (leaf l))

pub add_commits : AddCommits
add_commits z v s s' x r l k value b has just among put at free begins = added z v s s' x r l b just at k value has put free begins among

pub drop_commits : DropCommits
drop_commits z v s s' x r l b just among put at was two = dropped z v s s' x r l b just at put was two among

pub replace_commits : ReplaceCommits
replace_commits z v s s' x r l i k value what b has just among put at was same gives = replaced z v s s' x r l b just at i k value what has put was same gives among
