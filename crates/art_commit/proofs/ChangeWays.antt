-- A node that gives way to another is a commit, where the other has a leaf more, a leaf less, or the same children.
use Rattle.std.proofs.Common.{◌≡◌, ◌≢◌, ◌⊎◌, ℕ, ◌<◌, List, [], ◌∷◌, Option, Some, None, refl, sym, ap, ◌∙◌, subst, inl, inr, ⊎_elim}
use Rattle.std.specs.FinMap.{empty, insert, remove}
use Rattle.art_cell.specs.declared.cells.Node.{Node}
use Rattle.art_cell.specs.declared.cells.Cell.{Cell}
use Rattle.art_cell.specs.declared.cells.Cell.TheVariants as cell
use Rattle.art_cell.specs.declared.cells.Link.{Link}
use Rattle.art_cell.specs.declared.cells.Link.TheVariants.{Leaf as leaf, Node as node}
use Rattle.art_model.specs.declared.commands.Answer.TheVariants.{Inserted, Removed}
use Rattle.art_step.specs.Deeds.{key_of}
use Rattle.art_step.specs.declared.deeds.Act.TheVariants.{Insert, Remove}
use Rattle.art_step.specs.declared.views.Sizes.{Sizes}
use Rattle.art_step.specs.declared.views.View.{View}
use Rattle.art_step.specs.declared.deeds.Deed.{Deed}
use Rattle.art_step.specs.declared.deeds.Deed.TheVariants.{Done}
use Rattle.art_tree.specs.Changes.{IsUnlinked, Renews, Copies}
use Rattle.art_commit.specs.CommitLaws.{Before, HasLeaf, HasNode, HoldsJust, ClaimedAmong, GrowCommits, ShrinkCommits, CopyCommits}
use Rattle.art_tree.specs.Heaps.{Cells, node_prefix, heap_of}
use Rattle.art_step.specs.Histories.{IsAnswered, becomes}
use Rattle.art_step.specs.Knowledge.{IsNodeCell}
use Rattle.art_tree.specs.Laws.{Does, RenewTouched, RenewPaths, CopyTouched, CopyPaths}
use Rattle.art_tree.specs.Rows.{ByteMap, HasRows}
use Rattle.art_step.specs.Steps.Commit.{IsLinked, Commits}
use Rattle.art_tree.specs.Tree.{Place, Slot, Heap, child_at_place, path_past, StandsAt, down, PlaceAt, Begins, HasTwo}
use Rattle.art_step.specs.Views.{Member, IsNumber}
use Rattle.art_tree.specs.WordChanges.{at_byte, WritesPlace, WritesNode, cell_of, WayByWords, WayPremises}
use Rattle.art_cell.specs.Words.{child_of}
use Rattle.art_commit.specs.AnyChange.{IsInHand, IsHeld, Touches, Forms, IsFormed}
use Rattle.art_commit.proofs.AnyChange.{in_hand, same_words, only_written, once_one, once_two, commits_by}
use Rattle.art_commit.proofs.ChangeRows.{remove_rows, inserted_rows, leaf_has_key, leaf_unlinked, leaf_formed, node_unlinked}
use Rattle.art_commit.proofs.ChangeShapes.{NameCells, at_byte_names, written_formed, place_formed, anchor_formed}
use Rattle.art_tree.proofs.Lookup.{absent_free}
use Rattle.art_tree.proofs.Meanings.{Fits, no_leaf}
use Rattle.art_tree.proofs.Places.{at_place, same_cell, same_link}
use Rattle.art_tree.proofs.TreeLaws.{grow_law, shrink_law, copy_law}
use Rattle.art_tree.proofs.WordChanges.{grow_by_words, shrink_by_words, copy_by_words}

-- ---- node n at x gives way to m, which has these child words

module _ (z : Sizes) (v : View) (s s' : Cells) (x : Place) (r : List ℕ) (n m : Node) (before : Before z v s s') (hand : HasNode z v m)
    (just : HoldsJust v (λ c. (c ≡ cell.Node n) ⊎ ((c ≡ cell.Node m) ⊎ (c ≡ cell_of x)))) (old : s' (cell.Node n) ≡ s (cell.Node n)) (put : WritesPlace s s' x (Some (node m)))
    (at : PlaceAt (heap_of s) x r) (was : child_at_place (heap_of s) x ≡ Some (node n)) where
  abbrev h : Heap
  h = heap_of s

  abbrev h' : Heap
  h' = heap_of s'

  abbrev Written : Cell → Type 0
  Written c = (c ≡ cell.Node n) ⊎ ((c ≡ cell.Node m) ⊎ (c ≡ cell_of x))

  same : (c : Cell) → (Written c → ⊥) → s' c ≡ s c
  same = same_words z v s s' Written before just

  -- the node that goes is held, but not written
  same_but : (c : Cell) → ((c ≡ cell.Node m) ⊎ (c ≡ cell_of x) → ⊥) → s' c ≡ s c
  same_but c other = ⊎_elim (λ (e : c ≡ cell.Node n). subst (λ y. s' y ≡ s y) (sym e) old) (λ (f : c ≢ cell.Node n). same c (λ w. ⊎_elim f other w)) (same_cell c (cell.Node n))

  same_leaf : (l : ℕ) → s' (cell.Leaf l) ≡ s (cell.Leaf l)
  same_leaf l = same_but (cell.Leaf l) (λ w. ⊎_elim (λ (e : cell.Leaf l ≡ cell.Node m). absurd (cc)) (no_leaf x l) w)

  fresh : IsUnlinked h (node m)
  fresh = node_unlinked z v s m before.knows hand

  at_n : StandsAt h (node n) r
  at_n = at_place h x (node n) r at was

  -- they are two nodes
  apart : node n ≢ node m
  apart e = fresh r (subst (λ y. StandsAt h y r) e at_n)

  premises : WayPremises s x r n m
  premises = (before.shape.tree.once, at, was, fresh, hand.fits)

  -- the child words of n, with another at one byte, name cells
  names : (b : ℕ) (o : Option Link) → Fits o → NameCells (at_byte (child_of n.layout (s (cell.Node n))) b o)
  names b o fits = at_byte_names (child_of n.layout (s (cell.Node n))) b o fits (before.shape.nodes n r at_n).children

  way_held : (i : Node) → IsLinked s (node i) → (node i ≡ node n) ⊎ (node i ≡ node m) → IsHeld v (cell.Node i)
  way_held i o t = ⊎_elim
      (λ (e : node i ≡ node n). let is : i ≡ n = cc in just.each (cell.Node i) (inl (ap cell.Node is)))
      (λ (e : node i ≡ node m). absurd (fresh o.0 (subst (λ y. StandsAt h y o.0) e o.1))) t

  module _ (child : ℕ → Option ℕ) (made : WritesNode m.layout (s' (cell.Node m)) (node_prefix (s (cell.Node n))) child) where
    way : WayByWords s s' x n m child
    way = record { put = put; made = made; rest = only_written s s' (λ c. (c ≡ cell.Node m) ⊎ (c ≡ cell_of x)) same_but }

    module _ (named : NameCells child) where
      m_new : (d : Link) → d ≡ node m → IsNumber z d × IsFormed s' d
      m_new d e = subst (λ y. IsNumber z y × IsFormed s' y) (sym e) (hand.number, written_formed s' m (node_prefix (s (cell.Node n))) child made named)

      way_forms : (ls : List Link) → ((d : Link) → Member d ls → IsNumber z d × IsFormed s' d) → Forms z ls s s' Written
      way_forms ls new = record {
        anchor = anchor_formed z s s' x (Some (node m)) before.shape put hand.fits (λ other. same_but cell.Anchor (λ w. ⊎_elim (λ (e : cell.Anchor ≡ cell.Node m). absurd (cc)) other w));
        nodes = λ i o w. ⊎_elim
            (λ (e : cell.Node i ≡ cell.Node n). subst (IsNodeCell i) (subst (λ y. s y ≡ s' y) (sym e) (sym old)) (before.shape.nodes i o.0 o.1))
            (⊎_elim
            (λ (e : cell.Node i ≡ cell.Node m). let is : node i ≡ node m = cc in (m_new (node i) is).1)
            (λ (e : cell.Node i ≡ cell_of x). place_formed z s s' x (Some (node m)) r before.shape at put hand.fits i e))
            w;
        no_leaf = λ l w. ⊎_elim (λ (e : cell.Leaf l ≡ cell.Node n). absurd (cc)) (⊎_elim (λ (e : cell.Leaf l ≡ cell.Node m). absurd (cc)) (no_leaf x l)) w;
        new = new;
      }

  m_in_hand : (d : Link) → d ≡ node m → IsInHand v d
  m_in_hand d e = in_hand v (node m) d e (hand.hand, hand.has, hand.link)

  -- the node that goes was linked, and is not the other
  n_goes : (d : Link) → d ≡ node n → IsLinked s d × (d ≢ node m)
  n_goes d e = ((r, subst (λ y. StandsAt h y r) (sym e) at_n), λ f. apart (sym e ∙ f))

  m_unlinked : (d : Link) → IsLinked s d → d ≢ node m
  m_unlinked d o e = fresh o.0 (subst (λ y. StandsAt h y o.0) e o.1)

  -- ---- with the same children

  module _ (what : Deed) (made : WritesNode m.layout (s' (cell.Node m)) (node_prefix (s (cell.Node n))) (child_of n.layout (s (cell.Node n)))) where
    copies : Copies h h' x n m
    copies = copy_by_words s s' x r n m (way (child_of n.layout (s (cell.Node n))) made) premises

    copy_does : (f : ByteMap) → Does h h' (CopyTouched n m) (CopyPaths m r) f f
    copy_does f = copy_law h h' x n m r f before.shape.tree at copies

    copy_touches : Touches v (node n ∷ []) (node m ∷ []) s (CopyTouched n m) (CopyPaths m r)
    copy_touches = record {
      leaves = λ d i. ⊎_elim (λ (e : d ≡ node n). (inl e, (n_goes d e).0, λ p f. (n_goes d e).1 f.0)) (λ (i : ⊥). absurd i) i;
      comes = λ d i. ⊎_elim (λ (e : d ≡ node m). ((r, (e, refl)), m_in_hand d e)) (λ (i : ⊥). absurd i) i;
      stays = λ d o. ⊎_elim (λ (e : d ≡ node n). inr (inl (inl e))) (λ (f : d ≢ node n). inl (λ t. ⊎_elim f (m_unlinked d o) t)) (same_link d (node n));
      linked = λ d p e. inl (inl e.0);
      held = way_held;
    }

    copied : ((f : ByteMap) → HasRows h f → IsAnswered f what × (becomes f what ≡ f)) → ClaimedAmong v (λ i. i ≡ m) → Commits z v what (node n ∷ []) (node m ∷ []) s s'
    copied stays among =
        let named = (before.shape.nodes n r at_n).children in
        commits_by z v s s' Written before just what (node n ∷ []) (node m ∷ []) (CopyTouched n m) (CopyPaths m r) (copy_does empty).moves
        (λ f rows. let o = stays f rows in (o.0, subst (HasRows h') (sym o.1) ((copy_does f).rows rows)))
        copy_touches
        (way_forms (child_of n.layout (s (cell.Node n))) made named (node m ∷ []) (λ d i. ⊎_elim (m_new (child_of n.layout (s (cell.Node n))) made named d) (λ (i : ⊥). absurd i) i))
        (λ i. i ≡ m) among (λ i e. inl (ap node e)) (once_one (node n))

  module _ (b l : ℕ) where
    abbrev T : Link → Type 0
    T = RenewTouched n m l

    abbrev E : Link → List ℕ → Type 0
    E = RenewPaths h h' n m b l r

    renew_held : (i : Node) → IsLinked s (node i) → T (node i) → IsHeld v (cell.Node i)
    renew_held i o t = ⊎_elim (λ (e : node i ≡ node n). way_held i o (inl e)) (⊎_elim (λ (e : node i ≡ node m). way_held i o (inr e)) (λ (e : node i ≡ leaf l). absurd (cc))) t

    n_gone : (d : Link) → d ≡ node n → T d × IsLinked s d × ((p : List ℕ) → E d p → ⊥)
    n_gone d e = (
      inl e,
      (n_goes d e).0,
      λ p f. ⊎_elim
          (λ (g : (d ≡ node m) × (p ≡ r)). (n_goes d e).1 g.0)
          (λ (g : (d ≡ leaf l) × (p ≡ path_past h n r b) × (h'.child m b ≡ Some (leaf l))). let is = g.0 in absurd (cc)) f,
    )

    -- ---- with a leaf more

    module _ (k : List ℕ) (value : ℕ) (has : HasLeaf z v l k value) (made : WritesNode m.layout (s' (cell.Node m)) (node_prefix (s (cell.Node n))) (at_byte (child_of n.layout (s (cell.Node n))) b (Some (leaf l))))
        (low : b < 256) (free : child_at_place h (Slot n b) ≡ None) (begins : Begins (path_past h n r b) k) where
      abbrev grown : ℕ → Option ℕ
      grown = at_byte (child_of n.layout (s (cell.Node n))) b (Some (leaf l))

      new_leaf : IsUnlinked h (leaf l)
      new_leaf = leaf_unlinked z v s l k value before.knows has

      key : h.key l ≡ k
      key = leaf_has_key z v s l k value before.knows has

      grows : Renews h h' x n m b l × (child_at_place h' (Slot m b) ≡ Some (leaf l))
      grows = grow_by_words s s' x r n m b l (way grown made) premises low has.fits new_leaf free

      grow_does : (f : ByteMap) → Does h h' T E f (insert f (h.key l) (h.value l))
      grow_does f = grow_law h h' x n m b l r f before.shape.tree at grows.0 grows.1 new_leaf
          (subst (Begins (path_past h n r b)) (sym key) begins)

      grow_touches : Touches v (node n ∷ []) (leaf l ∷ node m ∷ []) s T E
      grow_touches = record {
        leaves = λ d i. ⊎_elim
            (n_gone d)
            (λ (i : ⊥). absurd i) i;
        comes = λ d i. ⊎_elim
            (λ (e : d ≡ leaf l). ((path_past h n r b, inr (e, refl, grows.1)), in_hand v (leaf l) d e (has.hand, has.has, has.link)))
            (⊎_elim (λ (e : d ≡ node m). ((r, inl (e, refl)), m_in_hand d e)) (λ (i : ⊥). absurd i)) i;
        stays = λ d o. ⊎_elim
            (λ (e : d ≡ node n). inr (inl (inl e)))
            (λ (f : d ≢ node n). inl (λ t. ⊎_elim f (⊎_elim (m_unlinked d o) (λ (e : d ≡ leaf l). new_leaf o.0 (subst (λ y. StandsAt h y o.0) e o.1))) t))
            (same_link d (node n));
        linked = λ d p e. ⊎_elim
            (λ (f : (d ≡ node m) × (p ≡ r)). inl (inr (inl f.0)))
            (λ (f : (d ≡ leaf l) × (p ≡ path_past h n r b) × (h'.child m b ≡ Some (leaf l))). inl (inl f.0)) e;
        held = renew_held;
      }

      grew : ClaimedAmong v (λ i. i ≡ m) → Commits z v (Done (Insert (key_of k) value) Inserted) (node n ∷ []) (leaf l ∷ node m ∷ []) s s'
      grew among =
          let named = names b (Some (leaf l)) has.fits in
          commits_by z v s s' Written before just (Done (Insert (key_of k) value) Inserted) (node n ∷ []) (leaf l ∷ node m ∷ []) T E (grow_does empty).moves
          (inserted_rows z v s l k value before.knows has h' (absent_free h (Slot n b) (path_past h n r b) k before.shape.tree (r, at_n, refl) free begins) (λ f rows. (grow_does f).rows rows))
          grow_touches
          (way_forms grown made named (leaf l ∷ node m ∷ []) (λ d i. ⊎_elim
          (λ (e : d ≡ leaf l). subst (λ y. IsNumber z y × IsFormed s' y) (sym e) (has.number, leaf_formed z v s l k value before.knows has s' (same_leaf l)))
          (⊎_elim (m_new grown made named d) (λ (i : ⊥). absurd i)) i))
          (λ i. i ≡ m) among (λ i e. inr (inl (ap node e))) (once_one (node n))

    -- ---- with a leaf less

    module _ (made : WritesNode m.layout (s' (cell.Node m)) (node_prefix (s (cell.Node n))) (at_byte (child_of n.layout (s (cell.Node n))) b None))
        (had : child_at_place h (Slot n b) ≡ Some (leaf l)) (two : HasTwo h' m) where
      abbrev shrunk : ℕ → Option ℕ
      shrunk = at_byte (child_of n.layout (s (cell.Node n))) b None

      at_l : StandsAt h (leaf l) (path_past h n r b)
      at_l = down b at_n had refl

      shrinks : Renews h h' x n m b l × (child_at_place h' (Slot m b) ≡ None)
      shrinks = shrink_by_words s s' x r n m b l (way shrunk made) premises had

      shrink_does : (f : ByteMap) → Does h h' T E f (remove f (h.key l))
      shrink_does f = shrink_law h h' x n m b l r f before.shape.tree at shrinks.0 had shrinks.1 two

      shrink_touches : Touches v (node n ∷ leaf l ∷ []) (node m ∷ []) s T E
      shrink_touches = record {
        leaves = λ d i. ⊎_elim
            (n_gone d)
            (⊎_elim
            (λ (e : d ≡ leaf l). (
              inr (inr e),
              (path_past h n r b, subst (λ y. StandsAt h y (path_past h n r b)) (sym e) at_l),
              λ p f. ⊎_elim
                  (λ (g : (d ≡ node m) × (p ≡ r)). let is = g.0 in absurd (cc))
                  (λ (g : (d ≡ leaf l) × (p ≡ path_past h n r b) × (h'.child m b ≡ Some (leaf l))). let some = g.2 in let none = shrinks.1 in absurd (cc)) f,
            ))
            (λ (i : ⊥). absurd i)) i;
        comes = λ d i. ⊎_elim (λ (e : d ≡ node m). ((r, inl (e, refl)), m_in_hand d e)) (λ (i : ⊥). absurd i) i;
        stays = λ d o. ⊎_elim
            (λ (e : d ≡ node n). inr (inl (inl e)))
            (λ (f : d ≢ node n). ⊎_elim (λ (e : d ≡ leaf l). inr (inl (inr (inl e)))) (λ (g : d ≢ leaf l). inl (λ t. ⊎_elim f (⊎_elim (m_unlinked d o) g) t)) (same_link d (leaf l)))
            (same_link d (node n));
        linked = λ d p e. ⊎_elim
            (λ (f : (d ≡ node m) × (p ≡ r)). inl (inl f.0))
            (λ (f : (d ≡ leaf l) × (p ≡ path_past h n r b) × (h'.child m b ≡ Some (leaf l))). let some = f.2 in let none = shrinks.1 in absurd (cc)) e;
        held = renew_held;
      }

      shrank : ClaimedAmong v (λ i. i ≡ m) → Commits z v (Done (Remove (key_of (h.key l))) (Removed (h.value l))) (node n ∷ leaf l ∷ []) (node m ∷ []) s s'
      shrank among =
          let named = names b None tt in
          commits_by z v s s' Written before just (Done (Remove (key_of (h.key l))) (Removed (h.value l))) (node n ∷ leaf l ∷ []) (node m ∷ []) T E (shrink_does empty).moves
          (remove_rows h h' l (path_past h n r b) at_l (λ f rows. (shrink_does f).rows rows))
          shrink_touches
          (way_forms shrunk made named (node m ∷ []) (λ d i. ⊎_elim (m_new shrunk made named d) (λ (i : ⊥). absurd i) i))
          (λ i. i ≡ m) among (λ i e. inl (ap node e)) (once_two n l)

pub copy_commits : CopyCommits
copy_commits z v s s' x r n m what before hand just among old put made at was stays = copied z v s s' x r n m before hand just old put at was what made stays among

pub grow_commits : GrowCommits
grow_commits z v s s' x r n m b l k value before has hand just among old put made at was low free begins =
    grew z v s s' x r n m before hand just old put at was b l k value has made low free begins among

pub shrink_commits : ShrinkCommits
shrink_commits z v s s' x r n m b l before hand just among old put made at was had two = shrank z v s s' x r n m before hand just old put at was b l made had two among
