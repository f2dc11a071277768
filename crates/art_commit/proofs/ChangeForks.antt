-- A node that comes between a place and what it held is a commit.
use Rattle.std.proofs.Common.{◌≡◌, ◌≢◌, ◌⊎◌, ℕ, ◌<◌, ◌≤◌, List, [], ◌∷◌, ◌++◌, length, Some, refl, sym, ap, ◌∙◌, subst, inl, inr, ⊎_elim}
use Rattle.std.specs.FinMap.{empty, insert}
use Rattle.art_cell.specs.declared.cells.Node.{Node}
use Rattle.art_cell.specs.declared.cells.Cell.{Cell}
use Rattle.art_cell.specs.declared.cells.Cell.TheVariants as cell
use Rattle.art_cell.specs.declared.cells.Link.{Link}
use Rattle.art_cell.specs.declared.cells.Link.TheVariants.{Leaf as leaf, Node as node}
use Rattle.art_model.specs.declared.commands.Answer.TheVariants.{Inserted}
use Rattle.art_step.specs.Deeds.{key_of}
use Rattle.art_step.specs.declared.deeds.Act.TheVariants.{Insert}
use Rattle.art_step.specs.declared.views.Sizes.{Sizes}
use Rattle.art_step.specs.declared.views.View.{View}
use Rattle.art_step.specs.declared.deeds.Deed.TheVariants.{Done}
use Rattle.art_tree.specs.Changes.{IsUnlinked, Forks}
use Rattle.art_commit.specs.CommitLaws.{Before, HasLeaf, HasNode, HoldsJust, ClaimedAmong, IsItsNode, ForkCommits}
use Rattle.art_tree.specs.Heaps.{Cells, node_prefix, heap_of}
use Rattle.art_step.specs.Knowledge.{IsNodeCell}
use Rattle.art_tree.specs.Laws.{Does, ForkTouched, ForkPaths}
use Rattle.art_tree.specs.Rows.{ByteMap}
use Rattle.art_step.specs.Steps.Commit.{Commits}
use Rattle.art_tree.specs.Tree.{Place, Heap, child_at_place, path_past, StandsAt, PlaceAt, Begins}
use Rattle.art_step.specs.Views.{IsNumber}
use Rattle.art_tree.specs.WordChanges.{FitsWord, WritesPlace, WritesNode, two_children, cell_of, KeepsChildren}
use Rattle.art_commit.specs.AnyChange.{Touches, Forms, IsFormed}
use Rattle.art_commit.proofs.AnyChange.{in_hand, same_words, only_written, commits_by}
use Rattle.art_commit.proofs.ChangeRows.{inserted_rows, leaf_has_key, leaf_unlinked, leaf_formed, node_unlinked}
use Rattle.art_commit.proofs.ChangeShapes.{held_fits, two_children_name, written_formed, kept_formed, place_formed, anchor_formed}
use Rattle.art_tree.proofs.Fork.{absent_forked}
use Rattle.art_tree.proofs.Meanings.{no_leaf}
use Rattle.art_tree.proofs.Places.{at_place, same_link}
use Rattle.art_tree.proofs.TreeLaws.{fork_law}
use Rattle.art_tree.proofs.WordChanges.{fork_by_words}

module _ (z : Sizes) (v : View) (s s' : Cells) (x : Place) (r : List ℕ) (c : Link) (m : Node) (l a b : ℕ) (q k : List ℕ) (value : ℕ) (before : Before z v s s') (has : HasLeaf z v l k value) (hand : HasNode z v m)
    (just : HoldsJust v (λ d. (d ≡ cell.Node m) ⊎ ((d ≡ cell_of x) ⊎ IsItsNode c d))) (among : ClaimedAmong v (λ i. i ≡ m))
    (put : WritesPlace s s' x (Some (node m))) (made : WritesNode m.layout (s' (cell.Node m)) q (two_children a c b (leaf l)))
    (cut : KeepsChildren s s' c (λ n p. node_prefix (s (cell.Node n)) ≡ q ++ a ∷ p))
    (at : PlaceAt (heap_of s) x r) (was : child_at_place (heap_of s) x ≡ Some c) (a-low : a < 256) (b-low : b < 256) (apart : a ≢ b)
    (begins_c : (i : ℕ) → c ≡ leaf i → Begins (r ++ q ++ a ∷ []) ((heap_of s).key i)) (begins : Begins (r ++ q ++ b ∷ []) k) where
  abbrev h : Heap
  h = heap_of s

  abbrev h' : Heap
  h' = heap_of s'

  abbrev Written : Cell → Type 0
  Written d = (d ≡ cell.Node m) ⊎ ((d ≡ cell_of x) ⊎ IsItsNode c d)

  same : (d : Cell) → (Written d → ⊥) → s' d ≡ s d
  same = same_words z v s s' Written before just

  new : IsUnlinked h (leaf l)
  new = leaf_unlinked z v s l k value before.knows has

  fresh : IsUnlinked h (node m)
  fresh = node_unlinked z v s m before.knows hand

  key : h.key l ≡ k
  key = leaf_has_key z v s l k value before.knows has

  fits : FitsWord c
  fits = held_fits s x c was

  at_c : StandsAt h c r
  at_c = at_place h x c r at was

  forks : Forks h h' x c m l a b × (h'.prefix m ≡ q)
  forks = fork_by_words s s' x r c m l a b q (record { put = put; made = made; cut = cut; rest = only_written s s' Written same }) before.shape.tree.once at was fresh new a-low b-low apart fits hand.fits has.fits

  above_c : (i : ℕ) → c ≡ leaf i → Begins (path_past h' m r a) (h.key i)
  above_c i e = subst (λ p. Begins (r ++ p ++ a ∷ []) (h.key i)) (sym forks.1) (begins_c i e)

  above_l : Begins (path_past h' m r b) k
  above_l = subst (λ p. Begins (r ++ p ++ b ∷ []) k) (sym forks.1) begins

  fork_does : (f : ByteMap) → Does h h' (ForkTouched c m l) (ForkPaths h' c m l a b r) f (insert f (h.key l) (h.value l))
  fork_does f = fork_law h h' x c m l a b r f before.shape.tree at forks.0
      above_c (subst (Begins (path_past h' m r b)) (sym key) above_l) (subst (λ j. length j ≤ 64) (sym key) has.short)

  fork_touches : Touches v [] (leaf l ∷ node m ∷ []) s (ForkTouched c m l) (ForkPaths h' c m l a b r)
  fork_touches = record {
    leaves = λ d i. absurd i;
    comes = λ d i. ⊎_elim
        (λ (e : d ≡ leaf l). ((path_past h' m r b, inr (inr (e, refl))), in_hand v (leaf l) d e (has.hand, has.has, has.link)))
        (⊎_elim (λ (e : d ≡ node m). ((r, inr (inl (e, refl))), in_hand v (node m) d e (hand.hand, hand.has, hand.link))) (λ (i : ⊥). absurd i)) i;
    stays = λ d o. ⊎_elim
        (λ (e : d ≡ c). inr (inr (path_past h' m r a, inl (e, refl))))
        (λ (f : d ≢ c). inl (λ t. ⊎_elim f (⊎_elim (λ (e : d ≡ node m). fresh o.0 (subst (λ y. StandsAt h y o.0) e o.1)) (λ (e : d ≡ leaf l). new o.0 (subst (λ y. StandsAt h y o.0) e o.1))) t))
        (same_link d c);
    linked = λ d p e. ⊎_elim
        (λ (f : (d ≡ c) × (p ≡ path_past h' m r a)). inr (r, subst (λ y. StandsAt h y r) (sym f.0) at_c))
        (⊎_elim (λ (f : (d ≡ node m) × (p ≡ r)). inl (inr (inl f.0))) (λ (f : (d ≡ leaf l) × (p ≡ path_past h' m r b)). inl (inl f.0))) e;
    held = λ n o t. ⊎_elim
        (λ (e : node n ≡ c). just.each (cell.Node n) (inr (inr (n, sym e, refl))))
        (⊎_elim (λ (e : node n ≡ node m). absurd (fresh o.0 (subst (λ y. StandsAt h y o.0) e o.1))) (λ (e : node n ≡ leaf l). absurd (cc))) t;
  }

  m_formed : IsNodeCell m (s' (cell.Node m))
  m_formed = written_formed s' m q (two_children a c b (leaf l)) made (two_children_name a c b (leaf l) fits has.fits)

  fork_leaf : (i : ℕ) → Written (cell.Leaf i) → ⊥
  fork_leaf i w = ⊎_elim (λ (e : cell.Leaf i ≡ cell.Node m). absurd (cc)) (⊎_elim (no_leaf x i) (λ (o : IsItsNode c (cell.Leaf i)). let e = o.2 in absurd (cc))) w

  fork_forms : Forms z (leaf l ∷ node m ∷ []) s s' Written
  fork_forms = record {
    anchor = anchor_formed z s s' x (Some (node m)) before.shape put hand.fits (λ other.
        same cell.Anchor (λ w. ⊎_elim (λ (e : cell.Anchor ≡ cell.Node m). absurd (cc)) (⊎_elim other (λ (o : IsItsNode c cell.Anchor). let e = o.2 in absurd (cc))) w));
    nodes = λ n o w. ⊎_elim
        (λ (e : cell.Node n ≡ cell.Node m). let is : m ≡ n = cc in subst (λ y. IsNodeCell y (s' (cell.Node y))) is m_formed)
        (⊎_elim
        (λ (e : cell.Node n ≡ cell_of x). place_formed z s s' x (Some (node m)) r before.shape at put hand.fits n e)
        (λ (i : IsItsNode c (cell.Node n)). let e = i.2 in let is : i.0 ≡ n = cc in kept_formed s s' c _ n cut (i.1 ∙ ap node is) (before.shape.nodes n o.0 o.1)))
        w;
    no_leaf = fork_leaf;
    new = λ d i. ⊎_elim
        (λ (e : d ≡ leaf l). subst (λ y. IsNumber z y × IsFormed s' y) (sym e) (has.number, leaf_formed z v s l k value before.knows has s' (same (cell.Leaf l) (fork_leaf l))))
        (⊎_elim (λ (e : d ≡ node m). subst (λ y. IsNumber z y × IsFormed s' y) (sym e) (hand.number, m_formed)) (λ (i : ⊥). absurd i)) i;
  }

  forked : Commits z v (Done (Insert (key_of k) value) Inserted) [] (leaf l ∷ node m ∷ []) s s'
  forked = commits_by z v s s' Written before just (Done (Insert (key_of k) value) Inserted) [] (leaf l ∷ node m ∷ []) (ForkTouched c m l) (ForkPaths h' c m l a b r) (fork_does empty).moves
      (inserted_rows z v s l k value before.knows has h' (absent_forked h h' x c m l a b r k before.shape.tree at forks.0 above_c above_l) (λ f rows. (fork_does f).rows rows)) fork_touches fork_forms (λ i. i ≡ m) among (λ n e. inr (inl (ap node e))) tt

pub fork_commits : ForkCommits
fork_commits = forked
