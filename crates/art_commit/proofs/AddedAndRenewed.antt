-- The law of two parts at work: a leaf comes to the place x while the node n at y gives way to its copy m, in one commit.
use Rattle.std.proofs.Common.{◌≡◌, ◌⊎◌, ℕ, List, [], ◌∷◌, Option, Some, None, refl, sym, subst, ⊎_elim}
use Rattle.art_cell.specs.declared.cells.Node.{Node}
use Rattle.art_cell.specs.declared.cells.Cell.{Cell}
use Rattle.art_cell.specs.declared.cells.Cell.TheVariants as cell
use Rattle.art_cell.specs.declared.cells.Link.TheVariants.{Leaf as leaf, Node as node}
use Rattle.art_model.specs.declared.commands.Answer.TheVariants.{Inserted}
use Rattle.art_step.specs.Deeds.{key_of}
use Rattle.art_step.specs.declared.deeds.Act.TheVariants.{Insert}
use Rattle.art_step.specs.declared.views.Holding.{Holding}
use Rattle.art_step.specs.declared.views.InHand.{InHand}
use Rattle.art_step.specs.declared.views.Sizes.{Sizes}
use Rattle.art_step.specs.declared.views.View.{View}
use Rattle.art_step.specs.declared.deeds.Deed.TheVariants.{Done}
use Rattle.art_commit.specs.CommitLaws.{Before, HasLeaf, HasNode, HoldsJust, ClaimedAmong}
use Rattle.art_commit.specs.TwoChanges.{held_until, for_first, for_second, IsInTwo, empty_look}
use Rattle.art_tree.specs.Heaps.{Cells, node_prefix, heap_of}
use Rattle.art_step.specs.Steps.Commit.{AllNew, Commits}
use Rattle.art_tree.specs.Tree.{Place, child_at_place, StandsAt, PlaceAt, Begins}
use Rattle.art_step.specs.Views.{Member}
use Rattle.art_tree.specs.WordChanges.{WritesPlace, WritesNode, cell_of}
use Rattle.art_cell.specs.Words.{child_of}
use Rattle.art_commit.proofs.ChangeLeaves.{add_commits}
use Rattle.art_commit.proofs.ChangeWays.{copy_commits}
use Rattle.art_commit.proofs.TwoChanges.{empty_look_stays}
use Rattle.art_commit.proofs.TwoParts.{two_parts_commit}

-- n's words before it gives way are those between the two, and so are those of y's cell, which may be x's
pub record IsRenewed (s' t : Cells) (y : Place) (q : List ℕ) (n m : Node) : Type 0 where
  pub old : s' (cell.Node n) ≡ t (cell.Node n)
  pub put : WritesPlace t s' y (Some (node m))
  pub made : WritesNode m.layout (s' (cell.Node m)) (node_prefix (t (cell.Node n))) (child_of n.layout (t (cell.Node n)))
  pub at : PlaceAt (heap_of t) y q
  pub was : child_at_place (heap_of t) y ≡ Some (node n)

module _ (z : Sizes) (v : View) (s s' : Cells) (x y : Place) (r q k : List ℕ) (l value : ℕ) (n m : Node) (hs hs' : List Holding) (xs : List InHand) (mid : Cell → List ℕ) (st : Cell → Option ℕ → Option ℕ)
    (before : Before z v s s') (parts : IsInTwo v hs hs' xs mid st) (has : HasLeaf z v l k value) (hand : HasNode z v m) (in_hand : Member hand.hand xs) (only_m : (i : InHand) → Member i xs → i.link ≡ node m)
    (holds_x : HoldsJust (for_first v mid hs) (λ c. c ≡ cell_of x)) (claims_none : ClaimedAmong (for_first v mid hs) (λ o. ⊥))
    (holds_y : HoldsJust (for_second v mid st hs' xs) (λ c. (c ≡ cell.Node n) ⊎ ((c ≡ cell.Node m) ⊎ (c ≡ cell_of y)))) (claims_m : ClaimedAmong (for_second v mid st hs' xs) (λ o. o ≡ m))
    (put : (t : Cells) → AllNew (held_until mid hs) s t → WritesPlace s t x (Some (leaf l))) (at : PlaceAt (heap_of s) x r) (free : child_at_place (heap_of s) x ≡ None) (begins : Begins r k)
    (renews : (t : Cells) → AllNew (held_until mid hs) s t → IsRenewed s' t y q n m) (stood : StandsAt (heap_of s) (node n) q) where
  leaf_first : HasLeaf z (for_first v mid hs) l k value
  leaf_first = record { hand = has.hand; has = has.has; link = has.link; words = has.words; short = has.short; number = has.number; fits = has.fits }

  node_second : HasNode z (for_second v mid st hs' xs) m
  node_second = record { hand = hand.hand; has = in_hand; link = hand.link; number = hand.number; fits = hand.fits }

  pub added_and_renewed : Commits z v (Done (Insert (key_of k) value) Inserted) (node n ∷ []) (leaf l ∷ node m ∷ []) s s'
  added_and_renewed = two_parts_commit z v s s' hs hs' xs mid st (Done (Insert (key_of k) value) Inserted) empty_look (Done (Insert (key_of k) value) Inserted) [] (leaf l ∷ []) (node n ∷ []) (node m ∷ []) before parts
      (λ i j. ⊎_elim (λ (e : i.link ≡ leaf l). let f = only_m i j in cc) (λ (none : ⊥). none))
      (λ d. ⊎_elim (λ (e : d ≡ node n). (q, subst (λ c. StandsAt (heap_of s) c q) (sym e) stood)) (λ (none : ⊥). absurd none))
      (λ f rows a b. (a, refl))
      (λ t b. add_commits z (for_first v mid hs) s t x r l k value b leaf_first holds_x claims_none (put t b.new) at free begins)
      (λ t new done b.
      let o = renews t new in
      copy_commits z (for_second v mid st hs' xs) t s' y q n m empty_look b node_second holds_y claims_m o.old o.put o.made o.at o.was (λ f rows. empty_look_stays f))
