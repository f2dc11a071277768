-- The law of two parts, where the second change writes a node that the first claimed: the node n at y gives way to its copy m, and a new node o comes above the copy with a leaf, in one commit.
use Rattle.std.proofs.Common.{◌≡◌, ◌≢◌, ◌⊎◌, ℕ, ◌<◌, List, [], ◌∷◌, ◌++◌, Option, Some, refl}
use Rattle.art_cell.specs.declared.cells.Node.{Node}
use Rattle.art_cell.specs.declared.cells.Cell.{Cell}
use Rattle.art_cell.specs.declared.cells.Cell.TheVariants as cell
use Rattle.art_cell.specs.declared.cells.Link.TheVariants.{Leaf as leaf, Node as node}
use Rattle.art_model.specs.declared.commands.Answer.TheVariants.{Inserted}
use Rattle.art_step.specs.Deeds.{key_of}
use Rattle.art_step.specs.declared.deeds.Act.TheVariants.{Insert}
use Rattle.art_step.specs.declared.views.Holding.{Holding}
use Rattle.art_step.specs.declared.views.InHand.{InHand}
use Rattle.art_step.specs.declared.views.Sizes.{Sizes}
use Rattle.art_step.specs.declared.views.View.{View}
use Rattle.art_step.specs.declared.deeds.Deed.TheVariants.{Done}
use Rattle.art_commit.specs.CommitLaws.{Before, HasLeaf, HasNode, HoldsJust, ClaimedAmong, IsItsNode}
use Rattle.art_commit.specs.TwoChanges.{held_until, for_first, for_second, IsInTwo, empty_look}
use Rattle.art_tree.specs.Heaps.{Cells, node_prefix, heap_of}
use Rattle.art_step.specs.Steps.Commit.{AllNew, Commits}
use Rattle.art_tree.specs.Tree.{Place, child_at_place, PlaceAt, Begins}
use Rattle.art_step.specs.Views.{Member}
use Rattle.art_tree.specs.WordChanges.{KeepsChildren, WritesPlace, WritesNode, cell_of, two_children}
use Rattle.art_cell.specs.Words.{child_of}
use Rattle.art_commit.proofs.ChangeForks.{fork_commits}
use Rattle.art_commit.proofs.ChangeWays.{copy_commits}
use Rattle.art_commit.proofs.TwoChanges.{empty_look_stays}
use Rattle.art_commit.proofs.TwoParts.{two_parts_commit}

-- the copy stands at y between the two, and the new node comes above it
pub record IsForked (t s' : Cells) (y : Place) (q w k : List ℕ) (m o : Node) (l a b : ℕ) : Type 0 where
  pub put : WritesPlace t s' y (Some (node o))
  pub made : WritesNode o.layout (s' (cell.Node o)) w (two_children a (node m) b (leaf l))
  pub cut : KeepsChildren t s' (node m) (λ n p. node_prefix (t (cell.Node n)) ≡ w ++ a ∷ p)
  pub at : PlaceAt (heap_of t) y q
  pub was : child_at_place (heap_of t) y ≡ Some (node m)

module _ (z : Sizes) (v : View) (s s' : Cells) (y : Place) (q w k : List ℕ) (l value a b : ℕ) (n m o : Node) (hs hs' : List Holding) (xs : List InHand) (mid : Cell → List ℕ)
    (st : Cell → Option ℕ → Option ℕ) (before : Before z v s s') (parts : IsInTwo v hs hs' xs mid st)
    (has_m : HasNode z (for_first v mid hs) m) (has_l : HasLeaf z (for_second v mid st hs' xs) l k value) (has_o : HasNode z (for_second v mid st hs' xs) o)
    (apart : (i : InHand) → Member i xs → Member i.link (node m ∷ []) → ⊥)
    (holds_n : HoldsJust (for_first v mid hs) (λ c. (c ≡ cell.Node n) ⊎ ((c ≡ cell.Node m) ⊎ (c ≡ cell_of y)))) (claims_m : ClaimedAmong (for_first v mid hs) (λ x. x ≡ m))
    (holds_o : HoldsJust (for_second v mid st hs' xs) (λ d. (d ≡ cell.Node o) ⊎ ((d ≡ cell_of y) ⊎ IsItsNode (node m) d))) (claims_o : ClaimedAmong (for_second v mid st hs' xs) (λ x. x ≡ o))
    (old : (t : Cells) → AllNew (held_until mid hs) s t → t (cell.Node n) ≡ s (cell.Node n)) (put : (t : Cells) → AllNew (held_until mid hs) s t → WritesPlace s t y (Some (node m)))
    (made : (t : Cells) → AllNew (held_until mid hs) s t → WritesNode m.layout (t (cell.Node m)) (node_prefix (s (cell.Node n))) (child_of n.layout (s (cell.Node n))))
    (at : PlaceAt (heap_of s) y q) (was : child_at_place (heap_of s) y ≡ Some (node n))
    (forks : (t : Cells) → AllNew (held_until mid hs) s t → IsForked t s' y q w k m o l a b) (low_a : a < 256) (low_b : b < 256) (differ : a ≢ b) (begins : Begins (q ++ w ++ b ∷ []) k) where
  pub renewed_and_forked : Commits z v (Done (Insert (key_of k) value) Inserted) (node n ∷ []) (node m ∷ leaf l ∷ node o ∷ []) s s'
  renewed_and_forked = two_parts_commit z v s s' hs hs' xs mid st empty_look (Done (Insert (key_of k) value) Inserted) (Done (Insert (key_of k) value) Inserted)
      (node n ∷ []) (node m ∷ []) [] (leaf l ∷ node o ∷ []) before parts apart (λ d none. absurd none) (λ f rows e g. (g, refl))
      (λ t e. copy_commits z (for_first v mid hs) s t y q n m empty_look e has_m holds_n claims_m (old t e.new) (put t e.new) (made t e.new) at was (λ f rows. empty_look_stays f))
      (λ t new done e.
      let j = forks t new in
      fork_commits z (for_second v mid st hs' xs) t s' y q (node m) o l a b w k value e has_l has_o holds_o claims_o j.put j.made j.cut j.at j.was low_a low_b differ (λ i e. absurd (cc)) begins)
