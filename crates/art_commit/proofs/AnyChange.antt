-- A change of the tree is a commit, by what it touches, what it writes and what it makes of the rows.
use Rattle.std.proofs.Common.{◌≡◌, ◌⊎◌, ◌↔◌, ℕ, List, [], ◌∷◌, refl, sym, subst, inl, inr, ⊎_elim}
use Rattle.art_cell.specs.declared.cells.Node.{Node}
use Rattle.art_cell.specs.declared.cells.Cell.{Cell}
use Rattle.art_cell.specs.declared.cells.Cell.TheVariants as cell
use Rattle.art_cell.specs.declared.cells.Link.{Link}
use Rattle.art_cell.specs.declared.cells.Link.TheVariants.{Leaf as leaf, Node as node}
use Rattle.art_step.specs.declared.views.Sizes.{Sizes}
use Rattle.art_step.specs.declared.views.View.{View}
use Rattle.art_step.specs.declared.deeds.Deed.{Deed}
use Rattle.art_tree.specs.Changes.{Moves}
use Rattle.art_tree.specs.Heaps.{Cells, heap_of}
use Rattle.art_step.specs.Knowledge.{IsNodeCell, IsShape}
use Rattle.art_step.specs.Views.{IsOnce, IsNotHeld}
use Rattle.art_step.specs.Steps.Commit.{IsLinked, Commits}
use Rattle.art_tree.specs.Tree.{Heap, StandsAt}
use Rattle.art_step.specs.Views.{Member, IsNumber}
use Rattle.art_tree.specs.WordChanges.{WritesOnly}
use Rattle.art_step.proofs.StepCommits.{either_held}
use Rattle.art_commit.specs.AnyChange.{IsInHand, IsHeld, Touches, IsFormed, Forms, RowsBy}
use Rattle.art_commit.specs.CommitLaws.{Before, HoldsJust, ClaimedAmong, AnyCommits}
use Rattle.art_commit.proofs.ChangeShapes.{means_same}

-- what has the same words means the same
pub only_written : (s s' : Cells) (written : Cell → Type 0) → ((c : Cell) → (written c → ⊥) → s' c ≡ s c) → WritesOnly s s' written
only_written s s' written same c other = means_same c (s c) (s' c) (same c other)

-- one number is named once, and so are a node's and a leaf's
pub once_one : (d : Link) → IsOnce (d ∷ [])
once_one d = (λ i. absurd i, tt)

pub once_two : (n : Node) (l : ℕ) → IsOnce (node n ∷ leaf l ∷ [])
once_two n l = (⊎_elim (λ (e : node n ≡ leaf l). cc) (λ (i : ⊥). i), once_one (leaf l))

-- what is in hand
pub in_hand : (v : View) (c d : Link) → d ≡ c → IsInHand v c → IsInHand v d
in_hand v c d e i = subst (IsInHand v) (sym e) i

module _ (z : Sizes) (v : View) (s s' : Cells) (P : Cell → Type 0) (b : Before z v s s') (just : HoldsJust v P) where
  -- what it does not hold has the same words
  pub same_words : (c : Cell) → (P c → ⊥) → s' c ≡ s c
  same_words c other = b.new.there c (λ h i e. other (subst P e (just.only h i)))

  module _ (what : Deed) (us ls : List Link) (T : Link → Type 0) (E : Link → List ℕ → Type 0) (moves : Moves (heap_of s) (heap_of s') T E) (rows : RowsBy (heap_of s) (heap_of s') what)
      (touches : Touches v us ls s T E) (forms : Forms z ls s s' P) (Q : Node → Type 0) (among : ClaimedAmong v Q) (claims : (n : Node) → Q n → Member (node n) ls) where
    -- what is linked after comes, or was linked
    linked_after : (d : Link) → IsLinked s' d → Member d ls ⊎ IsLinked s d
    linked_after d o = ⊎_elim (λ (a : T d × E d o.0). touches.linked d o.0 a.1) (λ (a : (T d → ⊥) × StandsAt (heap_of s) d o.0). inr (o.0, a.1)) (moves.linked d o.0 o.1)

    -- what was linked has its form
    old_formed : (d : Link) → IsLinked s d → IsFormed s' d
    old_formed (leaf l) o = subst (λ w. IsFormed (λ _. w) (leaf l)) (sym (same_words (cell.Leaf l) (forms.no_leaf l))) (b.shape.leaves l o.0 o.1)
    old_formed (node n) o = ⊎_elim
        (λ (a : IsHeld v (cell.Node n)). forms.nodes n o (subst P a.2 (just.only a.0 a.1)))
        (λ (free : IsNotHeld v.held (cell.Node n)). subst (IsNodeCell n) (sym (b.new.there (cell.Node n) free)) (b.shape.nodes n o.0 o.1))
        (either_held v.held (cell.Node n))

    formed_after : (d : Link) → IsLinked s' d → IsNumber z d × IsFormed s' d
    formed_after d o = ⊎_elim (forms.new d) (λ (a : IsLinked s d). (b.shape.numbers d a.0 a.1, old_formed d a)) (linked_after d o)

    shape_after : IsShape z s'
    shape_after = record {
      tree = moves.sound;
      anchor = forms.anchor;
      nodes = λ n p at. (formed_after (node n) (p, at)).1;
      leaves = λ l p at. (formed_after (leaf l) (p, at)).1;
      numbers = λ d p at. (formed_after d (p, at)).0;
    }

    -- such a change is a commit
    pub commits_by : IsOnce us → Commits z v what us ls s s'
    commits_by once = record {
      shape = shape_after;
      rows = rows;
      others = λ n p free at. moves.others (node n) p (λ t. let a = touches.held n (p, at) t in free a.0 a.1 a.2) at;
      leaves = λ d i. let a = touches.leaves d i in
          (a.1, λ o. ⊎_elim (λ (e : T d × E d o.0). a.2 o.0 e.1) (λ (e : (T d → ⊥) × StandsAt (heap_of s) d o.0). e.0 a.0) (moves.linked d o.0 o.1));
      comes = λ d i. let a = touches.comes d i in ((a.0.0, moves.touched d a.0.0 a.0.1), a.1);
      once = once;
      stays = λ d o. ⊎_elim
          (λ (t : T d → ⊥). inr (o.0, moves.others d o.0 t o.1))
          (⊎_elim (λ (i : Member d us). inl i) (λ (e : (r : List ℕ) × E d r). inr (e.0, moves.touched d e.0 e.1)))
          (touches.stays d o);
      linked = linked_after;
      held = λ n i. let a = touches.leaves (node n) i in touches.held n a.1 a.0;
      claimed = λ h n i free is. claims n (among h n i free is);
    }

-- so it is of any change, by what it touches and where that stands afterwards
pub any_commits : AnyCommits
any_commits z v s s' what us ls ts es b among once moves rows touches forms =
    commits_by z v s s' (IsHeld v) b (record { each = λ c i. i; only = λ h i. (h, i, refl) }) what us ls (λ d. Member d ts) (λ d p. Member (d, p) es) moves rows touches forms (λ n. Member (node n) ls) among (λ n i. i) once

-- what moves, with the touched cells and their paths said otherwise, as by the lists that the law of all changes takes
pub moves_as : (h h' : Heap) (T T' : Link → Type 0) (E E' : Link → List ℕ → Type 0) → ((d : Link) → T d ↔ T' d) → ((d : Link) (p : List ℕ) → E d p ↔ E' d p) → Moves h h' T E → Moves h h' T' E'
moves_as h h' T T' E E' same_T same_E m = record {
  sound = m.sound;
  others = λ d r free. m.others d r (λ t. free ((same_T d).0 t));
  linked = λ d r at. ⊎_elim
      (λ (o : T d × E d r). inl ((same_T d).0 o.0, (same_E d r).0 o.1))
      (λ (o : (T d → ⊥) × StandsAt h d r). inr (λ t. o.0 ((same_T d).1 t), o.1))
      (m.linked d r at);
  touched = λ d r e. m.touched d r ((same_E d r).1 e);
}
