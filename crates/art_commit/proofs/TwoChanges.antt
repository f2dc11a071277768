-- Two changes, one after the other, are one commit.
use Rattle.std.proofs.Common.{List, [], ◌∷◌, ◌++◌, refl, sym, subst, inl, inr, ⊎_elim}
use Rattle.art_cell.specs.declared.cells.Cell.{Cell}
use Rattle.art_cell.specs.declared.cells.Cell.TheVariants as cell
use Rattle.art_cell.specs.declared.cells.Link.{Link}
use Rattle.art_cell.specs.declared.cells.Link.TheVariants.{Node as node}
use Rattle.art_step.specs.declared.views.Sizes.{Sizes}
use Rattle.art_step.specs.declared.views.View.{View}
use Rattle.art_step.specs.declared.deeds.Deed.{Deed}
use Rattle.art_commit.specs.AnyChange.{IsInHand, IsClaimed}
use Rattle.art_commit.specs.TwoChanges.{HasBoth, SaysBoth, JoinedCommits, EmptyLookStays}
use Rattle.art_tree.specs.Heaps.{Cells, heap_of}
use Rattle.art_tree.specs.Rows.{HasRows}
use Rattle.art_tree.specs.Tree.{StandsAt}
use Rattle.art_step.specs.Histories.{becomes}
use Rattle.art_step.specs.Views.{IsOnce, IsNotHeld}
use Rattle.art_step.specs.Steps.Commit.{Knows, IsLinked, Commits}
use Rattle.art_step.specs.Views.{Member}
use Rattle.art_step.proofs.SetsView.{member_append, member_front, member_back}

-- lists that share nothing name each number once, where each does
once_append : (xs ys : List Link) → IsOnce xs → IsOnce ys → ((d : Link) → Member d xs → Member d ys → ⊥) → IsOnce (xs ++ ys)
once_append [] ys ones others apart = others
once_append (x ∷ xs) ys ones others apart = (
  λ i. ⊎_elim ones.0 (apart x (inl refl)) (member_append x xs ys i),
  once_append xs ys ones.1 others (λ d i. apart d (inr i)),
)

module _ (z : Sizes) (v one two : View) (s t s' : Cells) (first second what : Deed) (us ls us' ls' : List Link) (knows : Knows v s) (both : HasBoth v one two)
    (a : Commits z one first us ls s t) (b : Commits z two second us' ls' t s') (was : (d : Link) → Member d us' → IsLinked s d) where
  -- what either does not hold
  free_one : (c : Cell) → IsNotHeld v.held c → IsNotHeld one.held c
  free_one c free h i is = let o = both.held c (inl (h, i, is)) in free o.0 o.1 o.2

  free_two : (c : Cell) → IsNotHeld v.held c → IsNotHeld two.held c
  free_two c free h i is = let o = both.held c (inr (h, i, is)) in free o.0 o.1 o.2

  -- a number in hand is not linked
  unlinked : (d : Link) → IsInHand v d → IsLinked s d → ⊥
  unlinked d i o = knows.hand i.0 i.1 o.0 (subst (λ e. StandsAt (heap_of s) e o.0) (sym i.2) o.1)

  -- so what one links the other does not unlink
  first_leaves : (d : Link) → Member d us → IsLinked s d × (IsLinked s' d → ⊥)
  first_leaves d i = let o = a.leaves d i in
      (o.0, λ e. ⊎_elim (λ (j : Member d ls'). unlinked d (both.hand d (inr (b.comes d j).1)) o.0) o.1 (b.linked d e))

  first_comes : (d : Link) → Member d ls → IsLinked s' d × IsInHand v d
  first_comes d i =
      let o = a.comes d i in
      let hand : IsInHand v d = both.hand d (inl o.1) in
      (⊎_elim (λ (j : Member d us'). absurd (unlinked d hand (was d j))) (λ (e : IsLinked s' d). e) (b.stays d o.0), hand)

  pub joined : SaysBoth s first second what → Commits z v what (us ++ us') (ls ++ ls') s s'
  joined says = record {
    shape = b.shape;
    rows = λ f rows.
        let o = a.rows f rows in
        let e = b.rows (becomes f first) o.1 in
        let both_said = says f rows o.0 e.0 in
        (both_said.0, subst (HasRows (heap_of s')) (sym both_said.1) e.1);
    others = λ n p free at. b.others n p (free_two (cell.Node n) free) (a.others n p (free_one (cell.Node n) free) at);
    leaves = λ d i. ⊎_elim (first_leaves d) (λ (j : Member d us'). (was d j, (b.leaves d j).1)) (member_append d us us' i);
    comes = λ d i. ⊎_elim (first_comes d) (λ (j : Member d ls'). let o = b.comes d j in (o.0, both.hand d (inr o.1))) (member_append d ls ls' i);
    once = once_append us us' a.once b.once (λ d i j. (a.leaves d i).1 (b.leaves d j).0);
    stays = λ d o. ⊎_elim
        (λ (i : Member d us). inl (member_front d us us' i))
        (λ (e : IsLinked t d). ⊎_elim (λ (i : Member d us'). inl (member_back d us us' i)) (λ (i : IsLinked s' d). inr i) (b.stays d e))
        (a.stays d o);
    linked = λ d o. ⊎_elim
        (λ (i : Member d ls'). inl (member_back d ls ls' i))
        (λ (e : IsLinked t d). ⊎_elim (λ (i : Member d ls). inl (member_front d ls ls' i)) (λ (i : IsLinked s d). inr i) (a.linked d e))
        (b.linked d o);
    held = λ n i. ⊎_elim
        (λ (j : Member (node n) us). both.held (cell.Node n) (inl (a.held n j)))
        (λ (j : Member (node n) us'). both.held (cell.Node n) (inr (b.held n j)))
        (member_append (node n) us us' i);
    claimed = λ h n i free is. ⊎_elim
        (λ (o : IsClaimed one n). member_front (node n) ls ls' (a.claimed o.0 n o.1 o.2 o.3))
        (λ (o : IsClaimed two n). member_back (node n) ls ls' (b.claimed o.0 n o.1 o.2 o.3))
        (both.claimed n (h, i, free, is));
  }

pub joined_commits : JoinedCommits
joined_commits z v one two s t s' first second what us ls us' ls' knows both a b was says = joined z v one two s t s' first second what us ls us' ls' knows both a b was says

-- a look of no keys finds none
pub empty_look_stays : EmptyLookStays
empty_look_stays f = ((λ k v is in_range. in_range.0 in_range.1), refl)
