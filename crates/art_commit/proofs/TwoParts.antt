-- One pass's change, made of two, is a commit: the words between the two, and the views for each.
use Rattle.std.proofs.Common.{◌≡◌, ℕ, List, [], ◌∷◌, Option, Some, None, refl, sym, ap, ◌∙◌, subst, inl, inr, ⊎_elim}
use Rattle.art_cell.specs.declared.cells.Cell.{Cell}
use Rattle.art_cell.specs.declared.cells.Cell.TheVariants as cell
use Rattle.art_cell.specs.declared.cells.Link.{Link}
use Rattle.art_step.specs.declared.views.Holding.{Holding}
use Rattle.art_step.specs.declared.views.InHand.{InHand}
use Rattle.art_step.specs.declared.views.Sizes.{Sizes}
use Rattle.art_step.specs.declared.views.View.{View}
use Rattle.art_step.specs.declared.deeds.Deed.{Deed}
use Rattle.art_commit.specs.AnyChange.{IsHeld}
use Rattle.art_commit.specs.CommitLaws.{Before}
use Rattle.art_commit.specs.TwoChanges.{HasBoth, held_until, held_from, for_first, for_second, IsInTwo, TwoPartsCommit}
use Rattle.art_tree.specs.Heaps.{Cells}
use Rattle.art_step.specs.Knowledge.{Holds}
use Rattle.art_step.specs.Views.{IsNotHeld}
use Rattle.art_step.specs.Steps.Commit.{Knows, AllNew, IsLinked, Commits}
use Rattle.art_step.specs.Views.{Member, words_in}
use Rattle.art_commit.proofs.TwoChanges.{joined_commits}
use Rattle.art_step.proofs.StepCommits.{either_held}

-- ---- the cells as they are held for each

until_is : (mid : Cell → List ℕ) (hs : List Holding) (k : Holding) → Member k (held_until mid hs) → (h : Holding) × Member h hs × (k ≡ record h { new = mid h.cell })
until_is mid [] k i = absurd i
until_is mid (h ∷ hs) k i = ⊎_elim
    (λ (e : k ≡ record h { new = mid h.cell }). (h, inl refl, e))
    (λ (j : Member k (held_until mid hs)). let o = until_is mid hs k j in (o.0, inr o.1, o.2)) i

until_has : (mid : Cell → List ℕ) (hs : List Holding) (h : Holding) → Member h hs → Member (record h { new = mid h.cell }) (held_until mid hs)
until_has mid [] h i = absurd i
until_has mid (k ∷ hs) h i = ⊎_elim (λ (e : h ≡ k). inl (ap (λ (y : Holding). record y { new = mid y.cell }) e)) (λ (j : Member h hs). inr (until_has mid hs h j)) i

from_is : (mid : Cell → List ℕ) (st : Cell → Option ℕ → Option ℕ) (hs : List Holding) (k : Holding) → Member k (held_from mid st hs) → (h : Holding) × Member h hs × (k ≡ record h { old = mid h.cell; stamped = st h.cell h.stamped })
from_is mid st [] k i = absurd i
from_is mid st (h ∷ hs) k i = ⊎_elim
    (λ (e : k ≡ record h { old = mid h.cell; stamped = st h.cell h.stamped }). (h, inl refl, e))
    (λ (j : Member k (held_from mid st hs)). let o = from_is mid st hs k j in (o.0, inr o.1, o.2)) i

from_has : (mid : Cell → List ℕ) (st : Cell → Option ℕ → Option ℕ) (hs : List Holding) (h : Holding) → Member h hs → Member (record h { old = mid h.cell; stamped = st h.cell h.stamped }) (held_from mid st hs)
from_has mid st [] h i = absurd i
from_has mid st (k ∷ hs) h i = ⊎_elim (λ (e : h ≡ k). inl (ap (λ (y : Holding). record y { old = mid y.cell; stamped = st y.cell y.stamped }) e)) (λ (j : Member h hs). inr (from_has mid st hs h j)) i

module _ (z : Sizes) (v : View) (s s' : Cells) (hs hs' : List Holding) (xs : List InHand) (mid : Cell → List ℕ) (st : Cell → Option ℕ → Option ℕ) (b : Before z v s s') (parts : IsInTwo v hs hs' xs mid st) where
  -- ---- the words between

  abbrev between : Cells
  between c = ⊎_elim (λ (a : IsHeld v c). words_in (mid c)) (λ (free : IsNotHeld v.held c). s c) (either_held v.held c)

  between_held : (h : Holding) → Member h v.held → between h.cell ≡ words_in (mid h.cell)
  between_held h i =
      elim (either_held v.held h.cell) as (λ y. ⊎_elim (λ (a : IsHeld v h.cell). words_in (mid h.cell)) (λ (free : IsNotHeld v.held h.cell). s h.cell) y ≡ words_in (mid h.cell)) [
        | inl a ↦ refl
        | inr free ↦ absurd (free h i refl)
      ]

  between_free : (c : Cell) → IsNotHeld v.held c → between c ≡ s c
  between_free c free =
      elim (either_held v.held c) as (λ y. ⊎_elim (λ (a : IsHeld v c). words_in (mid c)) (λ (f : IsNotHeld v.held c). s c) y ≡ s c) [
        | inl a ↦ absurd (free a.0 a.1 a.2)
        | inr f ↦ refl
      ]

  -- a cell that one of the two alone writes
  between_old : (h : Holding) → Member h v.held → IsNotHeld hs h.cell → between h.cell ≡ s h.cell
  between_old h i free = ⊎_elim
      (λ (j : Member h hs). absurd (free h j refl))
      (λ (j : Member h hs'). between_held h i ∙ ap words_in (parts.second_alone h j free) ∙ sym (b.knows.old h i))
      ((parts.held h).0 i)

  between_new : (h : Holding) → Member h v.held → IsNotHeld hs' h.cell → s' h.cell ≡ between h.cell
  between_new h i free = ⊎_elim
      (λ (j : Member h hs). b.new.here h i ∙ sym (between_held h i ∙ ap words_in (parts.first_alone h j free)))
      (λ (j : Member h hs'). absurd (free h j refl))
      ((parts.held h).0 i)

  -- ---- the first change

  in_first : (h : Holding) → Member h hs → Member h v.held
  in_first h i = (parts.held h).1 (inl i)

  in_second : (h : Holding) → Member h hs' → Member h v.held
  in_second h i = (parts.held h).1 (inr i)

  first_knows : Knows (for_first v mid hs) s
  first_knows = record {
    old = λ k i. let o = until_is mid hs k i in subst (λ (y : Holding). s y.cell ≡ words_in y.old) (sym o.2) (b.knows.old o.0 (in_first o.0 o.1));
    kept = λ k y i j at stamped.
        let o = until_is mid hs k i in
        subst (λ (a : Holding). y.stamp.cell ≡ a.cell → a.stamped ≡ Some y.stamp.version → Holds s a.cell y.fact) (sym o.2)
        (λ e f. b.knows.kept o.0 y (in_first o.0 o.1) j e f) at stamped;
    leaves = b.knows.leaves;
    hand = b.knows.hand;
  }

  first_new : AllNew (held_until mid hs) s between
  first_new = record {
    here = λ k i. let o = until_is mid hs k i in subst (λ (y : Holding). between y.cell ≡ words_in y.new) (sym o.2) (between_held o.0 (in_first o.0 o.1));
    there = λ c free. ⊎_elim
        (λ (a : IsHeld v c).
        let none : IsNotHeld hs a.0.cell = λ h i is. free (record h { new = mid h.cell }) (until_has mid hs h i) (is ∙ a.2) in
        subst (λ (d : Cell). between d ≡ s d) a.2 (between_old a.0 a.1 none))
        (between_free c)
        (either_held v.held c);
  }

  first_before : Before z (for_first v mid hs) s between
  first_before = record { shape = b.shape; knows = first_knows; new = first_new }

  -- ---- the second change

  second_new : AllNew (held_from mid st hs') between s'
  second_new = record {
    here = λ k i. let o = from_is mid st hs' k i in subst (λ (y : Holding). s' y.cell ≡ words_in y.new) (sym o.2) (b.new.here o.0 (in_second o.0 o.1));
    there = λ c free. ⊎_elim
        (λ (a : IsHeld v c).
        let none : IsNotHeld hs' a.0.cell = λ h i is. free (record h { old = mid h.cell; stamped = st h.cell h.stamped }) (from_has mid st hs' h i) (is ∙ a.2) in
        subst (λ (d : Cell). s' d ≡ between d) a.2 (between_new a.0 a.1 none))
        (λ (f : IsNotHeld v.held c). b.new.there c f ∙ sym (between_free c f))
        (either_held v.held c);
  }

  module _ (first : Deed) (us ls : List Link) (apart : (x : InHand) → Member x xs → Member x.link ls → ⊥) (done : Commits z (for_first v mid hs) first us ls s between) where
    second_knows : Knows (for_second v mid st hs' xs) between
    second_knows = record {
      old = λ k i. let o = from_is mid st hs' k i in subst (λ (y : Holding). between y.cell ≡ words_in y.old) (sym o.2) (between_held o.0 (in_second o.0 o.1));
      kept = λ k y i j at stamped. absurd j;
      leaves = λ x l i is. between_free (cell.Leaf l) (λ h j e. parts.no_leaf h l j e) ∙ b.knows.leaves x l (parts.hand x i) is;
      hand = λ x i r at. ⊎_elim (apart x i) (λ (o : IsLinked s x.link). b.knows.hand x (parts.hand x i) o.0 o.1) (done.linked x.link (r, at));
    }

    second_before : Before z (for_second v mid st hs' xs) between s'
    second_before = record { shape = done.shape; knows = second_knows; new = second_new }

  has_both : HasBoth v (for_first v mid hs) (for_second v mid st hs' xs)
  has_both = record {
    held = λ c o. ⊎_elim
        (λ (a : IsHeld (for_first v mid hs) c). let k = until_is mid hs a.0 a.1 in (k.0, in_first k.0 k.1, ap (λ (y : Holding). y.cell) (sym k.2) ∙ a.2))
        (λ (a : IsHeld (for_second v mid st hs' xs) c). let k = from_is mid st hs' a.0 a.1 in (k.0, in_second k.0 k.1, ap (λ (y : Holding). y.cell) (sym k.2) ∙ a.2)) o;
    hand = λ d o. ⊎_elim
        (λ (a : (x : InHand) × Member x v.hand × (x.link ≡ d)). a)
        (λ (a : (x : InHand) × Member x xs × (x.link ≡ d)). (a.0, parts.hand a.0 a.1, a.2)) o;
    claimed = λ n o. ⊎_elim
        (λ (i : Member o.0 hs). inl (record o.0 { new = mid o.0.cell }, until_has mid hs o.0 i, o.2, o.3))
        (λ (i : Member o.0 hs' × (st o.0.cell o.0.stamped ≡ None)). inr (record o.0 { old = mid o.0.cell; stamped = st o.0.cell o.0.stamped }, from_has mid st hs' o.0 i.0, i.1, o.3))
        (parts.claims o.0 o.1 o.2);
  }

pub two_parts_commit : TwoPartsCommit
two_parts_commit z v s s' hs hs' xs mid st first second what us ls us' ls' b parts apart was says one two =
    let done = one (between z v s s' hs hs' xs mid st b parts) (first_before z v s s' hs hs' xs mid st b parts) in
    let next = two (between z v s s' hs hs' xs mid st b parts) (first_new z v s s' hs hs' xs mid st b parts) done (second_before z v s s' hs hs' xs mid st b parts first us ls apart done) in
    joined_commits z v (for_first v mid hs) (for_second v mid st hs' xs) s (between z v s s' hs hs' xs mid st b parts) s' first second what us ls us' ls' b.knows (has_both z v s s' hs hs' xs mid st b parts) done next was says
