-- A change beside which a node gives way to its copy is one commit.
use Rattle.std.proofs.Common.{◌≡◌, ◌≢◌, ◌⊎◌, ◌↔◌, ℕ, List, [], ◌∷◌, ◌++◌, Some, None, refl, sym, ap, ◌∙◌, subst, inl, inr, ⊎_elim}
use Rattle.art_cell.specs.declared.cells.Node.{Node}
use Rattle.art_cell.specs.declared.cells.Cell.{Cell}
use Rattle.art_cell.specs.declared.cells.Cell.TheVariants as cell
use Rattle.art_cell.specs.declared.cells.Link.{Link}
use Rattle.art_cell.specs.declared.cells.Link.TheVariants.{Leaf as leaf, Node as node}
use Rattle.art_step.specs.declared.views.Holding.{Holding}
use Rattle.art_step.specs.declared.views.InHand.{InHand}
use Rattle.art_step.specs.declared.views.Sizes.{Sizes}
use Rattle.art_step.specs.declared.views.View.{View}
use Rattle.art_step.specs.declared.deeds.Deed.{Deed}
use Rattle.art_cell.specs.Bodies.{IsBody}
use Rattle.art_cell.specs.Words.{Words, child_of}
use Rattle.art_commit.specs.AnyChange.{IsHeld}
use Rattle.art_commit.specs.CommitLaws.{Before, ClaimedAmong, HasNode, HoldsJust}
use Rattle.art_commit.specs.Renewals.{IsBeside, IsHeldAs, MayRenew, Names, StaysNamed, WritesCopy, for_change}
use Rattle.art_commit.specs.TwoChanges.{HasBoth, empty_look}
use Rattle.art_step.specs.Histories.{becomes}
use Rattle.art_step.specs.Knowledge.{Holds, IsLeafCell, IsNodeCell, IsShape, NamesCell}
use Rattle.art_step.specs.Steps.Commit.{AllNew, Commits, IsLinked, Knows}
use Rattle.art_step.specs.Views.{IsNotHeld, Member, words_in}
use Rattle.art_step.proofs.StepCommits.{either_held}
use Rattle.art_tree.specs.Changes.{SameTree}
use Rattle.art_cell.specs.Children.{link_of}
use Rattle.art_tree.specs.Heaps.{Cells, heap_of, node_child, node_prefix}
use Rattle.art_tree.specs.Tree.{Place, PlaceAt, Slot, StandsAt, Top, child_at_place}
use Rattle.art_tree.specs.WordChanges.{SameByWords, WritesNode, cell_of}
use Rattle.art_tree.proofs.Frame.{frame_paths, frame_rows, frame_sound}
use Rattle.art_tree.proofs.Meanings.{same_tree}
use Rattle.art_tree.proofs.Places.{at_place, same_cell}
use Rattle.art_commit.proofs.ChangeShapes.{means_same}
use Rattle.art_commit.proofs.ChangeWays.{copy_commits}
use Rattle.art_commit.proofs.TwoChanges.{empty_look_stays, joined_commits}

-- ---- the words of a node that leaves the tree do not matter

module _ (z : Sizes) (v : View) (what : Deed) (us ls : List Link) (s s₁ s' : Cells) (n : Node) (done : Commits z v what us ls s s₁) (gone : IsLinked s₁ (node n) → ⊥)
    (same : (c : Cell) → c ≢ cell.Node n → s' c ≡ s₁ c) where
  -- each linked cell has its words
  same_linked : (d : Node) (p : List ℕ) → StandsAt (heap_of s₁) (node d) p → s' (cell.Node d) ≡ s₁ (cell.Node d)
  same_linked d p at = same (cell.Node d) (λ e. let is : node d ≡ node n = cc in gone (p, subst (λ y. StandsAt (heap_of s₁) y p) is at))

  same_leaf : (l : ℕ) → s' (cell.Leaf l) ≡ s₁ (cell.Leaf l)
  same_leaf l = same (cell.Leaf l) (λ e. cc)

  same_anchor : s' cell.Anchor ≡ s₁ cell.Anchor
  same_anchor = same cell.Anchor (λ e. cc)

  by_words : SameByWords s₁ s'
  by_words = record {
    anchor = means_same cell.Anchor (s₁ cell.Anchor) (s' cell.Anchor) same_anchor;
    leaves = λ l p at. means_same (cell.Leaf l) (s₁ (cell.Leaf l)) (s' (cell.Leaf l)) (same_leaf l);
    nodes = λ d p at. means_same (cell.Node d) (s₁ (cell.Node d)) (s' (cell.Node d)) (same_linked d p at);
  }

  tree : SameTree (heap_of s₁) (heap_of s')
  tree = same_tree s₁ s' by_words

  paths : (d : Link) (p : List ℕ) → StandsAt (heap_of s₁) d p ↔ StandsAt (heap_of s') d p
  paths = frame_paths (heap_of s₁) (heap_of s') tree

  on : (d : Link) → IsLinked s₁ d → IsLinked s' d
  on d o = (o.0, (paths d o.0).0 o.1)

  back : (d : Link) → IsLinked s' d → IsLinked s₁ d
  back d o = (o.0, (paths d o.0).1 o.1)

  shape : IsShape z s'
  shape = let k = done.shape in record {
    tree = frame_sound (heap_of s₁) (heap_of s') tree k.tree;
    anchor = subst (λ (w : Words). (w 1 ≡ 0) ⊎ NamesCell (w 1)) (sym same_anchor) k.anchor;
    nodes = λ d p at. let was = (paths (node d) p).1 at in subst (IsNodeCell d) (sym (same_linked d p was)) (k.nodes d p was);
    leaves = λ l p at. subst IsLeafCell (sym (same_leaf l)) (k.leaves l p ((paths (leaf l) p).1 at));
    numbers = λ d p at. k.numbers d p ((paths d p).1 at);
  }

  pub frame_commits : Commits z v what us ls s s'
  frame_commits = record {
    shape = shape;
    rows = λ f rows. let o = done.rows f rows in (o.0, frame_rows (heap_of s₁) (heap_of s') tree (becomes f what) o.1);
    others = λ d p free at. (paths (node d) p).0 (done.others d p free at);
    leaves = λ d i. let o = done.leaves d i in (o.0, λ e. o.1 (back d e));
    comes = λ d i. let o = done.comes d i in (on d o.0, o.1);
    once = done.once;
    stays = λ d o. ⊎_elim (λ (i : Member d us). inl i) (λ (e : IsLinked s₁ d). inr (on d e)) (done.stays d o);
    linked = λ d o. done.linked d (back d o);
    held = done.held;
    claimed = done.claimed;
  }

-- ---- the change, and then the copy

module _ (z : Sizes) (v : View) (hs : List Holding) (n m : Node) (x : Place) (worn copy above : Holding) (ns xs : List ℕ) (beside : IsBeside v hs n m x worn copy above ns xs)
    (s s' : Cells) (before : Before z v s s') where
  abbrev IsIn : Cell → Type 0
  IsIn c = (h : Holding) × Member h hs × (h.cell ≡ c)

  -- the words after the change alone
  abbrev between : Cells
  between c = ⊎_elim (λ (a : IsIn c). words_in a.0.new) (λ (free : IsNotHeld hs c). s c) (either_held hs c)

  between_held : (h : Holding) → Member h hs → between h.cell ≡ words_in h.new
  between_held h i =
      elim (either_held hs h.cell) as (λ y. ⊎_elim (λ (a : IsIn h.cell). words_in a.0.new) (λ (free : IsNotHeld hs h.cell). s h.cell) y ≡ words_in h.new) [
        | inl a ↦ ap (λ (k : Holding). words_in k.new) (beside.single a.0 h a.1 i a.2)
        | inr free ↦ absurd (free h i refl)
      ]

  between_free : (c : Cell) → IsNotHeld hs c → between c ≡ s c
  between_free c free =
      elim (either_held hs c) as (λ y. ⊎_elim (λ (a : IsIn c). words_in a.0.new) (λ (f : IsNotHeld hs c). s c) y ≡ s c) [
        | inl a ↦ absurd (free a.0 a.1 a.2)
        | inr f ↦ refl
      ]

  -- a cell that is held has these words, which are its old ones where the change does not write it
  between_is : (h : Holding) (c : Cell) (ws : List ℕ) → Member h v.held → h.cell ≡ c → ((k : Holding) → Member k hs → k.cell ≡ c → k.new ≡ ws) → (IsNotHeld hs c → ws ≡ h.old) → between c ≡ words_in ws
  between_is h c ws i is new rests = ⊎_elim
      (λ (a : IsIn c). subst (λ (d : Cell). between d ≡ words_in ws) a.2 (between_held a.0 a.1 ∙ ap words_in (new a.0 a.1 a.2)))
      (λ (free : IsNotHeld hs c). between_free c free ∙ (subst (λ (d : Cell). s d ≡ words_in h.old) is (before.knows.old h i) ∙ ap words_in (sym (rests free))))
      (either_held hs c)

  worn_between : between (cell.Node n) ≡ words_in ns
  worn_between = between_is worn (cell.Node n) ns beside.worn_held beside.worn_is beside.worn_words beside.worn_rests

  above_between : between (cell_of x) ≡ words_in xs
  above_between = between_is above (cell_of x) xs beside.above_held beside.above_is beside.above_words beside.above_rests

  copy_between : between (cell.Node m) ≡ words_in copy.old
  copy_between = between_free (cell.Node m) beside.not_copy ∙ subst (λ (d : Cell). s d ≡ words_in copy.old) beside.copy_is (before.knows.old copy beside.copy_held)

  -- ---- the change

  abbrev one : View
  one = for_change v hs

  one_knows : Knows one s
  one_knows = record {
    old = λ k i.
        let o = beside.part k i in
        subst (λ (c : Cell). s c ≡ words_in k.old) o.cell (before.knows.old o.holding o.has ∙ ap words_in o.old);
    kept = λ k y i j at stamped.
        let o = beside.part k i in
        subst (λ (c : Cell). Holds s c y.fact) o.cell (before.knows.kept o.holding y o.has j (at ∙ sym o.cell) (o.stamped ∙ stamped));
    leaves = before.knows.leaves;
    hand = before.knows.hand;
  }

  one_new : AllNew hs s between
  one_new = record { here = between_held; there = between_free }

  -- ---- the copy

  -- all words after both, but for those of n, which are as after the change alone
  abbrev as_copied : Cells
  as_copied c = ⊎_elim (λ (e : c ≡ cell.Node n). between c) (λ (other : c ≢ cell.Node n). s' c) (same_cell c (cell.Node n))

  copied_worn : as_copied (cell.Node n) ≡ between (cell.Node n)
  copied_worn =
      elim (same_cell (cell.Node n) (cell.Node n)) as (λ y. ⊎_elim (λ (e : cell.Node n ≡ cell.Node n). between (cell.Node n)) (λ (other : cell.Node n ≢ cell.Node n). s' (cell.Node n)) y ≡ between (cell.Node n)) [
        | inl e ↦ refl
        | inr other ↦ absurd (other refl)
      ]

  copied_other : (c : Cell) → c ≢ cell.Node n → as_copied c ≡ s' c
  copied_other c not_n =
      elim (same_cell c (cell.Node n)) as (λ y. ⊎_elim (λ (e : c ≡ cell.Node n). between c) (λ (other : c ≢ cell.Node n). s' c) y ≡ s' c) [
        | inl e ↦ absurd (not_n e)
        | inr other ↦ refl
      ]

  copy_not_worn : cell.Node m ≢ cell.Node n
  copy_not_worn e = beside.apart (let is : n ≡ m = cc in is)

  copied_copy : as_copied (cell.Node m) ≡ words_in copy.new
  copied_copy = copied_other (cell.Node m) copy_not_worn ∙ subst (λ (d : Cell). s' d ≡ words_in copy.new) beside.copy_is (before.new.here copy beside.copy_held)

  copied_above : as_copied (cell_of x) ≡ words_in above.new
  copied_above = copied_other (cell_of x) beside.above_apart ∙ subst (λ (d : Cell). s' d ≡ words_in above.new) beside.above_is (before.new.here above beside.above_held)

  -- any other cell has the words of before the copy
  copied_rest : (c : Cell) → c ≢ cell.Node n → c ≢ cell.Node m → c ≢ cell_of x → as_copied c ≡ between c
  copied_rest c not_n not_m not_x = copied_other c not_n ∙ ⊎_elim
      (λ (a : IsHeld v c). ⊎_elim
      (λ (o : IsHeldAs hs a.0).
      let is : o.holding.cell ≡ c = o.cell ∙ a.2 in
      let new = beside.stays o.holding a.0 o.has a.1 o.cell (λ e. not_n (sym is ∙ e)) (λ e. not_x (sym is ∙ e)) in
      subst (λ (d : Cell). s' d ≡ words_in a.0.new) a.2 (before.new.here a.0 a.1) ∙ (ap words_in (sym new) ∙ sym (subst (λ (d : Cell). between d ≡ words_in o.holding.new) is (between_held o.holding o.has))))
      (⊎_elim
      (λ (e : a.0 ≡ worn). absurd (not_n (sym a.2 ∙ (ap (λ (h : Holding). h.cell) e ∙ beside.worn_is))))
      (⊎_elim
      (λ (e : a.0 ≡ copy). absurd (not_m (sym a.2 ∙ (ap (λ (h : Holding). h.cell) e ∙ beside.copy_is))))
      (λ (e : a.0 ≡ above). absurd (not_x (sym a.2 ∙ (ap (λ (h : Holding). h.cell) e ∙ beside.above_is))))))
      (beside.rest a.0 a.1))
      (λ (free : IsNotHeld v.held c).
      before.new.there c free ∙ sym (between_free c (λ h i is. let o = beside.part h i in free o.holding o.has (o.cell ∙ is))))
      (either_held v.held c)

  abbrev worn_two : Holding
  worn_two = record { cell = cell.Node n; stamped = Some 0; old = ns; new = ns }

  abbrev copy_two : Holding
  copy_two = record { cell = cell.Node m; stamped = None; old = copy.old; new = copy.new }

  abbrev above_two : Holding
  above_two = record { cell = cell_of x; stamped = Some 0; old = xs; new = above.new }

  abbrev held_two : List Holding
  held_two = worn_two ∷ copy_two ∷ above_two ∷ []

  module _ (has : HasNode z v m) (writes : WritesCopy n m x copy above ns xs) where
    abbrev two : View
    two = record v { held = held_two; notes = []; hand = has.hand ∷ [] }

    -- what is so of the three is so of each
    each_two : (P : Holding → Type 0) → P worn_two → P copy_two → P above_two → (h : Holding) → Member h held_two → P h
    each_two P a b c h i = ⊎_elim
        (λ (e : h ≡ worn_two). subst P (sym e) a)
        (⊎_elim
        (λ (e : h ≡ copy_two). subst P (sym e) b)
        (⊎_elim
        (λ (e : h ≡ above_two). subst P (sym e) c)
        (λ (none : ⊥). absurd none))) i

    two_new : AllNew held_two between as_copied
    two_new = record {
      here = each_two (λ h. as_copied h.cell ≡ words_in h.new) (copied_worn ∙ worn_between) copied_copy copied_above;
      there = λ c free. copied_rest c (λ e. free worn_two (inl refl) (sym e)) (λ e. free copy_two (inr (inl refl)) (sym e)) (λ e. free above_two (inr (inr (inl refl))) (sym e));
    }

    -- a claimed cell that is held as one of hs is was claimed for the change
    claimed_one : (o : Node) (h : Holding) → IsHeldAs hs h → h.stamped ≡ None → h.cell ≡ cell.Node o → (k : Holding) × Member k hs × (k.stamped ≡ None) × (k.cell ≡ cell.Node o)
    claimed_one o h k none is = (k.holding, k.has, k.stamped ∙ none, k.cell ∙ is)

    has_both : HasBoth v one two
    has_both = record {
      held = λ c o. ⊎_elim
          (λ (a : IsHeld one c). let k = beside.part a.0 a.1 in (k.holding, k.has, k.cell ∙ a.2))
          (λ (a : IsHeld two c). each_two (λ h. h.cell ≡ c → IsHeld v c)
          (λ e. (worn, beside.worn_held, beside.worn_is ∙ e)) (λ e. (copy, beside.copy_held, beside.copy_is ∙ e)) (λ e. (above, beside.above_held, beside.above_is ∙ e)) a.0 a.1 a.2) o;
      hand = λ d o. ⊎_elim
          (λ (a : (i : InHand) × Member i v.hand × (i.link ≡ d)). a)
          (λ (a : (i : InHand) × Member i (has.hand ∷ []) × (i.link ≡ d)). ⊎_elim
          (λ (e : a.0 ≡ has.hand). (has.hand, has.has, ap (λ (y : InHand). y.link) (sym e) ∙ a.2))
          (λ (none : ⊥). absurd none) a.1) o;
      claimed = λ o k. ⊎_elim
          (λ (i : IsHeldAs hs k.0). inl (claimed_one o k.0 i k.2 k.3))
          (⊎_elim
          (λ (e : k.0 ≡ worn). let a = beside.worn_stamped in let none : None ≡ Some a.0 = sym k.2 ∙ (ap (λ (h : Holding). h.stamped) e ∙ a.1) in absurd (cc))
          (⊎_elim
          (λ (e : k.0 ≡ copy). inr (copy_two, inr (inl refl), refl, sym beside.copy_is ∙ (ap (λ (h : Holding). h.cell) (sym e) ∙ k.3)))
          (λ (e : k.0 ≡ above).
          let free : above.stamped ≡ None = ap (λ (h : Holding). h.stamped) (sym e) ∙ k.2 in
          inl (claimed_one o above (beside.above_claimed free) free (ap (λ (h : Holding). h.cell) (sym e) ∙ k.3)))))
          (beside.rest k.0 k.1);
    }

    just_two : HoldsJust two (λ c. (c ≡ cell.Node n) ⊎ ((c ≡ cell.Node m) ⊎ (c ≡ cell_of x)))
    just_two = record {
      each = λ c o. ⊎_elim
          (λ (e : c ≡ cell.Node n). (worn_two, inl refl, sym e))
          (⊎_elim (λ (e : c ≡ cell.Node m). (copy_two, inr (inl refl), sym e)) (λ (e : c ≡ cell_of x). (above_two, inr (inr (inl refl)), sym e))) o;
      only = each_two (λ h. (h.cell ≡ cell.Node n) ⊎ ((h.cell ≡ cell.Node m) ⊎ (h.cell ≡ cell_of x))) (inl refl) (inr (inl refl)) (inr (inr refl));
    }

    among_two : ClaimedAmong two (λ o. o ≡ m)
    among_two h o i = each_two (λ h. h.stamped ≡ None → h.cell ≡ cell.Node o → o ≡ m) (λ e is. absurd (cc)) (λ e is. cc) (λ e is. absurd (cc)) h i

    node_two : HasNode z two m
    node_two = record { hand = has.hand; has = inl refl; link = has.link; number = has.number; fits = has.fits }

    module _ (what : Deed) (us ls : List Link) (apart : Member (node m) ls → ⊥) (done : Commits z one what us ls s between) where
      copy_unlinked : (r : List ℕ) → StandsAt (heap_of between) (node m) r → ⊥
      copy_unlinked r at = ⊎_elim apart
          (λ (o : IsLinked s (node m)). before.knows.hand has.hand has.has o.0 (subst (λ y. StandsAt (heap_of s) y o.0) (sym has.link) o.1))
          (done.linked (node m) (r, at))

      two_knows : Knows two between
      two_knows = record {
        old = each_two (λ h. between h.cell ≡ words_in h.old) worn_between copy_between above_between;
        kept = λ h y i j e f. absurd j;
        leaves = λ i l j e. ⊎_elim
            (λ (is : i ≡ has.hand). let a : node m ≡ leaf l = sym has.link ∙ (ap (λ (y : InHand). y.link) (sym is) ∙ e) in absurd (cc))
            (λ (none : ⊥). absurd none) j;
        hand = λ i j r at. ⊎_elim
            (λ (is : i ≡ has.hand). copy_unlinked r (subst (λ y. StandsAt (heap_of between) y r) (ap (λ (y : InHand). y.link) is ∙ has.link) at))
            (λ (none : ⊥). none) j;
      }

      two_before : Before z two between as_copied
      two_before = record { shape = done.shape; knows = two_knows; new = two_new }

      module _ (was : IsLinked s (node n)) (stands : Names between x n) where
        -- n is in the tree after the change alone, so its words are those of a node, and so are its copy's
        made : WritesNode m.layout (as_copied (cell.Node m)) (node_prefix (between (cell.Node n))) (child_of n.layout (between (cell.Node n)))
        made =
            let meaning = (done.shape.nodes n stands.path (at_place (heap_of between) x (node n) stands.path stands.at stands.names)).body in
            subst (λ (w : Words). WritesNode m.layout w (node_prefix (between (cell.Node n))) (child_of n.layout (between (cell.Node n)))) (sym copied_copy)
            (subst (λ (w : Words). WritesNode m.layout (words_in copy.new) (node_prefix w) (child_of n.layout w)) (sym worn_between)
            (writes.made (subst (IsBody n.layout) worn_between meaning)))

        copied : Commits z two empty_look (node n ∷ []) (node m ∷ []) between as_copied
        copied = copy_commits z two between as_copied x stands.path n m empty_look two_before node_two just_two among_two copied_worn
            (writes.put between as_copied above_between copied_above) made stands.at stands.names (λ f rows. empty_look_stays f)

        both : Commits z v what (us ++ node n ∷ []) (ls ++ node m ∷ []) s as_copied
        both = joined_commits z v one two s between as_copied what empty_look what us ls (node n ∷ []) (node m ∷ []) before.knows has_both done copied
            (λ d. ⊎_elim (λ (e : d ≡ node n). subst (IsLinked s) (sym e) was) (λ (none : ⊥). absurd none))
            (λ f rows a b. (a, refl))

        renewed : Commits z v what (us ++ node n ∷ []) (ls ++ node m ∷ []) s s'
        renewed = frame_commits z v what (us ++ node n ∷ []) (ls ++ node m ∷ []) s as_copied s' n both (copied.leaves (node n) (inl refl)).1 (λ c other. sym (copied_other c other))

pub may_renew : MayRenew
may_renew z v what us ls hs n m x worn copy above ns xs beside has writes apart was stands may s s' shape knows new =
    let before : Before z v s s' = record { shape = shape; knows = knows; new = new } in
    let t = between z v hs n m x worn copy above ns xs beside s s' before in
    let first = one_new z v hs n m x worn copy above ns xs beside s s' before in
    let done = may s t shape (one_knows z v hs n m x worn copy above ns xs beside s s' before) first in
    renewed z v hs n m x worn copy above ns xs beside s s' before has writes what us ls apart done (was s shape knows) (stands s t shape knows first done)

-- ---- a place that the change does not write

-- a node with the same words has the same prefix
same_prefix : (s t : Cells) (o : Node) → t (cell.Node o) ≡ s (cell.Node o) → (heap_of t).prefix o ≡ (heap_of s).prefix o
unfolding heap_of
same_prefix s t o e = ap node_prefix e

-- and a place of a cell with the same words the same child
same_child_at : (s t : Cells) (x : Place) → t (cell_of x) ≡ s (cell_of x) → child_at_place (heap_of t) x ≡ child_at_place (heap_of s) x
unfolding heap_of
same_child_at s t Top e = ap (λ (w : Words). link_of (w 1)) e
same_child_at s t (Slot o b) e = ap (λ (w : Words). node_child o.layout w b) e

pub stays_named : StaysNamed
stays_named z v what us ls hs n x s t free named new done = record {
  path = named.path;
  at = place_on x free named.at;
  names = same_child_at s t x (new.there (cell_of x) free) ∙ named.names;
}
  where
    place_on : (y : Place) → IsNotHeld hs (cell_of y) → PlaceAt (heap_of s) y named.path → PlaceAt (heap_of t) y named.path
    place_on Top not_held at = at
    place_on (Slot o b) not_held at =
        let same = same_prefix s t o (new.there (cell.Node o) not_held) in
        (at.0, done.others o at.0 not_held at.1, at.2 ∙ ap (λ (q : List ℕ). at.0 ++ q ++ b ∷ []) (sym same))
