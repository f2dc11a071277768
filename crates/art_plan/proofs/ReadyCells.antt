-- Of a change whose cells are all held: what the pass has, which cells it holds, and what their words are before and after.
use Rattle.std.proofs.Common.{◌≡◌, ◌⊎◌, ◌↔◌, ℕ, ◌<◌, ◌≤◌, List, length, Some, sym, ap, ◌∙◌, subst, inl, inr, ⊎_elim, arith}
use Rattle.std.proofs.lemmas.List.{get_or_past}
use Rattle.std.proofs.lemmas.Option.{slice_get_within}
use Rattle.art_cell.specs.Reads.{word_of}
use Rattle.art_cell.specs.Words.{Words, size}
use Rattle.art_cell.specs.declared.cells.Cell.{Cell}
use Rattle.art_cell.specs.declared.cells.Cell.TheVariants as cell
use Rattle.art_cell.specs.declared.cells.Link.{Link}
use Rattle.art_cell.specs.declared.cells.Link.TheVariants.{Node as node}
use Rattle.art_cell.specs.declared.cells.Node.{Node}
use Rattle.art_cell.specs.declared.cells.Layout.{Layout}
use Rattle.art_cell.specs.declared.cells.Layout.TheVariants.{Node4, Node16, Node48, Node256}
use Rattle.art_commit.specs.AnyChange.{IsClaimed, SameMembers}
use Rattle.art_commit.specs.CommitLaws.{Before, ClaimedAmong, HasLeaf, HasNode, HoldsJust}
use Rattle.art_commit.proofs.Members.{claimed_nodes_come}
use Rattle.art_plan.specs.Changes.{IsFilled, IsLocked, IsNew, IsReady, IsTarget, filled_at, filled_end, leaf_linked, node_made, target_at, with_puts}
use Rattle.art_plan.specs.declared.changes.Change.{Change}
use Rattle.art_plan.specs.declared.changes.Target.{Target}
use Rattle.art_step.specs.Shows.{Rest, Shows}
use Rattle.art_step.specs.Steps.Commit.{coming}
use Rattle.art_step.specs.Views.{Member, words_in}
use Rattle.art_step.specs.declared.views.Holding.{Holding}
use Rattle.art_step.specs.declared.views.Sizes.{Sizes}
use Rattle.art_step.specs.declared.views.View.{View}
use Rattle.art_step.proofs.Shows.{shows_held, shows_same}
use Rattle.art_tree.specs.Heaps.{Cells}

-- the words of a list past its end
pub past_end : (ws : List ℕ) (n p : ℕ) → length ws ≡ n → n ≤ p → words_in ws p ≡ 0
past_end ws n p long high = get_or_past ws p 0 (omega arith)

pub some_size : (n : Node) → 0 < size n.layout
some_size n = by_layout n.layout
  where
    by_layout : (k : Layout) → 0 < size k
    by_layout Node4 = omega arith
    by_layout Node16 = omega arith
    by_layout Node48 = omega arith
    by_layout Node256 = omega arith

-- the cell of a target
abbrev pub IsTargetCell : Change → Cell → Type 0
IsTargetCell c d = (i : ℕ) × (x : Target) × (target_at c i ≡ Some x) × (d ≡ x.stamp.cell)

-- the cell of the new node
abbrev pub IsMadeCell : Change → Cell → Type 0
IsMadeCell c d = (n : Node) × (node_made c ≡ Some n) × (d ≡ cell.Node n)

module _ (z : Sizes) (u v : View) (c : Change) (ready : IsReady u c v) where
  -- ---- what the pass has

  same_hand : v.hand ≡ u.hand
  same_hand = ap (λ (r : Rest). r.hand) ready.same.rest

  pub leaf_kept : (l : ℕ) (k : List ℕ) (value : ℕ) → HasLeaf z u l k value → HasLeaf z v l k value
  leaf_kept l k value has = record {
    hand = has.hand;
    has = subst (Member has.hand) (sym same_hand) has.has;
    link = has.link;
    words = has.words;
    short = has.short;
    number = has.number;
    fits = has.fits;
  }

  pub node_kept : (m : Node) → HasNode z u m → HasNode z v m
  node_kept m has = record {
    hand = has.hand;
    has = subst (Member has.hand) (sym same_hand) has.has;
    link = has.link;
    number = has.number;
    fits = has.fits;
  }

  -- ---- the cells that it holds

  pub locked : (i : ℕ) (x : Target) → target_at c i ≡ Some x → (h : Holding) × Member h v.held × IsLocked u i x c.puts.items h
  locked i x is = ready.holds.each i x (omega arith) (slice_get_within c.targets.items i x is) is

  pub filled : (n : Node) → node_made c ≡ Some n → (h : Holding) × Member h v.held × IsFilled u c n (size n.layout) h
  filled n is =
      let all : filled_end c ≡ size n.layout = ap (filled_at c) is in
      let some = some_size n in
      let f = ready.holds.new n is (omega arith) in
      (f.0, f.1, subst (λ (place : ℕ). IsFilled u c n place f.0) all f.2)

  of_change : (h : Holding) → Member h v.held → IsTargetCell c h.cell ⊎ IsMadeCell c h.cell
  of_change h i = ⊎_elim
      (λ (t : IsTarget u c 0 _ c.puts.items h). inl (t.index, t.target, t.is, t.locked.cell))
      (λ (n : IsNew u c (filled_end c) h). inr (n.made, n.is, n.filled_up.cell))
      (ready.holds.only h i)

  -- those of its targets and of its new node, and no others
  pub holds_just : (P : Cell → Type 0) → ((d : Cell) → P d → IsTargetCell c d ⊎ IsMadeCell c d) → ((d : Cell) → IsTargetCell c d ⊎ IsMadeCell c d → P d) → HoldsJust v P
  holds_just P each only = record {
    each = λ d p. ⊎_elim
        (λ (t : IsTargetCell c d). let h = locked t.0 t.1 t.2 in (h.0, h.1, h.2.cell ∙ sym t.3))
        (λ (n : IsMadeCell c d). let h = filled n.0 n.1 in (h.0, h.1, h.2.cell ∙ sym n.2))
        (each d p);
    only = λ h i. only h.cell (of_change h i);
  }

  -- it claimed the new node alone
  pub claims_made : ClaimedAmong v (λ n. node_made c ≡ Some n)
  claims_made h n i free is = ⊎_elim
      (λ (t : IsTarget u c 0 _ c.puts.items h). let stamped = t.locked.stamped in absurd (cc))
      (λ (m : IsNew u c (filled_end c) h). let same : m.made ≡ n = (let at = m.filled_up.cell in cc) in m.is ∙ ap Some same)
      (ready.holds.only h i)

  -- so what comes is its leaf and its node
  pub comes : (ls : List Link) → ((d : Link) → Member d ls ↔ ((leaf_linked c ≡ Some d) ⊎ ((n : Node) × (d ≡ node n) × (node_made c ≡ Some n)))) → SameMembers ls (coming v (leaf_linked c))
  comes ls same d = (
    (λ i. (claimed_nodes_come v (leaf_linked c) d).1 (⊎_elim
        (λ (l : leaf_linked c ≡ Some d). inl l)
        (λ (m : (n : Node) × (d ≡ node n) × (node_made c ≡ Some n)). let h = filled m.0 m.2 in inr (m.0, m.1, (h.0, h.1, h.2.stamped, h.2.cell)))
        ((same d).0 i))),
    (λ i. (same d).1 (⊎_elim
        (λ (l : leaf_linked c ≡ Some d). inl l)
        (λ (m : (n : Node) × (d ≡ node n) × IsClaimed v n). inr (m.0, m.1, claims_made m.2.0 m.0 m.2.1 m.2.2 m.2.3))
        ((claimed_nodes_come v (leaf_linked c) d).0 i))),
  )

  -- ---- a tree that is as the pass knows it, and the words that are written

  module _ (s s' : Cells) (b : Before z v s s') where
    -- what is shown under a target's stamp is so
    pub so_held : (i : ℕ) (x : Target) (so : Cells → Type 0) → target_at c i ≡ Some x → Shows z u x.stamp so → so s
    so_held i x so is shows =
        let h = locked i x is in
        shows_held z v x.stamp so s h.0 b.shape b.knows h.1 h.2.cell h.2.stamped (shows_same z u v x.stamp so ready.same.notes shows)

    -- the words of a target, before and after
    pub old_words : (i : ℕ) (x : Target) (is : target_at c i ≡ Some x) → s x.stamp.cell ≡ words_in (locked i x is).0.old
    old_words i x is = let h = locked i x is in subst (λ (d : Cell). s d ≡ words_in h.0.old) h.2.cell (b.knows.old h.0 h.1)

    pub new_words : (i : ℕ) (x : Target) (is : target_at c i ≡ Some x) → s' x.stamp.cell ≡ words_in (with_puts i c.puts.items (locked i x is).0.old)
    new_words i x is =
        let h = locked i x is in
        subst (λ (d : Cell). s' d ≡ words_in h.0.new) h.2.cell (b.new.here h.0 h.1) ∙ ap words_in h.2.new

    -- and those of a target that gets none
    pub same_words : (i : ℕ) (x : Target) → target_at c i ≡ Some x → ((ws : List ℕ) → with_puts i c.puts.items ws ≡ ws) → s' x.stamp.cell ≡ s x.stamp.cell
    same_words i x is none = new_words i x is ∙ ap words_in (none (locked i x is).0.old) ∙ sym (old_words i x is)

    -- the words of the new node
    made_is : (n : Node) (is : node_made c ≡ Some n) → s' (cell.Node n) ≡ words_in (filled n is).0.new
    made_is n is = let h = filled n is in subst (λ (d : Cell). s' d ≡ words_in h.0.new) h.2.cell (b.new.here h.0 h.1)

    pub made_words : (n : Node) → node_made c ≡ Some n → (i : ℕ) → 0 < i → i < size n.layout → s' (cell.Node n) i ≡ word_of c.body i
    made_words n is i low high = ap (λ (w : Words). w i) (made_is n is) ∙ (filled n is).2.words i low high

    pub made_outside : (n : Node) → node_made c ≡ Some n → (i : ℕ) → (i ≡ 0) ⊎ (size n.layout ≤ i) → s' (cell.Node n) i ≡ 0
    made_outside n is i (inl first) = ap (s' (cell.Node n)) first ∙ ap (λ (w : Words). w 0) (made_is n is) ∙ (filled n is).2.version
    made_outside n is i (inr past) = ap (λ (w : Words). w i) (made_is n is) ∙ past_end (filled n is).0.new (size n.layout) i (filled n is).2.long past
