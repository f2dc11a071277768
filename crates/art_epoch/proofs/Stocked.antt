-- The numbers in hand, from step to step.
use Rattle.std.proofs.Common.{◌≡◌, ◌≢◌, ◌⊎◌, ℕ, ◌+◌, ◌/◌, ◌≤◌, nat_lt, if◌then◌else◌, true, false, List, [], ◌∷◌, inl, inr, ⊎_elim, sym, refl, ap, ◌∙◌, subst, arith}
use Rattle.std.proofs.lemmas.Bool.{cond_both, ltb-false, ltb-true, or_parts}
use Rattle.std.proofs.lemmas.Option.{same_Some}
use Rattle.std.specs.List.{cons_option}
use Rattle.std.specs.Option.{option_map, option_or}
use Rattle.std.specs.Prelude.{Bool, Option, Some, None, is_some}
use Rattle.art_cell.specs.Children.{link_in_pool, number_of}
use Rattle.art_cell.specs.declared.cells.Link.{Link}
use Rattle.art_cell.specs.declared.cells.Link.TheVariants.{Leaf as leaf, Node as node}
use Rattle.art_cell.specs.declared.cells.Node.{Node}
use Rattle.art_cell.specs.declared.cells.Layout.{Layout}
use Rattle.art_cell.specs.declared.cells.Layout.TheVariants.{Node4, Node16, Node48, Node256}
use Rattle.art_cell.specs.declared.cells.Pool.TheVariants.{Leaves}
use Rattle.art_plan.specs.ArtCommit.CommitLaws.{HasNode}
use Rattle.art_epoch.specs.Taking.{TookLowest}
use Rattle.art_epoch.specs.Stocks.{AreIn, GoesFirst, HasRankBy, HasStock, IsIn, count_in, earlier, first_in, first_layout, first_node, has_node, hinted, hinted_at, is_before, next_rank, node_in, node_link, nothing, one_of, rank_in, ranked_node, set_node, with_leaf, with_node, without, without_all, words_written}
use Rattle.art_epoch.specs.declared.stocks.Hints.{Hints}
use Rattle.art_epoch.specs.declared.stocks.RankedNode.{RankedNode}
use Rattle.art_epoch.specs.declared.stocks.Stock.{Stock}
use Rattle.art_plan.specs.Apply.{IsCommitted, linked}
use Rattle.art_epoch.specs.LeafWriter.{IsPacked}
use Rattle.art_plan.specs.Changes.{node_made}
use Rattle.art_plan.specs.Whole.{node_copied}
use Rattle.art_plan.specs.declared.changes.Change.{Change}
use Rattle.art_step.specs.Steps.Give.{HandsOver}
use Rattle.art_step.specs.Steps.Take.{word_count_of}
use Rattle.art_step.specs.Views.{IsInHand, IsNotInHand, IsNumber, Member, pool_of_layout}
use Rattle.art_step.specs.declared.views.InHand.{InHand}
use Rattle.art_step.specs.declared.views.Sizes.{Sizes}
use Rattle.art_step.specs.declared.views.View.{View}
use Rattle.art_tree.specs.WordChanges.{FitsWord}

-- ---- where a number stands

-- another leaf leaves the nodes
node_by_leaf : (layout : Layout) (s : Stock) (o : Option ℕ) (b : Bool) → node_in (record s { leaf = o; written = b }) layout ≡ node_in s layout
node_by_leaf Node4 s o b = refl
node_by_leaf Node16 s o b = refl
node_by_leaf Node48 s o b = refl
node_by_leaf Node256 s o b = refl

-- another node leaves the leaf
leaf_by_node : (layout : Layout) (o : Option RankedNode) (s : Stock) → ((set_node layout o s).leaf ≡ s.leaf) × ((set_node layout o s).written ≡ s.written)
leaf_by_node Node4 o s = (refl, refl)
leaf_by_node Node16 o s = (refl, refl)
leaf_by_node Node48 o s = (refl, refl)
leaf_by_node Node256 o s = (refl, refl)

ranked_here : (layout : Layout) (o : Option RankedNode) (s : Stock) → ranked_node (set_node layout o s) layout ≡ o
ranked_here Node4 o s = refl
ranked_here Node16 o s = refl
ranked_here Node48 o s = refl
ranked_here Node256 o s = refl

node_here : (layout : Layout) (o : Option RankedNode) (s : Stock) → node_in (set_node layout o s) layout ≡ option_map (λ (n : RankedNode). n.number) o
node_here layout o s = ap (option_map (λ (n : RankedNode). n.number)) (ranked_here layout o s)

-- where a search begins is nothing that is in hand
node_with_leaf : (layout : Layout) (l : ℕ) (s : Stock) → node_in (with_leaf l s) layout ≡ node_in s layout
node_with_leaf Node4 l s = refl
node_with_leaf Node16 l s = refl
node_with_leaf Node48 l s = refl
node_with_leaf Node256 l s = refl

node_hinted : (layout a : Layout) (i : ℕ) (s : Stock) → node_in (hinted a i s) layout ≡ node_in s layout
node_hinted Node4 a i s = refl
node_hinted Node16 a i s = refl
node_hinted Node48 a i s = refl
node_hinted Node256 a i s = refl

leaf_hinted : (layout : Layout) (i : ℕ) (s : Stock) → node_in (record s { hints = record s.hints { leaves = i } }) layout ≡ node_in s layout
leaf_hinted Node4 i s = refl
leaf_hinted Node16 i s = refl
leaf_hinted Node48 i s = refl
leaf_hinted Node256 i s = refl

in_hinted : (d : Link) (s : Stock) (e : Link) → IsIn s e → IsIn (hinted_at d s) e
in_hinted (leaf l) s (leaf m) i = i
in_hinted (leaf l) s (node n) i = leaf_hinted n.layout (l / 64) s ∙ i
in_hinted (node m) s (leaf l) i = i
in_hinted (node m) s (node n) i = node_hinted n.layout m.layout (m.number / 64) s ∙ i

-- it is that of the layout, or another, whose number stays
abbrev SameOrOther : Layout → Layout → Type 0
SameOrOther a b = (a ≡ b) ⊎ ((o : Option RankedNode) (s : Stock) → node_in (set_node a o s) b ≡ node_in s b)

same_or_other : (a b : Layout) → SameOrOther a b
same_or_other Node4 Node4 = inl refl
same_or_other Node4 Node16 = inr (λ o s. refl)
same_or_other Node4 Node48 = inr (λ o s. refl)
same_or_other Node4 Node256 = inr (λ o s. refl)
same_or_other Node16 Node4 = inr (λ o s. refl)
same_or_other Node16 Node16 = inl refl
same_or_other Node16 Node48 = inr (λ o s. refl)
same_or_other Node16 Node256 = inr (λ o s. refl)
same_or_other Node48 Node4 = inr (λ o s. refl)
same_or_other Node48 Node16 = inr (λ o s. refl)
same_or_other Node48 Node48 = inl refl
same_or_other Node48 Node256 = inr (λ o s. refl)
same_or_other Node256 Node4 = inr (λ o s. refl)
same_or_other Node256 Node16 = inr (λ o s. refl)
same_or_other Node256 Node48 = inr (λ o s. refl)
same_or_other Node256 Node256 = inl refl

-- ---- a number leaves

-- what is left was there, and is another
without_is : (s : Stock) (d e : Link) → IsIn (without d s) e → IsIn s e × (e ≢ d)
without_is s (leaf l) (leaf m) i = absurd (cc)
without_is s (leaf l) (node n) i = (sym (node_by_leaf n.layout s None false) ∙ i, λ e. absurd (cc))
without_is s (node n) (leaf m) i = (sym ((leaf_by_node n.layout None s).0) ∙ i, λ e. absurd (cc))
without_is s (node n) (node m) i = ⊎_elim
    (λ (same : n.layout ≡ m.layout). let none : node_in (set_node n.layout None s) m.layout ≡ None = subst (λ (a : Layout). node_in (set_node n.layout None s) a ≡ None) same (node_here n.layout None s) in absurd (cc))
    (λ (other : (o : Option RankedNode) (t : Stock) → node_in (set_node n.layout o t) m.layout ≡ node_in t m.layout). (
      sym (other None s) ∙ i,
      λ e. let same : m.layout ≡ n.layout = ap layout_of e in let none : node_in (set_node n.layout None s) m.layout ≡ None = subst (λ (a : Layout). node_in (set_node n.layout None s) a ≡ None) (sym same) (node_here n.layout None s) in absurd (cc),
    ))
    (same_or_other n.layout m.layout)
  where
    layout_of : Link → Layout
    layout_of (leaf l) = Node4
    layout_of (node n) = n.layout

-- and all others are left
without_has : (s : Stock) (d e : Link) → IsIn s d → IsIn s e → e ≢ d → IsIn (without d s) e
without_has s (leaf l) (leaf m) i j other = absurd (other (ap leaf (same_Some m l (sym j ∙ i))))
without_has s (leaf l) (node n) i j other = node_by_leaf n.layout s None false ∙ j
without_has s (node n) (leaf m) i j other = (leaf_by_node n.layout None s).0 ∙ j
without_has s (node n) (node m) i j other = ⊎_elim
    (λ (same : n.layout ≡ m.layout). absurd (other (one same)))
    (λ (apart : (o : Option RankedNode) (t : Stock) → node_in (set_node n.layout o t) m.layout ≡ node_in t m.layout). apart None s ∙ j)
    (same_or_other n.layout m.layout)
  where
    one : n.layout ≡ m.layout → node m ≡ node n
    one same =
        let number : m.number ≡ n.number = same_Some m.number n.number (sym j ∙ (ap (node_in s) (sym same) ∙ i)) in
        ap (λ (x : Node). node x) (ap (λ (a : Layout). record { layout = a; number = m.number }) (sym same) ∙ ap (λ (i : ℕ). record { layout = n.layout; number = i }) number)

-- the words of the leaf that is left stay
without_written : (s : Stock) (d : Link) (l : ℕ) → (without d s).leaf ≡ Some l → (without d s).written ≡ s.written
without_written s (leaf m) l is = absurd (cc)
without_written s (node n) l is = (leaf_by_node n.layout None s).1

all_are : (ds : List Link) (s : Stock) (e : Link) → IsIn (without_all ds s) e → IsIn s e × (Member e ds → ⊥)
all_are [] s e i = (i, λ m. absurd m)
all_are (d ∷ ds) s e i =
    let rest = all_are ds (without d s) e i in
    let one = without_is s d e rest.0 in
    (one.0, λ m. ⊎_elim (λ (is : e ≡ d). one.1 is) (λ (n : Member e ds). rest.1 n) m)

all_have : (ds : List Link) (s : Stock) (e : Link) → AreIn s ds → IsIn s e → (Member e ds → ⊥) → IsIn (without_all ds s) e
all_have [] s e are i none = i
all_have (d ∷ ds) s e are i none = all_have ds (without d s) e are.1 (without_has s d e are.0 i (λ is. none (inl is))) (λ m. none (inr m))

all_written : (ds : List Link) (s : Stock) (l : ℕ) → (without_all ds s).leaf ≡ Some l → (without_all ds s).written ≡ s.written
all_written [] s l is = refl
all_written (d ∷ ds) s l is = all_written ds (without d s) l is ∙ without_written s d l (all_are ds (without d s) (leaf l) is).0

-- ---- the first

some_of : (a b : Option Link) (d : Link) → option_or a b ≡ Some d → (a ≡ Some d) ⊎ (b ≡ Some d)
some_of None b d is = inr is
some_of (Some e) b d is = inl is

node_of_link : (s : Stock) (layout : Layout) (d : Link) → node_link s layout ≡ Some d → IsIn s d
node_of_link s layout d is = by_number (node_in s layout) refl is
  where
    by_number : (o : Option ℕ) → node_in s layout ≡ o → option_map (λ (i : ℕ). node (record { layout = layout; number = i })) o ≡ Some d → IsIn s d
    by_number None same e = absurd (cc)
    by_number (Some i) same e = subst (IsIn s) (same_Some (node (record { layout = layout; number = i })) d e) same

-- it is among them
pub first_is_in : (s : Stock) (d : Link) → first_in s ≡ Some d → IsIn s d
first_is_in s d is = ⊎_elim (λ (e : option_map leaf s.leaf ≡ Some d). by_leaf s.leaf refl e) (node_of_link s (first_layout s) d) (some_of (option_map leaf s.leaf) _ d is)
  where
    by_leaf : (o : Option ℕ) → s.leaf ≡ o → option_map leaf o ≡ Some d → IsIn s d
    by_leaf None same e = absurd (cc)
    by_leaf (Some l) same e = subst (IsIn s) (same_Some (leaf l) d e) same

abbrev rank_of : Option RankedNode → Option ℕ
rank_of o = option_map (λ (n : RankedNode). n.rank) o

-- of two layouts that whose node was taken first has the smaller rank
module _ (s : Stock) (one other : Layout) (r : ℕ) where
  abbrev IsBy : Option RankedNode → Type 0
  IsBy o = (q : ℕ) × (rank_of o ≡ Some q) × (q ≤ r)

  earlier_by : HasRankBy s one r ⊎ HasRankBy s other r → HasRankBy s (earlier s one other) r
  earlier_by by = by_nodes (ranked_node s one) (ranked_node s other) refl refl by
    where
      first : (a : Option RankedNode) → ranked_node s one ≡ a → IsBy a → HasRankBy s one r
      first a is k = subst IsBy (sym is) k

      second : (b : Option RankedNode) → ranked_node s other ≡ b → IsBy b → HasRankBy s other r
      second b is k = subst IsBy (sym is) k

      by_nodes : (a b : Option RankedNode) → ranked_node s one ≡ a → ranked_node s other ≡ b → IsBy a ⊎ IsBy b → HasRankBy s (if is_before b a then other else one) r
      by_nodes None None p q k = absurd (⊎_elim (λ (i : IsBy None). let no = i.1 in cc) (λ (i : IsBy None). let no = i.1 in cc) k)
      by_nodes (Some a) None p q k = ⊎_elim (first (Some a) p) (λ (i : IsBy None). let no = i.1 in absurd (cc)) k
      by_nodes None (Some b) p q k = ⊎_elim (λ (i : IsBy None). let no = i.1 in absurd (cc)) (second (Some b) q) k
      by_nodes (Some a) (Some b) p q k = cond_both (nat_lt b.rank a.rank) other one (λ (layout : Layout). HasRankBy s layout r)
          (λ (before : nat_lt b.rank a.rank ≡ true). second (Some b) q (b.rank, refl, ⊎_elim (λ (i : IsBy (Some a)). let same : a.rank ≡ i.0 = same_Some a.rank i.0 i.1 in let low = i.2 in let lt = ltb-true b.rank a.rank before in omega (arith, same, low, lt)) (λ (i : IsBy (Some b)). let same : b.rank ≡ i.0 = same_Some b.rank i.0 i.1 in let low = i.2 in omega (arith, same, low)) k))
          (λ (behind : nat_lt b.rank a.rank ≡ false). first (Some a) p (a.rank, refl, ⊎_elim (λ (i : IsBy (Some a)). let same : a.rank ≡ i.0 = same_Some a.rank i.0 i.1 in let low = i.2 in omega (arith, same, low)) (λ (i : IsBy (Some b)). let same : b.rank ≡ i.0 = same_Some b.rank i.0 i.1 in let low = i.2 in let ge = ltb-false b.rank a.rank behind in omega (arith, same, low, ge)) k))

-- where no node is in hand, none was taken first
pub none_first : (s : Stock) → has_node s ≡ false → first_node s ≡ None
none_first s none = ap (λ (o : Option RankedNode). option_map (λ (i : ℕ). node (record { layout = first_layout s; number = i })) (option_map (λ (n : RankedNode). n.number) o)) (by_layout (first_layout s))
  where
    is_none : (o : Option RankedNode) → is_some o ≡ false → o ≡ None
    is_none None e = refl
    is_none (Some n) e = absurd (cc)

    by_layout : (layout : Layout) → ranked_node s layout ≡ None
    by_layout Node4 = is_none s.node4 (or_parts _ _ (or_parts _ _ (or_parts _ _ none).0).0).0
    by_layout Node16 = is_none s.node16 (or_parts _ _ (or_parts _ _ (or_parts _ _ none).0).0).1
    by_layout Node48 = is_none s.node48 (or_parts _ _ (or_parts _ _ none).0).1
    by_layout Node256 = is_none s.node256 (or_parts _ _ none).1

-- none was taken before that of the first layout
earliest : (s : Stock) (other : Layout) (r : ℕ) → rank_in s other ≡ Some r → HasRankBy s (first_layout s) r
earliest s other r is = by_layout other (r, is, omega arith)
  where
    large : HasRankBy s Node48 r ⊎ HasRankBy s Node256 r → HasRankBy s (earlier s Node48 Node256) r
    large by = earlier_by s Node48 Node256 r by

    but_small : HasRankBy s Node16 r ⊎ HasRankBy s (earlier s Node48 Node256) r → HasRankBy s (earlier s Node16 (earlier s Node48 Node256)) r
    but_small by = earlier_by s Node16 (earlier s Node48 Node256) r by

    all : HasRankBy s Node4 r ⊎ HasRankBy s (earlier s Node16 (earlier s Node48 Node256)) r → HasRankBy s (earlier s Node4 (earlier s Node16 (earlier s Node48 Node256))) r
    all by = earlier_by s Node4 (earlier s Node16 (earlier s Node48 Node256)) r by

    by_layout : (layout : Layout) → HasRankBy s layout r → HasRankBy s (first_layout s) r
    by_layout Node4 k = all (inl k)
    by_layout Node16 k = all (inr (but_small (inl k)))
    by_layout Node48 k = all (inr (but_small (inr (large (inl k)))))
    by_layout Node256 k = all (inr (but_small (inr (large (inr k)))))

-- it is the leaf, or the node that was taken first
pub goes_first : (s : Stock) (d : Link) → first_in s ≡ Some d → GoesFirst s d
goes_first s d is = by_leaf s.leaf refl is
  where
    by_layout : (layout : Layout) (o : Option ℕ) → s.leaf ≡ None → layout ≡ first_layout s → option_map (λ (i : ℕ). node (record { layout = layout; number = i })) o ≡ Some d → GoesFirst s d
    by_layout layout None none at e = absurd (cc)
    by_layout layout (Some i) none at e = subst (GoesFirst s) (same_Some (node (record { layout = layout; number = i })) d e) (none, λ other r rank. subst (λ (a : Layout). HasRankBy s a r) (sym at) (earliest s other r rank))

    by_leaf : (o : Option ℕ) → s.leaf ≡ o → option_or (option_map leaf o) (first_node s) ≡ Some d → GoesFirst s d
    by_leaf None none e = by_layout (first_layout s) (node_in s (first_layout s)) none refl e
    by_leaf (Some l) some e = subst (GoesFirst s) (same_Some (leaf l) d e) some

none_of : (a b : Option Link) → option_or a b ≡ None → (a ≡ None) × (b ≡ None)
none_of None b is = (refl, is)
none_of (Some e) b is = absurd (cc)

no_number : (f : ℕ → Link) (o : Option ℕ) (i : ℕ) → option_map f o ≡ None → o ≡ Some i → ⊥
no_number f o i none some = let is : option_map f o ≡ Some (f i) = ap (option_map f) some in cc

-- a node in hand has a rank, and one with a rank a number
other_part : (f g : RankedNode → ℕ) (o : Option RankedNode) (i : ℕ) → option_map f o ≡ Some i → (j : ℕ) × (option_map g o ≡ Some j)
other_part f g None i is = absurd (cc)
other_part f g (Some n) i is = (g n, refl)

-- where there is no first, there is none
pub none_is_in : (s : Stock) (d : Link) → first_in s ≡ None → IsIn s d → ⊥
none_is_in s d none = by_link d
  where
    parts : (option_map leaf s.leaf ≡ None) × (first_node s ≡ None)
    parts = none_of _ _ none

    by_link : (e : Link) → IsIn s e → ⊥
    by_link (leaf l) i = no_number leaf s.leaf l parts.0 i
    by_link (node n) i =
        let rank = other_part (λ n. n.number) (λ n. n.rank) (ranked_node s n.layout) n.number i in
        let first = earliest s n.layout rank.0 rank.1 in
        let number = other_part (λ n. n.rank) (λ n. n.number) (ranked_node s (first_layout s)) first.0 first.1 in
        no_number _ (node_in s (first_layout s)) number.0 parts.1 number.1

-- as one leaves there is one fewer
pub one_fewer : (s : Stock) (d : Link) → IsIn s d → count_in (without d s) + 1 ≡ count_in s
one_fewer s (leaf l) i = let one : one_of s.leaf ≡ 1 = ap one_of i in omega (arith, one)
one_fewer s (node n) i = by_layout n.layout i
  where
    by_layout : (layout : Layout) → node_in s layout ≡ Some n.number → count_in (set_node layout None s) + 1 ≡ count_in s
    by_layout Node4 e = let one : one_of (node_in s Node4) ≡ 1 = ap one_of e in omega (arith, one)
    by_layout Node16 e = let one : one_of (node_in s Node16) ≡ 1 = ap one_of e in omega (arith, one)
    by_layout Node48 e = let one : one_of (node_in s Node48) ≡ 1 = ap one_of e in omega (arith, one)
    by_layout Node256 e = let one : one_of (node_in s Node256) ≡ 1 = ap one_of e in omega (arith, one)

pub at_most_five : (s : Stock) → count_in s ≤ 5
at_most_five s = let a = few s.leaf in let b = few (node_in s Node4) in let c = few (node_in s Node16) in let d = few (node_in s Node48) in let e = few (node_in s Node256) in omega (arith, a, b, c, d, e)
  where
    few : (o : Option ℕ) → one_of o ≤ 1
    few None = omega arith
    few (Some i) = omega arith

-- ---- in hand

packed_on : (z : Sizes) (v w : View) (l : ℕ) (k : List ℕ) (value place : ℕ) → ((x : InHand) → IsInHand v (leaf l) x → Member x w.hand) → IsPacked z v l k value place → IsPacked z w l k value place
packed_on z v w l k value place stays p = record {
  is = record { hand = p.is.hand; has = (stays p.is.hand p.is.has, p.is.has.1); long = p.is.long; inside = p.is.inside; fits = p.is.fits };
  words = p.words;
}

node_on : (z : Sizes) (v w : View) (n : Node) → ((x : InHand) → IsInHand v (node n) x → Member x w.hand) → HasNode z v n → HasNode z w n
node_on z v w n stays p = record { hand = p.hand; has = stays p.hand (p.has, p.link); link = p.link; number = p.number; fits = p.fits }

-- what is in hand does not hang on where a search begins
pub stock_hinted : (z : Sizes) (k : List ℕ) (value : ℕ) (v : View) (d : Link) (s : Stock) → HasStock z k value v s → HasStock z k value v (hinted_at d s)
stock_hinted z k value v (leaf l) s o = record {
  leaf = o.leaf;
  nodes = λ n is. o.nodes n (sym (leaf_hinted n.layout (l / 64) s) ∙ is);
  only = λ x i. in_hinted (leaf l) s x.link (o.only x i);
}
stock_hinted z k value v (node m) s o = record {
  leaf = o.leaf;
  nodes = λ n is. o.nodes n (sym (node_hinted n.layout m.layout (m.number / 64) s) ∙ is);
  only = λ x i. in_hinted (node m) s x.link (o.only x i);
}

-- nothing is in hand
pub has_nothing : (z : Sizes) (k : List ℕ) (value : ℕ) (v : View) (h : Hints) → v.hand ≡ [] → HasStock z k value v (nothing h)
has_nothing z k value v h none = record {
  leaf = λ l is. absurd (cc);
  nodes = λ n is. absurd (no_node n.layout n.number is);
  only = λ x i. absurd (subst (Member x) none i);
}
  where
    no_node : (layout : Layout) (i : ℕ) → node_in (nothing h) layout ≡ Some i → ⊥
    no_node Node4 i is = cc
    no_node Node16 i is = cc
    no_node Node48 i is = cc
    no_node Node256 i is = cc

-- the hand is the same
pub stock_same : (z : Sizes) (k : List ℕ) (value : ℕ) (v w : View) (s : Stock) → w.hand ≡ v.hand → HasStock z k value v s → HasStock z k value w s
stock_same z k value v w s same o = record {
  leaf = λ l is. packed_on z v w l k value (words_written s) (λ x i. subst (Member x) (sym same) i.0) (o.leaf l is);
  nodes = λ n is. node_on z v w n (λ x i. subst (Member x) (sym same) i.0) (o.nodes n is);
  only = λ x i. o.only x (subst (Member x) same i);
}

-- these numbers, which were among them, left
pub stock_hands_over : (z : Sizes) (k : List ℕ) (value : ℕ) (v w : View) (ds : List Link) (s : Stock) → HandsOver v.hand ds w.hand → AreIn s ds → HasStock z k value v s → HasStock z k value w (without_all ds s)
stock_hands_over z k value v w ds s over are o = record {
  leaf = λ l is.
      let was = all_are ds s (leaf l) is in
      let words : words_written s ≡ words_written (without_all ds s) = ap (λ (b : Bool). words_of b) (sym (all_written ds s l is)) in
      subst (IsPacked z w l k value) words (packed_on z v w l k value (words_written s) (stays (leaf l) was.1) (o.leaf l was.0));
  nodes = λ n is. let was = all_are ds s (node n) is in node_on z v w n (stays (node n) was.1) (o.nodes n was.0);
  only = λ x i. let was = over.was x i in all_have ds s x.link are (o.only x was.0) was.1;
}
  where
    words_of : Bool → ℕ
    words_of b = words_written (record s { written = b })

    stays : (d : Link) → (Member d ds → ⊥) → (x : InHand) → IsInHand v d x → Member x w.hand
    stays d none x i = over.stays x i.0 (λ m. none (subst (λ (e : Link). Member e ds) i.1 m))

-- what comes with a change that makes no copy is among them, where its leaf and the node that it makes are
pub linked_are_in : (c : Change) (s : Stock) → node_copied c ≡ None → ((l : ℕ) → c.effects.leaf ≡ Some l → s.leaf ≡ Some l) → ((n : Node) → node_made c ≡ Some n → IsIn s (node n)) → AreIn s (linked c)
linked_are_in c s alone leaves nodes = by_parts c.effects.leaf (node_made c) (node_copied c) refl refl alone
  where
    by_parts : (o : Option ℕ) (p q : Option Node) → c.effects.leaf ≡ o → node_made c ≡ p → q ≡ None → AreIn s (cons_option (option_map leaf o) (cons_option (option_map node p) (cons_option (option_map node q) [])))
    by_parts o p (Some n) a b none = absurd (cc)
    by_parts None None None a b none = tt
    by_parts None (Some n) None a b none = (nodes n b, tt)
    by_parts (Some l) None None a b none = (leaves l a, tt)
    by_parts (Some l) (Some n) None a b none = (leaves l a, (node_by_leaf n.layout s None false ∙ nodes n b, tt))

-- a change was made: what came with it left
pub stock_commits : (z : Sizes) (k : List ℕ) (value : ℕ) (u v : View) (c : Change) (s : Stock) → IsCommitted u c v → AreIn s (linked c) → HasStock z k value u s → HasStock z k value v (without_all (linked c) s)
stock_commits z k value u v c s done are o = stock_hands_over z k value u v (linked c) s done.hand are o

-- what is not among them is not in hand
pub not_in_hand : (z : Sizes) (k : List ℕ) (value : ℕ) (v : View) (s : Stock) (d : Link) → HasStock z k value v s → (IsIn s d → ⊥) → IsNotInHand v d
not_in_hand z k value v s d o none x i is = none (subst (IsIn s) is (o.only x i))

-- what is among them is in hand
pub in_hand : (z : Sizes) (k : List ℕ) (value : ℕ) (v : View) (s : Stock) (d : Link) → HasStock z k value v s → IsIn s d → (x : InHand) × Member x v.hand × (x.link ≡ d)
in_hand z k value v s (leaf l) o i = let p = (o.leaf l i).is in (p.hand, p.has.0, p.has.1)
in_hand z k value v s (node n) o i = let p = o.nodes n i in (p.hand, p.has, p.link)

no_member : (xs : List InHand) → ((x : InHand) → Member x xs → ⊥) → xs ≡ []
no_member [] none = refl
no_member (x ∷ xs) none = absurd (none x (inl refl))

-- where there is none, nothing is in hand
pub nothing_in_hand : (z : Sizes) (k : List ℕ) (value : ℕ) (v : View) (s : Stock) → HasStock z k value v s → first_in s ≡ None → v.hand ≡ []
nothing_in_hand z k value v s o none = no_member v.hand (λ x i. none_is_in s x.link none (o.only x i))

-- ---- a number was taken

-- of a leaf, whose words are not written
pub stock_took_leaf : (z : Sizes) (k : List ℕ) (value : ℕ) (v w : View) (d : Link) (s : Stock) → TookLowest z v w Leaves d → s.leaf ≡ None → HasStock z k value v s → HasStock z k value w (with_leaf (number_of d) s)
stock_took_leaf z k value v w d s t none o = record {
  leaf = λ l is. subst (λ (i : ℕ). IsPacked z w i k value 0) (same_Some (number_of d) l is) packed;
  nodes = λ n is. node_on z v w n (λ x i. subst (Member x) (sym t.hand) (inr i.0)) (o.nodes n (sym (node_with_leaf n.layout (number_of d) s) ∙ is));
  only = λ x i. ⊎_elim
      (λ (e : x ≡ record { link = d; words = t.words }). subst (IsIn (with_leaf (number_of d) s)) (sym (ap (λ (y : InHand). y.link) e ∙ named)) refl)
      (λ (j : Member x v.hand). on x.link (o.only x j))
      (subst (Member x) t.hand i);
}
  where
    named : d ≡ leaf (number_of d)
    named = t.is ∙ ap leaf (sym (ap number_of t.is))

    packed : IsPacked z w (number_of d) k value 0
    packed = record {
      is = record {
        hand = record { link = d; words = t.words };
        has = (subst (Member (record { link = d; words = t.words })) (sym t.hand) (inl refl), named);
        long = t.long ∙ ap word_count_of named;
        inside = subst (IsNumber z) named t.there;
        fits = subst FitsWord named t.fits;
      };
      words = λ i low. absurd (omega arith);
    }

    on : (e : Link) → IsIn s e → IsIn (with_leaf (number_of d) s) e
    on (leaf l) i = absurd (cc)
    on (node n) i = node_with_leaf n.layout (number_of d) s ∙ i

-- of a node
abbrev pub taken_node : Layout → Link → Node
taken_node layout d = record { layout = layout; number = number_of d }

pub stock_took_node : (z : Sizes) (k : List ℕ) (value : ℕ) (v w : View) (layout : Layout) (d : Link) (s : Stock) → TookLowest z v w (pool_of_layout layout) d → node_in s layout ≡ None → HasStock z k value v s → HasStock z k value w (with_node (taken_node layout d) s)
stock_took_node z k value v w layout d s t none o = record {
  leaf = λ l is.
      let words : words_written s ≡ words_written (with_node (taken_node layout d) s) = ap (λ (b : Bool). words_of b) (sym (leaf_by_node layout (Some ranked) noted).1) in
      subst (IsPacked z w l k value) words (packed_on z v w l k value (words_written s) (λ x i. subst (Member x) (sym t.hand) (inr i.0)) (o.leaf l (sym (leaf_by_node layout (Some ranked) noted).0 ∙ is)));
  nodes = λ n is. ⊎_elim
      (λ (same : layout ≡ n.layout). subst (HasNode z w) (one n same is) has)
      (λ (other : (p : Option RankedNode) (r : Stock) → node_in (set_node layout p r) n.layout ≡ node_in r n.layout). node_on z v w n (λ x i. subst (Member x) (sym t.hand) (inr i.0)) (o.nodes n (sym (other _ noted ∙ node_hinted n.layout layout (number_of d / 64) s) ∙ is)))
      (same_or_other layout n.layout);
  only = λ x i. ⊎_elim
      (λ (e : x ≡ record { link = d; words = t.words }). subst (IsIn (with_node (taken_node layout d) s)) (sym (ap (λ (y : InHand). y.link) e ∙ named)) (node_here layout (Some ranked) noted))
      (λ (j : Member x v.hand). on x.link (o.only x j))
      (subst (Member x) t.hand i);
}
  where
    ranked : RankedNode
    ranked = record { number = number_of d; rank = next_rank s }

    noted : Stock
    noted = hinted layout (number_of d / 64) s

    words_of : Bool → ℕ
    words_of b = words_written (record s { written = b })

    in_layout : (a : Layout) (i : ℕ) → link_in_pool (pool_of_layout a) i ≡ node (record { layout = a; number = i })
    in_layout Node4 i = refl
    in_layout Node16 i = refl
    in_layout Node48 i = refl
    in_layout Node256 i = refl

    named : d ≡ node (taken_node layout d)
    named = let is = t.is ∙ in_layout layout _ in is ∙ ap (λ (i : ℕ). node (record { layout = layout; number = i })) (sym (ap number_of is))

    has : HasNode z w (taken_node layout d)
    has = record {
      hand = record { link = d; words = t.words };
      has = subst (Member (record { link = d; words = t.words })) (sym t.hand) (inl refl);
      link = named;
      number = subst (IsNumber z) named t.there;
      fits = subst FitsWord named t.fits;
    }

    one : (n : Node) → layout ≡ n.layout → node_in (with_node (taken_node layout d) s) n.layout ≡ Some n.number → taken_node layout d ≡ n
    one n same is =
        let number : number_of d ≡ n.number = same_Some (number_of d) n.number (sym (node_here layout (Some ranked) noted) ∙ (ap (node_in (with_node (taken_node layout d) s)) same ∙ is)) in
        ap (λ (i : ℕ). record { layout = layout; number = i }) number ∙ ap (λ (a : Layout). record { layout = a; number = n.number }) same

    on : (e : Link) → IsIn s e → IsIn (with_node (taken_node layout d) s) e
    on (leaf l) i = (leaf_by_node layout (Some ranked) noted).0 ∙ i
    on (node n) i = ⊎_elim
        (λ (same : layout ≡ n.layout). let gone : node_in s n.layout ≡ None = subst (λ (a : Layout). node_in s a ≡ None) same none in absurd (cc))
        (λ (other : (p : Option RankedNode) (r : Stock) → node_in (set_node layout p r) n.layout ≡ node_in r n.layout). other _ noted ∙ node_hinted n.layout layout (number_of d / 64) s ∙ i)
        (same_or_other layout n.layout)
