-- A leaf that comes below a new node, beside a node whose prefix parts from the key, is planned.
use Rattle.std.proofs.Common.{◌≡◌, ◌≢◌, ◌⊎◌, ℕ, suc, ◌+◌, ◌<◌, List, [], ◌∷◌, ◌++◌, length, take, drop, get_or, Some, refl, sym, ap, ◌∙◌, subst, inl, inr, ⊎_elim, arith}
use Rattle.std.proofs.Math.Seq.{take-add, take-append_seam}
use Rattle.art_cell.specs.Children.{child_word}
use Rattle.art_cell.specs.Bodies.{IsBody}
use Rattle.art_cell.specs.Reads.{word_of, written}
use Rattle.art_cell.specs.Words.{Words, child_of}
use Rattle.art_cell.specs.declared.cells.Body.{Body}
use Rattle.art_cell.specs.declared.cells.Cell.TheVariants as cell
use Rattle.art_cell.specs.declared.cells.Link.TheVariants.{Leaf as leaf, Node as node}
use Rattle.art_cell.specs.declared.cells.Node.{Node}
use Rattle.art_cell.specs.declared.cells.Layout.{Layout}
use Rattle.art_cell.specs.declared.cells.Layout.TheVariants.{Node4}
use Rattle.art_cell.specs.declared.cells.Write.{Write}
use Rattle.art_commit.proofs.ChangeForks.{fork_commits}
use Rattle.art_commit.proofs.Members.{same_commits}
use Rattle.art_commit.specs.CommitLaws.{Before, IsItsNode}
use Rattle.art_plan.specs.Insert.Cases.{IsForkPrefix}
use Rattle.art_plan.specs.Insert.Puts.{inserted, node4}
use Rattle.art_plan.specs.Puts.{IsSitePlan, change_of, puts_of}
use Rattle.art_plan.specs.declared.changes.Below.{Below}
use Rattle.art_plan.specs.declared.insert.NewLeaf.{NewLeaf}
use Rattle.art_plan.specs.declared.insert.Parting.{Parting}
use Rattle.art_node.specs.Prefixes.{IsNodeOf, IsPrefixPlan, two_of}
use Rattle.art_plan.specs.Changes.{IsPlanned, IsReady, MayPut, leaf_linked, node_made, with_puts}
use Rattle.art_plan.specs.Seen.{kept, site_stamp}
use Rattle.art_plan.specs.declared.changes.Change.{Change}
use Rattle.art_plan.specs.declared.changes.Put.{Put}
use Rattle.art_plan.specs.declared.changes.Target.{Target}
use Rattle.art_plan.specs.declared.changes.Site.{Site}
use Rattle.art_step.proofs.SetsView.{member_append}
use Rattle.art_step.specs.Steps.Commit as commit
use Rattle.art_step.specs.Views.{IsNumber, Member}
use Rattle.art_step.specs.WordPlaces.{HasVersion}
use Rattle.art_step.specs.declared.views.Sizes.{Sizes}
use Rattle.art_step.specs.declared.views.View.{View}
use Rattle.art_tree.specs.Heaps.{Cells, node_prefix}
use Rattle.art_tree.specs.Tree.{Begins}
use Rattle.art_tree.specs.WordChanges.{KeepsChildren, WritesNode, cell_of}
use Rattle.art_plan.proofs.ForkNodes.{begins_at, two_there}
use Rattle.art_plan.proofs.ChildPlaces.{NameThere, same_there}
use Rattle.art_plan.proofs.MadeNodes.{claims_one, cut_node_prefix, key_small, made_written, prefix_small}
use Rattle.art_plan.proofs.Planning.{both_come, may_make, one_of_two, two_planned}
use Rattle.art_plan.proofs.PutWords.{with_puts-append, with_puts-other}
use Rattle.art_plan.proofs.ReadyCells.{IsMadeCell, IsTargetCell, holds_just, leaf_kept, node_kept}
use Rattle.art_plan.proofs.SiteWords.{HasMeaning, IsWrittenAt, children_read, may_put_site, may_put_whole, may_target, may_target_site, names_there, node_written, put_plan, site_written, whole_after, whole_before}

-- ---- a prefix in three parts

-- the front, the byte and the rest of a prefix are what stands before an index, there, and after it
pub record IsSplit (q : List ℕ) (a : ℕ) (p prefix : List ℕ) (n : ℕ) : Type 0 where
  pub front : q ≡ take n prefix
  pub byte : a ≡ get_or prefix n 0
  pub rest : p ≡ drop (n + 1) prefix

byte_there : (q : List ℕ) (a : ℕ) (p : List ℕ) → get_or (q ++ a ∷ p) (length q) 0 ≡ a
byte_there [] a p = refl
byte_there (x ∷ q) a p = byte_there q a p

rest_there : (q : List ℕ) (a : ℕ) (p : List ℕ) → drop (suc (length q)) (q ++ a ∷ p) ≡ p
rest_there [] a p = refl
rest_there (x ∷ q) a p = rest_there q a p

pub split_is : (q : List ℕ) (a : ℕ) (p prefix : List ℕ) (n : ℕ) → q ++ a ∷ p ≡ prefix → length q ≡ n → IsSplit q a p prefix n
split_is q a p prefix n whole long = subst (λ (xs : List ℕ). IsSplit q a p xs n) whole (subst (λ (m : ℕ). IsSplit q a p (q ++ a ∷ p) m) long (record {
  front = sym (take-append_seam q (a ∷ p));
  byte = sym (byte_there q a p);
  rest = let next : suc (length q) ≡ length q + 1 = omega arith in sym (rest_there q a p) ∙ ap (λ (m : ℕ). drop m (q ++ a ∷ p)) next;
}))

-- ---- the plan

module _ (z : Sizes) (u : View) (site : Site) (new : NewLeaf) (parting : Parting) (below : Below) (prefix : List ℕ) (number : ℕ) (body : Body) (writes others : List Write)
    (knows : IsForkPrefix z u site new parting below prefix number) (q : List ℕ) (a : ℕ) (p : List ℕ) (whole : q ++ a ∷ p ≡ prefix) (long : length q ≡ parting.common) where
  abbrev k : List ℕ
  k = new.key.items

  abbrev at : ℕ
  at = parting.depth + parting.common

  abbrev n : Node
  n = below.node

  abbrev w : Words
  w = word_of below.body.now

  abbrev c : Change
  c = change_of (kept (site_stamp site) ∷ kept below.stamp ∷ []) (puts_of 0 writes ++ puts_of 1 others) others (Some number) body (Some new.number) [] (inserted new)

  split : IsSplit q a p prefix parting.common
  split = split_is q a p prefix parting.common whole long

  -- the puts of each target
  first_puts : (ws : List ℕ) → with_puts 0 c.puts.items ws ≡ with_puts 0 (puts_of 0 writes) ws
  first_puts ws = with_puts-append 0 (puts_of 0 writes) (puts_of 1 others) ws ∙ with_puts-other 0 1 others (with_puts 0 (puts_of 0 writes) ws) (λ e. omega arith)

  second_puts : (ws : List ℕ) → with_puts 1 c.puts.items ws ≡ with_puts 1 (puts_of 1 others) ws
  second_puts ws = with_puts-append 1 (puts_of 0 writes) (puts_of 1 others) ws ∙ ap (with_puts 1 (puts_of 1 others)) (with_puts-other 1 0 writes ws (λ e. omega arith))

  module _ (plan : IsSitePlan site (child_word (node (node4 number))) writes) (cut : IsPrefixPlan below.body.now.layout w others p) (meaning : IsBody below.body.now.layout w)
      (inside : at < length k) (apart : a ≢ get_or k at 0) (layout : body.layout ≡ Node4)
      (forked : IsNodeOf Node4 (word_of body) q (two_of a (child_word (node n)) (get_or k at 0) (child_word (leaf new.number)))) where
    made : node_made c ≡ Some (node4 number)
    made = ap (λ (l : Layout). Some (record { layout = l; number = number })) layout

    a_small : a < 256
    a_small = subst (λ (b : ℕ). b < 256) (sym split.byte) (prefix_small w prefix parting.common knows.prefix_is)

    begins : Begins (take parting.depth k ++ q ++ get_or k at 0 ∷ []) k
    begins = subst (λ (bytes : List ℕ). Begins (bytes ++ get_or k at 0 ∷ []) k)
        (take-add parting.depth parting.common k ∙ ap (λ (bytes : List ℕ). take parting.depth k ++ bytes) (sym (split.front ∙ knows.same))) (begins_at k at inside)

    module _ (v : View) (ready : IsReady u c v) (s s' : Cells) (b : Before z v s s') where
      -- the node below keeps its children, and the rest of its prefix
      n_cut : KeepsChildren s s' (node n) (λ o rest. node_prefix (s (cell.Node o)) ≡ q ++ a ∷ rest)
      n_cut =
          let old = whole_before z u v c ready s s' b 1 (kept below.stamp) refl others second_puts n below.body.now knows.there.read in
          let new = whole_after z u v c ready s s' b 1 (kept below.stamp) refl others second_puts n below.body.now knows.there.read cut.exact in
          let kept_node : WritesNode below.body.now.layout (written w others) p (child_of below.body.now.layout w) = record { body = cut.node.body; prefix = cut.node.prefix; children = cut.node.children } in (
            p,
            ap node_prefix old ∙ cut_node_prefix below.body.now.layout w meaning ∙ knows.prefix_is ∙ sym whole,
            node_written s s' below.body.now n others p knows.there.read.layout meaning old new kept_node,
          )

    fork_prefix_may : (v : View) → IsReady u c v → commit.May z v (inserted new) [] (commit.coming v (leaf_linked c))
    fork_prefix_may v ready s s' shape known turns =
        let b : Before z v s s' = record { shape = shape; knows = known; new = turns } in
        let there : IsWrittenAt s s' (site_stamp site) (take parting.depth k) (Some (node n)) (Some (node (node4 number))) =
        site_written z u v c ready s s' b k parting.depth (Some (node n)) (Some (node (node4 number))) writes site knows.there.place (put_plan site (node (node4 number)) writes plan) refl first_puts in
        let just = holds_just z u v c ready (λ d. (d ≡ cell.Node (node4 number)) ⊎ ((d ≡ cell_of there.place) ⊎ IsItsNode (node n) d))
        (λ d. ⊎_elim
        (λ (e : d ≡ cell.Node (node4 number)). inr (node4 number, made, e))
        (⊎_elim
        (λ (e : d ≡ cell_of there.place). inl (0, kept (site_stamp site), refl, e ∙ there.cell_is))
        (λ (i : IsItsNode (node n) d). let same = i.1 in inl (1, kept below.stamp, refl, i.2 ∙ (let is : i.0 ≡ n = cc in ap cell.Node is) ∙ sym knows.there.read.cell))))
        (λ d. ⊎_elim
        (λ (t : IsTargetCell c d). ⊎_elim
        (λ (o : (t.0 ≡ 0) × (kept (site_stamp site) ≡ t.1)). inr (inl (t.3 ∙ ap (λ (y : Target). y.stamp.cell) (sym o.1) ∙ sym there.cell_is)))
        (λ (o : (t.0 ≡ 1) × (kept below.stamp ≡ t.1)). inr (inr (n, refl, t.3 ∙ ap (λ (y : Target). y.stamp.cell) (sym o.1) ∙ knows.there.read.cell)))
        (one_of_two (kept (site_stamp site)) (kept below.stamp) t.0 t.1 t.2))
        (λ (o : IsMadeCell c d). let same : Some o.0 ≡ Some (node4 number) = sym o.1 ∙ made in inl (o.2 ∙ (let is : o.0 ≡ node4 number = cc in ap cell.Node is)))) in
        same_commits z v (inserted new) [] [] (leaf new.number ∷ node (node4 number) ∷ []) (commit.coming v (leaf_linked c)) s s' (λ d. ((λ i. i), (λ i. i))) tt
        (both_come z u v c ready new.number refl (node4 number) made)
        (fork_commits z v s s' there.place (take parting.depth k) (node n) (node4 number) new.number a (get_or k at 0) q k new.value b
        (leaf_kept z u v c ready new.number k new.value knows.new_leaf) (node_kept z u v c ready (node4 number) knows.made) just (claims_one z u v c ready (node4 number) made) there.put
        (made_written z u v c ready (node4 number) made s s' b q _ forked) (n_cut v ready s s' b) there.at there.was a_small (key_small z u new.number k new.value at knows.new_leaf) apart
        (λ i e. absurd (cc)) begins)

    children : NameThere z (child_of Node4 (word_of body))
    children =
        let number_of_n : IsNumber z (node n) = subst (HasVersion z) knows.there.read.cell knows.there.read.may.inside in
        same_there z (two_of a (child_word (node n)) (get_or k at 0) (child_word (leaf new.number))) (child_of Node4 (word_of body)) forked.children
        (two_there z a (child_word (node n)) (get_or k at 0) (child_word (leaf new.number)) (names_there z (node n) knows.there.fits number_of_n) (names_there z (leaf new.number) knows.new_leaf.fits knows.new_leaf.number))

    puts : HasMeaning site → (put : Put) → Member put (puts_of 0 writes ++ puts_of 1 others) → MayPut z c put
    puts site_meaning put m = ⊎_elim
        (may_put_site z u c k parting.depth (Some (node n)) (Some (node (node4 number))) writes (names_there z (node (node4 number)) knows.made.fits knows.made.number) site knows.there.place site_meaning (put_plan site (node (node4 number)) writes plan) refl put)
        (may_put_whole z u below.stamp n below.body.now knows.there.read c 1 (kept below.stamp) others refl refl cut.exact cut.node.body
        (same_there z (child_of below.body.now.layout w) (child_of below.body.now.layout (written w others)) cut.node.children (children_read z u below.stamp n below.body.now knows.there.read meaning)) put)
        (member_append put (puts_of 0 writes) (puts_of 1 others) m)

    pub fork_prefix_planned : HasMeaning site → IsPlanned z u c
    fork_prefix_planned site_meaning = two_planned z u (site_stamp site) (kept below.stamp) n (puts_of 0 writes ++ puts_of 1 others) others (Some number) body (Some new.number) [] (inserted new)
        (may_target_site z u k parting.depth (Some (node n)) site knows.there.place)
        (may_target z u below.stamp n below.body.now knows.there.read (kept below.stamp) refl) knows.there.read.cell knows.there.apart refl
        ((λ e. absurd (cc)), (λ i. absurd i))
        (λ m i. absurd i)
        (puts site_meaning)
        (may_make z u c (node4 number) made knows.made forked.body children)
        fork_prefix_may
