-- The prefix of the node parts from the key: what a fork of both needs.
use Rattle.std.proofs.Common.{◌≡◌, ◌≢◌, ℕ, ◌+◌, ◌-◌, ◌<◌, true, List, length, get_or, map, take, drop, Some, None, sym, ap, ◌∙◌, subst, arith, length-take-le}
use Rattle.std.proofs.lemmas.List.FromFn.{get_or-map-range_with_len, length-map-range_with_len, take-map-range_with_len}
use Rattle.std.specs.Borrow.{Bor}
use Rattle.std.specs.List.{range_with_len}
use Rattle.art_cell.specs.Bodies.{IsBody}
use Rattle.art_cell.specs.Leaves.{prefix_read}
use Rattle.art_cell.specs.Reads.{word_of}
use Rattle.art_cell.specs.Words.{packed, prefix_of}
use Rattle.art_cell.specs.declared.cells.Body.{Body}
use Rattle.art_cell.specs.declared.cells.Cell.TheVariants as cell
use Rattle.art_cell.specs.declared.cells.Link.TheVariants.{Node as node}
use Rattle.art_cell.specs.declared.cells.Node.{Node}
use Rattle.art_cell.specs.declared.cells.Layout.TheVariants.{Node4}
use Rattle.art_plan.specs.ChooseInsert.Bodies.{IsFilled, site_in}
use Rattle.art_plan.specs.ChooseInsert.Needs.{needs_of}
use Rattle.art_plan.specs.ChooseInsert.Plans.{HasNeeded, MakesAnother}
use Rattle.art_plan.specs.ChooseInsert.Seen.{IsSeen}
use Rattle.art_find.specs.Ways.{count_in}
use Rattle.art_find.specs.Verdicts.{IsPrefixMismatch, Says}
use Rattle.art_find.specs.declared.descents.Verdict.{Verdict}
use Rattle.art_find.specs.declared.descents.Verdict.TheVariants.{PrefixMismatch}
use Rattle.art_plan.proofs.MadeNodes.{key_small}
use Rattle.art_plan.specs.Seen.{HasBelow}
use Rattle.art_plan.specs.Insert.Cases.{IsForkPrefix, IsInHand}
use Rattle.art_plan.specs.Insert.Puts.{node4}
use Rattle.art_plan.specs.declared.insert.NewLeaf.{NewLeaf}
use Rattle.art_path.proofs.PackedTexts.{same_packed}
use Rattle.art_find.specs.ReadSets.{above_of, node_of}
use Rattle.art_find.specs.Findings.{IsStanding}
use Rattle.art_find.specs.declared.read_sets.ReadSet.{ReadSet}
use Rattle.art_find.specs.declared.findings.Above.{Above}
use Rattle.art_find.specs.declared.findings.Position.{Position}
use Rattle.art_plan.specs.declared.changes.Site.{Site}
use Rattle.art_step.specs.declared.views.Sizes.{Sizes}
use Rattle.art_step.specs.declared.views.View.{View}
use Rattle.art_tree.proofs.Places.{one_path}
use Rattle.art_tree.specs.Heaps.{heap_of}
use Rattle.art_plan.proofs.AboveSites.{below_there, led_there}
use Rattle.art_plan.proofs.PrefixBytes.{prefix_seen}
use Rattle.art_plan.proofs.SeenBodies.{seen_body, seen_node}
use Rattle.art_plan.proofs.WholeCells.{IsWhole, above_is, node_whole}

-- ---- where it stands, and what was seen

module _ (z : Sizes) (k : List ℕ) (t : Position) (read_set : ReadSet) (n : Node) (header at : ℕ) (is : t.verdict ≡ PrefixMismatch n header at) where
  says : (u : View) → IsStanding z k t read_set u → Says z k t.depth t.stamp (PrefixMismatch n header at) u
  says u standing = subst (λ (f : Verdict). Says z k t.depth t.stamp f u) is standing.says

  pub prefix_writes : (needs_of t.verdict).above ≡ true
  prefix_writes = ap (λ (f : Verdict). (needs_of f).above) is

  module _ (seen : IsSeen z k t read_set) where
    there : IsPrefixMismatch seen.vouched.tree n k t.depth header at
    there = (says seen.vouched.view seen.vouched.standing).3 seen.vouched.tree seen.vouched.shape seen.vouched.holds

    pub prefix_on : t.stamp.cell ≡ cell.Node n
    prefix_on = (says seen.vouched.view seen.vouched.standing).0

    whole : IsWhole z seen.vouched.view t.stamp (node_of read_set)
    whole = node_whole z k t read_set seen.vouched.view seen.vouched.standing seen.whole

    -- its bytes were read
    pub prefix_there : prefix_read (node_of read_set) ≢ None
    prefix_there = prefix_seen z seen.vouched.view t.stamp (node_of read_set) whole seen.vouched.tree seen.vouched.shape seen.vouched.holds n prefix_on

    module _ (a : Above) (above-is : t.above ≡ Some a) where
      -- the path by which the cell above has the node is the one that was read
      pub same_depth : a.depth ≡ t.depth
      same_depth =
          let s = seen.vouched.tree in
          let v = seen.vouched.view in
          let one : take a.depth k ≡ take t.depth k =
          one_path (heap_of s) (node n) (take a.depth k) (take t.depth k) seen.vouched.shape.tree.once (led_there z k t read_set n prefix_on a above-is v s seen.vouched.standing seen.vouched.holds) there.on.at in
          let deep = (above_is z k t read_set v seen.vouched.standing n prefix_on a above-is).deep in
          sym (length-take-le a.depth k deep) ∙ ap length one ∙ length-take-le t.depth k seen.vouched.standing.deep

      pub prefix_inside : a.depth + at < length k
      prefix_inside = let same = same_depth in let low = (says seen.vouched.view seen.vouched.standing).2 in omega (arith, same, low)

      module _ (body : Body) (filled : IsFilled t.stamp.cell (node_of read_set) body) (bytes : List ℕ) (are : bytes ≡ prefix_of (word_of body)) where
        -- its bytes are packed in the words of the tree's node
        bytes_packed : bytes ≡ map (packed (seen.vouched.tree (cell.Node n)) 2) (range_with_len 0 (count_in header))
        bytes_packed =
            are
            ∙ (seen_node z seen.vouched.view t.stamp (node_of read_set) whole seen.vouched.tree seen.vouched.shape seen.vouched.holds n prefix_on body filled).prefix
            ∙ ap (λ (h : ℕ). map (packed (seen.vouched.tree (cell.Node n)) 2) (range_with_len 0 (count_in h))) there.on.is_header

        within_count : at < count_in header
        within_count = (says seen.vouched.view seen.vouched.standing).1

        pub prefix_within : at < length bytes
        prefix_within =
            let long : length bytes ≡ count_in header = ap length bytes_packed ∙ length-map-range_with_len (packed (seen.vouched.tree (cell.Node n)) 2) 0 (count_in header) in
            let low = within_count in
            omega (arith, long, low)

        pub prefix_apart : get_or bytes at 0 ≢ get_or k (a.depth + at) 0
        prefix_apart e =
            let byte : get_or bytes at 0 ≡ packed (seen.vouched.tree (cell.Node n)) 2 at =
            ap (λ (xs : List ℕ). get_or xs at 0) bytes_packed
            ∙ get_or-map-range_with_len (packed (seen.vouched.tree (cell.Node n)) 2) 0 (count_in header) at at 0 within_count (omega arith) in
            there.other (sym byte ∙ e ∙ ap (λ (d : ℕ). get_or k (d + at) 0) same_depth)

        -- and are the key's as far as both are common
        pub prefix_same : take at bytes ≡ take at (drop a.depth k)
        prefix_same =
            let low = within_count in
            ap (take at) bytes_packed
            ∙ take-map-range_with_len (packed (seen.vouched.tree (cell.Node n)) 2) 0 (count_in header) at (omega (arith, low))
            ∙ same_packed (seen.vouched.tree (cell.Node n)) 2 at k t.depth there.same
            ∙ ap (λ (d : ℕ). take at (drop d k)) (sym same_depth)

        pub prefix_meaning : IsBody body.layout (word_of body)
        prefix_meaning = seen_body z seen.vouched.view t.stamp (node_of read_set) whole seen.vouched.tree seen.vouched.shape seen.vouched.holds n prefix_on body filled

-- ---- the plan

module _ (z : Sizes) (t : Position) (read_set : ReadSet) (new : NewLeaf) (n : Node) (header at made : ℕ) (is : t.verdict ≡ PrefixMismatch n header at) (a : Above) (above-is : t.above ≡ Some a)
    (seen : IsSeen z new.key.items t read_set) where
  abbrev k : List ℕ
  k = new.key.items

  -- the new node is another, where it is another cell
  pub prefix_other : MakesAnother t made → node n ≢ node (node4 made)
  prefix_other another same =
      let one : n ≡ node4 made = cc in
      another Node4 (ap (λ (f : Verdict). (needs_of f).node) is) (prefix_on z k t read_set n header at is seen ∙ ap cell.Node one)

  module _ (upper lower : Bor Body) (upper-filled : IsFilled a.stamp.cell (above_of read_set) upper.now) (lower-filled : IsFilled t.stamp.cell (node_of read_set) lower.now) where
    pub prefix_knows : (u : View) (site : Site) → site ≡ site_in a.stamp upper (get_or k (a.depth - 1) 0) → IsStanding z k t read_set u → IsInHand z u new → HasNeeded z u t.verdict made
        → (bytes : List ℕ) → bytes ≡ prefix_of (word_of lower.now)
        → IsForkPrefix z u site new (record { depth = a.depth; common = at }) (record { node = n; stamp = t.stamp; body = lower }) bytes made
    prefix_knows u site named standing hand needed bytes are = record {
      there = subst (λ (p : Site). HasBelow z u p new.key.items a.depth (record { node = n; stamp = t.stamp; body = lower })) (sym named)
          (below_there z k t read_set n (prefix_on z k t read_set n header at is seen) a above-is (seen.above a above-is (prefix_writes z k t read_set n header at is)) seen.whole upper lower upper-filled lower-filled u standing
          (key_small z u new.number k new.value (a.depth - 1) hand));
      prefix_is = sym are;
      same = prefix_same z k t read_set n header at is seen a above-is lower.now lower-filled bytes are;
      made = needed Node4 (ap (λ (f : Verdict). (needs_of f).node) is);
      new_leaf = hand;
    }
