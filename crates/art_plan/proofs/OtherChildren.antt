-- The node keeps one other child: which it is, and what the plan knows that puts it in the node's place.
use Rattle.std.proofs.Common.{◌≡◌, ◌≢◌, ℕ, ◌-◌, ◌<◌, List, get_or, Option, Some, None, refl, sym, ap, ◌∙◌, subst, inl, inr, arith}
use Rattle.std.proofs.lemmas.Bool.{cases_eq}
use Rattle.std.specs.Borrow.{Bor}
use Rattle.art_cell.specs.Children.{child_word, link_of}
use Rattle.art_cell.specs.Reads.{word_of}
use Rattle.art_cell.specs.Words.{Words, child_of, count_of}
use Rattle.art_cell.specs.declared.cells.Body.{Body}
use Rattle.art_cell.specs.declared.cells.Cell.{Cell}
use Rattle.art_cell.specs.declared.cells.Cell.TheVariants as cell
use Rattle.art_cell.specs.declared.cells.Link.{Link}
use Rattle.art_cell.specs.declared.cells.Link.TheVariants.{Leaf as leaf, Node as node}
use Rattle.art_cell.specs.declared.cells.Node.{Node}
use Rattle.art_cell.specs.declared.cells.Layout.{Layout}
use Rattle.art_cell.specs.declared.node_kinds.Entry.{Entry}
use Rattle.art_plan.proofs.FoundLeaves.{found_at, found_below, found_leaf, found_low, found_meaning, found_whole}
use Rattle.art_plan.proofs.LeftChildren.{goes_two}
use Rattle.art_plan.proofs.ListedPairs.{two_listed}
use Rattle.art_plan.specs.ChooseRemove.Losses.{loss_at}
use Rattle.art_plan.specs.ChooseRemove.Others.{IsBeside, IsReadOf}
use Rattle.art_plan.specs.ChooseRemove.Plans.{HasFound, HasOther}
use Rattle.art_plan.specs.ChooseRemove.Seen.{AreSeen, IsSeen}
use Rattle.art_plan.specs.declared.choose_remove.Loss.TheVariants.{Merges}
use Rattle.art_plan.proofs.SeenBodies.{low_byte, seen_child, word_named}
use Rattle.art_plan.specs.ChooseInsert.Bodies.{HasWords, IsFilled, site_in}
use Rattle.art_plan.specs.ArtFind.ReadSets.{above_of, node_of}
use Rattle.art_plan.specs.ArtFind.Findings.{IsStanding}
use Rattle.art_plan.specs.ArtFind.Rereadings.{AreKnown}
use Rattle.art_plan.specs.ArtFind.declared.read_sets.ReadSet.{ReadSet}
use Rattle.art_plan.specs.ArtFind.declared.findings.Above.{Above}
use Rattle.art_plan.specs.ArtFind.declared.findings.Position.{Position}
use Rattle.art_plan.specs.declared.changes.Site.{Site}
use Rattle.art_plan.specs.Remove.Cases.{IsMergeLeaf}
use Rattle.art_plan.specs.Remove.Removals.{HasPair}
use Rattle.art_plan.specs.declared.remove.OldLeaf.{OldLeaf}
use Rattle.art_step.specs.Knowledge.{CellAt}
use Rattle.art_step.specs.Views.{note_of, size_of}
use Rattle.art_step.specs.declared.views.Fact.TheVariants.{Starts, Word}
use Rattle.art_step.specs.declared.views.Sizes.{Sizes}
use Rattle.art_step.specs.declared.views.View.{View}
use Rattle.art_tree.proofs.ChildWords.{link_exact}
use Rattle.art_tree.specs.Heaps.{Cells, heap_of}
use Rattle.art_tree.specs.Tree.{StandsAt}

-- two bytes have a child
record HasTwo (k : Layout) (w : Words) : Type 0 where
  one : ℕ
  other : ℕ
  less : one < other
  low : other < 256
  one_word : ℕ
  other_word : ℕ
  one_is : child_of k w one ≡ Some one_word
  other_is : child_of k w other ≡ Some other_word

-- ---- which it is

module _ (z : Sizes) (t : Position) (read_set : ReadSet) (old : OldLeaf) (is : HasFound t old) (seen : IsSeen z old.key.items t read_set) (n : Node) (on : t.stamp.cell ≡ cell.Node n) where
  abbrev last : ℕ
  last = get_or old.key.items (t.depth - 1) 0

  abbrev s : Cells
  s = seen.0.tree

  abbrev w : Words
  w = s (cell.Node n)

  abbrev q : List ℕ
  q = (found_whole z t read_set old is seen).path.0

  on_path : StandsAt (heap_of s) (node n) q
  on_path = subst (λ (c : Cell). CellAt s c q) on (seen.0.holds (note_of t.stamp (Starts q)) (found_whole z t read_set old is seen).path.1 refl)

  -- its words in the tree are those that were read
  pub read_all : IsReadOf n.layout (node_of read_set) w
  read_all = record {
    body = (seen.0.shape.nodes n q on_path).body;
    agrees = λ place word read.
        subst (λ (c : Cell). s c place ≡ word) on (seen.0.holds (note_of t.stamp (Word place word)) ((found_whole z t read_set old is seen).words.each place word read).noted refl);
    known = subst (λ (c : Cell). AreKnown (node_of read_set) 1 (size_of c)) on seen.1;
  }

  -- a node of a tree has two children at least
  two_there : HasTwo n.layout w
  two_there =
      let has = seen.0.shape.tree.splits n q on_path in
      let a-word = word_named z s seen.0.shape n q on_path has.0 has.2 has.5 in
      let b-word = word_named z s seen.0.shape n q on_path has.1 has.3 has.6 in
      record {
        one = has.0;
        other = has.1;
        less = has.4;
        low = low_byte z s seen.0.shape n q on_path has.1 has.3 has.6;
        one_word = a-word.0;
        other_word = b-word.0;
        one_is = a-word.1;
        other_is = b-word.1;
      }

  -- so one is beside the leaf
  pub beside_there : (r : Option Entry) → IsBeside (child_of n.layout w) last r → r ≢ None
  beside_there None none e = elim (cases_eq two_there.one last) [
    | inl here ↦
        let less = two_there.less in
        let no : Some two_there.other_word ≡ None = sym two_there.other_is ∙ none two_there.other two_there.low (λ same. omega (arith, same, here, less)) in
        absurd (cc)
    | inr apart ↦
        let less = two_there.less in
        let low = two_there.low in
        let no : Some two_there.one_word ≡ None = sym two_there.one_is ∙ none two_there.one (omega (arith, less, low)) apart in
        absurd (cc)
  ]
  beside_there (Some entry) beside e = absurd (cc)

  module _ (beside word : ℕ) (low : beside < 256) (there : child_of n.layout w beside ≡ Some word) where
    -- its word names a cell
    pub other_named : link_of word ≢ None
    other_named none =
        let names = (seen.0.shape.nodes n q on_path).children beside word low there in
        let no : None ≡ Some names.0 = sym none ∙ names.1 in
        absurd (cc)

  module _ (goes : loss_at t read_set ≡ Merges) (body : Body) (filled : IsFilled t.stamp.cell (node_of read_set) body) where
    same_child : (b : ℕ) → b < 256 → child_of body.layout (word_of body) b ≡ child_of n.layout w b
    same_child = seen_child z seen.0.view t.stamp (node_of read_set) (found_whole z t read_set old is seen) s seen.0.shape seen.0.holds n on body filled

    -- where the node goes it has no third
    other_two : count_of (word_of body) ≡ 2
    other_two =
        let less = two_there.less in
        let low = two_there.low in
        let more = two_listed (child_of body.layout (word_of body)) two_there.one two_there.other two_there.one_word two_there.other_word (omega (arith, less, low)) low (λ e. omega (arith, e, less))
        (same_child two_there.one (omega (arith, less, low)) ∙ two_there.one_is) (same_child two_there.other low ∙ two_there.other_is) in
        let few = goes_two t read_set goes n on body filled in
        let counted = (found_meaning z t read_set old is seen n on body filled).counted in
        omega (arith, more, few, counted)

    pub other_pair : (beside word : ℕ) → beside < 256 → beside ≢ last → child_of n.layout w beside ≡ Some word → (d : Link) → link_of word ≡ Some d
        → HasPair body last (child_word (leaf old.number)) beside (child_word d)
    other_pair beside word low apart there d names = record {
      meaning = found_meaning z t read_set old is seen n on body filled;
      two = other_two;
      low = found_low z t read_set old is seen n on body filled;
      one = found_at z t read_set old is seen n on body filled;
      low_beside = low;
      another = same_child beside low ∙ there ∙ ap Some (sym (link_exact word d names).0);
      apart = apart;
    }

  -- so have all bodies with the words that were read
  pub other_has : loss_at t read_set ≡ Merges → (beside word : ℕ) → beside < 256 → beside ≢ last → child_of n.layout w beside ≡ Some word → (d : Link) → link_of word ≡ Some d → HasOther t read_set old beside d
  other_has goes beside word low apart there d names = record {
    node = n;
    is = on;
    pair = λ body has.
        other_pair goes body
        (λ (m : Node) (at : t.stamp.cell ≡ cell.Node m).
        let same : cell.Node n ≡ cell.Node m = sym on ∙ at in
        let one : n ≡ m = cc in
        subst (λ (p : Node). HasWords p (node_of read_set) body) one has)
        beside word low apart there d names;
  }

-- ---- the plan

module _ (t : Position) (read_set : ReadSet) (old : OldLeaf) (a : Above) (at : t.above ≡ Some a) (upper : Bor Body) (upper-filled : IsFilled a.stamp.cell (above_of read_set) upper.now) (site : Site)
    (named : site ≡ site_in a.stamp upper (get_or old.key.items (a.depth - 1) 0)) where
  -- the site in the cell above gets the other leaf
  pub merge_leaf_knows : (z : Sizes) (u : View) → HasFound t old → (n : Node) → t.stamp.cell ≡ cell.Node n → (beside l : ℕ) (other : HasOther t read_set old beside (leaf l)) (lower : Bor Body) → IsFilled t.stamp.cell (node_of read_set) lower.now
      → AreSeen z old.key.items t read_set → IsStanding z old.key.items t read_set u → get_or old.key.items (a.depth - 1) 0 < 256
      → IsMergeLeaf z u site old a.depth (record { node = n; stamp = t.stamp; body = lower }) (get_or old.key.items (t.depth - 1) 0) beside l
  merge_leaf_knows z u is n on beside l other lower lower-filled seen standing low = record {
    there = found_below z t read_set old is seen.node n on a at (seen.above a at) upper lower upper-filled lower-filled u site named standing low;
    old_leaf = found_leaf z t read_set old is seen.node u standing;
    pair = other.pair lower.now (lower-filled other.node other.is);
  }
