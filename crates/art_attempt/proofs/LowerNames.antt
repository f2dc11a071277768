-- The words of the node where the key stands name the lower node: there is such a node, it is another one, and where its path is noted.
use Rattle.std.proofs.Common.{◌≡◌, ◌≢◌, ℕ, ◌<◌, ◌++◌, ◌∷◌, [], List, length, take, Some, None, refl, sym, ap, ◌∙◌, subst, ⊎_elim, arith}
use Rattle.std.proofs.lemmas.List.{length-append}
use Rattle.std.proofs.lemmas.Option.{same_Some}
use Rattle.art_cell.specs.Children.{child_word, link_of}
use Rattle.art_cell.specs.Reads.{word_of}
use Rattle.art_cell.specs.Words.{child_of, prefix_of}
use Rattle.art_cell.specs.declared.cells.Body.{Body}
use Rattle.art_cell.specs.declared.cells.Cell.{Cell}
use Rattle.art_cell.specs.declared.cells.Cell.TheVariants as cell
use Rattle.art_cell.specs.declared.cells.Link.TheVariants.{Node as node}
use Rattle.art_cell.specs.declared.cells.Node.{Node}
use Rattle.art_plan.proofs.NamedChildren.{named_there}
use Rattle.art_plan.proofs.AboveSites.{led_there}
use Rattle.art_plan.proofs.SeenBodies.{seen_body, seen_child, seen_prefix, stands}
use Rattle.art_plan.proofs.WholeCells.{IsWhole, above_is, body_read, has_above, has_read, node_whole}
use Rattle.art_plan.specs.ChooseInsert.Bodies.{HasWords, IsFilled}
use Rattle.art_find.proofs.Stages.{noted_names}
use Rattle.art_attempt.specs.Naming.{HasLower, IsLed, StillNames, IsParent, IsThird, WouldLead}
use Rattle.art_find.proofs.Keeping.{path_passed}
use Rattle.art_find.specs.ReadSets.{node_of}
use Rattle.art_step.specs.Acting.{HasPath}
use Rattle.art_find.specs.declared.read_sets.ReadSet.{ReadSet}
use Rattle.art_find.specs.declared.findings.Above.{Above}
use Rattle.art_find.specs.declared.findings.Position.{Position}
use Rattle.art_plan.proofs.ChildPlaces.{IsPlaceOf, place_byte}
use Rattle.art_step.proofs.Shows.{child_on}
use Rattle.art_step.specs.Knowledge.{CellAt, HoldsAll, IsShape}
use Rattle.art_step.specs.Shows.{HasChild, Shows}
use Rattle.art_step.specs.Steps.Check as check
use Rattle.art_step.specs.Views.{IsChildPlace, IsNamed, Member, note_of}
use Rattle.art_step.specs.WordPlaces.{HasVersion}
use Rattle.art_step.specs.declared.views.Fact.TheVariants.{Starts, Word}
use Rattle.art_step.specs.declared.views.Sizes.{Sizes}
use Rattle.art_step.specs.declared.views.Stamp.{Stamp}
use Rattle.art_step.specs.declared.views.View.{View}
use Rattle.art_tree.proofs.ChildWords.{link_exact}
use Rattle.art_tree.proofs.Paths.{length_past}
use Rattle.art_tree.proofs.Places.{one_path}
use Rattle.art_tree.proofs.Renew.{deeper}
use Rattle.art_tree.specs.Heaps.{Cells, heap_of}
use Rattle.art_tree.specs.Tree.{StandsAt, down, path_past}

-- ---- cells of one tree

-- no node is its own child
not_own : (z : Sizes) (s : Cells) (c : Cell) (n : Node) (q : List ℕ) → IsShape z s → HasChild s c (node n) q → c ≢ cell.Node n
not_own z s c n q shape child same =
    let has : HasChild s (cell.Node n) (node n) q = subst (λ (d : Cell). HasChild s d (node n) q) same child in
    deeper (heap_of s) (node n) n has.path has.byte shape.tree.once has.there (down has.byte has.there has.names refl)

-- a node to which a longer path leads does not have a child by a shorter one
not_below : (z : Sizes) (s : Cells) (c : Cell) (n m : Node) (p q : List ℕ) → IsShape z s → HasChild s c (node m) p → c ≡ cell.Node n → CellAt s c q → length p < length q → ⊥
not_below z s c n m p q shape child same at longer =
    let has : HasChild s (cell.Node n) (node m) p = subst (λ (d : Cell). HasChild s d (node m) p) same child in
    let stands : StandsAt (heap_of s) (node n) q = subst (λ (d : Cell). CellAt s d q) same at in
    let one = one_path (heap_of s) (node n) has.path q shape.tree.once has.there stands in
    let below = one_path (heap_of s) (node m) (path_past (heap_of s) n has.path has.byte) p shape.tree.once (down has.byte has.there has.names refl) has.at in
    let long = length_past (heap_of s) n has.path has.byte in
    omega (arith, longer, ap length one, ap length below, long)

longer_by : (p r : List ℕ) (byte : ℕ) → length p < length (p ++ r ++ byte ∷ [])
longer_by p r byte = omega (arith, length-append (p ++ r) (byte ∷ []), length-append p r)

-- ---- the lower node

module _ (z : Sizes) (k : List ℕ) (t : Position) (n : Node) (read_set : ReadSet) (u v : View) (names : StillNames z k t n read_set u v) where
  abbrev here : Node
  here = names.here

  abbrev on : t.stamp.cell ≡ cell.Node here
  on = names.is

  whole : IsWhole z v t.stamp (node_of read_set)
  whole = node_whole z k t read_set v names.stands.standing names.whole

  filled : (body : Body) → HasWords here (node_of read_set) body → IsFilled t.stamp.cell (node_of read_set) body
  filled body has m at =
      let same : cell.Node here ≡ cell.Node m = sym on ∙ at in
      let one : here ≡ m = cc in
      subst (λ (p : Node). HasWords p (node_of read_set) body) one has

  -- the pass may begin it
  pub may_begin : IsNamed v (cell.Node n) × HasVersion z (cell.Node n)
  may_begin =
      let named = named_there z v t read_set (node n) whole.words names.named in
      (noted_names v t.stamp (node n) named.0, named.1)

  pub has_over : (a : Above) × (t.above ≡ Some a)
  has_over = has_above z k t read_set v names.stands.standing here on

  -- the word that names it is its child word
  word_is : (child_word (node n) ≡ names.named.word) × (link_of (child_word (node n)) ≡ Some (node n))
  word_is =
      let word = (link_exact names.named.word (node n) names.named.names).0 in
      (word, ap link_of word ∙ names.named.names)

  -- ---- in a tree that has all that was noted of the node

  module _ (s : Cells) (shape : IsShape z s) (holds : HoldsAll v t.stamp s) where
    stands_here : StandsAt (heap_of s) (node here) whole.path.0
    stands_here = stands z v t.stamp (node_of read_set) whole s shape holds here on (body_read here (node_of read_set)) (filled (body_read here (node_of read_set)) (has_read here (node_of read_set)))

    -- the word is that of a byte's child
    child_byte : (byte : ℕ) × (byte < 256) × (child_of here.layout (s (cell.Node here)) byte ≡ Some (child_word (node n)))
    child_byte =
        let name = names.named in
        let word : s (cell.Node here) name.place ≡ name.word =
        subst (λ (c : Cell). s c name.place ≡ name.word) on (holds (note_of t.stamp (Word name.place name.word)) (whole.words.each name.place name.word name.read).noted refl) in
        let at : IsPlaceOf here.layout name.place = subst (λ (c : Cell). IsChildPlace c name.place) on name.child in
        let form = (shape.nodes here whole.path.0 stands_here).body in
        ⊎_elim
        (λ (none : s (cell.Node here) name.place ≡ 0).
        let no : None ≡ Some (node n) = ap link_of (sym none ∙ word) ∙ name.names in
        absurd (cc))
        (λ (some : (b : ℕ) × (b < 256) × (child_of here.layout (s (cell.Node here)) b ≡ Some (s (cell.Node here) name.place))).
        (some.0, some.1, some.2 ∙ ap Some (word ∙ sym word_is.0)))
        (place_byte here.layout (s (cell.Node here)) name.place form at)

    has_child : (body : Body) → HasWords here (node_of read_set) body → HasLower body child_byte.0 n
    has_child body has = record {
      low = child_byte.1;
      there = seen_child z v t.stamp (node_of read_set) whole s shape holds here on body (filled body has) child_byte.0 child_byte.1 ∙ child_byte.2;
    }

    -- so the words that were read are those of a node that has it
    is_parent : IsParent t read_set n
    is_parent = record {
      here = here;
      is = on;
      byte = child_byte.0;
      meaning = λ body has. seen_body z v t.stamp (node_of read_set) whole s shape holds here on body (filled body has);
      has = has_child;
    }

  -- by all that was noted it is the child at each byte at which the words that were read have it
  module _ (a : Above) (is : t.above ≡ Some a) (body : Body) (byte : ℕ) (has : HasWords here (node_of read_set) body) (lower : HasLower body byte n) where
    abbrev led_by : List ℕ
    led_by = take a.depth k ++ prefix_of (word_of body) ++ byte ∷ []

    child_shows : Shows z v t.stamp (λ s. HasChild s t.stamp.cell (node n) led_by)
    child_shows s shape holds =
        let at : StandsAt (heap_of s) (node here) (take a.depth k) = led_there z k t read_set here on a is v s names.stands.standing holds in
        let word = sym (seen_child z v t.stamp (node_of read_set) whole s shape holds here on body (filled body has) byte lower.low) ∙ lower.there in
        let child : (heap_of s).child here byte ≡ Some (node n) = child_on s here byte (Some (child_word (node n))) lower.low word ∙ word_is.1 in
        let path : led_by ≡ path_past (heap_of s) here (take a.depth k) byte =
        ap (λ (r : List ℕ). take a.depth k ++ r ++ byte ∷ []) (seen_prefix z v t.stamp (node_of read_set) whole s shape holds here on body (filled body has)) in
        subst (λ (c : Cell). HasChild s c (node n) led_by) (sym on)
        (record { path = take a.depth k; there = at; byte = byte; names = child; at = down byte at child path })

  -- ---- the node where the key stands was checked

  module _ (w : View) (passed : check.Unchanged z v w t.stamp None) where
    -- the check showed such a tree
    pub parent : IsParent t read_set n
    parent = is_parent passed.vouched.0 passed.vouched.1 passed.vouched.2

    -- each stamp of the lower node has its path
    pub led_to : (d : Stamp) → Member d v.stamps → d.cell ≡ cell.Node n → IsLed k t read_set n w d
    led_to d stamped at other a body byte is above has lower =
        let same : cell.Node other ≡ cell.Node here = sym is ∙ on in
        let one : other ≡ here = cc in
        let words : HasWords here (node_of read_set) body = subst (λ (m : Node). HasWords m (node_of read_set) body) one has in
        path_passed z v w t.stamp d None n (led_by a above body byte words lower) passed stamped at (child_shows a above body byte words lower)

    abbrev byte : ℕ
    byte = (child_byte passed.vouched.0 passed.vouched.1 passed.vouched.2).0

    abbrev read : Body
    read = body_read here (node_of read_set)

    words : HasWords here (node_of read_set) read
    words = has_read here (node_of read_set)

    has_lower : HasLower read byte n
    has_lower = has_child passed.vouched.0 passed.vouched.1 passed.vouched.2 read words

    pub path_to : (d : Stamp) → Member d v.stamps → d.cell ≡ cell.Node n → HasPath w d
    path_to d stamped at = (led_by has_over.0 has_over.1 read byte words has_lower, led_to d stamped at here has_over.0 read byte on has_over.1 words has_lower)

    -- it is another node
    pub is_other : t.stamp.cell ≢ cell.Node n
    is_other =
        let s = passed.vouched in
        not_own z s.0 t.stamp.cell n (led_by has_over.0 has_over.1 read byte words has_lower) s.1 (child_shows has_over.0 has_over.1 read byte words has_lower s.0 s.1 s.2)

  -- ---- the cell above was checked

  -- it is another one
  pub is_third : (w : View) (a : Above) → t.above ≡ Some a → IsParent t read_set n → WouldLead k t read_set n v → check.Unchanged z v w a.stamp None → IsThird t n
  is_third w a is parent leads passed b at same =
      let one : b ≡ a = same_Some {A = Above} b a (sym at ∙ is) in
      let equal : a.stamp.cell ≡ cell.Node n = subst (λ (c : Above). c.stamp.cell ≡ cell.Node n) one same in
      let s = passed.vouched in
      let body = body_read parent.here (node_of read_set) in
      let has = has_read parent.here (node_of read_set) in
      let led = leads a is equal parent.here a body parent.byte parent.is is has (parent.has body has) in
      let path : List ℕ = take a.depth k ++ prefix_of (word_of body) ++ parent.byte ∷ [] in
      not_below z s.0 a.stamp.cell n here (take a.depth k) path s.1
      ((above_is z k t read_set v names.stands.standing here on a is).shows s.0 s.1 s.2)
      equal
      (s.2 (note_of a.stamp (Starts path)) led refl)
      (longer_by (take a.depth k) (prefix_of (word_of body)) parent.byte)
