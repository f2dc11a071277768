-- The cells of a change that were read whole, or the anchor: what puts make of their words, that each may be put, and what they mean.
use Rattle.std.proofs.Common.{◌≡◌, ◌≢◌, ℕ, zero, suc, ◌<◌, List, [], ◌∷◌, length, take, Option, Some, None, refl, sym, ap, ◌∙◌, subst, inl, inr, ⊎_elim, arith}
use Rattle.std.specs.Prelude.{⊤}
use Rattle.std.proofs.lemmas.Bool.{cases_lt}
use Rattle.std.proofs.lemmas.List.{get_or_past}
use Rattle.art_cell.specs.Bodies.{Becomes, IsBody}
use Rattle.art_cell.specs.Children.{child_word}
use Rattle.art_cell.specs.Reads.{IsPlan, changes, word_of, written}
use Rattle.art_cell.specs.Words.{Words, child_of, size}
use Rattle.art_cell.specs.declared.cells.Body.{Body}
use Rattle.art_cell.specs.declared.cells.Cell.{Cell}
use Rattle.art_cell.specs.declared.cells.Cell.TheVariants as cell
use Rattle.art_cell.specs.declared.cells.Link.{Link}
use Rattle.art_cell.specs.declared.cells.Link.TheVariants.{Node as node}
use Rattle.art_cell.specs.declared.cells.Node.{Node}
use Rattle.art_cell.specs.declared.cells.Layout.{Layout}
use Rattle.art_cell.specs.declared.cells.Write.{Write}
use Rattle.art_commit.specs.CommitLaws.{Before}
use Rattle.art_plan.specs.Puts.{IsDropPlan, IsSitePlan, put_of, puts_of}
use Rattle.art_plan.specs.Changes.{IsLocked, IsReady, MayPut, MayTarget, target_at, with_puts}
use Rattle.art_plan.specs.Seen.{HasAt, IsReadWhole, SiteFits, kept, site_stamp}
use Rattle.art_plan.specs.declared.changes.Change.{Change}
use Rattle.art_plan.specs.declared.changes.Put.{Put}
use Rattle.art_plan.specs.declared.changes.Target.{Target}
use Rattle.art_plan.specs.declared.changes.Site.{Site}
use Rattle.art_plan.specs.declared.changes.Site.TheVariants.{Root, Slot}
use Rattle.art_step.specs.Knowledge.{HoldsAll, IsShape}
use Rattle.art_step.specs.Views.{IsChildWord, IsNumber, IsWordOf, Member, note_of, size_of, words_in}
use Rattle.art_step.specs.declared.views.Fact.TheVariants.{Word}
use Rattle.art_step.specs.declared.views.Holding.{Holding}
use Rattle.art_step.specs.declared.views.Sizes.{Sizes}
use Rattle.art_step.specs.declared.views.Stamp.{Stamp}
use Rattle.art_step.specs.declared.views.View.{View}
use Rattle.art_tree.proofs.ChildWords.{link_back}
use Rattle.art_tree.proofs.Paths.{length_past}
use Rattle.art_tree.proofs.Places.{at_place, one_path}
use Rattle.art_tree.specs.Heaps.{Cells, heap_of}
use Rattle.art_tree.specs.Tree.{Place, PlaceAt, child_at_place, StandsAt}
use Rattle.art_tree.specs.Tree as tree
use Rattle.art_tree.specs.WordChanges.{FitsWord, WritesNode, WritesPlace, at_byte, cell_of, word_of_child}
use Rattle.art_plan.proofs.ChildPlaces.{IsPlaceOf, NameThere, children_there, same_there, with_child_there, without_child_there}
use Rattle.art_plan.proofs.BodyForms.{node_forms}
use Rattle.art_plan.proofs.CutWords.{becomes_cut, cut_behind, cut_body, cut_inside, cut_words, puts_cut, writes_cut}
use Rattle.art_step.proofs.WordForms.{root_word}
use Rattle.art_plan.proofs.PutWords.{Agree, changes_agree, put_is, puts_write}
use Rattle.art_plan.proofs.ReadyCells.{locked, new_words, old_words, so_held}

-- the word of a link that there is
pub names_there : (z : Sizes) (d : Link) → FitsWord d → IsNumber z d → IsChildWord z (child_word d)
names_there z d fits number = inr (d, link_back d fits, number)

-- ---- a node that was read whole

module _ (z : Sizes) (u : View) (x : Stamp) (n : Node) (body : Body) (read : IsReadWhole z u x n body) where
  -- as a target it may be locked, whether it goes or stays
  pub may_target : (t : Target) → t.stamp ≡ x → MayTarget z u t
  may_target t is = subst (λ (y : Stamp). MayTarget z u (record { stamp = y; obsolete = t.obsolete })) (sym is) (record { inside = read.may.inside; stamp = read.may.stamp; path = read.may.path })

  -- its children name what there is
  pub children_read : IsBody body.layout (word_of body) → NameThere z (child_of body.layout (word_of body))
  children_read meaning = children_there z body.layout (word_of body) meaning (λ i at. (read.forms i).child (subst (λ (k : Layout). IsPlaceOf k i) read.layout at))

  -- where it is locked, it has the words of the body
  module _ (i : ℕ) (t : Target) (ps : List Put) (h : Holding) (is : t.stamp ≡ x) (l : IsLocked u i t ps h) where
    pub long_held : length h.old ≡ size body.layout
    long_held = l.long ∙ ap size_of (ap (λ (y : Stamp). y.cell) is ∙ read.cell) ∙ ap size (sym read.layout)

    pub words_held : (p : ℕ) → p < size body.layout → words_in h.old p ≡ word_of body p
    words_held zero low = l.version ∙ sym read.version
    words_held (suc p) low =
        let agrees = subst (λ (y : Stamp). (q value : ℕ) → Member (note_of y (Word q value)) u.notes → words_in h.old q ≡ value) is l.agrees in
        agrees (suc p) (word_of body (suc p)) (read.noted (suc p) (omega arith) (subst (λ (k : Layout). suc p < size k) read.layout low))

    pub whole_words : words_in h.old ≡ cut_words body.layout (word_of body)
    whole_words = λ j p. each p j
      where
        each : (p : ℕ) → words_in h.old p ≡ cut_words body.layout (word_of body) p
        each p = elim (cases_lt p (size body.layout)) [
          | inl low ↦ words_held p low ∙ sym (cut_inside body.layout (word_of body) p low)
          | inr high ↦ get_or_past h.old p 0 (omega (arith, long_held, high)) ∙ sym (cut_behind body.layout (word_of body) p high)
        ]

  -- the words of a plan may be put, where the node that they make has children that there are
  pub may_put_whole : (c : Change) (i : ℕ) (t : Target) (writes : List Write) → target_at c i ≡ Some t → t.stamp ≡ x → writes ≡ changes body.layout (word_of body) (written (word_of body) writes)
      → IsBody body.layout (written (word_of body) writes) → NameThere z (child_of body.layout (written (word_of body) writes)) → (p : Put) → Member p (puts_of i writes) → MayPut z c p
  may_put_whole c i t writes is stamp exact meaning names p m =
      let w = put_is i writes p m in
      let agree = changes_agree body.layout (word_of body) (written (word_of body) writes) writes exact in
      let at = agree.within w.0 w.1 in
      let value = agree.value w.0 w.1 in
      subst (MayPut z c) (sym w.2) (record {
        target = t;
        is = is;
        place = (at.0, subst (λ (d : Cell). w.0.place < size_of d) (sym cell_is) (subst (λ (k : Layout). w.0.place < size k) read.layout at.1));
        form = subst (λ (d : Cell). IsWordOf z d w.0.place w.0.value) (sym cell_is)
            (subst (IsWordOf z (cell.Node n) w.0.place) (sym value) (node_forms z n body.layout (written (word_of body) writes) read.layout meaning names w.0.place));
      })
    where
      cell_is : t.stamp.cell ≡ cell.Node n
      cell_is = ap (λ (y : Stamp). y.cell) stamp ∙ read.cell

-- ---- of a change whose cells are all held

module _ (z : Sizes) (u v : View) (c : Change) (ready : IsReady u c v) (s s' : Cells) (b : Before z v s s') where
  module _ (i : ℕ) (t : Target) (is : target_at c i ≡ Some t) (writes : List Write) (puts : (ws : List ℕ) → with_puts i c.puts.items ws ≡ with_puts i (puts_of i writes) ws) where
    module _ (n : Node) (body : Body) (read : IsReadWhole z u t.stamp n body) where
      -- the words of a node before
      pub whole_before : s (cell.Node n) ≡ cut_words body.layout (word_of body)
      whole_before =
          let h = locked z u v c ready i t is in
          subst (λ (d : Cell). s d ≡ cut_words body.layout (word_of body)) read.cell (old_words z u v c ready s s' b i t is ∙ whole_words z u t.stamp n body read i t c.puts.items h.0 refl h.2)

      -- and after the writes of a plan
      pub whole_after : writes ≡ changes body.layout (word_of body) (written (word_of body) writes) → s' (cell.Node n) ≡ cut_words body.layout (written (word_of body) writes)
      whole_after exact =
          let h = locked z u v c ready i t is in
          let old = h.0.old in
          subst (λ (d : Cell). s' d ≡ cut_words body.layout (written (word_of body) writes)) read.cell
          (new_words z u v c ready s s' b i t is ∙ ap words_in (puts old) ∙ puts_cut body.layout (word_of body) writes exact i old
          (long_held z u t.stamp n body read i t c.puts.items h.0 refl h.2)
          (whole_words z u t.stamp n body read i t c.puts.items h.0 refl h.2))

    -- the anchor's child word after it was put
    pub root_after : (child : ℕ) → t.stamp.cell ≡ cell.Anchor → writes ≡ record { place = 1; value = child } ∷ [] → s' cell.Anchor 1 ≡ child
    root_after child at one =
        let h = locked z u v c ready i t is in
        let old = h.0.old in
        let long : length old ≡ 2 = h.2.long ∙ ap size_of at in
        let now : written (words_in old) writes 1 ≡ child = ap (λ (ws : List Write). written (words_in old) ws 1) one in
        let agree_one : Agree (record { place = 1; value = child } ∷ []) (length old) (written (words_in old) (record { place = 1; value = child } ∷ [])) = record {
          within = λ y m. ⊎_elim (λ (e : y ≡ record { place = 1; value = child }). let p = ap (λ (w : Write). w.place) e in (omega arith, omega (arith, long, p))) (λ (j : ⊥). absurd j) m;
          value = λ y m. ⊎_elim (λ (e : y ≡ record { place = 1; value = child }). ap (λ (w : Write). w.value) e ∙ sym (ap (written (words_in old) (record { place = 1; value = child } ∷ [])) (ap (λ (w : Write). w.place) e))) (λ (j : ⊥). absurd j) m;
        } in
        let agree : Agree writes (length old) (written (words_in old) writes) = subst (λ (ws : List Write). Agree ws (length old) (written (words_in old) ws)) (sym one) agree_one in
        subst (λ (d : Cell). s' d 1 ≡ child) at (ap (λ (w : Words). w 1) (new_words z u v c ready s s' b i t is ∙ ap words_in (puts old) ∙ puts_write i writes old agree) ∙ now)

-- ---- the site

-- the writes give the site this child, or none, and make no other change
abbrev pub IsPutPlan : Site → Option Link → List Write → Type 0
IsPutPlan (Root x) d writes = writes ≡ record { place = 1; value = word_of_child d } ∷ []
IsPutPlan (Slot x body byte) d writes = IsPlan body.now.layout (word_of body.now) writes (at_byte (child_of body.now.layout (word_of body.now)) byte d)

pub put_plan : (site : Site) (d : Link) (writes : List Write) → IsSitePlan site (child_word d) writes → IsPutPlan site (Some d) writes
put_plan (Root x) d writes plan = plan
put_plan (Slot x body byte) d writes plan = plan

pub drop_plan : (site : Site) (writes : List Write) → IsDropPlan site writes → IsPutPlan site None writes
drop_plan (Root x) writes plan = plan
drop_plan (Slot x body byte) writes plan = plan

-- where a node has the words of a plan, it means what the plan says
pub site_becomes : (s s' : Cells) (body : Body) (n : Node) (byte : ℕ) (d : Option Link) (writes : List Write) → body.layout ≡ n.layout → IsBody n.layout (s (cell.Node n))
    → s (cell.Node n) ≡ cut_words body.layout (word_of body) → s' (cell.Node n) ≡ cut_words body.layout (written (word_of body) writes)
    → Becomes body.layout (word_of body) (written (word_of body) writes) (at_byte (child_of body.layout (word_of body)) byte d)
    → Becomes n.layout (s (cell.Node n)) (s' (cell.Node n)) (at_byte (child_of n.layout (s (cell.Node n))) byte d)
site_becomes s s' body n byte d writes same meaning old new is =
    let k = body.layout in
    let w = cut_words k (word_of body) in
    let after = cut_words k (written (word_of body) writes) in
    let whole : IsBody k w = subst (IsBody k) old (subst (λ (l : Layout). IsBody l (s (cell.Node n))) (sym same) meaning) in
    subst (λ (v : Words). Becomes n.layout v (s' (cell.Node n)) (at_byte (child_of n.layout v) byte d)) (sym old)
    (subst (λ (v : Words). Becomes n.layout w v (at_byte (child_of n.layout w) byte d)) (sym new)
    (subst (λ (l : Layout). Becomes l w after (at_byte (child_of l w) byte d)) same
    (becomes_cut k (word_of body) (written (word_of body) writes) whole byte d is)))

-- or with another prefix
pub node_written : (s s' : Cells) (body : Body) (n : Node) (writes : List Write) (p : List ℕ) → body.layout ≡ n.layout → IsBody body.layout (word_of body)
    → s (cell.Node n) ≡ cut_words body.layout (word_of body) → s' (cell.Node n) ≡ cut_words body.layout (written (word_of body) writes)
    → WritesNode body.layout (written (word_of body) writes) p (child_of body.layout (word_of body))
    → WritesNode n.layout (s' (cell.Node n)) p (child_of n.layout (s (cell.Node n)))
node_written s s' body n writes p same meaning old new is =
    let k = body.layout in
    let w = cut_words k (word_of body) in
    let after = cut_words k (written (word_of body) writes) in
    subst (λ (v : Words). WritesNode n.layout (s' (cell.Node n)) p (child_of n.layout v)) (sym old)
    (subst (λ (v : Words). WritesNode n.layout v p (child_of n.layout w)) (sym new)
    (subst (λ (l : Layout). WritesNode l after p (child_of l w)) same
    (writes_cut k (word_of body) (written (word_of body) writes) (cut_body k (word_of body) meaning) p is)))

-- the site is in the tree at the end of the path r, and has the child o; and this child is written there, or none
pub record IsWrittenAt (s s' : Cells) (x : Stamp) (r : List ℕ) (o d : Option Link) : Type 0 where
  pub place : tree.Place
  pub cell_is : cell_of place ≡ x.cell
  pub at : PlaceAt (heap_of s) place r
  pub was : child_at_place (heap_of s) place ≡ o
  pub put : WritesPlace s s' place d

module _ (z : Sizes) (u v : View) (c : Change) (ready : IsReady u c v) (s s' : Cells) (b : Before z v s s') (k : List ℕ) (depth : ℕ) (o d : Option Link) (writes : List Write) where
  pub site_written : (site : Site) → SiteFits z u site k depth o → IsPutPlan site d writes → target_at c 0 ≡ Some (kept (site_stamp site))
      → ((ws : List ℕ) → with_puts 0 c.puts.items ws ≡ with_puts 0 (puts_of 0 writes) ws) → IsWrittenAt s s' (site_stamp site) (take depth k) o d
  site_written (Root x) fits one is puts =
      let so = so_held z u v c ready s s' b 0 (kept x) _ is fits.shows in record {
        place = tree.Top;
        cell_is = sym fits.read.cell;
        at = so.0;
        was = so.1;
        put = root_after z u v c ready s s' b 0 (kept x) is writes puts (word_of_child d) fits.read.cell one;
      }
  site_written (Slot x body byte) fits plan is puts =
      let so = so_held z u v c ready s s' b 0 (kept x) _ is fits.shows in
      let old = whole_before z u v c ready s s' b 0 (kept x) is writes puts fits.node body.now fits.read in
      let new = whole_after z u v c ready s s' b 0 (kept x) is writes puts fits.node body.now fits.read plan.exact in
      record {
        place = tree.Slot fits.node byte;
        cell_is = sym fits.read.cell;
        at = so.0;
        was = so.1;
        put = (fits.low, site_becomes s s' body.now fits.node byte d writes fits.read.layout (b.shape.nodes fits.node so.0.0 so.0.1).body old new plan.becomes);
      }

-- the words of its node are those of a node
abbrev pub HasMeaning : Site → Type 0
HasMeaning (Root x) = ⊤
HasMeaning (Slot x body byte) = IsBody body.now.layout (word_of body.now)

-- it may be locked
pub may_target_site : (z : Sizes) (u : View) (k : List ℕ) (depth : ℕ) (o : Option Link) (site : Site) → SiteFits z u site k depth o → MayTarget z u (kept (site_stamp site))
may_target_site z u k depth o (Root x) fits = fits.read.may
may_target_site z u k depth o (Slot x body byte) fits = fits.read.may

-- the child that is written names what there is, or there is none
abbrev pub IsThere : Sizes → Option Link → Type 0
IsThere z (Some d) = IsChildWord z (child_word d)
IsThere z None = ⊤

word_there : (z : Sizes) (d : Option Link) → IsThere z d → IsChildWord z (word_of_child d)
word_there z (Some d) there = there
word_there z None there = inl refl

at_byte_there : (z : Sizes) (child : ℕ → Option ℕ) (byte : ℕ) (d : Option Link) → NameThere z child → IsThere z d → NameThere z (at_byte child byte d)
at_byte_there z child byte (Some d) names there = with_child_there z child byte (child_word d) names there
at_byte_there z child byte None names there = without_child_there z child byte names

-- each of its words may be put
module _ (z : Sizes) (u : View) (c : Change) (k : List ℕ) (depth : ℕ) (o d : Option Link) (writes : List Write) (there : IsThere z d) where
  pub may_put_site : (site : Site) → SiteFits z u site k depth o → HasMeaning site → IsPutPlan site d writes → target_at c 0 ≡ Some (kept (site_stamp site)) → (p : Put) → Member p (puts_of 0 writes) → MayPut z c p
  may_put_site (Root x) fits meaning one is p m =
      let w = put_is 0 writes p m in
      let e : w.0 ≡ record { place = 1; value = word_of_child d } = ⊎_elim (λ (e : w.0 ≡ record { place = 1; value = word_of_child d }). e) (λ (j : ⊥). absurd j) (subst (Member w.0) one w.1) in
      subst (MayPut z c) (sym (w.2 ∙ ap (put_of 0) e)) (record {
        target = kept x;
        is = is;
        place = (omega arith, subst (λ (d : Cell). 1 < size_of d) (sym fits.read.cell) (omega arith));
        form = subst (λ (a : Cell). IsWordOf z a 1 (word_of_child d)) (sym fits.read.cell) (root_word z (word_of_child d) (word_there z d there));
      })
  may_put_site (Slot x body byte) fits meaning plan is p m =
      let names = at_byte_there z (child_of body.now.layout (word_of body.now)) byte d (children_read z u x fits.node body.now fits.read meaning) there in
      may_put_whole z u x fits.node body.now fits.read c 0 (kept x) writes is refl plan.exact plan.becomes.body
      (same_there z (at_byte (child_of body.now.layout (word_of body.now)) byte d) (child_of body.now.layout (written (word_of body.now) writes)) plan.becomes.children names) p m

-- ---- the site and the node that it has

module _ (z : Sizes) (s : Cells) (shape : IsShape z s) where
  -- a node is not its own child: it stands at one path, which is shorter than its children's
  pub not_own_child : (m n : Node) (byte : ℕ) (r : List ℕ) → HasAt (tree.Slot m byte) r (Some (node n)) s → m ≢ n
  not_own_child m n byte r has same =
      let above : StandsAt (heap_of s) (node m) has.0.0 = has.0.1 in
      let below : StandsAt (heap_of s) (node n) r = at_place (heap_of s) (tree.Slot m byte) (node n) r has.0 has.1 in
      let one : has.0.0 ≡ r = one_path (heap_of s) (node m) has.0.0 r shape.tree.once above (subst (λ (o : Node). StandsAt (heap_of s) (node o) r) (sym same) below) in
      let long = ap length (one ∙ has.0.2) in
      let past = length_past (heap_of s) m has.0.0 byte in
      omega (arith, long, past)

  -- so its cell and the site's are two, as soon as what was noted of the site was so once
  pub site_apart : (u : View) (k : List ℕ) (depth : ℕ) (n : Node) (site : Site) → SiteFits z u site k depth (Some (node n)) → HoldsAll u (site_stamp site) s → (site_stamp site).cell ≢ cell.Node n
  site_apart u k depth n (Root x) fits holds same = let at = fits.read.cell in absurd (cc)
  site_apart u k depth n (Slot x body byte) fits holds same =
      let one : cell.Node fits.node ≡ cell.Node n = sym fits.read.cell ∙ same in
      not_own_child fits.node n byte (take depth k) (fits.shows s shape holds) (let is : fits.node ≡ n = cc in is)
