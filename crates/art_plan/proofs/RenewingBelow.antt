-- A plan to which the renewal of its second target is added, which its new node names afterwards, is a plan.
use Rattle.std.proofs.Common.{◌≡◌, ◌≢◌, ◌⊎◌, ◌↔◌, ℕ, ◌<◌, ◌≤◌, Bool, true, false, List, [], ◌∷◌, ◌++◌, length, map, take, Option, Some, None, refl, sym, ap, ◌∙◌, subst, inl, inr, ⊎_elim, arith, set, cond, eqb, eq-eqb, ne_eqb}
use Rattle.std.specs.List.{cons_option, filter_map, range_with_len, slice_get}
use Rattle.std.proofs.lemmas.List.FromFn.{get_or-map-range_with_len, length-map-range_with_len}
use Rattle.std.specs.Option.{option_and_then, option_map}
use Rattle.std.proofs.lemmas.List.Elements.{filter_map-append}
use Rattle.std.proofs.lemmas.Option.{same_Some}
use Rattle.std.proofs.lemmas.Bool.{cases_eq}
use Rattle.art_cell.specs.Bodies.{Becomes, IsBody}
use Rattle.art_cell.specs.Children.{child_word, link_of}
use Rattle.art_cell.specs.Reads.{with_child, word_of}
use Rattle.art_cell.specs.Words.{Words, child_of, prefix_of, size}
use Rattle.art_cell.specs.declared.cells.Body.{Body}
use Rattle.art_cell.specs.declared.cells.Cell.{Cell}
use Rattle.art_cell.specs.declared.cells.Cell.TheVariants as cell
use Rattle.art_cell.specs.declared.cells.Link.{Link}
use Rattle.art_cell.specs.declared.cells.Link.TheVariants.{Leaf as leaf, Node as node}
use Rattle.art_cell.specs.declared.cells.Node.{Node}
use Rattle.art_cell.specs.declared.cells.Layout.{Layout}
use Rattle.art_commit.specs.AnyChange.{IsClaimed, SameMembers}
use Rattle.art_commit.specs.CommitLaws.{HasNode}
use Rattle.art_commit.specs.Renewals.{IsBeside, IsHeldAs, Names, WritesCopy, for_change}
use Rattle.art_commit.proofs.Members.{claimed_nodes_come, same_commits}
use Rattle.art_commit.proofs.Renewals.{may_renew}
use Rattle.art_node.specs.Prefixes.{IsNodeOf}
use Rattle.art_plan.specs.Changes.{IsFilled, IsLocked, IsNew, IsReady, IsTarget, MayPut, MayTarget, filled_at, filled_end, leaf_linked, node_made, put_at, target_at, targets, unlinked, with_puts}
use Rattle.art_plan.specs.Renewing.{IsRenewalBelow, kept_put, renewed_below}
use Rattle.art_plan.specs.Seen.{HasAt, gone, kept, site_stamp}
use Rattle.art_plan.specs.Whole.{IsFilledBy, IsNewBy, IsWhole, IsWholeReady, MayMakeBy, filled_ends, made_at, made_word, twin_node}
use Rattle.art_plan.specs.declared.changes.Change.{Change}
use Rattle.art_plan.specs.declared.changes.Put.{Put}
use Rattle.art_plan.specs.declared.changes.Target.{Target}
use Rattle.art_plan.specs.declared.changes.Twin.{Twin}
use Rattle.art_plan.specs.declared.changes.Below.{Below}
use Rattle.art_plan.specs.declared.changes.Site.{Site}
use Rattle.art_plan.proofs.BodyForms.{node_forms, same_form}
use Rattle.art_plan.proofs.ChildPlaces.{NameThere, children_there, same_there, with_child_there}
use Rattle.art_plan.proofs.MovedPuts.{SameFirst, member_at, same_after, word_after}
use Rattle.art_plan.proofs.Planning.{get_member, one_of_two}
use Rattle.art_plan.proofs.Renewing.{site_place, site_shows}
use Rattle.art_plan.proofs.ReadyCells.{past_end, some_size}
use Rattle.art_plan.proofs.SiteWords.{may_target, may_target_site, names_there, words_held}
use Rattle.art_plan.proofs.WordsWithin.{node_within}
use Rattle.art_step.specs.Knowledge.{IsShape}
use Rattle.art_step.specs.Shows.{Rest}
use Rattle.art_step.specs.Steps.Commit as commit
use Rattle.art_step.specs.Steps.Commit.{AllNew, Commits, IsLinked, Knows}
use Rattle.art_step.specs.Steps.Release.{IsNodeAmong}
use Rattle.art_step.specs.Views.{IsWordOf, Member, size_of, words_in}
use Rattle.art_step.specs.declared.views.Holding.{Holding}
use Rattle.art_step.specs.declared.views.InHand.{InHand}
use Rattle.art_step.specs.declared.views.Sizes.{Sizes}
use Rattle.art_step.specs.declared.views.Stamp.{Stamp}
use Rattle.art_step.specs.declared.views.View.{View}
use Rattle.art_step.proofs.Gathered.{Gathered, GivesNone, GivesOne, gathered}
use Rattle.art_step.proofs.SetsView.{member_append, member_back, member_front}
use Rattle.art_step.proofs.Shows.{shows_held, shows_same}
use Rattle.art_tree.proofs.ChildWords.{link_back}
use Rattle.art_tree.proofs.Meanings.{words_mean}
use Rattle.art_tree.proofs.Places.{at_place, same_cell}
use Rattle.art_tree.specs.Heaps.{Cells, heap_of, node_prefix}
use Rattle.art_tree.specs.Tree.{Place, PlaceAt, child_at_place}
use Rattle.art_tree.specs.Tree as tree
use Rattle.art_tree.specs.WordChanges.{WritesNode, at_byte}

-- ---- the puts that stay

-- of any target but the second
with_kept : (ps : List Put) (i : ℕ) (ws : List ℕ) → i ≢ 1 → with_puts i (filter_map kept_put ps) ws ≡ with_puts i ps ws
with_kept [] i ws other = refl
with_kept (p ∷ ps) i ws other = by_second (λ us. with_kept ps i us other) (eqb p.target 1) refl
  where
    by_second : ((us : List ℕ) → with_puts i (filter_map kept_put ps) us ≡ with_puts i ps us) → (b : Bool) → eqb p.target 1 ≡ b
        → with_puts i (cons_option (cond b None (Some p)) (filter_map kept_put ps)) ws ≡ with_puts i (p ∷ ps) ws
    by_second on true e =
        let second : p.target ≡ 1 = ⊎_elim (λ (is : p.target ≡ 1). is) (λ (f : p.target ≢ 1). let no : true ≡ false = sym e ∙ ne_eqb p.target 1 f in absurd (cc)) (cases_eq p.target 1) in
        on ws ∙ ap (λ (b : Bool). with_puts i ps (cond b (set ws p.place p.value) ws)) (sym (ne_eqb p.target i (λ is. other (sym is ∙ second))))
    by_second on false e = on (cond (eqb p.target i) (set ws p.place p.value) ws)

-- it gets none
with_none_kept : (ps : List Put) (ws : List ℕ) → with_puts 1 (filter_map kept_put ps) ws ≡ ws
with_none_kept [] ws = refl
with_none_kept (p ∷ ps) ws = by_second (with_none_kept ps ws) (eqb p.target 1) refl
  where
    by_second : with_puts 1 (filter_map kept_put ps) ws ≡ ws → (b : Bool) → eqb p.target 1 ≡ b → with_puts 1 (cons_option (cond b None (Some p)) (filter_map kept_put ps)) ws ≡ ws
    by_second on true e = on
    by_second on false e = ap (λ (b : Bool). with_puts 1 (filter_map kept_put ps) (cond b (set ws p.place p.value) ws)) e ∙ on

was_kept : (ps : List Put) (p : Put) → Member p (filter_map kept_put ps) → Member p ps × (p.target ≢ 1)
was_kept [] p i = absurd i
was_kept (q ∷ ps) p i = by_second (was_kept ps p) (eqb q.target 1) refl i
  where
    by_second : (Member p (filter_map kept_put ps) → Member p ps × (p.target ≢ 1)) → (b : Bool) → eqb q.target 1 ≡ b → Member p (cons_option (cond b None (Some q)) (filter_map kept_put ps)) → Member p (q ∷ ps) × (p.target ≢ 1)
    by_second on true e j = let o = on j in (inr o.0, o.1)
    by_second on false e j = ⊎_elim
        (λ (is : p ≡ q). (inl is, λ second. (let no : true ≡ false = sym (eq-eqb q.target 1 (ap (λ (y : Put). y.target) (sym is) ∙ second)) ∙ e in cc)))
        (λ (k : Member p (filter_map kept_put ps)). let o = on k in (inr o.0, o.1)) j

-- ---- the change with the renewal

module _ (z : Sizes) (u : View) (c : Change) (site : Site) (o : Node) (a : ℕ) (body : Body) (below : Below) (twin : Twin) (k : List ℕ) (depth : ℕ)
    (r : IsRenewalBelow z u c site o a body below twin k depth) where
  abbrev n : Node
  n = below.node

  abbrev m : Node
  m = twin_node twin

  abbrev top : Target
  top = kept (site_stamp site)

  abbrev worn : Stamp
  worn = below.stamp

  abbrev c' : Change
  c' = renewed_below top worn body n twin c

  at_worn : worn.cell ≡ cell.Node n
  at_worn = r.place.read.cell

  top_not_worn : top.stamp.cell ≢ worn.cell
  top_not_worn e = r.place.apart (e ∙ at_worn)

  was_top : target_at c 0 ≡ Some top
  was_top = ap (λ (xs : List Target). slice_get xs 0) r.both

  was_worn : target_at c 1 ≡ Some (kept worn)
  was_worn = ap (λ (xs : List Target). slice_get xs 1) r.both

  two_targets : targets c ≡ 2
  two_targets = ap length r.both

  -- ---- what goes

  goes_more : unlinked c' ≡ unlinked c ++ node n ∷ []
  goes_more = filter_map-append link_of c.effects.unlinked.items (child_word (node n) ∷ []) ∙ ap (λ (y : Option Link). unlinked c ++ cons_option y []) (link_back (node n) r.place.fits)

  goes_either : (d : Link) → Member d (unlinked c') → Member d (unlinked c) ⊎ (d ≡ node n)
  goes_either d i = ⊎_elim
      (λ (j : Member d (unlinked c)). inl j)
      (⊎_elim (λ (e : d ≡ node n). inr e) (λ (none : ⊥). absurd none))
      (member_append d (unlinked c) (node n ∷ []) (subst (Member d) goes_more i))

  goes_still : (d : Link) → Member d (unlinked c) → Member d (unlinked c')
  goes_still d i = subst (Member d) (sym goes_more) (member_front d (unlinked c) (node n ∷ []) i)

  goes_worn : Member (node n) (unlinked c')
  goes_worn = subst (Member (node n)) (sym goes_more) (member_back (node n) (unlinked c) (node n ∷ []) (inl refl))

  -- ---- the targets

  abbrev IsEither : Target → ℕ → Target → Type 0
  IsEither w j x = ((j ≡ 0) × (top ≡ x)) ⊎ ((j ≡ 1) × (w ≡ x))

  one_now : (j : ℕ) (x : Target) → target_at c' j ≡ Some x → IsEither (gone worn) j x
  one_now j x is = one_of_two top (gone worn) j x is

  one_before : (j : ℕ) (x : Target) → target_at c j ≡ Some x → IsEither (kept worn) j x
  one_before j x is = one_of_two top (kept worn) j x (sym (ap (λ (xs : List Target). slice_get xs j) r.both) ∙ is)

  each : (j : ℕ) (x : Target) → target_at c' j ≡ Some x → MayTarget z u x
  each j x is = ⊎_elim
      (λ (e : (j ≡ 0) × (top ≡ x)). subst (MayTarget z u) e.1 (may_target_site z u k depth (Some (node n)) site r.place.place))
      (λ (e : (j ≡ 1) × (gone worn ≡ x)). subst (MayTarget z u) e.1 (may_target z u worn n below.body.now r.place.read (gone worn) refl))
      (one_now j x is)

  cell_is : (x y : Target) → x ≡ y → x.stamp.cell ≡ y.stamp.cell
  cell_is x y e = ap (λ (q : Target). q.stamp.cell) e

  apart : (i j : ℕ) (x y : Target) → target_at c' i ≡ Some x → target_at c' j ≡ Some y → x.stamp.cell ≡ y.stamp.cell → i ≡ j
  apart i j x y is that = both (one_now i x is) (one_now j y that)
    where
      both : IsEither (gone worn) i x → IsEither (gone worn) j y → x.stamp.cell ≡ y.stamp.cell → i ≡ j
      both (inl a) (inl b) e = a.0 ∙ sym b.0
      both (inl a) (inr b) e = absurd (top_not_worn (cell_is top x a.1 ∙ (e ∙ sym (cell_is (gone worn) y b.1))))
      both (inr a) (inl b) e = absurd (top_not_worn (cell_is top y b.1 ∙ (sym e ∙ sym (cell_is (gone worn) x a.1))))
      both (inr a) (inr b) e = a.0 ∙ sym b.0

  obsolete : (j : ℕ) (x : Target) → target_at c' j ≡ Some x → (x.obsolete ≡ true) ↔ IsNodeAmong x.stamp.cell (λ d. Member d (unlinked c'))
  obsolete j x is = ⊎_elim
      (λ (e : (j ≡ 0) × (top ≡ x)). subst (λ (y : Target). (y.obsolete ≡ true) ↔ IsNodeAmong y.stamp.cell (λ d. Member d (unlinked c'))) e.1 top_stays)
      (λ (e : (j ≡ 1) × (gone worn ≡ x)). subst (λ (y : Target). (y.obsolete ≡ true) ↔ IsNodeAmong y.stamp.cell (λ d. Member d (unlinked c'))) e.1 ((λ f. (n, at_worn, goes_worn)), (λ f. refl)))
      (one_now j x is)
    where
      top_stays : (false ≡ true) ↔ IsNodeAmong top.stamp.cell (λ d. Member d (unlinked c'))
      top_stays =
          let old = r.planned.obsolete 0 top was_top in (
            (λ e. absurd (cc)),
            (λ y. ⊎_elim
                (λ (i : Member (node y.0) (unlinked c)). old.1 (y.0, y.1, i))
                (λ (e : node y.0 ≡ node n). let is : y.0 ≡ n = cc in absurd (top_not_worn (y.1 ∙ (ap cell.Node is ∙ sym at_worn))))
                (goes_either (node y.0) y.2)),
          )

  gone_is : (y : Node) → Member (node y) (unlinked c') → (j : ℕ) × (x : Target) × (target_at c' j ≡ Some x) × (x.stamp.cell ≡ cell.Node y)
  gone_is y i = ⊎_elim
      (λ (i : Member (node y) (unlinked c)).
      let t = r.planned.gone y i in
      ⊎_elim
      (λ (e : (t.0 ≡ 0) × (top ≡ t.1)). (0, top, refl, cell_is top t.1 e.1 ∙ t.3))
      (λ (e : (t.0 ≡ 1) × (kept worn ≡ t.1)). (1, gone worn, refl, cell_is (kept worn) t.1 e.1 ∙ t.3))
      (one_before t.0 t.1 t.2))
      (λ (e : node y ≡ node n). let is : y ≡ n = cc in (1, gone worn, refl, at_worn ∙ ap cell.Node (sym is)))
      (goes_either (node y) i)

  words_are : map child_word (unlinked c') ≡ c'.effects.unlinked.items
  words_are = ap (map child_word) goes_more ∙ more (unlinked c) c.effects.unlinked.items r.planned.words
    where
      more : (ds : List Link) (us : List ℕ) → map child_word ds ≡ us → map child_word (ds ++ node n ∷ []) ≡ us ++ child_word (node n) ∷ []
      more ds us e = append ds ∙ ap (λ (xs : List ℕ). xs ++ child_word (node n) ∷ []) e
        where
          append : (ds : List Link) → map child_word (ds ++ node n ∷ []) ≡ map child_word ds ++ child_word (node n) ∷ []
          append [] = refl
          append (d ∷ ds) = ap (λ (xs : List ℕ). child_word d ∷ xs) (append ds)

  -- ---- the puts

  puts_may : (j : ℕ) (p : Put) → put_at c' j ≡ Some p → MayPut z c' p
  puts_may j p is =
      let y = was_kept c.puts.items p (get_member c'.puts.items j p is) in
      let at = member_at c.puts.items p y.0 in
      let may = r.planned.puts at.0 p at.1 in
      ⊎_elim
      (λ (e : (p.target ≡ 0) × (top ≡ may.target)). record {
        target = may.target;
        is = ap (target_at c') e.0 ∙ ap Some e.1;
        place = may.place;
        form = may.form;
      })
      (λ (e : (p.target ≡ 1) × (kept worn ≡ may.target)). absurd (y.1 e.0))
      (one_before p.target may.target may.is)

  -- ---- the nodes that it makes

  twin_is : words_in (with_puts 1 c.puts.items below.body.now.words) ≡ word_of twin.body
  twin_is = ap words_in (sym r.words)

  twin_from : (ws : List ℕ) → length ws ≡ size n.layout → SameFirst (size n.layout) ws below.body.now.words → SameFirst (size n.layout) (with_puts 1 c.puts.items ws) twin.body.words
  twin_from ws long same j before = same_after (size n.layout) 1 c.puts.items ws below.body.now.words same (λ p i to.
      let at = member_at c.puts.items p i in
      let may = r.planned.puts at.0 p at.1 in
      let is : may.target ≡ kept worn = same_Some may.target (kept worn) (sym (subst (λ (t : ℕ). target_at c t ≡ Some may.target) to may.is) ∙ was_worn) in
      let low : p.place < size n.layout = subst (λ (d : Cell). p.place < size_of d) (ap (λ (q : Target). q.stamp.cell) is ∙ at_worn) may.place.1 in
      let room = r.long in
      (omega arith, omega arith)) j before ∙ ap (λ (w : Words). w j) twin_is

  forms_there : (i : ℕ) → IsWordOf z (cell.Node m) i (word_of twin.body i)
  forms_there i = same_form z m n i (word_of twin.body i) r.same (subst (λ (w : Words). IsWordOf z (cell.Node n) i (w i)) twin_is
      (word_after (IsWordOf z (cell.Node n) i) 1 i c.puts.items below.body.now.words
      (λ p j to here.
      let at = member_at c.puts.items p j in
      let may = r.planned.puts at.0 p at.1 in
      let same : may.target ≡ kept worn = same_Some may.target (kept worn) (sym (subst (λ (t : ℕ). target_at c t ≡ Some may.target) to may.is) ∙ was_worn) in
      subst (λ (q : ℕ). IsWordOf z (cell.Node n) q p.value) here
      (subst (λ (d : Cell). IsWordOf z d p.place p.value) (ap (λ (q : Target). q.stamp.cell) same ∙ at_worn) may.form))
      (r.place.read.forms i)))

  new_is : node_made c' ≡ Some o
  new_is = make c.node r.new
    where
      make : (y : Option ℕ) → option_map (λ (number : ℕ). record { layout = c.body.layout; number = number }) y ≡ Some o → option_map (λ (number : ℕ). record { layout = body.layout; number = number }) y ≡ Some o
      make None e = absurd (cc)
      make (Some y) e = ap (λ (l : Layout). Some (record { layout = l; number = y })) r.layout ∙ e

  old_layout : c.body.layout ≡ o.layout
  old_layout = make c.node r.new
    where
      make : (y : Option ℕ) → option_map (λ (number : ℕ). record { layout = c.body.layout; number = number }) y ≡ Some o → c.body.layout ≡ o.layout
      make None e = absurd (cc)
      make (Some y) e = ap (λ (q : Node). q.layout) (same_Some (record { layout = c.body.layout; number = y }) o e)

  -- the words of the new node have their forms, and its children name what there is, the copy among them
  new_forms : (i : ℕ) → IsWordOf z (cell.Node o) i (word_of body i)
  new_forms = node_forms z o o.layout (word_of body) refl r.other.body names
    where
      old : NameThere z (child_of o.layout (word_of c.body))
      old = children_there z o.layout (word_of c.body) r.meaning (λ i at. ((r.planned.new o r.new).forms i).child at)

      names : NameThere z (child_of o.layout (word_of body))
      names = same_there z (with_child (child_of o.layout (word_of c.body)) a (child_word (node m))) (child_of o.layout (word_of body)) r.other.children
          (with_child_there z (child_of o.layout (word_of c.body)) a (child_word (node m)) old (names_there z (node m) r.hand.fits r.hand.number))

  makes : (b : Bool) (y : Node) → made_at b c' ≡ Some y → MayMakeBy z u (made_word b c') y
  makes false y e =
      let may = r.planned.new o r.new in
      subst (MayMakeBy z u (word_of body)) (same_Some o y (sym new_is ∙ e)) (record { inside = may.inside; hand = may.hand; forms = new_forms })
  makes true y e = subst (MayMakeBy z u (made_word true c')) (same_Some m y e) (record { inside = r.hand.number; hand = (r.hand.hand, r.hand.has, r.hand.link); forms = forms_there })

  two : (y : Node) → made_at false c' ≡ Some y → made_at true c' ≡ Some y → ⊥
  two y e f = r.apart (same_Some o m (sym new_is ∙ (e ∙ sym f)))

  -- ---- once all cells are held

  -- the words that the new node has by the change alone
  plain_word : ℕ → ℕ
  plain_word i = cond (eqb i 0) 0 (word_of c.body i)

  abbrev plain_words : List ℕ
  plain_words = map plain_word (range_with_len 0 (size o.layout))

  plain_long : length plain_words ≡ size o.layout
  plain_long = length-map-range_with_len plain_word 0 (size o.layout)

  plain_at : (i : ℕ) → i < size o.layout → words_in plain_words i ≡ plain_word i
  plain_at i low = get_or-map-range_with_len plain_word 0 (size o.layout) i i 0 low (omega arith)

  plain_first : words_in plain_words 0 ≡ 0
  unfolding plain_word
  plain_first = let some = some_size o in plain_at 0 some

  plain_within : (i : ℕ) → 0 < i → i < size o.layout → words_in plain_words i ≡ word_of c.body i
  unfolding plain_word
  plain_within i some low = plain_at i low ∙ ap (λ (b : Bool). cond b 0 (word_of c.body i)) (ne_eqb i 0 (λ e. omega (arith, e)))

  -- words that are 0 outside mean what the new node's body means
  plain_node : WritesNode o.layout (words_in plain_words) (prefix_of (word_of c.body)) (child_of o.layout (word_of c.body))
  plain_node = node_within o.layout (word_of c.body) (words_in plain_words) (prefix_of (word_of c.body)) (child_of o.layout (word_of c.body)) plain_within
      (λ i e. ⊎_elim (λ (is : i ≡ 0). ap (words_in plain_words) is ∙ plain_first) (λ (high : size o.layout ≤ i). past_end plain_words (size o.layout) i plain_long high) e)
      (record { body = r.meaning; prefix = refl; children = λ b low. refl })

  module _ (v : View) (ready : IsWholeReady u c' v) where
    held_top : (h : Holding) × Member h v.held × IsLocked u 0 top c'.puts.items h
    held_top = ready.holds.each 0 top (omega arith) (omega arith) refl

    held_worn : (h : Holding) × Member h v.held × IsLocked u 1 (gone worn) c'.puts.items h
    held_worn = ready.holds.each 1 (gone worn) (omega arith) (omega arith) refl

    held_copy : (h : Holding) × Member h v.held × IsFilledBy u (made_word true c') m (size m.layout) h
    held_copy = let some = some_size m in ready.holds.new true m refl some

    held_new : (h : Holding) × Member h v.held × IsFilledBy u (word_of body) o (size o.layout) h
    held_new =
        let some = some_size o in
        let all : filled_ends c' false ≡ size o.layout = ap (filled_at c') new_is in
        let h = ready.holds.new false o new_is (omega (arith, all, some)) in
        (h.0, h.1, subst (λ (p : ℕ). IsFilledBy u (word_of body) o p h.0) all h.2)

    worn_cell : held_worn.0.cell ≡ cell.Node n
    worn_cell = held_worn.2.cell ∙ at_worn

    -- a node in the hand of the pass is no cell that was locked
    not_locked : (i : ℕ) (x : Target) (ps : List Put) (h : Holding) (y : Node) → IsLocked u i x ps h → (j : InHand) × Member j u.hand × (j.link ≡ node y) → h.cell ≢ cell.Node y
    not_locked i x ps h y lock j e = (lock.apart (node y) (sym e ∙ lock.cell)).0 j.0 j.1 j.2

    copy_hand : (j : InHand) × Member j u.hand × (j.link ≡ node m)
    copy_hand = (r.hand.hand, r.hand.has, r.hand.link)

    new_hand : (j : InHand) × Member j u.hand × (j.link ≡ node o)
    new_hand = (r.planned.new o r.new).hand

    new_not_copy : cell.Node o ≢ cell.Node m
    new_not_copy e = r.apart (let is : o ≡ m = cc in is)

    worn_not_new : worn.cell ≢ cell.Node o
    worn_not_new e = not_locked 1 (gone worn) c'.puts.items held_worn.0 o held_worn.2 new_hand (held_worn.2.cell ∙ e)

    worn_not_copy : worn.cell ≢ cell.Node m
    worn_not_copy e = not_locked 1 (gone worn) c'.puts.items held_worn.0 m held_worn.2 copy_hand (held_worn.2.cell ∙ e)

    -- ---- the cells for the change alone

    abbrev AsWorn : Holding → Holding → Type 0
    AsWorn h h₁ = (h.cell ≡ worn.cell) × (h₁ ≡ record h { new = with_puts 1 c.puts.items h.old })

    abbrev AsNew : Holding → Holding → Type 0
    AsNew h h₁ = (h.cell ≡ cell.Node o) × (h₁ ≡ record h { new = plain_words })

    abbrev AsIs : Holding → Holding → Type 0
    AsIs h h₁ = (h.cell ≢ worn.cell) × (h.cell ≢ cell.Node o) × (h₁ ≡ h)

    -- what is held of a cell for the change alone: of the worn node and of the new node with the words that the change gives them, and of
    -- the copy nothing
    abbrev IsFor : Holding → Holding → Type 0
    IsFor h h₁ = (h.cell ≢ cell.Node m) × (AsWorn h h₁ ⊎ (AsNew h h₁ ⊎ AsIs h h₁))

    one_only_for : (h h₁ h₂ : Holding) → IsFor h h₁ → IsFor h h₂ → h₁ ≡ h₂
    one_only_for h h₁ h₂ a b = both a.1 b.1
      where
        both : AsWorn h h₁ ⊎ (AsNew h h₁ ⊎ AsIs h h₁) → AsWorn h h₂ ⊎ (AsNew h h₂ ⊎ AsIs h h₂) → h₁ ≡ h₂
        both (inl x) (inl y) = x.1 ∙ sym y.1
        both (inl x) (inr (inl y)) = absurd (worn_not_new (sym x.0 ∙ y.0))
        both (inl x) (inr (inr y)) = absurd (y.0 x.0)
        both (inr (inl x)) (inl y) = absurd (worn_not_new (sym y.0 ∙ x.0))
        both (inr (inl x)) (inr (inl y)) = x.1 ∙ sym y.1
        both (inr (inl x)) (inr (inr y)) = absurd (y.1 x.0)
        both (inr (inr x)) (inl y) = absurd (x.0 y.0)
        both (inr (inr x)) (inr (inl y)) = absurd (x.1 y.0)
        both (inr (inr x)) (inr (inr y)) = x.2 ∙ sym y.2

    for_one : (h : Holding) → GivesOne IsFor h ⊎ GivesNone IsFor h
    for_one h = ⊎_elim
        (λ (e : h.cell ≡ cell.Node m). inr (λ h₁ f. f.0 e))
        (λ (not_copy : h.cell ≢ cell.Node m). ⊎_elim
        (λ (e : h.cell ≡ worn.cell). gives (record h { new = with_puts 1 c.puts.items h.old }) (not_copy, inl (e, refl)))
        (λ (not_worn : h.cell ≢ worn.cell). ⊎_elim
        (λ (e : h.cell ≡ cell.Node o). gives (record h { new = plain_words }) (not_copy, inr (inl (e, refl))))
        (λ (not_new : h.cell ≢ cell.Node o). gives h (not_copy, inr (inr (not_worn, not_new, refl))))
        (same_cell h.cell (cell.Node o)))
        (same_cell h.cell worn.cell))
        (same_cell h.cell (cell.Node m))
      where
        gives : (h₁ : Holding) → IsFor h h₁ → GivesOne IsFor h ⊎ GivesNone IsFor h
        gives h₁ f = inl (h₁, f, λ h₂ g. one_only_for h h₂ h₁ g f)

    held_one : Gathered IsFor v.held
    held_one = gathered IsFor v.held (λ h i. for_one h)

    abbrev hs : List Holding
    hs = held_one.list

    as_held : (h h₁ : Holding) → IsFor h h₁ → (h.cell ≡ h₁.cell) × (h.stamped ≡ h₁.stamped) × (h.old ≡ h₁.old)
    as_held h h₁ f = by_kind f.1
      where
        by_kind : AsWorn h h₁ ⊎ (AsNew h h₁ ⊎ AsIs h h₁) → (h.cell ≡ h₁.cell) × (h.stamped ≡ h₁.stamped) × (h.old ≡ h₁.old)
        by_kind (inl x) = (ap (λ (y : Holding). y.cell) (sym x.1), ap (λ (y : Holding). y.stamped) (sym x.1), ap (λ (y : Holding). y.old) (sym x.1))
        by_kind (inr (inl x)) = (ap (λ (y : Holding). y.cell) (sym x.1), ap (λ (y : Holding). y.stamped) (sym x.1), ap (λ (y : Holding). y.old) (sym x.1))
        by_kind (inr (inr x)) = (ap (λ (y : Holding). y.cell) (sym x.2), ap (λ (y : Holding). y.stamped) (sym x.2), ap (λ (y : Holding). y.old) (sym x.2))

    part : (h₁ : Holding) → Member h₁ hs → IsHeldAs v.held h₁
    part h₁ i = let f = held_one.from h₁ i in let y = as_held f.0 h₁ f.2 in record { holding = f.0; has = f.1; cell = y.0; stamped = y.1; old = y.2 }

    not_copy : (h₁ : Holding) → Member h₁ hs → h₁.cell ≢ cell.Node m
    not_copy h₁ i e = let f = held_one.from h₁ i in f.2.0 ((as_held f.0 h₁ f.2).0 ∙ e)

    single : (h₁ h₂ : Holding) → Member h₁ hs → Member h₂ hs → h₁.cell ≡ h₂.cell → h₁ ≡ h₂
    single h₁ h₂ i j e =
        let x = held_one.from h₁ i in
        let y = held_one.from h₂ j in
        let same : x.0 ≡ y.0 = ready.holds.single x.0 y.0 x.1 y.1 ((as_held x.0 h₁ x.2).0 ∙ (e ∙ sym (as_held y.0 h₂ y.2).0)) in
        one_only_for y.0 h₁ h₂ (subst (λ (h : Holding). IsFor h h₁) same x.2) y.2

    abbrev worn_one : Holding
    worn_one = record held_worn.0 { new = with_puts 1 c.puts.items held_worn.0.old }

    abbrev new_one : Holding
    new_one = record held_new.0 { new = plain_words }

    for_worn : IsFor held_worn.0 worn_one
    for_worn = ((λ e. worn_not_copy (sym held_worn.2.cell ∙ e)), inl (held_worn.2.cell, refl))

    for_new : IsFor held_new.0 new_one
    for_new = ((λ e. new_not_copy (sym held_new.2.cell ∙ e)), inr (inl (held_new.2.cell, refl)))

    for_top : IsFor held_top.0 held_top.0
    for_top = (
      not_locked 0 top c'.puts.items held_top.0 m held_top.2 copy_hand,
      inr (inr ((λ e. top_not_worn (sym held_top.2.cell ∙ e)), not_locked 0 top c'.puts.items held_top.0 o held_top.2 new_hand, refl)),
    )

    worn_locked : IsLocked u 1 (kept worn) c.puts.items worn_one
    worn_locked = let y = held_worn.2 in record { cell = y.cell; stamped = y.stamped; long = y.long; version = y.version; agrees = y.agrees; apart = y.apart; new = refl }

    top_locked : IsLocked u 0 top c.puts.items held_top.0
    top_locked = let y = held_top.2 in record {
      cell = y.cell;
      stamped = y.stamped;
      long = y.long;
      version = y.version;
      agrees = y.agrees;
      apart = y.apart;
      new = y.new ∙ with_kept c.puts.items 0 held_top.0.old (λ e. omega (arith, e));
    }

    new_filled : IsFilled u c o (size o.layout) new_one
    new_filled = let y = held_new.2 in record { cell = y.cell; stamped = y.stamped; long = plain_long; version = plain_first; apart = y.apart; words = plain_within }

    all_filled : filled_end c ≡ size o.layout
    all_filled = ap (filled_at c) r.new

    one_each : (i : ℕ) (x : Target) → 0 ≤ i → i < targets c → target_at c i ≡ Some x → (h : Holding) × Member h hs × IsLocked u i x c.puts.items h
    one_each i x low high is = ⊎_elim
        (λ (e : (i ≡ 0) × (top ≡ x)).
        (held_top.0, held_one.each held_top.0 held_top.0 held_top.1 for_top, subst (λ (y : Target). IsLocked u i y c.puts.items held_top.0) e.1 (subst (λ (j : ℕ). IsLocked u j top c.puts.items held_top.0) (sym e.0) top_locked)))
        (λ (e : (i ≡ 1) × (kept worn ≡ x)).
        (worn_one, held_one.each held_worn.0 worn_one held_worn.1 for_worn, subst (λ (y : Target). IsLocked u i y c.puts.items worn_one) e.1 (subst (λ (j : ℕ). IsLocked u j (kept worn) c.puts.items worn_one) (sym e.0) worn_locked)))
        (one_before i x is)

    one_new : (y : Node) → node_made c ≡ Some y → 0 < filled_end c → (h : Holding) × Member h hs × IsFilled u c y (filled_end c) h
    one_new y made some = (
      new_one,
      held_one.each held_new.0 new_one held_new.1 for_new,
      subst (λ (q : Node). IsFilled u c q (filled_end c) new_one) (same_Some o y (sym r.new ∙ made)) (subst (λ (p : ℕ). IsFilled u c o p new_one) (sym all_filled) new_filled),
    )

    -- each that is held for the change alone is one of the three
    one_only : (h₁ : Holding) → Member h₁ hs → IsTarget u c 0 (targets c) c.puts.items h₁ ⊎ IsNew u c (filled_end c) h₁
    one_only h₁ i =
        let f = held_one.from h₁ i in
        ⊎_elim
        (λ (t : IsTarget u c' 0 (targets c') c'.puts.items f.0). ⊎_elim
        (λ (e : (t.index ≡ 0) × (top ≡ t.target)).
        let same : f.0 ≡ held_top.0 = ready.holds.single f.0 held_top.0 f.1 held_top.1 (t.locked.cell ∙ (sym (cell_is top t.target e.1) ∙ sym held_top.2.cell)) in
        is_top (one_only_for held_top.0 h₁ held_top.0 (subst (λ (h : Holding). IsFor h h₁) same f.2) for_top))
        (λ (e : (t.index ≡ 1) × (gone worn ≡ t.target)).
        let same : f.0 ≡ held_worn.0 = ready.holds.single f.0 held_worn.0 f.1 held_worn.1 (t.locked.cell ∙ (sym (cell_is (gone worn) t.target e.1) ∙ sym held_worn.2.cell)) in
        is_worn (one_only_for held_worn.0 h₁ worn_one (subst (λ (h : Holding). IsFor h h₁) same f.2) for_worn))
        (one_now t.index t.target t.is))
        (λ (y : IsNewBy u c' (filled_ends c') f.0). of_new y.which f.0 y.made f.1 f.2 y.is y.filled_up.cell)
        (ready.holds.only f.0 f.1)
      where
        is_top : h₁ ≡ held_top.0 → IsTarget u c 0 (targets c) c.puts.items h₁ ⊎ IsNew u c (filled_end c) h₁
        is_top e = inl (record { index = 0; target = top; is = was_top; above = omega arith; below = omega (arith, two_targets); locked = subst (IsLocked u 0 top c.puts.items) (sym e) top_locked })

        is_worn : h₁ ≡ worn_one → IsTarget u c 0 (targets c) c.puts.items h₁ ⊎ IsNew u c (filled_end c) h₁
        is_worn e = inl (record { index = 1; target = kept worn; is = was_worn; above = omega arith; below = omega (arith, two_targets); locked = subst (IsLocked u 1 (kept worn) c.puts.items) (sym e) worn_locked })

        of_new : (b : Bool) (h : Holding) (y : Node) → Member h v.held → IsFor h h₁ → made_at b c' ≡ Some y → h.cell ≡ cell.Node y → IsTarget u c 0 (targets c) c.puts.items h₁ ⊎ IsNew u c (filled_end c) h₁
        of_new true h y i f made is = absurd (f.0 (is ∙ ap cell.Node (sym (same_Some m y made))))
        of_new false h y i f made is =
            let this : h.cell ≡ cell.Node o = is ∙ ap cell.Node (same_Some y o (sym made ∙ new_is)) in
            let same : h ≡ held_new.0 = ready.holds.single h held_new.0 i held_new.1 (this ∙ sym held_new.2.cell) in
            let e : h₁ ≡ new_one = one_only_for held_new.0 h₁ new_one (subst (λ (q : Holding). IsFor q h₁) same f) for_new in
            inr (record {
              made = o;
              is = r.new;
              some = let some = some_size o in omega (arith, all_filled, some);
              filled_up = subst (IsFilled u c o (filled_end c)) (sym e) (subst (λ (p : ℕ). IsFilled u c o p new_one) (sym all_filled) new_filled);
            })

    one_ready : IsReady u c (for_change v hs)
    one_ready = record {
      same = record { rest = ready.same.rest; stamps = ready.same.stamps; notes = ready.same.notes; failures = ready.same.failures };
      holds = record { each = one_each; new = one_new; only = one_only; single = single };
    }

    -- ---- the change and the renewal

    abbrev x : Place
    x = tree.Slot o a

    abbrev ns : List ℕ
    ns = with_puts 1 c.puts.items held_worn.0.old

    worn_was : SameFirst (size n.layout) held_worn.0.old below.body.now.words
    worn_was i low = words_held z u worn n below.body.now r.place.read 1 (gone worn) c'.puts.items held_worn.0 refl held_worn.2 i (subst (λ (l : Layout). i < size l) (sym r.place.read.layout) low)

    worn_now : SameFirst (size n.layout) ns twin.body.words
    worn_now = twin_from held_worn.0.old (held_worn.2.long ∙ ap size_of at_worn) worn_was

    -- a holding for the change alone of a cell that is held here
    same_one : (h h₁ : Holding) (i : Member h v.held) → Member h₁ hs → h₁.cell ≡ h.cell → IsFor h h₁
    same_one h h₁ i j e =
        let f = held_one.from h₁ j in
        let same : f.0 ≡ h = ready.holds.single f.0 h f.1 i ((as_held f.0 h₁ f.2).0 ∙ e) in
        subst (λ (q : Holding). IsFor q h₁) same f.2

    beside : IsBeside v hs n m x held_worn.0 held_copy.0 held_new.0 ns plain_words
    beside = record {
      worn_held = held_worn.1;
      worn_is = worn_cell;
      worn_stamped = (worn.version, held_worn.2.stamped);
      worn_words = λ h₁ i e. ap (λ (y : Holding). y.new) (one_only_for held_worn.0 h₁ worn_one (same_one held_worn.0 h₁ held_worn.1 i (e ∙ sym worn_cell)) for_worn);
      worn_rests = λ free. absurd (free worn_one (held_one.each held_worn.0 worn_one held_worn.1 for_worn) worn_cell);
      copy_held = held_copy.1;
      copy_is = held_copy.2.cell;
      above_held = held_new.1;
      above_is = held_new.2.cell;
      above_claimed = λ e. record { holding = new_one; has = held_one.each held_new.0 new_one held_new.1 for_new; cell = refl; stamped = refl; old = refl };
      above_words = λ h₁ i e. ap (λ (y : Holding). y.new) (one_only_for held_new.0 h₁ new_one (same_one held_new.0 h₁ held_new.1 i (e ∙ sym held_new.2.cell)) for_new);
      above_rests = λ free. absurd (free new_one (held_one.each held_new.0 new_one held_new.1 for_new) held_new.2.cell);
      single = single;
      part = part;
      rest = λ h i. rest h i (for_one h);
      stays = λ h₁ h i j e not_n not_x. stays h₁ h e not_n not_x (same_one h h₁ j i e).1;
      apart = λ e. worn_not_copy (at_worn ∙ ap cell.Node e);
      not_copy = not_copy;
      above_apart = λ e. worn_not_new (at_worn ∙ sym e);
      above_other = new_not_copy;
    }
      where
        stays : (h₁ h : Holding) → h₁.cell ≡ h.cell → h₁.cell ≢ cell.Node n → h₁.cell ≢ cell.Node o → AsWorn h h₁ ⊎ (AsNew h h₁ ⊎ AsIs h h₁) → h₁.new ≡ h.new
        stays h₁ h e not_n not_x (inl y) = absurd (not_n (e ∙ (y.0 ∙ at_worn)))
        stays h₁ h e not_n not_x (inr (inl y)) = absurd (not_x (e ∙ y.0))
        stays h₁ h e not_n not_x (inr (inr y)) = ap (λ (q : Holding). q.new) y.2

        rest : (h : Holding) → Member h v.held → GivesOne IsFor h ⊎ GivesNone IsFor h → IsHeldAs hs h ⊎ ((h ≡ held_worn.0) ⊎ ((h ≡ held_copy.0) ⊎ (h ≡ held_new.0)))
        rest h i (inl g) = let y = as_held h g.0 g.1 in inl (record { holding = g.0; has = held_one.each h g.0 i g.1; cell = sym y.0; stamped = sym y.1; old = sym y.2 })
        rest h i (inr none) = ⊎_elim
            (λ (e : h.cell ≡ cell.Node m). inr (inr (inl (ready.holds.single h held_copy.0 i held_copy.1 (e ∙ sym held_copy.2.cell)))))
            (λ (not_copy : h.cell ≢ cell.Node m). ⊎_elim
            (λ (e : h.cell ≡ worn.cell). absurd (none (record h { new = with_puts 1 c.puts.items h.old }) (not_copy, inl (e, refl))))
            (λ (not_worn : h.cell ≢ worn.cell). ⊎_elim
            (λ (e : h.cell ≡ cell.Node o). absurd (none (record h { new = plain_words }) (not_copy, inr (inl (e, refl)))))
            (λ (not_new : h.cell ≢ cell.Node o). absurd (none h (not_copy, inr (inr (not_worn, not_new, refl)))))
            (same_cell h.cell (cell.Node o)))
            (same_cell h.cell worn.cell))
            (same_cell h.cell (cell.Node m))

    same_hand : v.hand ≡ u.hand
    same_hand = ap (λ (y : Rest). y.hand) ready.same.rest

    has_copy : HasNode z v m
    has_copy = record { hand = r.hand.hand; has = subst (Member r.hand.hand) (sym same_hand) r.hand.has; link = r.hand.link; number = r.hand.number; fits = r.hand.fits }

    -- the new node's words, which name the copy
    new_node : WritesNode o.layout (words_in held_new.0.new) (prefix_of (word_of c.body)) (with_child (child_of o.layout (word_of c.body)) a (child_word (node m)))
    new_node =
        let f = held_new.2 in
        node_within o.layout (word_of body) (words_in held_new.0.new) (prefix_of (word_of c.body)) (with_child (child_of o.layout (word_of c.body)) a (child_word (node m)))
        (λ i low high. f.words i low high)
        (λ i y. ⊎_elim (λ (e : i ≡ 0). ap (words_in held_new.0.new) e ∙ f.version) (λ (high : size o.layout ≤ i). past_end held_new.0.new (size o.layout) i f.long high) y)
        r.other

    writes_copy : WritesCopy n m x held_copy.0 held_new.0 ns plain_words
    writes_copy = record {
      put = λ t s' old new. (
        r.byte,
        subst (λ (w : Words). Becomes o.layout w (s' (cell.Node o)) (at_byte (child_of o.layout w) a (Some (node m)))) (sym old)
            (subst (λ (w : Words). Becomes o.layout (words_in plain_words) w (at_byte (child_of o.layout (words_in plain_words)) a (Some (node m)))) (sym new) becomes),
      );
      made = λ meaning.
          let f = held_copy.2 in
          node_within m.layout (words_in ns) (words_in held_copy.0.new) (node_prefix (words_in ns)) (child_of n.layout (words_in ns))
          (λ i low high. f.words i low high ∙ sym (worn_now i (subst (λ (l : Layout). i < size l) r.same high)))
          (λ i y. ⊎_elim
          (λ (e : i ≡ 0). ap (words_in held_copy.0.new) e ∙ f.version)
          (λ (high : size m.layout ≤ i). past_end held_copy.0.new (size m.layout) i f.long high) y)
          (node_of meaning);
    }
      where
        becomes : Becomes o.layout (words_in plain_words) (words_in held_new.0.new) (at_byte (child_of o.layout (words_in plain_words)) a (Some (node m)))
        becomes = record {
          body = new_node.body;
          prefix = new_node.prefix ∙ sym plain_node.prefix;
          children = λ b low. new_node.children b low ∙ ap (λ (y : Option ℕ). cond (eqb b a) (Some (child_word (node m))) y) (sym (plain_node.children b low));
        }

        node_of : IsBody n.layout (words_in ns) → IsNodeOf m.layout (words_in ns) (node_prefix (words_in ns)) (child_of n.layout (words_in ns))
        node_of meaning = subst (λ (l : Layout). IsNodeOf l (words_in ns) (node_prefix (words_in ns)) (child_of n.layout (words_in ns))) (sym r.same) (record {
          body = meaning;
          prefix = sym (Rattle.art_plan.proofs.MadeNodes.node_prefix_is n.layout (words_in ns) meaning);
          children = λ b low. refl;
        })

    -- the worn node is in each tree that is as the pass knows it
    worn_linked : (s : Cells) → IsShape z s → Knows v s → IsLinked s (node n)
    worn_linked s shape knows =
        let place = site_place z u k depth (Some (node n)) site r.place.place in
        let so = shows_held z v (site_stamp site) (HasAt place (take depth k) (Some (node n))) s held_top.0 shape knows held_top.1 held_top.2.cell held_top.2.stamped
        (shows_same z u v (site_stamp site) (HasAt place (take depth k) (Some (node n))) ready.same.notes (site_shows z u k depth (Some (node n)) site r.place.place)) in
        (take depth k, at_place (heap_of s) place (node n) (take depth k) so.0 so.1)

    -- the new node comes by the change, and names the worn node
    stands : (s t : Cells) → IsShape z s → Knows v s → AllNew hs s t → Commits z (for_change v hs) c.effects.deed (unlinked c) (commit.coming (for_change v hs) (leaf_linked c)) s t → Names t x n
    stands s t shape knows new done =
        let i : Member new_one hs = held_one.each held_new.0 new_one held_new.1 for_new in
        let comes : Member (node o) (commit.coming (for_change v hs) (leaf_linked c)) = (claimed_nodes_come (for_change v hs) (leaf_linked c) (node o)).1 (inr (o, refl, (new_one, i, held_new.2.stamped, held_new.2.cell))) in
        let linked : IsLinked t (node o) = (done.comes (node o) comes).0 in
        let words : t (cell.Node o) ≡ words_in plain_words = subst (λ (d : Cell). t d ≡ words_in plain_words) held_new.2.cell (new.here new_one i) in
        record {
          path = Rattle.art_tree.specs.Tree.path_past (heap_of t) o linked.0 a;
          at = (linked.0, linked.1, refl);
          names = (words_mean t).child o a r.byte
              ∙ (ap (λ (w : Words). option_and_then link_of (child_of o.layout w a)) words
              ∙ (ap (option_and_then link_of) (plain_node.children a r.byte ∙ r.names) ∙ link_back (node n) r.place.fits));
        }

    copy_not_come : Member (node m) (commit.coming (for_change v hs) (leaf_linked c)) → ⊥
    copy_not_come i = ⊎_elim
        (λ (e : leaf_linked c ≡ Some (node m)). no_leaf c.effects.leaf e)
        (λ (y : (b : Node) × (node m ≡ node b) × IsClaimed (for_change v hs) b). let same : m ≡ y.0 = (let e = y.1 in cc) in not_copy y.2.0 y.2.1 (y.2.3 ∙ ap cell.Node (sym same)))
        ((claimed_nodes_come (for_change v hs) (leaf_linked c) (node m)).0 i)
      where
        no_leaf : (l : Option ℕ) → option_map leaf l ≡ Some (node m) → ⊥
        no_leaf None e = cc
        no_leaf (Some l) e = cc

    comes : SameMembers (commit.coming (for_change v hs) (leaf_linked c) ++ node m ∷ []) (commit.coming v (leaf_linked c))
    comes d = (
      (λ i. (claimed_nodes_come v (leaf_linked c) d).1 (⊎_elim
          (λ (j : Member d (commit.coming (for_change v hs) (leaf_linked c))). ⊎_elim
          (λ (e : leaf_linked c ≡ Some d). inl e)
          (λ (y : (b : Node) × (d ≡ node b) × IsClaimed (for_change v hs) b).
          let h = part y.2.0 y.2.1 in
          inr (y.0, y.1, (h.holding, h.has, h.stamped ∙ y.2.2, h.cell ∙ y.2.3)))
          ((claimed_nodes_come (for_change v hs) (leaf_linked c) d).0 j))
          (⊎_elim
          (λ (e : d ≡ node m). inr (m, e, (held_copy.0, held_copy.1, held_copy.2.stamped, held_copy.2.cell)))
          (λ (none : ⊥). absurd none))
          (member_append d (commit.coming (for_change v hs) (leaf_linked c)) (node m ∷ []) i))),
      (λ i. ⊎_elim
          (λ (e : leaf_linked c ≡ Some d). member_front d (commit.coming (for_change v hs) (leaf_linked c)) (node m ∷ []) ((claimed_nodes_come (for_change v hs) (leaf_linked c) d).1 (inl e)))
          (λ (y : (b : Node) × (d ≡ node b) × IsClaimed v b). of_claimed y.0 y.1 y.2.0 y.2.1 y.2.2 y.2.3 (ready.holds.only y.2.0 y.2.1))
          ((claimed_nodes_come v (leaf_linked c) d).0 i)),
    )
      where
        of_new : (b : Bool) (q y : Node) → d ≡ node q → cell.Node q ≡ cell.Node y → made_at b c' ≡ Some y → Member d (commit.coming (for_change v hs) (leaf_linked c) ++ node m ∷ [])
        of_new true q y e at made =
            let same : q ≡ m = (let f : cell.Node q ≡ cell.Node m = at ∙ ap cell.Node (sym (same_Some m y made)) in cc) in
            member_back d (commit.coming (for_change v hs) (leaf_linked c)) (node m ∷ []) (inl (e ∙ ap node same))
        of_new false q y e at made =
            let same : q ≡ o = (let f : cell.Node q ≡ cell.Node o = at ∙ ap cell.Node (same_Some y o (sym made ∙ new_is)) in cc) in
            member_front d (commit.coming (for_change v hs) (leaf_linked c)) (node m ∷ [])
            ((claimed_nodes_come (for_change v hs) (leaf_linked c) d).1 (inr (o, e ∙ ap node same, (new_one, held_one.each held_new.0 new_one held_new.1 for_new, held_new.2.stamped, held_new.2.cell))))

        of_claimed : (q : Node) → d ≡ node q → (h : Holding) → Member h v.held → h.stamped ≡ None → h.cell ≡ cell.Node q → IsTarget u c' 0 (targets c') c'.puts.items h ⊎ IsNewBy u c' (filled_ends c') h
            → Member d (commit.coming (for_change v hs) (leaf_linked c) ++ node m ∷ [])
        of_claimed q e h i free is (inl t) = let no : None ≡ Some t.target.stamp.version = sym free ∙ t.locked.stamped in absurd (cc)
        of_claimed q e h i free is (inr y) = of_new y.which q y.made e (sym is ∙ y.filled_up.cell) y.is

    may : commit.May z v c.effects.deed (unlinked c') (commit.coming v (leaf_linked c))
    may s s' shape knows new =
        let us = unlinked c ++ node n ∷ [] in
        let done = may_renew z v c.effects.deed (unlinked c) (commit.coming (for_change v hs) (leaf_linked c)) hs n m x held_worn.0 held_copy.0 held_new.0 ns plain_words beside has_copy writes_copy copy_not_come worn_linked stands
        (r.planned.may (for_change v hs) one_ready) s s' shape knows new in
        subst (λ (ds : List Link). Commits z v c.effects.deed ds (commit.coming v (leaf_linked c)) s s') (sym goes_more)
        (same_commits z v c.effects.deed us us (commit.coming (for_change v hs) (leaf_linked c) ++ node m ∷ []) (commit.coming v (leaf_linked c)) s s' (λ d. ((λ i. i), (λ i. i))) done.once comes done)

  pub renewed_below_whole : IsWhole z u (renewed_below (kept (site_stamp site)) below.stamp body below.node twin c)
  renewed_below_whole = record {
    some = omega arith;
    each = each;
    apart = apart;
    puts = puts_may;
    new = makes;
    two = two;
    words = words_are;
    obsolete = obsolete;
    gone = gone_is;
    may = may;
  }
