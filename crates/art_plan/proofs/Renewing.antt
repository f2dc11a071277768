-- A plan to which the renewal of a worn node is added is a plan.
use Rattle.std.proofs.Common.{◌≡◌, ◌≢◌, ◌⊎◌, ◌↔◌, ℕ, zero, suc, ◌<◌, ◌≤◌, Bool, true, false, List, [], ◌∷◌, ◌++◌, length, map, take, Option, Some, None, refl, sym, ap, ◌∙◌, subst, inl, inr, ⊎_elim, arith, get_or-set_same}
use Rattle.std.specs.List.{cons_option, filter_map, slice_get}
use Rattle.std.proofs.lemmas.List.Elements.{filter_map-append}
use Rattle.std.proofs.lemmas.Option.{same_Some, slice_get_within}
use Rattle.art_cell.specs.Bodies.{IsBody}
use Rattle.art_cell.specs.Children.{child_word, link_of}
use Rattle.art_cell.specs.Reads.{word_of, written}
use Rattle.art_cell.specs.Words.{Words, child_of, size}
use Rattle.art_cell.specs.declared.cells.Cell.{Cell}
use Rattle.art_cell.specs.declared.cells.Cell.TheVariants as cell
use Rattle.art_cell.specs.declared.cells.Link.{Link}
use Rattle.art_cell.specs.declared.cells.Link.TheVariants.{Leaf as leaf, Node as node}
use Rattle.art_cell.specs.declared.cells.Node.{Node}
use Rattle.art_cell.specs.declared.cells.Layout.{Layout}
use Rattle.art_cell.specs.declared.cells.Write.{Write}
use Rattle.art_commit.specs.AnyChange.{IsClaimed, SameMembers}
use Rattle.art_commit.specs.CommitLaws.{HasNode}
use Rattle.art_commit.specs.Renewals.{IsBeside, IsHeldAs, Names, WritesCopy, for_change}
use Rattle.art_commit.proofs.Members.{claimed_nodes_come, same_commits}
use Rattle.art_commit.proofs.Renewals.{may_renew, stays_named}
use Rattle.art_node.specs.Prefixes.{IsNodeOf}
use Rattle.art_plan.specs.Changes.{IsFilled, IsLocked, IsNew, IsPlanned, IsReady, IsTarget, MayPut, MayTarget, filled_end, leaf_linked, node_made, put_at, target_at, targets, unlinked, with_puts}
use Rattle.art_plan.specs.Puts.{IsSitePlan, puts_of}
use Rattle.art_plan.specs.Renewing.{IsFirst, IsRenewal, moved_put, renewed, worn_words}
use Rattle.art_plan.specs.Seen.{HasAt, SiteFits, gone, kept, site_stamp}
use Rattle.art_plan.specs.Whole.{IsFilledBy, IsNewBy, IsWhole, IsWholeReady, MayMakeBy, filled_ends, made_at, made_word, node_copied, twin_node}
use Rattle.art_plan.specs.declared.changes.Change.{Change}
use Rattle.art_plan.specs.declared.changes.Put.{Put}
use Rattle.art_plan.specs.declared.changes.Target.{Target}
use Rattle.art_plan.specs.declared.changes.Twin.{Twin}
use Rattle.art_plan.specs.declared.changes.Below.{Below}
use Rattle.art_plan.specs.declared.changes.Site.{Site}
use Rattle.art_plan.specs.declared.changes.Site.TheVariants.{Root, Slot}
use Rattle.art_plan.proofs.BodyForms.{same_form}
use Rattle.art_plan.proofs.CutWords.{cut_body, cut_words, puts_cut}
use Rattle.art_plan.proofs.MadeChanges.{taken_meaning}
use Rattle.art_plan.proofs.MovedPuts.{IsLower, WasPut, either_index, lower, lower_at, lower_high, member_at, SameFirst, same_after, was_put, with_moved, with_none_moved, word_after}
use Rattle.art_plan.proofs.Planning.{get_member}
use Rattle.art_plan.proofs.PutWords.{Agree, changes_agree, puts_write, with_puts-append}
use Rattle.art_plan.proofs.ReadyCells.{past_end, some_size}
use Rattle.art_plan.proofs.SiteWords.{HasMeaning, long_held, may_put_site, may_target, may_target_site, names_there, put_plan, site_becomes, whole_words, words_held}
use Rattle.art_plan.proofs.WordsWithin.{node_within}
use Rattle.art_step.specs.Knowledge.{IsShape}
use Rattle.art_step.specs.Shows.{Rest, Shows}
use Rattle.art_step.specs.Steps.Commit as commit
use Rattle.art_step.specs.Steps.Commit.{AllNew, Commits, IsLinked, Knows}
use Rattle.art_step.specs.Steps.Release.{IsNodeAmong}
use Rattle.art_step.specs.Views.{IsNotHeld, IsWordOf, Member, size_of, words_in}
use Rattle.art_step.specs.declared.views.Holding.{Holding}
use Rattle.art_step.specs.declared.views.InHand.{InHand}
use Rattle.art_step.specs.declared.views.Sizes.{Sizes}
use Rattle.art_step.specs.declared.views.Stamp.{Stamp}
use Rattle.art_step.specs.declared.views.View.{View}
use Rattle.art_step.proofs.Gathered.{Gathered, GivesNone, GivesOne, gathered}
use Rattle.art_step.proofs.SetsView.{member_append, member_back, member_front}
use Rattle.art_step.proofs.Shows.{shows_held, shows_same}
use Rattle.art_tree.proofs.ChildWords.{link_back}
use Rattle.art_tree.proofs.Places.{at_place, same_cell}
use Rattle.art_tree.specs.Heaps.{Cells, heap_of, node_prefix}
use Rattle.art_tree.specs.Tree.{Place, PlaceAt, child_at_place}
use Rattle.art_tree.specs.Tree as tree
use Rattle.art_tree.specs.WordChanges.{WritesPlace, cell_of}

-- ---- the plain change is a whole one

pub plain_whole : (z : Sizes) (u : View) (c : Change) → IsPlanned z u c → IsWhole z u c
plain_whole z u c k = record {
  some = k.some;
  each = k.each;
  apart = k.apart;
  puts = k.puts;
  new = new;
  two = λ n e f. none n f;
  words = k.words;
  obsolete = k.obsolete;
  gone = k.gone;
  may = λ v ready. k.may v (record {
    same = ready.same;
    holds = record {
      each = ready.holds.each;
      new = λ n e some. let o = ready.holds.new false n e some in
          (o.0, o.1, record { cell = o.2.cell; stamped = o.2.stamped; long = o.2.long; version = o.2.version; apart = o.2.apart; words = o.2.words });
      only = λ h i. ⊎_elim (λ (t : IsTarget u c 0 (targets c) c.puts.items h). inl t) (λ (o : IsNewBy u c (filled_ends c) h). inr (only_new h o)) (ready.holds.only h i);
      single = ready.holds.single;
    };
  });
}
  where
    none : (n : Node) → node_copied c ≡ Some n → ⊥
    none n e = let no : None ≡ Some n = sym (ap (λ (o : Option Twin). Rattle.std.specs.Option.option_map twin_node o) k.plain) ∙ e in cc

    new : (b : Bool) (n : Node) → made_at b c ≡ Some n → MayMakeBy z u (made_word b c) n
    new false n e = let o = k.new n e in record { inside = o.inside; hand = o.hand; forms = o.forms }
    new true n e = absurd (none n e)

    by_which : (b : Bool) (h : Holding) (n : Node) → made_at b c ≡ Some n → 0 < filled_ends c b → IsFilledBy u (made_word b c) n (filled_ends c b) h → IsNew u c (filled_end c) h
    by_which false h n e some o = record {
      made = n;
      is = e;
      some = some;
      filled_up = record { cell = o.cell; stamped = o.stamped; long = o.long; version = o.version; apart = o.apart; words = o.words };
    }
    by_which true h n e some o = absurd (none n e)

    only_new : (h : Holding) → IsNewBy u c (filled_ends c) h → IsNew u c (filled_end c) h
    only_new h o = by_which o.which h o.made o.is o.some o.filled_up

-- ---- the site

-- where the worn node stands
abbrev pub site_place : (z : Sizes) (u : View) (k : List ℕ) (depth : ℕ) (o : Option Link) (site : Site) → SiteFits z u site k depth o → Place
site_place z u k depth o (Root x) fits = tree.Top
site_place z u k depth o (Slot x body byte) fits = tree.Slot fits.node byte

pub site_cell : (z : Sizes) (u : View) (k : List ℕ) (depth : ℕ) (o : Option Link) (site : Site) (fits : SiteFits z u site k depth o) → cell_of (site_place z u k depth o site fits) ≡ (site_stamp site).cell
site_cell z u k depth o (Root x) fits = sym fits.read.cell
site_cell z u k depth o (Slot x body byte) fits = sym fits.read.cell

pub site_shows : (z : Sizes) (u : View) (k : List ℕ) (depth : ℕ) (o : Option Link) (site : Site) (fits : SiteFits z u site k depth o)
    → Shows z u (site_stamp site) (HasAt (site_place z u k depth o site fits) (take depth k) o)
site_shows z u k depth o (Root x) fits = fits.shows
site_shows z u k depth o (Slot x body byte) fits = fits.shows

-- its words, where it was locked and the writes were put into it
site_put : (z : Sizes) (u : View) (k : List ℕ) (depth : ℕ) (o : Option Link) (site : Site) (fits : SiteFits z u site k depth o) (d : Link) (writes : List Write) → HasMeaning site → IsSitePlan site (child_word d) writes
    → (i : ℕ) (ps : List Put) (h : Holding) → IsLocked u i (kept (site_stamp site)) ps h → (t s' : Cells) → t (cell_of (site_place z u k depth o site fits)) ≡ words_in h.old
    → s' (cell_of (site_place z u k depth o site fits)) ≡ words_in (with_puts 0 (puts_of 0 writes) h.old) → WritesPlace t s' (site_place z u k depth o site fits) (Some d)
site_put z u k depth o (Root x) fits d writes meaning one i ps h lock t s' old new =
    let long : length h.old ≡ 2 = lock.long ∙ ap size_of fits.read.cell in
    ap (λ (w : Words). w 1) new ∙ (ap (λ (ws : List Write). words_in (with_puts 0 (puts_of 0 ws) h.old) 1) one ∙ get_or-set_same h.old 1 (child_word d) 0 (omega (arith, long)))
site_put z u k depth o (Slot x body byte) fits d writes meaning plan i ps h lock t s' old new = (fits.low, site_becomes t s' body.now fits.node byte (Some d) writes fits.read.layout form was now plan.becomes)
  where
    l : Layout
    l = body.now.layout

    whole : words_in h.old ≡ cut_words l (word_of body.now)
    whole = whole_words z u x fits.node body.now fits.read i (kept x) ps h refl lock

    was : t (cell.Node fits.node) ≡ cut_words l (word_of body.now)
    was = old ∙ whole

    form : IsBody fits.node.layout (t (cell.Node fits.node))
    form = subst (λ (m : Layout). IsBody m (t (cell.Node fits.node))) fits.read.layout (subst (IsBody l) (sym was) (cut_body l (word_of body.now) meaning))

    now : s' (cell.Node fits.node) ≡ cut_words l (written (word_of body.now) writes)
    now = new ∙ puts_cut l (word_of body.now) writes plan.exact 0 h.old (long_held z u x fits.node body.now fits.read i (kept x) ps h refl lock) whole

-- ---- the change with the renewal

module _ (z : Sizes) (u : View) (c : Change) (first : Bool) (site : Site) (writes : List Write) (below : Below) (twin : Twin) (k : List ℕ) (depth : ℕ)
    (r : IsRenewal z u c first site writes below twin k depth) where
  abbrev n : Node
  n = below.node

  abbrev m : Node
  m = twin_node twin

  abbrev above : Stamp
  above = site_stamp site

  abbrev worn : Stamp
  worn = below.stamp

  abbrev c' : Change
  c' = renewed first above writes worn n twin c

  at_worn : worn.cell ≡ cell.Node n
  at_worn = r.place.read.cell

  above_not_worn : above.cell ≢ worn.cell
  above_not_worn e = r.place.apart (e ∙ at_worn)

  -- ---- what goes

  goes_more : unlinked c' ≡ unlinked c ++ node n ∷ []
  goes_more = filter_map-append link_of c.effects.unlinked.items (child_word (node n) ∷ []) ∙ ap (λ (o : Option Link). unlinked c ++ cons_option o []) (link_back (node n) r.place.fits)

  goes_either : (d : Link) → Member d (unlinked c') → Member d (unlinked c) ⊎ (d ≡ node n)
  goes_either d i = ⊎_elim
      (λ (j : Member d (unlinked c)). inl j)
      (⊎_elim (λ (e : d ≡ node n). inr e) (λ (none : ⊥). absurd none))
      (member_append d (unlinked c) (node n ∷ []) (subst (Member d) goes_more i))

  goes_still : (d : Link) → Member d (unlinked c) → Member d (unlinked c')
  goes_still d i = subst (Member d) (sym goes_more) (member_front d (unlinked c) (node n ∷ []) i)

  goes_worn : Member (node n) (unlinked c')
  goes_worn = subst (Member (node n)) (sym goes_more) (member_back (node n) (unlinked c) (node n ∷ []) (inl refl))

  -- ---- the targets

  -- a target of the change is the worn node, and the first, or another cell, and it stays a target
  abbrev IsWornTarget : ℕ → Target → Type 0
  IsWornTarget i x = (first ≡ true) × (i ≡ 0) × (x ≡ kept worn) × IsFirst true c worn

  each_target : (i : ℕ) (x : Target) → target_at c i ≡ Some x → IsWornTarget i x ⊎ (IsLower first i × (x.stamp.cell ≢ worn.cell))
  each_target i x is = by_first first refl r.first_is i is
    where
      by_first : (b : Bool) → first ≡ b → IsFirst b c worn → (i : ℕ) → target_at c i ≡ Some x → IsWornTarget i x ⊎ (IsLower first i × (x.stamp.cell ≢ worn.cell))
      by_first false e none i is = inr ((λ f. let no : false ≡ true = sym e ∙ f in absurd (cc)), none i x is)
      by_first true e one zero is = inl (e, refl, same_Some x (kept worn) (sym is ∙ one), one)
      by_first true e one (suc i) is = inr ((λ f no. absurd (cc)), (λ same. let no = r.planned.apart (suc i) 0 x (kept worn) is one same in absurd (cc)))

  at_lower : (i : ℕ) (x : Target) → IsLower first i → target_at c i ≡ Some x → target_at c' (lower first i) ≡ Some x
  at_lower i x low is = lower_at first (kept above) (gone worn) c.targets.items i low ∙ is

  from_lower : (i : ℕ) (x : Target) → IsLower first i → target_at c' (lower first i) ≡ Some x → target_at c i ≡ Some x
  from_lower i x low is = sym (lower_at first (kept above) (gone worn) c.targets.items i low) ∙ is

  -- one of them
  abbrev IsOneTarget : ℕ → Target → Type 0
  IsOneTarget j x = ((j ≡ 0) × (kept above ≡ x)) ⊎ (((j ≡ 1) × (gone worn ≡ x)) ⊎ ((i : ℕ) × (j ≡ lower first i) × IsLower first i × (target_at c i ≡ Some x)))

  one_target : (j : ℕ) (x : Target) → target_at c' j ≡ Some x → IsOneTarget j x
  one_target j x is = ⊎_elim
      (λ (e : j ≡ 0). inl (e, same_Some (kept above) x (subst (λ (i : ℕ). target_at c' i ≡ Some x) e is)))
      (⊎_elim
      (λ (e : j ≡ 1). inr (inl (e, same_Some (gone worn) x (subst (λ (i : ℕ). target_at c' i ≡ Some x) e is))))
      (λ (o : (i : ℕ) × (j ≡ lower first i) × IsLower first i). inr (inr (o.0, o.1, o.2, from_lower o.0 x o.2 (subst (λ (i : ℕ). target_at c' i ≡ Some x) o.1 is)))))
      (either_index first j)

  -- a target that is lower is another cell than the two above it
  lower_not_worn : (i : ℕ) (x : Target) → IsLower first i → target_at c i ≡ Some x → x.stamp.cell ≢ worn.cell
  lower_not_worn i x low is = ⊎_elim
      (λ (o : IsWornTarget i x). absurd (low o.0 o.1))
      (λ (o : IsLower first i × (x.stamp.cell ≢ worn.cell)). o.1)
      (each_target i x is)

  each : (j : ℕ) (x : Target) → target_at c' j ≡ Some x → MayTarget z u x
  each j x is = ⊎_elim
      (λ (o : (j ≡ 0) × (kept above ≡ x)). subst (MayTarget z u) o.1 (may_target_site z u k depth (Some (node n)) site r.place.place))
      (⊎_elim
      (λ (o : (j ≡ 1) × (gone worn ≡ x)). subst (MayTarget z u) o.1 (may_target z u worn n below.body.now r.place.read (gone worn) refl))
      (λ (o : (i : ℕ) × (j ≡ lower first i) × IsLower first i × (target_at c i ≡ Some x)). r.planned.each o.0 x o.3))
      (one_target j x is)

  apart : (i j : ℕ) (x y : Target) → target_at c' i ≡ Some x → target_at c' j ≡ Some y → x.stamp.cell ≡ y.stamp.cell → i ≡ j
  apart i j x y is that = both (one_target i x is) (one_target j y that)
    where
      cell_is : (a b : Target) → a ≡ b → a.stamp.cell ≡ b.stamp.cell
      cell_is a b e = ap (λ (q : Target). q.stamp.cell) e

      both : IsOneTarget i x → IsOneTarget j y → x.stamp.cell ≡ y.stamp.cell → i ≡ j
      both (inl a) (inl b) e = a.0 ∙ sym b.0
      both (inl a) (inr (inl b)) e = absurd (above_not_worn (cell_is (kept above) x a.1 ∙ (e ∙ sym (cell_is (gone worn) y b.1))))
      both (inl a) (inr (inr b)) e = absurd (r.above b.0 y b.3 (sym e ∙ sym (cell_is (kept above) x a.1)))
      both (inr (inl a)) (inl b) e = absurd (above_not_worn (cell_is (kept above) y b.1 ∙ (sym e ∙ sym (cell_is (gone worn) x a.1))))
      both (inr (inl a)) (inr (inl b)) e = a.0 ∙ sym b.0
      both (inr (inl a)) (inr (inr b)) e = absurd (lower_not_worn b.0 y b.2 b.3 (sym e ∙ sym (cell_is (gone worn) x a.1)))
      both (inr (inr a)) (inl b) e = absurd (r.above a.0 x a.3 (e ∙ sym (cell_is (kept above) y b.1)))
      both (inr (inr a)) (inr (inl b)) e = absurd (lower_not_worn a.0 x a.2 a.3 (e ∙ sym (cell_is (gone worn) y b.1)))
      both (inr (inr a)) (inr (inr b)) e = a.1 ∙ (ap (lower first) (r.planned.apart a.0 b.0 x y a.3 b.3 e) ∙ sym b.1)

  obsolete : (j : ℕ) (x : Target) → target_at c' j ≡ Some x → (x.obsolete ≡ true) ↔ IsNodeAmong x.stamp.cell (λ d. Member d (unlinked c'))
  obsolete j x is = ⊎_elim
      (λ (o : (j ≡ 0) × (kept above ≡ x)). subst (λ (y : Target). (y.obsolete ≡ true) ↔ IsNodeAmong y.stamp.cell (λ d. Member d (unlinked c'))) o.1 above_stays)
      (⊎_elim
      (λ (o : (j ≡ 1) × (gone worn ≡ x)). subst (λ (y : Target). (y.obsolete ≡ true) ↔ IsNodeAmong y.stamp.cell (λ d. Member d (unlinked c'))) o.1 ((λ e. (n, at_worn, goes_worn)), (λ e. refl)))
      (λ (o : (i : ℕ) × (j ≡ lower first i) × IsLower first i × (target_at c i ≡ Some x)). as_before o.0 o.2 o.3))
      (one_target j x is)
    where
      above_stays : (false ≡ true) ↔ IsNodeAmong above.cell (λ d. Member d (unlinked c'))
      above_stays = (
        (λ e. absurd (cc)),
        (λ a. absurd (⊎_elim
            (λ (i : Member (node a.0) (unlinked c)). let o = r.planned.gone a.0 i in r.above o.0 o.1 o.2 (o.3 ∙ sym a.1))
            (λ (e : node a.0 ≡ node n). let is : a.0 ≡ n = cc in above_not_worn (a.1 ∙ (ap cell.Node is ∙ sym at_worn)))
            (goes_either (node a.0) a.2))),
      )

      as_before : (i : ℕ) → IsLower first i → target_at c i ≡ Some x → (x.obsolete ≡ true) ↔ IsNodeAmong x.stamp.cell (λ d. Member d (unlinked c'))
      as_before i low at =
          let o = r.planned.obsolete i x at in (
            (λ e. let a = o.0 e in (a.0, a.1, goes_still (node a.0) a.2)),
            (λ a. o.1 (
              a.0,
              a.1,
              ⊎_elim
                  (λ (i : Member (node a.0) (unlinked c)). i)
                  (λ (e : node a.0 ≡ node n). let is : a.0 ≡ n = cc in absurd (lower_not_worn i x low at (a.1 ∙ (ap cell.Node is ∙ sym at_worn))))
                  (goes_either (node a.0) a.2),
            )),
          )

  gone_is : (o : Node) → Member (node o) (unlinked c') → (j : ℕ) × (x : Target) × (target_at c' j ≡ Some x) × (x.stamp.cell ≡ cell.Node o)
  gone_is o i = ⊎_elim
      (λ (i : Member (node o) (unlinked c)).
      let t = r.planned.gone o i in
      ⊎_elim
      (λ (a : IsWornTarget t.0 t.1).
      let e : cell.Node o ≡ cell.Node n = sym t.3 ∙ (ap (λ (q : Target). q.stamp.cell) a.2 ∙ at_worn) in
      let is : o ≡ n = cc in
      absurd (r.stays (subst (λ (y : Node). Member (node y) (unlinked c)) is i)))
      (λ (a : IsLower first t.0 × (t.1.stamp.cell ≢ worn.cell)). (lower first t.0, t.1, at_lower t.0 t.1 a.0 t.2, t.3))
      (each_target t.0 t.1 t.2))
      (λ (e : node o ≡ node n). let is : o ≡ n = cc in (1, gone worn, refl, at_worn ∙ ap cell.Node (sym is)))
      (goes_either (node o) i)

  words_are : map child_word (unlinked c') ≡ c'.effects.unlinked.items
  words_are = ap (map child_word) goes_more ∙ more (unlinked c) c.effects.unlinked.items r.planned.words
    where
      more : (ds : List Link) (us : List ℕ) → map child_word ds ≡ us → map child_word (ds ++ node n ∷ []) ≡ us ++ child_word (node n) ∷ []
      more ds us e = append ds ∙ ap (λ (xs : List ℕ). xs ++ child_word (node n) ∷ []) e
        where
          append : (ds : List Link) → map child_word (ds ++ node n ∷ []) ≡ map child_word ds ++ child_word (node n) ∷ []
          append [] = refl
          append (d ∷ ds) = ap (λ (xs : List ℕ). child_word d ∷ xs) (append ds)

  -- ---- the puts

  moved_may : (p : Put) → Member p (filter_map (moved_put first) c.puts.items) → MayPut z c' p
  moved_may p i =
      let o : WasPut first c.puts.items p = was_put first c.puts.items p i in
      let at = member_at c.puts.items o.put o.has in
      let may = r.planned.puts at.0 o.put at.1 in
      subst (MayPut z c') (sym o.is) (record { target = may.target; is = at_lower o.put.target may.target o.low may.is; place = may.place; form = may.form })

  puts_may : (j : ℕ) (p : Put) → put_at c' j ≡ Some p → MayPut z c' p
  puts_may j p is = ⊎_elim
      (λ (i : Member p (puts_of 0 writes)).
      may_put_site z u c' k depth (Some (node n)) (Some (node m)) writes (names_there z (node m) r.hand.fits r.hand.number) site r.place.place (taken_meaning site r.taken) (put_plan site (node m) writes r.put) refl p i)
      (moved_may p)
      (member_append p (puts_of 0 writes) (filter_map (moved_put first) c.puts.items) (get_member c'.puts.items j p is))

  -- ---- the nodes that it makes

  -- the words of the copy, from those that were read of the worn node
  twin_is : words_in (worn_words first c below.body.now.words) ≡ word_of twin.body
  twin_is = ap words_in (sym r.words)

  -- and from any list of them that is as long as the node
  twin_from : (ws : List ℕ) → length ws ≡ size n.layout → SameFirst (size n.layout) ws below.body.now.words → SameFirst (size n.layout) (worn_words first c ws) twin.body.words
  twin_from ws long same i before = by_first first r.first_is i before ∙ ap (λ (w : Words). w i) twin_is
    where
      by_first : (b : Bool) → IsFirst b c worn → SameFirst (size n.layout) (worn_words b c ws) (worn_words b c below.body.now.words)
      by_first false none = same
      by_first true one = same_after (size n.layout) 0 c.puts.items ws below.body.now.words same (λ p i to.
          let at = member_at c.puts.items p i in
          let may = r.planned.puts at.0 p at.1 in
          let is : may.target ≡ kept worn = same_Some may.target (kept worn) (sym (subst (λ (t : ℕ). target_at c t ≡ Some may.target) to may.is) ∙ one) in
          let low : p.place < size n.layout = subst (λ (d : Cell). p.place < size_of d) (ap (λ (q : Target). q.stamp.cell) is ∙ at_worn) may.place.1 in
          let room = r.long in
          (omega arith, omega arith))

  forms_there : (i : ℕ) → IsWordOf z (cell.Node m) i (word_of twin.body i)
  forms_there i = same_form z m n i (word_of twin.body i) r.layout (subst (λ (w : Words). IsWordOf z (cell.Node n) i (w i)) twin_is (by_first first r.first_is))
    where
      was : IsWordOf z (cell.Node n) i (words_in below.body.now.words i)
      was = r.place.read.forms i

      by_first : (b : Bool) → IsFirst b c worn → IsWordOf z (cell.Node n) i (words_in (worn_words b c below.body.now.words) i)
      by_first false none = was
      by_first true one = word_after (IsWordOf z (cell.Node n) i) 0 i c.puts.items below.body.now.words
          (λ p j to here.
          let at = member_at c.puts.items p j in
          let may = r.planned.puts at.0 p at.1 in
          let same : may.target ≡ kept worn = same_Some may.target (kept worn) (sym (subst (λ (t : ℕ). target_at c t ≡ Some may.target) to may.is) ∙ one) in
          subst (λ (q : ℕ). IsWordOf z (cell.Node n) q p.value) here
          (subst (λ (d : Cell). IsWordOf z d p.place p.value) (ap (λ (q : Target). q.stamp.cell) same ∙ at_worn) may.form))
          was

  makes : (b : Bool) (o : Node) → made_at b c' ≡ Some o → MayMakeBy z u (made_word b c') o
  makes false o e = let a = r.planned.new o e in record { inside = a.inside; hand = a.hand; forms = a.forms }
  makes true o e = subst (MayMakeBy z u (made_word true c')) (same_Some m o e) (record { inside = r.hand.number; hand = (r.hand.hand, r.hand.has, r.hand.link); forms = forms_there })

  two : (o : Node) → made_at false c' ≡ Some o → made_at true c' ≡ Some o → ⊥
  two o e f = r.other (e ∙ sym f)

  -- ---- once all cells are held

  module _ (v : View) (ready : IsWholeReady u c' v) where
    held_above : (h : Holding) × Member h v.held × IsLocked u 0 (kept above) c'.puts.items h
    held_above = ready.holds.each 0 (kept above) (omega arith) (omega arith) refl

    held_worn : (h : Holding) × Member h v.held × IsLocked u 1 (gone worn) c'.puts.items h
    held_worn = ready.holds.each 1 (gone worn) (omega arith) (omega arith) refl

    held_copy : (h : Holding) × Member h v.held × IsFilledBy u (made_word true c') m (size m.layout) h
    held_copy = let some = some_size m in ready.holds.new true m refl some

    worn_cell : held_worn.0.cell ≡ cell.Node n
    worn_cell = held_worn.2.cell ∙ at_worn

    -- a node in the hand of the pass is no cell that was locked
    not_locked : (i : ℕ) (x : Target) (ps : List Put) (h : Holding) (o : Node) → IsLocked u i x ps h → (y : InHand) × Member y u.hand × (y.link ≡ node o) → h.cell ≢ cell.Node o
    not_locked i x ps h o lock y e = (lock.apart (node o) (sym e ∙ lock.cell)).0 y.0 y.1 y.2

    copy_hand : (y : InHand) × Member y u.hand × (y.link ≡ node m)
    copy_hand = (r.hand.hand, r.hand.has, r.hand.link)

    -- ---- the cells for the change alone

    -- what is held of a cell for the change alone: of the worn node with the words that the change gives it, where it writes it, and of
    -- the cell above it and of its copy nothing
    abbrev IsFor : Holding → Holding → Type 0
    IsFor h h₁ = (h.cell ≢ above.cell) × (h.cell ≢ cell.Node m) × (((h.cell ≡ worn.cell) × (first ≡ true) × (h₁ ≡ record h { new = with_puts 0 c.puts.items h.old })) ⊎ ((h.cell ≢ worn.cell) × (h₁ ≡ h)))

    for_one : (h : Holding) → GivesOne IsFor h ⊎ GivesNone IsFor h
    for_one h = ⊎_elim
        (λ (e : h.cell ≡ above.cell). inr (λ h₁ o. o.0 e))
        (λ (not_above : h.cell ≢ above.cell). ⊎_elim
        (λ (e : h.cell ≡ cell.Node m). inr (λ h₁ o. o.1 e))
        (λ (not_copy : h.cell ≢ cell.Node m). ⊎_elim
        (λ (e : h.cell ≡ worn.cell). by_first e not_above not_copy first refl)
        (λ (f : h.cell ≢ worn.cell). inl (
          h,
          (not_above, not_copy, inr (f, refl)),
          (λ h₁ o. ⊎_elim
              (λ (a : (h.cell ≡ worn.cell) × (first ≡ true) × (h₁ ≡ record h { new = with_puts 0 c.puts.items h.old })). absurd (f a.0))
              (λ (a : (h.cell ≢ worn.cell) × (h₁ ≡ h)). a.1) o.2),
        ))
        (same_cell h.cell worn.cell))
        (same_cell h.cell (cell.Node m)))
        (same_cell h.cell above.cell)
      where
        by_first : h.cell ≡ worn.cell → h.cell ≢ above.cell → h.cell ≢ cell.Node m → (b : Bool) → first ≡ b → GivesOne IsFor h ⊎ GivesNone IsFor h
        by_first e not_above not_copy true is = inl (
          record h { new = with_puts 0 c.puts.items h.old },
          (not_above, not_copy, inl (e, is, refl)),
          (λ h₁ o. ⊎_elim
              (λ (a : (h.cell ≡ worn.cell) × (first ≡ true) × (h₁ ≡ record h { new = with_puts 0 c.puts.items h.old })). a.2)
              (λ (a : (h.cell ≢ worn.cell) × (h₁ ≡ h)). absurd (a.0 e)) o.2),
        )
        by_first e not_above not_copy false is = inr (λ h₁ o. ⊎_elim
            (λ (a : (h.cell ≡ worn.cell) × (first ≡ true) × (h₁ ≡ record h { new = with_puts 0 c.puts.items h.old })). let no : false ≡ true = sym is ∙ a.1 in absurd (cc))
            (λ (a : (h.cell ≢ worn.cell) × (h₁ ≡ h)). a.0 e) o.2)

    held_one : Gathered IsFor v.held
    held_one = gathered IsFor v.held (λ h i. for_one h)

    abbrev hs : List Holding
    hs = held_one.list

    -- it is held as one of those that the pass holds
    as_held : (h h₁ : Holding) → IsFor h h₁ → (h.cell ≡ h₁.cell) × (h.stamped ≡ h₁.stamped) × (h.old ≡ h₁.old)
    as_held h h₁ o = ⊎_elim
        (λ (a : (h.cell ≡ worn.cell) × (first ≡ true) × (h₁ ≡ record h { new = with_puts 0 c.puts.items h.old })).
        (ap (λ (y : Holding). y.cell) (sym a.2), ap (λ (y : Holding). y.stamped) (sym a.2), ap (λ (y : Holding). y.old) (sym a.2)))
        (λ (a : (h.cell ≢ worn.cell) × (h₁ ≡ h)). (ap (λ (y : Holding). y.cell) (sym a.1), ap (λ (y : Holding). y.stamped) (sym a.1), ap (λ (y : Holding). y.old) (sym a.1)))
        o.2

    part : (h₁ : Holding) → Member h₁ hs → IsHeldAs v.held h₁
    part h₁ i = let o = held_one.from h₁ i in let a = as_held o.0 h₁ o.2 in record { holding = o.0; has = o.1; cell = a.0; stamped = a.1; old = a.2 }

    -- a cell of the change but the worn node is held as it is
    same_for : (h : Holding) → Member h v.held → h.cell ≢ above.cell → h.cell ≢ cell.Node m → h.cell ≢ worn.cell → Member h hs
    same_for h i a b e = held_one.each h h i (a, b, inr (e, refl))

    not_above : (h₁ : Holding) → Member h₁ hs → h₁.cell ≢ above.cell
    not_above h₁ i e = let o = held_one.from h₁ i in o.2.0 ((as_held o.0 h₁ o.2).0 ∙ e)

    not_copy : (h₁ : Holding) → Member h₁ hs → h₁.cell ≢ cell.Node m
    not_copy h₁ i e = let o = held_one.from h₁ i in o.2.1 ((as_held o.0 h₁ o.2).0 ∙ e)

    single : (h₁ h₂ : Holding) → Member h₁ hs → Member h₂ hs → h₁.cell ≡ h₂.cell → h₁ ≡ h₂
    single h₁ h₂ i j e =
        let a = held_one.from h₁ i in
        let b = held_one.from h₂ j in
        let same : a.0 ≡ b.0 = ready.holds.single a.0 b.0 a.1 b.1 ((as_held a.0 h₁ a.2).0 ∙ (e ∙ sym (as_held b.0 h₂ b.2).0)) in
        one_only b.0 h₁ h₂ (subst (λ (h : Holding). IsFor h h₁) same a.2) b.2
      where
        one_only : (h h₁ h₂ : Holding) → IsFor h h₁ → IsFor h h₂ → h₁ ≡ h₂
        one_only h h₁ h₂ a b = ⊎_elim
            (λ (x : (h.cell ≡ worn.cell) × (first ≡ true) × (h₁ ≡ record h { new = with_puts 0 c.puts.items h.old })). ⊎_elim
            (λ (y : (h.cell ≡ worn.cell) × (first ≡ true) × (h₂ ≡ record h { new = with_puts 0 c.puts.items h.old })). x.2 ∙ sym y.2)
            (λ (y : (h.cell ≢ worn.cell) × (h₂ ≡ h)). absurd (y.0 x.0)) b.2)
            (λ (x : (h.cell ≢ worn.cell) × (h₁ ≡ h)). ⊎_elim
            (λ (y : (h.cell ≡ worn.cell) × (first ≡ true) × (h₂ ≡ record h { new = with_puts 0 c.puts.items h.old })). absurd (x.0 y.0))
            (λ (y : (h.cell ≢ worn.cell) × (h₂ ≡ h)). x.1 ∙ sym y.1) b.2) a.2

    -- ---- so the change alone is ready

    -- the puts of a lower target are those of before
    lower_puts : (i : ℕ) (ws : List ℕ) → IsLower first i → with_puts (lower first i) c'.puts.items ws ≡ with_puts i c.puts.items ws
    lower_puts i ws low =
        with_puts-append (lower first i) (puts_of 0 writes) (filter_map (moved_put first) c.puts.items) ws
        ∙ (ap (with_puts (lower first i) (filter_map (moved_put first) c.puts.items)) (none (lower first i) writes ws (let high = lower_high first i low in (λ e. omega (arith, e, high))))
        ∙ with_moved first c.puts.items i ws low)
      where
        none : (j : ℕ) (xs : List Write) (ws : List ℕ) → j ≢ 0 → with_puts j (puts_of 0 xs) ws ≡ ws
        none j xs ws other = Rattle.art_plan.proofs.PutWords.with_puts-other j 0 xs ws (λ e. other (sym e))

    lower_locked : (i : ℕ) (x : Target) (h : Holding) → IsLower first i → IsLocked u (lower first i) x c'.puts.items h → IsLocked u i x c.puts.items h
    lower_locked i x h low o = record {
      cell = o.cell;
      stamped = o.stamped;
      long = o.long;
      version = o.version;
      agrees = o.agrees;
      apart = o.apart;
      new = o.new ∙ lower_puts i h.old low;
    }

    -- the worn node as it is held for the change alone, where that writes it
    abbrev worn_one : Holding
    worn_one = record held_worn.0 { new = with_puts 0 c.puts.items held_worn.0.old }

    worn_not_above : held_worn.0.cell ≢ above.cell
    worn_not_above e = above_not_worn (sym e ∙ held_worn.2.cell)

    worn_not_copy : held_worn.0.cell ≢ cell.Node m
    worn_not_copy = not_locked 1 (gone worn) c'.puts.items held_worn.0 m held_worn.2 copy_hand

    worn_in : first ≡ true → Member worn_one hs
    worn_in e = held_one.each held_worn.0 worn_one held_worn.1 (worn_not_above, worn_not_copy, inl (held_worn.2.cell, e, refl))

    worn_locked : IsLocked u 0 (kept worn) c.puts.items worn_one
    worn_locked = let o = held_worn.2 in record { cell = o.cell; stamped = o.stamped; long = o.long; version = o.version; agrees = o.agrees; apart = o.apart; new = refl }

    one_each : (i : ℕ) (x : Target) → 0 ≤ i → i < targets c → target_at c i ≡ Some x → (h : Holding) × Member h hs × IsLocked u i x c.puts.items h
    one_each i x low high is = ⊎_elim
        (λ (o : IsWornTarget i x).
        (worn_one, worn_in o.0, subst (λ (y : Target). IsLocked u i y c.puts.items worn_one) (sym o.2) (subst (λ (j : ℕ). IsLocked u j (kept worn) c.puts.items worn_one) (sym o.1) worn_locked)))
        (λ (o : IsLower first i × (x.stamp.cell ≢ worn.cell)).
        let at = at_lower i x o.0 is in
        let h = ready.holds.each (lower first i) x (omega arith) (slice_get_within c'.targets.items (lower first i) x at) at in
        let lock = h.2 in
        (h.0, same_for h.0 h.1 (λ e. r.above i x is (sym lock.cell ∙ e)) (not_locked (lower first i) x c'.puts.items h.0 m lock copy_hand) (λ e. o.1 (sym lock.cell ∙ e)), lower_locked i x h.0 o.0 lock))
        (each_target i x is)

    new_for : (o : Node) (h : Holding) → Member h v.held → node_made c ≡ Some o → h.cell ≡ cell.Node o → Member h hs
    new_for o h i made is =
        let hand = (r.planned.new o made).hand in
        same_for h i
        (λ e. not_locked 0 (kept above) c'.puts.items held_above.0 o held_above.2 hand (held_above.2.cell ∙ (sym e ∙ is)))
        (λ e. let same : o ≡ m = (let a : cell.Node o ≡ cell.Node m = sym is ∙ e in cc) in r.other (made ∙ ap Some same))
        (λ e. not_locked 1 (gone worn) c'.puts.items held_worn.0 o held_worn.2 hand (held_worn.2.cell ∙ (sym e ∙ is)))

    one_new : (o : Node) → node_made c ≡ Some o → 0 < filled_end c → (h : Holding) × Member h hs × IsFilled u c o (filled_end c) h
    one_new o made some =
        let h = ready.holds.new false o made some in
        let f = h.2 in
        (h.0, new_for o h.0 h.1 made f.cell, record { cell = f.cell; stamped = f.stamped; long = f.long; version = f.version; apart = f.apart; words = f.words })

    one_only : (h₁ : Holding) → Member h₁ hs → IsTarget u c 0 (targets c) c.puts.items h₁ ⊎ IsNew u c (filled_end c) h₁
    one_only h₁ i =
        let o = held_one.from h₁ i in
        ⊎_elim (of_target o.0 o.1 o.2) (of_new o.0 o.2) (ready.holds.only o.0 o.1)
      where
        of_target : (h : Holding) → Member h v.held → IsFor h h₁ → IsTarget u c' 0 (targets c') c'.puts.items h → IsTarget u c 0 (targets c) c.puts.items h₁ ⊎ IsNew u c (filled_end c) h₁
        of_target h j o t = ⊎_elim
            (λ (a : (t.index ≡ 0) × (kept above ≡ t.target)). absurd (o.0 (t.locked.cell ∙ ap (λ (q : Target). q.stamp.cell) (sym a.1))))
            (⊎_elim
            (λ (a : (t.index ≡ 1) × (gone worn ≡ t.target)).
            let at : h.cell ≡ worn.cell = t.locked.cell ∙ ap (λ (q : Target). q.stamp.cell) (sym a.1) in
            ⊎_elim
            (λ (b : (h.cell ≡ worn.cell) × (first ≡ true) × (h₁ ≡ record h { new = with_puts 0 c.puts.items h.old })).
            let one : IsFirst true c worn = subst (λ (f : Bool). IsFirst f c worn) b.1 r.first_is in
            let same : h ≡ held_worn.0 = ready.holds.single h held_worn.0 j held_worn.1 (at ∙ sym held_worn.2.cell) in
            let is : h₁ ≡ worn_one = b.2 ∙ ap (λ (y : Holding). record y { new = with_puts 0 c.puts.items y.old }) same in
            inl (record {
              index = 0;
              target = kept worn;
              is = one;
              above = omega arith;
              below = slice_get_within c.targets.items 0 (kept worn) one;
              locked = subst (IsLocked u 0 (kept worn) c.puts.items) (sym is) worn_locked;
            }))
            (λ (b : (h.cell ≢ worn.cell) × (h₁ ≡ h)). absurd (b.0 at)) o.2)
            (λ (a : (i : ℕ) × (t.index ≡ lower first i) × IsLower first i × (target_at c i ≡ Some t.target)).
            ⊎_elim
            (λ (b : (h.cell ≡ worn.cell) × (first ≡ true) × (h₁ ≡ record h { new = with_puts 0 c.puts.items h.old })). absurd (lower_not_worn a.0 t.target a.2 a.3 (sym t.locked.cell ∙ b.0)))
            (λ (b : (h.cell ≢ worn.cell) × (h₁ ≡ h)).
            inl (record {
              index = a.0;
              target = t.target;
              is = a.3;
              above = omega arith;
              below = slice_get_within c.targets.items a.0 t.target a.3;
              locked = subst (IsLocked u a.0 t.target c.puts.items) (sym b.1) (lower_locked a.0 t.target h a.2 (subst (λ (j : ℕ). IsLocked u j t.target c'.puts.items h) a.1 t.locked));
            })) o.2))
            (one_target t.index t.target t.is)

        by_which : (b : Bool) (h : Holding) (o : Node) → IsFor h h₁ → made_at b c' ≡ Some o → 0 < filled_ends c' b → IsFilledBy u (made_word b c') o (filled_ends c' b) h → IsTarget u c 0 (targets c) c.puts.items h₁ ⊎ IsNew u c (filled_end c) h₁
        by_which true h o f made some filled = absurd (f.1 (filled.cell ∙ ap cell.Node (sym (same_Some m o made))))
        by_which false h o f made some filled = ⊎_elim
            (λ (b : (h.cell ≡ worn.cell) × (first ≡ true) × (h₁ ≡ record h { new = with_puts 0 c.puts.items h.old })).
            absurd (not_locked 1 (gone worn) c'.puts.items held_worn.0 o held_worn.2 (r.planned.new o made).hand (held_worn.2.cell ∙ (sym b.0 ∙ filled.cell))))
            (λ (b : (h.cell ≢ worn.cell) × (h₁ ≡ h)).
            inr (record {
              made = o;
              is = made;
              some = some;
              filled_up = subst (IsFilled u c o (filled_end c)) (sym b.1) (record { cell = filled.cell; stamped = filled.stamped; long = filled.long; version = filled.version; apart = filled.apart; words = filled.words });
            })) f.2

        of_new : (h : Holding) → IsFor h h₁ → IsNewBy u c' (filled_ends c') h → IsTarget u c 0 (targets c) c.puts.items h₁ ⊎ IsNew u c (filled_end c) h₁
        of_new h f o = by_which o.which h o.made f o.is o.some o.filled_up

    one_ready : IsReady u c (for_change v hs)
    one_ready = record {
      same = record { rest = ready.same.rest; stamps = ready.same.stamps; notes = ready.same.notes; failures = ready.same.failures };
      holds = record { each = one_each; new = one_new; only = one_only; single = single };
    }

    -- ---- the change and the renewal

    abbrev x : Place
    x = site_place z u k depth (Some (node n)) site r.place.place

    at_x : cell_of x ≡ above.cell
    at_x = site_cell z u k depth (Some (node n)) site r.place.place

    x_free : IsNotHeld hs (cell_of x)
    x_free h i e = not_above h i (e ∙ at_x)

    -- the words of the worn node after the change alone
    abbrev ns : List ℕ
    ns = worn_words first c held_worn.0.old

    worn_was : SameFirst (size n.layout) held_worn.0.old below.body.now.words
    worn_was i low = words_held z u worn n below.body.now r.place.read 1 (gone worn) c'.puts.items held_worn.0 refl held_worn.2 i (subst (λ (l : Layout). i < size l) (sym r.place.read.layout) low)

    worn_now : SameFirst (size n.layout) ns twin.body.words
    worn_now = twin_from held_worn.0.old (held_worn.2.long ∙ ap size_of at_worn) worn_was

    beside : IsBeside v hs n m x held_worn.0 held_copy.0 held_above.0 ns held_above.0.old
    beside = record {
      worn_held = held_worn.1;
      worn_is = worn_cell;
      worn_stamped = (worn.version, held_worn.2.stamped);
      worn_words = λ h₁ i e.
          let o = held_one.from h₁ i in
          let at : o.0.cell ≡ worn.cell = (as_held o.0 h₁ o.2).0 ∙ (e ∙ sym at_worn) in
          ⊎_elim
          (λ (b : (o.0.cell ≡ worn.cell) × (first ≡ true) × (h₁ ≡ record o.0 { new = with_puts 0 c.puts.items o.0.old })).
          let same : o.0 ≡ held_worn.0 = ready.holds.single o.0 held_worn.0 o.1 held_worn.1 (at ∙ sym held_worn.2.cell) in
          ap (λ (y : Holding). y.new) b.2 ∙ (ap (λ (y : Holding). with_puts 0 c.puts.items y.old) same ∙ ap (λ (f : Bool). worn_words f c held_worn.0.old) (sym b.1)))
          (λ (b : (o.0.cell ≢ worn.cell) × (h₁ ≡ o.0)). absurd (b.0 at)) o.2.2;
      worn_rests = λ free. rests free first refl;
      copy_held = held_copy.1;
      copy_is = held_copy.2.cell;
      above_held = held_above.1;
      above_is = held_above.2.cell ∙ sym at_x;
      above_claimed = λ e. let a : Some above.version ≡ None = sym held_above.2.stamped ∙ e in absurd (cc);
      above_words = λ h₁ i e. absurd (x_free h₁ i e);
      above_rests = λ free. refl;
      single = single;
      part = part;
      rest = λ h i. rest h i (for_one h);
      stays = λ h₁ h i j e not_n not_x.
          let o = held_one.from h₁ i in
          ⊎_elim
          (λ (b : (o.0.cell ≡ worn.cell) × (first ≡ true) × (h₁ ≡ record o.0 { new = with_puts 0 c.puts.items o.0.old })). absurd (not_n (sym (as_held o.0 h₁ o.2).0 ∙ (b.0 ∙ at_worn))))
          (λ (b : (o.0.cell ≢ worn.cell) × (h₁ ≡ o.0)).
          ap (λ (y : Holding). y.new) (b.1 ∙ ready.holds.single o.0 h o.1 j ((as_held o.0 h₁ o.2).0 ∙ e))) o.2.2;
      apart = λ e. worn_not_copy (worn_cell ∙ ap cell.Node e);
      not_copy = not_copy;
      above_apart = λ e. above_not_worn (sym at_x ∙ (e ∙ sym at_worn));
      above_other = λ e. not_locked 0 (kept above) c'.puts.items held_above.0 m held_above.2 copy_hand (held_above.2.cell ∙ (sym at_x ∙ e));
    }
      where
        rests : IsNotHeld hs (cell.Node n) → (b : Bool) → first ≡ b → ns ≡ held_worn.0.old
        rests free true e = absurd (free worn_one (worn_in e) worn_cell)
        rests free false e = ap (λ (f : Bool). worn_words f c held_worn.0.old) e

        rest : (h : Holding) → Member h v.held → GivesOne IsFor h ⊎ GivesNone IsFor h → IsHeldAs hs h ⊎ ((h ≡ held_worn.0) ⊎ ((h ≡ held_copy.0) ⊎ (h ≡ held_above.0)))
        rest h i gives = ⊎_elim
            (λ (e : h.cell ≡ above.cell). inr (inr (inr (ready.holds.single h held_above.0 i held_above.1 (e ∙ sym held_above.2.cell)))))
            (λ (not_above : h.cell ≢ above.cell). ⊎_elim
            (λ (e : h.cell ≡ cell.Node m). inr (inr (inl (ready.holds.single h held_copy.0 i held_copy.1 (e ∙ sym held_copy.2.cell)))))
            (λ (not_copy : h.cell ≢ cell.Node m). ⊎_elim
            (λ (e : h.cell ≡ worn.cell). inr (inl (ready.holds.single h held_worn.0 i held_worn.1 (e ∙ sym held_worn.2.cell))))
            (λ (f : h.cell ≢ worn.cell). inl (record { holding = h; has = same_for h i not_above not_copy f; cell = refl; stamped = refl; old = refl }))
            (same_cell h.cell worn.cell))
            (same_cell h.cell (cell.Node m)))
            (same_cell h.cell above.cell)

    same_hand : v.hand ≡ u.hand
    same_hand = ap (λ (y : Rest). y.hand) ready.same.rest

    has_copy : HasNode z v m
    has_copy = record { hand = r.hand.hand; has = subst (Member r.hand.hand) (sym same_hand) r.hand.has; link = r.hand.link; number = r.hand.number; fits = r.hand.fits }

    -- the puts of the cell above are those that name the copy
    above_puts : (ws : List ℕ) → with_puts 0 c'.puts.items ws ≡ with_puts 0 (puts_of 0 writes) ws
    above_puts ws = with_puts-append 0 (puts_of 0 writes) (filter_map (moved_put first) c.puts.items) ws ∙ with_none_moved first c.puts.items 0 (with_puts 0 (puts_of 0 writes) ws) (omega arith)

    writes_copy : WritesCopy n m x held_copy.0 held_above.0 ns held_above.0.old
    writes_copy = record {
      put = λ t s' old new. site_put z u k depth (Some (node n)) site r.place.place (node m) writes (taken_meaning site r.taken) r.put 0 c'.puts.items held_above.0 held_above.2 t s' old
          (new ∙ ap words_in (held_above.2.new ∙ above_puts held_above.0.old));
      made = λ meaning.
          let f = held_copy.2 in
          node_within m.layout (words_in ns) (words_in held_copy.0.new) (node_prefix (words_in ns)) (child_of n.layout (words_in ns))
          (λ i low high. f.words i low high ∙ sym (worn_now i (subst (λ (l : Layout). i < size l) r.layout high)))
          (λ i o. ⊎_elim
          (λ (e : i ≡ 0). ap (words_in held_copy.0.new) e ∙ f.version)
          (λ (high : size m.layout ≤ i). past_end held_copy.0.new (size m.layout) i f.long high) o)
          (node_of meaning);
    }
      where
        node_of : IsBody n.layout (words_in ns) → IsNodeOf m.layout (words_in ns) (node_prefix (words_in ns)) (child_of n.layout (words_in ns))
        node_of meaning = subst (λ (l : Layout). IsNodeOf l (words_in ns) (node_prefix (words_in ns)) (child_of n.layout (words_in ns))) (sym r.layout) (record {
          body = meaning;
          prefix = sym (Rattle.art_plan.proofs.MadeNodes.node_prefix_is n.layout (words_in ns) meaning);
          children = λ b low. refl;
        })

    -- the site has the worn node, in each tree that is as the pass knows it
    named : (s : Cells) → IsShape z s → Knows v s → Names s x n
    named s shape knows =
        let so = shows_held z v above (HasAt x (take depth k) (Some (node n))) s held_above.0 shape knows held_above.1 held_above.2.cell held_above.2.stamped
        (shows_same z u v above (HasAt x (take depth k) (Some (node n))) ready.same.notes (site_shows z u k depth (Some (node n)) site r.place.place)) in
        record { path = take depth k; at = so.0; names = so.1 }

    worn_linked : (s : Cells) → IsShape z s → Knows v s → IsLinked s (node n)
    worn_linked s shape knows = let o = named s shape knows in (o.path, at_place (heap_of s) x (node n) o.path o.at o.names)

    copy_not_come : Member (node m) (commit.coming (for_change v hs) (leaf_linked c)) → ⊥
    copy_not_come i = ⊎_elim
        (λ (e : leaf_linked c ≡ Some (node m)). no_leaf c.effects.leaf e)
        (λ (o : (a : Node) × (node m ≡ node a) × IsClaimed (for_change v hs) a). let same : m ≡ o.0 = (let e = o.1 in cc) in not_copy o.2.0 o.2.1 (o.2.3 ∙ ap cell.Node (sym same)))
        ((claimed_nodes_come (for_change v hs) (leaf_linked c) (node m)).0 i)
      where
        no_leaf : (l : Option ℕ) → Rattle.std.specs.Option.option_map leaf l ≡ Some (node m) → ⊥
        no_leaf None e = cc
        no_leaf (Some l) e = cc

    -- what comes by both is what the change brings, and the copy
    comes : SameMembers (commit.coming (for_change v hs) (leaf_linked c) ++ node m ∷ []) (commit.coming v (leaf_linked c))
    comes d = (
      (λ i. (claimed_nodes_come v (leaf_linked c) d).1 (⊎_elim
          (λ (j : Member d (commit.coming (for_change v hs) (leaf_linked c))). ⊎_elim
          (λ (e : leaf_linked c ≡ Some d). inl e)
          (λ (o : (a : Node) × (d ≡ node a) × IsClaimed (for_change v hs) a).
          let h = part o.2.0 o.2.1 in
          inr (o.0, o.1, (h.holding, h.has, h.stamped ∙ o.2.2, h.cell ∙ o.2.3)))
          ((claimed_nodes_come (for_change v hs) (leaf_linked c) d).0 j))
          (⊎_elim
          (λ (e : d ≡ node m). inr (m, e, (held_copy.0, held_copy.1, held_copy.2.stamped, held_copy.2.cell)))
          (λ (none : ⊥). absurd none))
          (member_append d (commit.coming (for_change v hs) (leaf_linked c)) (node m ∷ []) i))),
      (λ i. ⊎_elim
          (λ (e : leaf_linked c ≡ Some d). member_front d (commit.coming (for_change v hs) (leaf_linked c)) (node m ∷ []) ((claimed_nodes_come (for_change v hs) (leaf_linked c) d).1 (inl e)))
          (λ (o : (a : Node) × (d ≡ node a) × IsClaimed v a). of_claimed o.0 o.1 o.2.0 o.2.1 o.2.2 o.2.3 (ready.holds.only o.2.0 o.2.1))
          ((claimed_nodes_come v (leaf_linked c) d).0 i)),
    )
      where
        of_new : (b : Bool) (a o : Node) (h : Holding) → d ≡ node a → Member h v.held → h.stamped ≡ None → h.cell ≡ cell.Node a → made_at b c' ≡ Some o → h.cell ≡ cell.Node o
            → Member d (commit.coming (for_change v hs) (leaf_linked c) ++ node m ∷ [])
        of_new true a o h e i free is made at =
            let same : a ≡ m = (let f : cell.Node a ≡ cell.Node m = sym is ∙ (at ∙ ap cell.Node (sym (same_Some m o made))) in cc) in
            member_back d (commit.coming (for_change v hs) (leaf_linked c)) (node m ∷ []) (inl (e ∙ ap node same))
        of_new false a o h e i free is made at =
            member_front d (commit.coming (for_change v hs) (leaf_linked c)) (node m ∷ [])
            ((claimed_nodes_come (for_change v hs) (leaf_linked c) d).1 (inr (a, e, (h, new_for o h i made at, free, is))))

        of_claimed : (a : Node) → d ≡ node a → (h : Holding) → Member h v.held → h.stamped ≡ None → h.cell ≡ cell.Node a → IsTarget u c' 0 (targets c') c'.puts.items h ⊎ IsNewBy u c' (filled_ends c') h
            → Member d (commit.coming (for_change v hs) (leaf_linked c) ++ node m ∷ [])
        of_claimed a e h i free is (inl t) = let no : None ≡ Some t.target.stamp.version = sym free ∙ t.locked.stamped in absurd (cc)
        of_claimed a e h i free is (inr o) = of_new o.which a o.made h e i free is o.is o.filled_up.cell

    may : commit.May z v c.effects.deed (unlinked c') (commit.coming v (leaf_linked c))
    may s s' shape knows new =
        let us = unlinked c ++ node n ∷ [] in
        let done = may_renew z v c.effects.deed (unlinked c) (commit.coming (for_change v hs) (leaf_linked c)) hs n m x held_worn.0 held_copy.0 held_above.0 ns held_above.0.old beside has_copy writes_copy copy_not_come worn_linked
        (λ s t shape knows new first_done. stays_named z v c.effects.deed (unlinked c) (commit.coming (for_change v hs) (leaf_linked c)) hs n x s t x_free (named s shape knows) new first_done)
        (r.planned.may (for_change v hs) one_ready) s s' shape knows new in
        subst (λ (ds : List Link). Commits z v c.effects.deed ds (commit.coming v (leaf_linked c)) s s') (sym goes_more)
        (same_commits z v c.effects.deed us us (commit.coming (for_change v hs) (leaf_linked c) ++ node m ∷ []) (commit.coming v (leaf_linked c)) s s' (λ d. ((λ i. i), (λ i. i))) done.once comes done)

  pub renewed_whole : IsWhole z u (renewed first (site_stamp site) writes below.stamp below.node twin c)
  renewed_whole = record {
    some = omega arith;
    each = each;
    apart = apart;
    puts = puts_may;
    new = makes;
    two = two;
    words = words_are;
    obsolete = obsolete;
    gone = gone_is;
    may = may;
  }
