-- From stage to stage: what a look knows after a step, from what it knew before it.
use Rattle.std.proofs.Common.{◌≡◌, ◌⊎◌, ℕ, ◌+◌, ◌*◌, ◌/◌, ◌%◌, ◌<◌, ◌≤◌, true, false, List, [], ◌∷◌, ◌++◌, length, take, map, Option, Some, None, inl, inr, refl, sym, ap, ◌∙◌, subst, arith, length-append, append-nil}
use Rattle.std.specs.Prelude.{Ok, ◌==◌}
use Rattle.std.specs.List.{range_with_len}
use Rattle.std.proofs.Math.Seq.{take-length}
use Rattle.std.proofs.lemmas.Bool.{cases_Bool, cases_lt, eqb-false, eqb-true, true≢false}
use Rattle.std.proofs.lemmas.List.{take-append-le}
use Rattle.std.proofs.lemmas.List.FromFn.{length-map-range_with_len}
use Rattle.std.proofs.lemmas.Option.{none-some, same_Some}
use Rattle.art_cell.specs.declared.cells.Cell.{Cell}
use Rattle.art_cell.specs.declared.cells.Cell.TheVariants as cell
use Rattle.art_cell.specs.declared.cells.Link.{Link}
use Rattle.art_cell.specs.declared.cells.Link.TheVariants.{Leaf as leaf, Node as node}
use Rattle.art_cell.specs.declared.cells.Node.{Node}
use Rattle.art_cell.specs.declared.cells.Layout.{Layout}
use Rattle.art_cell.specs.declared.cells.Layout.TheVariants.{Node4, Node16, Node48, Node256}
use Rattle.art_cell.specs.Bodies.{IsBody}
use Rattle.art_cell.specs.Children.{link_of}
use Rattle.art_cell.specs.Lemmas.Entries.{nonzero_some}
use Rattle.art_cell.specs.Reads.{NoneFrom}
use Rattle.art_cell.specs.Words.{Words, byte_of, child_of, nonzero, packed, size}
use Rattle.art_find.specs.Asking.{WantsCheck, WantsVersion}
use Rattle.art_step.specs.Acting.{Answers, telling}
use Rattle.art_find.specs.Descents.{IsAbove, IsOn, IsReading, WasNoted}
use Rattle.art_find.specs.Ways.{count_in}
use Rattle.art_step.specs.declared.actions.Answer.{Answer}
use Rattle.art_step.specs.declared.actions.Action.{Action}
use Rattle.art_step.specs.declared.actions.Action.TheVariants.{Settle}
use Rattle.art_find.specs.declared.descents.LeafSeen.{LeafSeen}
use Rattle.art_find.specs.declared.descents.NodeSeen.{NodeSeen}
use Rattle.art_find.proofs.Keeping.{anchor_path, path_passed}
use Rattle.art_find.proofs.Stages.{begun_names, note_names, passed_names, reads_on, still_named}
use Rattle.art_key.specs.Bounds.{is_before}
use Rattle.art_key.specs.declared.bounds.Bound.{Bound as KeyBound}
use Rattle.art_look.specs.Driven.{IsSeen, LookEnds}
use Rattle.art_look.specs.Fronts.{IsFront, IsLow, IsPast, is_within, low_at}
use Rattle.art_look.specs.Looks.{IsNamed, IsOnWay, IsSought, Settles, StageFits, asks, deed_at, has_ended, next_child, seen_at, stage_below, stage_past, staged}
use Rattle.art_look.specs.Seen.{bound_at, look_done, nearer, seen_of, with_key}
use Rattle.art_look.specs.Table.{HasNode, IsBefore, IsLeast, IsRow, end_at}
use Rattle.art_look.specs.PathBuffers.{HasFirst, HasFirstValue, Leads, SeeksChild, SpellsKey, SpellsPath, SpellsPrefix}
use Rattle.art_look.specs.declared.fronts.Front.{Front}
use Rattle.art_look.specs.declared.fronts.Front.TheVariants.{Within, Beyond}
use Rattle.art_look.specs.declared.looks.ChildSought.{ChildSought}
use Rattle.art_look.specs.declared.looks.LookStage.{LookStage}
use Rattle.art_look.specs.declared.looks.LookStage.TheVariants.{Start, Anchor, Child, Below, Both, Header, Prefix, Keys, Slot, Value, Length, Bytes, Decided, Ended}
use Rattle.art_look.specs.declared.looks.Reach.{Reach}
use Rattle.art_look.specs.declared.looks.Reach.TheVariants.{Past, UpTo}
use Rattle.art_look.specs.declared.looks.Seen.{Seen}
use Rattle.art_look.specs.declared.path_buffers.PathBuffer.{PathBuffer}
use Rattle.art_look.proofs.Ends.{front_low, not_past, not_within_apart}
use Rattle.art_look.proofs.Table.{bound_back, nearer_below, row_goes_on, row_is_exact}
use Rattle.art_look.proofs.Spelling.{spelled_on, word_on}
use Rattle.art_node.specs.Searches.{IsOccupied, SoughtFromTells}
use Rattle.art_node.specs.declared.searches.SoughtFrom.{SoughtFrom}
use Rattle.art_node.specs.declared.searches.SoughtFrom.TheVariants as next
use Rattle.art_node.proofs.ChildWords.{nonzero_link}
use Rattle.art_step.specs.Deeds.{bound_of}
use Rattle.art_step.specs.Events.{MakesEvent}
use Rattle.art_step.specs.Histories.{OnlyRow}
use Rattle.art_step.specs.Knowledge.{IsShape, NamesCell}
use Rattle.art_step.specs.Shows.{HasChild, HasStamp, Shows}
use Rattle.art_step.specs.Steps.Begin as begin
use Rattle.art_step.specs.Steps.Check as check
use Rattle.art_step.specs.declared.views.Sizes.{Sizes}
use Rattle.art_step.specs.declared.views.Stamp.{Stamp}
use Rattle.art_step.specs.declared.views.View.{View}
use Rattle.art_step.proofs.Shows.{begun_others, begun_rest, begun_shows, begun_stamp, child_on, key_on, passed_number, passed_path, passed_rest, passed_shows, passed_so, passed_stamp, prefix_on, root_child, told_rest, value_on}
use Rattle.art_tree.specs.Heaps.{Cells, heap_of}
use Rattle.art_tree.specs.Looks.{AreBytes, Before, IsBelow, NoChildFrom}
use Rattle.art_tree.specs.Rows.{ByteMap, HasRows}
use Rattle.art_tree.specs.Tree.{Begins, StandsAt, down, path_past}
use Rattle.art_tree.proofs.ByteTexts.{child_byte}
use Rattle.art_tree.proofs.Meanings.{words_mean}

-- ---- a cell was checked

module _ (z : Sizes) (lo : List ℕ) (hi : KeyBound) (depth : ℕ) (t : PathBuffer) (u v w : View) where
  abbrev q : List ℕ
  q = t.path.items

  leaf_leads : (x : Stamp) (l : ℕ) → Shows z v x (λ s. HasFirst s x.cell lo q l) → Shows z v x (λ s. HasChild s x.cell (leaf l) q)
  leaf_leads x l shows s shape holds = (shows s shape holds).child

  named_on : (x y : Stamp) (d : Link) → IsNamed z lo depth x d q v → check.Unchanged z v w y None → IsNamed z lo depth x d q w
  named_on x y d named p = record {
    stamp = passed_stamp z v w y x None p named.stamp;
    long = named.long;
    few = named.few;
    front = named.front;
    noted = still_named z v w x y None d named.noted p;
    shows = passed_shows z v w y x None _ p named.shows;
  }

  pub link_fits : (x : Stamp) (d : Link) → StageFits z lo hi depth (Child x d) t u v → check.Unchanged z v w x None → StageFits z lo hi depth (stage_below x d) t u w
  link_fits x (leaf l) fits p = (
    record {
      reads = reads_on u v w (passed_rest z v w x p) fits.0;
      stamp = passed_stamp z v w x x None p fits.1.stamp;
      inside = passed_number z v w x None (leaf l) q p (leaf_leads x l fits.1.shows);
      checked = passed_names z v w x None (leaf l) fits.1.noted p;
    },
    fits.1.few,
    passed_shows z v w x x None _ p fits.1.shows,
  )
  link_fits x (node n) fits p = (
    reads_on u v w (passed_rest z v w x p) fits.0,
    named_on x x (node n) fits.1 p,
    passed_number z v w x None (node n) q p fits.1.shows,
  )

  pub header_fits : (x y : Stamp) (n : Node) → StageFits z lo hi depth (Both x y n) t u v → check.Unchanged z v w x None → StageFits z lo hi depth (Header y n) t u w
  header_fits x y n fits p = (
    record {
      reads = reads_on u v w (passed_rest z v w x p) fits.0.reads;
      stamp = passed_stamp z v w x y None p fits.0.stamp;
      cell = fits.0.cell;
      path = (q, path_passed z v w x y None n q p fits.0.stamp.stamp fits.0.cell fits.1.shows);
    },
    record {
      long = fits.1.long;
      few = fits.1.few;
      front = fits.1.front;
      shows = passed_path z v w x y None n q p fits.0.stamp.stamp fits.0.cell fits.1.shows;
    },
  )

  pub ended_fits : (x : Stamp) (r : Reach) (o : Option ℕ) → StageFits z lo hi depth (Decided x r o) t u v → check.Unchanged z v w x (Some (look_done (seen_of lo hi q t.key.items r o))) → StageFits z lo hi depth (Ended r o) t u w
  ended_fits x r o fits p =
      let told = told_rest z u v w x _ fits.0.only p in
      let so = passed_so z v w x (Some (look_done (seen_of lo hi q t.key.items r o))) (λ s. IsRow (heap_of s) lo q r (with_key t.key.items o)) p fits.3 in
      (told.0, told.1, record { cells = so.0; shape = so.1; row = so.2 }, fits.1)

  -- ---- a version word was clear

  pub anchor_fits : (x : Stamp) → IsReading u v → begin.Outcome z v w cell.Anchor (Ok x) → StageFits z lo hi depth (Anchor x) t u w
  anchor_fits x reads row = (
    reads_on u v w (begun_rest z v w cell.Anchor x.version row.2) reads,
    begun_stamp z v w cell.Anchor x row.0 row.1 row.2 tt,
    ap (λ (a : Stamp). a.cell) row.0,
    anchor_path z v w x x.version row.0 row.1 row.2,
  )

  pub both_fits : (x y : Stamp) (n : Node) → StageFits z lo hi depth (Below x n) t u v → begin.Outcome z v w (cell.Node n) (Ok y) → StageFits z lo hi depth (Both x y n) t u w
  both_fits x y n fits row =
      let named = fits.1 in (
        record {
          reads = reads_on u v w (begun_rest z v w (cell.Node n) y.version row.2) fits.0;
          stamp = begun_stamp z v w (cell.Node n) y row.0 row.1 row.2 fits.2;
          cell = ap (λ (a : Stamp). a.cell) row.0;
        },
        record {
          stamp = begun_others z v w (cell.Node n) y.version x row.1 row.2 named.stamp;
          long = named.long;
          few = named.few;
          front = named.front;
          noted = begun_names z v w x y n (node n) named.noted row;
          shows = begun_shows z v w (cell.Node n) y.version x _ row.1 row.2 named.shows;
        },
      )

-- ---- the word of the anchor

module _ (z : Sizes) (lo : List ℕ) (hi : KeyBound) (t : PathBuffer) (u w : View) (x : Stamp) (at_front : t.path.items ≡ []) (reads : IsReading u w) (stamp : HasStamp z w x) (word : ℕ) (shows : Shows z w x (λ s. s cell.Anchor 1 ≡ word)) where
  root_is : (s : Cells) (o : Option Link) → s cell.Anchor 1 ≡ word → link_of word ≡ o → (heap_of s).root ≡ o
  root_is s o is names = (words_mean s).root ∙ ap link_of is ∙ names

  root_leads : (s : Cells) (d : Link) → s cell.Anchor 1 ≡ word → link_of word ≡ Some d → Leads s cell.Anchor lo [] d
  root_leads s (leaf l) is names = record { child = root_child s word (leaf l) is names; first = inl (root_is s (Some (leaf l)) is names, refl) }
  root_leads s (node n) is names = root_child s word (node n) is names

  on_way : (d : Link) → IsOnWay lo [] d
  on_way (leaf l) = tt
  on_way (node n) = (lo, refl)

  pub root_fits : (d : Link) → x.cell ≡ cell.Anchor → WasNoted w x word → link_of word ≡ Some d → StageFits z lo hi 0 (Child x d) t u w
  root_fits d at noted names = (
    reads,
    record {
      stamp = stamp;
      long = ap length at_front;
      few = omega arith;
      front = subst (λ (p : List ℕ). IsOnWay lo p d) (sym at_front) (on_way d);
      noted = note_names w x word d noted names;
      shows = λ s shape holds. subst (λ (c : Cell). Leads s c lo t.path.items d) (sym at) (subst (λ (p : List ℕ). Leads s cell.Anchor lo p d) (sym at_front) (root_leads s d (shows s shape holds) names));
    },
  )

  pub no_root_fits : link_of word ≡ None → StageFits z lo hi 0 (Decided x Past None) t u w
  no_root_fits none = (reads, omega arith, stamp, λ s shape holds. inl (root_is s None (shows s shape holds) none, at_front))

-- ---- the words of a node

or_none : (o : Option Link) → ((d : Link) → o ≡ Some d → ⊥) → o ≡ None
or_none None never = refl
or_none (Some d) never = absurd (never d refl)

module _ (z : Sizes) (s : Cells) (n : Node) (r : List ℕ) (header : ℕ) (shape : IsShape z s) (at : StandsAt (heap_of s) (node n) r) (is_header : s (cell.Node n) 1 ≡ header) where
  prefix_counted : (heap_of s).prefix n ≡ map (packed (s (cell.Node n)) 2) (range_with_len 0 (count_in header))
  prefix_counted = prefix_on z s n r shape at ∙ ap (λ (x : ℕ). map (packed (s (cell.Node n)) 2) (range_with_len 0 (x / 512 % 128))) is_header

  -- its path with its prefix is shorter than a key can be
  pub not_torn : length r + count_in header < 64
  not_torn =
      let len : length ((heap_of s).prefix n) ≡ count_in header = ap length prefix_counted ∙ length-map-range_with_len (packed (s (cell.Node n)) 2) 0 (count_in header) in
      let short = shape.tree.short n r at in
      omega (arith, len, short)

  pub whole_spelled : (q : List ℕ) → q ≡ r ++ map (packed (s (cell.Node n)) 2) (range_with_len 0 (count_in header)) → SpellsPath s n r header q
  whole_spelled q is = record { at = at; is_header = is_header; spelled = is ∙ ap (λ (l : List ℕ). r ++ l) (sym prefix_counted) }

  pub body_is : IsBody n.layout (s (cell.Node n))
  body_is = (shape.nodes n r at).body

  -- a byte with no child word has no child
  free_at : (b : ℕ) → b < 256 → child_of n.layout (s (cell.Node n)) b ≡ None → (heap_of s).child n b ≡ None
  free_at b low none = child_on s n b None low none

  pub none_from : (low high : ℕ) → high ≤ 256 → NoneFrom (child_of n.layout (s (cell.Node n))) low high → NoChildFrom (heap_of s) n low high
  none_from low high few none b from to = free_at b (omega (arith, to, few)) (none b from to)

  -- none has one from 256 on
  pub none_above : (low : ℕ) → NoneFrom (child_of n.layout (s (cell.Node n))) low 256 → (e : ℕ) → low ≤ e → (heap_of s).child n e ≡ None
  none_above low none e from = or_none ((heap_of s).child n e) (λ d is. let small = child_byte s n e d is in let free = none_from low 256 (omega arith) none e from small in cc)

  -- a node with no child from the least byte on is none of a tree
  pub some_child : NoneFrom (child_of n.layout (s (cell.Node n))) 0 256 → ⊥
  some_child none =
      let two = shape.tree.splits n r at in
      let free = none_above 0 none two.0 (omega arith) in
      let there = two.5 in
      cc

  -- the child at a place, by its word
  module _ (b place word : ℕ) (low : b < 256) (tells : child_of n.layout (s (cell.Node n)) b ≡ nonzero (s (cell.Node n) place)) (is : s (cell.Node n) place ≡ word) where
    pub child_is : (heap_of s).child n b ≡ link_of word
    child_is = child_on s n b (nonzero (s (cell.Node n) place)) low tells ∙ nonzero_link (s (cell.Node n) place) ∙ ap link_of is

    -- where the place is occupied, its word names a cell
    pub occupied_names : 0 < s (cell.Node n) place → link_of word ≡ None → ⊥
    occupied_names some none =
        let there : child_of n.layout (s (cell.Node n)) b ≡ Some (s (cell.Node n) place) = tells ∙ nonzero_some (s (cell.Node n) place) some in
        let names : NamesCell (s (cell.Node n) place) = (shape.nodes n r at).children b (s (cell.Node n) place) low there in
        let no : link_of (s (cell.Node n) place) ≡ None = ap link_of is ∙ none in
        let yes = names.1 in
        cc

-- its header was read
pub entered_header : (s : Cells) (n : Node) (header : ℕ) (q : List ℕ) → StandsAt (heap_of s) (node n) q → s (cell.Node n) 1 ≡ header → SpellsPrefix s n q header 0 q
entered_header s n header q at is = record { at = at; is_header = is; spelled = sym (append-nil q) }

-- one word more of its prefix
pub spelled_more : (s : Cells) (n : Node) (r : List ℕ) (header i word c : ℕ) (q : List ℕ) → SpellsPrefix s n r header (8 * i) q → s (cell.Node n) (2 + i) ≡ word → c ≤ 8 → SpellsPrefix s n r header (8 * i + c) (q ++ map (byte_of word) (range_with_len 0 c))
spelled_more s n r header i word c q so_far is few = record { at = so_far.at; is_header = so_far.is_header; spelled = spelled_on (s (cell.Node n)) r q i word c is few so_far.spelled }

same_front : (depth : ℕ) (q : List ℕ) → length q ≡ depth → take depth q ≡ q
same_front depth q long = ap (λ (n : ℕ). take n q) (sym long) ∙ take-length q

module _ (z : Sizes) (lo : List ℕ) (hi : KeyBound) (depth : ℕ) (t : PathBuffer) (u w : View) where
  abbrev path : List ℕ
  path = t.path.items

  pub decided_fits : (y : Stamp) (r : Reach) (o : Option ℕ) → IsReading u w → depth ≤ 64 → HasStamp z w y → Shows z w y (λ s. IsRow (heap_of s) lo path r (with_key t.key.items o)) → StageFits z lo hi depth (Decided y r o) t u w
  decided_fits y r o reads few stamp shows = (reads, few, stamp, shows)

  module _ (seen : NodeSeen) (on : IsOn z u w seen.stamp seen.node) where
    abbrev y : Stamp
    y = seen.stamp

    abbrev n : Node
    n = seen.node

    -- a header that is of no node
    pub torn_fits : length path ≡ depth → depth ≤ 64 → 63 < depth + count_in seen.header → Shows z w y (λ s. SpellsPrefix s n path seen.header 0 path) → StageFits z lo hi depth (Decided y Past None) t u w
    torn_fits long few high shows = (
      on.reads,
      few,
      on.stamp,
      λ s shape holds.
          let is = shows s shape holds in
          absurd (omega (arith, high, long, not_torn z s n path seen.header shape is.at is.is_header)),
    )

    -- the first word of its prefix
    pub prefix_fits : length path ≡ depth → 0 < count_in seen.header → depth + count_in seen.header < 64 → Begins path lo → Shows z w y (λ s. SpellsPrefix s n path seen.header 0 path) → StageFits z lo hi depth (Prefix seen 0) t u w
    prefix_fits long some short front shows = (
      on,
      record {
        long = omega (arith, long);
        more = omega (arith, some);
        short = short;
        front = subst (λ (r : List ℕ). Begins r lo) (sym (same_front depth path long)) front;
        shows = λ s shape holds. subst (λ (r : List ℕ). SpellsPrefix s n r seen.header 0 path) (sym (same_front depth path long)) (shows s shape holds);
      },
    )

    -- one word more of it, where the path was shorter
    module _ (i word c : ℕ) (old : List ℕ) (long : length old ≡ depth + 8 * i) (grown : path ≡ old ++ map (byte_of word) (range_with_len 0 c)) (eight : c ≤ 8) (front : Begins (take depth old) lo)
        (shows : Shows z w y (λ s. SpellsPrefix s n (take depth old) seen.header (8 * i) old)) (is : Shows z w y (λ s. s (cell.Node n) (2 + i) ≡ word)) where
      pub grown_length : length path ≡ depth + (8 * i + c)
      grown_length = omega (arith, ap length grown, length-append old (map (byte_of word) (range_with_len 0 c)), length-map-range_with_len (byte_of word) 0 c, long)

      front_kept : take depth path ≡ take depth old
      front_kept = ap (take depth) grown ∙ take-append-le depth old (map (byte_of word) (range_with_len 0 c)) (omega (arith, long))

      pub front_on : Begins (take depth path) lo
      front_on = subst (λ (l : List ℕ). Begins l lo) (sym front_kept) front

      prefix_grown : (to : ℕ) → 8 * i + c ≡ to → Shows z w y (λ s. SpellsPrefix s n (take depth path) seen.header to path)
      prefix_grown to at s shape holds =
          subst (λ (l : List ℕ). SpellsPrefix s n l seen.header to path) (sym front_kept)
          (subst (λ (l : List ℕ). SpellsPrefix s n (take depth old) seen.header to l) (sym grown)
          (subst (λ (j : ℕ). SpellsPrefix s n (take depth old) seen.header j (old ++ map (byte_of word) (range_with_len 0 c))) at
          (spelled_more s n (take depth old) seen.header i word c old (shows s shape holds) (is s shape holds) eight)))

      pub prefix_next : c ≡ 8 → 8 * i + 8 < count_in seen.header → depth + count_in seen.header < 64 → StageFits z lo hi depth (Prefix seen (i + 1)) t u w
      prefix_next whole more short = (
        on,
        record {
          long = omega (arith, grown_length, whole);
          more = omega (arith, more);
          short = short;
          front = front_on;
          shows = prefix_grown (8 * (i + 1)) (omega (arith, whole));
        },
      )

      pub prefix_passed : 8 * i + c ≡ count_in seen.header → Shows z w y (λ s. SpellsPath s n (take depth path) seen.header path)
      prefix_passed last s shape holds =
          let so_far = prefix_grown (count_in seen.header) last s shape holds in
          whole_spelled z s n (take depth path) seen.header shape so_far.at so_far.is_header path so_far.spelled

    -- no prefix
    pub no_prefix : length path ≡ depth → count_in seen.header ≡ 0 → Shows z w y (λ s. SpellsPrefix s n path seen.header 0 path) → Shows z w y (λ s. SpellsPath s n (take depth path) seen.header path)
    no_prefix long none shows s shape holds =
        let is = shows s shape holds in
        subst (λ (r : List ℕ). SpellsPath s n r seen.header path) (sym (same_front depth path long))
        (whole_spelled z s n path seen.header shape is.at is.is_header path (subst (λ (c : ℕ). path ≡ path ++ map (packed (s (cell.Node n)) 2) (range_with_len 0 c)) (sym none) is.spelled))

    -- all that is below the node is before the lower end
    pub before_fits : (t' : PathBuffer) → t'.path.items ≡ take depth path → depth ≤ 64 → IsReading u w → Begins (take depth path) lo
        → Before path lo → (Begins path lo → ⊥) → Shows z w y (λ s. SpellsPath s n (take depth path) seen.header path) → StageFits z lo hi depth (Decided y Past None) t' u w
    before_fits t' is few reads front before apart shows = (
      reads,
      few,
      on.stamp,
      λ s shape holds.
          let at = shows s shape holds in
          inr (inl (subst (IsBefore (heap_of s) lo) (sym is) record {
            n = n;
            at = at.at;
            front = front;
            before = subst (λ (p : List ℕ). Before p lo) at.spelled before;
            apart = λ f. apart (subst (λ (p : List ℕ). Begins p lo) (sym at.spelled) f);
          })),
    )

    -- ---- its least child

    module _ (f : Front) (sought : IsSought lo depth path f) where
      abbrev r : List ℕ
      r = take depth path

      abbrev low : ℕ
      low = low_at f lo path

      low_is : (s : Cells) → SpellsPath s n r seen.header path → IsLow lo (r ++ (heap_of s).prefix n) low
      low_is s at = subst (λ (p : List ℕ). IsLow lo p low) at.spelled (front_low f lo path sought.side)

      -- it has none: where the lower end goes on behind the path, nothing is found; else it is no node of a tree
      none_row : (f' : Front) → f ≡ f' → (s : Cells) → IsShape z s → SpellsPath s n r seen.header path → ((e : ℕ) → low ≤ e → (heap_of s).child n e ≡ None) → IsRow (heap_of s) lo path Past None
      none_row Within is s shape at none = inr (inr record {
        n = n;
        r = r;
        b = low;
        at = at.at;
        front = sought.front;
        next = next (low_is s at);
        none = none;
        path = at.spelled;
      })
        where
          next : IsLow lo (r ++ (heap_of s).prefix n) low → Begins ((r ++ (heap_of s).prefix n) ++ low ∷ []) lo
          next (inl begins) = begins
          next (inr past) = absurd (not_past lo path (subst (λ (g : Front). IsFront g lo path) is sought.side) (subst (IsPast lo) (sym at.spelled) past.1))
      none_row Beyond is s shape at none =
          let two = shape.tree.splits n r at.at in
          let free = none two.0 (subst (λ (g : Front). low_at g lo path ≤ two.0) (sym is) (omega arith)) in
          let there = two.5 in
          absurd (cc)

      -- what a search says, of bodies of which this is so
      pub staged_fits : (so : Words → Type 0) (found : SoughtFrom) → SoughtFromTells n.layout low so found
          → Shows z w y (λ s. SpellsPath s n r seen.header path) → Shows z w y (λ s. so (s (cell.Node n))) → StageFits z lo hi depth (staged found seen f) t u w
      staged_fits so (next.Keys i) tells at is = (
        on,
        record {
          sought = sought;
          few = tells.0;
          inside = tells.1;
          shows = λ s shape holds. let p = at s shape holds in record { path = p; known = tells.2 (s (cell.Node n)) (body_is z s n r seen.header shape p.at p.is_header) (is s shape holds) };
        },
      )
      staged_fits so (next.Child place b) tells at is = (
        on,
        record {
          sought = sought;
          low = tells.2;
          byte = tells.3;
          after = tells.0;
          inside = tells.1;
          shows = λ s shape holds.
              let p = at s shape holds in
              let told = tells.4 (s (cell.Node n)) (body_is z s n r seen.header shape p.at p.is_header) (is s shape holds) in
              record { header = seen.header; path = p; none = none_from z s n r seen.header shape p.at p.is_header low b (omega (arith, tells.3)) told.0; tells = told.1; occupied = told.2 };
        },
      )
      staged_fits so next.Nothing tells at is = (
        on.reads,
        (let deep = sought.deep in let short = sought.short in omega (arith, deep, short)),
        on.stamp,
        λ s shape holds.
            let p = at s shape holds in
            none_row f refl s shape p (none_above z s n r seen.header shape p.at p.is_header low (tells (s (cell.Node n)) (body_is z s n r seen.header shape p.at p.is_header) (is s shape holds))),
      )

-- ---- its child

module _ (z : Sizes) (lo : List ℕ) (hi : KeyBound) (depth : ℕ) (t : PathBuffer) (u w : View) (a : ChildSought) (on : IsOn z u w a.seen.stamp a.seen.node) (sought : IsSought lo depth t.path.items a.front)
    (from : low_at a.front lo t.path.items ≤ a.byte) (low : a.byte < 256) (word : ℕ)
    (shows : Shows z w a.seen.stamp (λ s. SeeksChild s a.seen.node (take depth t.path.items) t.path.items (low_at a.front lo t.path.items) a.byte a.place))
    (is : Shows z w a.seen.stamp (λ s. s (cell.Node a.seen.node) a.place ≡ word)) where
  abbrev p : List ℕ
  p = t.path.items

  abbrev upper : List ℕ
  upper = take depth p

  abbrev inner : Node
  inner = a.seen.node

  abbrev x : Stamp
  x = a.seen.stamp

  abbrev least : ℕ
  least = low_at a.front lo p

  named_child : (s : Cells) → IsShape z s → SeeksChild s inner upper p least a.byte a.place → s (cell.Node inner) a.place ≡ word → (heap_of s).child inner a.byte ≡ link_of word
  named_child s shape at here = child_is z s inner upper at.header shape at.path.at at.path.is_header a.byte a.place word low at.tells here

  -- it names this
  module _ (d : Link) (names : link_of word ≡ Some d) where
    is_least : (s : Cells) → IsShape z s → SeeksChild s inner upper p least a.byte a.place → s (cell.Node inner) a.place ≡ word → IsLeast (heap_of s) lo inner upper least a.byte d
    is_least s shape at here = record {
      at = at.path.at;
      front = sought.front;
      lowest = subst (λ (l : List ℕ). IsLow lo l least) at.path.spelled (front_low a.front lo p sought.side);
      from = from;
      none = at.none;
      child = named_child s shape at here ∙ names;
    }

    path_is : (s : Cells) → SeeksChild s inner upper p least a.byte a.place → p ++ a.byte ∷ [] ≡ path_past (heap_of s) inner upper a.byte
    path_is s at = ap (λ (l : List ℕ). l ++ a.byte ∷ []) at.path.spelled

    has_child : (s : Cells) → IsShape z s → SeeksChild s inner upper p least a.byte a.place → s (cell.Node inner) a.place ≡ word → HasChild s (cell.Node inner) d (p ++ a.byte ∷ [])
    has_child s shape at here =
        let child = named_child s shape at here ∙ names in
        record { path = upper; there = at.path.at; byte = a.byte; names = child; at = down a.byte at.path.at child (path_is s at) }

  child_leads : (s : Cells) (d : Link) → link_of word ≡ Some d → IsShape z s → SeeksChild s inner upper p least a.byte a.place → s (cell.Node inner) a.place ≡ word → Leads s (cell.Node inner) lo (p ++ a.byte ∷ []) d
  child_leads s (leaf l) names shape at here = record {
    child = has_child (leaf l) names s shape at here;
    first = inr record { n = inner; r = upper; low = least; c = a.byte; least = is_least (leaf l) names s shape at here; path = path_is (leaf l) names s at };
  }
  child_leads s (node m) names shape at here = has_child (node m) names s shape at here

  -- it is followed
  pub child_fits : (t' : PathBuffer) (d : Link) → t'.path.items ≡ p ++ a.byte ∷ [] → WasNoted w x word → link_of word ≡ Some d → IsOnWay lo (p ++ a.byte ∷ []) d → StageFits z lo hi (length t'.path.items) (Child x d) t' u w
  child_fits t' d grown noted names way = (
    on.reads,
    record {
      stamp = on.stamp;
      long = refl;
      few = let short = sought.short in omega (arith, short, ap length grown, length-append p (a.byte ∷ []));
      front = subst (λ (l : List ℕ). IsOnWay lo l d) (sym grown) way;
      noted = note_names w x word d noted names;
      shows = λ s shape holds. subst (λ (c : Cell). Leads s c lo t'.path.items d) (sym on.cell)
          (subst (λ (l : List ℕ). Leads s (cell.Node inner) lo l d) (sym grown) (child_leads s d names shape (shows s shape holds) (is s shape holds)));
    },
  )

  -- the look ends at it
  pub up_to_fits : (t' : PathBuffer) (m : Node) → t'.path.items ≡ p ++ a.byte ∷ [] → link_of word ≡ Some (node m) → is_within a.front lo p a.byte ≡ false → StageFits z lo hi depth (Decided x UpTo None) t' u w
  up_to_fits t' m grown names apart = (
    on.reads,
    (let deep = sought.deep in let short = sought.short in omega (arith, deep, short)),
    on.stamp,
    λ s shape holds.
        let at = shows s shape holds in
        subst (HasNode (heap_of s) lo) (sym grown) record {
          n = inner;
          r = upper;
          low = least;
          c = a.byte;
          m = m;
          least = is_least (node m) names s shape at (is s shape holds);
          apart = λ f. not_within_apart a.front lo p a.byte sought.side apart (subst (λ (l : List ℕ). Begins l lo) (sym (path_is (node m) names s at)) f);
          path = path_is (node m) names s at;
        },
  )

  -- it names none
  module _ (none : link_of word ≡ None) where
    none_up_to : (s : Cells) → IsShape z s → SeeksChild s inner upper p least a.byte a.place → s (cell.Node inner) a.place ≡ word → NoChildFrom (heap_of s) inner least (a.byte + 1)
    none_up_to s shape at here e above below =
        elim (cases_lt e a.byte) [
          | inl less ↦ at.none e above less
          | inr past ↦
              let same : a.byte ≡ e = omega (arith, past, below) in
              subst (λ (b : ℕ). (heap_of s).child inner b ≡ None) same (named_child s shape at here ∙ none)
        ]

    last_fits : a.byte ≡ 255 → StageFits z lo hi depth (Decided x Past None) t u w
    last_fits last = (
      on.reads,
      (let deep = sought.deep in let short = sought.short in omega (arith, deep, short)),
      on.stamp,
      λ s shape holds.
          let at = shows s shape holds in
          let free = none_up_to s shape at (is s shape holds) in
          none_row z lo hi depth t u w (record { stamp = x; node = inner; header = at.header }) on a.front sought a.front refl s shape at.path
          (all_none s inner least (λ e above small. free e above (omega (arith, small, last)))),
    )
      where
        all_none : (s : Cells) (m : Node) (k : ℕ) → NoChildFrom (heap_of s) m k 256 → (e : ℕ) → k ≤ e → (heap_of s).child m e ≡ None
        all_none s m k free e above = or_none ((heap_of s).child m e) (λ d there. let small = child_byte s m e d there in let gone = free e above small in cc)

    -- an occupied place names a cell
    occupied_fits : (reach : Reach) (o : Option ℕ) → ((s : Cells) → IsOccupied inner.layout (s (cell.Node inner)) a.place → 0 < s (cell.Node inner) a.place) → StageFits z lo hi depth (Decided x reach o) t u w
    occupied_fits reach o occupied = (
      on.reads,
      (let deep = sought.deep in let short = sought.short in omega (arith, deep, short)),
      on.stamp,
      λ s shape holds.
          let at = shows s shape holds in
          absurd (occupied_names z s inner upper at.header shape at.path.at at.path.is_header a.byte a.place word low at.tells (is s shape holds) (occupied s at.occupied) none),
    )

    byte_on : (s : Cells) (k : Layout) (b place : ℕ) → k ≡ Node256 → 10 + b ≡ place → child_of k (s (cell.Node inner)) b ≡ nonzero (s (cell.Node inner) place)
    byte_on s k b place layout at = subst (λ (l : Layout). child_of l (s (cell.Node inner)) b ≡ nonzero (s (cell.Node inner) place)) (sym layout) (ap (λ (i : ℕ). nonzero (s (cell.Node inner) i)) at)

    past_fits : (k : Layout) → inner.layout ≡ k → a.byte < 255 → StageFits z lo hi depth (stage_past k a) t u w
    past_fits Node4 layout less = occupied_fits Past None (λ s some. subst (λ (k : Layout). IsOccupied k (s (cell.Node inner)) a.place) layout some)
    past_fits Node16 layout less = occupied_fits Past None (λ s some. subst (λ (k : Layout). IsOccupied k (s (cell.Node inner)) a.place) layout some)
    past_fits Node48 layout less = occupied_fits Past None (λ s some. subst (λ (k : Layout). IsOccupied k (s (cell.Node inner)) a.place) layout some)
    past_fits Node256 layout less = (
      on,
      record {
        sought = sought;
        low = omega (arith, from);
        byte = omega (arith, less);
        after = omega arith;
        inside = subst (λ (k : Layout). 11 + a.byte < size k) (sym layout) (omega (arith, less));
        shows = λ s shape holds.
            let at = shows s shape holds in
            record {
              header = at.header;
              path = at.path;
              none = none_up_to s shape at (is s shape holds);
              tells = byte_on s inner.layout (a.byte + 1) (11 + a.byte) layout (omega arith);
              occupied = subst (λ (k : Layout). IsOccupied k (s (cell.Node inner)) (11 + a.byte)) (sym layout) tt;
            };
      },
    )

    pub next_fits : StageFits z lo hi depth (next_child a) t u w
    next_fits = elim (cases_Bool (a.byte == 255)) [
      | inl last ↦ rw last (last_fits (eqb-true a.byte 255 last))
      | inr more ↦ rw more (past_fits inner.layout refl (let apart = eqb-false a.byte 255 more in omega (arith, low, apart)))
    ]

-- ---- the words of a leaf

module _ (z : Sizes) (lo : List ℕ) (hi : KeyBound) (depth : ℕ) (t : PathBuffer) (u w : View) (few : depth ≤ 64) where
  abbrev way : List ℕ
  way = t.path.items

  module _ (x : Stamp) (l : ℕ) (on : IsAbove z u w x l) (value count : ℕ) (shows : Shows z w x (λ s. HasFirstValue s x.cell lo way l value)) (is : Shows z w x (λ s. s (cell.Leaf l) 1 ≡ count)) where
    pub length_torn : 64 < count → StageFits z lo hi depth (Decided x Past None) t u w
    length_torn high = (
      on.reads,
      few,
      on.stamp,
      λ s shape holds. absurd (
          let short = (key_on z s l way shape (shows s shape holds).leaf.child.at).0 in
          let here = is s shape holds in
          omega (arith, high, short, here)),
    )

    pub bytes_first : 0 < count → count ≤ 64 → t.key.items ≡ [] → (seen : LeafSeen) → seen ≡ record { stamp = x; leaf = l; value = value; count = count } → StageFits z lo hi depth (Bytes seen 0) t u w
    bytes_first some short empty seen e = subst (λ (a : LeafSeen). StageFits z lo hi depth (Bytes a 0) t u w) (sym e) (
      on,
      few,
      record {
        long = ap length empty;
        more = omega (arith, some);
        short = short;
        shows = λ s shape holds. record { valued = shows s shape holds; is_count = is s shape holds; spelled = empty };
      },
    )

  leaf_row : (s : Cells) (c : Cell) (l value count : ℕ) (k : List ℕ) → IsShape z s → HasFirstValue s c lo way l value → s (cell.Leaf l) 1 ≡ count → k ≡ map (packed (s (cell.Leaf l)) 2) (range_with_len 0 count) → IsRow (heap_of s) lo way Past (Some (k, value))
  leaf_row s c l value count k shape has counted spelled = (
    l,
    (key_on z s l way shape has.leaf.child.at).1 ∙ ap (λ (i : ℕ). map (packed (s (cell.Leaf l)) 2) (range_with_len 0 i)) counted ∙ sym spelled,
    value_on s l value has.is_value,
    has.leaf.first,
  )

  pub empty_fits : (x : Stamp) (l : ℕ) (value count : ℕ) → IsAbove z u w x l → Shows z w x (λ s. HasFirstValue s x.cell lo way l value) → Shows z w x (λ s. s (cell.Leaf l) 1 ≡ count) → count ≡ 0 → t.key.items ≡ [] → StageFits z lo hi depth (Decided x Past (Some value)) t u w
  empty_fits x l value count on shows is none empty = (
    on.reads,
    few,
    on.stamp,
    λ s shape holds. leaf_row s x.cell l value 0 t.key.items shape (shows s shape holds) (is s shape holds ∙ none) empty,
  )

  -- one word more of its key, which is k so far
  module _ (seen : LeafSeen) (on : IsAbove z u w seen.stamp seen.leaf) (i word c : ℕ) (k : List ℕ) (long : length k ≡ 8 * i) (grown : t.key.items ≡ k ++ map (byte_of word) (range_with_len 0 c)) (eight : c ≤ 8)
      (shows : Shows z w seen.stamp (λ s. SpellsKey s seen.stamp.cell lo way seen (8 * i) k)) (is : Shows z w seen.stamp (λ s. s (cell.Leaf seen.leaf) (2 + i) ≡ word)) where
    key_grown : (s : Cells) (to : ℕ) → 8 * i + c ≡ to → SpellsKey s seen.stamp.cell lo way seen (8 * i) k → s (cell.Leaf seen.leaf) (2 + i) ≡ word → t.key.items ≡ map (packed (s (cell.Leaf seen.leaf)) 2) (range_with_len 0 to)
    key_grown s to at so_far here =
        grown
        ∙ ap (λ (a : List ℕ). a ++ map (byte_of word) (range_with_len 0 c)) so_far.spelled
        ∙ word_on (s (cell.Leaf seen.leaf)) i word c here eight
        ∙ ap (λ (j : ℕ). map (packed (s (cell.Leaf seen.leaf)) 2) (range_with_len 0 j)) at

    pub bytes_next : c ≡ 8 → 8 * i + 8 < seen.count → seen.count ≤ 64 → StageFits z lo hi depth (Bytes seen (i + 1)) t u w
    bytes_next whole more short = (
      on,
      few,
      record {
        long = omega (arith, ap length grown, length-append k (map (byte_of word) (range_with_len 0 c)), length-map-range_with_len (byte_of word) 0 c, long, whole);
        more = omega (arith, more);
        short = short;
        shows = λ s shape holds.
            let so_far = shows s shape holds in
            record { valued = so_far.valued; is_count = so_far.is_count; spelled = key_grown s (8 * (i + 1)) (omega (arith, whole)) so_far (is s shape holds) };
      },
    )

    pub key_fits : 8 * i + c ≡ seen.count → StageFits z lo hi depth (Decided seen.stamp Past (Some seen.value)) t u w
    key_fits last = (
      on.reads,
      few,
      on.stamp,
      λ s shape holds.
          let so_far = shows s shape holds in
          leaf_row s seen.stamp.cell seen.leaf seen.value seen.count t.key.items shape so_far.valued so_far.is_count (key_grown s seen.count last so_far (is s shape holds)),
    )

-- ---- where the stage is known by an equation

-- what is asked there, and what it answered
pub at_stage : (z : Sizes) (lo : List ℕ) (hi : KeyBound) (depth : ℕ) (t : PathBuffer) (stage now : LookStage) (a : Action) (answer : Answer) (u v w : View) → stage ≡ now → asks stage ≡ Some a
    → StageFits z lo hi depth stage t u v → Answers z (telling (deed_at lo hi t stage)) a answer v w
    → StageFits z lo hi depth now t u v × ((b : Action) → asks now ≡ Some b → Answers z (telling (deed_at lo hi t now)) b answer v w)
at_stage z lo hi depth t stage now a answer u v w is asked fits row = (
  subst (λ (g : LookStage). StageFits z lo hi depth g t u v) is fits,
  λ b e. subst (λ (c : Action). Answers z (telling (deed_at lo hi t now)) c answer v w) (same_Some {A = Action} a b (sym asked ∙ ap asks is ∙ e)) (subst (λ (g : LookStage). Answers z (telling (deed_at lo hi t g)) a answer v w) is row),
)

-- ---- a version word that is not clear, or was changed

pub begun_again : (z : Sizes) (lo : List ℕ) (hi : KeyBound) (depth : ℕ) (t : PathBuffer) (stage : LookStage) (u v : View) → WantsVersion (asks stage) → StageFits z lo hi depth stage t u v → IsReading u v
begun_again z lo hi depth t Start u v wants fits = fits
begun_again z lo hi depth t (Below x n) u v wants fits = fits.0
begun_again z lo hi depth t (Anchor x) u v wants fits = absurd wants
begun_again z lo hi depth t (Child x d) u v wants fits = absurd wants
begun_again z lo hi depth t (Both x y n) u v wants fits = absurd wants
begun_again z lo hi depth t (Header y n) u v wants fits = absurd wants
begun_again z lo hi depth t (Prefix seen i) u v wants fits = absurd wants
begun_again z lo hi depth t (Keys seen f i) u v wants fits = absurd wants
begun_again z lo hi depth t (Slot a) u v wants fits = absurd wants
begun_again z lo hi depth t (Value x l) u v wants fits = absurd wants
begun_again z lo hi depth t (Length x l value) u v wants fits = absurd wants
begun_again z lo hi depth t (Bytes seen i) u v wants fits = absurd wants
begun_again z lo hi depth t (Decided x r o) u v wants fits = absurd wants
begun_again z lo hi depth t (Ended r o) u v wants fits = absurd wants

pub checked_again : (z : Sizes) (lo : List ℕ) (hi : KeyBound) (depth : ℕ) (t : PathBuffer) (stage : LookStage) (u v : View) → WantsCheck (asks stage) → StageFits z lo hi depth stage t u v → IsReading u v
checked_again z lo hi depth t (Child x d) u v wants fits = fits.0
checked_again z lo hi depth t (Both x y n) u v wants fits = fits.0.reads
checked_again z lo hi depth t (Decided x r o) u v wants fits = fits.0
checked_again z lo hi depth t Start u v wants fits = absurd wants
checked_again z lo hi depth t (Anchor x) u v wants fits = absurd wants
checked_again z lo hi depth t (Below x n) u v wants fits = absurd wants
checked_again z lo hi depth t (Header y n) u v wants fits = absurd wants
checked_again z lo hi depth t (Prefix seen i) u v wants fits = absurd wants
checked_again z lo hi depth t (Keys seen f i) u v wants fits = absurd wants
checked_again z lo hi depth t (Slot a) u v wants fits = absurd wants
checked_again z lo hi depth t (Value x l) u v wants fits = absurd wants
checked_again z lo hi depth t (Length x l value) u v wants fits = absurd wants
checked_again z lo hi depth t (Bytes seen i) u v wants fits = absurd wants
checked_again z lo hi depth t (Ended r o) u v wants fits = absurd wants

-- ---- until it has ended, and then

pub still_reading : (z : Sizes) (lo : List ℕ) (hi : KeyBound) (depth : ℕ) (t : PathBuffer) (stage : LookStage) (u v : View) → has_ended stage ≡ false → StageFits z lo hi depth stage t u v → IsReading u v
still_reading z lo hi depth t Start u v going fits = fits
still_reading z lo hi depth t (Anchor x) u v going fits = fits.0
still_reading z lo hi depth t (Child x d) u v going fits = fits.0
still_reading z lo hi depth t (Below x n) u v going fits = fits.0
still_reading z lo hi depth t (Both x y n) u v going fits = fits.0.reads
still_reading z lo hi depth t (Header y n) u v going fits = fits.0.reads
still_reading z lo hi depth t (Prefix seen i) u v going fits = fits.0.reads
still_reading z lo hi depth t (Keys seen f i) u v going fits = fits.0.reads
still_reading z lo hi depth t (Slot a) u v going fits = fits.0.reads
still_reading z lo hi depth t (Value x l) u v going fits = fits.0.reads
still_reading z lo hi depth t (Length x l value) u v going fits = fits.0.reads
still_reading z lo hi depth t (Bytes seen i) u v going fits = fits.0.reads
still_reading z lo hi depth t (Decided x r o) u v going fits = fits.0
still_reading z lo hi depth t (Ended r o) u v going fits = absurd (true≢false going)

-- ---- what was seen is exact

pub settled_row : (z : Sizes) (lo : List ℕ) (hi : KeyBound) (t : PathBuffer) (stage : LookStage) (x : Stamp) (seen : Seen) → asks stage ≡ Some (Settle x) → seen_at lo hi t stage ≡ Some seen
    → (s : Cells) (m : ByteMap) → IsShape z s → HasRows (heap_of s) m → Settles lo t stage s → OnlyRow m seen.lo.items (bound_of seen.hi) seen.row
settled_row z lo hi t (Decided y r o) x seen asked is s m shape rows row =
    subst (λ (a : Seen). OnlyRow m a.lo.items (bound_of a.hi) a.row) (same_Some {A = Seen} (seen_of lo hi t.path.items t.key.items r o) seen is) (row_is_exact s shape.tree m rows lo hi t.path.items t.key.items r o row)
settled_row z lo hi t Start x seen asked is s m shape rows row = absurd (none-some seen is)
settled_row z lo hi t (Anchor y) x seen asked is s m shape rows row = absurd (none-some seen is)
settled_row z lo hi t (Child y d) x seen asked is s m shape rows row = absurd (none-some seen is)
settled_row z lo hi t (Below y n) x seen asked is s m shape rows row = absurd (none-some seen is)
settled_row z lo hi t (Both y a n) x seen asked is s m shape rows row = absurd (none-some seen is)
settled_row z lo hi t (Header y n) x seen asked is s m shape rows row = absurd (none-some seen is)
settled_row z lo hi t (Prefix a i) x seen asked is s m shape rows row = absurd (none-some seen is)
settled_row z lo hi t (Keys a f i) x seen asked is s m shape rows row = absurd (none-some seen is)
settled_row z lo hi t (Slot a) x seen asked is s m shape rows row = absurd (none-some seen is)
settled_row z lo hi t (Value y l) x seen asked is s m shape rows row = absurd (none-some seen is)
settled_row z lo hi t (Length y l value) x seen asked is s m shape rows row = absurd (none-some seen is)
settled_row z lo hi t (Bytes a i) x seen asked is s m shape rows row = absurd (none-some seen is)
settled_row z lo hi t (Ended r o) x seen asked is s m shape rows row = absurd (none-some (Settle x) asked)

-- once it has ended
pub look_ends : (z : Sizes) (lo : List ℕ) (hi : KeyBound) (depth : ℕ) (t : PathBuffer) (stage : LookStage) (seen : Seen) (u v : View) → has_ended stage ≡ true → seen_at lo hi t stage ≡ Some seen → StageFits z lo hi depth stage t u v → LookEnds z lo hi u v (Some seen)
look_ends z lo hi depth t (Ended r o) seen u v ended is fits =
    let same = same_Some {A = Seen} (seen_of lo hi t.path.items t.key.items r o) seen is in (
      subst (λ (a : Seen). MakesEvent u v (look_done a)) same fits.0,
      fits.1,
      record { path = t.path.items; key = t.key.items; reach = r; value = o; stood = fits.2; is = sym same },
    )
look_ends z lo hi depth t Start seen u v ended is fits = absurd (true≢false (sym ended))
look_ends z lo hi depth t (Anchor y) seen u v ended is fits = absurd (true≢false (sym ended))
look_ends z lo hi depth t (Child y d) seen u v ended is fits = absurd (true≢false (sym ended))
look_ends z lo hi depth t (Below y n) seen u v ended is fits = absurd (true≢false (sym ended))
look_ends z lo hi depth t (Both y a n) seen u v ended is fits = absurd (true≢false (sym ended))
look_ends z lo hi depth t (Header y n) seen u v ended is fits = absurd (true≢false (sym ended))
look_ends z lo hi depth t (Prefix a i) seen u v ended is fits = absurd (true≢false (sym ended))
look_ends z lo hi depth t (Keys a f i) seen u v ended is fits = absurd (true≢false (sym ended))
look_ends z lo hi depth t (Slot a) seen u v ended is fits = absurd (true≢false (sym ended))
look_ends z lo hi depth t (Value y l) seen u v ended is fits = absurd (true≢false (sym ended))
look_ends z lo hi depth t (Length y l value) seen u v ended is fits = absurd (true≢false (sym ended))
look_ends z lo hi depth t (Bytes a i) seen u v ended is fits = absurd (true≢false (sym ended))
look_ends z lo hi depth t (Decided y r o) seen u v ended is fits = absurd (true≢false (sym ended))

-- it has seen something then
pub has_seen : (lo : List ℕ) (hi : KeyBound) (t : PathBuffer) (stage : LookStage) → has_ended stage ≡ true → seen_at lo hi t stage ≡ None → ⊥
has_seen lo hi t (Ended r o) ended none = none-some (seen_of lo hi t.path.items t.key.items r o) (sym none)
has_seen lo hi t Start ended none = true≢false (sym ended)
has_seen lo hi t (Anchor y) ended none = true≢false (sym ended)
has_seen lo hi t (Child y d) ended none = true≢false (sym ended)
has_seen lo hi t (Below y n) ended none = true≢false (sym ended)
has_seen lo hi t (Both y a n) ended none = true≢false (sym ended)
has_seen lo hi t (Header y n) ended none = true≢false (sym ended)
has_seen lo hi t (Prefix a i) ended none = true≢false (sym ended)
has_seen lo hi t (Keys a f i) ended none = true≢false (sym ended)
has_seen lo hi t (Slot a) ended none = true≢false (sym ended)
has_seen lo hi t (Value y l) ended none = true≢false (sym ended)
has_seen lo hi t (Length y l value) ended none = true≢false (sym ended)
has_seen lo hi t (Bytes a i) ended none = true≢false (sym ended)
has_seen lo hi t (Decided y r o) ended none = true≢false (sym ended)

-- what was seen goes on after the lower end, and not past the upper one
pub seen_after : (z : Sizes) (lo : List ℕ) (hi : KeyBound) (seen : Seen) → AreBytes lo → IsBelow lo (bound_of hi) → IsSeen z lo hi seen → IsBelow lo (bound_of seen.hi)
seen_after z lo hi seen bytes before is =
    let stood = is.stood in
    subst (λ (a : Seen). IsBelow lo (bound_of a.hi)) (sym is.is)
    (nearer_below lo (bound_at (end_at is.reach is.path)) hi
    (subst (IsBelow lo) (sym (bound_back (end_at is.reach is.path))) (row_goes_on stood.cells stood.shape.tree lo bytes is.path is.reach (with_key is.key is.value) stood.row)) before)

pub seen_within : (z : Sizes) (lo : List ℕ) (hi : KeyBound) (seen : Seen) → IsSeen z lo hi seen → (seen.hi ≡ hi) ⊎ (is_before seen.hi hi ≡ true)
seen_within z lo hi seen is = subst (λ (a : Seen). (a.hi ≡ hi) ⊎ (is_before a.hi hi ≡ true)) (sym is.is) (either (bound_at (end_at is.reach is.path)))
  where
    either : (b : KeyBound) → (nearer b hi ≡ hi) ⊎ (is_before (nearer b hi) hi ≡ true)
    either b = elim (cases_Bool (is_before b hi)) [
      | inl earlier ↦ inr (rw earlier earlier)
      | inr later ↦ inl (rw later refl)
    ]
