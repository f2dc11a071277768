-- The steps of a pass on words in a row, by their laws: one lemma for each kind of step, whatever function the views are.
use Rattle.std.proofs.Common.{◌≡◌, ◌≢◌, ◌⊎◌, ℕ, ◌≤◌, List, [], ◌∷◌, ◌++◌, length, inl, inr, ⊎_elim, sym, refl, ap, ap₂, ◌∙◌, subst, arith, eq-eqb, ne_eqb, ◌%◌}
use Rattle.std.proofs.lemmas.Bool.{cases_eq, cond_both}
use Rattle.std.specs.Prelude.{Option, Some, None, ◌==◌, if◌then◌else◌}
use Rattle.art_cell.specs.declared.cells.Node.{Node}
use Rattle.art_cell.specs.declared.cells.Cell.{Cell}
use Rattle.art_cell.specs.declared.cells.Cell.TheVariants as cell
use Rattle.art_cell.specs.declared.cells.Link.{Link}
use Rattle.art_cell.specs.declared.cells.Link.TheVariants.{Leaf as leaf, Node as node}
use Rattle.art_step.specs.declared.views.Event.{Event}
use Rattle.art_step.specs.declared.views.Fact.TheVariants.{Starts, Word, LeafWord}
use Rattle.art_step.specs.declared.views.Note.{Note}
use Rattle.art_step.specs.declared.views.Sizes.{Sizes}
use Rattle.art_step.specs.declared.views.Stamp.{Stamp}
use Rattle.art_step.specs.declared.views.View.{View}
use Rattle.art_step.specs.declared.deeds.Deed.{Deed}
use Rattle.art_tree.specs.Heaps.{Cells, heap_of}
use Rattle.art_step.specs.Histories.{event, replay, IsLegal, IsAnswered, places}
use Rattle.art_step.specs.Effects.{FindsUnchanged, FindsVersion, FindsWord, Instant}
use Rattle.art_step.specs.Knowledge.{CellAt, HoldsAll}
use Rattle.art_step.specs.Steps.Read as read
use Rattle.art_step.specs.Steps.Check as check
use Rattle.art_step.specs.Events.{MakesEvent, SeesEvent}
use Rattle.art_step.specs.Sound.{IsOneHistory, Whereabouts, InTree, IsFree, InHandOf, InLimboOf, Nowhere, IsSound}
use Rattle.art_step.specs.Steps.{OfAKind, OneStep, IsBegin, IsRead, IsReadLeaf, IsUnchanged, IsChanged, IsAnchor}
use Rattle.art_step.specs.Views.{IsWordOf, note_of, SetsView}
use Rattle.art_step.specs.Steps.Claim as claim
use Rattle.art_step.specs.Steps.Check.{ArePaths, Without}
use Rattle.art_step.specs.Steps.Anchor as anchor
use Rattle.art_step.specs.Steps.Begin as begin
use Rattle.art_tree.specs.Tree.{StandsAt, IsTree}
use Rattle.art_step.specs.Views.{Member, Memory, Views, SetsView}
use Rattle.art_step.specs.WordPlaces.{word_count, IsInside, first_place}
use Rattle.art_step.specs.WordRows.{memory_of}
use Rattle.art_step.proofs.AnyStep.{kind_sound}
use Rattle.art_step.proofs.Facts.{holds_all}
use Rattle.art_step.proofs.Gathered.{Gathered, gathered, left_over}
use Rattle.art_step.proofs.Histories.{history_grows}
use Rattle.art_tree.proofs.Places.{one_path, same_cell}

-- ---- the stamps and notes that stay where a stamp goes

same_stamp : (x y : Stamp) → (x ≡ y) ⊎ (x ≢ y)
same_stamp x y = ⊎_elim
    (λ (e : x.cell ≡ y.cell). ⊎_elim
    (λ (i : x.version ≡ y.version). ⊎_elim
    (λ (j : x.first ≡ y.first). inl (ap₂ (λ (c : Cell) (n : ℕ). record { cell = c; version = n; first = x.first }) e i ∙ ap (λ (k : ℕ). record { cell = y.cell; version = y.version; first = k }) j))
    (λ (other : x.first ≢ y.first). inr (λ j. other (ap (λ (a : Stamp). a.first) j)))
    (cases_eq x.first y.first))
    (λ (other : x.version ≢ y.version). inr (λ i. other (ap (λ (a : Stamp). a.version) i)))
    (cases_eq x.version y.version))
    (λ (other : x.cell ≢ y.cell). inr (λ e. other (ap (λ (a : Stamp). a.cell) e)))
    (same_cell x.cell y.cell)

without : (v : View) (x : Stamp) → (xs : List Stamp) × (ys : List Note) × Without v x xs ys
without v x =
    let stamps = left_over (λ (a : Stamp). a ≡ x) v.stamps (λ a. same_stamp a x) in
    let notes = left_over (λ (y : Note). y.stamp ≡ x) v.notes (λ y. same_stamp y.stamp x) in
    (stamps.0, notes.0, record { stamps = stamps.1; notes = notes.1 })

-- ---- the paths of stamped cells

-- the paths of one cell are one
one_way : (s : Cells) (c : Cell) (p q : List ℕ) → IsTree (heap_of s) → CellAt s c p → CellAt s c q → p ≡ q
one_way s cell.Anchor p q tree a b = a ∙ sym b
one_way s (cell.Leaf l) p q tree a b = one_path (heap_of s) (leaf l) p q tree.once a b
one_way s (cell.Node n) p q tree a b = one_path (heap_of s) (node n) p q tree.once a b

in_tree : (w : Whereabouts) → (w ≡ InTree) ⊎ (w ≢ InTree)
in_tree InTree = inl refl
in_tree IsFree = inr (λ e. cc)
in_tree (InHandOf p) = inr (λ e. cc)
in_tree (InLimboOf p) = inr (λ e. cc)
in_tree Nowhere = inr (λ e. cc)

module _ (z : Sizes) (m : Memory) (f : Views) (v : View) (r : IsSound z m f) where
  abbrev Way : Cell → Type 0
  Way c = (q : List ℕ) × CellAt r.logical c q

  abbrev NoWay : Cell → Type 0
  NoWay c = (q : List ℕ) → CellAt r.logical c q → ⊥

  -- whether a path leads to a number is decided by where the number is
  linked : (d : Link) → ((q : List ℕ) × StandsAt (heap_of r.logical) d q) ⊎ ((q : List ℕ) → StandsAt (heap_of r.logical) d q → ⊥)
  linked d = let k = r.numbers.tree d in ⊎_elim (λ (e : r.at d ≡ InTree). inl (k.0 e)) (λ (other : r.at d ≢ InTree). inr (λ q a. other (k.1 (q, a)))) (in_tree (r.at d))

  either_way : (c : Cell) → Way c ⊎ NoWay c
  either_way cell.Anchor = inl ([], refl)
  either_way (cell.Leaf l) = linked (leaf l)
  either_way (cell.Node n) = linked (node n)

  -- the note is of a path that leads to the stamp's cell
  abbrev IsWay : Stamp → Note → Type 0
  IsWay d y = (q : List ℕ) × (y ≡ note_of d (Starts q)) × CellAt r.logical d.cell q

  ways : Gathered IsWay v.stamps
  ways = gathered IsWay v.stamps (λ d i. ⊎_elim
      (λ (k : Way d.cell). inl (note_of d (Starts k.0), (k.0, refl, k.1), λ y o. o.1 ∙ ap (λ (q : List ℕ). note_of d (Starts q)) (one_way r.logical d.cell o.0 k.0 r.shows.shape.tree o.2 k.1)))
      (λ (k : NoWay d.cell). inr (λ y o. k o.0 o.2))
      (either_way d.cell))

  are_paths : ArePaths r.logical v ways.list
  are_paths y i =
      let o = ways.from y i in
      subst (λ (n : Note). Member n.stamp v.stamps × ((q : List ℕ) × (n.fact ≡ Starts q) × CellAt r.logical n.stamp.cell q)) (sym o.2.1) (o.1, (o.2.0, refl, o.2.2))

-- ---- events

-- the pass makes an event after all of the history
pub makes : (f g : Views) (p : ℕ) (v w : View) (log : List Event) (what : Deed) → f p ≡ Some v → SetsView f p w g → IsOneHistory log f → w.pass ≡ v.pass
    → IsAnswered (replay log) what → w.seen ≡ log ++ event v.pass what ∷ [] → w.own ≡ v.own ++ length log ∷ [] → MakesEvent v w what
makes f g p v w log what at t history pass found seen own =
    let mine = history.tells p v at in
    let grown = history_grows f g p v w t at log history pass what found seen own in
    record {
      between = mine.starts.0;
      seen = seen ∙ ap (λ (l : List Event). l ++ event v.pass what ∷ []) mine.starts.1;
      own = own ∙ ap (λ (l : List Event). v.own ++ length l ∷ []) mine.starts.1;
      legal = subst IsLegal (sym seen) grown.legal;
      all = ap (λ (q : ℕ). places q w.seen) mine.pass ∙ (grown.tells p w t.here).all;
    }

-- where an event is made or none, the history that the pass has seen and the places of its own events may change, and no more
telling_is : (v : View) (log : List Event) (o : Option Deed) → check.with_event v log o ≡ record v { seen = (check.with_event v log o).seen; own = (check.with_event v log o).own }
telling_is v log None = refl
telling_is v log (Some what) = refl

-- ---- cells and leaves that a pass writes

first_low : (c : Cell) → first_place c ≤ 1
first_low cell.Anchor = omega arith
first_low (cell.Leaf l) = omega arith
first_low (cell.Node n) = omega arith

-- ---- numbers by their links

-- the node that a number names may be claimed, where one that it names may
pub claim_named : (z : Sizes) (v : View) (d : Link) (n : Node) → (a : Node) × (d ≡ node a) × IsInside z (cell.Node a) × claim.May v a → d ≡ node n → IsInside z (cell.Node n) × claim.May v n
claim_named z v d n o is =
    let named : node o.0 ≡ node n = sym o.1 ∙ is in
    let same : o.0 ≡ n = cc in
    subst (λ (a : Node). IsInside z (cell.Node a) × claim.May v a) same (o.2, o.3)

-- the pass of a view stays at a beginning
begun_pass : (z : Sizes) (v : View) (c : Cell) (x : ℕ) → (begin.view_after z v c x).pass ≡ v.pass
begun_pass z v c x = cond_both (x % 4 == 0) _ _ (λ (w : View). w.pass ≡ v.pass) (λ e. refl) (λ e. refl)

-- ---- a step

-- a step of the pass p, whose view was v, by which the words ws become us: there is a view after it, with which all is sound
pub record Moves (z : Sizes) (ws : List ℕ) (f : Views) (p : ℕ) (v : View) (us : List ℕ) (Row : View → View → Type 0) (so : Instant) : Type 0 where
  pub view : View
  pub pass : view.pass ≡ v.pass
  pub row : Row v view
  pub step : (g : Views) → SetsView f p view g → OneStep z p (memory_of z ws) f (memory_of z us) g
  pub sound : (g : Views) → SetsView f p view g → IsSound z (memory_of z us) g
  pub was : (g : Views) → SetsView f p view g → so (memory_of z ws) f (memory_of z us) g

-- the views with one other
abbrev pub with_view : Views → ℕ → View → Views
with_view f p w q = if q == p then Some w else f q

pub with_turned : (f : Views) (p : ℕ) (w : View) → SetsView f p w (with_view f p w)
with_turned f p w = record { here = rw (eq-eqb p p refl) refl; there = λ q other. rw (ne_eqb q p other) refl }

module _ (z : Sizes) (ws : List ℕ) (f : Views) (p : ℕ) (v : View) (r : IsSound z (memory_of z ws) f) (at : f p ≡ Some v) (long : length ws ≡ word_count z) where
  abbrev m : Memory
  m = memory_of z ws

  -- the view of the pass becomes w in a step of one of the kinds, so that all is sound then
  pub moved : (us : List ℕ) (Row : View → View → Type 0) (so : Instant) (w : View) → w.pass ≡ v.pass → Row v w → ((g : Views) → SetsView f p w g → OfAKind z p v m f (memory_of z us) g r.log r.logical)
      → ((g : Views) → SetsView f p w g → so m f (memory_of z us) g) → Moves z ws f p v us Row so
  moved us Row so w pass row kind was = record {
    view = w;
    pass = pass;
    row = row;
    step = λ g t. record { view = v; before = at; sound = r; kind = kind g t };
    sound = λ g t. kind_sound z p v m f (memory_of z us) g at r (kind g t);
    was = was;
  }

  -- ---- steps that change no word

  -- the version word of a cell is found
  pub moves_begins : (c : Cell) (found : ℕ) → begin.May v c → found ≡ m.version c → Moves z ws f p v ws (λ v w. w ≡ begin.view_after z v c found) (FindsVersion c found)
  moves_begins c found may is = moved ws (λ v w. w ≡ begin.view_after z v c found) (FindsVersion c found) (begin.view_after z v c (m.version c)) (begun_pass z v c (m.version c)) (ap (begin.view_after z v c) (sym is)) (λ g t. IsBegin record { cell = c; may = may; words = refl; view = t })
      (λ g t. record { found = is; same = refl })

  -- that of the anchor is found, and all of the history is seen
  pub moves_sees : (found : ℕ) → found ≡ m.version cell.Anchor → Moves z ws f p v ws (λ v w. anchor.Outcome v w × (w.seen ≡ r.log)) (FindsVersion cell.Anchor found)
  moves_sees found is = let mine = r.history.tells p v at in
      moved ws (λ v w. anchor.Outcome v w × (w.seen ≡ r.log)) (FindsVersion cell.Anchor found) (anchor.view_after v r.log) refl
      (record { grows = mine.starts; legal = r.history.legal; own = ap (λ (q : ℕ). places q r.log) mine.pass ∙ mine.own; is = refl }, refl)
      (λ g t. IsAnchor record { words = refl; view = t })
      (λ g t. record { found = is; same = refl })

  -- a word of the stamp's cell is read
  pub moves_reads : (x : Stamp) (i found : ℕ) → read.May v x i → found ≡ m.words x.cell i → Moves z ws f p v ws (λ v w. read.Outcome z v w x i found) (FindsWord x.cell i found)
  moves_reads x i found may is = moved ws (λ v w. read.Outcome z v w x i found) (FindsWord x.cell i found) (read.view_after v x (Word i (m.words x.cell i))) refl
      record { form = subst (IsWordOf z x.cell i) (sym is) (r.formed.words x.cell i); is = ap (λ (word : ℕ). read.view_after v x (Word i word)) (sym is) }
      (λ g t. IsRead record { stamp = x; place = i; may = may; words = refl; view = t })
      (λ g t. record { found = is; same = refl })

  -- a word of a leaf that it names
  pub moves_reads_leaf : (x : Stamp) (l i found : ℕ) → read.MayLeaf z v x l i → found ≡ m.words (cell.Leaf l) i → Moves z ws f p v ws (λ v w. read.LeafOutcome v w x l i found) (FindsWord (cell.Leaf l) i found)
  moves_reads_leaf x l i found may is = moved ws (λ v w. read.LeafOutcome v w x l i found) (FindsWord (cell.Leaf l) i found) (read.view_after v x (LeafWord l i (m.words (cell.Leaf l) i))) refl
      (ap (λ (word : ℕ). read.view_after v x (LeafWord l i word)) (sym is))
      (λ g t. IsReadLeaf record { stamp = x; number = l; place = i; may = may; words = refl; view = t })
      (λ g t. record { found = is; same = refl })

  -- a changed version word is found
  pub moves_fails : (x : Stamp) (found : ℕ) → found ≡ m.version x.cell → Member x v.stamps → found ≢ x.version → Moves z ws f p v ws (λ v w. check.IsChanged v w x found) (FindsVersion x.cell found)
  moves_fails x found is has other =
      let k = without v x in
      moved ws (λ v w. check.IsChanged v w x found) (FindsVersion x.cell found) (check.view_changed v x (m.version x.cell) k.0 k.1) refl
      record { stamps = k.0; notes = k.1; without = k.2; is = ap (λ (word : ℕ). check.view_changed v x word k.0 k.1) (sym is) }
      (λ g t. IsChanged record { stamp = x; stamps = k.0; notes = k.1; has = has; changed = λ e. other (is ∙ e); without = k.2; words = refl; view = t })
      (λ g t. record { found = is; same = refl })

  -- what was seen and made, at an unchanged version word
  told : (g : Views) (x : Stamp) (ys : List Note) (o : Option Deed) → check.MayTell z v x o → HoldsAll v x r.logical → SetsView f p (check.with_event (check.view_unchanged v x ys) r.log o) g → SeesEvent v (check.with_event (check.view_unchanged v x ys) r.log o) o
  told g x ys None tells holds t = (refl, refl)
  told g x ys (Some what) tells holds t = makes f g p v (check.with_event (check.view_unchanged v x ys) r.log (Some what)) r.log what at t r.history refl (tells r.logical (replay r.log) r.shows.shape r.shows.rows holds).0 refl refl

  -- an unchanged version word is found
  pub moves_passes : (x : Stamp) (o : Option Deed) → m.version x.cell ≡ x.version → check.May z v x o → Moves z ws f p v ws (λ v w. check.Unchanged z v w x o) (FindsUnchanged z v x)
  moves_passes x o same may =
      let k : Gathered (IsWay z m f v r) v.stamps = ways z m f v r in
      let paths = are_paths z m f v r in
      let holds = holds_all m r.logical v x (r.vouch p v at) same in
      let w : View = check.with_event (check.view_unchanged v x k.list) r.log o in
      moved ws (λ v w. check.Unchanged z v w x o) (FindsUnchanged z v x) w (ap (λ (u : View). u.pass) (telling_is (check.view_unchanged v x k.list) r.log o))
      record {
        paths = k.list;
        is = telling_is (check.view_unchanged v x k.list) r.log o;
        stamped = λ y i. let a = paths y i in (a.0, (a.1.0, a.1.1));
        led = λ d q i leads. k.each d (note_of d (Starts q)) i (q, refl, leads r.logical r.shows.shape holds);
        vouched = (r.logical, r.shows.shape, holds);
        below = λ d i here. subst (λ (n : ℕ). d.version ≤ n) (ap m.version here ∙ same) ((r.vouch p v at).stamps d i).below;
        told = told (with_view f p w) x k.list o may.tells holds (with_turned f p w);
      }
      (λ g t. IsUnchanged record { stamp = x; paths = k.list; event = o; may = may; found = same; led = paths; words = refl; view = t })
      (λ g t. record { found = sym same; same = refl; logical = r.logical; holder = r.holder; shape = r.shows.shape; holds = holds })
