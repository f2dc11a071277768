-- What lasts from step to step: no cell of the tree is obsolete, and what a pass has found it found at its steps.
use Rattle.std.proofs.Common.{◌≡◌, ◌≢◌, ◌⊎◌, ◌↔◌, ℕ, ◌+◌, ◌-◌, ◌*◌, ◌^◌, ◌%◌, ◌<◌, ◌≤◌, ◌==◌, Bool, true, false, List, [], ◌∷◌, ◌++◌, map, inl, inr, ⊎_elim, refl, sym, ap, ap₂, ◌∙◌, subst, arith}
use Rattle.std.proofs.lemmas.Bool.{cases_eq, cond_both}
use Rattle.std.specs.Prelude.{if◌then◌else◌, IfSome, Option, None, Some}
use Rattle.art_cell.specs.declared.cells.Cell.{Cell}
use Rattle.art_cell.specs.declared.cells.Cell.TheVariants as cell
use Rattle.art_cell.specs.declared.cells.Link.{Link}
use Rattle.art_cell.specs.declared.cells.Link.TheVariants.{Node as node}
use Rattle.art_cell.specs.declared.cells.Node.{Node}
use Rattle.art_cell.specs.declared.cells.Pool.{Pool}
use Rattle.art_tree.proofs.Places.{same_cell, same_link}
use Rattle.art_step.specs.declared.deeds.Deed.{Deed}
use Rattle.art_step.specs.declared.views.Event.{Event}
use Rattle.art_step.specs.declared.views.Found.{Found}
use Rattle.art_step.specs.declared.views.Holding.{Holding}
use Rattle.art_step.specs.declared.views.InHand.{InHand}
use Rattle.art_step.specs.declared.views.Pin.{Pin}
use Rattle.art_step.specs.declared.views.Retired.{Retired}
use Rattle.art_step.specs.declared.views.Sizes.{Sizes}
use Rattle.art_step.specs.declared.views.View.{View}
use Rattle.art_step.specs.declared.views.Word.{Word}
use Rattle.art_step.specs.Effects.{claimed_word, SetsFreeWord, SetsVersion, released_word}
use Rattle.art_step.specs.Opening.{Opens}
use Rattle.art_step.specs.Sound.{InHandOf, InLimboOf, InTree, IsFree, IsSound}
use Rattle.art_step.specs.Steps.{OfAKind, OneStep, IsBegin, IsRead, IsReadLeaf, IsUnchanged, IsChanged, IsUpgrade, IsClaim, IsCommit, IsRelease, IsWrite, IsWriteLeaf, IsTake, IsGive, IsFreed, IsEpoch, IsPin, IsAdvance, IsWatch, IsAnchor}
use Rattle.art_step.specs.Steps.Begin as begin
use Rattle.art_step.specs.Steps.Check as check
use Rattle.art_step.specs.Steps.Claim as claim
use Rattle.art_step.specs.Steps.Commit as commit
use Rattle.art_step.specs.Steps.Commit.{all_retired, retired}
use Rattle.art_step.specs.Steps.Epoch as epoch
use Rattle.art_step.specs.Steps.Give as give
use Rattle.art_step.specs.Steps.Pin as pin
use Rattle.art_step.specs.Steps.Release as release
use Rattle.art_step.specs.Steps.Release.{IsNodeAmong}
use Rattle.art_step.specs.Steps.Take as take_free
use Rattle.art_step.specs.Steps.Upgrade as upgrade
use Rattle.art_step.specs.Steps.Upgrade.{HasClaimedNone}
use Rattle.art_step.specs.Steps.Watch as watch
use Rattle.art_step.specs.Steps.Write as write
use Rattle.art_step.specs.Views.{IsInLimbo, IsLocked, IsObsolete, Member, Memory, SetsView, Views, bit_of, free_bit, free_index, is_free, number_at, pool_of, pool_rank}
use Rattle.art_step.proofs.FreeBits.{SetsFree, frees_number, takes_bit}
use Rattle.art_step.proofs.Gathered.{member_key}
use Rattle.art_step.proofs.SetsView.{each_view, member_back, member_front}
use Rattle.art_step.proofs.StepCommits.{either_member}
use Rattle.art_step.proofs.StepNumbers.{not_free}
use Rattle.art_step.proofs.WordPlaces.{same_pool}
use Rattle.art_world.specs.Lasting.{IsLasting, IsTimely}
use Rattle.art_world.proofs.CommitHolds.{linked_is_locked}
use Rattle.art_world.proofs.LeftOver.{HasNumber, IsElsewhere, left_before, left_is_tree, tree_is_left, tree_is_number}

-- ---- what was found

-- nothing more is found at a step
same_found : (v : View) → IsTimely v → (y : Found) → Member y v.found → y.step ≤ v.steps + 1
same_found v old y i = let low = old y i in omega arith

-- one word more is found at a step
more_found : (v : View) (word : Word) → IsTimely v → (y : Found) → Member y (record { word = word; step = v.steps + 1 } ∷ v.found) → y.step ≤ v.steps + 1
more_found v word old y i = ⊎_elim
    (λ (is : y ≡ record { word = word; step = v.steps + 1 }). let same = ap (λ (x : Found). x.step) is in omega arith)
    (λ (j : Member y v.found). same_found v old y j) i

-- ---- views that have the same numbers

-- the view of a pass before a step and after it
abbrev IsKept : View → View → Type 0
IsKept v w = (w.hand ≡ v.hand) × (w.limbo ≡ v.limbo) × (IsTimely v → IsTimely w)

begun : (z : Sizes) (v : View) (c : Cell) (x : ℕ) → IsKept v (begin.view_after z v c x)
begun z v c x = cond_both (x % 4 == 0) _ _ (IsKept v) (λ e. (refl, refl, λ old. more_found v _ old)) (λ e. (refl, refl, λ old. more_found v _ old))

tells : (v u : View) (log : List Event) (o : Option Deed) → IsKept v u → IsKept v (check.with_event u log o)
tells v u log None k = k
tells v u log (Some what) k = (k.0, k.1, k.2)

pinned : (v : View) (x : ℕ) → IsKept v (pin.view_after v x)
pinned v x = cond_both (x == 0) _ _ (IsKept v) (λ e. (refl, refl, same_found v)) (λ e. (refl, refl, same_found v))

taken_timely : (v : View) (pool : Pool) (i : ℕ) (bit : Option ℕ) (x : ℕ) (ws : List ℕ) → IsTimely v → IsTimely (take_free.view_after v pool i bit x ws)
taken_timely v pool i None x ws old = more_found v _ old
taken_timely v pool i (Some k) x ws old = cond_both (bit_of x k == 1) _ _ IsTimely (λ e. more_found v _ old) (λ e. more_found v _ old)

-- ---- what one step does

module _ (z : Sizes) (p : ℕ) (v : View) (m : Memory) (f : Views) (m' : Memory) (g : Views) where
  -- the view of the pass becomes another; a cell that is obsolete was so, or its node is in the limbo of the pass; and what was
  -- elsewhere as the pass sees it still is, unless it is a node that is locked
  record Turn : Type 0 where
    view : View
    sets : SetsView f p view g
    timely : IsTimely v → IsTimely view
    words : (c : Cell) → IsObsolete (m'.version c) → IsObsolete (m.version c) ⊎ IsNodeAmong c (IsInLimbo view)
    moves : (n : Node) → IsElsewhere m v (node n) → IsElsewhere m' view (node n) ⊎ IsLocked (m.version (cell.Node n))

  same_words : (w : View) → m'.version ≡ m.version → (c : Cell) → IsObsolete (m'.version c) → IsObsolete (m.version c) ⊎ IsNodeAmong c (IsInLimbo w)
  same_words w same c o = inl (subst (λ (versions : Cell → ℕ). IsObsolete (versions c)) same o)

  -- one version word changes
  set_words : (w : View) (c : Cell) (x : ℕ) → SetsVersion m c x m' → (IsObsolete x → IsNodeAmong c (IsInLimbo w)) → (d : Cell) → IsObsolete (m'.version d)
      → IsObsolete (m.version d) ⊎ IsNodeAmong d (IsInLimbo w)
  set_words w c x sets here d o = ⊎_elim
      (λ (is : d ≡ c). inr (subst (λ (e : Cell). IsNodeAmong e (IsInLimbo w)) (sym is) (here (subst IsObsolete (ap m'.version is ∙ sets.here) o))))
      (λ (other : d ≢ c). inl (subst IsObsolete (sets.there d other) o))
      (same_cell d c)

  same_moves : (w : View) → m'.free_word ≡ m.free_word → w.hand ≡ v.hand → w.limbo ≡ v.limbo → (d : Link) → IsElsewhere m v d → IsElsewhere m' w d
  same_moves w free hand limbo d k =
      subst (λ (y : (Pool → ℕ → ℕ) × List InHand × List Retired).
      ((bit_of (y.0 (pool_of d) (free_index d)) (free_bit d) == 1) ≡ true) ⊎ (((x : InHand) × Member x y.1 × (x.link ≡ d)) ⊎ ((e : Retired) × Member e y.2 × (e.link ≡ d))))
      (λ j. (sym free j, sym hand j, sym limbo j)) k

  -- no number moves
  quiet : (w : View) → SetsView f p w g → IsKept v w → m'.free_word ≡ m.free_word
      → ((c : Cell) → IsObsolete (m'.version c) → IsObsolete (m.version c) ⊎ IsNodeAmong c (IsInLimbo w)) → Turn
  quiet w sets kept free words = record { view = w; sets = sets; timely = kept.2; words = words; moves = λ n k. inl (same_moves w free kept.0 kept.1 (node n) k) }

  still : (w : View) → SetsView f p w g → IsKept v w → m'.version ≡ m.version → m'.free_word ≡ m.free_word → Turn
  still w sets kept version free = quiet w sets kept free (same_words w version)

  -- no word changes
  looks : (w : View) → SetsView f p w g → IsKept v w → m' ≡ m → Turn
  looks w sets kept same = still w sets kept (ap (λ (k : Memory). k.version) same) (ap (λ (k : Memory). k.free_word) same)

  -- no word changes, and each place in limbo keeps its link
  looks_at_limbo : (w : View) → SetsView f p w g → (IsTimely v → IsTimely w) → m' ≡ m → w.hand ≡ v.hand → (change : Retired → Retired) → ((e : Retired) → (change e).link ≡ e.link)
      → w.limbo ≡ map change v.limbo → Turn
  looks_at_limbo w sets timely same hand change links limbo = record {
    view = w;
    sets = sets;
    timely = timely;
    words = same_words w (ap (λ (k : Memory). k.version) same);
    moves = λ n k. inl (⊎_elim
        (λ (free : is_free m (node n) ≡ true). inl (subst (λ (y : Memory). is_free y (node n) ≡ true) (sym same) free))
        (λ (has : HasNumber v (node n)). inr (⊎_elim
        (λ (x : (x : InHand) × Member x v.hand × (x.link ≡ node n)). inl (x.0, subst (Member x.0) (sym hand) x.1, x.2))
        (λ (x : IsInLimbo v (node n)). inr (change x.0, subst (Member (change x.0)) (sym limbo) (member_key change v.limbo x.0 x.1), links x.0 ∙ x.2))
        has)) k);
  }

  -- a number becomes free
  frees : (w : View) → SetsView f p w g → (IsTimely v → IsTimely w) → (d : Link) → SetsFree m d true m' → ((e : Link) → e ≢ d → HasNumber v e → HasNumber w e) → Turn
  frees w sets timely d free others = record {
    view = w;
    sets = sets;
    timely = timely;
    words = same_words w free.version;
    moves = λ n k. inl (⊎_elim
        (λ (is : node n ≡ d). inl (ap (is_free m') is ∙ free.here))
        (λ (other : node n ≢ d). ⊎_elim
        (λ (was : is_free m (node n) ≡ true). inl (free.there (node n) other ∙ was))
        (λ (has : HasNumber v (node n)). inr (others (node n) other has)) k)
        (same_link (node n) d));
  }

  -- the hand without the number, or the limbo without it
  less_hand : (w : View) (d : Link) → give.HandsOver v.hand (d ∷ []) w.hand → w.limbo ≡ v.limbo → (e : Link) → e ≢ d → HasNumber v e → HasNumber w e
  less_hand w d rest limbo e other has = ⊎_elim
      (λ (x : (x : InHand) × Member x v.hand × (x.link ≡ e)). inl (x.0, rest.stays x.0 x.1 (λ i. ⊎_elim (λ (is : x.0.link ≡ d). other (sym x.2 ∙ is)) (λ none. none) i), x.2))
      (λ (x : IsInLimbo v e). inr (x.0, subst (Member x.0) (sym limbo) x.1, x.2)) has

  less_limbo : (w : View) (d : Link) → give.LetsGo v.limbo d w.limbo → w.hand ≡ v.hand → (e : Link) → e ≢ d → HasNumber v e → HasNumber w e
  less_limbo w d rest hand e other has = ⊎_elim
      (λ (x : (x : InHand) × Member x v.hand × (x.link ≡ e)). inl (x.0, subst (Member x.0) (sym hand) x.1, x.2))
      (λ (x : IsInLimbo v e). inr (x.0, rest.stays x.0 x.1 (λ is. other (sym x.2 ∙ is)), x.2)) has

  -- a leaf in hand is written: the hand has its number still
  hand_put : (w : View) (y x : InHand) → write.Puts v.hand y x w.hand → x.link ≡ y.link → w.limbo ≡ v.limbo → (d : Link) → HasNumber v d → HasNumber w d
  hand_put w y x puts link limbo d has = ⊎_elim
      (λ (a : (a : InHand) × Member a v.hand × (a.link ≡ d)). ⊎_elim
      (λ (is : y.link ≡ d). inl (x, puts.has, link ∙ is))
      (λ (other : y.link ≢ d). inl (a.0, puts.stays a.0 a.1 (λ same. other (sym (ap (λ (i : InHand). i.link) same) ∙ a.2)), a.2))
      (same_link y.link d))
      (λ (a : IsInLimbo v d). inr (a.0, subst (Member a.0) (sym limbo) a.1, a.2)) has

-- ---- a number is taken

-- a word of free numbers that is set to what it was
same_free_words : (m m' : Memory) (pool : Pool) (i : ℕ) → SetsFreeWord m pool i (m.free_word pool i) m' → m'.free_word ≡ m.free_word
same_free_words m m' pool i sets = λ k q j. word q j k
  where
    word : (q : Pool) (j : ℕ) → m'.free_word q j ≡ m.free_word q j
    word q j = ⊎_elim
        (λ (rank : pool_rank q ≡ pool_rank pool). ⊎_elim
        (λ (index : j ≡ i).
        let same : q ≡ pool = same_pool q pool rank in
        ap₂ m'.free_word same index ∙ (sets.here ∙ ap₂ m.free_word (sym same) (sym index)))
        (λ (apart : j ≢ i). sets.there q j (λ same index. apart index))
        (cases_eq j i))
        (λ (apart : pool_rank q ≢ pool_rank pool). sets.there q j (λ same index. apart (ap pool_rank same)))
        (cases_eq (pool_rank q) (pool_rank pool))

module _ (z : Sizes) (p : ℕ) (v : View) (m : Memory) (f : Views) (m' : Memory) (g : Views) (pool : Pool) (i : ℕ) (copy : List ℕ) where
  abbrev word : ℕ
  word = m.free_word pool i

  -- what was elsewhere as the pass sees it still is
  abbrev Keeps : View → Type 0
  Keeps w = (d : Link) → IsElsewhere m v d → IsElsewhere m' w d

  word_stays : (w : View) → SetsFreeWord m pool i word m' → w.hand ≡ v.hand → w.limbo ≡ v.limbo → Keeps w
  word_stays w sets hand limbo = same_moves z p v m f m' g w (same_free_words m m' pool i sets) hand limbo

  -- the view where the bit was set, and where it was not
  abbrev with_number : ℕ → View
  with_number k = record (take_free.view_noted v pool i word) { hand = record { link = number_at pool i k; words = copy } ∷ v.hand }

  abbrev without_number : ℕ → View
  without_number k = record (take_free.view_noted v pool i word) { failures = v.failures + bit_of (take_free.last_found pool i v.found) k }

  by_test : (k : ℕ) → k < 64 → (b : Bool) → (bit_of word k == 1) ≡ b → SetsFreeWord m pool i (if b then word - 2 ^ k else word) m'
      → Keeps (if b then with_number k else without_number k)
  by_test k low true bit sets d e =
      let c : Link = number_at pool i k in
      let taken : SetsFree m c false m' = takes_bit m m' pool i k low bit sets in
      ⊎_elim
      (λ (is : d ≡ c). inr (inl (record { link = c; words = copy }, inl refl, sym is)))
      (λ (other : d ≢ c). ⊎_elim
      (λ (free : is_free m d ≡ true). inl (taken.there d other ∙ free))
      (λ (has : HasNumber v d). inr (⊎_elim
      (λ (x : (x : InHand) × Member x v.hand × (x.link ≡ d)). inl (x.0, inr x.1, x.2))
      (λ (x : IsInLimbo v d). inr x) has)) e)
      (same_link d c)
  by_test k low false bit sets d e = word_stays (without_number k) sets refl refl d e

  taken_moves : (bit : Option ℕ) → IfSome bit (λ k. k < 64) → SetsFreeWord m pool i (take_free.without_bit bit word) m' → Keeps (take_free.view_after v pool i bit word copy)
  taken_moves None low sets = word_stays (take_free.view_noted v pool i word) sets refl refl
  taken_moves (Some k) low sets = by_test k low (bit_of word k == 1) refl sets

-- ---- a cell is released

-- a locked word is obsolete after its release only where the cell becomes so
released_obsolete : (x : ℕ) (b : Bool) → IsLocked x → IsObsolete (released_word x b) → b ≡ true
released_obsolete x true locked o = refl
released_obsolete x false locked o = absurd (omega arith)

retires : (ks : List Pin) (us : List Link) (d : Link) → Member d us → Member (retired ks d) (all_retired ks us)
retires ks [] d i = absurd i
retires ks (e ∷ us) d i = ⊎_elim (λ (is : d ≡ e). inl (ap (retired ks) is)) (λ (j : Member d us). inr (retires ks us d j)) i

-- ---- each kind of step

module _ (z : Sizes) (p : ℕ) (v : View) (m : Memory) (f : Views) (m' : Memory) (g : Views) (at : f p ≡ Some v) (r : IsSound z m f) where
  abbrev Turns : Type 0
  Turns = Turn z p v m f m' g

  upgrades : upgrade.Step z p v m f m' g → Turns
  upgrades k =
      let clear = ((r.vouch p v at).stamps k.stamp k.may.stamp).clear in
      quiet z p v m f m' g _ k.view (refl, refl, more_found v _) k.locks.sets.free
      (set_words z p v m f m' g (upgrade.view_after v k.stamp k.copy) k.stamp.cell (k.stamp.version + 2) k.locks.sets (λ o. absurd (omega (arith, clear, o))))

  claims : claim.Step z p v m f m' g → Turns
  claims k =
      quiet z p v m f m' g _ k.view (refl, refl, same_found v) k.locks.free
      (set_words z p v m f m' g (claim.view_after v k.node k.copy) (cell.Node k.node) claimed_word k.locks (λ o. absurd (omega (arith, o))))

  releases : release.Step z p v m f m' g → Turns
  releases k =
      let locked = ((r.holder.holds p v at).keeps k.holding k.may.0).locked in
      quiet z p v m f m' g _ k.view (refl, refl, same_found v) k.unlocks.free
      (set_words z p v m f m' g (release.view_after v k.held) k.holding.cell (released_word (m.version k.holding.cell) k.obsolete) k.unlocks
      (λ o. goes (released_obsolete (m.version k.holding.cell) k.obsolete locked o)))
    where
      goes : k.obsolete ≡ true → IsNodeAmong k.holding.cell (IsInLimbo v)
      goes is = ⊎_elim
          (λ (a : (v.committed ≡ true) × ((k.obsolete ≡ true) ↔ IsNodeAmong k.holding.cell (IsInLimbo v))). a.1.0 is)
          (λ (a : (v.committed ≡ false) × (k.obsolete ≡ false) × ((h : Holding) → Member h v.held → h.new ≡ h.old) × HasClaimedNone v). let stays = a.1 in absurd (cc))
          k.may.1

  commits : commit.Step z p v m f m' g r.log → Turns
  commits k =
      let locked = ((r.holder.holds p v at).keeps k.holding k.first.held).locked in
      record {
        view = w;
        sets = k.view;
        timely = same_found v;
        words = set_words z p v m f m' g w k.holding.cell (released_word (m.version k.holding.cell) k.obsolete) k.unlocks
            (λ o. goes (released_obsolete (m.version k.holding.cell) k.obsolete locked o));
        moves = λ n e. ⊎_elim
            (λ (free : is_free m (node n) ≡ true). inl (inl (subst (λ (words : Pool → ℕ → ℕ). (bit_of (words (pool_of (node n)) (free_index (node n))) (free_bit (node n)) == 1) ≡ true) (sym k.unlocks.free) free)))
            (λ (has : HasNumber v (node n)). ⊎_elim
            (λ (x : (x : InHand) × Member x v.hand × (x.link ≡ node n)). ⊎_elim
            (λ (comes : Member (node n) k.linked). inr (linked_is_locked z m f p v at r k.what k.unlinked k.linked k.may k.first.early n comes))
            (λ (stays : Member (node n) k.linked → ⊥). inl (inr (inl (x.0, k.hands.stays x.0 x.1 (λ i. stays (subst (λ (d : Link). Member d k.linked) x.2 i)), x.2))))
            (either_member (node n) k.linked))
            (λ (x : IsInLimbo v (node n)). inl (inr (inr (x.0, member_back x.0 (all_retired k.pins k.unlinked) v.limbo x.1, x.2))))
            has) e;
      }
    where
      w : View
      w = commit.view_after v r.log k.what k.held k.hand (all_retired k.pins k.unlinked ++ v.limbo)

      goes : k.obsolete ≡ true → IsNodeAmong k.holding.cell (IsInLimbo w)
      goes is =
          let a = k.first.obsolete.0 is in
          (a.0, a.1, (retired k.pins (node a.0), member_front _ (all_retired k.pins k.unlinked) v.limbo (retires k.pins k.unlinked (node a.0) a.2), refl))

  turn : OfAKind z p v m f m' g r.log r.logical → Turns
  turn (IsBegin k) = looks z p v m f m' g _ k.view (begun z v k.cell (m.version k.cell)) k.words
  turn (IsRead k) = looks z p v m f m' g _ k.view (refl, refl, same_found v) k.words
  turn (IsReadLeaf k) = looks z p v m f m' g _ k.view (refl, refl, same_found v) k.words
  turn (IsUnchanged k) = looks z p v m f m' g _ k.view (tells v (check.view_unchanged v k.stamp k.paths) r.log k.event (refl, refl, more_found v _)) k.words
  turn (IsChanged k) = looks z p v m f m' g _ k.view (refl, refl, more_found v _) k.words
  turn (IsUpgrade k) = upgrades k
  turn (IsClaim k) = claims k
  turn (IsCommit k) = commits k
  turn (IsRelease k) = releases k
  turn (IsWrite k) = still z p v m f m' g _ k.view (refl, refl, same_found v) k.word.version k.word.free
  turn (IsWriteLeaf k) = record {
    view = write.view_after_leaf v k.hand;
    sets = k.view;
    timely = same_found v;
    words = same_words z p v m f m' g (write.view_after_leaf v k.hand) k.word.version;
    moves = λ n e. inl (⊎_elim
        (λ (free : is_free m (node n) ≡ true). inl (subst (λ (words : Pool → ℕ → ℕ). (bit_of (words (pool_of (node n)) (free_index (node n))) (free_bit (node n)) == 1) ≡ true) (sym k.word.free) free))
        (λ (has : HasNumber v (node n)). inr (hand_put z p v m f m' g (write.view_after_leaf v k.hand) k.leaf (write.with_leaf_word k.leaf k.place k.value) k.puts refl refl (node n) has)) e);
  }
  turn (IsTake k) = record {
    view = take_free.view_after v k.pool k.index k.bit (m.free_word k.pool k.index) k.copy;
    sets = k.view;
    timely = taken_timely v k.pool k.index k.bit (m.free_word k.pool k.index) k.copy;
    words = same_words z p v m f m' g (take_free.view_after v k.pool k.index k.bit (m.free_word k.pool k.index) k.copy) k.sets.version;
    moves = λ n e. inl (taken_moves z p v m f m' g k.pool k.index k.copy k.bit k.may.low k.sets (node n) e);
  }
  turn (IsGive k) =
      let was : r.at k.link ≡ InHandOf p = ap r.at (sym k.may.hand.2) ∙ (r.numbers.accounts p v at).hand k.may.hand.0 k.may.hand.1 in
      frees z p v m f m' g (give.view_after v k.hand) k.view (same_found v) k.link (frees_number m f m' g k.link (not_free z m f r k.link (InHandOf p) was (λ e. cc)) k.sets)
      (less_hand z p v m f m' g (give.view_after v k.hand) k.link k.rest refl)
  turn (IsFreed k) =
      let was : r.at k.link ≡ InLimboOf p = ap r.at (sym k.may.link) ∙ (r.numbers.accounts p v at).limbo k.may.place k.may.limbo in
      frees z p v m f m' g (give.view_freed v k.limbo) k.view (same_found v) k.link (frees_number m f m' g k.link (not_free z m f r k.link (InLimboOf p) was (λ e. cc)) k.sets)
      (less_limbo z p v m f m' g (give.view_freed v k.limbo) k.link k.rest refl)
  turn (IsEpoch k) = looks_at_limbo z p v m f m' g (epoch.view_after v m.epoch) k.view (same_found v) k.words refl (epoch.labelled m.epoch) (λ e. refl) refl
  turn (IsPin k) = still z p v m f m' g _ k.view (pinned v k.word) k.sets.version k.sets.free
  turn (IsAdvance k) = still z p v m f m' g _ k.view (refl, refl, same_found v) k.sets.version k.sets.free
  turn (IsWatch k) = looks_at_limbo z p v m f m' g (watch.view_after v k.pass (m.pass_word k.pass)) k.view (more_found v _) k.words refl (watch.watched k.pass (m.pass_word k.pass)) (λ e. refl) refl
  turn (IsAnchor k) = looks z p v m f m' g _ k.view (refl, refl, same_found v) k.words

  -- so all lasts
  lasts : Turns → IsLasting z m f → IsLasting z m' g
  lasts k old = record {
    gone = record {
      anchor = λ o. ⊎_elim
          (λ (was : IsObsolete (m.version cell.Anchor)). old.gone.anchor was)
          (λ (a : IsNodeAmong cell.Anchor (IsInLimbo k.view)). let e = a.1 in absurd (cc))
          (k.words cell.Anchor o);
      nodes = node_lasts;
    };
    timely = each_view f g p k.view k.sets (λ q u. IsTimely u) (k.timely (old.timely p v at)) (λ q u other is. old.timely q u is);
  }
    where
      node_lasts : (r' : IsSound z m' g) (n : Node) → r'.at (node n) ≡ InTree → IsObsolete (m'.version (cell.Node n)) → ⊥
      node_lasts r' n tree o =
          let left = tree_is_left z m' g r' (node n) tree in
          ⊎_elim
          (λ (was : IsObsolete (m.version (cell.Node n))).
          let before = left_before m m' f g p v k.view (node n) at k.sets (λ e. ⊎_elim
          (λ (still : IsElsewhere m' k.view (node n)). still)
          (λ (locked : IsLocked (m.version (cell.Node n))). absurd (omega (arith, was, locked)))
          (k.moves n e)) left in
          old.gone.nodes r n (left_is_tree z m f r (node n) p v at (tree_is_number z m' g r' (node n) tree) before) was)
          (λ (a : IsNodeAmong (cell.Node n) (IsInLimbo k.view)).
          let same : a.0 ≡ n = let e = a.1 in cc in
          left p k.view k.sets.here (inr (inr (subst (λ (b : Node). IsInLimbo k.view (node b)) same a.2))))
          (k.words (cell.Node n) o)

-- what lasts before a step lasts after it
pub lasting_on : (z : Sizes) (p : ℕ) (m : Memory) (f : Views) (m' : Memory) (f' : Views) → OneStep z p m f m' f' → IsLasting z m f → IsLasting z m' f'
lasting_on z p m f m' f' t old = lasts z p t.view m f m' f' t.before t.sound (turn z p t.view m f m' f' t.before t.sound t.kind) old

-- ---- at opening

-- the anchor is clear, all numbers are free, and nothing was found
pub lasting_opens : (z : Sizes) (m : Memory) (f : Views) → Opens z m f → IsLasting z m f
lasting_opens z m f o = record {
  gone = record {
    anchor = λ old. let e : m.version cell.Anchor ≡ 4 * o.anchor.0 = o.anchor.2 in omega arith;
    nodes = λ r n tree old.
        let free = (o.free (node n)).1 (tree_is_number z m f r (node n) tree) in
        let e : InTree ≡ IsFree = sym tree ∙ (r.numbers.free (node n)).1 free in absurd (cc);
  };
  timely = λ p v is y i. absurd (subst (λ (u : View). Member y u.found) (o.views p v is).1 i);
}
