-- The steps of a pass that change a word: one lemma for each kind, whatever function the views are.
use Rattle.std.proofs.Common.{◌≡◌, ◌≢◌, ◌⊎◌, ℕ, ◌+◌, ◌%◌, ◌<◌, ◌≤◌, Bool, true, false, if◌then◌else◌, List, [], ◌∷◌, ◌++◌, length, map, set, inl, inr, ⊎_elim, sym, refl, ap, ◌∙◌, subst, arith}
use Rattle.std.proofs.lemmas.Bool.{cases_eq}
use Rattle.std.specs.FinMap.{empty}
use Rattle.std.specs.Prelude.{Option, Some}
use Rattle.art_cell.specs.declared.cells.Node.{Node}
use Rattle.art_cell.specs.declared.cells.Cell.{Cell}
use Rattle.art_cell.specs.declared.cells.Cell.TheVariants as cell
use Rattle.art_cell.specs.declared.cells.Link.{Link}
use Rattle.art_cell.specs.declared.cells.Link.TheVariants.{Leaf as leaf, Node as node}
use Rattle.art_step.specs.declared.views.Event.{Event}
use Rattle.art_step.specs.declared.views.Fact.TheVariants.{Word}
use Rattle.art_step.specs.declared.views.Holding.{Holding}
use Rattle.art_step.specs.declared.views.InHand.{InHand}
use Rattle.art_step.specs.declared.views.Pin.{Pin}
use Rattle.art_step.specs.declared.views.Sizes.{Sizes}
use Rattle.art_step.specs.declared.views.Stamp.{Stamp}
use Rattle.art_step.specs.declared.views.View.{View}
use Rattle.art_step.specs.declared.deeds.Deed.{Deed}
use Rattle.art_tree.specs.Heaps.{Cells}
use Rattle.art_step.specs.Histories.{event, IsAnswered, becomes, run, replay, IsLegalFrom, IsLegal}
use Rattle.art_step.specs.Effects.{LocksClaimed, LocksStamped, PutsWord, Unlocks, SetsVersion, SetsWord, claimed_word, released_word}
use Rattle.art_tree.specs.Rows.{ByteMap}
use Rattle.art_step.specs.Views.{IsHolding, IsInHand, IsWordOf, note_of, IsNotHeld, SetsView}
use Rattle.art_step.specs.Steps.Upgrade as upgrade
use Rattle.art_step.specs.Steps.Claim as claim
use Rattle.art_step.specs.Steps.Write as write
use Rattle.art_step.specs.Steps.Release as release
use Rattle.art_step.specs.Steps.Commit as commit
use Rattle.art_step.specs.Steps.Commit.{coming, AllNew, AreStanding, all_retired, RetiresPinned, UnlocksFirst}
use Rattle.art_step.specs.Sound.{IsOneHistory, HoldsEach, Holder, Keeps, OneHolder, IsSound, InTree, InHandOf, InLimboOf}
use Rattle.art_step.specs.Steps.{OfAKind, IsUpgrade, IsClaim, IsCommit, IsRelease, IsWrite, IsWriteLeaf}
use Rattle.art_step.specs.Steps.Write.{with_word, with_leaf_word}
use Rattle.art_step.specs.Steps.Release.{Drops}
use Rattle.art_step.specs.Steps.Give.{HandsOver}
use Rattle.art_step.specs.Views.{Member, Memory, IsClear, IsInLimbo, IsLocked, IsNotInHand, IsOnce, cell_named, links_in_hand, size_of, Views, words_in, SetsView}
use Rattle.art_cell.specs.Words.{Words}
use Rattle.art_step.specs.WordPlaces.{word_count, IsInside, place_of, first_place}
use Rattle.art_step.specs.WordRows.{memory_of}
use Rattle.art_step.proofs.AnyStep.{kind_sound}
use Rattle.art_step.proofs.SoundParts.{one_entry}
use Rattle.art_step.proofs.Gathered.{left_over, put, same_keys, sifted, swap}
use Rattle.art_tree.proofs.Places.{same_cell, same_link}
use Rattle.art_step.proofs.StepCommits.{either_member, retired_of}
use Rattle.art_step.proofs.StepLocks.{no_leaf}
use Rattle.art_step.proofs.SetsView.{member_append, one_view}
use Rattle.art_step.proofs.WordRows.{IsNoLeaf, sets_version, sets_word, copy_of, is_copy, copy_version}
use Rattle.art_step.proofs.Moves.{Moves, makes, moved, with_view, with_turned}

pub first_low : (c : Cell) → first_place c ≤ 1
first_low cell.Anchor = omega arith
first_low (cell.Leaf l) = omega arith
first_low (cell.Node n) = omega arith

-- ---- what a pass keeps at a release

-- the holdings of other cells
dropped : (hs : List Holding) (c : Cell) → (rest : List Holding) × Drops hs c rest
dropped hs c =
    let k = left_over (λ (h : Holding). h.cell ≡ c) hs (λ h. same_cell h.cell c) in
    (k.0, record { was = λ h. (k.1 h).0; stays = λ h i other. (k.1 h).1 (i, other) })

-- the numbers in hand that do not come into the tree
pub handed_over : (xs : List InHand) (ls : List Link) → (rest : List InHand) × HandsOver xs ls rest
handed_over xs ls =
    let k = sifted (λ (x : InHand). x.link) (λ (x : InHand). Member x.link ls) xs (λ x. either_member x.link ls) in
    (k.0, record { was = λ x. (k.1 x).0; stays = λ x i other. (k.1 x).1 (i, other); once = k.2 })

-- ---- the event of a commit

answered_from : (s : ByteMap) (before after : List Event) (e : Event) → IsLegalFrom s ((before ++ e ∷ []) ++ after) → IsAnswered (run s before) e.what
answered_from s [] after e legal = legal.0
answered_from s (x ∷ before) after e legal = answered_from (becomes s x.what) before after e legal.1

-- the last event that a pass has seen is what the map answers after those before it
answered : (log before : List Event) (f : Views) (p : ℕ) (v : View) (e : Event) → IsOneHistory log f → f p ≡ Some v → v.seen ≡ before ++ e ∷ [] → IsAnswered (replay before) e.what
answered log before f p v e history is seen =
    let starts = (history.tells p v is).starts in
    answered_from empty before starts.0 e (subst IsLegal (starts.1 ∙ ap (λ (l : List Event). l ++ starts.0) seen) history.legal)

-- ---- the logical words at a commit

-- what is locked no longer is so after its release
released_free : (x : ℕ) (obsolete : Bool) → IsLocked x → IsLocked (released_word x obsolete) → ⊥
released_free x true was is = omega arith
released_free x false was is = omega arith

-- a cell of a holding is released, and the pass has committed: s are the logical words before that, and t those after it
module _ (m m' : Memory) (f g : Views) (p : ℕ) (v w : View) (h₀ : Holding) (obsolete : Bool) (s t : Cells) (is-v : f p ≡ Some v) (turn : SetsView f p w g)
    (held : Member h₀ v.held) (drops : Drops v.held h₀.cell w.held) (done : w.committed ≡ true) (sets : SetsVersion m h₀.cell (released_word (m.version h₀.cell) obsolete) m')
    (before : OneHolder m f s) (after : OneHolder m' g t) where
  keeps : (h : Holding) → Member h v.held → Keeps m s v.committed h
  keeps = (before.holds p v is-v).keeps

  -- the cell that is released has its shared words, which are the new ones of its holding
  released : (h : Holding) → Member h v.held → h.cell ≡ h₀.cell → t h.cell ≡ words_in h.new
  released h i is =
      let free : IsLocked (m'.version h.cell) → ⊥ = λ locked. released_free (m.version h₀.cell) obsolete (keeps h₀ held).locked (subst IsLocked (ap m'.version is ∙ sets.here) locked) in
      after.at_rest h.cell free ∙ (ap (λ (a : Cells). a h.cell) sets.words ∙ (keeps h i).new)

  -- one that the pass goes on holding has the new words of its holding
  stays : (h : Holding) → Member h v.held → h.cell ≢ h₀.cell → t h.cell ≡ words_in h.new
  stays h i other = ((after.holds p w turn.here).keeps h (drops.stays h i other)).logical ∙ ap (λ (b : Bool). words_in (if b then h.new else h.old)) done

  -- the view of another pass that holds a cell stays, and so do the words of the cell
  of_others : (c : Cell) → IsNotHeld v.held c → Holder f c → t c ≡ s c
  of_others c free o =
      let other : o.pass ≢ p = λ is. free o.holding (subst (λ (u : View). Member o.holding u.held) (one_view f o.pass p o.view v is o.is is-v) o.holds) o.cell in
      let was = ((before.holds o.pass o.view o.is).keeps o.holding o.holds).logical in
      let now = ((after.holds o.pass o.view (turn.there o.pass other ∙ o.is)).keeps o.holding o.holds).logical in
      subst (λ (d : Cell). t d ≡ s d) o.cell (now ∙ sym was)

  -- a cell that nobody holds has its shared words, which stay
  of_nobody : (c : Cell) → c ≢ h₀.cell → (IsLocked (m.version c) → ⊥) → t c ≡ s c
  of_nobody c other free = after.at_rest c (λ locked. free (subst IsLocked (sets.there c other) locked)) ∙ (ap (λ (a : Cells). a c) sets.words ∙ sym (before.at_rest c free))

  all_new : AllNew v.held s t
  all_new = record {
    here = λ h i. ⊎_elim (released h i) (stays h i) (same_cell h.cell h₀.cell);
    there = λ c free. ⊎_elim
        (λ (locked : m.version c % 4 ≡ 2). of_others c free (before.holder c locked))
        (λ (rests : m.version c % 4 ≢ 2). of_nobody c (λ e. free h₀ held (sym e)) rests)
        (cases_eq (m.version c % 4) 2);
  }

module _ (z : Sizes) (ws : List ℕ) (f : Views) (p : ℕ) (v : View) (r : IsSound z (memory_of z ws) f) (at : f p ≡ Some v) (long : length ws ≡ word_count z) where
  abbrev m : Memory
  m = memory_of z ws

  -- ---- locks

  -- a cell with an unchanged stamp is no leaf
  stamped_plain : (x : Stamp) → m.version x.cell ≡ x.version → Member x v.stamps → IsNoLeaf x.cell
  stamped_plain x same stamp =
      let clear = ((r.vouch p v at).stamps x stamp).clear in
      no_leaf z m f x.cell r.formed (λ obsolete. omega arith)

  -- a number that is in the tree is in no hand and in no limbo
  in_tree_apart : (d : Link) → r.at d ≡ InTree → IsNotInHand v d × (IsInLimbo v d → ⊥)
  in_tree_apart d tree = (
    λ i member is. let hand : InTree ≡ InHandOf p = sym tree ∙ (ap r.at (sym is) ∙ (r.numbers.accounts p v at).hand i member) in absurd (cc),
    λ e. let limbo : InTree ≡ InLimboOf p = sym tree ∙ (ap r.at (sym e.2) ∙ (r.numbers.accounts p v at).limbo e.0 e.1) in absurd (cc),
  )

  -- nor is that of a cell whose word is clear
  clear_apart : (c : Cell) (d : Link) → IsClear (m.version c) → cell_named d ≡ c → IsNotInHand v d × (IsInLimbo v d → ⊥)
  clear_apart c d clear is = in_tree_apart d (r.unstamped.clear d (subst (λ (e : Cell). IsClear (m.version e)) (sym is) clear))

  -- and a number in hand is in no limbo
  hand_apart : (d : Link) → (x : InHand) × Member x v.hand × (x.link ≡ d) → IsInLimbo v d → ⊥
  hand_apart d x e =
      let hand : r.at d ≡ InHandOf p = ap r.at (sym x.2) ∙ (r.numbers.accounts p v at).hand x.0 x.1 in
      let limbo : InHandOf p ≡ InLimboOf p = sym hand ∙ (ap r.at (sym e.2) ∙ (r.numbers.accounts p v at).limbo e.0 e.1) in
      absurd (cc)

  -- a stamped cell is locked
  pub moves_upgrades : (x : Stamp) → IsInside z x.cell → m.version x.cell ≡ x.version → upgrade.May v x → Moves z ws f p v (set ws (place_of z x.cell) (x.version + 2)) (λ v w. upgrade.Locks v w x) (LocksStamped x)
  moves_upgrades x there stays may =
      let clear = ((r.vouch p v at).stamps x may.stamp).clear in
      let us : List ℕ = set ws (place_of z x.cell) (x.version + 2) in
      let plain = stamped_plain x stays may.stamp in
      let sets : SetsVersion m x.cell (x.version + 2) (memory_of z us) = sets_version z ws x.cell (x.version + 2) there plain long in
      let copy = is_copy z ws x.cell in
      let words : List ℕ = copy_of z ws x.cell in
      moved z ws f p v r at long us (λ v w. upgrade.Locks v w x) (LocksStamped x) (upgrade.view_after v x words) refl
      record {
        limit = may.limit;
        words = words;
        long = copy.long;
        version = copy_version z ws x.cell plain;
        agrees = λ i value j. ap (λ (w : Words). w i) (sym copy.words ∙ sym (r.holder.at_rest x.cell (λ locked. omega arith))) ∙ ((r.vouch p v at).notes (note_of x (Word i value)) j).same stays;
        apart = λ d. clear_apart x.cell d (subst IsClear (sym stays) clear);
        is = refl;
      }
      (λ g t. IsUpgrade record { stamp = x; copy = words; may = may; copied = copy; locks = record { found = sym stays; sets = sets }; view = t })
      (λ g t. record { found = sym stays; sets = sets })

  -- a node in hand is locked
  pub moves_claims : (n : Node) → IsInside z (cell.Node n) → claim.May v n → Moves z ws f p v (set ws (place_of z (cell.Node n)) claimed_word) (λ v w. claim.Outcome v w n) (LocksClaimed n)
  moves_claims n there may =
      let c : Cell = cell.Node n in
      let copy = is_copy z ws c in
      let words : List ℕ = copy_of z ws c in
      let us : List ℕ = set ws (place_of z c) claimed_word in
      let sets : SetsVersion m c claimed_word (memory_of z us) = sets_version z ws c claimed_word there (λ l e. cc) long in
      moved z ws f p v r at long us (λ v w. claim.Outcome v w n) (LocksClaimed n) (claim.view_after v n words) refl
      record { words = words; long = copy.long; version = copy_version z ws c (λ l e. cc); apart = hand_apart (node n) may.hand; is = refl }
      (λ g t. IsClaim record { node = n; copy = words; may = may; copied = copy; locks = sets; view = t })
      (λ g t. sets)

  -- ---- writes

  -- a word of a cell that is held is written
  pub moves_writes : (c : Cell) (h : Holding) (i x : ℕ) → IsInside z c → h.cell ≡ c → write.May v h i → IsWordOf z c i x
      → Moves z ws f p v (set ws (place_of z c + i) x) (λ v w. (k : Holding) → IsHolding v c k → write.Outcome v w k i x) (PutsWord c i x)
  moves_writes c h i x there of may form =
      let Row : View → View → Type 0 = λ v w. (k : Holding) → IsHolding v c k → write.Outcome v w k i x in
      let single = (r.holder.holds p v at).single in
      let key : Holding → Cell = λ k. k.cell in
      let decide : (k : Holding) → (key k ≡ key h) ⊎ (key k ≢ key h) = λ k. same_cell k.cell h.cell in
      let held : List Holding = map (swap key h (with_word h i x) decide) v.held in
      let puts = put key h (with_word h i x) decide v.held may.held (λ k j e. single k h j may.held e) in
      let us : List ℕ = set ws (place_of z c + i) x in
      let low = first_low c in
      let small : i < size_of c = subst (λ (d : Cell). i < size_of d) of may.place.1 in
      let sets : SetsWord m c i x (memory_of z us) = sets_word z ws c i x there (let positive = may.place.0 in omega (arith, low)) small long in
      let of_holding : SetsWord m h.cell i x (memory_of z us) = subst (λ (d : Cell). SetsWord m d i x (memory_of z us)) (sym of) sets in
      moved z ws f p v r at long us Row (PutsWord c i x) (write.view_after v held) refl
      (λ k a. subst (λ (j : Holding). write.Outcome v (write.view_after v held) j i x) (single h k may.held a.0 (of ∙ sym a.1)) record { held = held; puts = puts; is = refl })
      (λ g t. IsWrite record { holding = h; held = held; place = i; value = x; may = may; form = subst (λ (d : Cell). IsWordOf z d i x) (sym of) form; puts = puts; word = of_holding; view = t })
      (λ g t. sets)

  -- a word of a leaf in hand is written
  pub moves_writes_leaf : (y : InHand) (l i x : ℕ) → l < z.leaves → write.MayLeaf v y l i → IsWordOf z (cell.Leaf l) i x
      → Moves z ws f p v (set ws (place_of z (cell.Leaf l) + i) x) (λ v w. (a : InHand) → IsInHand v (leaf l) a → write.LeafOutcome v w a i x) (PutsWord (cell.Leaf l) i x)
  moves_writes_leaf y l i x there may form =
      let Row : View → View → Type 0 = λ v w. (a : InHand) → IsInHand v (leaf l) a → write.LeafOutcome v w a i x in
      let one = one_entry m r.at p v l in
      let k = r.numbers.accounts p v at in
      let key : InHand → Link = λ a. a.link in
      let decide : (a : InHand) → (key a ≡ key y) ⊎ (key a ≢ key y) = λ a. same_link a.link y.link in
      let hand : List InHand = map (swap key y (with_leaf_word y i x) decide) v.hand in
      let puts = put key y (with_leaf_word y i x) decide v.hand may.hand (λ a j e. one a y k j may.hand (e ∙ may.leaf) may.leaf) in
      let once : IsOnce (links_in_hand v.hand) → IsOnce (links_in_hand hand) = subst IsOnce (sym (same_keys key y (with_leaf_word y i x) decide refl v.hand)) in
      let us : List ℕ = set ws (place_of z (cell.Leaf l) + i) x in
      let sets : SetsWord m (cell.Leaf l) i x (memory_of z us) = sets_word z ws (cell.Leaf l) i x there (omega arith) may.place long in
      moved z ws f p v r at long us Row (PutsWord (cell.Leaf l) i x) (write.view_after_leaf v hand) refl
      (λ a o. subst (λ (b : InHand). write.LeafOutcome v (write.view_after_leaf v hand) b i x) (one y a k may.hand o.0 may.leaf o.1) record { hand = hand; puts = puts; is = refl })
      (λ g t. IsWriteLeaf record { leaf = y; hand = hand; number = l; place = i; value = x; may = may; form = form; puts = puts; once = once; word = sets; view = t })
      (λ g t. sets)

  -- ---- releases

  mine : HoldsEach m r.logical v
  mine = r.holder.holds p v at

  -- a held cell is locked, so that its version word is far below the greatest
  pub released_fits : (c : Cell) (h : Holding) → h.cell ≡ c → Member h v.held → m.version c < 18446744073709551613
  released_fits c h is i =
      let small = (r.formed.versions h.cell).locked (mine.keeps h i).locked in
      subst (λ (d : Cell). m.version d < 18446744073709551613) is (omega arith)

  -- and it is no leaf
  pub held_plain : (c : Cell) (h : Holding) → h.cell ≡ c → Member h v.held → IsNoLeaf c
  held_plain c h of i = let locked = subst (λ (d : Cell). IsLocked (m.version d)) of (mine.keeps h i).locked in no_leaf z m f c r.formed (λ old. omega arith)

  -- its version word goes on
  abbrev after : Cell → Bool → List ℕ
  after c obsolete = set ws (place_of z c) (released_word (m.version c) obsolete)

  release_sets : (c : Cell) (h : Holding) (obsolete : Bool) → h.cell ≡ c → Member h v.held → IsInside z c → SetsVersion m c (released_word (m.version c) obsolete) (memory_of z (after c obsolete))
  release_sets c h obsolete of i there = sets_version z ws c (released_word (m.version c) obsolete) there (held_plain c h of i) long

  -- a later release, or one of a change that is given up
  moves_released : (h : Holding) (obsolete : Bool) → release.May v h obsolete → IsInside z h.cell
      → Moves z ws f p v (after h.cell obsolete) (λ v w. (k : Holding) → IsHolding v h.cell k → release.Outcome v w k) (Unlocks h.cell obsolete)
  moves_released h obsolete may there =
      let rest = dropped v.held h.cell in
      let sets = release_sets h.cell h obsolete refl may.0 there in
      moved z ws f p v r at long (after h.cell obsolete) (λ v w. (k : Holding) → IsHolding v h.cell k → release.Outcome v w k) (Unlocks h.cell obsolete) (write.view_after v rest.0) refl
      (λ k a. record { held = rest.0; drops = subst (λ (d : Cell). Drops v.held d rest.0) (sym a.1) rest.1; is = refl })
      (λ g t. IsRelease record { holding = h; held = rest.0; obsolete = obsolete; may = may; drops = rest.1; unlocks = sets; view = t })
      (λ g t. sets)

  pub moves_releases : (c : Cell) (h : Holding) (obsolete : Bool) → h.cell ≡ c → release.May v h obsolete → IsInside z c
      → Moves z ws f p v (after c obsolete) (λ v w. (k : Holding) → IsHolding v c k → release.Outcome v w k) (Unlocks c obsolete)
  moves_releases c h obsolete of may there =
      subst (λ (d : Cell). Moves z ws f p v (after d obsolete) (λ v w. (k : Holding) → IsHolding v d k → release.Outcome v w k) (Unlocks d obsolete)) of
      (moves_released h obsolete may (subst (IsInside z) (sym of) there))

  -- the first release of a change
  moves_committed : (h : Holding) (what : Deed) (us : List Link) (come : Option Link) (obsolete : Bool) → (ks : List Pin) × AreStanding f ks → commit.MayBeFirst v us h obsolete → commit.May z v what us (coming v come) → IsInside z h.cell
      → Moves z ws f p v (after h.cell obsolete) (λ v w. (k : Holding) → IsHolding v h.cell k → commit.Outcome v w what us (coming v come) k) (UnlocksFirst v h.cell obsolete)
  moves_committed h what us come obsolete pins first may there =
      let rest = dropped v.held h.cell in
      let hand = handed_over v.hand (coming v come) in
      let w : View = commit.view_after v r.log what rest.0 hand.0 (all_retired pins.0 us ++ v.limbo) in
      let n : Memory = memory_of z (after h.cell obsolete) in
      let sets = release_sets h.cell h obsolete refl first.held there in
      let kind : (g : Views) → SetsView f p w g → OfAKind z p v m f n g r.log r.logical = λ g t. IsCommit record {
        what = what;
        unlinked = us;
        linked = coming v come;
        pins = pins.0;
        holding = h;
        held = rest.0;
        hand = hand.0;
        obsolete = obsolete;
        may = may;
        first = first;
        drops = rest.1;
        hands = hand.1;
        standing = pins.1;
        unlocks = sets;
        view = t;
      } in
      let g₀ : Views = with_view f p w in
      let t₀ = with_turned f p w in
      let sound₀ = kind_sound z p v m f n g₀ at r (kind g₀ t₀) in
      moved z ws f p v r at long (after h.cell obsolete) (λ v w. (k : Holding) → IsHolding v h.cell k → commit.Outcome v w what us (coming v come) k) (UnlocksFirst v h.cell obsolete) w refl
      (λ k a. record {
        held = rest.0;
        drops = subst (λ (d : Cell). Drops v.held d rest.0) (sym a.1) rest.1;
        hand = hand.0;
        hands = hand.1;
        pins = pins.0;
        made = makes f g₀ p v w r.log what at t₀ r.history refl (answered sound₀.log r.log g₀ p w (event v.pass what) sound₀.history t₀.here refl) refl refl;
        is = refl;
      })
      kind
      (λ g t.
      let sound = kind_sound z p v m f n g at r (kind g t) in
      record {
        unlocks = sets;
        logical = r.logical;
        logical_after = sound.logical;
        holder = r.holder;
        holder_after = sound.holder;
        bodies = all_new m n f g p v w h obsolete r.logical sound.logical at t first.held rest.1 refl sets r.holder sound.holder;
        pins = λ q u was is.
            let here : q ≡ p = sym (r.history.tells q v was).pass ∙ (r.history.tells p v at).pass in
            subst (RetiresPinned f v) (sym (one_view g q p u w here is t.here)) (λ e i. ⊎_elim
            (λ (j : Member e (all_retired pins.0 us)). inr (subst (AreStanding f) (sym (retired_of pins.0 us e j).3) pins.1))
            (λ (j : Member e v.limbo). inl j)
            (member_append e (all_retired pins.0 us) v.limbo i));
      })

  pub moves_commits : (c : Cell) (h : Holding) (what : Deed) (us : List Link) (come : Option Link) (obsolete : Bool) → h.cell ≡ c → (ks : List Pin) × AreStanding f ks → commit.MayBeFirst v us h obsolete → commit.May z v what us (coming v come) → IsInside z c
      → Moves z ws f p v (after c obsolete) (λ v w. (k : Holding) → IsHolding v c k → commit.Outcome v w what us (coming v come) k) (UnlocksFirst v c obsolete)
  moves_commits c h what us come obsolete of pins first may there =
      subst (λ (d : Cell). Moves z ws f p v (after d obsolete) (λ v w. (k : Holding) → IsHolding v d k → commit.Outcome v w what us (coming v come) k) (UnlocksFirst v d obsolete)) of
      (moves_committed h what us come obsolete pins first may (subst (IsInside z) (sym of) there))
