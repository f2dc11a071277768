-- Steps that write: a word of a cell that is held, or of a leaf in hand.
use Rattle.std.proofs.Common.{◌≡◌, ◌≢◌, ◌↔◌, ℕ, ◌<◌, Bool, true, List, length, set, get_or, sym, refl, ap, ◌∙◌, subst, ⊎_elim, arith}
use Rattle.std.proofs.lemmas.Bool.{cases_eq}
use Rattle.std.proofs.lemmas.List.{length-set, get_or-set_same, get_or-set_other}
use Rattle.std.specs.Prelude.{Option, Some, if◌then◌else◌}
use Rattle.art_cell.specs.declared.cells.Cell.{Cell}
use Rattle.art_cell.specs.declared.cells.Cell.TheVariants as cell
use Rattle.art_cell.specs.declared.cells.Link.{Link}
use Rattle.art_cell.specs.declared.cells.Link.TheVariants.{Leaf as leaf, Node as node}
use Rattle.art_step.specs.declared.views.Fact.{Fact}
use Rattle.art_step.specs.declared.views.Holding.{Holding}
use Rattle.art_step.specs.declared.views.InHand.{InHand}
use Rattle.art_step.specs.declared.views.Sizes.{Sizes}
use Rattle.art_step.specs.declared.views.View.{View}
use Rattle.art_tree.specs.Changes.{SameTree}
use Rattle.art_tree.specs.Heaps.{Cells, key_of, heap_of}
use Rattle.art_step.specs.Histories.{replay}
use Rattle.art_step.specs.Knowledge.{IsLeafCell, CellAt, Holds}
use Rattle.art_step.specs.Sound.{ShowsReplay, Keeps, HoldsEach, OneHolder, StampsVouch, Whereabouts, InTree, IsFree, InHandOf, HeldAt, Accounts, NumbersAccounted, IsSound}
use Rattle.art_step.specs.Steps.Write as write
use Rattle.art_step.specs.Effects.{SetsWord}
use Rattle.art_step.specs.Steps.Write.{Puts, with_word, with_leaf_word}
use Rattle.art_tree.specs.Tree.{StandsAt}
use Rattle.art_cell.specs.declared.cells.Pool.{Pool}
use Rattle.art_step.specs.Views.{IsWordOf, IsOnce, Member, Memory, is_free, links_in_hand, words_in, IsLocked, IsObsolete, Views, SetsView}
use Rattle.art_tree.specs.WordChanges.{SameByWords}
use Rattle.art_cell.specs.Words.{Words}
use Rattle.art_step.proofs.Facts.{SameLeafWords, holds_on}
use Rattle.art_tree.proofs.Frame.{frame_paths, frame_sound, frame_rows}
use Rattle.art_step.proofs.Histories.{history_stays}
use Rattle.art_step.proofs.SoundParts.{IdleHolds, account_on, numbers_turn, holder_turn, apart_turn, holder_same, one_entry}
use Rattle.art_tree.proofs.Meanings.{same_tree}
use Rattle.art_tree.proofs.Places.{same_cell, same_link}
use Rattle.art_step.proofs.StepNumbers.{keeps_new, keeps_on, holder_words, HoldingsFrom, vouch_turn, unstamped_same, formed_same}
use Rattle.art_step.proofs.SetsView.{stranger_before, each_view}
use Rattle.art_step.proofs.WordForms.{word_formed}

-- ---- words and lists of them

-- where a list has the words and one word is set, the list with that word set has them
words_set : (w w' : Words) (ws : List ℕ) (i x : ℕ) → w ≡ words_in ws → i < length ws → w' i ≡ x → ((j : ℕ) → j ≢ i → w' j ≡ w j) → w' ≡ words_in (set ws i x)
words_set w w' ws i x was low here there = λ k j. each j k
  where
    each : (j : ℕ) → w' j ≡ get_or (set ws i x) j 0
    each j = ⊎_elim
        (λ (is : j ≡ i). ap w' is ∙ (here ∙ sym (ap (λ (j : ℕ). get_or (set ws i x) j 0) is ∙ get_or-set_same ws i x 0 low)))
        (λ (other : j ≢ i). there j other ∙ (ap (λ (a : Words). a j) was ∙ sym (get_or-set_other ws i j x 0 other)))
        (cases_eq j i)

-- ---- a word of a cell that is held

module _ (z : Sizes) (m : Memory) (f : Views) (p : ℕ) (v : View) (is : f p ≡ Some v) (m' : Memory) (g : Views) (h : Holding) (hs : List Holding) (i x : ℕ) (r : IsSound z m f)
    (may : write.May v h i) (form : IsWordOf z h.cell i x) (puts : Puts v.held h (with_word h i x) hs) (sets : SetsWord m h.cell i x m') (t : SetsView f p (write.view_after v hs) g) where
  abbrev writer : View
  writer = write.view_after v hs

  abbrev new_holding : Holding
  new_holding = with_word h i x

  holdings : HoldsEach m r.logical v
  holdings = r.holder.holds p v is

  keeps : Keeps m r.logical v.committed h
  keeps = holdings.keeps h may.held

  -- cells that are not locked have the words that they had
  unlocked_stays : (c : Cell) → (IsLocked (m.version c) → ⊥) → m'.words c ≡ m.words c
  unlocked_stays c rests = sets.others c (λ e. rests (subst (λ (c : Cell). IsLocked (m.version c)) (sym e) keeps.locked))

  leaves_stay : (l : ℕ) → m'.words (cell.Leaf l) ≡ m.words (cell.Leaf l)
  leaves_stay l = unlocked_stays (cell.Leaf l) (λ locked. let e = r.formed.leaves l in absurd (omega arith))

  -- another cell that the pass holds
  other_cell : (k : Holding) → Member k v.held → k ≢ h → k.cell ≢ h.cell
  other_cell k j other e = other (holdings.single k h j may.held e)

  -- of its cell the pass holds the new one, and of each other cell an old one
  is_new : (k : Holding) → Member k hs → k.cell ≡ h.cell → k ≡ new_holding
  is_new k j same = ⊎_elim (λ (e : k ≡ new_holding). e) (λ (o : Member k v.held × (k ≢ h)). absurd (other_cell k o.0 o.1 same)) (puts.was k j)

  is_old : (k : Holding) → Member k hs → k.cell ≢ h.cell → Member k v.held
  is_old k j other = ⊎_elim (λ (e : k ≡ new_holding). absurd (other (ap (λ (k : Holding). k.cell) e))) (λ (o : Member k v.held × (k ≢ h)). o.0) (puts.was k j)

  still_held : (c : Cell) (k : Holding) → Member k v.held → k.cell ≡ c → (j : Holding) × Member j hs × (j.cell ≡ c)
  still_held c k i same = ⊎_elim
      (λ (a : c ≡ h.cell). (new_holding, puts.has, sym a))
      (λ (a : c ≢ h.cell). (k, puts.stays k i (λ e. a (sym same ∙ ap (λ (k : Holding). k.cell) e)), same))
      (same_cell c h.cell)

  from : HoldingsFrom v writer
  from k j = ⊎_elim
      (λ (e : k ≡ new_holding). (h, may.held, ap (λ (k : Holding). k.cell) (sym e), ap (λ (k : Holding). k.stamped) (sym e)))
      (λ (o : Member k v.held × (k ≢ h)). (k, o.0, refl, refl))
      (puts.was k j)

  keeps_written : Keeps m' r.logical v.committed new_holding
  keeps_written = keeps_new m m' r.logical r.logical v.committed h (set h.new i x) sets.version (length-set h.new i x)
      (words_set (m.words h.cell) (m'.words h.cell) h.new i x keeps.new (omega (arith, may.place.1, keeps.long)) sets.here sets.there)
      (keeps.logical ∙ (ap (λ (b : Bool). words_in (if b then h.new else h.old)) may.early ∙ sym (ap (λ (b : Bool). words_in (if b then set h.new i x else h.old)) may.early)))
      keeps

  holds_mine : HoldsEach m' r.logical writer
  holds_mine = record {
    keeps = λ k j. ⊎_elim
        (λ (e : k ≡ new_holding). subst (Keeps m' r.logical v.committed) (sym e) keeps_written)
        (λ (o : Member k v.held × (k ≢ h)). keeps_on m m' r.logical r.logical v.committed k sets.version (sets.others k.cell (other_cell k o.0 o.1)) refl (holdings.keeps k o.0))
        (puts.was k j);
    single = λ k j a b e. ⊎_elim
        (λ (c : k ≡ new_holding). c ∙ sym (is_new j b (sym e ∙ ap (λ (k : Holding). k.cell) c)))
        (λ (c : Member k v.held × (k ≢ h)). holdings.single k j c.0 (is_old j b (λ i. other_cell k c.0 c.1 (e ∙ i))) e)
        (puts.was k a);
  }

  holder_writes : OneHolder m' g r.logical
  holder_writes = record {
    at_rest = λ c rests.
        let still : IsLocked (m.version c) → ⊥ = λ e. rests (subst (λ (a : Cell → ℕ). IsLocked (a c)) (sym sets.version) e) in
        r.holder.at_rest c still ∙ sym (unlocked_stays c still);
    holder = λ c locked. holder_turn f g p v writer c t is (still_held c) (r.holder.holder c (subst (λ (a : Cell → ℕ). IsLocked (a c)) sets.version locked));
    holds = each_view f g p writer t (λ q u. HoldsEach m' r.logical u) holds_mine (λ q u other e. let o = r.holder.holds q u e in record {
      keeps = λ k j. keeps_on m m' r.logical r.logical u.committed k sets.version (sets.others k.cell (r.holder.apart q p u v other e is k h j may.held)) refl (o.keeps k j);
      single = o.single;
    });
    apart = apart_turn f g p writer t
        (λ q u other e k j a b same. let o = from k a in r.holder.apart p q v u (λ i. other (sym i)) is e o.0 j o.1 b (o.2 ∙ same))
        r.holder.apart;
  }

  writer_account : Accounts m' r.at p writer
  writer_account = let k = account_on m m' r.at p v leaves_stay (r.numbers.accounts p v is) in record {
    hand = k.hand;
    in_hand = k.in_hand;
    leaves = k.leaves;
    limbo = k.limbo;
    in_limbo = k.in_limbo;
    held = λ a n j e. let o = from a j in subst (λ (stamped : Option ℕ). HeldAt p v.committed stamped (r.at (node n))) o.3 (k.held o.0 n o.1 (o.2 ∙ e));
    hand_once = k.hand_once;
    limbo_once = k.limbo_once;
  }

  -- what is held was so before, by the same stamp
  still_idle : IdleHolds v writer
  still_idle k j e = let o = from k j in sym o.3 ∙ (r.unstamped.pinned p v is).idle e o.0 o.1

  writes : IsSound z m' g
  writes = record {
    log = r.log;
    logical = r.logical;
    at = r.at;
    history = history_stays f g p v writer t is r.log r.history refl refl refl;
    shows = r.shows;
    holder = holder_writes;
    vouch = vouch_turn m m' f g p v writer r.logical t is sets.version refl refl refl from r.vouch;
    numbers = numbers_turn z m m' f g p writer r.logical r.logical r.at t r.numbers r.numbers sets.free leaves_stay writer_account;
    unstamped = unstamped_same z m m' f g p v writer r.logical r.at t is r.numbers r.unstamped sets.version sets.epoch sets.pass_word refl refl refl refl refl still_idle;
    formed = formed_same z m m' f g p v writer t is sets.version sets.epoch refl r.formed (word_formed z m m' h.cell i x sets form r.formed.words);
  }

-- a word of a cell that is held is written before the commit
pub write_law : write.Law
write_law z p v m f m' g is r row = writes z m f p v is m' g row.holding row.held row.place row.value r row.may row.form row.puts row.word row.view

-- ---- a word of a leaf in hand

-- the words of leaves, and else the logical words
with_leaves : Cells → Cells → Cells
with_leaves s words cell.Anchor = s cell.Anchor
with_leaves s words (cell.Leaf l) = words (cell.Leaf l)
with_leaves s words (cell.Node n) = s (cell.Node n)

module _ (z : Sizes) (m : Memory) (f : Views) (p : ℕ) (v : View) (is : f p ≡ Some v) (m' : Memory) (g : Views) (y : InHand) (ys : List InHand) (l i x : ℕ) (r : IsSound z m f)
    (may : write.MayLeaf v y l i) (form : IsWordOf z (cell.Leaf l) i x) (puts : Puts v.hand y (with_leaf_word y i x) ys) (once : IsOnce (links_in_hand v.hand) → IsOnce (links_in_hand ys)) (sets : SetsWord m (cell.Leaf l) i x m') (t : SetsView f p (write.view_after_leaf v ys) g) where
  abbrev hander : View
  hander = write.view_after_leaf v ys

  abbrev after : Cells
  after = with_leaves r.logical m'.words

  abbrev new_entry : InHand
  new_entry = with_leaf_word y i x

  accounts : Accounts m r.at p v
  accounts = r.numbers.accounts p v is

  in_hand : r.at (leaf l) ≡ InHandOf p
  in_hand = ap r.at (sym may.leaf) ∙ accounts.hand y may.hand

  -- other leaves have the words that they had
  others_stay : (k : ℕ) → k ≢ l → m'.words (cell.Leaf k) ≡ m.words (cell.Leaf k)
  others_stay k other = sets.others (cell.Leaf k) (λ e. other (cc))

  -- a leaf that is not in the hand of the pass, as one in the tree, is another
  elsewhere : (k : ℕ) (a : Whereabouts) → r.at (leaf k) ≡ a → a ≢ InHandOf p → k ≢ l
  elsewhere k a is not e = not (sym is ∙ (ap (λ (k : ℕ). r.at (leaf k)) e ∙ in_hand))

  -- ---- the tree is the same

  leaf_rests : (k : ℕ) → r.logical (cell.Leaf k) ≡ m.words (cell.Leaf k)
  leaf_rests k = r.holder.at_rest (cell.Leaf k) (λ locked. let e = r.formed.leaves k in absurd (omega arith))

  linked_leaves : SameLeafWords r.logical after
  unfolding with_leaves
  linked_leaves k q at = others_stay k (elsewhere k InTree ((r.numbers.tree (leaf k)).1 (q, at)) (λ e. cc)) ∙ sym (leaf_rests k)

  same : SameByWords r.logical after
  unfolding with_leaves
  same = record {
    anchor = refl;
    leaves = λ k q at. let e = linked_leaves k q at in (ap key_of e, ap (λ (a : Words). a 0) e);
    nodes = λ n q at. (refl, λ b. refl);
  }

  tree : SameTree (heap_of r.logical) (heap_of after)
  tree = same_tree r.logical after same

  paths : (d : Link) (q : List ℕ) → StandsAt (heap_of r.logical) d q ↔ StandsAt (heap_of after) d q
  paths = frame_paths (heap_of r.logical) (heap_of after) tree

  shows : ShowsReplay z r.log after
  unfolding with_leaves
  shows = let k = r.shows.shape in record {
    shape = record {
      tree = frame_sound (heap_of r.logical) (heap_of after) tree k.tree;
      anchor = k.anchor;
      nodes = λ n q at. k.nodes n q ((paths (node n) q).1 at);
      leaves = λ j q at. let was = (paths (leaf j) q).1 at in subst IsLeafCell (sym (linked_leaves j q was)) (k.leaves j q was);
      numbers = λ d q at. k.numbers d q ((paths d q).1 at);
    };
    rows = frame_rows (heap_of r.logical) (heap_of after) tree (replay r.log) r.shows.rows;
  }

  -- ---- cells that are not leaves stay, and each leaf has its logical words

  stays : (c : Cell) → (IsObsolete (m.version c) → ⊥) → (m'.words c ≡ m.words c) × (after c ≡ r.logical c)
  unfolding with_leaves
  stays cell.Anchor not = (sets.others cell.Anchor (λ e. cc), refl)
  stays (cell.Leaf k) not = absurd (not (r.formed.leaves k))
  stays (cell.Node n) not = (sets.others (cell.Node n) (λ e. cc), refl)

  rests : (c : Cell) → (IsLocked (m.version c) → ⊥) → after c ≡ m'.words c
  unfolding with_leaves
  rests cell.Anchor unlocked = r.holder.at_rest cell.Anchor unlocked ∙ sym (sets.others cell.Anchor (λ e. cc))
  rests (cell.Leaf k) unlocked = refl
  rests (cell.Node n) unlocked = r.holder.at_rest (cell.Node n) unlocked ∙ sym (sets.others (cell.Node n) (λ e. cc))

  cell_path : (c : Cell) (q : List ℕ) → CellAt r.logical c q → CellAt after c q
  cell_path cell.Anchor q at = at
  cell_path (cell.Leaf k) q at = (paths (leaf k) q).0 at
  cell_path (cell.Node n) q at = (paths (node n) q).0 at

  facts_stay : (c : Cell) (y : Fact) → (IsObsolete (m.version c) → ⊥) → Holds r.logical c y → Holds after c y
  facts_stay c y not = holds_on r.logical after c y (stays c not).1 (cell_path c) linked_leaves

  vouch : StampsVouch m f after
  vouch q u e = let k = r.vouch q u e in record {
    stamps = k.stamps;
    noted = k.noted;
    notes = λ y j. let o = k.notes y j in record {
      stamp = o.stamp;
      same = λ version. facts_stay y.stamp.cell y.fact (λ obsolete. let clear = o.stamp.clear in absurd (omega arith)) (o.same version);
    };
    kept = λ early h y i j at stamp. facts_stay h.cell y.fact (λ obsolete. let locked = ((r.holder.holds q u e).keeps h i).locked in absurd (omega arith)) (k.kept early h y i j at stamp);
  }

  -- ---- numbers stay where they are

  others_account : (q : ℕ) (u : View) → q ≢ p → f q ≡ Some u → Accounts m' r.at q u
  others_account q u other is = let k = r.numbers.accounts q u is in record {
    hand = k.hand;
    in_hand = k.in_hand;
    leaves = λ a j i link.
        let o = k.leaves a j i link in
        (o.0, others_stay j (elsewhere j (InHandOf q) (ap r.at (sym link) ∙ k.hand a i) (λ e. other (cc))) ∙ o.1);
    limbo = k.limbo;
    in_limbo = k.in_limbo;
    held = k.held;
    hand_once = k.hand_once;
    limbo_once = k.limbo_once;
  }

  -- the list has the ten words of the leaf now
  abbrev HasWords : ℕ → List ℕ → Type 0
  HasWords k ws = (length ws ≡ 10) × (m'.words (cell.Leaf k) ≡ words_in ws)

  words_written : HasWords l new_entry.words
  words_written =
      let old = accounts.leaves y l may.hand may.leaf in
      (length-set y.words i x ∙ old.0, words_set (m.words (cell.Leaf l)) (m'.words (cell.Leaf l)) y.words i x old.1 (omega (arith, old.0, may.place)) sets.here sets.there)

  hander_account : Accounts m' r.at p hander
  hander_account = record {
    hand = λ a j. ⊎_elim (λ (e : a ≡ new_entry). ap (λ (a : InHand). r.at a.link) e ∙ accounts.hand y may.hand) (λ (o : Member a v.hand × (a ≢ y)). accounts.hand a o.0) (puts.was a j);
    in_hand = λ d e. ⊎_elim
        (λ (same : d ≡ leaf l). (new_entry, puts.has, may.leaf ∙ sym same))
        (λ (other : d ≢ leaf l). let k = accounts.in_hand d e in (k.0, puts.stays k.0 k.1 (λ same. other (sym k.2 ∙ (ap (λ (a : InHand). a.link) same ∙ may.leaf))), k.2))
        (same_link d (leaf l));
    leaves = λ a k j link. ⊎_elim
        (λ (e : a ≡ new_entry).
        let number : l ≡ k = let same : leaf l ≡ leaf k = sym may.leaf ∙ (ap (λ (a : InHand). a.link) (sym e) ∙ link) in cc in
        subst (λ (b : ℕ × InHand). HasWords b.0 b.1.words) (λ i. (number i, sym e i)) words_written)
        (λ (o : Member a v.hand × (a ≢ y)). let old = accounts.leaves a k o.0 link in (old.0, others_stay k (λ e. o.1 (one_entry m r.at p v l a y accounts o.0 may.hand (link ∙ ap leaf e) may.leaf)) ∙ old.1))
        (puts.was a j);
    limbo = accounts.limbo;
    in_limbo = accounts.in_limbo;
    held = accounts.held;
    hand_once = once accounts.hand_once;
    limbo_once = accounts.limbo_once;
  }

  numbers : NumbersAccounted z m' g after r.at
  numbers = record {
    tree = λ d. let k = r.numbers.tree d in (λ e. let o = k.0 e in (o.0, (paths d o.0).0 o.1), λ o. k.1 (o.0, (paths d o.0).1 o.1));
    free = λ d. subst (λ (a : Pool → ℕ → ℕ). (r.at d ≡ IsFree) ↔ (is_free (record m { free_word = a }) d ≡ true)) (sym sets.free) (r.numbers.free d);
    numbers = r.numbers.numbers;
    accounts = each_view f g p hander t (λ q u. Accounts m' r.at q u) hander_account others_account;
    strangers = λ q d e. r.numbers.strangers q d (stranger_before f g p hander t q e).1;
  }

  leaf_writes : IsSound z m' g
  leaf_writes = record {
    log = r.log;
    logical = after;
    at = r.at;
    history = history_stays f g p v hander t is r.log r.history refl refl refl;
    shows = shows;
    holder = holder_words m m' g r.logical after sets.version (λ c locked. stays c (λ obsolete. absurd (omega arith))) rests (holder_same m f g p v hander r.logical t is refl refl r.holder);
    vouch = vouch_turn m m' f g p v hander after t is sets.version refl refl refl (λ h j. (h, j, refl, refl)) vouch;
    numbers = numbers;
    unstamped = unstamped_same z m m' f g p v hander r.logical r.at t is r.numbers r.unstamped sets.version sets.epoch sets.pass_word refl refl refl refl refl (λ h j e. (r.unstamped.pinned p v is).idle e h j);
    formed = formed_same z m m' f g p v hander t is sets.version sets.epoch refl r.formed (word_formed z m m' (cell.Leaf l) i x sets form r.formed.words);
  }

-- a word of a leaf in hand is written
pub write_leaf_law : write.LeafLaw
write_leaf_law z p v m f m' g is r row = leaf_writes z m f p v is m' g row.leaf row.hand row.number row.place row.value r row.may row.form row.puts row.once row.word row.view
