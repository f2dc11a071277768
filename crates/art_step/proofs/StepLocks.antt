-- Steps that change the version word of one cell and what their pass holds: upgrades, claims and releases.
use Rattle.std.proofs.Common.{◌≡◌, ◌≢◌, ◌⊎◌, ◌↔◌, ℕ, ◌+◌, ◌*◌, ◌<◌, ◌≤◌, Bool, true, false, if◌then◌else◌, List, [], ◌∷◌, inl, inr, ⊎_elim, sym, refl, ap, ◌∙◌, subst, arith}
use Rattle.std.specs.Prelude.{Option, Some, None}
use Rattle.art_cell.specs.declared.cells.Node.{Node}
use Rattle.art_cell.specs.declared.cells.Cell.{Cell}
use Rattle.art_cell.specs.declared.cells.Cell.TheVariants as cell
use Rattle.art_cell.specs.declared.cells.Link.{Link}
use Rattle.art_cell.specs.declared.cells.Link.TheVariants.{Leaf as leaf, Node as node}
use Rattle.art_step.specs.declared.views.Found.{Found}
use Rattle.art_step.specs.declared.views.Holding.{Holding}
use Rattle.art_step.specs.declared.views.InHand.{InHand}
use Rattle.art_step.specs.declared.views.Note.{Note}
use Rattle.art_step.specs.declared.views.Sizes.{Sizes}
use Rattle.art_step.specs.declared.views.Stamp.{Stamp}
use Rattle.art_step.specs.declared.views.View.{View}
use Rattle.art_tree.specs.Heaps.{Cells}
use Rattle.art_step.specs.Knowledge.{Holds}
use Rattle.art_step.specs.Sound.{Keeps, HoldsEach, OneHolder, Holder, IsStampOf, Vouched, Whereabouts, InTree, IsFree, InHandOf, InLimboOf, HeldAt, Accounts, WordsFormed, IsSound}
use Rattle.art_step.specs.Steps.Upgrade as upgrade
use Rattle.art_step.specs.Steps.Claim as claim
use Rattle.art_step.specs.Steps.Claim.{LinkedLaw, LinkedSincePin, StillLinked, UnclaimedLaw, UnstampedLaw, WasLinked}
use Rattle.art_step.specs.Steps.Release as release
use Rattle.art_step.specs.Effects.{SetsVersion, claimed_word, released_word}
use Rattle.art_step.specs.Views.{IsNotHeld, MayLock, found_version, IsInLimbo, SetsView}
use Rattle.art_step.specs.Steps.Upgrade.{IsCopy, HasClaimedNone}
use Rattle.art_step.specs.Steps.Release.{IsNodeAmong}
use Rattle.art_step.specs.Views.{Member, Memory, words_in, IsClear, IsLocked, IsObsolete, last_counter, IsVersion, cell_named, is_free, Views, SetsView}
use Rattle.art_tree.proofs.Places.{same_cell}
use Rattle.art_step.proofs.Histories.{history_stays}
use Rattle.art_step.proofs.SoundParts.{numbers_turn, unstamped_turn, formed_turn, holder_turn, apart_turn}
use Rattle.art_step.proofs.SetsView.{one_view, each_view}

-- ---- the memory

-- the memory with other version words
abbrev pub with_versions : Memory → (Cell → ℕ) → Memory
with_versions m x = record m { version = x }

-- what is sound over the version words of m' is sound of m', where nothing else changed
pub set_version_sound : (z : Sizes) (m m' : Memory) (c : Cell) (x : ℕ) (g : Views) → SetsVersion m c x m' → IsSound z (with_versions m m'.version) g → IsSound z m' g
set_version_sound z m m' c x g k =
    let e : with_versions m m'.version ≡ m' = (λ i. record { version = m'.version; words = sym k.words i; free_word = sym k.free i; epoch = sym k.epoch i; pass_word = sym k.pass_word i }) in
    subst (λ (y : Memory). IsSound z y g) e

-- the version word of the cell c changes to one that is above each that a view has stamped it with, and those of the others stay
pub record Outgrows (m m' : Memory) (f : Views) (c : Cell) : Type 0 where
  pub past : (q : ℕ) (u : View) → f q ≡ Some u → (x : Stamp) → Member x u.stamps → x.cell ≡ c → x.version < m'.version c
  pub there : (d : Cell) → d ≢ c → m'.version d ≡ m.version d

-- so it is where the word goes up
pub outgrows_up : (z : Sizes) (m m' : Memory) (f : Views) (c : Cell) → IsSound z m f → m.version c < m'.version c
    → ((d : Cell) → d ≢ c → m'.version d ≡ m.version d) → Outgrows m m' f c
outgrows_up z m m' f c r up there = record {
  past = λ q u at x i is.
      let low : x.version ≤ m.version c = subst (λ (d : Cell). x.version ≤ m.version d) is ((r.vouch q u at).stamps x i).below in
      omega arith;
  there = there;
}

module _ (m m' : Memory) (f : Views) (c : Cell) (k : Outgrows m m' f c) where
  -- what holds of the new word, and of the old words of the others, holds of each word
  pub each_word : (P : Cell → ℕ → Type 0) → P c (m'.version c) → ((d : Cell) → d ≢ c → P d (m.version d)) → (d : Cell) → P d (m'.version d)
  each_word P here there d = ⊎_elim
      (λ (is : d ≡ c). subst (λ (e : Cell). P e (m'.version e)) (sym is) here)
      (λ (other : d ≢ c). subst (P d) (sym (k.there d other)) (there d other))
      (same_cell d c)

  -- a stamp of a view stays one
  pub stamp_on : (q : ℕ) (u : View) → f q ≡ Some u → (x : Stamp) → Member x u.stamps → IsStampOf m x → IsStampOf m' x
  stamp_on q u at x i o = ⊎_elim
      (λ (is : x.cell ≡ c).
      let past = k.past q u at x i is in
      let same : m'.version x.cell ≡ m'.version c = ap m'.version is in
      record { clear = o.clear; below = omega arith })
      (λ (other : x.cell ≢ c).
      let same = k.there x.cell other in
      let low = o.below in
      record { clear = o.clear; below = omega arith })
      (same_cell x.cell c)

  -- the new word is none that was stamped, so a word that is the stamped one is another cell's, and stayed
  pub stayed : (q : ℕ) (u : View) → f q ≡ Some u → (x : Stamp) → Member x u.stamps → m'.version x.cell ≡ x.version → (x.cell ≢ c) × (m.version x.cell ≡ x.version)
  stayed q u at x i e =
      let other : x.cell ≢ c = (λ is.
      let a : m'.version c ≡ x.version = sym (ap m'.version is) ∙ e in
      let past = k.past q u at x i is in
      omega arith) in
      (other, sym (k.there x.cell other) ∙ e)

  -- where the logical words stay, a view's stamps vouch as before
  pub vouched_on : (s : Cells) (q : ℕ) (u : View) → f q ≡ Some u → Vouched m s u → Vouched m' s u
  vouched_on s q u at o = record {
    stamps = λ x i. stamp_on q u at x i (o.stamps x i);
    noted = o.noted;
    notes = λ y i.
        let n = o.notes y i in
        let has = o.noted y i in
        record { stamp = stamp_on q u at y.stamp has n.stamp; same = λ e. n.same (stayed q u at y.stamp has e).1 };
    kept = o.kept;
  }

  -- a cell that is held, other than c, is kept as before
  pub keeps_on : (s s' : Cells) (b b' : Bool) (h : Holding) → h.cell ≢ c → m'.words h.cell ≡ m.words h.cell → s' h.cell ≡ words_in (if b' then h.new else h.old)
      → Keeps m s b h → Keeps m' s' b' h
  keeps_on s s' b b' h other words logical o = record {
    locked = subst IsLocked (sym (k.there h.cell other)) o.locked;
    long = o.long;
    new = words ∙ o.new;
    logical = logical;
    stamped = λ x e. let a = o.stamped x e in (k.there h.cell other ∙ a.0, a.1);
  }

-- a cell that is not locked is held by no pass
pub unlocked_not_held : (m : Memory) (s : Cells) (u : View) (c : Cell) → HoldsEach m s u → (IsLocked (m.version c) → ⊥) → IsNotHeld u.held c
unlocked_not_held m s u c k unlocked h i e = unlocked (subst (λ (d : Cell). IsLocked (m.version d)) e (k.keeps h i).locked)

-- a cell that does not count as obsolete is no leaf
pub no_leaf : (z : Sizes) (m : Memory) (f : Views) (c : Cell) → WordsFormed z m f → (IsObsolete (m.version c) → ⊥) → (l : ℕ) → c ≢ cell.Leaf l
no_leaf z m f c k live l e = live (subst (λ (d : Cell). IsObsolete (m.version d)) (sym e) (k.leaves l))

-- ---- where the node of a held cell is

-- a node that is held and in a hand is in the hand of its holder
pub held_in_hand : (p q : ℕ) (b : Bool) (o : Option ℕ) (w : Whereabouts) → HeldAt q b o w → w ≡ InHandOf p → q ≡ p
held_in_hand p q b (Some x) w k e = ⊎_elim
    (λ (a : w ≡ InTree). let i : InTree ≡ InHandOf p = sym a ∙ e in absurd (cc))
    (λ (a : (b ≡ true) × (w ≡ InLimboOf q)). let i : InLimboOf q ≡ InHandOf p = sym a.1 ∙ e in absurd (cc)) k
held_in_hand p q true None w k e = let i : InTree ≡ InHandOf p = sym k ∙ e in absurd (cc)
held_in_hand p q false None w k e = let i : InHandOf q ≡ InHandOf p = sym k ∙ e in cc

-- a node that is held was upgraded, unless it is where one that was claimed is
pub was_upgraded : (p : ℕ) (b : Bool) (o : Option ℕ) (w : Whereabouts) → HeldAt p b o w → (b ≡ true → w ≢ InTree) → (b ≡ false → w ≢ InHandOf p) → (x : ℕ) × (o ≡ Some x)
was_upgraded p b (Some x) w k after before = (x, refl)
was_upgraded p true None w k after before = absurd (after refl k)
was_upgraded p false None w k after before = absurd (before refl k)

-- a node that is held is in the tree, unless it is in limbo after the commit or was claimed before it
pub held_in_tree : (p : ℕ) (b : Bool) (o : Option ℕ) (w : Whereabouts) → HeldAt p b o w → (b ≡ true → w ≢ InLimboOf p) → (b ≡ false → (x : ℕ) × (o ≡ Some x)) → w ≡ InTree
held_in_tree p b (Some x) w k after before = ⊎_elim (λ (e : w ≡ InTree). e) (λ (a : (b ≡ true) × (w ≡ InLimboOf p)). absurd (after a.0 a.1)) k
held_in_tree p true None w k after before = k
held_in_tree p false None w k after before = let e : None ≡ Some (before refl).0 = (before refl).1 in absurd (cc)

-- ---- what a release makes of a version word

-- it is more
pub released_above : (x : ℕ) (b : Bool) → x < released_word x b
released_above x true = omega arith
released_above x false = omega arith

-- it is no longer locked
pub released_unlocked : (x : ℕ) (b : Bool) → IsLocked x → IsLocked (released_word x b) → ⊥
released_unlocked x true is l = omega arith
released_unlocked x false is l = omega arith

-- it is clear only where the cell does not become obsolete
pub released_clear : (x : ℕ) (b : Bool) → IsLocked x → IsClear (released_word x b) → b ≡ false
released_clear x true is l = absurd (omega arith)
released_clear x false is l = refl

-- it is within its bounds, where only a cell that was upgraded becomes obsolete
pub released_version : (m : Memory) (s : Cells) (a : Bool) (h : Holding) (b : Bool) → Keeps m s a h → IsVersion (m.version h.cell)
    → (b ≡ true → (x : ℕ) × (h.stamped ≡ Some x)) → IsVersion (released_word (m.version h.cell) b)
released_version m s a h true k o upgraded =
    let x = upgraded refl in
    let is = k.stamped x.0 x.1 in
    let locked = k.locked in
    record { form = inr (inr (omega arith)); clear = λ e. absurd (omega arith); locked = λ e. absurd (omega arith); obsolete = λ e. omega arith }
released_version m s a h false k o upgraded =
    let locked = k.locked in
    let small = o.locked k.locked in
    record { form = inl (omega arith); clear = λ e. omega arith; locked = λ e. absurd (omega arith); obsolete = λ e. absurd (omega arith) }

-- so the version word goes up by a release
pub released_raises : (z : Sizes) (m m' : Memory) (f : Views) (c : Cell) (b : Bool) → IsSound z m f → SetsVersion m c (released_word (m.version c) b) m'
    → Outgrows m (with_versions m m'.version) f c
released_raises z m m' f c b r k = outgrows_up z m (with_versions m m'.version) f c r (subst (λ (x : ℕ). m.version c < x) (sym k.here) (released_above (m.version c) b)) k.there

-- ---- one cell's version word changes, and what the pass holds changes by that cell

-- the pass holds these cells now
abbrev locking : View → List Holding → Bool → List Found → View
locking v hs b fs = record v { steps = v.steps + 1; held = hs; committed = b; found = fs }

module _ (z : Sizes) (m : Memory) (versions : Cell → ℕ) (f : Views) (p : ℕ) (v : View) (r : IsSound z m f) (is : f p ≡ Some v) (c : Cell) (hs : List Holding) (b : Bool)
    (fs : List Found) where
  abbrev n : Memory
  n = with_versions m versions

  -- of a cell that is held from now on
  record IsNew (h : Holding) : Type 0 where
    here : h.cell ≡ c
    keeps : Keeps n r.logical b h
    place : (d : Node) → h.cell ≡ cell.Node d → HeldAt p b h.stamped (r.at (node d))
    kept : b ≡ false → (y : Note) → Member y v.notes → y.stamp.cell ≡ h.cell → h.stamped ≡ Some y.stamp.version → Holds r.logical h.cell y.fact
    idle : v.pin ≡ 0 → h.stamped ≡ None

  -- of the cell's new word, and what is held now
  record Shift : Type 0 where
    raises : Outgrows m n f c
    formed : IsVersion (versions c)
    leaf : (l : ℕ) → c ≢ cell.Leaf l
    -- a clear word is that of a cell of the tree, a cell whose word is not locked has its logical words, and one whose word is, is held
    clear : (d : Link) → c ≡ cell_named d → IsClear (versions c) → r.at d ≡ InTree
    rest : (IsLocked (versions c) → ⊥) → r.logical c ≡ m.words c
    holder : IsLocked (versions c) → (h : Holding) × Member h hs × (h.cell ≡ c)
    -- what is held was so before, or is new
    flag : (v.committed ≡ b) ⊎ (v.held ≡ [])
    each : (h : Holding) → Member h hs → ((h.cell ≢ c) × Member h v.held) ⊎ IsNew h
    single : (h k : Holding) → Member h hs → Member k hs → h.cell ≡ k.cell → h ≡ k
    stays : (h : Holding) → Member h v.held → h.cell ≢ c → Member h hs
    others : (q : ℕ) (u : View) → q ≢ p → f q ≡ Some u → IsNotHeld u.held c

  module _ (k : Shift) (g : Views) (t : SetsView f p (locking v hs b fs) g) where
    abbrev w : View
    w = locking v hs b fs

    -- what was held and still is was held under the same flag
    flagged : (h : Holding) → Member h v.held → v.committed ≡ b
    flagged h i = ⊎_elim (λ (e : v.committed ≡ b). e) (λ (e : v.held ≡ []). absurd (subst (λ (l : List Holding). Member h l) e i)) k.flag

    words_on : (P : Cell → ℕ → Type 0) → P c (versions c) → ((d : Cell) → d ≢ c → P d (m.version d)) → (d : Cell) → P d (versions d)
    words_on = each_word m n f c k.raises

    holds_now : HoldsEach n r.logical w
    holds_now = record {
      keeps = λ h i. ⊎_elim
          (λ (j : (h.cell ≢ c) × Member h v.held). let o = (r.holder.holds p v is).keeps h j.1 in
          keeps_on m n f c k.raises r.logical r.logical v.committed b h j.0 refl (subst (λ (a : Bool). r.logical h.cell ≡ words_in (if a then h.new else h.old)) (flagged h j.1) o.logical) o)
          (λ (j : IsNew h). j.keeps) (k.each h i);
      single = k.single;
    }

    holders : OneHolder n g r.logical
    holders = record {
      at_rest = words_on (λ (d : Cell) (x : ℕ). (IsLocked x → ⊥) → r.logical d ≡ m.words d) k.rest (λ d other. r.holder.at_rest d);
      holder = words_on (λ (d : Cell) (x : ℕ). IsLocked x → Holder g d)
          (λ locked. let o = k.holder locked in record { pass = p; view = w; is = t.here; holding = o.0; holds = o.1; cell = o.2 })
          (λ d other locked. holder_turn f g p v w d t is (λ h i e. (h, k.stays h i (λ a. other (sym e ∙ a)), e)) (r.holder.holder d locked));
      holds = each_view f g p w t (λ q u. HoldsEach n r.logical u) holds_now (λ q u other e. let o = r.holder.holds q u e in record {
        keeps = λ h i. let a = o.keeps h i in keeps_on m n f c k.raises r.logical r.logical u.committed u.committed h (k.others q u other e h i) refl a.logical a;
        single = o.single;
      });
      apart = apart_turn f g p w t
          (λ q u other e h j i i' same. ⊎_elim
          (λ (a : (h.cell ≢ c) × Member h v.held). r.holder.apart p q v u (λ x. other (sym x)) is e h j a.1 i' same)
          (λ (a : IsNew h). k.others q u other e j i' (sym same ∙ a.here)) (k.each h i))
          r.holder.apart;
    }

    vouched_now : Vouched n r.logical w
    vouched_now = let o = vouched_on m n f c k.raises r.logical p v is (r.vouch p v is) in record {
      stamps = o.stamps;
      noted = o.noted;
      notes = o.notes;
      kept = λ e h y i j same. ⊎_elim
          (λ (a : (h.cell ≢ c) × Member h v.held). o.kept (flagged h a.1 ∙ e) h y a.1 j same)
          (λ (a : IsNew h). a.kept e y j same) (k.each h i);
    }

    accounts_now : Accounts n r.at p w
    accounts_now = let o = r.numbers.accounts p v is in record {
      hand = o.hand;
      in_hand = o.in_hand;
      leaves = o.leaves;
      limbo = o.limbo;
      in_limbo = o.in_limbo;
      held = λ h d i e. ⊎_elim
          (λ (a : (h.cell ≢ c) × Member h v.held). subst (λ (x : Bool). HeldAt p x h.stamped (r.at (node d))) (flagged h a.1) (o.held h d a.1 e))
          (λ (a : IsNew h). a.place d e) (k.each h i);
      hand_once = o.hand_once;
      limbo_once = o.limbo_once;
    }

    -- what was sound is so again
    shifts : IsSound z n g
    shifts = record {
      log = r.log;
      logical = r.logical;
      at = r.at;
      history = history_stays f g p v w t is r.log r.history refl refl refl;
      shows = r.shows;
      holder = holders;
      vouch = each_view f g p w t (λ q u. Vouched n r.logical u) vouched_now (λ q u other e. vouched_on m n f c k.raises r.logical q u e (r.vouch q u e));
      numbers = numbers_turn z m n f g p w r.logical r.logical r.at t r.numbers r.numbers refl (λ l. refl) accounts_now;
      unstamped = unstamped_turn z m n f g p v w r.logical r.at t is r.numbers r.unstamped refl refl
          (λ d. words_on (λ (e : Cell) (x : ℕ). (d : Link) → e ≡ cell_named d → IsClear x → r.at d ≡ InTree) k.clear
          (λ e other d same clear. r.unstamped.clear d (subst (λ (a : Cell). IsClear (m.version a)) same clear)) (cell_named d) d refl)
          refl refl refl refl (λ x i. inl i)
          (λ h i e. ⊎_elim (λ (a : (h.cell ≢ c) × Member h v.held). (r.unstamped.pinned p v is).idle e h a.1) (λ (a : IsNew h). a.idle e) (k.each h i));
      formed = formed_turn z m n f g p v w t is r.formed (words_on (λ (d : Cell) (x : ℕ). IsVersion x) k.formed (λ d other. r.formed.versions d))
          (λ l. subst IsObsolete (sym (k.raises.there (cell.Leaf l) (λ e. k.leaf l (sym e)))) (r.formed.leaves l)) refl refl r.formed.words;
    }

-- ---- a cell is locked, and held with the words that it has

locked_version : (x : ℕ) → IsLocked x → x ≤ 4 * last_counter + 2 → IsVersion x
locked_version x locked small = record { form = inr (inl locked); clear = λ e. absurd (omega arith); locked = λ e. small; obsolete = λ e. absurd (omega arith) }

module _ (z : Sizes) (m : Memory) (versions : Cell → ℕ) (f : Views) (p : ℕ) (v : View) (r : IsSound z m f) (is : f p ≡ Some v) (c : Cell) (o : Option ℕ) (ws : List ℕ) (fs : List Found) where
  abbrev mine : Holding
  mine = record { cell = c; stamped = o; old = ws; new = ws }

  abbrev with_mine : List Holding
  with_mine = mine ∷ v.held

  -- of the cell, which was not locked and is now
  record Locks : Type 0 where
    raises : Outgrows m (with_versions m versions) f c
    unlocked : IsLocked (m.version c) → ⊥
    locked : IsLocked (versions c)
    small : versions c ≤ 4 * last_counter + 2
    leaf : (l : ℕ) → c ≢ cell.Leaf l
    copy : IsCopy m c ws
    early : MayLock v
    stamped : (x : ℕ) → o ≡ Some x → (m.version c ≡ x) × (versions c ≡ x + 2) × (x < 4 * last_counter)
    place : (d : Node) → c ≡ cell.Node d → HeldAt p false o (r.at (node d))
    idle : v.pin ≡ 0 → o ≡ None

  module _ (k : Locks) where
    not_held : (q : ℕ) (u : View) → f q ≡ Some u → IsNotHeld u.held c
    not_held q u e = unlocked_not_held m r.logical u c (r.holder.holds q u e) k.unlocked

    is_new : IsNew z m versions f p v r is c with_mine false fs mine
    is_new = record {
      here = refl;
      keeps = record {
        locked = k.locked;
        long = k.copy.long;
        new = k.copy.words;
        logical = r.holder.at_rest c k.unlocked ∙ k.copy.words;
        stamped = λ x e. let a = k.stamped x e in (a.1, a.2);
      };
      place = k.place;
      kept = λ e y i same st. subst (λ (d : Cell). Holds r.logical d y.fact) same
          (((r.vouch p v is).notes y i).same (ap m.version same ∙ (k.stamped y.stamp.version st).0));
      idle = k.idle;
    }

    free : IsNotHeld v.held c
    free = not_held p v is

    -- what was sound is so again, with the cell held
    locks : (g : Views) → SetsView f p (locking v with_mine false fs) g → IsSound z (with_versions m versions) g
    locks = shifts z m versions f p v r is c with_mine false fs record {
      raises = k.raises;
      formed = locked_version (versions c) k.locked k.small;
      leaf = k.leaf;
      clear = λ d same clear. let a = k.locked in absurd (omega arith);
      rest = λ rest. absurd (rest k.locked);
      holder = λ locked. (mine, inl refl, refl);
      flag = k.early;
      each = λ h i. ⊎_elim (λ (e : h ≡ mine). inr (subst (IsNew z m versions f p v r is c with_mine false fs) (sym e) is_new)) (λ (j : Member h v.held). inl (free h j, j)) i;
      single = λ h j i i' same. ⊎_elim
          (λ (e : h ≡ mine). ⊎_elim (λ (e' : j ≡ mine). e ∙ sym e') (λ (a : Member j v.held). absurd (free j a (sym same ∙ ap (λ (x : Holding). x.cell) e))) i')
          (λ (a : Member h v.held). ⊎_elim (λ (e' : j ≡ mine). absurd (free h a (same ∙ ap (λ (x : Holding). x.cell) e'))) (λ (a' : Member j v.held). (r.holder.holds p v is).single h j a a' same) i')
          i;
      stays = λ h i other. inr i;
      others = λ q u other e. not_held q u e;
    }

-- a stamped cell whose word is the stamped one is locked and held
pub upgrade_law : upgrade.Law
upgrade_law z p v m f m' g is r row =
    let x = row.stamp in
    let may = row.may in
    let same = sym row.locks.found in
    let sets = row.locks.sets in
    let clear = ((r.vouch p v is).stamps x may.stamp).clear in
    let here = sets.here in
    let limit = may.limit in
    set_version_sound z m m' x.cell (x.version + 2) g sets
    (locks z m m'.version f p v r is x.cell (Some x.version) row.copy (found_version v x.cell x.version) record {
      raises = outgrows_up z m (with_versions m m'.version) f x.cell r (omega arith) sets.there;
      unlocked = λ l. omega arith;
      locked = omega arith;
      small = omega arith;
      leaf = no_leaf z m f x.cell r.formed (λ obsolete. omega arith);
      copy = row.copied;
      early = may.early;
      stamped = λ y e. let i : x.version ≡ y = cc in (same ∙ i, here ∙ ap (λ (a : ℕ). a + 2) i, subst (λ (a : ℕ). a < 4 * last_counter) i limit);
      place = λ d e. inl (r.unstamped.clear (node d) (let i : m.version (cell.Node d) ≡ x.version = sym (ap m.version e) ∙ same in omega arith));
      idle = λ e. absurd ((r.unstamped.pinned p v is).pinned x may.stamp e);
    } g row.view)

-- the node that may be claimed is in the hand
claimed_in_hand : (m : Memory) (at : Link → Whereabouts) (p : ℕ) (v : View) (n : Node) → Accounts m at p v → claim.May v n → at (node n) ≡ InHandOf p
claimed_in_hand m at p v n k may = ap at (sym may.hand.2) ∙ k.hand may.hand.0 may.hand.1

-- a node's number in hand that the pass does not hold is obsolete: it is not in the tree, and in no other hand
pub unclaimed_law : UnclaimedLaw
unclaimed_law z p v m f n is r may =
    let c : Cell = cell.Node n in
    let at : r.at (node n) ≡ InHandOf p = claimed_in_hand m r.at p v n (r.numbers.accounts p v is) may in
    ⊎_elim
    (λ (clear : IsClear (m.version c)). let e : InTree ≡ InHandOf p = sym (r.unstamped.clear (node n) clear) ∙ at in absurd (cc))
    (λ (a : IsLocked (m.version c) ⊎ IsObsolete (m.version c)). ⊎_elim
    (λ (locked : IsLocked (m.version c)).
    let o = r.holder.holder c locked in
    let place = (r.numbers.accounts o.pass o.view o.is).held o.holding n o.holds o.cell in
    let own : o.view ≡ v = one_view f o.pass p o.view v (held_in_hand p o.pass o.view.committed o.holding.stamped (r.at (node n)) place at) o.is is in
    absurd (may.free o.holding (subst (λ (y : View). Member o.holding y.held) own o.holds) o.cell))
    (λ (obsolete : IsObsolete (m.version c)). obsolete) a)
    (r.formed.versions c).form

-- a node's number that is free, or in a hand, is in no stamp of any view: a stamp is of what is in the tree, or in a limbo
pub unstamped_law : UnstampedLaw
unstamped_law z m f a r place q u at stamped = ⊎_elim
    (λ (tree : r.at (node a) ≡ InTree). ⊎_elim
    (λ (free : is_free m (node a) ≡ true). let e : IsFree ≡ InTree = sym ((r.numbers.free (node a)).1 free) ∙ tree in absurd (cc))
    (λ (hand : (p : ℕ) × (v : View) × (f p ≡ Some v) × ((x : InHand) × Member x v.hand × (x.link ≡ node a))).
    let e : InHandOf hand.0 ≡ InTree = sym (in_hand hand.0 hand.1 hand.2 hand.3) ∙ tree in absurd (cc)) place)
    (λ (limbo : (o : ℕ) × (r.at (node a) ≡ InLimboOf o)). ⊎_elim
    (λ (free : is_free m (node a) ≡ true). let e : IsFree ≡ InLimboOf limbo.0 = sym ((r.numbers.free (node a)).1 free) ∙ limbo.1 in absurd (cc))
    (λ (hand : (p : ℕ) × (v : View) × (f p ≡ Some v) × ((x : InHand) × Member x v.hand × (x.link ≡ node a))).
    let e : InHandOf hand.0 ≡ InLimboOf limbo.0 = sym (in_hand hand.0 hand.1 hand.2 hand.3) ∙ limbo.1 in absurd (cc)) place)
    ((r.unstamped.pinned q u at).stamped a stamped)
  where
    in_hand : (p : ℕ) (v : View) → f p ≡ Some v → ((x : InHand) × Member x v.hand × (x.link ≡ node a)) → r.at (node a) ≡ InHandOf p
    in_hand p v is x = ap r.at (sym x.2) ∙ (r.numbers.accounts p v is).hand x.0 x.1

-- and what is in a limbo is there under a pin that stands
pub linked_law : LinkedLaw
linked_law z m f a r q u at stamped = ⊎_elim
    (λ (tree : r.at (node a) ≡ InTree). let o = (r.numbers.tree (node a)).0 tree in StillLinked o.0 o.1)
    (λ (limbo : (o : ℕ) × (r.at (node a) ≡ InLimboOf o)).
    let o = limbo.0 in
    ⊎_elim
    (λ (k : (w : View) × (f o ≡ Some w)).
    let e = (r.numbers.accounts o k.0 k.1).in_limbo (node a) limbo.1 in
    LinkedSincePin o k.0 e.0 k.1 e.1 e.2 ((r.unstamped.awaits q o u k.0 e.0 at k.1 e.1).stamped a e.2 stamped))
    (λ (none : f o ≡ None). absurd ((r.numbers.strangers o (node a) none).1 limbo.1))
    (some_view (f o)))
    ((r.unstamped.pinned q u at).stamped a stamped)
  where
    some_view : (k : Option View) → ((w : View) × (k ≡ Some w)) ⊎ (k ≡ None)
    some_view (Some w) = inl (w, refl)
    some_view None = inr refl

-- a node's number in hand is locked and held
pub claim_law : claim.Law
claim_law z p v m f m' g is r row =
    let n = row.node in
    let may = row.may in
    let sets = row.locks in
    let obsolete = unclaimed_law z p v m f n is r may in
    let here = sets.here in
    set_version_sound z m m' (cell.Node n) claimed_word g sets
    (locks z m m'.version f p v r is (cell.Node n) None row.copy v.found record {
      raises = record { past = λ q u at x i e. absurd (unstamped_law z m f n r (inr (p, v, is, may.hand)) q u at (x, i, e)); there = sets.there };
      unlocked = λ l. omega arith;
      locked = omega arith;
      small = omega arith;
      leaf = λ l e. cc;
      copy = row.copied;
      early = may.early;
      stamped = λ y e. absurd (cc);
      place = λ d e. subst (λ (a : Node). r.at (node a) ≡ InHandOf p) (cc) (claimed_in_hand m r.at p v n (r.numbers.accounts p v is) may);
      idle = λ e. refl;
    } g row.view)

-- ---- a cell is released

module _ (z : Sizes) (m : Memory) (f : Views) (p : ℕ) (v : View) (is : f p ≡ Some v) (r : IsSound z m f) (h : Holding) (obsolete : Bool) (may : release.May v h obsolete) where
  -- after the commit, or before it with nothing written and nothing claimed
  abbrev Late : Type 0
  Late = (v.committed ≡ true) × ((obsolete ≡ true) ↔ IsNodeAmong h.cell (IsInLimbo v))

  abbrev Early : Type 0
  Early = (v.committed ≡ false) × (obsolete ≡ false) × ((k : Holding) → Member k v.held → k.new ≡ k.old) × HasClaimedNone v

  keeps : Keeps m r.logical v.committed h
  keeps = (r.holder.holds p v is).keeps h may.0

  accounts : Accounts m r.at p v
  accounts = r.numbers.accounts p v is

  is_no_leaf : (l : ℕ) → h.cell ≢ cell.Leaf l
  is_no_leaf = no_leaf z m f h.cell r.formed (λ obsolete. let locked = keeps.locked in omega arith)

  logical_new : r.logical h.cell ≡ m.words h.cell
  logical_new = keeps.logical ∙ (ap words_in same ∙ sym keeps.new)
    where
      same : (if v.committed then h.new else h.old) ≡ h.new
      same = ⊎_elim
          (λ (a : Late). ap (λ (b : Bool). if b then h.new else h.old) a.0)
          (λ (a : Early). ap (λ (b : Bool). if b then h.new else h.old) a.0 ∙ sym (a.2 h may.0)) may.1

  upgraded_before : obsolete ≡ true → (x : ℕ) × (h.stamped ≡ Some x)
  upgraded_before e = ⊎_elim
      (λ (a : Late).
      let b = a.1.0 e in
      let at : r.at (node b.0) ≡ InLimboOf p = ap r.at (sym b.2.2) ∙ accounts.limbo b.2.0 b.2.1 in
      was_upgraded p v.committed h.stamped (r.at (node b.0)) (accounts.held h b.0 may.0 b.1)
      (λ late e. let i : InTree ≡ InLimboOf p = sym e ∙ at in cc) (λ early e. let i : InHandOf p ≡ InLimboOf p = sym e ∙ at in cc))
      (λ (a : Early). a.3 h may.0) may.1

  clear_in_tree : (d : Link) → h.cell ≡ cell_named d → IsClear (released_word (m.version h.cell) obsolete) → r.at d ≡ InTree
  clear_in_tree (leaf l) same clear = absurd (is_no_leaf l same)
  clear_in_tree (node n) same clear =
      let stays : obsolete ≡ false = released_clear (m.version h.cell) obsolete keeps.locked clear in
      held_in_tree p v.committed h.stamped (r.at (node n)) (accounts.held h n may.0 same)
      (λ late at. ⊎_elim
      (λ (a : Late). let i : true ≡ false = sym (a.1.1 (n, same, accounts.in_limbo (node n) at)) ∙ stays in cc)
      (λ (a : Early). let i : true ≡ false = sym late ∙ a.0 in cc) may.1)
      (λ early. ⊎_elim
      (λ (a : Late). let i : true ≡ false = sym a.0 ∙ early in absurd (cc))
      (λ (a : Early). a.3 h may.0) may.1)

-- after the commit, or of a change that is given up, a cell is no longer held
pub release_law : release.Law
release_law z p v m f m' g is r row =
    let h = row.holding in
    let hs = row.held in
    let obsolete = row.obsolete in
    let may = row.may in
    let sets = row.unlocks in
    let c : Cell = h.cell in
    let x : ℕ = m.version c in
    let mine = r.holder.holds p v is in
    let held = mine.keeps h may.0 in
    set_version_sound z m m' c (released_word x obsolete) g sets
    (shifts z m m'.version f p v r is c hs v.committed v.found record {
      raises = released_raises z m m' f c obsolete r sets;
      formed = subst IsVersion (sym sets.here) (released_version m r.logical v.committed h obsolete held (r.formed.versions c) (upgraded_before z m f p v is r h obsolete may));
      leaf = is_no_leaf z m f p v is r h obsolete may;
      clear = λ d same clear. clear_in_tree z m f p v is r h obsolete may d same (subst IsClear sets.here clear);
      rest = λ unlocked. logical_new z m f p v is r h obsolete may;
      holder = λ locked. absurd (released_unlocked x obsolete held.locked (subst IsLocked sets.here locked));
      flag = inl refl;
      each = λ k i. let j = row.drops.was k i in inl (j.1, j.0);
      single = λ k j i i'. mine.single k j (row.drops.was k i).0 (row.drops.was j i').0;
      stays = row.drops.stays;
      others = λ q u other e k i same. r.holder.apart p q v u (λ a. other (sym a)) is e h k may.0 i (sym same);
    } g row.view)
