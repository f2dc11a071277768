-- Steps that move one number: a free one is taken, and one in hand or in limbo goes back.
use Rattle.std.proofs.Common.{◌≡◌, ◌≢◌, ◌⊎◌, ◌↔◌, ℕ, ◌+◌, ◌-◌, ◌^◌, ◌<◌, ◌≤◌, ◌==◌, Bool, true, false, List, ◌∷◌, length, inl, inr, sym, refl, ap, ap₂, ◌∙◌, subst, ⊎_elim}
use Rattle.std.proofs.lemmas.Bool.{cases_eq, cases_Bool}
use Rattle.std.specs.Prelude.{if◌then◌else◌, Option, Some, None, IfSome, ⊤}
use Rattle.art_cell.specs.declared.cells.Pool.{Pool}
use Rattle.art_step.specs.declared.views.Found.{Found}
use Rattle.art_step.specs.declared.views.Word.TheVariants.{Free}
use Rattle.art_cell.specs.declared.cells.Node.{Node}
use Rattle.art_cell.specs.declared.cells.Cell.{Cell}
use Rattle.art_cell.specs.declared.cells.Cell.TheVariants as cell
use Rattle.art_cell.specs.declared.cells.Link.{Link}
use Rattle.art_cell.specs.declared.cells.Link.TheVariants.{Node as node}
use Rattle.art_step.specs.declared.views.Holding.{Holding}
use Rattle.art_step.specs.declared.views.InHand.{InHand}
use Rattle.art_step.specs.declared.views.Retired.{Retired}
use Rattle.art_step.specs.declared.views.Sizes.{Sizes}
use Rattle.art_step.specs.declared.views.Stamp.{Stamp}
use Rattle.art_step.specs.declared.views.View.{View}
use Rattle.art_tree.specs.Heaps.{Cells}
use Rattle.art_step.specs.Knowledge.{Holds}
use Rattle.art_step.specs.Sound.{Keeps, OneHolder, IsStampOf, Vouched, StampsVouch, Whereabouts, InTree, IsFree, InHandOf, InLimboOf, Nowhere, HeldAt, Accounts, NumbersAccounted, IsStamped, IsUnder}
use Rattle.art_step.specs.Sound.{Awaits, IsPinned, MarkedUnstamped, WordsFormed, IsSound}
use Rattle.art_step.specs.Steps.Take as take_free
use Rattle.art_step.specs.Steps.Give as give
use Rattle.art_step.specs.Effects.{SetsFreeWord}
use Rattle.art_step.specs.Steps.Take.{IsTaken}
use Rattle.art_step.specs.Views.{HaveForms, Member, Memory, words_in, IsClear, IsLocked, IsObsolete, IsVersion, bit_of, cell_named, is_free, number_at, pool_rank, Views, SetsView}
use Rattle.art_step.proofs.Histories.{history_stays}
use Rattle.art_step.proofs.SoundParts.{IdleHolds, account_on, unstamped_turn, holder_same, formed_turn}
use Rattle.art_step.proofs.FreeBits.{SetsFree, frees_number, set_is_free, takes_bit}
use Rattle.art_step.proofs.Gathered.{key_member}
use Rattle.art_step.proofs.StepNotes.{quiet}
use Rattle.art_step.proofs.WordPlaces.{same_pool}
use Rattle.art_tree.proofs.Places.{same_link}
use Rattle.art_step.proofs.SetsView.{one_view, stranger_before, each_view}

-- ---- what other words of the memory do not touch

-- a holding is kept with new words where its cell has those words
pub keeps_new : (m m' : Memory) (s s' : Cells) (b : Bool) (h : Holding) (ws : List ℕ) → m'.version ≡ m.version → length ws ≡ length h.new → m'.words h.cell ≡ words_in ws → s' h.cell ≡ words_in (if b then ws else h.old)
    → Keeps m s b h → Keeps m' s' b (record h { new = ws })
keeps_new m m' s s' b h ws version long words logical k = record {
  locked = subst (λ (a : Cell → ℕ). IsLocked (a h.cell)) (sym version) k.locked;
  long = long ∙ k.long;
  new = words;
  logical = logical;
  stamped = λ x e. let o = k.stamped x e in (ap (λ (a : Cell → ℕ). a h.cell) version ∙ o.0, o.1);
}

-- and where the words of its cell stay
pub keeps_on : (m m' : Memory) (s s' : Cells) (b : Bool) (h : Holding) → m'.version ≡ m.version → m'.words h.cell ≡ m.words h.cell → s' h.cell ≡ s h.cell → Keeps m s b h → Keeps m' s' b h
keeps_on m m' s s' b h version words logical k = keeps_new m m' s s' b h h.new version refl (words ∙ k.new) (logical ∙ k.logical) k

-- holders stay where version words and the words of locked cells do, and each cell at rest has its logical words
pub holder_words : (m m' : Memory) (f : Views) (s s' : Cells) → m'.version ≡ m.version → ((c : Cell) → IsLocked (m.version c) → (m'.words c ≡ m.words c) × (s' c ≡ s c))
    → ((c : Cell) → (IsLocked (m.version c) → ⊥) → s' c ≡ m'.words c) → OneHolder m f s → OneHolder m' f s'
holder_words m m' f s s' version locked rest k = record {
  at_rest = λ c e. rest c (λ i. e (subst (λ (a : Cell → ℕ). IsLocked (a c)) (sym version) i));
  holder = λ c e. k.holder c (subst (λ (a : Cell → ℕ). IsLocked (a c)) version e);
  holds = λ p v is. let o = k.holds p v is in record {
    keeps = λ h i. let old = o.keeps h i in let same = locked h.cell old.locked in keeps_on m m' s s' v.committed h version same.0 same.1 old;
    single = o.single;
  };
  apart = k.apart;
}

-- each holding was one of the same cell, with the same stamped word
abbrev pub HoldingsFrom : View → View → Type 0
HoldingsFrom v w = (h : Holding) → Member h w.held → (k : Holding) × Member k v.held × (k.cell ≡ h.cell) × (k.stamped ≡ h.stamped)

pub vouched_on : (m m' : Memory) (s : Cells) (v : View) → m'.version ≡ m.version → Vouched m s v → Vouched m' s v
vouched_on m m' s v version k = record {
  stamps = λ x i. stamp_on x (k.stamps x i);
  noted = k.noted;
  notes = λ y i. let o = k.notes y i in record { stamp = stamp_on y.stamp o.stamp; same = λ e. o.same (ap (λ (a : Cell → ℕ). a y.stamp.cell) (sym version) ∙ e) };
  kept = k.kept;
}
  where
    stamp_on : (x : Stamp) → IsStampOf m x → IsStampOf m' x
    stamp_on x o = record { clear = o.clear; below = subst (λ (a : Cell → ℕ). x.version ≤ a x.cell) (sym version) o.below }

-- stamps vouch on where version words, the logical words, stamps and notes stay
pub vouch_turn : (m m' : Memory) (f g : Views) (p : ℕ) (v w : View) (s : Cells) → SetsView f p w g → f p ≡ Some v → m'.version ≡ m.version
    → w.stamps ≡ v.stamps → w.notes ≡ v.notes → w.committed ≡ v.committed → HoldingsFrom v w → StampsVouch m f s → StampsVouch m' g s
vouch_turn m m' f g p v w s t is version stamps notes committed held k = each_view f g p w t (λ q u. Vouched m' s u)
    (let o = vouched_on m m' s v version (k p v is) in record {
      stamps = λ x i. o.stamps x (subst (Member x) stamps i);
      noted = λ y i. subst (Member y.stamp) (sym stamps) (o.noted y (subst (Member y) notes i));
      notes = λ y i. o.notes y (subst (Member y) notes i);
      kept = λ e h y i j at stamp. let old = held h i in
          subst (λ (c : Cell). Holds s c y.fact) old.2 (o.kept (sym committed ∙ e) old.0 y old.1 (subst (Member y) notes j) (at ∙ sym old.2) (old.3 ∙ stamp));
    })
    (λ q u other e. vouched_on m m' s u version (k q u e))

-- what is given back stays unstamped where numbers, version words, the epoch, pass words, pins, limbo and stamps stay
pub unstamped_same : (z : Sizes) (m m' : Memory) (f g : Views) (p : ℕ) (v w : View) (s : Cells) (at : Link → Whereabouts) → SetsView f p w g → f p ≡ Some v → NumbersAccounted z m f s at → MarkedUnstamped z m f at
    → m'.version ≡ m.version → m'.epoch ≡ m.epoch → m'.pass_word ≡ m.pass_word → w.pin ≡ v.pin → w.pins ≡ v.pins → w.noted ≡ v.noted → w.limbo ≡ v.limbo → w.stamps ≡ v.stamps → IdleHolds v w → MarkedUnstamped z m' g at
unstamped_same z m m' f g p v w s at t is numbers k version epoch words pin pins noted limbo stamps held = unstamped_turn z m m' f g p v w s at t is numbers k epoch words
    (λ d clear. k.clear d (subst (λ (a : Cell → ℕ). IsClear (a (cell_named d))) version clear))
    pin pins noted limbo (λ x i. inl (subst (Member x) stamps i)) held

-- words have their forms where version words, the epoch and its note stay
pub formed_same : (z : Sizes) (m m' : Memory) (f g : Views) (p : ℕ) (v w : View) → SetsView f p w g → f p ≡ Some v → m'.version ≡ m.version → m'.epoch ≡ m.epoch → w.noted ≡ v.noted → WordsFormed z m f → HaveForms z m'.words → WordsFormed z m' g
formed_same z m m' f g p v w t is version epoch noted k words = formed_turn z m m' f g p v w t is k
    (λ c. subst (λ (a : Cell → ℕ). IsVersion (a c)) (sym version) (k.versions c))
    (λ l. subst (λ (a : Cell → ℕ). IsObsolete (a (cell.Leaf l))) (sym version) (k.leaves l))
    epoch noted words

-- ---- the place of one number changes

-- the place w for the number d, and for any other the one that it had
put : (Link → Whereabouts) → Link → Whereabouts → Link → Whereabouts
put at d w e = ⊎_elim (λ (_ : e ≡ d). w) (λ (_ : e ≢ d). at e) (same_link e d)

put_here : (at : Link → Whereabouts) (d : Link) (w : Whereabouts) (e : Link) → e ≡ d → put at d w e ≡ w
unfolding put
put_here at d w e is = elim (same_link e d) as (λ c. ⊎_elim (λ (_ : e ≡ d). w) (λ (_ : e ≢ d). at e) c ≡ w) [ inl i ↦ refl | inr other ↦ absurd (other is) ]

put_else : (at : Link → Whereabouts) (d : Link) (w : Whereabouts) (e : Link) → e ≢ d → put at d w e ≡ at e
unfolding put
put_else at d w e other = elim (same_link e d) as (λ c. ⊎_elim (λ (_ : e ≡ d). w) (λ (_ : e ≢ d). at e) c ≡ at e) [ inl i ↦ absurd (other i) | inr _ ↦ refl ]

-- what is now at another place than the number is not the number, and was there before
put_before : (at : Link → Whereabouts) (d : Link) (w k : Whereabouts) → w ≢ k → (e : Link) → put at d w e ≡ k → (e ≢ d) × (at e ≡ k)
put_before at d w k now e is =
    let other : e ≢ d = λ same. now (sym (put_here at d w e same) ∙ is) in
    (other, sym (put_else at d w e other) ∙ is)

-- and what was at another place than the number is not the number, and is there now
put_after : (at : Link → Whereabouts) (d : Link) (old w k : Whereabouts) → at d ≡ old → old ≢ k → (e : Link) → at e ≡ k → put at d w e ≡ k
put_after at d old w k was leaves e is = put_else at d w e (λ same. leaves (sym was ∙ (ap at (sym same) ∙ is))) ∙ is

-- free, or in the hand or the limbo of the pass p
abbrev IsOwn : ℕ → Whereabouts → Type 0
IsOwn p InTree = ⊥
IsOwn p IsFree = ⊤
IsOwn p (InHandOf q) = q ≡ p
IsOwn p (InLimboOf q) = q ≡ p
IsOwn p Nowhere = ⊥

own_else : (p : ℕ) (w k : Whereabouts) → IsOwn p w → (IsOwn p k → ⊥) → w ≢ k
own_else p w k own not e = not (subst (IsOwn p) e own)

-- what another pass holds is in no such place, and what a pass holds is not free
held_not_own : (p q : ℕ) (b : Bool) (o : Option ℕ) (w : Whereabouts) → q ≢ p → HeldAt q b o w → IsOwn p w → ⊥
held_not_own p q b (Some x) w other h own = ⊎_elim (λ (e : w ≡ InTree). subst (IsOwn p) e own) (λ (e : (b ≡ true) × (w ≡ InLimboOf q)). other (subst (IsOwn p) e.1 own)) h
held_not_own p q true None w other h own = subst (IsOwn p) h own
held_not_own p q false None w other h own = other (subst (IsOwn p) h own)

held_not_free : (p : ℕ) (b : Bool) (o : Option ℕ) (w : Whereabouts) → HeldAt p b o w → w ≢ IsFree
held_not_free p b (Some x) w h e = ⊎_elim (λ (i : w ≡ InTree). cc) (λ (i : (b ≡ true) × (w ≡ InLimboOf p)). let j : w ≡ InLimboOf p = i.1 in cc) h
held_not_free p true None w h e = cc
held_not_free p false None w h e = cc

-- the view after one more step, with this found, hand and limbo
abbrev moved : View → List Found → List InHand → List Retired → View
moved v fs xs es = record v { steps = v.steps + 1; found = fs; hand = xs; limbo = es }

-- a number that is neither in the tree nor in a limbo is in no stamp
no_stamp : (z : Sizes) (m : Memory) (f : Views) (r : IsSound z m f) (d : Link) (w : Whereabouts) → r.at d ≡ w → w ≢ InTree → ((q : ℕ) → w ≢ InLimboOf q)
    → (q : ℕ) (u : View) (n : Node) → f q ≡ Some u → d ≡ node n → IsStamped u n → ⊥
no_stamp z m f r d w was tree limbo q u n is e stamped = ⊎_elim
    (λ (i : r.at (node n) ≡ InTree). tree (sym was ∙ (ap r.at e ∙ i)))
    (λ (i : (q : ℕ) × (r.at (node n) ≡ InLimboOf q)). limbo i.0 (sym was ∙ (ap r.at e ∙ i.1)))
    ((r.unstamped.pinned q u is).stamped n stamped)

-- what is held stays where it is, where that is not the number
held_stays : (at : Link → Whereabouts) (d : Link) (w : Whereabouts) (p : ℕ) (b : Bool) (h : Holding) (n : Node) → node n ≢ d → HeldAt p b h.stamped (at (node n)) → HeldAt p b h.stamped (put at d w (node n))
held_stays at d w p b h n other = subst (HeldAt p b h.stamped) (sym (put_else at d w (node n) other))

-- what is sound stays so when a number goes from one place outside the tree to another, by a pass that may do so
module _ (z : Sizes) (m m' : Memory) (f g : Views) (p : ℕ) (v : View) (is-v : f p ≡ Some v) (r : IsSound z m f) (d : Link) (old new : Whereabouts) (b : Bool) (fs : List Found) (xs : List InHand) (es : List Retired)
    (was : r.at d ≡ old) (own : IsOwn p old) (comes : IsOwn p new) (frees : (new ≡ IsFree) ↔ (b ≡ true)) (sets : SetsFree m d b m') (t : SetsView f p (moved v fs xs es) g)
    (account : Accounts m (put r.at d new) p (moved v fs xs es)) (unstamped : (q : ℕ) (u : View) (n : Node) → f q ≡ Some u → d ≡ node n → IsStamped u n → ⊥)
    (fewer : (e : Retired) → Member e es → Member e v.limbo) where
  abbrev w : View
  w = moved v fs xs es

  abbrev at : Link → Whereabouts
  at = put r.at d new

  -- places that are not the pass's own have the numbers that they had
  elsewhere : (k : Whereabouts) → (IsOwn p k → ⊥) → (e : Link) → (at e ≡ k) ↔ (r.at e ≡ k)
  elsewhere k not e = (λ i. (put_before r.at d new k (own_else p new k comes not) e i).1, put_after r.at d old new k was (own_else p old k own not) e)

  same_words : (l : ℕ) → m'.words (cell.Leaf l) ≡ m.words (cell.Leaf l)
  same_words l = ap (λ (s : Cells). s (cell.Leaf l)) sets.words

  -- of another pass
  others_account : (q : ℕ) (u : View) → q ≢ p → f q ≡ Some u → Accounts m at q u
  others_account q u other is = let k = r.numbers.accounts q u is in record {
    hand = λ x i. (elsewhere (InHandOf q) other x.link).1 (k.hand x i);
    in_hand = λ e i. k.in_hand e ((elsewhere (InHandOf q) other e).0 i);
    leaves = k.leaves;
    limbo = λ e i. (elsewhere (InLimboOf q) other e.link).1 (k.limbo e i);
    in_limbo = λ e i. k.in_limbo e ((elsewhere (InLimboOf q) other e).0 i);
    held = λ h n i is.
        let o = k.held h n i is in
        held_stays r.at d new q u.committed h n (λ e. held_not_own p q u.committed h.stamped (r.at (node n)) other o (subst (IsOwn p) (sym (ap r.at e ∙ was)) own)) o;
    hand_once = k.hand_once;
    limbo_once = k.limbo_once;
  }

  free_on : (e : Link) (a : Whereabouts) (x : Bool) → at e ≡ a → is_free m' e ≡ x → (a ≡ IsFree) ↔ (x ≡ true) → (at e ≡ IsFree) ↔ (is_free m' e ≡ true)
  free_on e a x place bit = subst (λ (y : Whereabouts × Bool). (y.0 ≡ IsFree) ↔ (y.1 ≡ true)) (λ i. (sym place i, sym bit i))

  numbers_move : NumbersAccounted z m' g r.logical at
  numbers_move = record {
    tree = λ e. let k = elsewhere InTree (λ i. i) e in let o = r.numbers.tree e in (λ i. o.0 (k.0 i), λ l. k.1 (o.1 l));
    free = λ e. ⊎_elim
        (λ (is : e ≡ d). free_on e new b (put_here r.at d new e is) (ap (is_free m') is ∙ sets.here) frees)
        (λ (other : e ≢ d). free_on e (r.at e) (is_free m e) (put_else r.at d new e other) (sets.there e other) (r.numbers.free e))
        (same_link e d);
    numbers = λ e. let k = elsewhere Nowhere (λ i. i) e in let o = r.numbers.numbers e in (λ i. o.0 (λ j. i (k.1 j)), λ i j. o.1 i (k.0 j));
    accounts = each_view f g p w t (λ q u. Accounts m' at q u) (account_on m m' at p w same_words account) (λ q u other is. account_on m m' at q u same_words (others_account q u other is));
    strangers = λ q e none. let o = stranger_before f g p w t q none in let k = r.numbers.strangers q e o.1 in
        (λ i. k.0 ((elsewhere (InHandOf q) o.0 e).0 i), λ i. k.1 ((elsewhere (InLimboOf q) o.0 e).0 i));
  }

  pinned_on : (q : ℕ) (u : View) → f q ≡ Some u → IsPinned z m' at q u
  pinned_on q u is = let o = r.unstamped.pinned q u is in record {
    inside = o.inside;
    word = ap (λ (a : ℕ → ℕ). a q) sets.pass_word ∙ o.word;
    low = subst (λ (n : ℕ). u.pin ≤ n) (sym sets.epoch) o.low;
    noted = λ n e. let i = o.noted n e in (i.0, subst (λ (a : ℕ). n.epoch ≤ a) (sym sets.epoch) i.1);
    pinned = o.pinned;
    placed = o.placed;
    stamped = λ n i.
        let away : node n ≢ d = λ e. unstamped q u n is (sym e) i in
        subst (λ (a : Whereabouts). (a ≡ InTree) ⊎ ((q : ℕ) × (a ≡ InLimboOf q))) (sym (put_else r.at d new (node n) away)) (o.stamped n i);
    idle = o.idle;
  }

  -- what is in limbo was there before
  in_limbo : (q : ℕ) (u : View) (e : Retired) → g q ≡ Some u → Member e u.limbo → (q : ℕ) × (u : View) × (f q ≡ Some u) × Member e u.limbo
  in_limbo q u e = each_view f g p w t (λ q u. Member e u.limbo → (q : ℕ) × (u : View) × (f q ≡ Some u) × Member e u.limbo) (λ i. (p, v, is-v, fewer e i)) (λ q u other is i. (q, u, is, i)) q u

  unstamped_moves : MarkedUnstamped z m' g at
  unstamped_moves = record {
    epoch = subst (λ (n : ℕ). 0 < n) (sym sets.epoch) r.unstamped.epoch;
    clear = λ e clear. (elsewhere InTree (λ i. i) e).1 (r.unstamped.clear e (subst (λ (a : Cell → ℕ). IsClear (a (cell_named e))) sets.version clear));
    pinned = each_view f g p w t (λ q u. IsPinned z m' at q u)
        (let o = pinned_on p v is-v in record { inside = o.inside; word = o.word; low = o.low; noted = o.noted; pinned = o.pinned; placed = o.placed; stamped = o.stamped; idle = o.idle })
        (λ q u other is. pinned_on q u is);
    awaits = λ q r' u x e is-u is-x i. let o = in_limbo r' x e is-x i in each_view f g p w t (λ q u. Awaits q u e)
        (let k = r.unstamped.awaits p o.0 v o.1 e is-v o.2 o.3 in record { stamped = k.stamped; marked = k.marked; label = k.label; made = k.made })
        (λ q u other is. r.unstamped.awaits q o.0 u o.1 e is o.2 o.3)
        q u is-u;
  }

  number_moves : IsSound z m' g
  number_moves = record {
    log = r.log;
    logical = r.logical;
    at = at;
    history = history_stays f g p v w t is-v r.log r.history refl refl refl;
    shows = r.shows;
    holder = holder_words m m' g r.logical r.logical sets.version (λ c _. (ap (λ (s : Cells). s c) sets.words, refl))
        (λ c rests. r.holder.at_rest c rests ∙ sym (ap (λ (s : Cells). s c) sets.words)) (holder_same m f g p v w r.logical t is-v refl refl r.holder);
    vouch = vouch_turn m m' f g p v w r.logical t is-v sets.version refl refl refl (λ h i. (h, i, refl, refl)) r.vouch;
    numbers = numbers_move;
    unstamped = unstamped_moves;
    formed = formed_same z m m' f g p v w t is-v sets.version sets.epoch refl r.formed (subst (HaveForms z) (sym sets.words) r.formed.words);
  }

-- ---- a word of free numbers stays as it is

same_memory : (m m' : Memory) (pool : Pool) (i : ℕ) → SetsFreeWord m pool i (m.free_word pool i) m' → m' ≡ m
same_memory m m' pool i sets = (λ k. record {
  version = sets.version k;
  words = sets.words k;
  free_word = (λ q j. word q j k);
  epoch = sets.epoch k;
  pass_word = sets.pass_word k;
})
  where
    word : (q : Pool) (j : ℕ) → m'.free_word q j ≡ m.free_word q j
    word q j = ⊎_elim
        (λ (rank : pool_rank q ≡ pool_rank pool). ⊎_elim
        (λ (index : j ≡ i).
        let both : (q ≡ pool) × (j ≡ i) = (same_pool q pool rank, index) in
        ap₂ m'.free_word both.0 both.1 ∙ (sets.here ∙ ap₂ m.free_word (sym both.0) (sym both.1)))
        (λ (apart : j ≢ i). sets.there q j (λ same index. apart index))
        (cases_eq j i))
        (λ (apart : pool_rank q ≢ pool_rank pool). sets.there q j (λ same index. apart (ap pool_rank same)))
        (cases_eq (pool_rank q) (pool_rank pool))

-- ---- the laws

-- a free number comes into the hand
module _ (z : Sizes) (p : ℕ) (v : View) (m : Memory) (f : Views) (m' : Memory) (g : Views) (is : f p ≡ Some v) (r : IsSound z m f) (d : Link) (copy : List ℕ) (fs : List Found) where
  abbrev x : InHand
  x = record { link = d; words = copy }

  mine : Accounts m r.at p v
  mine = r.numbers.accounts p v is

  takes : is_free m d ≡ true → IsTaken m d copy → SetsFree m d false m' → SetsView f p (moved v fs (x ∷ v.hand) v.limbo) g → IsSound z m' g
  takes free copied sets t =
      number_moves z m m' f g p v is r d IsFree (InHandOf p) false fs (x ∷ v.hand) v.limbo was tt refl (λ e. cc, λ e. cc) sets t account (no_stamp z m f r d IsFree was (λ e. cc) (λ q e. cc)) (λ e i. i)
    where
      was : r.at d ≡ IsFree
      was = (r.numbers.free d).1 free

      after : (k : Whereabouts) → IsFree ≢ k → (e : Link) → r.at e ≡ k → put r.at d (InHandOf p) e ≡ k
      after k = put_after r.at d IsFree (InHandOf p) k was

      account : Accounts m (put r.at d (InHandOf p)) p (moved v fs (x ∷ v.hand) v.limbo)
      account = record {
        hand = λ y i. ⊎_elim
            (λ (e : y ≡ x). put_here r.at d (InHandOf p) y.link (ap (λ (y : InHand). y.link) e))
            (λ (j : Member y v.hand). after (InHandOf p) (λ e. cc) y.link (mine.hand y j))
            i;
        in_hand = λ e i. ⊎_elim
            (λ (same : e ≡ d). (x, inl refl, sym same))
            (λ (other : e ≢ d). let k = mine.in_hand e (sym (put_else r.at d (InHandOf p) e other) ∙ i) in (k.0, inr k.1, k.2))
            (same_link e d);
        leaves = λ y l i link. ⊎_elim
            (λ (e : y ≡ x). subst (λ (ws : List ℕ). (length ws ≡ 10) × (m.words (cell.Leaf l) ≡ words_in ws)) (sym (ap (λ (y : InHand). y.words) e))
            (subst (λ (c : Link). IsTaken m c copy) (sym (ap (λ (y : InHand). y.link) e) ∙ link) copied))
            (λ (j : Member y v.hand). mine.leaves y l j link)
            i;
        limbo = λ e i. after (InLimboOf p) (λ e. cc) e.link (mine.limbo e i);
        in_limbo = λ e i. mine.in_limbo e (put_before r.at d (InHandOf p) (InLimboOf p) (λ e. cc) e i).1;
        held = λ h n i cell. let o = mine.held h n i cell in held_stays r.at d (InHandOf p) p v.committed h n (λ e. held_not_free p v.committed h.stamped (r.at (node n)) o (ap r.at e ∙ was)) o;
        hand_once = (λ i. let o = key_member (λ (y : InHand). y.link) v.hand d i in let a = mine.hand o.0 o.1 in let b : IsFree ≡ InHandOf p = sym was ∙ (ap r.at (sym o.2) ∙ a) in cc, mine.hand_once);
        limbo_once = mine.limbo_once;
      }

-- a word of free numbers is found: no number moves, or the one whose bit is cleared
module _ (z : Sizes) (p : ℕ) (v : View) (m : Memory) (f : Views) (m' : Memory) (g : Views) (is : f p ≡ Some v) (r : IsSound z m f) (pool : Pool) (i : ℕ) (copy : List ℕ) where
  abbrev word : ℕ
  word = m.free_word pool i

  -- the word stays, and is noted
  noted : {failures : ℕ} → SetsFreeWord m pool i word m' → SetsView f p (record (take_free.view_noted v pool i word) { failures = failures }) g → IsSound z m' g
  noted sets t = subst (λ (k : Memory). IsSound z k g) (sym (same_memory m m' pool i sets))
      (quiet z m f g p v is r t (λ x j. inl j) (λ y j. inl j) (λ y j. (r.vouch p v is).noted y j))

  -- the view where the bit was set, and where it was not
  abbrev with_number : ℕ → View
  with_number k = record (take_free.view_noted v pool i word) { hand = record { link = number_at pool i k; words = copy } ∷ v.hand }

  abbrev without_number : ℕ → View
  without_number k = record (take_free.view_noted v pool i word) { failures = v.failures + bit_of (take_free.last_found pool i v.found) k }

  by_test : (k : ℕ) → k < 64 → (b : Bool) → (bit_of word k == 1) ≡ b → IfSome (if b then Some (number_at pool i k) else None) (λ d. IsTaken m d copy)
      → SetsFreeWord m pool i (if b then word - 2 ^ k else word) m' → SetsView f p (if b then with_number k else without_number k) g → IsSound z m' g
  by_test k low true bit copied sets t =
      takes z p v m f m' g is r (number_at pool i k) copy (record { word = Free pool i word; step = v.steps + 1 } ∷ v.found)
      (set_is_free m pool i k low bit) copied (takes_bit m m' pool i k low bit sets) t
  by_test k low false bit copied sets t = noted sets t

  by_bit : (bit : Option ℕ) → IfSome bit (λ k. k < 64) → IfSome (take_free.taken pool i bit word) (λ d. IsTaken m d copy)
      → SetsFreeWord m pool i (take_free.without_bit bit word) m' → SetsView f p (take_free.view_after v pool i bit word copy) g → IsSound z m' g
  by_bit None low copied sets t = noted sets t
  by_bit (Some k) low copied sets t = by_test k low (bit_of word k == 1) refl copied sets t

pub take_law : take_free.Law
take_law z p v m f m' g is r row = by_bit z p v m f m' g is r row.pool row.index row.copy row.bit row.may.low row.copied row.sets row.view

-- what is somewhere else than among the free ones is not free
pub not_free : (z : Sizes) (m : Memory) (f : Views) (r : IsSound z m f) (d : Link) (k : Whereabouts) → r.at d ≡ k → k ≢ IsFree → is_free m d ≡ false
not_free z m f r d k was other = ⊎_elim
    (λ (free : is_free m d ≡ true). absurd (other (sym was ∙ (r.numbers.free d).1 free)))
    (λ (taken : is_free m d ≡ false). taken)
    (cases_Bool (is_free m d))

-- a number in hand that is not held goes back
pub give_law : give.Law
give_law z p v m f m' g is r row =
    number_moves z m m' f g p v is r row.link (InHandOf p) IsFree true v.found row.hand v.limbo was refl tt (λ e. refl, λ e. refl) (frees_number m f m' g row.link (not_free z m f r row.link (InHandOf p) was (λ e. cc)) row.sets) row.view account
    (no_stamp z m f r row.link (InHandOf p) was (λ e. cc) (λ q e. cc)) (λ e i. i)
  where
    mine : Accounts m r.at p v
    mine = r.numbers.accounts p v is

    was : r.at row.link ≡ InHandOf p
    was = ap r.at (sym row.may.hand.2) ∙ mine.hand row.may.hand.0 row.may.hand.1

    account : Accounts m (put r.at row.link IsFree) p (give.view_after v row.hand)
    account = record {
      hand = λ y i. let k = row.rest.was y i in put_else r.at row.link IsFree y.link (λ e. k.1 (inl e)) ∙ mine.hand y k.0;
      in_hand = λ e i.
          let o = put_before r.at row.link IsFree (InHandOf p) (λ e. cc) e i in
          let k = mine.in_hand e o.1 in
          (k.0, row.rest.stays k.0 k.1 (⊎_elim (λ (same : k.0.link ≡ row.link). o.0 (sym k.2 ∙ same)) (λ none. none)), k.2);
      leaves = λ y l i. mine.leaves y l (row.rest.was y i).0;
      limbo = λ e i. put_after r.at row.link (InHandOf p) IsFree (InLimboOf p) was (λ e. cc) e.link (mine.limbo e i);
      in_limbo = λ e i. mine.in_limbo e (put_before r.at row.link IsFree (InLimboOf p) (λ e. cc) e i).1;
      held = λ h n i cell. held_stays r.at row.link IsFree p v.committed h n (λ e. row.may.free n (sym e) h i cell) (mine.held h n i cell);
      hand_once = row.rest.once mine.hand_once;
      limbo_once = mine.limbo_once;
    }

-- what an idle pass holds was claimed, and so is in the tree or in its hand
idle_held : (p : ℕ) (b : Bool) (o : Option ℕ) (w : Whereabouts) → o ≡ None → HeldAt p b o w → w ≢ InLimboOf p
idle_held p b (Some x) w none k e = cc
idle_held p true None w none k e = cc
idle_held p false None w none k e = cc

module _ (z : Sizes) (p : ℕ) (v : View) (m : Memory) (f : Views) (d : Link) (is : f p ≡ Some v) (r : IsSound z m f) (may : give.MayFree z v d) where
  -- no pass is under a pin that the place holds: the other passes are marked, and its own is idle
  pub under_nobody : (q : ℕ) (u : View) → f q ≡ Some u → IsUnder q u may.place → ⊥
  under_nobody q u is-u under = ⊎_elim
      (λ (same : q ≡ p). under.0 (ap (λ (y : View). y.pin) (one_view f q p u v same is-u is) ∙ may.idle))
      (λ (other : q ≢ p).
      let k = r.unstamped.awaits q p u v may.place is-u is may.limbo in
      let marked = may.marked q (r.unstamped.pinned q u is-u).inside (λ own. other (own ∙ (r.history.tells p v is).pass)) in
      k.marked marked under)
      (cases_eq q p)

  -- so none has its node in a stamp
  pub in_no_stamp : (q : ℕ) (u : View) (n : Node) → f q ≡ Some u → d ≡ node n → IsStamped u n → ⊥
  in_no_stamp q u n is-u e stamped =
      let k = r.unstamped.awaits q p u v may.place is-u is may.limbo in
      under_nobody q u is-u (k.stamped n (may.link ∙ e) stamped)

pub nobody_law : give.NobodyLaw
nobody_law z p v m f d is r may = under_nobody z p v m f d is r may

-- a number in limbo of an idle pass, whose place is marked for every other pass, goes back
pub free_law : give.FreeLaw
free_law z p v m f m' g is r row =
    number_moves z m m' f g p v is r row.link (InLimboOf p) IsFree true v.found v.hand row.limbo was refl tt (λ e. refl, λ e. refl) (frees_number m f m' g row.link (not_free z m f r row.link (InLimboOf p) was (λ e. cc)) row.sets) row.view account
    (in_no_stamp z p v m f row.link is r row.may) (λ e i. (row.rest.was e i).0)
  where
    mine : Accounts m r.at p v
    mine = r.numbers.accounts p v is

    was : r.at row.link ≡ InLimboOf p
    was = ap r.at (sym row.may.link) ∙ mine.limbo row.may.place row.may.limbo

    account : Accounts m (put r.at row.link IsFree) p (give.view_freed v row.limbo)
    account = record {
      hand = λ y i. put_after r.at row.link (InLimboOf p) IsFree (InHandOf p) was (λ e. cc) y.link (mine.hand y i);
      in_hand = λ e i. mine.in_hand e (put_before r.at row.link IsFree (InHandOf p) (λ e. cc) e i).1;
      leaves = mine.leaves;
      limbo = λ e i. let k = row.rest.was e i in put_else r.at row.link IsFree e.link k.1 ∙ mine.limbo e k.0;
      in_limbo = λ e i.
          let o = put_before r.at row.link IsFree (InLimboOf p) (λ e. cc) e i in
          let k = mine.in_limbo e o.1 in
          (k.0, row.rest.stays k.0 k.1 (λ same. o.0 (sym k.2 ∙ same)), k.2);
      held = λ h n i cell.
          let o = mine.held h n i cell in
          let none = (r.unstamped.pinned p v is).idle row.may.idle h i in
          held_stays r.at row.link IsFree p v.committed h n (λ e. idle_held p v.committed h.stamped (r.at (node n)) none o (ap r.at e ∙ was)) o;
      hand_once = mine.hand_once;
      limbo_once = row.rest.once mine.limbo_once;
    }
