-- Parts of the invariant that a step keeps, from what it does to the view of its pass.
use Rattle.std.proofs.Common.{◌≡◌, ◌≢◌, ◌⊎◌, ◌↔◌, ℕ, ◌+◌, ◌^◌, ◌<◌, ◌≤◌, Bool, true, inl, sym, ap, ap₂, ◌∙◌, subst, ⊎_elim, List}
use Rattle.std.proofs.lemmas.Bool.{cases_eq}
use Rattle.std.proofs.lemmas.List.{ext_get_or}
use Rattle.std.specs.Prelude.{Some, None}
use Rattle.art_cell.specs.declared.cells.Pool.{Pool}
use Rattle.art_cell.specs.declared.cells.Node.{Node}
use Rattle.art_cell.specs.declared.cells.Cell.{Cell}
use Rattle.art_cell.specs.declared.cells.Cell.TheVariants as cell
use Rattle.art_cell.specs.declared.cells.Link.{Link}
use Rattle.art_cell.specs.declared.cells.Link.TheVariants.{Leaf as leaf, Node as node}
use Rattle.art_step.specs.declared.views.Holding.{Holding}
use Rattle.art_step.specs.declared.views.InHand.{InHand}
use Rattle.art_step.specs.declared.views.Retired.{Retired}
use Rattle.art_step.specs.declared.views.Sizes.{Sizes}
use Rattle.art_step.specs.declared.views.Stamp.{Stamp}
use Rattle.art_step.specs.declared.views.View.{View}
use Rattle.art_tree.specs.Heaps.{Cells}
use Rattle.art_step.specs.Sound.{Keeps, HoldsEach, OneHolder, Holder, Whereabouts, InTree, IsFree, InLimboOf, Accounts, NumbersAccounted, IsUnder, Awaits, IsPinned, MarkedUnstamped, WordsFormed}
use Rattle.art_step.specs.WordPlaces.{place_of}
use Rattle.art_step.specs.Views.{HaveForms, Member, Memory, IsClear, IsObsolete, IsVersion, cell_named, is_free, Views, SetsView}
use Rattle.art_cell.specs.Words.{Words}
use Rattle.art_step.proofs.SetsView.{one_view, either_view, stranger_before, each_view, each_two, same_early_notes}

-- ---- numbers

pub account_on : (m m' : Memory) (at : Link → Whereabouts) (p : ℕ) (v : View) → ((l : ℕ) → m'.words (cell.Leaf l) ≡ m.words (cell.Leaf l)) → Accounts m at p v → Accounts m' at p v
account_on m m' at p v same k = record {
  hand = k.hand;
  in_hand = k.in_hand;
  leaves = λ x l i is. let o = k.leaves x l i is in (o.0, same l ∙ o.1);
  limbo = k.limbo;
  in_limbo = k.in_limbo;
  held = k.held;
  hand_once = k.hand_once;
  limbo_once = k.limbo_once;
}

-- two entries in a hand of one leaf are one
pub one_entry : (m : Memory) (at : Link → Whereabouts) (p : ℕ) (v : View) (l : ℕ) (a b : InHand) → Accounts m at p v → Member a v.hand → Member b v.hand → a.link ≡ leaf l → b.link ≡ leaf l → a ≡ b
one_entry m at p v l a b k i j e e' =
    let first = k.leaves a l i e in
    let second = k.leaves b l j e' in
    let words : a.words ≡ b.words = ext_get_or 0 a.words b.words (first.0 ∙ sym second.0) (λ n _. ap (λ (w : Words). w n) (sym first.1 ∙ second.1)) in
    ap₂ (λ (d : Link) (ws : List ℕ). record { link = d; words = ws }) (e ∙ sym e') words

-- the numbers stay where they are
pub numbers_turn : (z : Sizes) (m m' : Memory) (f g : Views) (p : ℕ) (w : View) (s s' : Cells) (at : Link → Whereabouts) → SetsView f p w g → NumbersAccounted z m f s at → NumbersAccounted z m f s' at
    → m'.free_word ≡ m.free_word → ((l : ℕ) → m'.words (cell.Leaf l) ≡ m.words (cell.Leaf l)) → Accounts m' at p w → NumbersAccounted z m' g s' at
numbers_turn z m m' f g p w s s' at t old k free words mine = record {
  tree = k.tree;
  free = λ d. subst (λ (a : Pool → ℕ → ℕ). (at d ≡ IsFree) ↔ (is_free (record m { free_word = a }) d ≡ true)) (sym free) (k.free d);
  numbers = k.numbers;
  accounts = each_view f g p w t (λ q u. Accounts m' at q u) mine (λ q u other is. account_on m m' at q u words (k.accounts q u is));
  strangers = λ q d e. k.strangers q d (stranger_before f g p w t q e).1;
}

-- ---- stamps of numbers

-- a stamp that is new: the pass is pinned, and a node that it is of is in the tree
abbrev pub IsNewStamp : Sizes → (Link → Whereabouts) → View → Stamp → Type 0
IsNewStamp z at v x = (v.pin ≢ 0) × ((n : Node) → x.cell ≡ cell.Node n → at (node n) ≡ InTree) × (x.first ≡ place_of z x.cell)

-- the stamps of w were v's, or are new
abbrev pub StampsFrom : Sizes → (Link → Whereabouts) → View → View → Type 0
StampsFrom z at v w = (x : Stamp) → Member x w.stamps → Member x v.stamps ⊎ IsNewStamp z at v x

-- what w holds was claimed, where v is idle
abbrev pub IdleHolds : View → View → Type 0
IdleHolds v w = (h : Holding) → Member h w.held → v.pin ≡ 0 → h.stamped ≡ None

-- pins and limbo stay, and stamps are the old ones or new ones of the tree
pub unstamped_turn : (z : Sizes) (m m' : Memory) (f g : Views) (p : ℕ) (v w : View) (s : Cells) (at : Link → Whereabouts) → SetsView f p w g → f p ≡ Some v → NumbersAccounted z m f s at → MarkedUnstamped z m f at
    → m'.epoch ≡ m.epoch → m'.pass_word ≡ m.pass_word → ((d : Link) → IsClear (m'.version (cell_named d)) → at d ≡ InTree)
    → w.pin ≡ v.pin → w.pins ≡ v.pins → w.noted ≡ v.noted → w.limbo ≡ v.limbo → StampsFrom z at v w → IdleHolds v w → MarkedUnstamped z m' g at
unstamped_turn z m m' f g p v w s at t is-v numbers k epoch words clear pin pins noted limbo stamps held = record {
  epoch = subst (λ (n : ℕ). 0 < n) (sym epoch) k.epoch;
  clear = clear;
  pinned = each_view f g p w t (λ q u. IsPinned z m' at q u) mine (λ q u other is. pinned_on q u (k.pinned q u is));
  awaits = λ q r u x e is-u is-x i. ⊎_elim
      (λ (a : (q ≡ p) × (u ≡ w)). subst (λ (y : ℕ × View). Awaits y.0 y.1 e) (λ j. (sym a.0 j, sym a.1 j)) (mine_awaits r x e is-x i))
      (λ (a : (q ≢ p) × (f q ≡ Some u)). limbo_of r x e is-x i (λ r' x' is' i'. k.awaits q r' u x' e a.1 is' i'))
      (either_view f g p w t q u is-u);
}
  where
    old : IsPinned z m at p v
    old = k.pinned p v is-v

    pinned_on : (q : ℕ) (u : View) → IsPinned z m at q u → IsPinned z m' at q u
    pinned_on q u o = record {
      inside = o.inside;
      word = ap (λ (a : ℕ → ℕ). a q) words ∙ o.word;
      low = subst (λ (n : ℕ). u.pin ≤ n) (sym epoch) o.low;
      noted = λ n e. let i = o.noted n e in (i.0, subst (λ (a : ℕ). n.epoch ≤ a) (sym epoch) i.1);
      pinned = o.pinned;
      placed = o.placed;
      stamped = o.stamped;
      idle = o.idle;
    }

    mine : IsPinned z m' at p w
    mine = let o = pinned_on p v old in record {
      inside = o.inside;
      word = o.word ∙ sym pin;
      low = subst (λ (n : ℕ). n ≤ m'.epoch) (sym pin) o.low;
      noted = λ n e. o.noted n (sym noted ∙ e);
      pinned = λ x i. subst (λ (n : ℕ). n ≢ 0) (sym pin) (⊎_elim (λ (j : Member x v.stamps). o.pinned x j) (λ (j : IsNewStamp z at v x). j.0) (stamps x i));
      placed = λ x i. ⊎_elim (λ (j : Member x v.stamps). o.placed x j) (λ (j : IsNewStamp z at v x). j.2) (stamps x i);
      stamped = λ n y. ⊎_elim (λ (j : Member y.0 v.stamps). o.stamped n (y.0, j, y.2)) (λ (j : IsNewStamp z at v y.0). inl (j.1 n y.2)) (stamps y.0 y.1);
      idle = λ e h i. held h i (sym pin ∙ e);
    }

    -- a place in limbo was there before
    limbo_of : (r : ℕ) (x : View) (e : Retired) → {A : Type 0} → g r ≡ Some x → Member e x.limbo → ((r' : ℕ) (x' : View) → f r' ≡ Some x' → Member e x'.limbo → A) → A
    limbo_of r x e is i then = ⊎_elim
        (λ (a : (r ≡ p) × (x ≡ w)). then p v is-v (subst (Member e) limbo (subst (λ (y : View). Member e y.limbo) a.1 i)))
        (λ (a : (r ≢ p) × (f r ≡ Some x)). then r x a.1 i)
        (either_view f g p w t r x is)

    under : (e : Retired) → IsUnder p w e → IsUnder p v e
    under e u = (subst (λ (n : ℕ). n ≢ 0) pin u.0, subst (λ (n : ℕ). Member (record { pass = p; count = n }) e.pins) pins u.1)

    under_now : (e : Retired) → IsUnder p v e → IsUnder p w e
    under_now e u = (subst (λ (n : ℕ). n ≢ 0) (sym pin) u.0, subst (λ (n : ℕ). Member (record { pass = p; count = n }) e.pins) (sym pins) u.1)

    mine_awaits : (r : ℕ) (x : View) (e : Retired) → g r ≡ Some x → Member e x.limbo → Awaits p w e
    mine_awaits r x e is i = limbo_of r x e is i (λ r' x' is' i'. let o = k.awaits p r' v x' e is-v is' i' in record {
      stamped = λ n link y. under_now e (⊎_elim
          (λ (j : Member y.0 v.stamps). o.stamped n link (y.0, j, y.2))
          (λ (j : IsNewStamp z at v y.0).
          let here : at e.link ≡ InLimboOf r' = (numbers.accounts r' x' is').limbo e i' in
          let there : at e.link ≡ InTree = ap at link ∙ j.1 n y.2 in
          absurd (cc))
          (stamps y.0 y.1));
      marked = λ i u. o.marked i (under e u);
      label = λ l is u. subst (λ (n : ℕ). n ≤ l) (sym pin) (o.label l is (under e u));
      made = λ n i. subst (λ (a : ℕ). n ≤ a) (sym pins) (o.made n i);
    })

-- ---- words

pub formed_turn : (z : Sizes) (m m' : Memory) (f g : Views) (p : ℕ) (v w : View) → SetsView f p w g → f p ≡ Some v → WordsFormed z m f → ((c : Cell) → IsVersion (m'.version c)) → ((l : ℕ) → IsObsolete (m'.version (cell.Leaf l)))
    → m'.epoch ≡ m.epoch → w.noted ≡ v.noted → HaveForms z m'.words → WordsFormed z m' g
formed_turn z m m' f g p v w t is k versions leaves epoch noted words = record {
  versions = versions;
  leaves = leaves;
  words = words;
  epoch = subst (λ (n : ℕ). n < 2 ^ 62 + z.passes) (sym (ap₂ (λ (a b : ℕ). a + b) epoch (same_early_notes f g p w t v is noted z.passes))) k.epoch;
}

-- ---- holders

-- a cell's holder goes on holding it, where the pass has a holding of each cell that it had
pub holder_turn : (f g : Views) (p : ℕ) (v w : View) (c : Cell) → SetsView f p w g → f p ≡ Some v → ((h : Holding) → Member h v.held → h.cell ≡ c → (k : Holding) × Member k w.held × (k.cell ≡ c)) → Holder f c → Holder g c
holder_turn f g p v w c t is on o = ⊎_elim
    (λ (a : o.pass ≡ p).
    let e : o.view ≡ v = one_view f o.pass p o.view v a o.is is in
    let k = on o.holding (subst (λ (y : View). Member o.holding y.held) e o.holds) o.cell in
    record { pass = p; view = w; is = t.here; holding = k.0; holds = k.1; cell = k.2 })
    (λ (a : o.pass ≢ p). record { pass = o.pass; view = o.view; is = t.there o.pass a ∙ o.is; holding = o.holding; holds = o.holds; cell = o.cell })
    (cases_eq o.pass p)

-- two passes hold no cell in common, where the one that steps holds no cell that another held
pub apart_turn : (f g : Views) (p : ℕ) (w : View) → SetsView f p w g → ((q : ℕ) (u : View) → q ≢ p → f q ≡ Some u → (h k : Holding) → Member h w.held → Member k u.held → h.cell ≢ k.cell)
    → ((q r : ℕ) (u x : View) → q ≢ r → f q ≡ Some u → f r ≡ Some x → (h k : Holding) → Member h u.held → Member k x.held → h.cell ≢ k.cell)
    → (q r : ℕ) (u x : View) → q ≢ r → g q ≡ Some u → g r ≡ Some x → (h k : Holding) → Member h u.held → Member k x.held → h.cell ≢ k.cell
apart_turn f g p w t mine old = each_two f g p w t (λ q r u x. (h k : Holding) → Member h u.held → Member k x.held → h.cell ≢ k.cell)
    (λ q u other is. mine q u other is)
    (λ q u other is h k i j e. mine q u other is k h j i (sym e))
    (λ q r u x a b other is is' h k i j. old q r u x other is is' h k i j)

-- what is held stays, and so do the words
pub holder_same : (m : Memory) (f g : Views) (p : ℕ) (v w : View) (s : Cells) → SetsView f p w g → f p ≡ Some v → w.held ≡ v.held → w.committed ≡ v.committed → OneHolder m f s → OneHolder m g s
holder_same m f g p v w s t is held committed k = record {
  at_rest = k.at_rest;
  holder = λ c locked. holder_turn f g p v w c t is (λ h i e. (h, subst (Member h) (sym held) i, e)) (k.holder c locked);
  holds = each_view f g p w t (λ q u. HoldsEach m s u)
      (let o = k.holds p v is in record {
        keeps = λ h i. subst (λ (b : Bool). Keeps m s b h) (sym committed) (o.keeps h (subst (Member h) held i));
        single = λ h j a b. o.single h j (subst (Member h) held a) (subst (Member j) held b);
      })
      (λ q u other e. k.holds q u e);
  apart = apart_turn f g p w t (λ q u other e h j a b. k.apart p q v u (λ i. other (sym i)) is e h j (subst (Member h) held a) b) k.apart;
}
