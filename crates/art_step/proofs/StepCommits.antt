-- A commit: all held cells have their new words at one step.
use Rattle.std.proofs.Common.{◌≡◌, ◌≢◌, ◌⊎◌, ℕ, ◌<◌, ◌≤◌, Bool, true, false, if◌then◌else◌, List, [], ◌∷◌, ◌++◌, inl, inr, ⊎_elim, sym, refl, ap, ◌∙◌, subst, arith}
use Rattle.std.specs.Prelude.{Option, Some, None}
use Rattle.art_cell.specs.declared.cells.Node.{Node}
use Rattle.art_cell.specs.declared.cells.Cell.{Cell}
use Rattle.art_cell.specs.declared.cells.Cell.TheVariants as cell
use Rattle.art_cell.specs.declared.cells.Link.{Link}
use Rattle.art_cell.specs.declared.cells.Link.TheVariants.{Leaf as leaf, Node as node}
use Rattle.art_step.specs.declared.views.Fact.{Fact}
use Rattle.art_step.specs.declared.views.Holding.{Holding}
use Rattle.art_step.specs.declared.views.InHand.{InHand}
use Rattle.art_step.specs.declared.views.Note.{Note}
use Rattle.art_step.specs.declared.views.Pin.{Pin}
use Rattle.art_step.specs.declared.views.Retired.{Retired}
use Rattle.art_step.specs.declared.views.Sizes.{Sizes}
use Rattle.art_step.specs.declared.views.View.{View}
use Rattle.art_step.specs.declared.deeds.Deed.{Deed}
use Rattle.art_tree.specs.Heaps.{Cells, heap_of}
use Rattle.art_step.specs.Histories.{event, replay}
use Rattle.art_step.specs.Knowledge.{CellAt, Holds}
use Rattle.art_tree.specs.Rows.{HasRows}
use Rattle.art_step.specs.Sound.{IsOneHistory, ShowsReplay, StampsVouch, Keeps, HoldsEach, OneHolder, Vouches, Vouched, Whereabouts, InTree, IsFree, InHandOf, InLimboOf, Nowhere, HeldAt, Accounts, NumbersAccounted, Awaits, IsPinned, MarkedUnstamped, WordsFormed, IsSound}
use Rattle.art_step.specs.Steps.Commit as commit
use Rattle.art_step.specs.Effects.{SetsVersion, released_word}
use Rattle.art_step.specs.Views.{HaveForms, IsNotHeld, SetsView}
use Rattle.art_step.specs.Steps.Commit.{Knows, AllNew, IsLinked, Commits, AreStanding, retired, all_retired}
use Rattle.art_step.specs.Steps.Release.{Drops}
use Rattle.art_step.specs.Steps.Give.{HandsOver}
use Rattle.art_cell.specs.declared.cells.Pool.{Pool}
use Rattle.art_step.proofs.Gathered.{key_member}
use Rattle.art_step.specs.Views.{IsOnce, Member, Memory, is_free, links_in_limbo, words_in, IsClear, IsLocked, IsObsolete, IsVersion, cell_named, Views, SetsView}
use Rattle.art_step.proofs.Facts.{SameLeafWords, holds_on}
use Rattle.art_step.proofs.Histories.{replay_more, history_grows}
use Rattle.art_step.proofs.SoundParts.{formed_turn, holder_turn, apart_turn}
use Rattle.art_tree.proofs.Places.{same_cell, same_link}
use Rattle.art_step.proofs.StepLocks.{Outgrows, stamp_on, stayed, keeps_on, unlocked_not_held, no_leaf, released_raises, released_unlocked, released_clear, released_version}
use Rattle.art_step.proofs.SetsView.{one_view, either_view, stranger_before, each_view, member_append, member_front, member_back}

-- ---- the words after all held cells have their new ones

abbrev pub after : List Holding → Cells → Cells
after [] s c = s c
after (h ∷ hs) s c = ⊎_elim (λ (is : h.cell ≡ c). words_in h.new) (λ (other : h.cell ≢ c). after hs s c) (same_cell h.cell c)

pub either_held : (hs : List Holding) (c : Cell) → ((h : Holding) × Member h hs × (h.cell ≡ c)) ⊎ IsNotHeld hs c
either_held [] c = inr (λ h i. absurd i)
either_held (k ∷ hs) c = ⊎_elim
    (λ (is : k.cell ≡ c). inl (k, inl refl, is))
    (λ (other : k.cell ≢ c). ⊎_elim
    (λ (a : (h : Holding) × Member h hs × (h.cell ≡ c)). inl (a.0, inr a.1, a.2))
    (λ (a : IsNotHeld hs c). inr (λ h i. ⊎_elim (λ (is : h ≡ k). subst (λ (y : Holding). y.cell ≢ c) (sym is) other) (λ (j : Member h hs). a h j) i))
    (either_held hs c))
    (same_cell k.cell c)

abbrev pub IsSingle : List Holding → Type 0
IsSingle hs = (h k : Holding) → Member h hs → Member k hs → h.cell ≡ k.cell → h ≡ k

pub after_held : (hs : List Holding) (s : Cells) (h : Holding) → IsSingle hs → Member h hs → after hs s h.cell ≡ words_in h.new
after_held [] s h one i = absurd i
after_held (k ∷ hs) s h one i =
    elim (same_cell k.cell h.cell) as (λ z. ⊎_elim (λ (is : k.cell ≡ h.cell). words_in k.new) (λ (other : k.cell ≢ h.cell). after hs s h.cell) z ≡ words_in h.new) [
      | inl is ↦ ap (λ (y : Holding). words_in y.new) (one k h (inl refl) i is)
      | inr other ↦ ⊎_elim (λ (same : h ≡ k). absurd (other (sym (ap (λ (y : Holding). y.cell) same)))) (λ (j : Member h hs). after_held hs s h (λ x y m n. one x y (inr m) (inr n)) j) i
    ]

pub after_free : (hs : List Holding) (s : Cells) (c : Cell) → IsNotHeld hs c → after hs s c ≡ s c
after_free [] s c free = refl
after_free (k ∷ hs) s c free =
    elim (same_cell k.cell c) as (λ z. ⊎_elim (λ (is : k.cell ≡ c). words_in k.new) (λ (other : k.cell ≢ c). after hs s c) z ≡ s c) [
      | inl is ↦ absurd (free k (inl refl) is)
      | inr other ↦ after_free hs s c (λ h i. free h (inr i))
    ]

-- ---- where numbers are after a commit

pub either_member : (d : Link) (ds : List Link) → Member d ds ⊎ (Member d ds → ⊥)
either_member d [] = inr (λ i. i)
either_member d (e ∷ ds) = ⊎_elim
    (λ (is : d ≡ e). inl (inl is))
    (λ (other : d ≢ e). ⊎_elim (λ (i : Member d ds). inl (inr i)) (λ (i : Member d ds → ⊥). inr (λ j. ⊎_elim other i j)) (either_member d ds))
    (same_link d e)

abbrev pub moved : ℕ → List Link → List Link → (Link → Whereabouts) → Link → Whereabouts
moved p us ls at d = ⊎_elim (λ (i : Member d us). InLimboOf p) (λ (i : Member d us → ⊥). ⊎_elim (λ (j : Member d ls). InTree) (λ (j : Member d ls → ⊥). at d) (either_member d ls)) (either_member d us)

-- unlinked, or newly linked, or where it was
abbrev Moved : ℕ → List Link → List Link → (Link → Whereabouts) → Link → Type 0
Moved p us ls at d = (Member d us × (moved p us ls at d ≡ InLimboOf p)) ⊎ ((Member d ls × (Member d us → ⊥) × (moved p us ls at d ≡ InTree)) ⊎ ((Member d us → ⊥) × (Member d ls → ⊥) × (moved p us ls at d ≡ at d)))

whence : (p : ℕ) (us ls : List Link) (at : Link → Whereabouts) (d : Link) → Moved p us ls at d
whence p us ls at d =
    elim (either_member d us) as (λ a. (Member d us × (one a ≡ InLimboOf p)) ⊎ ((Member d ls × (Member d us → ⊥) × (one a ≡ InTree)) ⊎ ((Member d us → ⊥) × (Member d ls → ⊥) × (one a ≡ at d)))) [
      | inl i ↦ inl (i, refl)
      | inr i ↦ inr (elim (either_member d ls) as (λ a. (Member d ls × (Member d us → ⊥) × (two a ≡ InTree)) ⊎ ((Member d us → ⊥) × (Member d ls → ⊥) × (two a ≡ at d))) [
        | inl j ↦ inl (j, i, refl)
        | inr j ↦ inr (i, j, refl)
      ])
    ]
  where
    two : Member d ls ⊎ (Member d ls → ⊥) → Whereabouts
    two b = ⊎_elim (λ (j : Member d ls). InTree) (λ (j : Member d ls → ⊥). at d) b

    one : Member d us ⊎ (Member d us → ⊥) → Whereabouts
    one a = ⊎_elim (λ (i : Member d us). InLimboOf p) (λ (i : Member d us → ⊥). two (either_member d ls)) a

-- the retired are of what was unlinked
pub retired_of : (ks : List Pin) (us : List Link) (e : Retired) → Member e (all_retired ks us) → Member e.link us × (e.marked ≡ []) × (e.label ≡ None) × (e.pins ≡ ks)
retired_of ks [] e i = absurd i
retired_of ks (d ∷ us) e i = ⊎_elim
    (λ (is : e ≡ retired ks d). (inl (ap (λ (y : Retired). y.link) is), ap (λ (y : Retired). y.marked) is, ap (λ (y : Retired). y.label) is, ap (λ (y : Retired). y.pins) is))
    (λ (j : Member e (all_retired ks us)). let o = retired_of ks us e j in (inr o.0, o.1, o.2, o.3)) i

-- none of them twice, and none that was there
retired_once : (ks : List Pin) (us : List Link) (es : List Retired) → IsOnce us → IsOnce (links_in_limbo es) → ((e : Retired) → Member e es → Member e.link us → ⊥)
    → IsOnce (links_in_limbo (all_retired ks us ++ es))
retired_once ks [] es new old apart = old
retired_once ks (d ∷ us) es new old apart = (
  λ i.
      let o = key_member (λ (e : Retired). e.link) (all_retired ks us ++ es) d i in
      ⊎_elim
      (λ (j : Member o.0 (all_retired ks us)). new.0 (subst (λ (c : Link). Member c us) o.2 (retired_of ks us o.0 j).0))
      (λ (j : Member o.0 es). apart o.0 j (inl o.2))
      (member_append o.0 (all_retired ks us) es o.1),
  retired_once ks us es new.1 old (λ e i j. apart e i (inr j)),
)

retires : (ks : List Pin) (us : List Link) (d : Link) → Member d us → Member (retired ks d) (all_retired ks us)
retires ks [] d i = absurd i
retires ks (e ∷ us) d i = ⊎_elim (λ (is : d ≡ e). inl (ap (retired ks) is)) (λ (j : Member d us). inr (retires ks us d j)) i

module _ (z : Sizes) (m : Memory) (f : Views) (p : ℕ) (v : View) (is-v : f p ≡ Some v) (m' : Memory) (g : Views) (what : Deed) (us ls : List Link) (ks : List Pin) (h₀ : Holding) (hs : List Holding) (xs : List InHand) (b : Bool) (r : IsSound z m f)
    (may : commit.May z v what us ls) (first : commit.MayBeFirst v us h₀ b) (drops : Drops v.held h₀.cell hs) (hands : HandsOver v.hand ls xs) (standing : AreStanding f ks)
    (sets : SetsVersion m h₀.cell (released_word (m.version h₀.cell) b) m') (t : SetsView f p (commit.view_after v r.log what hs xs (all_retired ks us ++ v.limbo)) g) where
  abbrev s : Cells
  s = r.logical

  abbrev s' : Cells
  s' = after v.held s

  abbrev w : View
  w = commit.view_after v r.log what hs xs (all_retired ks us ++ v.limbo)

  abbrev at' : Link → Whereabouts
  at' = moved p us ls r.at

  mine : HoldsEach m s v
  mine = r.holder.holds p v is-v

  vouched : Vouched m s v
  vouched = r.vouch p v is-v

  account : Accounts m r.at p v
  account = r.numbers.accounts p v is-v

  lock₀ : IsLocked (m.version h₀.cell)
  lock₀ = (mine.keeps h₀ first.held).locked

  turns : AllNew v.held s s'
  turns = record { here = λ h i. after_held v.held s h mine.single i; there = λ c free. after_free v.held s c free }

  linked_at : (d : Link) → r.at d ≡ InTree → IsLinked s d
  linked_at d = (r.numbers.tree d).0

  at_linked : (d : Link) → IsLinked s d → r.at d ≡ InTree
  at_linked d = (r.numbers.tree d).1

  knows : Knows v s
  knows = record {
    old = λ h i. (mine.keeps h i).logical ∙ ap (λ (c : Bool). words_in (if c then h.new else h.old)) first.early;
    kept = λ h y i j is st. vouched.kept first.early h y i j is st;
    leaves = λ x l i is. r.holder.at_rest (cell.Leaf l) (λ locked. let o = r.formed.leaves l in omega arith) ∙ (account.leaves x l i is).1;
    hand = λ x i q at. let a = account.hand x i in let c = at_linked x.link (q, at) in absurd (cc);
  }

  done : Commits z v what us ls s s'
  done = may s s' r.shows.shape knows turns

  -- ---- which cells stay

  not_held_leaf : (l : ℕ) → IsNotHeld v.held (cell.Leaf l)
  not_held_leaf l h i e =
      let a : IsLocked (m.version (cell.Leaf l)) = subst (λ (c : Cell). IsLocked (m.version c)) e (mine.keeps h i).locked in
      let o = r.formed.leaves l in omega arith

  same_leaves : SameLeafWords s s'
  same_leaves l q i = turns.there (cell.Leaf l) (not_held_leaf l)

  -- a cell that could be stamped is no leaf
  abbrev IsNoLeaf : Cell → Type 0
  IsNoLeaf c = (l : ℕ) → c ≢ cell.Leaf l

  paths : (c : Cell) (q : List ℕ) → IsNoLeaf c → IsNotHeld v.held c → CellAt s c q → CellAt s' c q
  paths cell.Anchor q not free i = i
  paths (cell.Leaf l) q not free i = absurd (not l refl)
  paths (cell.Node n) q not free i = done.others n q free i

  -- the facts of a cell that the pass does not hold stay
  facts : (c : Cell) (y : Fact) → IsNoLeaf c → IsNotHeld v.held c → Holds s c y → Holds s' c y
  facts c y not free k = holds_on s s' c y (turns.there c free) (λ q. paths c q not free) same_leaves k

  -- ---- versions

  raises : Outgrows m m' f h₀.cell
  raises = let k = released_raises z m m' f h₀.cell b r sets in record { past = k.past; there = k.there }

  -- a cell whose word is clear is no leaf, and the pass does not hold it
  clear_no_leaf : (c : Cell) → IsClear (m.version c) → IsNoLeaf c
  clear_no_leaf c clear = no_leaf z m f c r.formed (λ old. omega (arith, clear, old))

  clear_not_held : (c : Cell) → IsClear (m.version c) → IsNotHeld v.held c
  clear_not_held c clear = unlocked_not_held m s v c mine (λ locked. omega (arith, clear, locked))

  note_on : (q : ℕ) (u : View) → f q ≡ Some u → (y : Note) → Member y.stamp u.stamps → Vouches m s y → Vouches m' s' y
  note_on q u is y i k = record {
    stamp = stamp_on m m' f h₀.cell raises q u is y.stamp i k.stamp;
    same = λ e.
        let was = (stayed m m' f h₀.cell raises q u is y.stamp i e).1 in
        let clear : IsClear (m.version y.stamp.cell) = subst IsClear (sym was) k.stamp.clear in
        facts y.stamp.cell y.fact (clear_no_leaf y.stamp.cell clear) (clear_not_held y.stamp.cell clear) (k.same was);
  }

  -- ---- parts

  history : IsOneHistory (r.log ++ event v.pass what ∷ []) g
  history = history_grows f g p v w t is-v r.log r.history refl what (done.rows (replay r.log) r.shows.rows).0 refl refl

  shows : ShowsReplay z (r.log ++ event v.pass what ∷ []) s'
  shows = record {
    shape = done.shape;
    rows = subst (HasRows (heap_of s')) (sym (replay_more r.log (event v.pass what))) (done.rows (replay r.log) r.shows.rows).1;
  }

  free_of : (q : ℕ) (u : View) → q ≢ p → f q ≡ Some u → (h : Holding) → Member h u.held → IsNotHeld v.held h.cell
  free_of q u other is h i k j e = r.holder.apart p q v u (λ a. other (sym a)) is-v is k h j i e

  same_words : (c : Cell) → m'.words c ≡ m.words c
  same_words c = ap (λ (a : Cells). a c) sets.words

  keeps_other : (q : ℕ) (u : View) → q ≢ p → f q ≡ Some u → (h : Holding) → Member h u.held → Keeps m' s' u.committed h
  keeps_other q u other is h i =
      let k = (r.holder.holds q u is).keeps h i in
      let free = free_of q u other is h i in
      keeps_on m m' f h₀.cell raises s s' u.committed u.committed h (λ e. free h₀ first.held (sym e)) (same_words h.cell) (turns.there h.cell free ∙ k.logical) k

  keeps_mine : (h : Holding) → Member h hs → Keeps m' s' true h
  keeps_mine h i =
      let j = drops.was h i in
      keeps_on m m' f h₀.cell raises s s' v.committed true h j.1 (same_words h.cell) (turns.here h j.0) (mine.keeps h j.0)

  at_rest : (c : Cell) → (IsLocked (m'.version c) → ⊥) → s' c ≡ m'.words c
  at_rest c rest = ⊎_elim
      (λ (a : (h : Holding) × Member h v.held × (h.cell ≡ c)). ap s' (sym a.2) ∙ (turns.here a.0 a.1 ∙ (sym (mine.keeps a.0 a.1).new ∙ (ap m.words a.2 ∙ sym (ap (λ (d : Cells). d c) sets.words)))))
      (λ (a : IsNotHeld v.held c).
      let there = sets.there c (λ e. a h₀ first.held (sym e)) in
      turns.there c a ∙ (r.holder.at_rest c (λ l. rest (subst IsLocked (sym there) l)) ∙ sym (ap (λ (d : Cells). d c) sets.words)))
      (either_held v.held c)

  holder : OneHolder m' g s'
  holder = record {
    at_rest = at_rest;
    holder = λ c locked.
        let other : c ≢ h₀.cell = λ e. released_unlocked (m.version h₀.cell) b lock₀ (subst IsLocked (ap m'.version e ∙ sets.here) locked) in
        holder_turn f g p v w c t is-v (λ h i e. (h, drops.stays h i (λ a. other (sym e ∙ a)), e)) (r.holder.holder c (subst IsLocked (sets.there c other) locked));
    holds = each_view f g p w t (λ q u. HoldsEach m' s' u)
        (record { keeps = keeps_mine; single = λ h k i j. mine.single h k (drops.was h i).0 (drops.was k j).0 })
        (λ q u other is. record { keeps = keeps_other q u other is; single = (r.holder.holds q u is).single });
    apart = apart_turn f g p w t (λ q u other is h k i j. r.holder.apart p q v u (λ a. other (sym a)) is-v is h k (drops.was h i).0 j) r.holder.apart;
  }

  vouch : StampsVouch m' g s'
  vouch = each_view f g p w t (λ q u. Vouched m' s' u)
      (record {
        stamps = λ x i. stamp_on m m' f h₀.cell raises p v is-v x i (vouched.stamps x i);
        noted = vouched.noted;
        notes = λ y i. note_on p v is-v y (vouched.noted y i) (vouched.notes y i);
        kept = λ e. absurd (cc);
      })
      (λ q u other is. let k = r.vouch q u is in record {
        stamps = λ x i. stamp_on m m' f h₀.cell raises q u is x i (k.stamps x i);
        noted = k.noted;
        notes = λ y i. note_on q u is y (k.noted y i) (k.notes y i);
        kept = λ e h y i j a st.
            let lock = ((r.holder.holds q u is).keeps h i).locked in
            facts h.cell y.fact (no_leaf z m f h.cell r.formed (λ old. omega (arith, lock, old))) (free_of q u other is h i) (k.kept e h y i j a st);
      })

  -- ---- numbers

  us_tree : (d : Link) → Member d us → r.at d ≡ InTree
  us_tree d i = at_linked d (done.leaves d i).0

  ls_hand : (d : Link) → Member d ls → r.at d ≡ InHandOf p
  ls_hand d i = let o = (done.comes d i).1 in ap r.at (sym o.2) ∙ account.hand o.0 o.1

  from : (d : Link) → Moved p us ls r.at d
  from d = whence p us ls r.at d

  -- a number that is neither in the tree nor in the pass's hand stays where it is
  stays_at : (d : Link) → r.at d ≢ InTree → r.at d ≢ InHandOf p → at' d ≡ r.at d
  stays_at d no_tree no_hand = ⊎_elim
      (λ (a : Member d us × (at' d ≡ InLimboOf p)). absurd (no_tree (us_tree d a.0)))
      (⊎_elim
      (λ (a : Member d ls × (Member d us → ⊥) × (at' d ≡ InTree)). absurd (no_hand (ls_hand d a.0)))
      (λ (a : (Member d us → ⊥) × (Member d ls → ⊥) × (at' d ≡ r.at d)). a.2))
      (from d)

  -- and one that is elsewhere than in the tree and the pass's limbo was there
  was_at : (d : Link) → at' d ≢ InTree → at' d ≢ InLimboOf p → (r.at d ≡ at' d) × (Member d ls → ⊥)
  was_at d no_tree no_limbo = ⊎_elim
      (λ (a : Member d us × (at' d ≡ InLimboOf p)). absurd (no_limbo a.1))
      (⊎_elim
      (λ (a : Member d ls × (Member d us → ⊥) × (at' d ≡ InTree)). absurd (no_tree a.2))
      (λ (a : (Member d us → ⊥) × (Member d ls → ⊥) × (at' d ≡ r.at d)). (sym a.2, a.1)))
      (from d)

  tree_to : (d : Link) → at' d ≡ InTree → IsLinked s' d
  tree_to d e = ⊎_elim
      (λ (a : Member d us × (at' d ≡ InLimboOf p)). let i = a.1 in absurd (cc))
      (⊎_elim
      (λ (a : Member d ls × (Member d us → ⊥) × (at' d ≡ InTree)). (done.comes d a.0).0)
      (λ (a : (Member d us → ⊥) × (Member d ls → ⊥) × (at' d ≡ r.at d)). ⊎_elim (λ (i : Member d us). absurd (a.0 i)) (λ (i : IsLinked s' d). i) (done.stays d (linked_at d (sym a.2 ∙ e)))))
      (from d)

  tree_from : (d : Link) → IsLinked s' d → at' d ≡ InTree
  tree_from d i = ⊎_elim
      (λ (a : Member d us × (at' d ≡ InLimboOf p)). absurd ((done.leaves d a.0).1 i))
      (⊎_elim
      (λ (a : Member d ls × (Member d us → ⊥) × (at' d ≡ InTree)). a.2)
      (λ (a : (Member d us → ⊥) × (Member d ls → ⊥) × (at' d ≡ r.at d)). ⊎_elim (λ (j : Member d ls). absurd (a.1 j)) (λ (j : IsLinked s d). a.2 ∙ at_linked d j) (done.linked d i)))
      (from d)

  free_to : (d : Link) → at' d ≡ IsFree → r.at d ≡ IsFree
  free_to d e = (was_at d (λ i. cc) (λ i. cc)).0 ∙ e

  free_from : (d : Link) → r.at d ≡ IsFree → at' d ≡ IsFree
  free_from d e = stays_at d (λ i. cc) (λ i. cc) ∙ e

  nowhere_to : (d : Link) → r.at d ≡ Nowhere → at' d ≡ Nowhere
  nowhere_to d e = stays_at d (λ i. cc) (λ i. cc) ∙ e

  nowhere_from : (d : Link) → at' d ≡ Nowhere → r.at d ≡ Nowhere
  nowhere_from d e = (was_at d (λ i. cc) (λ i. cc)).0 ∙ e

  -- what is held by the pass after the commit
  held_mine : (h : Holding) (n : Node) → Member h v.held → h.cell ≡ cell.Node n → HeldAt p true h.stamped (at' (node n))
  held_mine h n i e = by_stamp h.stamped refl
    where
      by_stamp : (o : Option ℕ) → h.stamped ≡ o → HeldAt p true o (at' (node n))
      by_stamp None is = tree_from (node n) (done.comes (node n) (done.claimed h n i is e)).0
      by_stamp (Some x) is =
          let old : HeldAt p v.committed (Some x) (r.at (node n)) = subst (λ (o : Option ℕ). HeldAt p v.committed o (r.at (node n))) is (account.held h n i e) in
          let tree : r.at (node n) ≡ InTree = ⊎_elim (λ (a : r.at (node n) ≡ InTree). a) (λ (a : (v.committed ≡ true) × (r.at (node n) ≡ InLimboOf p)). let c = first.early in let d = a.0 in absurd (cc)) old in
          ⊎_elim
          (λ (a : Member (node n) us × (at' (node n) ≡ InLimboOf p)). inr (refl, a.1))
          (⊎_elim
          (λ (a : Member (node n) ls × (Member (node n) us → ⊥) × (at' (node n) ≡ InTree)). inl a.2)
          (λ (a : (Member (node n) us → ⊥) × (Member (node n) ls → ⊥) × (at' (node n) ≡ r.at (node n))). inl (a.2 ∙ tree)))
          (from (node n))

  -- what was unlinked was in the tree, and so not in the limbo
  limbo_once : IsOnce (links_in_limbo (all_retired ks us ++ v.limbo))
  limbo_once = retired_once ks us v.limbo done.once account.limbo_once (λ e i j. let a = us_tree e.link j in let b = account.limbo e i in cc)

  accounts_mine : Accounts m' at' p w
  accounts_mine = record {
    hand = λ x i.
        let j = hands.was x i in
        let a = account.hand x j.0 in
        ⊎_elim
        (λ (k : Member x.link us × (at' x.link ≡ InLimboOf p)). let c = us_tree x.link k.0 in absurd (cc))
        (⊎_elim
        (λ (k : Member x.link ls × (Member x.link us → ⊥) × (at' x.link ≡ InTree)). absurd (j.1 k.0))
        (λ (k : (Member x.link us → ⊥) × (Member x.link ls → ⊥) × (at' x.link ≡ r.at x.link)). k.2 ∙ a))
        (from x.link);
    in_hand = λ d e.
        let o = was_at d (λ i. cc) (λ i. cc) in
        let k = account.in_hand d (o.0 ∙ e) in
        (k.0, hands.stays k.0 k.1 (λ i. o.1 (subst (λ (c : Link). Member c ls) k.2 i)), k.2);
    leaves = λ x l i is. let o = account.leaves x l (hands.was x i).0 is in (o.0, ap (λ (a : Cells). a (cell.Leaf l)) sets.words ∙ o.1);
    limbo = λ e i. ⊎_elim
        (λ (j : Member e (all_retired ks us)). let o = (retired_of ks us e j).0 in ⊎_elim
        (λ (k : Member e.link us × (at' e.link ≡ InLimboOf p)). k.1)
        (⊎_elim
        (λ (k : Member e.link ls × (Member e.link us → ⊥) × (at' e.link ≡ InTree)). absurd (k.1 o))
        (λ (k : (Member e.link us → ⊥) × (Member e.link ls → ⊥) × (at' e.link ≡ r.at e.link)). absurd (k.0 o)))
        (from e.link))
        (λ (j : Member e v.limbo). let a = account.limbo e j in stays_at e.link (λ k. cc) (λ k. cc) ∙ a)
        (member_append e (all_retired ks us) v.limbo i);
    in_limbo = λ d e. ⊎_elim
        (λ (k : Member d us × (at' d ≡ InLimboOf p)). (retired ks d, member_front (retired ks d) (all_retired ks us) v.limbo (retires ks us d k.0), refl))
        (⊎_elim
        (λ (k : Member d ls × (Member d us → ⊥) × (at' d ≡ InTree)). let a = k.2 in absurd (cc))
        (λ (k : (Member d us → ⊥) × (Member d ls → ⊥) × (at' d ≡ r.at d)). let o = account.in_limbo d (sym k.2 ∙ e) in (o.0, member_back o.0 (all_retired ks us) v.limbo o.1, o.2)))
        (from d);
    held = λ h n i e. held_mine h n (drops.was h i).0 e;
    hand_once = hands.once account.hand_once;
    limbo_once = limbo_once;
  }

  -- what another pass holds is where it was
  held_other : (q : ℕ) (u : View) → q ≢ p → f q ≡ Some u → (h : Holding) (n : Node) → Member h u.held → h.cell ≡ cell.Node n → at' (node n) ≡ r.at (node n)
  held_other q u other is h n i e = ⊎_elim
      (λ (k : Member (node n) us × (at' (node n) ≡ InLimboOf p)).
      let o = done.held n k.0 in absurd (free_of q u other is h i o.0 o.1 (o.2 ∙ sym e)))
      (⊎_elim
      (λ (k : Member (node n) ls × (Member (node n) us → ⊥) × (at' (node n) ≡ InTree)).
      let a = ls_hand (node n) k.0 in absurd (no_hand_held h.stamped u.committed (subst (HeldAt q u.committed h.stamped) a ((r.numbers.accounts q u is).held h n i e))))
      (λ (k : (Member (node n) us → ⊥) × (Member (node n) ls → ⊥) × (at' (node n) ≡ r.at (node n))). k.2))
      (from (node n))
    where
      no_hand_held : (o : Option ℕ) (c : Bool) → HeldAt q c o (InHandOf p) → ⊥
      no_hand_held (Some x) c k = ⊎_elim (λ (a : InHandOf p ≡ InTree). cc) (λ (a : (c ≡ true) × (InHandOf p ≡ InLimboOf q)). let b = a.1 in cc) k
      no_hand_held None true k = let a : InHandOf p ≡ InTree = k in cc
      no_hand_held None false k = let a : InHandOf p ≡ InHandOf q = k in other (sym (cc))

  accounts_other : (q : ℕ) (u : View) → q ≢ p → f q ≡ Some u → Accounts m' at' q u
  accounts_other q u other is =
      let k = r.numbers.accounts q u is in record {
        hand = λ x i. let a = k.hand x i in stays_at x.link (λ e. cc) (λ e. let c : InHandOf q ≡ InHandOf p = sym a ∙ e in other (cc)) ∙ a;
        in_hand = λ d e. k.in_hand d ((was_at d (λ i. cc) (λ i. cc)).0 ∙ e);
        leaves = λ x l i e. let o = k.leaves x l i e in (o.0, ap (λ (a : Cells). a (cell.Leaf l)) sets.words ∙ o.1);
        limbo = λ e i. let a = k.limbo e i in stays_at e.link (λ j. cc) (λ j. cc) ∙ a;
        in_limbo = λ d e. k.in_limbo d ((was_at d (λ i. cc) (λ i. let c : InLimboOf q ≡ InLimboOf p = sym e ∙ i in other (cc))).0 ∙ e);
        held = λ h n i e. subst (HeldAt q u.committed h.stamped) (sym (held_other q u other is h n i e)) (k.held h n i e);
        hand_once = k.hand_once;
        limbo_once = k.limbo_once;
      }

  same_free : (d : Link) → is_free m' d ≡ is_free m d
  same_free d = ap (λ (a : Pool → ℕ → ℕ). is_free (record m { free_word = a }) d) sets.free

  numbers : NumbersAccounted z m' g s' at'
  numbers = record {
    tree = λ d. (tree_to d, tree_from d);
    free = λ d. ((λ e. same_free d ∙ (r.numbers.free d).0 (free_to d e)), (λ e. free_from d ((r.numbers.free d).1 (sym (same_free d) ∙ e))));
    numbers = λ d. ((λ e. (r.numbers.numbers d).0 (λ i. e (nowhere_to d i))), (λ e i. (r.numbers.numbers d).1 e (nowhere_from d i)));
    accounts = each_view f g p w t (λ q u. Accounts m' at' q u) accounts_mine accounts_other;
    strangers = λ q d e.
        let o = stranger_before f g p w t q e in
        let k = r.numbers.strangers q d o.1 in
        ((λ i. k.0 ((was_at d (λ j. cc) (λ j. cc)).0 ∙ i)), (λ i. k.1 ((was_at d (λ j. cc) (λ j. let c : InLimboOf q ≡ InLimboOf p = sym i ∙ j in o.0 (cc))).0 ∙ i)));
  }

  -- ---- stamps of numbers

  -- before the commit nothing that the pass holds is in a limbo
  not_in_limbo : (h : Holding) (n : Node) → Member h v.held → h.cell ≡ cell.Node n → r.at (node n) ≢ InLimboOf p
  not_in_limbo h n i e there = by_stamp h.stamped (subst (HeldAt p false h.stamped) there (subst (λ (c : Bool). HeldAt p c h.stamped (r.at (node n))) first.early (account.held h n i e)))
    where
      by_stamp : (o : Option ℕ) → HeldAt p false o (InLimboOf p) → ⊥
      by_stamp None k = let a : InLimboOf p ≡ InHandOf p = k in cc
      by_stamp (Some x) k = ⊎_elim (λ (a : InLimboOf p ≡ InTree). cc) (λ (a : (false ≡ true) × (InLimboOf p ≡ InLimboOf p)). let c = a.0 in cc) k

  clear : (d : Link) → IsClear (m'.version (cell_named d)) → at' d ≡ InTree
  clear (leaf l) is =
      let other : cell.Leaf l ≢ h₀.cell = λ e. not_held_leaf l h₀ first.held (sym e) in
      let same = sets.there (cell.Leaf l) other in
      let o = r.formed.leaves l in absurd (omega (arith, is, same, o))
  clear (node n) is = ⊎_elim
      (λ (here : cell.Node n ≡ h₀.cell).
      let kept : b ≡ false = released_clear (m.version h₀.cell) b lock₀ (subst IsClear (ap m'.version here ∙ sets.here) is) in
      let not : Member (node n) us → ⊥ = λ i. let gone : b ≡ true = first.obsolete.1 (n, sym here, i) in cc in
      by_stamp h₀.stamped (held_mine h₀ n first.held (sym here)) not (not_in_limbo h₀ n first.held (sym here)))
      (λ (other : cell.Node n ≢ h₀.cell).
      let was : IsClear (m.version (cell.Node n)) = subst IsClear (sets.there (cell.Node n) other) is in
      let tree = r.unstamped.clear (node n) was in
      ⊎_elim
      (λ (k : Member (node n) us × (at' (node n) ≡ InLimboOf p)).
      let o = done.held n k.0 in
      let lock : IsLocked (m.version (cell.Node n)) = subst (λ (c : Cell). IsLocked (m.version c)) o.2 (mine.keeps o.0 o.1).locked in
      absurd (omega (arith, lock, was)))
      (⊎_elim
      (λ (k : Member (node n) ls × (Member (node n) us → ⊥) × (at' (node n) ≡ InTree)). k.2)
      (λ (k : (Member (node n) us → ⊥) × (Member (node n) ls → ⊥) × (at' (node n) ≡ r.at (node n))). k.2 ∙ tree))
      (from (node n)))
      (same_cell (cell.Node n) h₀.cell)
    where
      by_stamp : (o : Option ℕ) → HeldAt p true o (at' (node n)) → (Member (node n) us → ⊥) → r.at (node n) ≢ InLimboOf p → at' (node n) ≡ InTree
      by_stamp None k not none = k
      by_stamp (Some x) k not none = ⊎_elim
          (λ (a : at' (node n) ≡ InTree). a)
          (λ (a : (true ≡ true) × (at' (node n) ≡ InLimboOf p)). ⊎_elim
          (λ (j : Member (node n) us × (at' (node n) ≡ InLimboOf p)). absurd (not j.0))
          (⊎_elim
          (λ (j : Member (node n) ls × (Member (node n) us → ⊥) × (at' (node n) ≡ InTree)). j.2)
          (λ (j : (Member (node n) us → ⊥) × (Member (node n) ls → ⊥) × (at' (node n) ≡ r.at (node n))).
          absurd (none (sym j.2 ∙ a.1))))
          (from (node n)))
          k

  pinned_of : (q : ℕ) (u : View) → f q ≡ Some u → IsPinned z m' at' q u
  pinned_of q u is = let k = r.unstamped.pinned q u is in record {
    inside = k.inside;
    word = ap (λ (a : ℕ → ℕ). a q) sets.pass_word ∙ k.word;
    low = subst (λ (n : ℕ). u.pin ≤ n) (sym sets.epoch) k.low;
    noted = λ n e. let o = k.noted n e in (o.0, subst (λ (a : ℕ). n.epoch ≤ a) (sym sets.epoch) o.1);
    pinned = k.pinned;
    placed = k.placed;
    stamped = λ n y. ⊎_elim
        (λ (a : r.at (node n) ≡ InTree). ⊎_elim
        (λ (j : Member (node n) us × (at' (node n) ≡ InLimboOf p)). inr (p, j.1))
        (⊎_elim
        (λ (j : Member (node n) ls × (Member (node n) us → ⊥) × (at' (node n) ≡ InTree)). inl j.2)
        (λ (j : (Member (node n) us → ⊥) × (Member (node n) ls → ⊥) × (at' (node n) ≡ r.at (node n))). inl (j.2 ∙ a)))
        (from (node n)))
        (λ (a : (o : ℕ) × (r.at (node n) ≡ InLimboOf o)). let c = a.1 in inr (a.0, stays_at (node n) (λ j. cc) (λ j. cc) ∙ c))
        (k.stamped n y);
    idle = k.idle;
  }

  -- a place in limbo is one that was there, or one of what was just unlinked
  awaits : (q o : ℕ) (u x : View) (e : Retired) → g q ≡ Some u → g o ≡ Some x → Member e x.limbo → Awaits q u e
  awaits q o u x e is-u is-x i = ⊎_elim
      (λ (a : (o ≡ p) × (x ≡ w)). ⊎_elim
      (λ (j : Member e (all_retired ks us)). same_view q u is-u (λ q' u' is'. new_awaits q' u' is' e (retired_of ks us e j)))
      (λ (j : Member e v.limbo). same_view q u is-u (λ q' u' is'. r.unstamped.awaits q' p u' v e is' is-v j))
      (member_append e (all_retired ks us) v.limbo (subst (λ (y : View). Member e y.limbo) a.1 i)))
      (λ (a : (o ≢ p) × (f o ≡ Some x)). same_view q u is-u (λ q' u' is'. r.unstamped.awaits q' o u' x e is' a.1 i))
      (either_view f g p w t o x is-x)
    where
      -- the pass's stamps and pins are as they were
      same_view : (q : ℕ) (u : View) → g q ≡ Some u → ((q' : ℕ) (u' : View) → f q' ≡ Some u' → Awaits q' u' e) → Awaits q u e
      same_view q u is goes = ⊎_elim
          (λ (a : (q ≡ p) × (u ≡ w)).
          let k = goes p v is-v in
          let k' : Awaits p w e = record { stamped = k.stamped; marked = k.marked; label = k.label; made = k.made } in
          subst (λ (y : ℕ × View). Awaits y.0 y.1 e) (λ j. (sym a.0 j, sym a.1 j)) k')
          (λ (a : (q ≢ p) × (f q ≡ Some u)). goes q u a.1)
          (either_view f g p w t q u is)

      new_awaits : (q : ℕ) (u : View) → f q ≡ Some u → (e : Retired) → Member e.link us × (e.marked ≡ []) × (e.label ≡ None) × (e.pins ≡ ks) → Awaits q u e
      new_awaits q u is e o = record {
        stamped = λ n link y. let pin = (r.unstamped.pinned q u is).pinned y.0 y.1 in (pin, subst (Member (record { pass = q; count = u.pins })) (sym o.3) (standing.all q u is pin));
        marked = λ i under. subst (Member q) o.1 i;
        label = λ l e under. let a = o.2 in absurd (cc);
        made = λ k i. let a = standing.only q k (subst (Member (record { pass = q; count = k })) o.3 i) in
            let same : a.0 ≡ u = one_view f q q a.0 u refl a.1 is in
            let last : k ≡ u.pins = a.3 ∙ ap (λ (y : View). y.pins) same in omega (arith, last);
      }

  unstamped : MarkedUnstamped z m' g at'
  unstamped = record {
    epoch = subst (λ (n : ℕ). 0 < n) (sym sets.epoch) r.unstamped.epoch;
    clear = clear;
    pinned = each_view f g p w t (λ q u. IsPinned z m' at' q u)
        (let k = pinned_of p v is-v in record { inside = k.inside; word = k.word; low = k.low; noted = k.noted; pinned = k.pinned; placed = k.placed; stamped = k.stamped; idle = λ e h i. k.idle e h (drops.was h i).0 })
        (λ q u other is. pinned_of q u is);
    awaits = awaits;
  }

  -- ---- words

  -- what becomes obsolete was stamped
  was_stamped : b ≡ true → (x : ℕ) × (h₀.stamped ≡ Some x)
  was_stamped gone = by_stamp h₀.stamped refl
    where
      by_stamp : (o : Option ℕ) → h₀.stamped ≡ o → (x : ℕ) × (h₀.stamped ≡ Some x)
      by_stamp (Some x) is = (x, is)
      by_stamp None is =
          let o = first.obsolete.0 gone in
          absurd ((done.leaves (node o.0) o.2).1 (done.comes (node o.0) (done.claimed h₀ o.0 first.held is o.1)).0)

  formed : WordsFormed z m' g
  formed = formed_turn z m m' f g p v w t is-v r.formed
      (λ c. ⊎_elim
      (λ (is : c ≡ h₀.cell). subst IsVersion (sym (ap m'.version is ∙ sets.here)) (released_version m s v.committed h₀ b (mine.keeps h₀ first.held) (r.formed.versions h₀.cell) was_stamped))
      (λ (other : c ≢ h₀.cell). subst IsVersion (sym (sets.there c other)) (r.formed.versions c))
      (same_cell c h₀.cell))
      (λ l. subst IsObsolete (sym (sets.there (cell.Leaf l) (λ e. not_held_leaf l h₀ first.held (sym e)))) (r.formed.leaves l))
      sets.epoch refl (subst (HaveForms z) (sym sets.words) r.formed.words)

  pub commits : IsSound z m' g
  commits = record { log = r.log ++ event v.pass what ∷ []; logical = s'; at = at'; history = history; shows = shows; holder = holder; vouch = vouch; numbers = numbers; unstamped = unstamped; formed = formed }

-- at the first release all held words become the new ones
pub commit_law : commit.Law
commit_law z p v m f m' g is r row =
    commits z m f p v is m' g row.what row.unlinked row.linked row.pins row.holding row.held row.hand row.obsolete r row.may row.first row.drops row.hands row.standing row.unlocks row.view
