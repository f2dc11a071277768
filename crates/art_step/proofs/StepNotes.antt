-- Steps that change no shared word: the version word of a cell is found or compared, and a word is read.
use Rattle.std.proofs.Common.{◌≡◌, ◌≢◌, ◌⊎◌, ℕ, ◌%◌, List, [], ◌∷◌, ◌++◌, inl, inr, sym, refl, ap, ◌∙◌, subst, ⊎_elim, arith, le_refl}
use Rattle.std.proofs.lemmas.Bool.{cases_eq, eq-eqb, ne_eqb}
use Rattle.std.specs.Prelude.{Option, Some, None}
use Rattle.art_cell.specs.declared.cells.Cell.{Cell}
use Rattle.art_cell.specs.declared.cells.Cell.TheVariants as cell
use Rattle.art_cell.specs.declared.cells.Link.TheVariants.{Node as node}
use Rattle.art_step.specs.declared.views.LastCheck.{LastCheck}
use Rattle.art_step.specs.declared.views.Event.{Event}
use Rattle.art_step.specs.declared.views.Fact.{Fact}
use Rattle.art_step.specs.declared.views.Fact.TheVariants.{Starts, Word, LeafWord}
use Rattle.art_step.specs.declared.views.Found.{Found}
use Rattle.art_step.specs.declared.views.Holding.{Holding}
use Rattle.art_step.specs.declared.views.Note.{Note}
use Rattle.art_step.specs.declared.views.Sizes.{Sizes}
use Rattle.art_step.specs.declared.views.Stamp.{Stamp}
use Rattle.art_step.specs.declared.views.View.{View}
use Rattle.art_step.specs.declared.deeds.Deed.{Deed}
use Rattle.art_tree.specs.Heaps.{Cells, heap_of}
use Rattle.art_step.specs.Histories.{event, replay}
use Rattle.art_step.specs.Knowledge.{Holds, HoldsAll}
use Rattle.art_tree.specs.Rows.{HasRows}
use Rattle.art_step.specs.Sound.{IsOneHistory, IsStampOf, Vouches, Vouched, IsSound}
use Rattle.art_step.specs.Steps.Anchor as anchor
use Rattle.art_step.specs.Steps.Begin as begin
use Rattle.art_step.specs.Steps.Read as read
use Rattle.art_step.specs.Steps.Check as check
use Rattle.art_step.specs.Steps.Check.{VouchLaw, ArePaths}
use Rattle.art_step.specs.Views.{note_of, IsNotHeld, SetsView}
use Rattle.art_step.specs.Steps.Begin.{stamp_of}
use Rattle.art_step.specs.Steps.Begin.{first_notes}
use Rattle.art_step.specs.Views.{Member, Memory, IsClear, IsLocked, Views, SetsView}
use Rattle.art_step.proofs.Facts.{holds_all}
use Rattle.art_step.proofs.Histories.{replay_more, history_stays, history_seen, history_grows}
use Rattle.art_step.proofs.SoundParts.{numbers_turn, IsNewStamp, unstamped_turn, formed_turn, holder_same}
use Rattle.art_step.proofs.SetsView.{each_view, member_append}

-- the view with other notes of what the pass has seen, and all that it holds, has in hand and in limbo, and its pins
abbrev pub noting : View → List Event → List ℕ → ℕ → ℕ → List Stamp → List Note → LastCheck → List Found → View
noting v seen own steps failures stamps notes checked found =
    record v { seen = seen; own = own; steps = steps; failures = failures; stamps = stamps; notes = notes; checked = checked; found = found }

-- what holds of a member and of the others holds of each
each_member : {A : Type 0} (P : A → Type 0) (x : A) (xs : List A) → P x → ((a : A) → Member a xs → P a) → (a : A) → Member a (x ∷ xs) → P a
each_member P x xs first others a i = ⊎_elim (λ (is : a ≡ x). subst P (sym is) first) (λ (j : Member a xs). others a j) i

module _ (z : Sizes) (m : Memory) (f g : Views) (p : ℕ) (v : View) (at : f p ≡ Some v) (r : IsSound z m f) where
  abbrev pub s : Cells
  s = r.logical

  mine : Vouched m s v
  mine = r.vouch p v at

  -- a stamp that is new, of a clear version word
  abbrev pub IsMade : Stamp → Type 0
  IsMade x = IsNewStamp z r.at v x × IsStampOf m x

  abbrev pub StampsCome : List Stamp → Type 0
  StampsCome xs = (x : Stamp) → Member x xs → Member x v.stamps ⊎ IsMade x

  -- a note that is new: its stamp vouches for it, and of a cell that is held since that stamp it holds
  abbrev pub IsFresh : Note → Type 0
  IsFresh y = Vouches m s y × ((h : Holding) → Member h v.held → y.stamp.cell ≡ h.cell → h.stamped ≡ Some y.stamp.version → Holds s h.cell y.fact)

  abbrev pub NotesCome : List Note → Type 0
  NotesCome ys = (y : Note) → Member y ys → Member y v.notes ⊎ IsFresh y

  -- each note has its stamp among these
  abbrev pub NotesGo : List Stamp → List Note → Type 0
  NotesGo xs ys = (y : Note) → Member y ys → Member y.stamp xs

  -- stamps and notes change, and perhaps the history
  notes : {seen : List Event} {own : List ℕ} {steps failures : ℕ} {xs : List Stamp} {ys : List Note} {checked : LastCheck} {found : List Found}
      → SetsView f p (noting v seen own steps failures xs ys checked found) g
      → (log : List Event) → IsOneHistory log g → HasRows (heap_of s) (replay log) → StampsCome xs → NotesCome ys → NotesGo xs ys → IsSound z m g
  notes {seen} {own} {steps} {failures} {xs} {ys} {checked} {found} t log history rows stamps come go =
      let w : View = noting v seen own steps failures xs ys checked found in
      let k = r.numbers.accounts p v at in
      record {
        log = log;
        logical = s;
        at = r.at;
        history = history;
        shows = record { shape = r.shows.shape; rows = rows };
        holder = holder_same m f g p v w s t at refl refl r.holder;
        vouch = each_view f g p w t (λ q u. Vouched m s u)
            record {
              stamps = λ x i. ⊎_elim (λ (j : Member x v.stamps). mine.stamps x j) (λ (j : IsMade x). j.1) (stamps x i);
              noted = go;
              notes = λ y i. ⊎_elim (λ (j : Member y v.notes). mine.notes y j) (λ (j : IsFresh y). j.0) (come y i);
              kept = λ early h y i j is stamped. ⊎_elim (λ (k : Member y v.notes). mine.kept early h y i k is stamped) (λ (k : IsFresh y). k.1 h i is stamped) (come y j);
            }
            (λ q u other is. r.vouch q u is);
        numbers = numbers_turn z m m f g p w s s r.at t r.numbers r.numbers refl (λ l. refl)
            record { hand = k.hand; in_hand = k.in_hand; leaves = k.leaves; limbo = k.limbo; in_limbo = k.in_limbo; held = k.held; hand_once = k.hand_once; limbo_once = k.limbo_once };
        unstamped = unstamped_turn z m m f g p v w s r.at t at r.numbers r.unstamped refl refl r.unstamped.clear refl refl refl refl
            (λ x i. ⊎_elim (λ (j : Member x v.stamps). inl j) (λ (j : IsMade x). inr j.0) (stamps x i)) (λ h i e. (r.unstamped.pinned p v at).idle e h i);
        formed = formed_turn z m m f g p v w t at r.formed r.formed.versions r.formed.leaves refl refl r.formed.words;
      }

  -- the pass tells nothing
  pub quiet : {steps failures : ℕ} {xs : List Stamp} {ys : List Note} {checked : LastCheck} {found : List Found}
      → SetsView f p (noting v v.seen v.own steps failures xs ys checked found) g → StampsCome xs → NotesCome ys → NotesGo xs ys → IsSound z m g
  quiet {steps} {failures} {xs} {ys} {checked} {found} t stamps come go =
      notes t r.log (history_stays f g p v (noting v v.seen v.own steps failures xs ys checked found) t at r.log r.history refl refl refl) r.shows.rows stamps come go

  -- all of the history is seen
  sees : SetsView f p (anchor.view_after v r.log) g → IsSound z m g
  sees t = notes t r.log (history_seen f g p v (anchor.view_after v r.log) t at r.log r.history refl refl refl) r.shows.rows (λ a i. inl i) (λ y i. inl i) mine.noted

  -- what holds now may be noted
  holds_now : (y : Note) → IsStampOf m y.stamp → Holds s y.stamp.cell y.fact → IsFresh y
  holds_now y stamp holds = (record { stamp = stamp; same = λ e. holds }, λ h i is stamped. subst (λ (c : Cell). Holds s c y.fact) is holds)

  one_fresh : (y : Note) → IsFresh y → (a : Note) → Member a (y ∷ []) → IsFresh a
  one_fresh y new = each_member IsFresh y [] new (λ a i. absurd i)

  more_notes : (ys : List Note) → ((y : Note) → Member y ys → IsFresh y) → NotesCome (ys ++ v.notes)
  more_notes ys new y i = ⊎_elim (λ (j : Member y ys). inr (new y j)) (λ (j : Member y v.notes). inl j) (member_append y ys v.notes i)

  -- the notes that there were go with their stamps, where all of these stay, and so do those that come
  all_go : (xs : List Stamp) (ys : List Note) → ((x : Stamp) → Member x v.stamps → Member x xs) → NotesGo xs ys → NotesGo xs (ys ++ v.notes)
  all_go xs ys stay new y i = ⊎_elim (λ (j : Member y ys). new y j) (λ (j : Member y v.notes). stay y.stamp (mine.noted y j)) (member_append y ys v.notes i)

  one_goes : (xs : List Stamp) (y : Note) → Member y.stamp xs → NotesGo xs (y ∷ [])
  one_goes xs y has = each_member (λ (a : Note). Member a.stamp xs) y [] has (λ a i. absurd i)

  first_fresh : (c : Cell) → IsStampOf m (stamp_of z c (m.version c)) → (y : Note) → Member y (first_notes z c (m.version c)) → IsFresh y
  first_fresh cell.Anchor stamp = let y : Note = note_of (stamp_of z cell.Anchor (m.version cell.Anchor)) (Starts []) in one_fresh y (holds_now y stamp refl)
  first_fresh (cell.Leaf l) stamp = λ y i. absurd i
  first_fresh (cell.Node n) stamp = λ y i. absurd i

  first_go : (c : Cell) (x : ℕ) → NotesGo (stamp_of z c x ∷ v.stamps) (first_notes z c x)
  first_go cell.Anchor x = one_goes (stamp_of z cell.Anchor x ∷ v.stamps) (note_of (stamp_of z cell.Anchor x) (Starts [])) (inl refl)
  first_go (cell.Leaf l) x = λ y i. absurd i
  first_go (cell.Node n) x = λ y i. absurd i

  -- a clear version word gives a stamp of a cell of the tree
  made : (c : Cell) → v.pin ≢ 0 → IsClear (m.version c) → IsMade (stamp_of z c (m.version c))
  made c pinned clear =
      ((pinned, λ n e. r.unstamped.clear (node n) (subst (λ (d : Cell). IsClear (m.version d)) e clear), refl), record { clear = clear; below = le_refl (m.version c) })

  begins : (c : Cell) → v.pin ≢ 0 → SetsView f p (begin.view_after z v c (m.version c)) g → IsSound z m g
  begins c pinned t = ⊎_elim
      (λ (clear : IsClear (m.version c)).
      let x : Stamp = stamp_of z c (m.version c) in
      let new : IsMade x = made c pinned clear in
      quiet (rw (eq-eqb (m.version c % 4) 0 clear) at t)
      (each_member (λ a. Member a v.stamps ⊎ IsMade a) x v.stamps (inr new) (λ a i. inl i))
      (more_notes (first_notes z c (m.version c)) (first_fresh c new.1))
      (all_go (x ∷ v.stamps) (first_notes z c (m.version c)) (λ a i. inr i) (first_go c (m.version c))))
      (λ (other : m.version c % 4 ≢ 0). quiet (rw (ne_eqb (m.version c % 4) 0 other) at t) (λ x i. absurd i) (λ y i. absurd i) (λ y i. absurd i))
      (cases_eq (m.version c % 4) 0)

  -- a fact of a cell that is not held is noted, where an unchanged version word says that it holds
  reads : (x : Stamp) (y : Fact) → Member x v.stamps → IsNotHeld v.held x.cell → (m.version x.cell ≡ x.version → Holds s x.cell y) → SetsView f p (read.view_after v x y) g → IsSound z m g
  reads x y has free same t = quiet t (λ a i. inl i)
      (more_notes (note_of x y ∷ []) (one_fresh (note_of x y) (record { stamp = mine.stamps x has; same = same }, λ h i is stamped. absurd (free h i (sym is)))))
      (all_go v.stamps (note_of x y ∷ []) (λ a i. i) (one_goes v.stamps (note_of x y) has))

  -- what was noted under an unchanged stamp holds
  holds : (x : Stamp) → m.version x.cell ≡ x.version → HoldsAll v x s
  holds x same = holds_all m s v x mine same

  -- a cell that is not locked has its logical words
  word_of : (c : Cell) (i : ℕ) → (IsLocked (m.version c) → ⊥) → s c i ≡ m.words c i
  word_of c i free = ap (λ (w : ℕ → ℕ). w i) (r.holder.at_rest c free)

  -- the paths of stamped cells
  paths : (ys : List Note) → ArePaths s v ys → NotesCome (ys ++ v.notes)
  paths ys are = more_notes ys (λ y i. let k = are y i in holds_now y (mine.stamps y.stamp k.0) (subst (Holds s y.stamp.cell) (sym k.1.1) k.1.2))

  paths_go : (ys : List Note) → ArePaths s v ys → NotesGo v.stamps (ys ++ v.notes)
  paths_go ys are = all_go v.stamps ys (λ a i. i) (λ y i. (are y i).0)

  passes : (x : Stamp) (ys : List Note) (o : Option Deed) → m.version x.cell ≡ x.version → ArePaths s v ys → check.MayTell z v x o → SetsView f p (check.with_event (check.view_unchanged v x ys) r.log o) g → IsSound z m g
  passes x ys None same are tells t = quiet t (λ a i. inl i) (paths ys are) (paths_go ys are)
  passes x ys (Some what) same are tells t =
      let k = tells s (replay r.log) r.shows.shape r.shows.rows (holds x same) in
      notes t (r.log ++ event v.pass what ∷ [])
      (history_grows f g p v (check.with_event (check.view_unchanged v x ys) r.log (Some what)) t at r.log r.history refl what k.0 refl refl)
      (subst (HasRows (heap_of s)) (sym (replay_more r.log (event v.pass what) ∙ k.1)) r.shows.rows)
      (λ a i. inl i) (paths ys are) (paths_go ys are)

-- where no word changes
unchanged : (z : Sizes) (m n : Memory) (g : Views) → n ≡ m → IsSound z m g → IsSound z n g
unchanged z m n g same sound = subst (λ (k : Memory). IsSound z k g) (sym same) sound

-- the anchor alone is looked at
pub anchor_law : anchor.Law
anchor_law z p v m f n g at r row = unchanged z m n g row.words (sees z m f g p v at r row.view)

-- the version word of a cell is found
pub begin_law : begin.Law
begin_law z p v m f n g at r row = unchanged z m n g row.words (begins z m f g p v at r row.cell row.may.pinned row.view)

-- a word of a stamped cell is read
pub read_law : read.Law
read_law z p v m f n g at r row =
    let x = row.stamp in
    unchanged z m n g row.words
    (reads z m f g p v at r x (Word row.place (m.words x.cell row.place)) row.may.stamp row.may.free
    (λ same. let k = ((r.vouch p v at).stamps x row.may.stamp).clear in word_of z m f g p v at r x.cell row.place (λ locked. omega arith)) row.view)

-- a word of a leaf that a stamped cell names is read
pub read_leaf_law : read.LeafLaw
read_leaf_law z p v m f n g at r row =
    let x = row.stamp in
    let l = row.number in
    let i = row.place in
    unchanged z m n g row.words
    (reads z m f g p v at r x (LeafWord l i (m.words (cell.Leaf l) i)) row.may.stamp row.may.free
    (λ same. (row.may.names r.logical r.shows.shape (holds z m f g p v at r x same), word_of z m f g p v at r (cell.Leaf l) i (λ locked. let o = r.formed.leaves l in omega arith))) row.view)

-- an unchanged version word vouches for what was noted under its stamp
pub vouch_law : VouchLaw
vouch_law z p v m f x at r same = holds z m f f p v at r x same

-- a check finds an unchanged version word, and may make an event
pub pass_law : check.UnchangedLaw
pass_law z p v m f n g at r row = unchanged z m n g row.words (passes z m f g p v at r row.stamp row.paths row.event row.found row.led row.may.tells row.view)

-- a check or an upgrade finds a changed version word
pub fail_law : check.ChangedLaw
fail_law z p v m f n g at r row =
    let without = row.without in
    unchanged z m n g row.words
    (quiet z m f g p v at r row.view (λ a i. inl ((without.stamps a).0 i).0) (λ y i. inl ((without.notes y).0 i).0)
    (λ y i. let k = (without.notes y).0 i in (without.stamps y.stamp).1 ((r.vouch p v at).noted y k.0, k.1)))
