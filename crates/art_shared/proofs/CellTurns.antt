-- The kinds of steps of cells, as steps on a word of the table: what each shows, and that the pass makes it whatever the table is.
use Rattle.art_key.specs.Spelling.{IsKeyOf}
use Rattle.std.proofs.Common.{◌≡◌, ◌≢◌, ℕ, ◌+◌, ◌%◌, ◌^◌, ◌<◌, ◌≤◌, ◌==◌, Bool, true, false, List, slice_set, get_or, ⊎_elim, sym, ap, ◌∙◌, subst, arith}
use Rattle.std.proofs.lemmas.Bool.{cases_eq}
use Rattle.std.proofs.Math.Nat.{mod-eq_of_lt}
use Rattle.std.specs.Prelude.{Option, Some}
use prog.Atomic.{either}
use Rattle.atomic_table.proofs.Lists.{exchanged}
use Rattle.art_cell.specs.declared.cells.Cell.{Cell}
use Rattle.art_cell.specs.declared.cells.Cell.TheVariants as cell
use Rattle.art_cell.specs.declared.cells.Link.{Link}
use Rattle.art_cell.specs.declared.cells.Link.TheVariants.{Leaf as leaf}
use Rattle.art_cell.specs.declared.cells.Node.{Node}
use Rattle.art_step.specs.declared.deeds.Deed.{Deed}
use Rattle.art_step.specs.declared.views.Holding.{Holding}
use Rattle.art_step.specs.declared.views.InHand.{InHand}
use Rattle.art_step.specs.declared.views.Sizes.{Sizes}
use Rattle.art_step.specs.declared.views.Stamp.{Stamp}
use Rattle.art_step.specs.declared.views.View.{View}
use Rattle.art_step.specs.declared.views.Event.{Event}
use Rattle.art_step.specs.Deeds.{IsAdmitted}
use Rattle.art_step.specs.Histories.{StartsWith}
use Rattle.art_step.specs.Effects.{FindsUnchanged, FindsVersion, FindsWord, Instant, LocksClaimed, LocksStamped, PutsWord, Unlocks, claimed_word, released_word}
use Rattle.art_step.specs.Steps.Begin as begin
use Rattle.art_step.specs.Steps.Check as check
use Rattle.art_step.specs.Steps.Claim as claim
use Rattle.art_step.specs.Steps.Commit as commit
use Rattle.art_step.specs.Steps.Read as read
use Rattle.art_step.specs.Steps.Release as release
use Rattle.art_step.specs.Steps.Upgrade as upgrade
use Rattle.art_step.specs.Steps.Write as write
use Rattle.art_step.specs.Views.{IsWordOf, IsHolding, IsInHand, Member, Views, size_of}
use Rattle.art_step.specs.WordPlaces.{HasVersion, IsInside, first_place, place_of, word_count}
use Rattle.art_step.specs.WordRows.{memory_of, version_in, word_in}
use Rattle.art_step.proofs.Changing.{first_low, held_plain, moves_claims, moves_commits, moves_releases, moves_upgrades, moves_writes, moves_writes_leaf, released_fits}
use Rattle.art_step.proofs.Moves.{Moves, moves_begins, moves_fails, moves_passes, moves_reads, moves_reads_leaf, moves_sees}
use Rattle.art_step.proofs.WordRows.{inside_of, plain_of, version_below, version_found, word_found}
use Rattle.art_shared.specs.declared.law.Basis.{Basis}
use Rattle.art_shared.specs.declared.law.Known.{Known}
use Rattle.art_shared.specs.Marks.{Sees}
use Rattle.art_shared.specs.Passes.{view_in}
use Rattle.art_shared.specs.Turns.{MayTurn, Stands}
use Rattle.art_shared.proofs.Turning.{looks}
use Rattle.art_shared.proofs.Typed.{begun_sees, made_typed, quiet, told_typed}

-- ---- places

-- a version word is one of the table
pub version_low : (z : Sizes) (c : Cell) → HasVersion z c → place_of z c < word_count z
version_low z c has = let low = version_below z c (inside_of z c has) in omega (arith, low)

pub inside_low : (z : Sizes) (c : Cell) → IsInside z c → place_of z c < word_count z
inside_low z c inside = let low = version_below z c inside in omega (arith, low)

-- what is found there is the cell's word
found_version : (z : Sizes) (ws : List ℕ) (c : Cell) (at : ℕ) → at ≡ place_of z c → HasVersion z c → get_or ws at 0 ≡ version_in z ws c
found_version z ws c at is has = ap (λ (i : ℕ). get_or ws i 0) is ∙ sym (version_found z ws c (inside_of z c has) (plain_of z c has))

found_word : (z : Sizes) (ws : List ℕ) (c : Cell) (i at : ℕ) → at ≡ place_of z c + i → IsInside z c → first_place c ≤ i → i < size_of c → get_or ws at 0 ≡ word_in z ws c i
found_word z ws c i at is inside late few = ap (λ (j : ℕ). get_or ws j 0) is ∙ sym (word_found z ws c i inside late few)

-- ---- what is shown where either of two things may happen

-- a check, or an upgrade, finds the stamped word or another
abbrev pub ByFound : Stamp → (View → View → Type 0) → ℕ → View → View → Type 0
ByFound x Same n v w = (n ≡ x.version → Same v w) × (n ≢ x.version → check.IsChanged v w x n)

abbrev pub AtFound : Stamp → Instant → ℕ → Instant
AtFound x same n m f m' f' = (n ≡ x.version → same m f m' f') × (n ≢ x.version → FindsVersion x.cell n m f m' f')

-- a step that shows and does one thing shows and does each that this is
weaker : {z : Sizes} {ws : List ℕ} {f : Views} {p : ℕ} {v : View} {us : List ℕ} {Row Row' : View → View → Type 0} {so so' : Instant} → ((w : View) → Row v w → Row' v w)
    → ((m' : _) (f' : Views) → so (memory_of z ws) f m' f' → so' (memory_of z ws) f m' f') → Moves z ws f p v us Row so → Moves z ws f p v us Row' so'
weaker row was t = record { view = t.view; pass = t.pass; row = row t.view t.row; step = t.step; sound = t.sound; was = λ g s. was _ g (t.was g s) }

-- ---- steps that change no word

module _ (basis : Basis) (me : Known) where
  abbrev z : Sizes
  z = basis.sizes

  abbrev v : View
  v = view_in me

  pub turns_begin : (c : Cell) (at : ℕ) → at ≡ place_of z c → HasVersion z c → begin.May v c
      → MayTurn basis me at (λ n. n) (λ n v w. w ≡ begin.view_after z v c n) (λ n. FindsVersion c n)
  turns_begin c at is has may = record {
    moves = λ ws f s low.
        let n : ℕ = get_or ws at 0 in
        looks z ws f v.pass v at (λ v w. w ≡ begin.view_after z v c n) (FindsVersion c n) (moves_begins z ws f v.pass v s.sound s.here s.long c n may (found_version z ws c at is has));
    adds = λ n w row. quiet basis.schema v w (ap (λ (u : View). u.own) row ∙ (begun_sees z v c n).1);
  }

  -- that of the anchor, and all of the history is seen
  pub turns_look : (at : ℕ) → at ≡ place_of z cell.Anchor → MayTurn basis me at (λ n. n) (λ n. Sees me.told) (λ n. FindsVersion cell.Anchor n)
  turns_look at is = record {
    moves = λ ws f s low.
        let n : ℕ = get_or ws at 0 in
        looks z ws f v.pass v at (Sees me.told) (FindsVersion cell.Anchor n)
        (weaker (λ w row. record { look = row.0; begins = λ h i. subst (λ (l : List Event). StartsWith l h) (sym row.1) (s.told h i) }) (λ m' f' so. so)
        (moves_sees z ws f v.pass v s.sound s.here s.long n (found_version z ws cell.Anchor at is tt)));
    adds = λ n w row. quiet basis.schema v w (ap (λ (u : View). u.own) row.look.is);
  }

  pub turns_read : (x : Stamp) (i at : ℕ) → at ≡ place_of z x.cell + i → IsInside z x.cell → read.May v x i
      → MayTurn basis me at (λ n. n) (λ n v w. read.Outcome z v w x i n) (λ n. FindsWord x.cell i n)
  turns_read x i at is inside may = record {
    moves = λ ws f s low.
        let n : ℕ = get_or ws at 0 in
        let positive = may.place.0 in
        let low = first_low x.cell in
        looks z ws f v.pass v at (λ v w. read.Outcome z v w x i n) (FindsWord x.cell i n) (moves_reads z ws f v.pass v s.sound s.here s.long x i n may (found_word z ws x.cell i at is inside (omega (arith, positive, low)) may.place.1));
    adds = λ n w row. quiet basis.schema v w (ap (λ (u : View). u.own) row.is);
  }

  pub turns_read_leaf : (x : Stamp) (l i at : ℕ) → at ≡ place_of z (cell.Leaf l) + i → l < z.leaves → read.MayLeaf z v x l i
      → MayTurn basis me at (λ n. n) (λ n v w. read.LeafOutcome v w x l i n) (λ n. FindsWord (cell.Leaf l) i n)
  turns_read_leaf x l i at is inside may = record {
    moves = λ ws f s low.
        let n : ℕ = get_or ws at 0 in
        looks z ws f v.pass v at (λ v w. read.LeafOutcome v w x l i n) (FindsWord (cell.Leaf l) i n) (moves_reads_leaf z ws f v.pass v s.sound s.here s.long x l i n may (found_word z ws (cell.Leaf l) i at is inside (omega arith) may.place));
    adds = λ n w row. quiet basis.schema v w (ap (λ (u : View). u.own) row);
  }

  -- a changed version word
  fails : (x : Stamp) (at : ℕ) (Same : View → View → Type 0) (same : Instant) (ws : List ℕ) (f : Views) → Stands basis me ws f → at ≡ place_of z x.cell → HasVersion z x.cell → Member x v.stamps → get_or ws at 0 ≢ x.version
      → Moves z ws f v.pass v (slice_set ws at (get_or ws at 0)) (ByFound x Same (get_or ws at 0)) (AtFound x same (get_or ws at 0))
  fails x at Same same ws f s is has stamp other =
      let n : ℕ = get_or ws at 0 in
      looks z ws f v.pass v at (ByFound x Same n) (AtFound x same n)
      (weaker (λ w row. (λ e. absurd (other e), λ _. row)) (λ m' f' so. (λ e. absurd (other e), λ _. so)) (moves_fails z ws f v.pass v s.sound s.here s.long x n (found_version z ws x.cell at is has) stamp other))

  pub turns_check : (x : Stamp) (o : Option Deed) (at : ℕ) → at ≡ place_of z x.cell → HasVersion z x.cell → check.May z v x o → ((what : Deed) → o ≡ Some what → IsAdmitted (IsKeyOf basis.schema) what)
      → MayTurn basis me at (λ n. n) (ByFound x (λ v w. check.Unchanged z v w x o)) (AtFound x (FindsUnchanged z v x))
  turns_check x o at is has may deed = record {
    moves = λ ws f s low.
        let n : ℕ = get_or ws at 0 in
        ⊎_elim
        (λ (same : n ≡ x.version). looks z ws f v.pass v at (ByFound x (λ v w. check.Unchanged z v w x o) n) (AtFound x (FindsUnchanged z v x) n)
        (weaker (λ w row. (λ _. row, λ e. absurd (e same))) (λ m' f' so. (λ _. so, λ e. absurd (e same))) (moves_passes z ws f v.pass v s.sound s.here s.long x o (sym (found_version z ws x.cell at is has) ∙ same) may)))
        (λ (other : n ≢ x.version). fails x at (λ v w. check.Unchanged z v w x o) (FindsUnchanged z v x) ws f s is has may.stamp other)
        (cases_eq n x.version);
    adds = λ n w row. ⊎_elim
        (λ (same : n ≡ x.version). told_typed basis.schema v w o (row.0 same).told deed)
        (λ (other : n ≢ x.version). quiet basis.schema v w (ap (λ (u : View). u.own) (row.1 other).is))
        (cases_eq n x.version);
  }

  -- ---- locks

  pub turns_upgrade : (x : Stamp) (at more : ℕ) → more ≡ x.version + 2 → at ≡ place_of z x.cell → HasVersion z x.cell → upgrade.May v x
      → MayTurn basis me at (λ n. either (n == x.version) more n) (ByFound x (λ v w. upgrade.Locks v w x)) (AtFound x (LocksStamped x))
  turns_upgrade x at more up is has may = record {
    moves = λ ws f s low.
        let n : ℕ = get_or ws at 0 in
        exchanged n x.version more (λ y. Moves z ws f v.pass v (slice_set ws at y) (ByFound x (λ v w. upgrade.Locks v w x) n) (AtFound x (LocksStamped x) n))
        (λ same. rw (up, is)
        (weaker (λ w row. (λ _. row, λ e. absurd (e (sym (ap (λ (i : ℕ). get_or ws i 0) is) ∙ same)))) (λ m' f' so. (λ _. so, λ e. absurd (e (sym (ap (λ (i : ℕ). get_or ws i 0) is) ∙ same)))) (moves_upgrades z ws f v.pass v s.sound s.here s.long x (inside_of z x.cell has) (sym (found_version z ws x.cell at is has) ∙ same) may)))
        (λ other. fails x at (λ v w. upgrade.Locks v w x) (LocksStamped x) ws f s is has may.stamp other);
    adds = λ n w row. quiet basis.schema v w (⊎_elim
        (λ (same : n ≡ x.version). ap (λ (u : View). u.own) (row.0 same).is)
        (λ (other : n ≢ x.version). ap (λ (u : View). u.own) (row.1 other).is)
        (cases_eq n x.version));
  }

  pub turns_claim : (a : Node) (at : ℕ) → at ≡ place_of z (cell.Node a) → IsInside z (cell.Node a) → claim.May v a
      → MayTurn basis me at (λ _. claimed_word) (λ _ v w. claim.Outcome v w a) (λ _. LocksClaimed a)
  turns_claim a at is inside may = record {
    moves = λ ws f s low. rw is (moves_claims z ws f v.pass v s.sound s.here s.long a inside may);
    adds = λ n w row. quiet basis.schema v w (ap (λ (u : View). u.own) row.is);
  }

  -- ---- writes

  pub turns_write : (c : Cell) (h : Holding) (i x at : ℕ) → at ≡ place_of z c + i → IsInside z c → h.cell ≡ c → write.May v h i → IsWordOf z c i x
      → MayTurn basis me at (λ _. x) (λ _ v w. (k : Holding) → IsHolding v c k → write.Outcome v w k i x) (λ _. PutsWord c i x)
  turns_write c h i x at is inside of may form = record {
    moves = λ ws f s low. rw is (moves_writes z ws f v.pass v s.sound s.here s.long c h i x inside of may form);
    adds = λ n w row. quiet basis.schema v w (ap (λ (u : View). u.own) (row h (may.held, of)).is);
  }

  pub turns_write_leaf : (y : InHand) (l i x at : ℕ) → at ≡ place_of z (cell.Leaf l) + i → l < z.leaves → write.MayLeaf v y l i → IsWordOf z (cell.Leaf l) i x
      → MayTurn basis me at (λ _. x) (λ _ v w. (a : InHand) → IsInHand v (leaf l) a → write.LeafOutcome v w a i x) (λ _. PutsWord (cell.Leaf l) i x)
  turns_write_leaf y l i x at is inside may form = record {
    moves = λ ws f s low. rw is (moves_writes_leaf z ws f v.pass v s.sound s.here s.long y l i x inside may form);
    adds = λ n w row. quiet basis.schema v w (ap (λ (u : View). u.own) (row y (may.hand, may.leaf)).is);
  }

  -- ---- releases

  -- a version word that is far from the greatest goes up
  rise : (n : ℕ) (obsolete : Bool) → n < 18446744073709551613 → released_word n obsolete ≡ (n + released_word 0 obsolete) % 2 ^ 64
  rise n true low = sym (mod-eq_of_lt (omega arith))
  rise n false low = sym (mod-eq_of_lt (omega arith))

  -- so the word of a held cell becomes what a release makes of it
  released : (c : Cell) (h : Holding) (obsolete : Bool) (at : ℕ) (ws : List ℕ) (f : Views) → at ≡ place_of z c → IsInside z c → h.cell ≡ c → Member h v.held → Stands basis me ws f
      → released_word (version_in z ws c) obsolete ≡ (get_or ws at 0 + released_word 0 obsolete) % 2 ^ 64
  released c h obsolete at ws f is inside of held s =
      let plain = held_plain z ws f v.pass v s.sound s.here s.long c h of held in
      let found : version_in z ws c ≡ get_or ws at 0 = version_found z ws c inside plain ∙ ap (λ (i : ℕ). get_or ws i 0) (sym is) in
      rise (version_in z ws c) obsolete (released_fits z ws f v.pass v s.sound s.here s.long c h of held) ∙ ap (λ (n : ℕ). (n + released_word 0 obsolete) % 2 ^ 64) found

  pub turns_release : (c : Cell) (h : Holding) (obsolete : Bool) (at more : ℕ) → more ≡ released_word 0 obsolete → at ≡ place_of z c → IsInside z c → h.cell ≡ c → release.May v h obsolete
      → MayTurn basis me at (λ n. (n + more) % 2 ^ 64) (λ _ v w. (k : Holding) → IsHolding v c k → release.Outcome v w k) (λ _. Unlocks c obsolete)
  turns_release c h obsolete at more up is inside of may = record {
    moves = λ ws f s low.
        let Row : View → View → Type 0 = λ v w. (k : Holding) → IsHolding v c k → release.Outcome v w k in
        rw up
        (subst (λ (y : ℕ). Moves z ws f v.pass v (slice_set ws at y) Row (Unlocks c obsolete)) (released c h obsolete at ws f is inside of may.0 s)
        (rw is (moves_releases z ws f v.pass v s.sound s.here s.long c h obsolete of may inside)));
    adds = λ n w row. quiet basis.schema v w (ap (λ (u : View). u.own) (row h (may.0, of)).is);
  }

  pub turns_commit : (c : Cell) (h : Holding) (what : Deed) (us : List Link) (come : Option Link) (obsolete : Bool) (at more : ℕ) → more ≡ released_word 0 obsolete → at ≡ place_of z c → IsInside z c → h.cell ≡ c
      → commit.MayBeFirst v us h obsolete → commit.May z v what us (commit.coming v come) → IsAdmitted (IsKeyOf basis.schema) what
      → MayTurn basis me at (λ n. (n + more) % 2 ^ 64) (λ _ v w. (k : Holding) → IsHolding v c k → commit.Outcome v w what us (commit.coming v come) k) (λ _. commit.UnlocksFirst v c obsolete)
  turns_commit c h what us come obsolete at more up is inside of first may deed = record {
    moves = λ ws f s low.
        let Row : View → View → Type 0 = λ v w. (k : Holding) → IsHolding v c k → commit.Outcome v w what us (commit.coming v come) k in
        rw up
        (subst (λ (y : ℕ). Moves z ws f v.pass v (slice_set ws at y) Row (commit.UnlocksFirst v c obsolete)) (released c h obsolete at ws f is inside of first.held s)
        (rw is (moves_commits z ws f v.pass v s.sound s.here s.long c h what us come obsolete of s.pins first may inside)));
    adds = λ n w row. made_typed basis.schema v w what (row h (first.held, of)).made deed;
  }
