-- What a pass that alone makes steps has found since a view still tells what the words are.
use Rattle.std.proofs.Common.{◌≡◌, ◌≢◌, ◌⊎◌, ℕ, ◌+◌, ◌-◌, ◌^◌, ◌%◌, ◌<◌, ◌≤◌, ◌==◌, Bool, true, false, List, [], ◌∷◌, ◌++◌, length, inl, inr, ⊎_elim, refl, sym, ap, ap₂, ◌∙◌, subst, arith, eq-eqb, length-append}
use Rattle.std.proofs.lemmas.Bool.{cases_eq, cond_both, eqb-true}
use Rattle.std.proofs.lemmas.Option.{same_Some}
use Rattle.std.specs.Prelude.{if◌then◌else◌, Option, Some, None, IfSome, ⊤}
use Rattle.art_cell.specs.declared.cells.Cell.{Cell}
use Rattle.art_cell.specs.declared.cells.Link.{Link}
use Rattle.art_cell.specs.declared.cells.Pool.{Pool}
use Rattle.art_step.specs.declared.deeds.Deed.{Deed}
use Rattle.art_step.specs.declared.views.Event.{Event}
use Rattle.art_step.specs.declared.views.Found.{Found}
use Rattle.art_step.specs.declared.views.InHand.{InHand}
use Rattle.art_step.specs.declared.views.Sizes.{Sizes}
use Rattle.art_step.specs.declared.views.View.{View}
use Rattle.art_step.specs.declared.views.Word.{Word}
use Rattle.art_step.specs.declared.views.Word.TheVariants.{Version, Free, Pass}
use Rattle.art_step.specs.Effects.{SetsFreeWord}
use Rattle.art_step.specs.Sound.{InHandOf, InLimboOf, IsSound}
use Rattle.art_step.specs.Steps.{OfAKind, OneStep, IsBegin, IsRead, IsReadLeaf, IsUnchanged, IsChanged, IsUpgrade, IsClaim, IsCommit, IsRelease, IsWrite, IsWriteLeaf, IsTake, IsGive, IsFreed, IsEpoch, IsPin, IsAdvance, IsWatch, IsAnchor}
use Rattle.art_step.specs.Steps.Begin as begin
use Rattle.art_step.specs.Steps.Check as check
use Rattle.art_step.specs.Steps.Give as give
use Rattle.art_step.specs.Steps.Pin as pin
use Rattle.art_step.specs.Steps.Take as take_free
use Rattle.art_step.specs.Steps.Take.{if_word, last_found}
use Rattle.art_step.specs.Steps.Write as write
use Rattle.art_step.specs.Views.{Member, Memory, Views, SetsView, bit_of, free_bit, free_index, is_free, number_at, pool_of, pool_rank}
use Rattle.art_step.proofs.FreeBits.{SetsFree, free_by_bit, frees_number, set_is_free, takes_bit}
use Rattle.art_step.proofs.SetsView.{member_append}
use Rattle.art_step.proofs.StepNumbers.{not_free}
use Rattle.art_step.proofs.WordPlaces.{same_pool}
use Rattle.art_tree.proofs.Places.{same_link}
use Rattle.art_runs.specs.OthersIdle.{HasFound, IsAlone}
use Rattle.art_runs.proofs.OthersIdle.{pass_idle}
use Rattle.art_runs.proofs.Found.{IsWord, event_found, found_is}
use Rattle.art_runs.proofs.Versions.{own_grows}

-- ---- what a step finds is nothing, or one word; a word of a pass is that of another one

abbrev IsOthers : Sizes → ℕ → Word → Type 0
IsOthers z p (Version c x) = ⊤
IsOthers z p (Free pool i x) = ⊤
IsOthers z p (Pass q x) = (q < z.passes) × (q ≢ p)

-- of the views of the pass p before and after a step
record FindsOthers (z : Sizes) (p : ℕ) (v w : View) : Type 0 where
  finds : (w.found ≡ v.found) ⊎ ((y : Found) × (w.found ≡ y ∷ v.found) × IsOthers z p y.word)

none_found : (z : Sizes) (p : ℕ) (v w : View) → w.found ≡ v.found → FindsOthers z p v w
none_found z p v w same = record { finds = inl same }

one_found : (z : Sizes) (p : ℕ) (v w : View) (y : Found) → w.found ≡ y ∷ v.found → IsOthers z p y.word → FindsOthers z p v w
one_found z p v w y is others = record { finds = inr (y, is, others) }

begun_finds : (z : Sizes) (p : ℕ) (v : View) (c : Cell) (x : ℕ) → FindsOthers z p v (begin.view_after z v c x)
begun_finds z p v c x = cond_both (x % 4 == 0) _ _ (FindsOthers z p v) (λ e. one_found z p v _ _ refl tt) (λ e. one_found z p v _ _ refl tt)

taken_finds : (z : Sizes) (p : ℕ) (v : View) (pool : Pool) (i : ℕ) (bit : Option ℕ) (x : ℕ) (ws : List ℕ) → FindsOthers z p v (take_free.view_after v pool i bit x ws)
taken_finds z p v pool i None x ws = one_found z p v _ _ refl tt
taken_finds z p v pool i (Some k) x ws = cond_both (bit_of x k == 1) _ _ (FindsOthers z p v) (λ e. one_found z p v _ _ refl tt) (λ e. one_found z p v _ _ refl tt)

pinned_finds : (z : Sizes) (p : ℕ) (v : View) (x : ℕ) → FindsOthers z p v (pin.view_after v x)
pinned_finds z p v x = cond_both (x == 0) _ _ (FindsOthers z p v) (λ e. none_found z p v _ refl) (λ e. none_found z p v _ refl)

module _ (z : Sizes) (p : ℕ) (v : View) (m : Memory) (f : Views) (m' : Memory) (g : Views) (at : f p ≡ Some v) (r : IsSound z m f) (w : View) (is : g p ≡ Some w) where
  set_finds : (u : View) → SetsView f p u g → FindsOthers z p v u → FindsOthers z p v w
  set_finds u t = subst (FindsOthers z p v) (same_Some u w (sym t.here ∙ is))

  kind_finds : OfAKind z p v m f m' g r.log r.logical → FindsOthers z p v w
  kind_finds (IsBegin k) = set_finds _ k.view (begun_finds z p v k.cell (m.version k.cell))
  kind_finds (IsRead k) = set_finds _ k.view (none_found z p v _ refl)
  kind_finds (IsReadLeaf k) = set_finds _ k.view (none_found z p v _ refl)
  kind_finds (IsUnchanged k) = set_finds _ k.view (one_found z p v _ _ (event_found (check.view_unchanged v k.stamp k.paths) r.log k.event) tt)
  kind_finds (IsChanged k) = set_finds _ k.view (one_found z p v _ _ refl tt)
  kind_finds (IsUpgrade k) = set_finds _ k.view (one_found z p v _ _ refl tt)
  kind_finds (IsClaim k) = set_finds _ k.view (none_found z p v _ refl)
  kind_finds (IsCommit k) = set_finds _ k.view (none_found z p v _ refl)
  kind_finds (IsRelease k) = set_finds _ k.view (none_found z p v _ refl)
  kind_finds (IsWrite k) = set_finds _ k.view (none_found z p v _ refl)
  kind_finds (IsWriteLeaf k) = set_finds _ k.view (none_found z p v _ refl)
  kind_finds (IsTake k) = set_finds _ k.view (taken_finds z p v k.pool k.index k.bit (m.free_word k.pool k.index) k.copy)
  kind_finds (IsGive k) = set_finds _ k.view (none_found z p v _ refl)
  kind_finds (IsFreed k) = set_finds _ k.view (none_found z p v _ refl)
  kind_finds (IsEpoch k) = set_finds _ k.view (none_found z p v _ refl)
  kind_finds (IsPin k) = set_finds _ k.view (pinned_finds z p v k.word)
  kind_finds (IsAdvance k) = set_finds _ k.view (none_found z p v _ refl)
  kind_finds (IsWatch k) = set_finds _ k.view (one_found z p v _ _ refl (k.may.there, λ own. k.may.other (own ∙ sym (r.history.tells p v at).pass)))
  kind_finds (IsAnchor k) = set_finds _ k.view (none_found z p v _ refl)

finds_others : (z : Sizes) (p : ℕ) (v w : View) (m : Memory) (f : Views) (m' : Memory) (f' : Views) → OneStep z p m f m' f' → f p ≡ Some v → f' p ≡ Some w → FindsOthers z p v w
finds_others z p v w m f m' f' t at is = subst (λ (u : View). FindsOthers z p u w) (same_Some t.view v (sym t.before ∙ at)) (kind_finds z p t.view m f m' f' t.before t.sound w is t.kind)

-- ---- a number that is free or in hand is so after a step that makes no event

abbrev IsOwn : Memory → List InHand → Link → Type 0
IsOwn m xs d = (is_free m d ≡ true) ⊎ ((x : InHand) × Member x xs × (x.link ≡ d))

-- of the words, and of the hand, before and after a step
record KeepsOwn (m m' : Memory) (xs xs' : List InHand) : Type 0 where
  keeps : (d : Link) → IsOwn m xs d → IsOwn m' xs' d

-- neither the words of free numbers nor the hand changed
all_stay : (m m' : Memory) (xs xs' : List InHand) → m'.free_word ≡ m.free_word → xs' ≡ xs → KeepsOwn m m' xs xs'
all_stay m m' xs xs' words hand = record {
  keeps = λ d. ⊎_elim
      (λ (free : is_free m d ≡ true). inl (ap (λ (n : Pool → ℕ → ℕ). bit_of (n (pool_of d) (free_index d)) (free_bit d) == 1) words ∙ free))
      (λ (o : (x : InHand) × Member x xs × (x.link ≡ d)). inr (o.0, subst (Member o.0) (sym hand) o.1, o.2));
}

same_stay : (m m' : Memory) (xs xs' : List InHand) → m' ≡ m → xs' ≡ xs → KeepsOwn m m' xs xs'
same_stay m m' xs xs' same = all_stay m m' xs xs' (ap (λ (k : Memory). k.free_word) same)

-- no word of free numbers changed, and no number left the hand
hand_grows : (m m' : Memory) (xs xs' : List InHand) → ((d : Link) → is_free m' d ≡ is_free m d) → ((x : InHand) → Member x xs → (y : InHand) × Member y xs' × (y.link ≡ x.link)) → KeepsOwn m m' xs xs'
hand_grows m m' xs xs' words hand = record {
  keeps = λ d. ⊎_elim
      (λ (free : is_free m d ≡ true). inl (words d ∙ free))
      (λ (o : (x : InHand) × Member x xs × (x.link ≡ d)). let k = hand o.0 o.1 in inr (k.0, k.1, k.2 ∙ o.2));
}

-- a number came from the words into the hand
comes : (m m' : Memory) (d : Link) (ws : List ℕ) (xs : List InHand) → SetsFree m d false m' → KeepsOwn m m' xs (record { link = d; words = ws } ∷ xs)
comes m m' d ws xs sets = record {
  keeps = λ e own. ⊎_elim
      (λ (same : e ≡ d). inr (_, inl refl, sym same))
      (λ (other : e ≢ d). ⊎_elim
      (λ (free : is_free m e ≡ true). inl (sets.there e other ∙ free))
      (λ (o : (x : InHand) × Member x xs × (x.link ≡ e)). inr (o.0, inr o.1, o.2))
      own)
      (same_link e d);
}

-- a number came to the words, and no other left the hand
goes : (m m' : Memory) (d : Link) (xs xs' : List InHand) → SetsFree m d true m' → ((x : InHand) → Member x xs → x.link ≢ d → Member x xs') → KeepsOwn m m' xs xs'
goes m m' d xs xs' sets stays = record {
  keeps = λ e own. ⊎_elim
      (λ (same : e ≡ d). inl (ap (is_free m') same ∙ sets.here))
      (λ (other : e ≢ d). ⊎_elim
      (λ (free : is_free m e ≡ true). inl (sets.there e other ∙ free))
      (λ (o : (x : InHand) × Member x xs × (x.link ≡ e)). inr (o.0, stays o.0 o.1 (λ same. other (sym o.2 ∙ same)), o.2))
      own)
      (same_link e d);
}

-- a word of free numbers was found, and stays
word_stays : (m m' : Memory) (pool : Pool) (i : ℕ) → SetsFreeWord m pool i (m.free_word pool i) m' → (q : Pool) (j : ℕ) → m'.free_word q j ≡ m.free_word q j
word_stays m m' pool i sets q j = ⊎_elim
    (λ (rank : pool_rank q ≡ pool_rank pool). ⊎_elim
    (λ (index : j ≡ i).
    let one : q ≡ pool = same_pool q pool rank in
    ap₂ m'.free_word one index ∙ (sets.here ∙ ap₂ m.free_word (sym one) (sym index)))
    (λ (apart : j ≢ i). sets.there q j (λ same index. apart index))
    (cases_eq j i))
    (λ (apart : pool_rank q ≢ pool_rank pool). sets.there q j (λ same index. apart (ap pool_rank same)))
    (cases_eq (pool_rank q) (pool_rank pool))

noted : (m m' : Memory) (pool : Pool) (i : ℕ) (xs : List InHand) → SetsFreeWord m pool i (m.free_word pool i) m' → KeepsOwn m m' xs xs
noted m m' pool i xs sets = hand_grows m m' xs xs
    (λ d. ap (λ (n : ℕ). bit_of n (free_bit d) == 1) (word_stays m m' pool i sets (pool_of d) (free_index d)))
    (λ x i. (x, i, refl))

-- or lost the bit of the number that was taken
module _ (v : View) (m m' : Memory) (pool : Pool) (i : ℕ) (ws : List ℕ) where
  abbrev word : ℕ
  word = m.free_word pool i

  abbrev taken_view : ℕ → View
  taken_view k = record (take_free.view_noted v pool i word) { hand = record { link = number_at pool i k; words = ws } ∷ v.hand }

  abbrev missed_view : ℕ → View
  missed_view k = record (take_free.view_noted v pool i word) { failures = v.failures + bit_of (last_found pool i v.found) k }

  by_test : (k : ℕ) → k < 64 → (b : Bool) → (bit_of word k == 1) ≡ b → SetsFreeWord m pool i (if b then word - 2 ^ k else word) m'
      → KeepsOwn m m' v.hand (if b then taken_view k else missed_view k).hand
  by_test k low true bit sets = comes m m' (number_at pool i k) ws v.hand (takes_bit m m' pool i k low bit sets)
  by_test k low false bit sets = noted m m' pool i v.hand sets

  taken_keeps : (bit : Option ℕ) → IfSome bit (λ k. k < 64) → SetsFreeWord m pool i (take_free.without_bit bit word) m' → KeepsOwn m m' v.hand (take_free.view_after v pool i bit word ws).hand
  taken_keeps None low sets = noted m m' pool i v.hand sets
  taken_keeps (Some k) low sets = by_test k low (bit_of word k == 1) refl sets

begun_hand : (z : Sizes) (v : View) (c : Cell) (x : ℕ) → (begin.view_after z v c x).hand ≡ v.hand
begun_hand z v c x = cond_both (x % 4 == 0) _ _ (λ (w : View). w.hand ≡ v.hand) (λ e. refl) (λ e. refl)

event_hand : (u : View) (log : List Event) (o : Option Deed) → (check.with_event u log o).hand ≡ u.hand
event_hand u log None = refl
event_hand u log (Some what) = refl

pinned_hand : (v : View) (x : ℕ) → (pin.view_after v x).hand ≡ v.hand
pinned_hand v x = cond_both (x == 0) _ _ (λ (w : View). w.hand ≡ v.hand) (λ e. refl) (λ e. refl)

module _ (z : Sizes) (p : ℕ) (v : View) (m : Memory) (f : Views) (m' : Memory) (g : Views) (at : f p ≡ Some v) (r : IsSound z m f) where
  -- a leaf that is written stays in hand
  written_stays : (k : write.LeafStep z p v m f m' g) (x : InHand) → Member x v.hand → (y : InHand) × Member y k.hand × (y.link ≡ x.link)
  written_stays k x i = ⊎_elim
      (λ (same : x.link ≡ k.leaf.link). (write.with_leaf_word k.leaf k.place k.value, k.puts.has, sym same))
      (λ (other : x.link ≢ k.leaf.link). (x, k.puts.stays x i (λ e. other (ap (λ (y : InHand). y.link) e)), refl))
      (same_link x.link k.leaf.link)

  given_keeps : (k : give.Step z p v m f m' g) → KeepsOwn m m' v.hand k.hand
  given_keeps k =
      let mine = r.numbers.accounts p v at in
      let was : r.at k.link ≡ InHandOf p = ap r.at (sym k.may.hand.2) ∙ mine.hand k.may.hand.0 k.may.hand.1 in
      goes m m' k.link v.hand k.hand (frees_number m f m' g k.link (not_free z m f r k.link (InHandOf p) was (λ e. cc)) k.sets)
      (λ x i other. k.rest.stays x i (⊎_elim (λ (same : x.link ≡ k.link). other same) (λ none. none)))

  freed_keeps : (k : give.FreeStep z p v m f m' g) → KeepsOwn m m' v.hand v.hand
  freed_keeps k =
      let mine = r.numbers.accounts p v at in
      let was : r.at k.link ≡ InLimboOf p = ap r.at (sym k.may.link) ∙ mine.limbo k.may.place k.may.limbo in
      goes m m' k.link v.hand v.hand (frees_number m f m' g k.link (not_free z m f r k.link (InLimboOf p) was (λ e. cc)) k.sets) (λ x i other. i)

  module _ (w : View) (is : g p ≡ Some w) (own : w.own ≡ v.own) where
    set_keeps : (u : View) → SetsView f p u g → KeepsOwn m m' v.hand u.hand → KeepsOwn m m' v.hand w.hand
    set_keeps u t = subst (λ (x : View). KeepsOwn m m' v.hand x.hand) (same_Some u w (sym t.here ∙ is))

    no_event : (u : View) → SetsView f p u g → u.own ≡ v.own
    no_event u t = subst (λ (x : View). x.own ≡ v.own) (same_Some w u (sym is ∙ t.here)) own

    kind_keeps : OfAKind z p v m f m' g r.log r.logical → KeepsOwn m m' v.hand w.hand
    kind_keeps (IsBegin k) = set_keeps _ k.view (same_stay m m' _ _ k.words (begun_hand z v k.cell (m.version k.cell)))
    kind_keeps (IsRead k) = set_keeps _ k.view (same_stay m m' _ _ k.words refl)
    kind_keeps (IsReadLeaf k) = set_keeps _ k.view (same_stay m m' _ _ k.words refl)
    kind_keeps (IsUnchanged k) = set_keeps _ k.view (same_stay m m' _ _ k.words (event_hand (check.view_unchanged v k.stamp k.paths) r.log k.event))
    kind_keeps (IsChanged k) = set_keeps _ k.view (same_stay m m' _ _ k.words refl)
    kind_keeps (IsUpgrade k) = set_keeps _ k.view (all_stay m m' _ _ k.locks.sets.free refl)
    kind_keeps (IsClaim k) = set_keeps _ k.view (all_stay m m' _ _ k.locks.free refl)
    kind_keeps (IsCommit k) = absurd (omega (arith, ap length (no_event _ k.view), length-append v.own (length r.log ∷ [])))
    kind_keeps (IsRelease k) = set_keeps _ k.view (all_stay m m' _ _ k.unlocks.free refl)
    kind_keeps (IsWrite k) = set_keeps _ k.view (all_stay m m' _ _ k.word.free refl)
    kind_keeps (IsWriteLeaf k) = set_keeps _ k.view (hand_grows m m' _ _ (λ d. ap (λ (n : Pool → ℕ → ℕ). bit_of (n (pool_of d) (free_index d)) (free_bit d) == 1) k.word.free) (written_stays k))
    kind_keeps (IsTake k) = set_keeps _ k.view (taken_keeps v m m' k.pool k.index k.copy k.bit k.may.low k.sets)
    kind_keeps (IsGive k) = set_keeps _ k.view (given_keeps k)
    kind_keeps (IsFreed k) = set_keeps _ k.view (freed_keeps k)
    kind_keeps (IsEpoch k) = set_keeps _ k.view (same_stay m m' _ _ k.words refl)
    kind_keeps (IsPin k) = set_keeps _ k.view (all_stay m m' _ _ k.sets.free (pinned_hand v k.word))
    kind_keeps (IsAdvance k) = set_keeps _ k.view (all_stay m m' _ _ k.sets.free refl)
    kind_keeps (IsWatch k) = set_keeps _ k.view (same_stay m m' _ _ k.words refl)
    kind_keeps (IsAnchor k) = set_keeps _ k.view (same_stay m m' _ _ k.words refl)

keeps_own : (z : Sizes) (p : ℕ) (v w : View) (m : Memory) (f : Views) (m' : Memory) (f' : Views) → OneStep z p m f m' f' → f p ≡ Some v → f' p ≡ Some w → w.own ≡ v.own → KeepsOwn m m' v.hand w.hand
keeps_own z p v w m f m' f' t at is = subst (λ (u : View). w.own ≡ u.own → KeepsOwn m m' u.hand w.hand) (same_Some t.view v (sym t.before ∙ at))
    (λ own. kind_keeps z p t.view m f m' f' t.before t.sound w is own t.kind)

-- ---- by bits

-- a bit of a word of free numbers is set, or its number is in hand
abbrev IsSet : Memory → List InHand → Pool → ℕ → ℕ → Type 0
IsSet m xs pool i k = (bit_of (m.free_word pool i) k ≡ 1) ⊎ ((x : InHand) × Member x xs × (x.link ≡ number_at pool i k))

-- the bit of a free number is set
free_is_set : (m : Memory) (pool : Pool) (i k : ℕ) → k < 64 → is_free m (number_at pool i k) ≡ true → bit_of (m.free_word pool i) k ≡ 1
free_is_set m pool i k low free = eqb-true _ 1 (sym (free_by_bit m pool i k low) ∙ free)

keeps_set : (m m' : Memory) (xs xs' : List InHand) (pool : Pool) (i k : ℕ) → k < 64 → KeepsOwn m m' xs xs' → IsSet m xs pool i k → IsSet m' xs' pool i k
keeps_set m m' xs xs' pool i k low o set =
    let own : IsOwn m xs (number_at pool i k) = ⊎_elim
    (λ (bit : bit_of (m.free_word pool i) k ≡ 1). inl (set_is_free m pool i k low (eq-eqb _ 1 bit)))
    (λ (h : (x : InHand) × Member x xs × (x.link ≡ number_at pool i k)). inr h)
    set in
    ⊎_elim
    (λ (free : is_free m' (number_at pool i k) ≡ true). inl (free_is_set m' pool i k low free))
    (λ (h : (x : InHand) × Member x xs' × (x.link ≡ number_at pool i k)). inr h)
    (o.keeps (number_at pool i k) own)

-- where the bit of n is set, it is set in the word now, or in l
abbrev SaysBit : Memory → Pool → ℕ → ℕ → ℕ → ℕ → Type 0
SaysBit m pool i l k n = bit_of n k ≡ 1 → (bit_of (m.free_word pool i) k ≡ 1) ⊎ (bit_of l k ≡ 1)

-- a bit that is set in the word as it was last found is set in the word now, or in the word as it was found before
last_bit : (m : Memory) (pool : Pool) (i : ℕ) (x : Word) (l k : ℕ) → IsWord m x → bit_of (if_word pool i x l) k ≡ 1 → (bit_of (m.free_word pool i) k ≡ 1) ⊎ (bit_of l k ≡ 1)
last_bit m pool i (Version c x) l k so bit = inr bit
last_bit m pool i (Pass q x) l k so bit = inr bit
last_bit m pool i (Free q j x) l k so bit = cond_both (pool_rank q == pool_rank pool) (if j == i then x else l) l (λ (n : ℕ). SaysBit m pool i l k n)
    (λ rank. cond_both (j == i) x l (λ (n : ℕ). SaysBit m pool i l k n)
    (λ index here. inl (ap (λ (n : ℕ). bit_of n k) (sym (ap₂ m.free_word (same_pool q pool (eqb-true _ _ rank)) (eqb-true j i index)) ∙ so) ∙ here))
    (λ apart before. inr before))
    (λ apart before. inr before)
    bit

-- ---- what was found still tells what the words are

module _ (z : Sizes) (p : ℕ) (u v w : View) (m : Memory) (f : Views) (m' : Memory) (f' : Views) (t : OneStep z p m f m' f')
    (views : (q : ℕ) → q < z.passes → (x : View) × (f q ≡ Some x)) (alone : IsAlone p f) (at : f p ≡ Some v) (is : f' p ≡ Some w) (h : HasFound m u v) where
  events_on : length u.own ≤ length w.own
  events_on = let low = h.events in ⊎_elim
      (λ (same : w.own ≡ v.own). omega (arith, ap length same))
      (λ (more : length w.own ≡ length v.own + 1). omega arith)
      (own_grows z p v w m f m' f' t at is)

  -- no event since then is none at this step
  none_since : w.own ≡ u.own → (w.own ≡ v.own) × (v.own ≡ u.own)
  none_since none = let low = h.events in ⊎_elim
      (λ (same : w.own ≡ v.own). (same, sym same ∙ none))
      (λ (more : length w.own ≡ length v.own + 1). absurd (omega (arith, ap length none)))
      (own_grows z p v w m f m' f' t at is)

  set_on : w.own ≡ u.own → (pool : Pool) (i k : ℕ) → k < 64 → IsSet m v.hand pool i k → IsSet m' w.hand pool i k
  set_on none pool i k low = keeps_set m m' v.hand w.hand pool i k low (keeps_own z p v w m f m' f' t at is (none_since none).0)

  -- the word of another pass is 0
  idle_word : (x : Word) (q n : ℕ) → x ≡ Pass q n → IsWord m x → IsOthers z p x → n ≡ 0
  idle_word x q n e so others =
      let other : (q < z.passes) × (q ≢ p) = subst (IsOthers z p) e others in
      let word : m.pass_word q ≡ n = subst (IsWord m) e so in
      let o = views q other.0 in
      sym word ∙ pass_idle z p m f t.sound alone q o.0 other.1 o.1

  one_more : (y : Found) → w.found ≡ y ∷ v.found → IsOthers z p y.word → HasFound m' u w
  one_more y found others =
      let so : IsWord m y.word = found_is z p v w m f m' f' t at is y found in
      record {
        news = y ∷ h.news;
        is = found ∙ ap (λ (ys : List Found). y ∷ ys) h.is;
        events = events_on;
        idle = λ x q n i e. ⊎_elim
            (λ (same : x ≡ y). idle_word y.word q n (sym (ap (λ (k : Found). k.word) same) ∙ e) so others)
            (λ (j : Member x h.news). h.idle x q n j e)
            i;
        free = λ none pool i k low bit. set_on none pool i k low (⊎_elim
            (λ (now : bit_of (m.free_word pool i) k ≡ 1). inl now)
            (λ (before : bit_of (last_found pool i h.news) k ≡ 1). h.free (none_since none).1 pool i k low before)
            (last_bit m pool i y.word (last_found pool i h.news) k so bit));
      }

  no_more : w.found ≡ v.found → HasFound m' u w
  no_more same = record {
    news = h.news;
    is = same ∙ h.is;
    events = events_on;
    idle = h.idle;
    free = λ none pool i k low bit. set_on none pool i k low (h.free (none_since none).1 pool i k low bit);
  }

-- a step of the pass that is alone
pub finds_on : (z : Sizes) (p : ℕ) (u v w : View) (m : Memory) (f : Views) (m' : Memory) (f' : Views) → OneStep z p m f m' f' → ((q : ℕ) → q < z.passes → (x : View) × (f q ≡ Some x)) → IsAlone p f → f p ≡ Some v → f' p ≡ Some w → HasFound m u v → HasFound m' u w
finds_on z p u v w m f m' f' t views alone at is h = ⊎_elim
    (λ (same : w.found ≡ v.found). no_more z p u v w m f m' f' t views alone at is h same)
    (λ (o : (y : Found) × (w.found ≡ y ∷ v.found) × IsOthers z p y.word). one_more z p u v w m f m' f' t views alone at is h o.0 o.1 o.2)
    (finds_others z p v w m f m' f' t at is).finds

-- no step
pub finds_start : (m : Memory) (u : View) → HasFound m u u
finds_start m u = record {
  news = [];
  is = refl;
  events = omega arith;
  idle = λ y q x i e. absurd i;
  free = λ none pool i k low bit. absurd (omega (arith, bit));
}

-- ---- a word that was found since then was last found since then

-- the word as it was just found
if_same : (pool : Pool) (i x l : ℕ) → if_word pool i (Free pool i x) l ≡ x
if_same pool i x l = rw (eq-eqb (pool_rank pool) (pool_rank pool) refl, eq-eqb i i refl)

last_of_news : (pool : Pool) (i x t : ℕ) (news old : List Found) → Member (record { word = Free pool i x; step = t }) news → last_found pool i news ≡ last_found pool i (news ++ old)
last_of_news pool i x t [] old at = absurd at
last_of_news pool i x t (y ∷ news) old at = ⊎_elim
    (λ (same : record { word = Free pool i x; step = t } ≡ y).
    let word : Free pool i x ≡ y.word = ap (λ (k : Found). k.word) same in
    let is : (l : ℕ) → if_word pool i y.word l ≡ x = λ l. ap (λ (k : Word). if_word pool i k l) (sym word) ∙ if_same pool i x l in
    is (last_found pool i news) ∙ sym (is (last_found pool i (news ++ old))))
    (λ (later : Member (record { word = Free pool i x; step = t }) news). ap (if_word pool i y.word) (last_of_news pool i x t news old later))
    at

pub found_since : (m : Memory) (u v : View) (pool : Pool) (i x t : ℕ) (h : HasFound m u v) → ((y : Found) → Member y u.found → y.step ≤ u.steps) → u.steps < t → Member (record { word = Free pool i x; step = t }) v.found → last_found pool i h.news ≡ last_found pool i v.found
found_since m u v pool i x t h before late at = ⊎_elim
    (λ (new : Member (record { word = Free pool i x; step = t }) h.news). last_of_news pool i x t h.news u.found new ∙ sym (ap (last_found pool i) h.is))
    (λ (old : Member (record { word = Free pool i x; step = t }) u.found). let low = before _ old in absurd (omega (arith, low)))
    (member_append _ h.news u.found (subst (Member (record { word = Free pool i x; step = t })) h.is at))
