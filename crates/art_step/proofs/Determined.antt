-- What is hidden of a world is determined by what is seen: the history, which only grows, and the logical words. A step keeps its
-- pass, and counts.
use Rattle.std.proofs.Common.{◌≡◌, ◌≢◌, ◌⊎◌, ℕ, suc, ◌+◌, ◌%◌, ◌<◌, ◌≤◌, ◌==◌, List, [], ◌∷◌, ◌++◌, length, inl, inr, ⊎_elim, sym, refl, ap, ◌∙◌, subst, arith, append-nil, append_assoc, eq-eqb, length-append}
use Rattle.std.proofs.lemmas.Bool.{cases_eq, cond_both}
use Rattle.std.proofs.lemmas.Option.{same_Some}
use Rattle.std.specs.Prelude.{Option, Some, None}
use Rattle.art_cell.specs.declared.cells.Cell.{Cell}
use Rattle.art_cell.specs.declared.cells.Pool.{Pool}
use Rattle.art_step.specs.declared.views.Event.{Event}
use Rattle.art_step.specs.declared.views.Sizes.{Sizes}
use Rattle.art_step.specs.declared.views.View.{View}
use Rattle.art_step.specs.declared.deeds.Deed.{Deed}
use Rattle.art_tree.specs.Heaps.{Cells}
use Rattle.art_step.specs.Histories.{StartsWith, event, places, places_from}
use Rattle.art_step.specs.Sound.{IsOneHistory, IsSound}
use Rattle.art_step.specs.Steps.{OfAKind, OneStep, IsBegin, IsRead, IsReadLeaf, IsUnchanged, IsChanged, IsUpgrade, IsClaim, IsCommit, IsRelease, IsWrite, IsWriteLeaf, IsTake, IsGive, IsFreed, IsEpoch, IsPin, IsAdvance, IsWatch, IsAnchor}
use Rattle.art_step.specs.Steps.Begin as begin
use Rattle.art_step.specs.Steps.Check as check
use Rattle.art_step.specs.Steps.Pin as pin
use Rattle.art_step.specs.Steps.Take as take_free
use Rattle.art_step.specs.Determined.{CountLaw, HistoryGrows, HistoryLaw, LogicalLaw, PassLaw}
use Rattle.art_step.specs.Views.{Member, Memory, Views, SetsView, bit_of}

begun_seen : (z : Sizes) (v : View) (c : Cell) (x : ℕ) → (begin.view_after z v c x).seen ≡ v.seen
begun_seen z v c x = cond_both (x % 4 == 0) _ _ (λ (w : View). w.seen ≡ v.seen) (λ e. refl) (λ e. refl)

taken_seen : (v : View) (pool : Pool) (i : ℕ) (bit : Option ℕ) (x : ℕ) (ws : List ℕ) → (take_free.view_after v pool i bit x ws).seen ≡ v.seen
taken_seen v pool i None x ws = refl
taken_seen v pool i (Some k) x ws = cond_both (bit_of x k == 1) _ _ (λ (w : View). w.seen ≡ v.seen) (λ e. refl) (λ e. refl)

pinned_seen : (v : View) (x : ℕ) → (pin.view_after v x).seen ≡ v.seen
pinned_seen v x = cond_both (x == 0) _ _ (λ (w : View). w.seen ≡ v.seen) (λ e. refl) (λ e. refl)

with_more : (log seen : List Event) (e : Event) → StartsWith log seen → StartsWith (log ++ e ∷ []) seen
with_more log seen e starts = (starts.0 ++ e ∷ [], ap (λ (l : List Event). l ++ e ∷ []) starts.1 ∙ append_assoc seen starts.0 (e ∷ []))

telling_seen : (u : View) (log seen : List Event) (o : Option Deed) → StartsWith log seen → StartsWith u.seen seen → StartsWith (check.with_event u log o).seen seen
telling_seen u log seen None starts same = same
telling_seen u log seen (Some what) starts same = with_more log seen (event u.pass what) starts

module _ (z : Sizes) (p : ℕ) (v : View) (m : Memory) (f : Views) (n : Memory) (g : Views) (at : f p ≡ Some v) (r : IsSound z m f) (w : View) (is : g p ≡ Some w) where
  starts : StartsWith r.log v.seen
  starts = (r.history.tells p v at).starts

  stays : (u : View) → SetsView f p u g → u.seen ≡ v.seen → StartsWith w.seen v.seen
  stays u t same = ([], ap (λ (x : View). x.seen) (same_Some w u (sym is ∙ t.here)) ∙ (same ∙ sym (append-nil v.seen)))

  becomes : (u : View) → SetsView f p u g → StartsWith u.seen v.seen → StartsWith w.seen v.seen
  becomes u t s = subst (λ (x : View). StartsWith x.seen v.seen) (same_Some u w (sym t.here ∙ is)) s

  pub kind_grows : OfAKind z p v m f n g r.log r.logical → StartsWith w.seen v.seen
  kind_grows (IsBegin k) = stays _ k.view (begun_seen z v k.cell (m.version k.cell))
  kind_grows (IsRead k) = stays _ k.view refl
  kind_grows (IsReadLeaf k) = stays _ k.view refl
  kind_grows (IsUnchanged k) = becomes _ k.view (telling_seen _ r.log v.seen k.event starts ([], sym (append-nil v.seen)))
  kind_grows (IsChanged k) = stays _ k.view refl
  kind_grows (IsUpgrade k) = stays _ k.view refl
  kind_grows (IsClaim k) = stays _ k.view refl
  kind_grows (IsCommit k) = becomes _ k.view (with_more r.log v.seen (event v.pass k.what) starts)
  kind_grows (IsRelease k) = stays _ k.view refl
  kind_grows (IsWrite k) = stays _ k.view refl
  kind_grows (IsWriteLeaf k) = stays _ k.view refl
  kind_grows (IsTake k) = stays _ k.view (taken_seen v k.pool k.index k.bit (m.free_word k.pool k.index) k.copy)
  kind_grows (IsGive k) = stays _ k.view refl
  kind_grows (IsFreed k) = stays _ k.view refl
  kind_grows (IsEpoch k) = stays _ k.view refl
  kind_grows (IsPin k) = stays _ k.view (pinned_seen v k.word)
  kind_grows (IsAdvance k) = stays _ k.view refl
  kind_grows (IsWatch k) = stays _ k.view refl
  kind_grows (IsAnchor k) = becomes _ k.view starts

-- of any step of the pass p, whose view goes from v to w
pub seen_grows : (z : Sizes) (p : ℕ) (v w : View) (m : Memory) (f : Views) (n : Memory) (g : Views) → OneStep z p m f n g → f p ≡ Some v → g p ≡ Some w → StartsWith w.seen v.seen
seen_grows z p v w m f n g t at is =
    let same : t.view ≡ v = same_Some t.view v (sym t.before ∙ at) in
    subst (λ (x : View). StartsWith w.seen x.seen) same (kind_grows z p t.view m f n g t.before t.sound w is t.kind)

-- ---- which view a step sets

module _ (z : Sizes) (p : ℕ) (v : View) (m : Memory) (f : Views) (m' : Memory) (g : Views) (log : List Event) (s : Cells) where
  kind_view : OfAKind z p v m f m' g log s → (w : View) × SetsView f p w g
  kind_view (IsBegin k) = (_, k.view)
  kind_view (IsRead k) = (_, k.view)
  kind_view (IsReadLeaf k) = (_, k.view)
  kind_view (IsUnchanged k) = (_, k.view)
  kind_view (IsChanged k) = (_, k.view)
  kind_view (IsUpgrade k) = (_, k.view)
  kind_view (IsClaim k) = (_, k.view)
  kind_view (IsCommit k) = (_, k.view)
  kind_view (IsRelease k) = (_, k.view)
  kind_view (IsWrite k) = (_, k.view)
  kind_view (IsWriteLeaf k) = (_, k.view)
  kind_view (IsTake k) = (_, k.view)
  kind_view (IsGive k) = (_, k.view)
  kind_view (IsFreed k) = (_, k.view)
  kind_view (IsEpoch k) = (_, k.view)
  kind_view (IsPin k) = (_, k.view)
  kind_view (IsAdvance k) = (_, k.view)
  kind_view (IsWatch k) = (_, k.view)
  kind_view (IsAnchor k) = (_, k.view)

pub step_view : (z : Sizes) (p : ℕ) (m : Memory) (f : Views) (m' : Memory) (g : Views) → OneStep z p m f m' g → (w : View) × SetsView f p w g
step_view z p m f m' g t = kind_view z p t.view m f m' g t.sound.log t.sound.logical t.kind

-- ---- a step keeps its pass, and counts

-- the views of one pass before and after a step
abbrev Counted : View → View → Type 0
Counted v w = (w.pass ≡ v.pass) × (w.steps ≡ v.steps + 1)

begun_counts : (z : Sizes) (v : View) (c : Cell) (x : ℕ) → Counted v (begin.view_after z v c x)
begun_counts z v c x = cond_both (x % 4 == 0) _ _ (Counted v) (λ e. (refl, refl)) (λ e. (refl, refl))

event_counts : (u : View) (log : List Event) (o : Option Deed) → ((check.with_event u log o).pass ≡ u.pass) × ((check.with_event u log o).steps ≡ u.steps)
event_counts u log None = (refl, refl)
event_counts u log (Some what) = (refl, refl)

taken_counts : (v : View) (pool : Pool) (i : ℕ) (bit : Option ℕ) (x : ℕ) (ws : List ℕ) → Counted v (take_free.view_after v pool i bit x ws)
taken_counts v pool i None x ws = (refl, refl)
taken_counts v pool i (Some k) x ws = cond_both (bit_of x k == 1) _ _ (Counted v) (λ e. (refl, refl)) (λ e. (refl, refl))

pinned_counts : (v : View) (x : ℕ) → Counted v (pin.view_after v x)
pinned_counts v x = cond_both (x == 0) _ _ (Counted v) (λ e. (refl, refl)) (λ e. (refl, refl))

module _ (z : Sizes) (p : ℕ) (v : View) (m : Memory) (f : Views) (m' : Memory) (g : Views) (r : IsSound z m f) (w : View) (is : g p ≡ Some w) where
  keeps : (u : View) → SetsView f p u g → Counted v u → Counted v w
  keeps u t same = subst (Counted v) (same_Some u w (sym t.here ∙ is)) same

  kind_counts : OfAKind z p v m f m' g r.log r.logical → Counted v w
  kind_counts (IsBegin k) = keeps _ k.view (begun_counts z v k.cell (m.version k.cell))
  kind_counts (IsRead k) = keeps _ k.view (refl, refl)
  kind_counts (IsReadLeaf k) = keeps _ k.view (refl, refl)
  kind_counts (IsUnchanged k) = keeps _ k.view (event_counts _ r.log k.event)
  kind_counts (IsChanged k) = keeps _ k.view (refl, refl)
  kind_counts (IsUpgrade k) = keeps _ k.view (refl, refl)
  kind_counts (IsClaim k) = keeps _ k.view (refl, refl)
  kind_counts (IsCommit k) = keeps _ k.view (refl, refl)
  kind_counts (IsRelease k) = keeps _ k.view (refl, refl)
  kind_counts (IsWrite k) = keeps _ k.view (refl, refl)
  kind_counts (IsWriteLeaf k) = keeps _ k.view (refl, refl)
  kind_counts (IsTake k) = keeps _ k.view (taken_counts v k.pool k.index k.bit (m.free_word k.pool k.index) k.copy)
  kind_counts (IsGive k) = keeps _ k.view (refl, refl)
  kind_counts (IsFreed k) = keeps _ k.view (refl, refl)
  kind_counts (IsEpoch k) = keeps _ k.view (refl, refl)
  kind_counts (IsPin k) = keeps _ k.view (pinned_counts v k.word)
  kind_counts (IsAdvance k) = keeps _ k.view (refl, refl)
  kind_counts (IsWatch k) = keeps _ k.view (refl, refl)
  kind_counts (IsAnchor k) = keeps _ k.view (refl, refl)

step_counts : (z : Sizes) (p : ℕ) (v w : View) (m : Memory) (f : Views) (m' : Memory) (g : Views) → OneStep z p m f m' g → f p ≡ Some v → g p ≡ Some w → Counted v w
step_counts z p v w m f m' g t at is = subst (λ (u : View). Counted u w) (same_Some t.view v (sym t.before ∙ at)) (kind_counts z p t.view m f m' g t.sound w is t.kind)

pub pass_stays : PassLaw
pass_stays z p v w m f m' g t at is = (step_counts z p v w m f m' g t at is).0

pub steps_count : CountLaw
steps_count z p v w m f m' g t at is = (step_counts z p v w m f m' g t at is).1

-- ---- the history

-- a place of a pass in a history is below its length
place_low : (p k i : ℕ) (log : List Event) → Member i (places_from p k log) → (k ≤ i) × (i < k + length log)
place_low p k i [] at = absurd at
place_low p k i (e ∷ log) at = cond_both (e.pass == p) _ _ (λ (ps : List ℕ). Member i ps → (k ≤ i) × (i < k + length (e ∷ log)))
    (λ _ at. ⊎_elim (λ (is : i ≡ k). (omega arith, omega arith)) (λ (later : Member i (places_from p (k + 1) log)). let low = place_low p (k + 1) i log later in (omega (arith, low), omega (arith, low))) at)
    (λ _ at. let low = place_low p (k + 1) i log at in (omega (arith, low), omega (arith, low))) at

-- the last event of a history stands at its end
last_place : (k : ℕ) (log : List Event) (e : Event) → Member (k + length log) (places_from e.pass k (log ++ e ∷ []))
last_place k [] e = rw (eq-eqb e.pass e.pass refl) (inl (omega arith))
last_place k (a ∷ log) e =
    let later = subst (λ (i : ℕ). Member i (places_from e.pass (k + 1) (log ++ e ∷ []))) (let same : (k + 1) + length log ≡ k + suc (length log) = omega arith in same) (last_place (k + 1) log e) in
    cond_both (a.pass == e.pass) _ _ (Member (k + suc (length log))) (λ _. inr later) (λ _. later)

last_at : (front : List Event) (e : Event) → Member (length front) (places e.pass (front ++ e ∷ []))
last_at front e = subst (λ (i : ℕ). Member i (places e.pass (front ++ e ∷ []))) (let same : 0 + length front ≡ length front = omega arith in same) (last_place 0 front e)

-- a history is empty, or has a last event
ends : (log : List Event) → (log ≡ []) ⊎ ((front : List Event) × (e : Event) × (log ≡ front ++ e ∷ []))
ends [] = inl refl
ends (a ∷ log) = inr (⊎_elim
    (λ (none : log ≡ []). ([], a, ap (λ (l : List Event). a ∷ l) none))
    (λ (k : (front : List Event) × (e : Event) × (log ≡ front ++ e ∷ [])). (a ∷ k.0, k.1, ap (λ (l : List Event). a ∷ l) k.2))
    (ends log))

module _ (f : Views) where
  -- a history is empty, or it is what some pass has seen
  abbrev pub IsWhole : List Event → Type 0
  IsWhole log = (log ≡ []) ⊎ ((q : ℕ) × (u : View) × (f q ≡ Some u) × (u.seen ≡ log))

  no_more : (xs ys rest : List Event) → xs ≡ ys ++ rest → length xs ≤ length ys → xs ≡ ys
  no_more xs ys [] e low = e ∙ append-nil ys
  no_more xs ys (a ∷ rest) e low = absurd (omega (arith, ap length e, length-append ys (a ∷ rest)))

  whole_by : (log front : List Event) (e : Event) → IsOneHistory log f → log ≡ front ++ e ∷ [] → (o : Option View) → f e.pass ≡ o → IsWhole log
  whole_by log front e h is None none =
      let at : Member (length front) (places e.pass log) = subst (λ (l : List Event). Member (length front) (places e.pass l)) (sym is) (last_at front e) in
      absurd (subst (Member (length front)) (h.strangers e.pass none) at)
  whole_by log front e h is (Some u) some =
      let mine = h.tells e.pass u some in
      let at : Member (length front) (places e.pass log) = subst (λ (l : List Event). Member (length front) (places e.pass l)) (sym is) (last_at front e) in
      let seen : Member (length front) (places e.pass u.seen) = subst (Member (length front)) (mine.own ∙ sym mine.all) at in
      let low = (place_low e.pass 0 (length front) u.seen seen).1 in
      let long = ap length is ∙ length-append front (e ∷ []) in
      inr (e.pass, u, some, sym (no_more log u.seen mine.starts.0 mine.starts.1 (omega (arith, low, long))))

  pub whole : (log : List Event) → IsOneHistory log f → IsWhole log
  whole log h = ⊎_elim (λ (none : log ≡ []). inl none)
      (λ (k : (front : List Event) × (e : Event) × (log ≡ front ++ e ∷ [])). whole_by log k.0 k.1 h k.2 (f k.1.pass) refl)
      (ends log)

  none_before : (xs ys : List Event) → [] ≡ xs ++ ys → xs ≡ []
  none_before [] ys e = refl
  none_before (a ∷ xs) ys e = absurd (cc)

  -- what each pass has seen begins both
  begins_with : (log other : List Event) → IsOneHistory log f → IsOneHistory other f → IsWhole other → StartsWith log other
  begins_with log other h k w = ⊎_elim
      (λ (none : other ≡ []). (log, ap (λ (l : List Event). l ++ log) (sym none)))
      (λ (o : (q : ℕ) × (u : View) × (f q ≡ Some u) × (u.seen ≡ other)). subst (StartsWith log) o.3 ((h.tells o.0 o.1 o.2).starts))
      w

  pub one_history : (log other : List Event) → IsOneHistory log f → IsOneHistory other f → log ≡ other
  one_history log other h k =
      let a = begins_with log other h k (whole other k) in
      let b = begins_with other log k h (whole log h) in
      no_more log other a.0 a.1 (omega (arith, ap length b.1, length-append log b.0))

-- ---- it only grows

pub history_grows : HistoryGrows
history_grows z p m f m' f' t r r' = ⊎_elim
    (λ (none : r.log ≡ []). (r'.log, ap (λ (l : List Event). l ++ r'.log) (sym none)))
    (λ (o : (q : ℕ) × (u : View) × (f q ≡ Some u) × (u.seen ≡ r.log)). subst (StartsWith r'.log) o.3 (seen_still o.0 o.1 o.2 (step_view z p m f m' f' t)))
    (whole f r.log r.history)
  where
    seen_still : (q : ℕ) (u : View) → f q ≡ Some u → (w : View) × SetsView f p w f' → StartsWith r'.log u.seen
    seen_still q u at k = ⊎_elim
        (λ (e : q ≡ p).
        let mine : f p ≡ Some u = ap f (sym e) ∙ at in
        let more = seen_grows z p u k.0 m f m' f' t mine k.1.here in
        let starts = (r'.history.tells p k.0 k.1.here).starts in
        (more.0 ++ starts.0, starts.1 ∙ (ap (λ (l : List Event). l ++ starts.0) more.1 ∙ append_assoc u.seen more.0 starts.0)))
        (λ (other : q ≢ p). (r'.history.tells q u (k.1.there q other ∙ at)).starts)
        (cases_eq q p)

-- ---- the logical words

pub one_logical : LogicalLaw
one_logical m f s s' o k c = ⊎_elim
    (λ (locked : m.version c % 4 ≡ 2).
    let h = o.holder c locked in
    let mine = ((o.holds h.pass h.view h.is).keeps h.holding h.holds).logical in
    let other = ((k.holds h.pass h.view h.is).keeps h.holding h.holds).logical in
    ap s (sym h.cell) ∙ (mine ∙ (sym other ∙ ap s' h.cell)))
    (λ (rest : m.version c % 4 ≢ 2). o.at_rest c rest ∙ sym (k.at_rest c rest))
    (cases_eq (m.version c % 4) 2)

pub history_law : HistoryLaw
history_law z m f r r' = one_history f r.log r'.log r.history r'.history
