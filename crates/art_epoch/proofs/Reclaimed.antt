-- Giving back, from step to step.
use Rattle.std.proofs.Common.{◌≡◌, ◌≢◌, ◌⊎◌, ℕ, zero, suc, ◌+◌, ◌-◌, ◌^◌, ◌<◌, ◌≤◌, ◌==◌, Bool, true, false, if◌then◌else◌, nat_lt, List, [], ◌∷◌, ◌++◌, map, length, get_or, inl, inr, ⊎_elim, sym, refl, ap, ap₂, ◌∙◌, subst, arith, ltb-true, ltb-false, append-nil}
use Rattle.std.proofs.lemmas.Bool.{cases_Bool, cases_eq, cases_lt, eq-eqb, ne_eqb, lt-ltb, le-ltb}
use Rattle.std.proofs.lemmas.List.Edits.{length-remove}
use Rattle.std.proofs.lemmas.Option.{same_Some}
use Rattle.std.specs.List.{remove}
use Rattle.std.specs.Prelude.{Option, Some, None}
use Rattle.art_step.proofs.Words.{done_row, is_word, word_row}
use Rattle.art_step.specs.Acting.{Answers, IsWord, word_in}
use Rattle.art_step.specs.declared.actions.Answer.{Answer}
use Rattle.art_epoch.specs.Limbo.{IsLimbo, lets_go, no_place, open_index}
use Rattle.art_epoch.specs.Pins.{view_advanced}
use Rattle.art_epoch.specs.Reclaiming.{HearsWord, Fits, IsBelowAll, IsFreeing, IsLeast, IsRaising, IsStage, IsWatched, IsWatching, Look, MayGo, OnlyReclaims, Reclaims, StageFits, asks_at, freed_at, least_after, lower, others, places_after, skip, stage_after, steps_left, view_watched, watching}
use Rattle.art_step.specs.declared.actions.Action.{Action}
use Rattle.art_step.specs.declared.actions.Action.TheVariants.{Free, ReadEpoch, RaiseEpoch, ReadPin}
use Rattle.art_epoch.specs.declared.limbo.Place.{Place}
use Rattle.art_epoch.specs.declared.limbo.ReclaimStage.{ReclaimStage}
use Rattle.art_epoch.specs.declared.limbo.ReclaimStage.TheVariants.{Noting, Raising, Watching, Freeing}
use Rattle.art_epoch.specs.declared.limbo.Reclaiming.{Reclaiming}
use Rattle.art_step.specs.declared.views.Retired.{Retired}
use Rattle.art_step.specs.declared.views.Sizes.{Sizes}
use Rattle.art_step.specs.declared.views.View.{View}
use Rattle.art_step.specs.Steps.Advance as advance
use Rattle.art_step.specs.Steps.Epoch as epoch
use Rattle.art_step.specs.Steps.Epoch.{label_or, labelled}
use Rattle.art_step.specs.Steps.Give as give
use Rattle.art_step.specs.Steps.Watch as watch
use Rattle.art_step.specs.Steps.Watch.{is_past, watched}
use Rattle.art_step.specs.Views.{Member}
use Rattle.art_step.proofs.Gathered.{key_member}
use Rattle.art_step.proofs.SetsView.{member_append, member_back, member_front}
use Rattle.art_epoch.proofs.Waiting.{at_member, closed_all, limbo_mapped, limbo_without, member_of_rest, open_goes, rest_has}

-- ---- the words of the other passes, one after another

watched_more : (v : View) (ls : List Look) (l : Look) → view_watched v (ls ++ l ∷ []) ≡ watch.view_after (view_watched v ls) l.0 l.1
watched_more v [] l = refl
watched_more v (k ∷ ls) l = watched_more (watch.view_after v k.0 k.1) ls l

-- the pass and its pin stay, and each step counts
watched_pass : (v : View) (ls : List Look) → (view_watched v ls).pass ≡ v.pass
watched_pass v [] = refl
watched_pass v (l ∷ ls) = watched_pass (watch.view_after v l.0 l.1) ls

watched_pin : (v : View) (ls : List Look) → (view_watched v ls).pin ≡ v.pin
watched_pin v [] = refl
watched_pin v (l ∷ ls) = watched_pin (watch.view_after v l.0 l.1) ls

watched_steps : (v : View) (ls : List Look) → (view_watched v ls).steps ≡ v.steps + length ls
watched_steps v [] = omega arith
watched_steps v (l ∷ ls) = let rest = watched_steps (watch.view_after v l.0 l.1) ls in omega (arith, rest)

-- what waits goes on waiting, with its label
watched_limbo : (ps : List Place) (v : View) (ls : List Look) → IsLimbo ps [] v.limbo → IsLimbo ps [] (view_watched v ls).limbo
watched_limbo ps v [] o = o
watched_limbo ps v (l ∷ ls) o = watched_limbo ps (watch.view_after v l.0 l.1) ls (limbo_mapped (watched l.0 l.1) (λ e. refl) (λ e k is. is) ps v.limbo o)

-- a place that a pass has gone past is marked for it
abbrev HasMarks : View → Look → Type 0
HasMarks v l = (e : Retired) → Member e v.limbo → is_past e.label l.1 ≡ true → Member l.0 e.marked

mark_in : (b : Bool) (q r : ℕ) (ms : List ℕ) → Member r ms → Member r (if b then q ∷ ms else ms)
mark_in true q r ms i = inr i
mark_in false q r ms i = i

marks_on : (v : View) (l k : Look) → HasMarks v l → HasMarks (watch.view_after v k.0 k.1) l
marks_on v l k o e i past =
    let d = key_member (watched k.0 k.1) v.limbo e i in
    subst (λ (y : Retired). Member l.0 y.marked) d.2
    (mark_in (is_past d.0.label k.1) k.0 l.0 d.0.marked (o d.0 d.1 (ap (λ (y : Retired). is_past y.label l.1) d.2 ∙ past)))

mark_now : (b : Bool) (q : ℕ) (ms : List ℕ) → b ≡ true → Member q (if b then q ∷ ms else ms)
mark_now true q ms is = inl refl
mark_now false q ms is = absurd (cc)

marks_now : (v : View) (l : Look) → HasMarks (watch.view_after v l.0 l.1) l
marks_now v l e i past =
    let d = key_member (watched l.0 l.1) v.limbo e i in
    subst (λ (y : Retired). Member l.0 y.marked) d.2
    (mark_now (is_past d.0.label l.1) l.0 d.0.marked (ap (λ (y : Retired). is_past y.label l.1) d.2 ∙ past))

marks_after : (v : View) (ls : List Look) (l : Look) → HasMarks v l → HasMarks (view_watched v ls) l
marks_after v [] l o = o
marks_after v (k ∷ ls) l o = marks_after (watch.view_after v k.0 k.1) ls l (marks_on v l k o)

all_marks : (v : View) (ls : List Look) (l : Look) → Member l ls → HasMarks (view_watched v ls) l
all_marks v [] l i = absurd i
all_marks v (k ∷ ls) l i = ⊎_elim
    (λ (e : l ≡ k). marks_after (watch.view_after v k.0 k.1) ls l (subst (λ (a : Look). HasMarks (watch.view_after v k.0 k.1) a) (sym e) (marks_now v k)))
    (λ (j : Member l ls). all_marks (watch.view_after v k.0 k.1) ls l j)
    i

-- ---- the other passes

other_member : (own n q : ℕ) → q < n → q ≢ own → Member q (others own n)
other_member own zero q low apart = absurd (omega arith)
other_member own (suc n) q low apart = ⊎_elim
    (λ (e : q ≡ n). member_back q (others own n) (if n == own then [] else n ∷ []) (rw (ne_eqb n own (λ same. apart (e ∙ same))) (inl e)))
    (λ (o : q ≢ n). member_front q (others own n) (if n == own then [] else n ∷ []) (other_member own n q (omega arith) apart))
    (cases_eq q n)

others_next : (own q : ℕ) → q ≢ own → others own (suc q) ≡ others own q ++ q ∷ []
others_next own q apart = ap (λ (b : Bool). others own q ++ (if b then [] else q ∷ [])) (ne_eqb q own apart)

others_skip : (own : ℕ) → others own (suc own) ≡ others own own
others_skip own = ap (λ (b : Bool). others own own ++ (if b then [] else own ∷ [])) (eq-eqb own own refl) ∙ append-nil (others own own)

-- there is one fewer than there are passes
others_before : (own n : ℕ) → n ≤ own → length (others own n) ≡ n
others_before own zero low = refl
others_before own (suc n) low =
    let rest = others_before own n (omega arith) in
    ap length (others_next own n (λ e. omega arith)) ∙ (length_more (others own n) n ∙ ap suc rest)
  where
    length_more : (xs : List ℕ) (x : ℕ) → length (xs ++ x ∷ []) ≡ suc (length xs)
    length_more [] x = refl
    length_more (y ∷ xs) x = ap suc (length_more xs x)

length_one_more : (xs : List ℕ) (x : ℕ) → length (xs ++ x ∷ []) ≡ suc (length xs)
length_one_more [] x = refl
length_one_more (y ∷ xs) x = ap suc (length_one_more xs x)

others_count : (own n : ℕ) → own < n → length (others own n) + 1 ≡ n
others_count own zero low = absurd (omega arith)
others_count own (suc n) low = ⊎_elim
    (λ (e : n ≡ own). let k = others_before own n (omega arith) in let same = ap length (ap (λ (m : ℕ). others own (suc m)) e ∙ (others_skip own ∙ ap (others own) (sym e))) in omega (arith, k, same))
    (λ (apart : n ≢ own). let k = others_count own n (omega arith) in let same = ap length (others_next own n apart) ∙ length_one_more (others own n) n in omega (arith, k, same))
    (cases_eq n own)

-- ---- the least word

lower_least : (o : Option ℕ) (ls : List Look) (q x : ℕ) → IsLeast o ls → IsLeast (least_after o x) (ls ++ (q, x) ∷ [])
lower_least o ls q x k = ⊎_elim
    (λ (none : x ≡ 0). rw (eq-eqb x 0 none) (same_least o k none))
    (λ (some : x ≢ 0). rw (ne_eqb x 0 some) (lowered o k some))
    (cases_eq x 0)
  where
    in_more : (l : Look) → Member l (ls ++ (q, x) ∷ []) → Member l ls ⊎ (l ≡ (q, x))
    in_more l i = ⊎_elim (λ (j : Member l ls). inl j) (⊎_elim (λ (e : l ≡ (q, x)). inr e) (λ (none : ⊥). absurd none)) (member_append l ls ((q, x) ∷ []) i)

    word_of : (l : Look) → l ≡ (q, x) → l.1 ≡ x
    word_of l e = ap (λ (y : Look). y.1) e

    last : Member (q, x) (ls ++ (q, x) ∷ [])
    last = member_back (q, x) ls ((q, x) ∷ []) (inl refl)

    same_least : (o : Option ℕ) → IsLeast o ls → x ≡ 0 → IsLeast o (ls ++ (q, x) ∷ [])
    same_least None k none = λ l i. ⊎_elim (λ (j : Member l ls). k l j) (λ (e : l ≡ (q, x)). word_of l e ∙ none) (in_more l i)
    same_least (Some w) k none = (
      (k.0.0, member_front (k.0.0, w) ls ((q, x) ∷ []) k.0.1),
      k.1,
      λ l i some. ⊎_elim (λ (j : Member l ls). k.2 l j some) (λ (e : l ≡ (q, x)). absurd (some (word_of l e ∙ none))) (in_more l i),
    )

    lowered : (o : Option ℕ) → IsLeast o ls → x ≢ 0 → IsLeast (lower o x) (ls ++ (q, x) ∷ [])
    lowered None k some = (
      (q, last),
      some,
      λ l i other. ⊎_elim (λ (j : Member l ls). absurd (other (k l j))) (λ (e : l ≡ (q, x)). let same = word_of l e in omega arith) (in_more l i),
    )
    lowered (Some w) k some = ⊎_elim
        (λ (low : w < x). rw (lt-ltb w x low) (
          (k.0.0, member_front (k.0.0, w) ls ((q, x) ∷ []) k.0.1),
          k.1,
          λ l i other. ⊎_elim (λ (j : Member l ls). k.2 l j other) (λ (e : l ≡ (q, x)). let same = word_of l e in omega arith) (in_more l i),
        ))
        (λ (high : x ≤ w). rw (le-ltb w x high) (
          (q, last),
          some,
          λ l i other. ⊎_elim (λ (j : Member l ls). let up = k.2 l j other in omega arith) (λ (e : l ≡ (q, x)). let same = word_of l e in omega arith) (in_more l i),
        ))
        (cases_lt w x)

-- what may go is below all words that are not 0, and no other is
pub goes_below : (o : Option ℕ) (ls : List Look) (label : ℕ) → IsLeast o ls → lets_go o label ≡ true → IsBelowAll label ls
goes_below None ls label k is l i some = absurd (some (k l i))
goes_below (Some w) ls label k is l i some = let low = ltb-true label w is in let up = k.2 l i some in omega arith

stays_above : (o : Option ℕ) (ls : List Look) (label : ℕ) → IsLeast o ls → lets_go o label ≡ false → IsBelowAll label ls → ⊥
stays_above None ls label k is below = cc
stays_above (Some w) ls label k is below = let high = ltb-false label w is in let low = below (k.0.0, w) k.0.1 k.1 in omega arith

-- a word that is 0, or above the label, is that of a pass which has gone past
past_word : (label x : ℕ) → (x ≢ 0 → label < x) → is_past (Some label) x ≡ true
past_word label zero low = refl
past_word label (suc x) low = lt-ltb label (suc x) (low (λ e. omega arith))

-- ---- from stage to stage

-- the view once the epoch was found, and perhaps raised
advanced_pin : (v : View) (x : ℕ) → (view_advanced v x).pin ≡ v.pin
advanced_pin v x = by_test (nat_lt x (2 ^ 62))
  where
    by_test : (b : Bool) → (if b then advance.view_after (epoch.view_after v x) else epoch.view_after v x).pin ≡ v.pin
    by_test true = refl
    by_test false = refl

advanced_pass : (v : View) (x : ℕ) → (view_advanced v x).pass ≡ v.pass
advanced_pass v x = by_test (nat_lt x (2 ^ 62))
  where
    by_test : (b : Bool) → (if b then advance.view_after (epoch.view_after v x) else epoch.view_after v x).pass ≡ v.pass
    by_test true = refl
    by_test false = refl

advanced_steps : (v : View) (x : ℕ) → (view_advanced v x).steps ≤ v.steps + 2
advanced_steps v x = by_test (nat_lt x (2 ^ 62))
  where
    by_test : (b : Bool) → (if b then advance.view_after (epoch.view_after v x) else epoch.view_after v x).steps ≤ v.steps + 2
    by_test true = omega arith
    by_test false = omega arith

label_kept : (x : ℕ) (e : Retired) (l : ℕ) → e.label ≡ Some l → (labelled x e).label ≡ Some l
label_kept x e l is = ap (λ (o : Option ℕ). label_or o x) is

advanced_limbo : (ps : List Place) (v : View) (x : ℕ) → IsLimbo ps [] v.limbo → IsLimbo ps [] (view_advanced v x).limbo
advanced_limbo ps v x o = by_test (nat_lt x (2 ^ 62))
  where
    by_test : (b : Bool) → IsLimbo ps [] (if b then advance.view_after (epoch.view_after v x) else epoch.view_after v x).limbo
    by_test true = limbo_mapped (labelled x) (λ e. refl) (label_kept x) ps v.limbo o
    by_test false = limbo_mapped (labelled x) (λ e. refl) (label_kept x) ps v.limbo o

module _ (z : Sizes) (v0 : View) (ps qs : List Place) (m : Reclaiming) (v : View) (fits : Fits z v0 ps m qs v) where
  -- the machine at another stage, with these places
  abbrev After : ReclaimStage → List Place → View → Type 0
  After s rs w = Fits z v0 ps (record m { stage = s }) rs w

  comes_to : (s : ReclaimStage) (rs : List Place) (w : View) → StageFits z v0 ps s rs w → After s rs w
  comes_to s rs w stage = record { own = fits.own; inside = fits.inside; passes = fits.passes; idle = fits.idle; few = fits.few; start = fits.start; stage = stage }

  -- what waits, once the words of others were found
  waits : (w : View) (q : ℕ) (least : Option ℕ) → IsWatched v0 w q least → IsLimbo ps [] w.limbo
  waits w q least k = subst (λ (u : View). IsLimbo ps [] u.limbo) (sym k.is) (watched_limbo ps (view_advanced v0 k.found) k.looks (advanced_limbo ps v0 k.found fits.start))

  -- the next other pass is watched, or what may go goes back
  goes_on : (w : View) (q : ℕ) (least : Option ℕ) → q ≤ m.passes → IsWatched v0 w q least → After (watching m.own m.passes q least) ps w
  goes_on w q least low k = ⊎_elim
      (λ (few : skip m.own q < m.passes).
      rw (lt-ltb (skip m.own q) m.passes few) (comes_to (Watching (skip m.own q) least) ps w record {
        there = let same = fits.passes in omega arith;
        other = λ e. skipped (e ∙ sym fits.own);
        seen = at_next;
        same = refl;
      }))
      (λ (past : m.passes ≤ skip m.own q).
      rw (le-ltb (skip m.own q) m.passes past) (comes_to (Freeing least 0) ps w record {
        watched = w;
        all = subst (λ (n : ℕ). IsWatched v0 w n least) (last past ∙ fits.passes) at_next;
        is = ap (λ (n : ℕ). record w { steps = n }) (let same : w.steps ≡ w.steps + 0 = omega arith in same);
        limbo = waits w q least k;
        marks = λ e i. i;
        count = omega arith;
        was = λ x i. i;
        stays = λ x i stays. i;
      }))
      (cases_lt (skip m.own q) m.passes)
    where
      skipped : skip m.own q ≢ m.own
      skipped e = ⊎_elim
          (λ (same : q ≡ m.own). let is : skip m.own q ≡ q + 1 = ap (λ (b : Bool). if b then q + 1 else q) (eq-eqb q m.own same) in omega arith)
          (λ (apart : q ≢ m.own). let is : skip m.own q ≡ q = ap (λ (b : Bool). if b then q + 1 else q) (ne_eqb q m.own apart) in apart (sym is ∙ e))
          (cases_eq q m.own)

      at_next : IsWatched v0 w (skip m.own q) least
      at_next = ⊎_elim
          (λ (same : q ≡ m.own).
          let is : skip m.own q ≡ suc q = ap (λ (b : Bool). if b then q + 1 else q) (eq-eqb q m.own same) ∙ omega arith in
          let own : q ≡ v0.pass = same ∙ fits.own in
          record { found = k.found; looks = k.looks; each = k.each ∙ (ap (others v0.pass) own ∙ (sym (others_skip v0.pass) ∙ ap (others v0.pass) (ap suc (sym own) ∙ sym is))); lowest = k.lowest; is = k.is })
          (λ (apart : q ≢ m.own).
          let is : skip m.own q ≡ q = ap (λ (b : Bool). if b then q + 1 else q) (ne_eqb q m.own apart) in
          subst (λ (n : ℕ). IsWatched v0 w n least) (sym is) k)
          (cases_eq q m.own)

      last : m.passes ≤ skip m.own q → skip m.own q ≡ m.passes
      last past = ⊎_elim
          (λ (same : q ≡ m.own). let is : skip m.own q ≡ q + 1 = ap (λ (b : Bool). if b then q + 1 else q) (eq-eqb q m.own same) in let inside = fits.inside in omega arith)
          (λ (apart : q ≢ m.own). let is : skip m.own q ≡ q = ap (λ (b : Bool). if b then q + 1 else q) (ne_eqb q m.own apart) in omega arith)
          (cases_eq q m.own)

  -- no word was found yet
  none_watched : (w : View) (x : ℕ) → w ≡ view_advanced v0 x → IsWatched v0 w 0 None
  none_watched w x is = record { found = x; looks = []; each = refl; lowest = λ l i. absurd i; is = is }

  told_noting : (w : View) (x : ℕ) → (v ≡ v0) × (qs ≡ ps) → epoch.Outcome z v w x → After (stage_after m.own m.passes x Noting) qs w
  told_noting w x k row =
      let is : w ≡ epoch.view_after v0 x = row.is ∙ ap (λ (u : View). epoch.view_after u x) k.0 in
      subst (λ (rs : List Place). After (stage_after m.own m.passes x Noting) rs w) (sym k.1) (⊎_elim
      (λ (low : x < 2 ^ 62). rw (lt-ltb x (2 ^ 62) low) (comes_to Raising ps w record { found = x; low = low; is = is; same = refl }))
      (λ (high : 2 ^ 62 ≤ x). rw (le-ltb x (2 ^ 62) high) (goes_on w 0 None (omega arith) (none_watched w x (is ∙ ap (λ (b : Bool). if b then advance.view_after (epoch.view_after v0 x) else epoch.view_after v0 x) (sym (le-ltb x (2 ^ 62) high))))))
      (cases_lt x (2 ^ 62)))

  told_raising : (w : View) (x : ℕ) → IsRaising v0 v ps qs → advance.Outcome v w → After (stage_after m.own m.passes x Raising) qs w
  told_raising w x k row = subst (λ (rs : List Place). After (watching m.own m.passes 0 None) rs w) (sym k.same)
      (goes_on w 0 None (omega arith) (none_watched w k.found
      (row ∙ (ap advance.view_after k.is ∙ ap (λ (b : Bool). if b then advance.view_after (epoch.view_after v0 k.found) else epoch.view_after v0 k.found) (sym (lt-ltb k.found (2 ^ 62) k.low))))))

  told_watching : (w : View) (x q : ℕ) (least : Option ℕ) → IsWatching z v0 v ps qs q least → watch.Outcome v w q x → After (stage_after m.own m.passes x (Watching q least)) qs w
  told_watching w x q least k row =
      let o = k.seen in
      let same = fits.passes in
      let there = k.there in
      subst (λ (rs : List Place). After (watching m.own m.passes (q + 1) (least_after least x)) rs w) (sym k.same) (goes_on w (q + 1) (least_after least x) (omega arith) record {
        found = o.found;
        looks = o.looks ++ (q, x) ∷ [];
        each = map_more o.looks (q, x) ∙ (ap (λ (ns : List ℕ). ns ++ q ∷ []) o.each ∙ (sym (others_next v0.pass q k.other) ∙ ap (others v0.pass) (let next : suc q ≡ q + 1 = omega arith in next)));
        lowest = lower_least least o.looks q x o.lowest;
        is = row ∙ (ap (λ (u : View). watch.view_after u q x) o.is ∙ sym (watched_more (view_advanced v0 o.found) o.looks (q, x)));
      })
    where
      map_more : (ls : List Look) (l : Look) → map (λ l. l.0) (ls ++ l ∷ []) ≡ map (λ l. l.0) ls ++ l.0 ∷ []
      map_more [] l = refl
      map_more (k ∷ ls) l = ap (λ (ns : List ℕ). k.0 ∷ ns) (map_more ls l)

  -- the first place that may go
  abbrev place : Option ℕ → Place
  place least = get_or qs (open_index least qs) no_place

  told_freeing : (w : View) (least : Option ℕ) (n : ℕ) → open_index least qs < length qs → IsFreeing z v0 v ps qs least n → give.FreeOutcome v w (place least).link → After (Freeing least (n + 1)) (remove qs (open_index least qs)) w
  told_freeing w least n low k row =
      let i : ℕ = open_index least qs in
      let fewer = length-remove qs i low in
      let entries : w.limbo ≡ row.limbo = ap (λ (u : View). u.limbo) row.is in
      comes_to (Freeing least (n + 1)) (remove qs i) w record {
        watched = k.watched;
        all = k.all;
        is = row.is ∙ (ap (λ (u : View). record u { steps = u.steps + 1; limbo = row.limbo }) k.is ∙ ap₂ (λ (s : ℕ) (es : List Retired). record k.watched { steps = s; limbo = es }) (let same : k.watched.steps + n + 1 ≡ k.watched.steps + (n + 1) = omega arith in same) (sym entries));
        limbo = subst (IsLimbo (remove qs i) []) (sym entries) (limbo_without qs i v.limbo row.limbo low k.limbo row.rest.was row.rest.stays);
        marks = λ e j. k.marks e (row.rest.was e (subst (Member e) entries j)).0;
        count = let count = k.count in omega (arith, count, fewer);
        was = λ x j. k.was x (member_of_rest qs i x j);
        stays = λ x j closed. rest_has qs i x (k.stays x j closed) (λ e. let goes = open_goes least qs low in let may : lets_go least x.label ≡ true = ap (λ (y : Place). lets_go least y.label) e ∙ goes in cc);
      }

  -- ---- each step is allowed

  pub may_raise : IsRaising v0 v ps qs → advance.May v
  may_raise k = subst advance.May (sym k.is) record { note = record { epoch = k.found; step = v0.steps + 1 }; noted = refl; early = k.low }

  pass_same : (w : View) (q : ℕ) (least : Option ℕ) → IsWatched v0 w q least → w.pass ≡ v0.pass
  pass_same w q least k = ap (λ (u : View). u.pass) k.is ∙ (watched_pass (view_advanced v0 k.found) k.looks ∙ advanced_pass v0 k.found)

  pub may_watch : (q : ℕ) (least : Option ℕ) → IsWatching z v0 v ps qs q least → watch.May z v q
  may_watch q least k = record { there = k.there; other = λ e. k.other (e ∙ pass_same v q least k.seen) }

  pub may_free : (least : Option ℕ) (n : ℕ) → open_index least qs < length qs → IsFreeing z v0 v ps qs least n → give.MayFree z v (place least).link
  may_free least n low k =
      let x : Place = place least in
      let e = k.limbo.has x (at_member qs (open_index least qs) low) in
      let goes = open_goes least qs low in
      let below = goes_below least k.all.looks x.label k.all.lowest goes in
      record {
        place = e.0;
        limbo = e.1;
        link = e.2.link;
        idle = ap (λ (u : View). u.pin) k.is ∙ (ap (λ (u : View). u.pin) k.all.is ∙ (watched_pin (view_advanced v0 k.all.found) k.all.looks ∙ (advanced_pin v0 k.all.found ∙ fits.idle)));
        marked = λ q there other.
            let own : v.pass ≡ v0.pass = ap (λ (u : View). u.pass) k.is ∙ pass_same k.watched z.passes least k.all in
            let look = key_member (λ (l : Look). l.0) k.all.looks q (subst (Member q) (sym k.all.each) (other_member v0.pass z.passes q there (λ same. other (same ∙ sym own)))) in
            let marks = subst (λ (u : View). HasMarks u look.0) (sym k.all.is) (all_marks (view_advanced v0 k.all.found) k.all.looks look.0 look.1) in
            subst (λ (r : ℕ). Member r e.0.marked) look.2
            (marks e.0 (k.marks e.0 e.1) (ap (λ (o : Option ℕ). is_past o look.0.1) e.2.label ∙ past_word x.label look.0.1 (λ some. below look.0 look.1 some)));
      }

-- what is asked, by stage
asked_freeing : (least : Option ℕ) (qs : List Place) (a : Action) → asks_at (Freeing least 0) qs ≡ Some a → (open_index least qs < length qs) × (Free (get_or qs (open_index least qs) no_place).link ≡ a)
asked_freeing least qs a is = by_test (nat_lt (open_index least qs) (length qs)) refl is
  where
    by_test : (b : Bool) → nat_lt (open_index least qs) (length qs) ≡ b → (if b then Some (Free (get_or qs (open_index least qs) no_place).link) else None) ≡ Some a → (open_index least qs < length qs) × (Free (get_or qs (open_index least qs) no_place).link ≡ a)
    by_test true low e = (ltb-true (open_index least qs) (length qs) low, same_Some _ a e)
    by_test false low e = absurd (cc)

module _ (z : Sizes) (v0 : View) (ps qs : List Place) (m : Reclaiming) (v : View) (fits : Fits z v0 ps m qs v) where
  pub reclaim_told : (w : View) (a : Action) (answer : Answer) → asks_at m.stage qs ≡ Some a → Answers z None a answer v w
      → Fits z v0 ps (record m { stage = stage_after m.own m.passes (word_in answer) m.stage }) (places_after m.stage qs) w
  reclaim_told w a answer asked row = by_stage m.stage fits.stage asked
    where
      x : ℕ
      x = word_in answer

      at : (b : Action) → b ≡ a → Answers z None b answer v w
      at b same = subst (λ (c : Action). Answers z None c answer v w) (sym same) row

      by_stage : (s : ReclaimStage) → StageFits z v0 ps s qs v → asks_at s qs ≡ Some a → Fits z v0 ps (record m { stage = stage_after m.own m.passes x s }) (places_after s qs) w
      by_stage Noting k e = told_noting z v0 ps qs m v fits w x k (word_row z None ReadEpoch answer v w tt (at ReadEpoch (same_Some ReadEpoch a e)))
      by_stage Raising k e = told_raising z v0 ps qs m v fits w x k (word_row z None RaiseEpoch answer v w tt (at RaiseEpoch (same_Some RaiseEpoch a e)))
      by_stage (Watching q least) k e = told_watching z v0 ps qs m v fits w x q least k (word_row z None (ReadPin q) answer v w tt (at (ReadPin q) (same_Some (ReadPin q) a e)))
      by_stage (Freeing least n) k e =
          let o = asked_freeing least qs a e in
          told_freeing z v0 ps qs m v fits w least n o.0 k (done_row z None (Free (get_or qs (open_index least qs) no_place).link) answer v w tt (at _ o.1))

  -- where a word is found, the answer is one
  pub reclaim_hears : (w : View) (a : Action) (answer : Answer) → asks_at m.stage qs ≡ Some a → Answers z None a answer v w → HearsWord m.stage → IsWord answer
  reclaim_hears w a answer asked row = by_stage m.stage asked
    where
      at : (b : Action) → b ≡ a → Answers z None b answer v w
      at b same = subst (λ (c : Action). Answers z None c answer v w) (sym same) row

      by_stage : (s : ReclaimStage) → asks_at s qs ≡ Some a → HearsWord s → IsWord answer
      by_stage Noting e hears = is_word z None ReadEpoch answer v w tt (at ReadEpoch (same_Some ReadEpoch a e))
      by_stage Raising e hears = absurd hears
      by_stage (Watching q least) e hears = is_word z None (ReadPin q) answer v w tt (at (ReadPin q) (same_Some (ReadPin q) a e))
      by_stage (Freeing least n) e hears = absurd hears

  pub reclaim_stage : (a : Action) → asks_at m.stage qs ≡ Some a → IsStage m.own m.passes m.stage
  reclaim_stage a asked = by_stage m.stage fits.stage asked
    where
      by_stage : (s : ReclaimStage) → StageFits z v0 ps s qs v → asks_at s qs ≡ Some a → IsStage m.own m.passes s
      by_stage Noting k e = fits.inside
      by_stage Raising k e = fits.inside
      by_stage (Watching q least) k e = (fits.inside, let there = k.there in let same = fits.passes in omega arith)
      by_stage (Freeing least n) k e = let count = k.count in let few = fits.few in omega arith

  pub may_go : (a : Action) → asks_at m.stage qs ≡ Some a → MayGo m.stage qs
  may_go a asked = by_stage m.stage asked
    where
      by_stage : (s : ReclaimStage) → asks_at s qs ≡ Some a → MayGo s qs
      by_stage Noting e = tt
      by_stage Raising e = tt
      by_stage (Watching q least) e = tt
      by_stage (Freeing least n) e = (asked_freeing least qs a e).0

  -- each step leaves fewer
  pub steps_fewer : (a : Action) (x : ℕ) → asks_at m.stage qs ≡ Some a → steps_left m.passes (stage_after m.own m.passes x m.stage) (places_after m.stage qs) < steps_left m.passes m.stage qs
  steps_fewer a x asked = by_stage m.stage fits.stage asked
    where
      watching_left : (q : ℕ) (least : Option ℕ) → q ≤ m.passes → steps_left m.passes (watching m.own m.passes q least) qs ≤ m.passes - q + length qs
      watching_left q least low = by_test (nat_lt (skip m.own q) m.passes)
        where
          skip_more : q ≤ skip m.own q
          skip_more = by_own (q == m.own)
            where
              by_own : (b : Bool) → q ≤ (if b then q + 1 else q)
              by_own true = omega arith
              by_own false = omega arith

          by_test : (b : Bool) → steps_left m.passes (if b then Watching (skip m.own q) least else Freeing least 0) qs ≤ m.passes - q + length qs
          by_test true = let more = skip_more in omega arith
          by_test false = omega arith

      by_stage : (s : ReclaimStage) → StageFits z v0 ps s qs v → asks_at s qs ≡ Some a → steps_left m.passes (stage_after m.own m.passes x s) (places_after s qs) < steps_left m.passes s qs
      by_stage Noting k e = by_test (nat_lt x (2 ^ 62))
        where
          by_test : (b : Bool) → steps_left m.passes (if b then Raising else watching m.own m.passes 0 None) qs < 2 + m.passes + length qs
          by_test true = omega arith
          by_test false = let few = watching_left 0 None (omega arith) in omega (arith, few)
      by_stage Raising k e = let few = watching_left 0 None (omega arith) in omega (arith, few)
      by_stage (Watching q least) k e = let there = k.there in let same = fits.passes in let few = watching_left (q + 1) (least_after least x) (omega arith) in omega (arith, few, there, same)
      by_stage (Freeing least n) k e = let fewer = length-remove qs (open_index least qs) (asked_freeing least qs a e).0 in omega (arith, fewer)

  -- what was given back is what may go
  pub reclaim_ends : asks_at m.stage qs ≡ None → Reclaims z v0 v ps qs (freed_at m.stage)
  reclaim_ends none = by_stage m.stage fits.stage none
    where
      by_stage : (s : ReclaimStage) → StageFits z v0 ps s qs v → asks_at s qs ≡ None → Reclaims z v0 v ps qs (freed_at s)
      by_stage Noting k e = absurd (cc)
      by_stage Raising k e = absurd (cc)
      by_stage (Watching q least) k e = absurd (cc)
      by_stage (Freeing least n) k e = record {
        found = k.all.found;
        looks = k.all.looks;
        each = k.all.each;
        watched = k.watched;
        seen = k.all.is;
        is = k.is;
        limbo = k.limbo;
        all = k.count;
        stays = λ x. (
          λ i. (k.was x i, stays_above least k.all.looks x.label k.all.lowest (closed_all least qs (closed e) x i)),
          λ o. ⊎_elim
              (λ (goes : lets_go least x.label ≡ true). absurd (o.1 (goes_below least k.all.looks x.label k.all.lowest goes)))
              (λ (stays : lets_go least x.label ≡ false). k.stays x o.0 stays)
              (cases_Bool (lets_go least x.label)),
        );
      }
        where
          closed : asks_at (Freeing least n) qs ≡ None → open_index least qs < length qs → ⊥
          closed e low = let is : asks_at (Freeing least n) qs ≡ Some (Free (get_or qs (open_index least qs) no_place).link) = ap (λ (b : Bool). if b then Some (Free (get_or qs (open_index least qs) no_place).link) else None) (lt-ltb (open_index least qs) (length qs) low) in cc

-- two steps at most for the epoch, one for each other pass, and one for each number
pub reclaim_steps : (z : Sizes) (v w : View) (ps qs : List Place) (count : ℕ) → v.pass < z.passes → Reclaims z v w ps qs count → w.steps ≤ v.steps + 1 + z.passes + count
reclaim_steps z v w ps qs count inside k =
    let steps = ap (λ (u : View). u.steps) k.is in
    let seen = ap (λ (u : View). u.steps) k.seen ∙ watched_steps (view_advanced v k.found) k.looks in
    let two = advanced_steps v k.found in
    let many = length_map k.looks ∙ ap length k.each in
    let one = others_count v.pass z.passes inside in
    omega (arith, steps, seen, two, many, one)
  where
    length_map : (ls : List Look) → length ls ≡ length (map (λ l. l.0) ls)
    length_map [] = refl
    length_map (l ∷ ls) = ap suc (length_map ls)

-- ---- nothing else changes

only_then : (u v w : View) → OnlyReclaims u v → OnlyReclaims v w → OnlyReclaims u w
only_then u v w a b = b ∙ ap (λ (y : View). record y { steps = w.steps; noted = w.noted; found = w.found; limbo = w.limbo }) a

only_watched : (v : View) (ls : List Look) → OnlyReclaims v (view_watched v ls)
only_watched v [] = refl
only_watched v (l ∷ ls) = only_then v (watch.view_after v l.0 l.1) (view_watched (watch.view_after v l.0 l.1) ls) refl (only_watched (watch.view_after v l.0 l.1) ls)

only_advanced : (v : View) (x : ℕ) → OnlyReclaims v (view_advanced v x)
only_advanced v x = by_test (nat_lt x (2 ^ 62))
  where
    by_test : (b : Bool) → OnlyReclaims v (if b then advance.view_after (epoch.view_after v x) else epoch.view_after v x)
    by_test true = refl
    by_test false = refl

-- where the machine has ended
pub only_reclaims : (z : Sizes) (v w : View) (ps qs : List Place) (count : ℕ) → Reclaims z v w ps qs count → OnlyReclaims v w
only_reclaims z v w ps qs count k =
    let seen = subst (OnlyReclaims v) (sym k.seen) (only_then v (view_advanced v k.found) _ (only_advanced v k.found) (only_watched (view_advanced v k.found) k.looks)) in
    let last : OnlyReclaims k.watched w = k.is ∙ ap (λ (y : View). record k.watched { steps = y.steps; noted = y.noted; found = y.found; limbo = y.limbo }) (sym k.is) in
    only_then v k.watched w seen last

-- and where it goes on
pub only_so_far : (z : Sizes) (u v : View) (ps qs : List Place) (m : Reclaiming) → Fits z u ps m qs v → OnlyReclaims u v
only_so_far z u v ps qs m fits = by m.stage fits.stage
  where
    watched_only : (w : View) (q : ℕ) (least : Option ℕ) → IsWatched u w q least → OnlyReclaims u w
    watched_only w q least k = subst (OnlyReclaims u) (sym k.is) (only_then u (view_advanced u k.found) _ (only_advanced u k.found) (only_watched (view_advanced u k.found) k.looks))

    by : (s : ReclaimStage) → StageFits z u ps s qs v → OnlyReclaims u v
    by Noting k = subst (OnlyReclaims u) (sym k.0) refl
    by Raising k = subst (OnlyReclaims u) (sym k.is) refl
    by (Watching q least) k = watched_only v q least k.seen
    by (Freeing least n) k =
        let last : OnlyReclaims k.watched v = k.is ∙ ap (λ (y : View). record k.watched { steps = y.steps; noted = y.noted; found = y.found; limbo = y.limbo }) (sym k.is) in
        only_then u k.watched v (watched_only k.watched z.passes least k.all) last
