-- Who keeps the first place in limbo waiting, as one word after another is found.
use Rattle.std.proofs.Common.{◌≡◌, ◌≢◌, ◌⊎◌, ℕ, zero, suc, ◌+◌, ◌^◌, ◌<◌, ◌≤◌, ◌==◌, Bool, true, false, if◌then◌else◌, nat_lt, List, [], ◌∷◌, ◌++◌, length, get_or, inl, inr, ⊎_elim, sym, refl, ap, ◌∙◌, subst, arith, ltb-true, ltb-false}
use Rattle.std.proofs.lemmas.Bool.{cases_eq, cases_lt, eq-eqb, ne_eqb, lt-ltb, le-ltb}
use Rattle.std.proofs.lemmas.Option.{same_Some}
use Rattle.std.specs.List.{remove}
use Rattle.std.specs.Option.{option_and_then}
use Rattle.std.specs.Prelude.{Option, Some, None}
use Rattle.art_step.proofs.Words.{done_row, word_row}
use Rattle.art_step.specs.Acting.{Answers, word_in}
use Rattle.art_step.specs.declared.actions.Answer.{Answer}
use Rattle.art_epoch.specs.Limbo.{lets_go, no_place, open_index}
use Rattle.art_epoch.specs.Pins.{view_advanced}
use Rattle.art_epoch.specs.Reclaiming.{Fits, IsLeast, IsWatched, IsWatching, Look, MayGo, Reclaims, StageFits, asks_at, least_after, least_at, lower, others, places_after, skip, stage_after, view_watched, watching}
use Rattle.art_step.specs.declared.actions.Action.{Action}
use Rattle.art_step.specs.declared.actions.Action.TheVariants.{Free, ReadEpoch, RaiseEpoch, ReadPin}
use Rattle.art_epoch.specs.declared.limbo.Place.{Place}
use Rattle.art_epoch.specs.declared.limbo.ReclaimStage.{ReclaimStage}
use Rattle.art_epoch.specs.declared.limbo.ReclaimStage.TheVariants.{Noting, Raising, Watching, Freeing}
use Rattle.art_epoch.specs.declared.limbo.Reclaiming.{Reclaiming}
use Rattle.art_epoch.proofs.Reclaimed.{goes_below, may_go}
use Rattle.art_epoch.specs.Enter.{IsBlocked, IsBlocker, blocked_by, blocker_after, first_label, looked, reclaiming_after, watched, words_found}
use Rattle.art_epoch.specs.declared.enter.Blocker.{Blocker}
use Rattle.art_step.specs.Steps.Advance as advance
use Rattle.art_step.specs.Steps.Epoch as epoch
use Rattle.art_step.specs.Steps.Watch as watch
use Rattle.art_step.specs.Views.{Member}
use Rattle.art_step.specs.declared.views.Sizes.{Sizes}
use Rattle.art_step.specs.declared.views.View.{View}
use Rattle.art_step.specs.declared.views.Word.{Word}
use Rattle.art_step.specs.declared.views.Word.TheVariants.{Pass}
use Rattle.art_step.proofs.Gathered.{member_key}
use Rattle.art_step.proofs.SetsView.{member_append, member_back, member_front}

-- ---- the words that were found

watched_words : (v : View) (ls : List Look) → words_found (view_watched v ls) ≡ looked ls (words_found v)
watched_words v [] = refl
watched_words v (l ∷ ls) = watched_words (watch.view_after v l.0 l.1) ls

advanced_words : (v : View) (x : ℕ) → words_found (view_advanced v x) ≡ words_found v
advanced_words v x = by_test (nat_lt x (2 ^ 62))
  where
    by_test : (b : Bool) → words_found (if b then advance.view_after (epoch.view_after v x) else epoch.view_after v x) ≡ words_found v
    by_test true = refl
    by_test false = refl

looked_more : (ls : List Look) (l : Look) (ws : List Word) → looked (ls ++ l ∷ []) ws ≡ Pass l.0 l.1 ∷ looked ls ws
looked_more [] l ws = refl
looked_more (k ∷ ls) l ws = looked_more ls l (Pass k.0 k.1 ∷ ws)

looked_length : (ls : List Look) (ws : List Word) → length (looked ls ws) ≡ length ls + length ws
looked_length [] ws = omega arith
looked_length (l ∷ ls) ws = let rest = looked_length ls (Pass l.0 l.1 ∷ ws) in omega (arith, rest)

first_word : (x y : Word) (ws xs : List Word) → x ∷ ws ≡ y ∷ xs → x ≡ y
first_word x y ws xs e = ap head e
  where
    head : List Word → Word
    head [] = x
    head (z ∷ zs) = z

rest_words : (x y : Word) (ws xs : List Word) → x ∷ ws ≡ y ∷ xs → ws ≡ xs
rest_words x y ws xs e = ap tail e
  where
    tail : List Word → List Word
    tail [] = []
    tail (z ∷ zs) = zs

same_look : (l k : Look) → Pass l.0 l.1 ≡ Pass k.0 k.1 → l ≡ k
same_look l k e = ap look e
  where
    look : Word → Look
    look (Pass q x) = (q, x)
    look w = l

-- the looks can be told from the words
both_same : (ls ks : List Look) (ws xs : List Word) → length ls ≡ length ks → looked ls ws ≡ looked ks xs → (ls ≡ ks) × (ws ≡ xs)
both_same [] [] ws xs long e = (refl, e)
both_same [] (k ∷ ks) ws xs long e = absurd (omega (arith, long))
both_same (l ∷ ls) [] ws xs long e = absurd (omega (arith, long))
both_same (l ∷ ls) (k ∷ ks) ws xs long e =
    let rest = both_same ls ks (Pass l.0 l.1 ∷ ws) (Pass k.0 k.1 ∷ xs) (omega (arith, long)) e in
    let here = same_look l k (first_word _ _ ws xs rest.1) in
    (ap (λ (x : Look). x ∷ ls) here ∙ ap (λ (ys : List Look). k ∷ ys) rest.0, rest_words _ _ ws xs rest.1)

pub looks_same : (ls ks : List Look) (ws : List Word) → looked ls ws ≡ looked ks ws → ls ≡ ks
looks_same ls ks ws e =
    let a = looked_length ls ws in
    let b = looked_length ks ws in
    let c = ap length e in
    (both_same ls ks ws ws (omega (arith, a, b, c)) e).0

-- the looks that a reclaim tells
watched_found : (v0 v : View) (q : ℕ) (least : Option ℕ) (k : IsWatched v0 v q least) → words_found v ≡ looked k.looks (words_found v0)
watched_found v0 v q least k = ap words_found k.is ∙ (watched_words (view_advanced v0 k.found) k.looks ∙ ap (looked k.looks) (advanced_words v0 k.found))

pub reclaims_found : (z : Sizes) (v w : View) (ps qs : List Place) (count : ℕ) (k : Reclaims z v w ps qs count) → words_found w ≡ looked k.looks (words_found v)
reclaims_found z v w ps qs count k =
    ap words_found k.is ∙ (ap words_found k.seen ∙ (watched_words (view_advanced v k.found) k.looks ∙ ap (looked k.looks) (advanced_words v k.found)))

-- ---- the first place that stays

label_closed : (o : Option ℕ) (ps : List Place) (label : ℕ) → first_label o ps ≡ Some label → lets_go o label ≡ false
label_closed o [] label is = absurd (cc)
label_closed o (p ∷ ps) label is = by_test (lets_go o p.label) refl (label_closed o ps label) is
  where
    by_test : (b : Bool) → lets_go o p.label ≡ b → (first_label o ps ≡ Some label → lets_go o label ≡ false) → (if b then first_label o ps else Some p.label) ≡ Some label → lets_go o label ≡ false
    by_test true e rest is = rest is
    by_test false e rest is = ap (lets_go o) (sym (same_Some p.label label is)) ∙ e

-- it goes on to be the first, as places that may go do so
label_left : (o : Option ℕ) (qs : List Place) → open_index o qs < length qs → first_label o (remove qs (open_index o qs)) ≡ first_label o qs
label_left o [] low = absurd (omega (arith, low))
label_left o (x ∷ xs) low = by_test (lets_go o x.label) refl (label_left o xs) low
  where
    by_test : (b : Bool) → lets_go o x.label ≡ b → (open_index o xs < length xs → first_label o (remove xs (open_index o xs)) ≡ first_label o xs)
        → (if b then 0 else suc (open_index o xs)) < length (x ∷ xs)
        → first_label o (remove (x ∷ xs) (if b then 0 else suc (open_index o xs))) ≡ (if b then first_label o xs else Some x.label)
    by_test true e rest low = refl
    by_test false e rest low = ap (λ (c : Bool). if c then first_label o (remove xs (open_index o xs)) else Some x.label) e

-- once less may go, it is a place that could go before, or the same as before
label_lowered : (o a : Option ℕ) (ps : List Place) (label : ℕ) → ((l : ℕ) → lets_go a l ≡ true → lets_go o l ≡ true) → first_label a ps ≡ Some label → (lets_go o label ≡ true) ⊎ (first_label o ps ≡ Some label)
label_lowered o a [] label more is = absurd (cc)
label_lowered o a (p ∷ ps) label more is = by_tests (lets_go a p.label) (lets_go o p.label) refl refl (label_lowered o a ps label more) is
  where
    by_tests : (b c : Bool) → lets_go a p.label ≡ b → lets_go o p.label ≡ c → (first_label a ps ≡ Some label → (lets_go o label ≡ true) ⊎ (first_label o ps ≡ Some label)) → (if b then first_label a ps else Some p.label) ≡ Some label
        → (lets_go o label ≡ true) ⊎ ((if c then first_label o ps else Some p.label) ≡ Some label)
    by_tests true true e f rest is = rest is
    by_tests true false e f rest is = absurd (let goes = more p.label e in cc)
    by_tests false true e f rest is = inl (ap (lets_go o) (sym (same_Some p.label label is)) ∙ f)
    by_tests false false e f rest is = inr is

no_label : (ps : List Place) (label : ℕ) → first_label None ps ≡ Some label → ⊥
no_label [] label is = cc
no_label (p ∷ ps) label is = no_label ps label is

-- at the beginning none stays
pub none_stays : (s : ReclaimStage) (ps : List Place) (label : ℕ) → asks_at s [] ≡ Some ReadEpoch → first_label (least_at s) ps ≡ Some label → ⊥
none_stays Noting ps label first is = no_label ps label is
none_stays Raising ps label first is = cc
none_stays (Watching q o) ps label first is = cc
none_stays (Freeing o n) ps label first is = cc

-- where none may go, it is that of the first
pub label_of_first : (o : Option ℕ) (q : Place) (qs : List Place) → (open_index o (q ∷ qs) < length (q ∷ qs) → ⊥) → first_label o (q ∷ qs) ≡ Some q.label
label_of_first o q qs none = by_test (lets_go o q.label) refl none
  where
    by_test : (b : Bool) → lets_go o q.label ≡ b → ((if b then 0 else suc (open_index o qs)) < length (q ∷ qs) → ⊥) → (if b then first_label o qs else Some q.label) ≡ Some q.label
    by_test true e none = absurd (none (omega arith))
    by_test false e none = refl

-- ---- a word lowers the least

lowers : (o : Option ℕ) (x label : ℕ) → lets_go (least_after o x) label ≡ true → lets_go o label ≡ true
lowers o x label goes = ⊎_elim
    (λ (none : x ≡ 0). ap (λ (b : Bool). lets_go (if b then o else lower o x) label) (sym (eq-eqb x 0 none)) ∙ goes)
    (λ (some : x ≢ 0). by_least o (ap (λ (b : Bool). lets_go (if b then o else lower o x) label) (sym (ne_eqb x 0 some)) ∙ goes))
    (cases_eq x 0)
  where
    by_least : (a : Option ℕ) → lets_go (lower a x) label ≡ true → lets_go a label ≡ true
    by_least None goes = refl
    by_least (Some w) goes = ⊎_elim
        (λ (low : w < x). ap (λ (b : Bool). lets_go (if b then Some w else Some x) label) (sym (lt-ltb w x low)) ∙ goes)
        (λ (high : x ≤ w).
        let less : nat_lt label x ≡ true = ap (λ (b : Bool). lets_go (if b then Some w else Some x) label) (sym (le-ltb w x high)) ∙ goes in
        let is = ltb-true label x less in
        lt-ltb label w (omega (arith, is, high)))
        (cases_lt w x)

-- what could go before and cannot now is held by the word
held_by : (o : Option ℕ) (x label : ℕ) → lets_go o label ≡ true → lets_go (least_after o x) label ≡ false → (x ≢ 0) × (x ≤ label)
held_by o x label goes stays = ⊎_elim
    (λ (none : x ≡ 0). absurd (let same : lets_go o label ≡ false = ap (λ (b : Bool). lets_go (if b then o else lower o x) label) (sym (eq-eqb x 0 none)) ∙ stays in cc))
    (λ (some : x ≢ 0). (some, by_least o goes (ap (λ (b : Bool). lets_go (if b then o else lower o x) label) (sym (ne_eqb x 0 some)) ∙ stays)))
    (cases_eq x 0)
  where
    by_least : (a : Option ℕ) → lets_go a label ≡ true → lets_go (lower a x) label ≡ false → x ≤ label
    by_least None goes stays = ltb-false label x stays
    by_least (Some w) goes stays = ⊎_elim
        (λ (low : w < x). absurd (let same : lets_go (Some w) label ≡ false = ap (λ (b : Bool). lets_go (if b then Some w else Some x) label) (sym (lt-ltb w x low)) ∙ stays in cc))
        (λ (high : x ≤ w). ltb-false label x (ap (λ (b : Bool). lets_go (if b then Some w else Some x) label) (sym (le-ltb w x high)) ∙ stays))
        (cases_lt w x)

-- ---- the blocker

others_low : (own n q : ℕ) → Member q (others own n) → q < n
others_low own zero q i = absurd i
others_low own (suc n) q i = ⊎_elim
    (λ (j : Member q (others own n)). let low = others_low own n q j in omega (arith, low))
    (λ (j : Member q (if n == own then [] else n ∷ [])). by_test (n == own) j)
    (member_append q (others own n) (if n == own then [] else n ∷ []) i)
  where
    by_test : (b : Bool) → Member q (if b then [] else n ∷ []) → q < suc n
    by_test true j = absurd j
    by_test false j = ⊎_elim (λ (e : q ≡ n). omega (arith, e)) (λ (none : ⊥). absurd none) j

module _ (ls : List Look) (q x label : ℕ) where
  in_more : (l : Look) → Member l (ls ++ (q, x) ∷ []) → Member l ls ⊎ (l ≡ (q, x))
  in_more l i = ⊎_elim (λ (j : Member l ls). inl j) (⊎_elim (λ (e : l ≡ (q, x)). inr e) (λ (none : ⊥). absurd none)) (member_append l ls ((q, x) ∷ []) i)

  -- it stays, as the word of a later pass is found
  blocker_stays : (b : Blocker) → ((l : Look) → Member l ls → l.0 < q) → IsBlocker ls label b → IsBlocker (ls ++ (q, x) ∷ []) label b
  blocker_stays b earlier k = record {
    look = member_front (b.pass, b.epoch) ls ((q, x) ∷ []) k.look;
    some = k.some;
    low = k.low;
    first = λ l i before other. ⊎_elim
        (λ (j : Member l ls). k.first l j before other)
        (λ (e : l ≡ (q, x)). absurd (let is : l.0 ≡ q = ap (λ (y : Look). y.0) e in let less = earlier (b.pass, b.epoch) k.look in omega (arith, is, less, before)))
        (in_more l i);
  }

  -- or it is that pass, where the place could go before
  blocker_comes : (o : Option ℕ) → IsLeast o ls → lets_go o label ≡ true → x ≢ 0 → x ≤ label → IsBlocker (ls ++ (q, x) ∷ []) label (record { pass = q; epoch = x })
  blocker_comes o least goes other_word high = record {
    look = member_back (q, x) ls ((q, x) ∷ []) (inl refl);
    some = other_word;
    low = high;
    first = λ l i before other. ⊎_elim
        (λ (j : Member l ls). goes_below o ls label least goes l j other)
        (λ (e : l ≡ (q, x)). absurd (let is : l.0 ≡ q = ap (λ (y : Look). y.0) e in omega (arith, is, before)))
        (in_more l i);
  }

-- ---- from step to step

-- no word of a pass was found
blocked_same : (u v w : View) (o a : Option ℕ) (qs rs : List Place) (b : Blocker) → words_found w ≡ words_found v → first_label a rs ≡ first_label o qs → IsBlocked u v o qs b → IsBlocked u w a rs b
blocked_same u v w o a qs rs b words labels k = record {
  looks = k.looks;
  found = words ∙ k.found;
  blocker = λ label is. k.blocker label (sym labels ∙ is);
}

least_watching : (own passes q : ℕ) (o : Option ℕ) → least_at (watching own passes q o) ≡ o
least_watching own passes q o = by_test (nat_lt (skip own q) passes)
  where
    by_test : (b : Bool) → least_at (if b then Watching (skip own q) o else Freeing o 0) ≡ o
    by_test true = refl
    by_test false = refl

-- the word of a pass was found
blocked_on : (z : Sizes) (u v w : View) (ps qs : List Place) (q x : ℕ) (o : Option ℕ) (b : Blocker) → IsWatching z u v ps qs q o → watch.Outcome v w q x → IsBlocked u v o qs b
    → IsBlocked u w (least_after o x) qs (blocked_by (Some (record { pass = q; epoch = x })) o (first_label (least_after o x) qs) b)
blocked_on z u v w ps qs q x o b k row was = record {
  looks = was.looks ++ (q, x) ∷ [];
  found = ap words_found row ∙ (ap (λ (ws : List Word). Pass q x ∷ ws) was.found ∙ sym (looked_more was.looks (q, x) (words_found u)));
  blocker = λ label is. subst (λ (r : Option ℕ). IsBlocker (was.looks ++ (q, x) ∷ []) label (blocked_by (Some (record { pass = q; epoch = x })) o r b)) (sym is) (by_test label is (lets_go o label) refl);
}
  where
    same : was.looks ≡ k.seen.looks
    same = looks_same was.looks k.seen.looks (words_found u) (sym was.found ∙ watched_found u v q o k.seen)

    earlier : (l : Look) → Member l was.looks → l.0 < q
    earlier l i = others_low u.pass q l.0 (subst (Member l.0) k.seen.each (member_key (λ (y : Look). y.0) k.seen.looks l (subst (Member l) same i)))

    least : IsLeast o was.looks
    least = subst (IsLeast o) (sym same) k.seen.lowest

    by_test : (label : ℕ) → first_label (least_after o x) qs ≡ Some label → (c : Bool) → lets_go o label ≡ c → IsBlocker (was.looks ++ (q, x) ∷ []) label (if c then record { pass = q; epoch = x } else b)
    by_test label is true e = let held = held_by o x label e (label_closed (least_after o x) qs label is) in blocker_comes was.looks q x label o least e held.0 held.1
    by_test label is false e = ⊎_elim
        (λ (goes : lets_go o label ≡ true). absurd (cc))
        (λ (before : first_label o qs ≡ Some label). blocker_stays was.looks q x label b earlier (was.blocker label before))
        (label_lowered o (least_after o x) qs label (lowers o x) is)

module _ (z : Sizes) (u v w : View) (ps qs : List Place) (r : Reclaiming) (answer : Answer) (b : Blocker) (fits : Fits z u ps r qs v) where
  abbrev x : ℕ
  x = word_in answer

  -- a step of the reclaim was made
  pub blocked_after : (a : Action) → asks_at r.stage qs ≡ Some a → Answers z None a answer v w → IsBlocked u v (least_at r.stage) qs b
      → IsBlocked u w (least_at (reclaiming_after r (word_in answer)).stage) (places_after r.stage qs) (blocker_after r b (word_in answer) qs)
  blocked_after a asked row was = by_stage r.stage fits.stage asked was (may_go z u ps qs r v fits a asked)
    where
      at : (c : Action) → c ≡ a → Answers z None c answer v w
      at c same = subst (λ (d : Action). Answers z None d answer v w) (sym same) row

      none_least : (s : ReclaimStage) → least_at s ≡ None → (rs : List Place) → first_label (least_at s) rs ≡ first_label None rs
      none_least s is rs = ap (λ (o : Option ℕ). first_label o rs) is

      noting_least : least_at (stage_after r.own r.passes x Noting) ≡ None
      noting_least = by_test (nat_lt x (2 ^ 62))
        where
          by_test : (c : Bool) → least_at (if c then Raising else watching r.own r.passes 0 None) ≡ None
          by_test true = refl
          by_test false = least_watching r.own r.passes 0 None

      by_stage : (s : ReclaimStage) → StageFits z u ps s qs v → asks_at s qs ≡ Some a → IsBlocked u v (least_at s) qs b → MayGo s qs
          → IsBlocked u w (least_at (stage_after r.own r.passes x s)) (places_after s qs)
          (blocked_by (option_and_then (watched x) (asks_at s qs)) (least_at s) (first_label (least_at (stage_after r.own r.passes x s)) (places_after s qs)) b)
      by_stage Noting k e was low =
          let step = word_row z None ReadEpoch answer v w tt (at ReadEpoch (same_Some ReadEpoch a e)) in
          blocked_same u v w None (least_at (stage_after r.own r.passes x Noting)) qs qs b (ap words_found step.is) (none_least (stage_after r.own r.passes x Noting) noting_least qs) was
      by_stage Raising k e was low =
          let step = word_row z None RaiseEpoch answer v w tt (at RaiseEpoch (same_Some RaiseEpoch a e)) in
          blocked_same u v w None (least_at (watching r.own r.passes 0 None)) qs qs b (ap words_found step) (none_least (watching r.own r.passes 0 None) (least_watching r.own r.passes 0 None) qs) was
      by_stage (Watching q o) k e was low =
          let step = word_row z None (ReadPin q) answer v w tt (at (ReadPin q) (same_Some (ReadPin q) a e)) in
          let is = least_watching r.own r.passes (q + 1) (least_after o x) in
          subst (λ (p : Option ℕ). IsBlocked u w p qs (blocked_by (Some (record { pass = q; epoch = x })) o (first_label p qs) b)) (sym is) (blocked_on z u v w ps qs q x o b k step was)
      by_stage (Freeing o n) k e was low =
          let is : asks_at (Freeing o n) qs ≡ Some (Free (get_or qs (open_index o qs) no_place).link) = ap (λ (c : Bool). if c then Some (Free (get_or qs (open_index o qs) no_place).link) else None) (lt-ltb (open_index o qs) (length qs) low) in
          let goes : Action = Free (get_or qs (open_index o qs) no_place).link in
          let step = done_row z None goes answer v w tt (at goes (sym (same_Some a goes (sym e ∙ is)))) in
          subst (λ (p : Option Action). IsBlocked u w o (remove qs (open_index o qs)) (blocked_by (option_and_then (watched x) p) o (first_label o (remove qs (open_index o qs))) b)) (sym is)
          (blocked_same u v w o o qs (remove qs (open_index o qs)) b (ap words_found step.is) (label_left o qs low) was)
