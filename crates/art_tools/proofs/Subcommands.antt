-- Words that clap takes, at a command that wants a subcommand, name one that is not `help`.
use Rattle.std.proofs.Common.{◌≡◌, ◌∙◌, ℕ, Bool, cond, codes, true, false, ◌&&◌, ◌||◌, refl, sym, ap, subst, inl, inr, ◌⊎◌, List, [], ◌∷◌, ◌++◌, map, find, fold, Option, Some, None, IfSome, is_some, option_map, true≢false}
use Rattle.std.specs.Str.{bytes_eq}
use Rattle.std.proofs.lemmas.Bool.{false_from_ne_true}
use Rattle.std.proofs.lemmas.Slice.Eq.{bytes_eq-Decides}
use Rattle.clap.specs.Kinds.{Kinds, check_kinds, or_else}
use Rattle.clap.specs.Faults.{check_fault, entered_fault, fault_of, level_fault, other_fault, settle_fault, defaults_fault, step_fault, turn_fault, walk_fault, word_fault}
use Rattle.clap.specs.Simple.{App, Shape, argument_words, built, entered, label_of, names_of, rows_at, subcommand_of}
use Rattle.clap.specs.Walk.{Held, Names, Outcome, Row, Rule, Step, Text, Waiting, Walk, after_flag, after_step, answers_to, arg_by_index, finished, idle, long_or_other, nothing_held, plain_word, settled, short_or_plain, stop_after, subcommand_met, subcommand_or_other, to_positional, walk, walk_from, walked, walked_from, word_met}
use Rattle.clap.specs.Walk.{done, waits, plain, refused, next, trailing, subcommand, value, option, positional}
use Rattle.clap.specs.Lexer.{long_of, short_of}

or_else_empty : (a b : Kinds) → or_else a b ≡ [] → (a ≡ []) × (b ≡ [])
or_else_empty [] b none = (refl, none)
or_else_empty (k ∷ ks) b none = (cc, cc)

-- the walk has not stopped at `help`
abbrev StopsElsewhere : Option (Text × List Text) → Type 0
StopsElsewhere stop = IfSome stop (λ p. bytes_eq p.0 (codes "help") ≡ false)

-- the word is not the subcommand `help`
abbrev IsOther : Step → Type 0
IsOther (subcommand name) = bytes_eq name (codes "help") ≡ false
IsOther _ = Unit {0}

-- ---- one word

module _ (c : List Rule) (word : Text) where
  plain_other : (waiting : Waiting) (h : Held) → IsOther (plain_word c waiting word h).1
  plain_other idle h = tt
  plain_other (option id) h = tt
  plain_other positional h = tt

  flag_other : (waiting : Waiting) (h : Held) (o : Outcome) → IsOther (after_flag c waiting word h o).1
  flag_other waiting h done = tt
  flag_other waiting h (waits id) = tt
  flag_other waiting h plain = plain_other waiting h
  flag_other waiting h refused = plain_other waiting h

  short_other : (waiting : Waiting) (flags : Option Text) (h : Held) → IsOther (short_or_plain c waiting word flags h).1
  short_other waiting None h = plain_other waiting h
  short_other waiting (Some flags) h = flag_other waiting _ _

  long_other : (waiting : Waiting) (p : Option (Text × Option Text)) (h : Held) → IsOther (long_or_other c waiting word p h).1
  long_other waiting None h = short_other waiting (short_of word) h
  long_other waiting (Some p) h = flag_other waiting _ _

  dashes_other : (b : Bool) (waiting : Waiting) (position : ℕ) (h : Held) → IsOther (cond b (h, trailing position) (long_or_other c waiting word (long_of word) h)).1
  dashes_other true waiting position h = tt
  dashes_other false waiting position h = long_other waiting (long_of word) h

  -- a step to another word than `help` stops nowhere or there
  stops_elsewhere : (w : Walk) (h : Held) (step : Step) → w.stopped ≡ None → IsOther step → StopsElsewhere (after_step c word w h step).stopped
  stops_elsewhere w h (next waiting) none other = subst StopsElsewhere (sym none) tt
  stops_elsewhere w h (trailing position) none other = subst StopsElsewhere (sym none) tt
  stops_elsewhere w h (subcommand name) none other = other
  stops_elsewhere w h value none other = go (arg_by_index c w.position)
    where
      go : (a : Option Rule) → StopsElsewhere (to_positional c a word w h).stopped
      go None = subst StopsElsewhere (sym none) tt
      go (Some a) = tt

named_other : (b : Bool) (k : Kinds) (x : _) → cond (b && true) (x ∷ k) [] ≡ [] → b ≡ false
named_other true k x none = cc
named_other false k x none = refl

-- a word that is taken is not `help`
word_other : (s : Shape) (names : Names) (is_trailing : Bool) (waiting : Waiting) (position : ℕ) (word : Text) (h : Held) → s.disable_help_subcommand ≡ false
    → word_fault s names is_trailing waiting word h ≡ [] → IsOther (word_met s.rules names is_trailing waiting position word h).1
word_other s names true waiting position word h enabled none = tt
word_other s names false waiting position word h enabled none = go (subcommand_met names waiting word) none
  where
    go : (met : Option Text) → other_fault s met word h ≡ [] → IsOther (subcommand_or_other s.rules met waiting position word h).1
    go None taken = dashes_other s.rules word _ waiting position h
    go (Some name) taken = named_other (bytes_eq name (codes "help")) _ _ (rw enabled at taken)

-- ---- all the words

turn_elsewhere : (s : Shape) (names : Names) (w : Walk) (word : Text) → s.disable_help_subcommand ≡ false → turn_fault s names w word ≡ [] → StopsElsewhere w.stopped
    → StopsElsewhere (walked s.rules names w word).stopped
unfolding walked
turn_elsewhere s names w word enabled taken before = go w.stopped refl before
  where
    go : (o : Option (Text × List Text)) → w.stopped ≡ o → StopsElsewhere o → StopsElsewhere (walked_from s.rules names o w word).stopped
    go (Some p) is elsewhere = elsewhere
    go None is elsewhere =
        let met = word_met s.rules names w.is_trailing w.waiting w.position word w.held in
        let turn = subst (λ (o : Option (Text × List Text)). cond (is_some o) [] (or_else (word_fault s names w.is_trailing w.waiting word w.held) (step_fault s w.position met.0 met.1)) ≡ []) is taken in
        stops_elsewhere s.rules word w met.0 met.1 is
        (word_other s names w.is_trailing w.waiting w.position word w.held enabled (or_else_empty _ _ turn).0)

walk_elsewhere : (s : Shape) (names : Names) (w : Walk) (words : List Text) → s.disable_help_subcommand ≡ false → walk_fault s names w words ≡ [] → StopsElsewhere w.stopped
    → StopsElsewhere (fold (walked s.rules names) w words).stopped
unfolding walk_fault
walk_elsewhere s names w [] enabled taken before = before
walk_elsewhere s names w (word ∷ words) enabled taken before =
    let parts = or_else_empty (turn_fault s names w word) _ taken in
    walk_elsewhere s names (walked s.rules names w word) words enabled parts.1 (turn_elsewhere s names w word enabled parts.0 before)

missing_fails : (help wanted argument : Bool) → wanted ≡ true → check_kinds help wanted argument ≡ [] → ⊥
missing_fails true wanted argument is none = cc
missing_fails false true argument is none = cc
missing_fails false false argument is none = cc

has_subcommand : (s : Shape) (rows : List Row) (has : Bool) → s.subcommand_required ≡ true → check_fault s rows has ≡ [] → has ≡ true
has_subcommand s rows true wanted none = refl
has_subcommand s rows false wanted none = absurd (missing_fails _ s.subcommand_required _ wanted none)

first_and_last_empty : (a b c d e : Kinds) → or_else a (or_else b (or_else c (or_else d e))) ≡ [] → (a ≡ []) × (e ≡ [])
first_and_last_empty a b c d e none =
    let at_a = or_else_empty a (or_else b (or_else c (or_else d e))) none in
    let at_b = or_else_empty b (or_else c (or_else d e)) at_a.1 in
    let at_c = or_else_empty c (or_else d e) at_b.1 in
    (at_a.0, (or_else_empty d e at_c.1).1)

-- words that a level takes stop elsewhere than at `help`, and name a subcommand
level_enters : (s : Shape) (names : Names) (words : List Text) (has : Bool) (below : Kinds) → s.disable_help_subcommand ≡ false → s.subcommand_required ≡ true
    → level_fault s names nothing_held words has below ≡ [] → StopsElsewhere (walk s.rules names nothing_held words).stopped × (has ≡ true)
level_enters s names words has below enabled wanted taken =
    let end = (walk s.rules names nothing_held words).held in
    let parts = first_and_last_empty (walk_fault s names (walk_from nothing_held) words) below (settle_fault s.rules s.args_override_self end)
    (defaults_fault (settled s.rules end).rows s.rules) (check_fault s (finished s.rules end) has) taken in
    (walk_elsewhere s names (walk_from nothing_held) words enabled parts.0 tt, has_subcommand s (finished s.rules end) has wanted parts.1)

-- words without fault stop at a subcommand other than `help`, and enter it
enters_other : (a : App) (words : List Text) → (built a).top.disable_help_subcommand ≡ false → (built a).top.subcommand_required ≡ true → fault_of a words ≡ []
    → StopsElsewhere (stop_after (built a).top.rules (names_of (built a)) (argument_words a words))
    × (is_some (entered (built a) (stop_after (built a).top.rules (names_of (built a)) (argument_words a words))) ≡ true)
enters_other a words enabled wanted taken =
    let stop = stop_after (built a).top.rules (names_of (built a)) (argument_words a words) in
    level_enters (built a).top (names_of (built a)) (argument_words a words) (is_some (entered (built a) stop)) (entered_fault (built a) stop) enabled wanted taken

-- ---- the names

-- the text is one of these
abbrev pub IsOneOf : Text → List Text → Type 0
IsOneOf text [] = ⊥
IsOneOf text (name ∷ names) = (text ≡ name) ⊎ IsOneOf text names

-- what is found among subcommands, and not the last, has the name of one of those before
found_name : (own : List Shape) (last : Shape) (p : Text × List Text) → answers_to p.0 (label_of last) ≡ false
    → is_some (option_map (λ s. rows_at s p.1) (find (λ s. answers_to p.0 (label_of s)) (own ++ last ∷ []))) ≡ true
    → (name : Text) × (option_map (λ s. s.0) (option_map (λ s. rows_at s p.1) (find (λ s. answers_to p.0 (label_of s)) (own ++ last ∷ []))) ≡ Some name)
    × IsOneOf name (map (λ (s : Shape). s.name) own)
found_name [] last p other enters = absurd (true≢false (sym (rw other at enters)))
found_name (s ∷ own) last p other enters = go (answers_to p.0 (label_of s)) (found_name own last p other) enters
  where
    rest : Option Shape
    rest = find (λ s. answers_to p.0 (label_of s)) (own ++ last ∷ [])

    go : (b : Bool)
        → (is_some (option_map (λ s. rows_at s p.1) rest) ≡ true
        → (name : Text) × (option_map (λ s. s.0) (option_map (λ s. rows_at s p.1) rest) ≡ Some name) × IsOneOf name (map (λ (s : Shape). s.name) own))
        → is_some (option_map (λ s. rows_at s p.1) (cond b (Some s) rest)) ≡ true
        → (name : Text) × (option_map (λ s. s.0) (option_map (λ s. rows_at s p.1) (cond b (Some s) rest)) ≡ Some name)
        × IsOneOf name (s.name ∷ map (λ (s : Shape). s.name) own)
    go true later found = (s.name, refl, inl refl)
    go false later found = let named = later found in (named.0, named.1, inr named.2)

other_name : (name : Text) → bytes_eq name (codes "help") ≡ false → (bytes_eq (codes "help") name || false) ≡ false
other_name name other =
    let differs : bytes_eq (codes "help") name ≡ false = false_from_ne_true _ (λ same. true≢false
    (sym ((bytes_eq-Decides name (codes "help")).1 (sym ((bytes_eq-Decides (codes "help") name).0 same))) ∙ other)) in
    rw differs refl

-- words without fault name one of the command's own subcommands
pub names_own : (a : App) (own : List Shape) (help : Shape) (words : List Text) → (built a).subs ≡ own ++ help ∷ [] → label_of help ≡ (codes "help", [])
    → (built a).top.disable_help_subcommand ≡ false → (built a).top.subcommand_required ≡ true → fault_of a words ≡ []
    → (name : Text) × (option_map (λ s. s.0) (subcommand_of a words) ≡ Some name) × IsOneOf name (map (λ (s : Shape). s.name) own)
names_own a own help words subs named enabled wanted taken =
    let at = enters_other a words enabled wanted taken in
    go (stop_after (built a).top.rules (names_of (built a)) (argument_words a words)) at.0 at.1
  where
    go : (stop : Option (Text × List Text)) → StopsElsewhere stop → is_some (entered (built a) stop) ≡ true
        → (name : Text) × (option_map (λ s. s.0) (entered (built a) stop) ≡ Some name) × IsOneOf name (map (λ (s : Shape). s.name) own)
    go None elsewhere enters = absurd (true≢false (sym enters))
    go (Some p) elsewhere enters = subst (λ (xs : List Shape). is_some (option_map (λ s. rows_at s p.1) (find (λ s. answers_to p.0 (label_of s)) xs)) ≡ true
        → (name : Text) × (option_map (λ s. s.0) (option_map (λ s. rows_at s p.1) (find (λ s. answers_to p.0 (label_of s)) xs)) ≡ Some name)
        × IsOneOf name (map (λ (s : Shape). s.name) own)) (sym subs)
        (found_name own help p (ap (answers_to p.0) named ∙ other_name p.0 elsewhere)) enters
