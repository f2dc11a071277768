-- How the lines of bytes grow, and what their last part is.
use Rattle.std.proofs.Common.{◌≡◌, ◌≢◌, ℕ, ◌==◌, ◌≤◌, ◌+◌, ◌-◌, ◌<◌, Bool, true, false, List, [], ◌∷◌, ◌++◌, length, get_or, take, All, refl, sym, ap, ◌∙◌, arith, append_assoc, append-nil, length-take, inl, inr}
use Rattle.std.specs.List.{flat_map}
use Rattle.std.proofs.lemmas.Bool.{cases_lt, ne_eqb, eqb-true}
use Rattle.std.proofs.lemmas.List.{take-append-le, take-take, take_all, take_more, nil_from_length, get_or-take, get_or_default}
use Rattle.std.proofs.lemmas.List.Elements.{All-head, All-tail}
use Rattle.std.proofs.Math.Seq.{take-append-add}
use Rattle.memchr.specs.Find.{Nowhere, NoneBefore, Passes, is_byte}
use Rattle.art_server.specs.Streams.{split_after, split_lines, whole_lines, last_part, last_line, lines_of, HasNoFeed, with_feed}

-- ---- a byte more at the end

abbrev pushed : Bool → ℕ → List (List ℕ) × List ℕ → List (List ℕ) × List ℕ
pushed true b split = (split.0 ++ split.1 ∷ [], [])
pushed false b split = (split.0, split.1 ++ b ∷ [])

split_after-pushed : (c_feed : Bool) (c : ℕ) (b_feed : Bool) (b : ℕ) (lines : List (List ℕ)) (rest : List ℕ)
    → split_after c_feed c (pushed b_feed b (lines, rest)) ≡ pushed b_feed b (split_after c_feed c (lines, rest))
split_after-pushed true c true b lines rest = refl
split_after-pushed true c false b lines rest = refl
split_after-pushed false c true b [] rest = refl
split_after-pushed false c true b (line ∷ lines) rest = refl
split_after-pushed false c false b [] rest = refl
split_after-pushed false c false b (line ∷ lines) rest = refl

pushed_alone : (feed : Bool) (b : ℕ) → split_after feed b ([], []) ≡ pushed feed b ([], [])
pushed_alone true b = refl
pushed_alone false b = refl

split_lines-push : (bytes : List ℕ) (b : ℕ) → split_lines (bytes ++ b ∷ []) ≡ pushed (b == 10) b (split_lines bytes)
split_lines-push [] b = pushed_alone (b == 10) b
split_lines-push (c ∷ bytes) b =
    ap (split_after (c == 10) c) (split_lines-push bytes b) ∙ split_after-pushed (c == 10) c (b == 10) b (whole_lines bytes)
    (last_part bytes)

-- a line feed makes the last part a whole line
pub split_lines-feed : (bytes : List ℕ) → split_lines (bytes ++ 10 ∷ []) ≡ (whole_lines bytes ++ last_part bytes ∷ [], [])
split_lines-feed bytes = split_lines-push bytes 10

-- another byte makes the last part longer
split_lines-other : (bytes : List ℕ) (b : ℕ) → b ≢ 10 → split_lines (bytes ++ b ∷ []) ≡ (whole_lines bytes, last_part bytes ++ b ∷ [])
split_lines-other bytes b other = split_lines-push bytes b ∙ ap (λ (t : Bool). pushed t b (split_lines bytes)) (ne_eqb b 10 other)

-- bytes with no line feed make the last part longer
pub split_lines-part : (bytes part : List ℕ) → HasNoFeed part → split_lines (bytes ++ part) ≡ (whole_lines bytes, last_part bytes ++ part)
split_lines-part bytes [] none =
    ap split_lines (append-nil bytes) ∙ ap (λ (l : List ℕ). (whole_lines bytes, l)) (sym (append-nil (last_part bytes)))
split_lines-part bytes (b ∷ part) none =
    let other = All-head (λ (c : ℕ). c ≢ 10) b part none in
    ap split_lines (sym (append_assoc bytes (b ∷ []) part))
    ∙ split_lines-part (bytes ++ b ∷ []) part (All-tail (λ (c : ℕ). c ≢ 10) b part none)
    ∙ ap (λ (s : List (List ℕ) × List ℕ). (s.0, s.1 ++ part)) (split_lines-other bytes b other)
    ∙ ap (λ (l : List ℕ). (whole_lines bytes, l)) (append_assoc (last_part bytes) (b ∷ []) part)

-- ---- many bytes more at the end

more_after : (feed : Bool) (b : ℕ) (bytes : List ℕ) → (b == 10) ≡ feed
    → (extra : List (List ℕ)) × (whole_lines (bytes ++ b ∷ []) ≡ whole_lines bytes ++ extra)
more_after true b bytes e = (
  last_part bytes ∷ [],
  ap (λ (s : List (List ℕ) × List ℕ). s.0)
      (split_lines-push bytes b ∙ ap (λ (t : Bool). pushed t b (split_lines bytes)) e),
)
more_after false b bytes e = (
  [],
  ap (λ (s : List (List ℕ) × List ℕ). s.0) (split_lines-push bytes b ∙ ap (λ (t : Bool). pushed t b (split_lines bytes)) e)
      ∙ sym (append-nil (whole_lines bytes)),
)

-- the whole lines of longer bytes begin with those of the shorter
pub whole_lines-append : (bytes more : List ℕ) → (extra : List (List ℕ)) × (whole_lines (bytes ++ more) ≡ whole_lines bytes ++ extra)
whole_lines-append bytes [] = ([], ap whole_lines (append-nil bytes) ∙ sym (append-nil (whole_lines bytes)))
whole_lines-append bytes (b ∷ more) =
    let one = more_after (b == 10) b bytes refl in
    let rest = whole_lines-append (bytes ++ b ∷ []) more in (
      one.0 ++ rest.0,
      ap whole_lines (sym (append_assoc bytes (b ∷ []) more)) ∙ rest.1 ∙ ap (λ (l : List (List ℕ)). l ++ rest.0) one.1
          ∙ append_assoc (whole_lines bytes) one.0 rest.0,
    )

-- the lines of longer bytes begin with the whole lines of the shorter
pub lines_of-append : (bytes more : List ℕ) → (extra : List (List ℕ)) × (lines_of (bytes ++ more) ≡ whole_lines bytes ++ extra)
lines_of-append bytes more =
    let whole = whole_lines-append bytes more in
    let last = last_line (last_part (bytes ++ more)) in
    (whole.0 ++ last, ap (λ (l : List (List ℕ)). l ++ last) whole.1 ∙ append_assoc (whole_lines bytes) whole.0 last)

length_after : (feed : Bool) (b : ℕ) (lines : List (List ℕ)) (rest : List ℕ)
    → length (split_after feed b (lines, rest)).0 ≤ length lines + 1
length_after true b lines rest = omega arith
length_after false b [] rest = omega arith
length_after false b (line ∷ lines) rest = omega arith

-- each whole line has its feed
pub length-whole_lines : (bytes : List ℕ) → length (whole_lines bytes) ≤ length bytes
length-whole_lines [] = omega arith
length-whole_lines (b ∷ bytes) =
    omega (arith, length_after (b == 10) b (whole_lines bytes) (last_part bytes), length-whole_lines bytes)

-- ---- lines are read back

split_lines-line : (line rest : List ℕ) → HasNoFeed line → split_lines (line ++ 10 ∷ rest) ≡ (line ∷ whole_lines rest, last_part rest)
split_lines-line [] rest none = refl
split_lines-line (b ∷ line) rest none =
    ap (split_after (b == 10) b) (split_lines-line line rest (All-tail (λ (c : ℕ). c ≢ 10) b line none))
    ∙ ap (λ (t : Bool). split_after t b (line ∷ whole_lines rest, last_part rest)) (ne_eqb b 10 (All-head (λ (c : ℕ). c ≢ 10) b line none))

split_lines-all : (lines : List (List ℕ)) → All HasNoFeed lines → split_lines (flat_map with_feed lines) ≡ (lines, [])
split_lines-all [] none = refl
split_lines-all (line ∷ lines) none =
    ap split_lines (append_assoc line (10 ∷ []) (flat_map with_feed lines))
    ∙ split_lines-line line (flat_map with_feed lines) (All-head HasNoFeed line lines none)
    ∙ ap (λ (s : List (List ℕ) × List ℕ). (line ∷ s.0, s.1)) (split_lines-all lines (All-tail HasNoFeed line lines none))

pub lines_of-all : (lines : List (List ℕ)) → All HasNoFeed lines → lines_of (flat_map with_feed lines) ≡ lines
lines_of-all lines none =
    ap (λ (s : List (List ℕ) × List ℕ). s.0 ++ last_line s.1) (split_lines-all lines none) ∙ append-nil lines

-- ---- a line feed more

pub lines_fed : (taken : List ℕ) → whole_lines (taken ++ 10 ∷ []) ≡ whole_lines taken ++ last_part taken ∷ []
lines_fed taken = ap (λ (s : List (List ℕ) × List ℕ). s.0) (split_lines-feed taken)

pub part_fed : (taken : List ℕ) → last_part (taken ++ 10 ∷ []) ≡ []
part_fed taken = ap (λ (s : List (List ℕ) × List ℕ). s.1) (split_lines-feed taken)

-- ---- the last line

pub lines_of-short : (taken : List ℕ) (part : List ℕ) → last_part taken ≡ part → part ≡ [] → lines_of taken ≡ whole_lines taken
lines_of-short taken part e none =
    ap (λ (p : List ℕ). whole_lines taken ++ last_line p) (e ∙ none) ∙ append-nil (whole_lines taken)

last_line-some : (part : List ℕ) → 0 < length part → last_line part ≡ part ∷ []
last_line-some [] some = absurd (omega arith)
last_line-some (b ∷ part) some = refl

pub part_none : (part line : List ℕ) → line ≡ take 4097 part → length line ≡ 0 → part ≡ []
part_none part line is none = nil_from_length part (omega (arith, ap (length {A = ℕ}) is, length-take 4097 part))

part_some : (part line : List ℕ) → line ≡ take 4097 part → 0 < length line → 0 < length part
part_some part line is some = omega (arith, ap (length {A = ℕ}) is, length-take 4097 part)

-- the lines where the last part is one
pub lines_of-last : (taken line : List ℕ) → line ≡ take 4097 (last_part taken) → 0 < length line
    → lines_of taken ≡ whole_lines taken ++ last_part taken ∷ []
lines_of-last taken line is some =
    ap (λ (l : List (List ℕ)). whole_lines taken ++ l) (last_line-some (last_part taken) (part_some (last_part taken) line is some))

-- ---- the front of a line

-- the front of a longer part is that of the front and what came
pub take_more_kept : (n : ℕ) (part more : List ℕ) → take n (take n part ++ more) ≡ take n (part ++ more)
take_more_kept n part more =
    elim (cases_lt (length part) n) [
      | inl short ↦ ap (λ (l : List ℕ). take n (l ++ more)) (take_all n part (omega arith))
      | inr long ↦ (
          let kept : n ≤ length (take n part) = omega (arith, length-take n part) in
          take-append-le n (take n part) more kept
          ∙ take-take n n part (omega arith)
          ∙ sym (take-append-le n part more long))
    ]

-- as much of the part as there is room for
pub take_room : (n : ℕ) (line part : List ℕ) → length line ≤ n → line ++ take (n - length line) part ≡ take n (line ++ part)
take_room n line part fits =
    let whole : n ≡ length line + (n - length line) = omega arith in
    sym (ap (λ (k : ℕ). take k (line ++ part)) whole ∙ take-append-add line part (n - length line))

-- ---- the first line feed of a piece

-- bytes among which none is found hold none
pub no_feed : (bytes : List ℕ) → Nowhere (Passes (is_byte 10) bytes) 0 (length bytes) → HasNoFeed bytes
no_feed bytes nowhere = λ k d within feed.
    nowhere k (omega arith) within (ap (λ (b : ℕ). b == 10) (get_or_default bytes k 0 d within ∙ feed))

-- no byte before the first feed is one
pub no_feed-before : (bytes : List ℕ) (end : ℕ) → NoneBefore (Passes (is_byte 10) bytes) 0 (length bytes) end
    → HasNoFeed (take end bytes)
no_feed-before bytes end first = λ k d within feed.
    let few = length-take end bytes in
    let below : k < end = omega arith in
    first.before k (omega arith) below
    (ap (λ (b : ℕ). b == 10) (get_or_default bytes k 0 d (omega arith) ∙ sym (get_or-take end bytes k d below) ∙ feed))

-- bytes up to and with their line feed
pub take_fed : (bytes : List ℕ) (end : ℕ) → end < length bytes → Passes (is_byte 10) bytes end
    → take (end + 1) bytes ≡ take end bytes ++ 10 ∷ []
take_fed bytes end within passes =
    take_more bytes end 0 within ∙ ap (λ (x : ℕ). take end bytes ++ x ∷ []) (eqb-true (get_or bytes end 0) 10 passes)
