-- The bytes that a reader of lines holds: at a line feed, at the end of what was read, and after one read more.
use Rattle.std.proofs.Common.{◌≡◌, ◌≢◌, ℕ, ◌+◌, ◌-◌, ◌<◌, ◌≤◌, min, List, [], ◌∷◌, ◌++◌, length, take, drop, slice_range, sym, ap, ◌∙◌, inl, inr, arith, append_assoc, length-take}
use Rattle.std.specs.List.{slice_get}
use Rattle.std.proofs.lemmas.Bool.{cases_lt}
use Rattle.std.proofs.lemmas.List.{drop-drop, length-append, length-drop, length_push, nil_from_length, take-take, take_at, take_all}
use Rattle.std.proofs.lemmas.List.Elements.{All-cons, All-nil}
use Rattle.std.proofs.Math.Seq.{take-add}
use Rattle.memchr.specs.Find.{NoneBefore, Passes, is_byte}
use Rattle.art_server.specs.Lines.{IsLineAt}
use Rattle.art_server.specs.Streams.{HasNoFeed, last_part, whole_lines}
use Rattle.art_server.proofs.GivenLines.{slice_get-next}
use Rattle.art_server.proofs.StreamLaws.{lines_fed, no_feed-before, part_fed, split_lines-part, take_fed, take_more_kept, whole_lines-append}

-- ---- bytes from one place up to another

range_more : (xs : List ℕ) (i j k : ℕ) → i ≤ j → j ≤ k → slice_range xs i k ≡ slice_range xs i j ++ slice_range xs j k
range_more xs i j k first second =
    let whole : k - i ≡ (j - i) + (k - j) = omega arith in
    let here : i + (j - i) ≡ j = omega arith in
    ap (λ (n : ℕ). take n (drop i xs)) whole
    ∙ take-add (j - i) (k - j) (drop i xs)
    ∙ ap (λ (l : List ℕ). slice_range xs i j ++ take (k - j) l) (drop-drop (j - i) i xs ∙ ap (λ (n : ℕ). drop n xs) here)

pub range_none : (xs : List ℕ) (i : ℕ) → slice_range xs i i ≡ []
range_none xs i = nil_from_length (slice_range xs i i) (omega (arith, length-take (i - i) (drop i xs)))

-- cut after n bytes
pub range_cut : (xs : List ℕ) (i k n m : ℕ) → i ≤ k → m ≡ min k (i + n) → slice_range xs i m ≡ take n (slice_range xs i k)
range_cut xs i k n m ordered is =
    elim (cases_lt (i + n) k) [
      | inl less ↦ (
          let all : m - i ≡ n = omega arith in
          ap (λ (a : ℕ). take a (drop i xs)) all ∙ sym (take-take n (k - i) (drop i xs) (omega arith)))
      | inr more ↦ (
          let all : m - i ≡ k - i = omega arith in
          ap (λ (a : ℕ). take a (drop i xs)) all
          ∙ sym (take_all n (slice_range xs i k) (omega (arith, length-take (k - i) (drop i xs)))))
    ]

-- ---- the line under way

-- the line under way, of which a front is held, with more behind it
pub held_line : (xs : List ℕ) (i j k m : ℕ) (part : List ℕ) → i ≤ j → j ≤ k → slice_range xs i j ≡ take 4097 part → m ≡ min k (i + 4097)
    → slice_range xs i m ≡ take 4097 (part ++ slice_range xs j k)
held_line xs i j k m part first second kept is =
    range_cut xs i k 4097 m (omega arith) is
    ∙ ap (take 4097) (range_more xs i j k first second ∙ ap (λ (l : List ℕ). l ++ slice_range xs j k) kept)
    ∙ take_more_kept 4097 part (slice_range xs j k)

-- it was moved to the front, and what stands behind it was written over
pub moved_line : (xs moved tail : List ℕ) (i j k n : ℕ) (part : List ℕ) → i ≤ j → j ≤ k → k ≤ length xs
    → slice_range xs i j ≡ take 4097 part → n ≡ min (k - i) 4097 → take n moved ≡ slice_range xs i (i + n)
    → slice_range (take n moved ++ tail) 0 n ≡ take 4097 (part ++ slice_range xs j k)
moved_line xs moved tail i j k n part first second within kept is front =
    let all : n - 0 ≡ n = omega arith in
    let long : length (slice_range xs i (i + n)) ≡ n = omega (arith, length-take (i + n - i) (drop i xs), length-drop i xs) in
    ap (λ (a : ℕ). take a (take n moved ++ tail)) all
    ∙ take_at (take n moved) tail n (ap length front ∙ long)
    ∙ front
    ∙ held_line xs i j k (i + n) part first second kept (omega arith)

-- ---- where no line feed is ahead

-- bytes with no line feed end no line
pub unfed_lines : (before bytes : List ℕ) → HasNoFeed bytes → whole_lines (before ++ bytes) ≡ whole_lines before
unfed_lines before bytes none = ap (λ (s : List (List ℕ) × List ℕ). s.0) (split_lines-part before bytes none)

-- and are the end of the line under way
pub unfed_part : (before bytes : List ℕ) → HasNoFeed bytes → last_part (before ++ bytes) ≡ last_part before ++ bytes
unfed_part before bytes none = ap (λ (s : List (List ℕ) × List ℕ). s.1) (split_lines-part before bytes none)

-- bytes that end no line have no line feed
pub unfed : (before bytes : List ℕ) → length (whole_lines (before ++ bytes)) ≤ length (whole_lines before) → HasNoFeed bytes
unfed before [] same = All-nil (λ (b : ℕ). b ≢ 10)
unfed before (b ∷ bytes) same =
    let front = before ++ b ∷ [] in
    let moved : whole_lines (front ++ bytes) ≡ whole_lines (before ++ b ∷ bytes) = ap whole_lines (append_assoc before (b ∷ []) bytes) in
    let fewer = whole_lines-append before (b ∷ []) in
    let extra = whole_lines-append front bytes in
    let all : length (whole_lines (before ++ b ∷ bytes)) ≡ length (whole_lines front) + length extra.0 =
    ap length (sym moved ∙ extra.1) ∙ length-append (whole_lines front) extra.0 in
    let more : length (whole_lines before) ≤ length (whole_lines front) =
    omega (arith, ap length fewer.1, length-append (whole_lines before) fewer.0) in
    All-cons (λ (c : ℕ). c ≢ 10) b bytes
    (λ e. let longer : length (whole_lines front) ≡ length (whole_lines before) + 1 =
    rw e (ap length (lines_fed before) ∙ length_push (whole_lines before) (last_part before)) in
    absurd (omega arith))
    (unfed (before ++ b ∷ []) bytes (omega (arith, ap length moved)))

-- ---- at a line feed

-- the bytes from i to j of what is held were ahead, and the first line feed among them is found after n
pub record IsFed (xs : List ℕ) (i j n : ℕ) (before after : List ℕ) : Type 0 where
  pub within : i + n < j
  pub lines : whole_lines after ≡ whole_lines before ++ (last_part before ++ slice_range xs i (i + n)) ∷ []
  pub part : last_part after ≡ []
  pub whole : after ++ slice_range xs (i + n + 1) j ≡ before ++ slice_range xs i j

pub fed : (xs : List ℕ) (i j n : ℕ) (before after : List ℕ) → after ≡ before ++ slice_range xs i (i + n + 1)
    → NoneBefore (Passes (is_byte 10) (slice_range xs i j)) 0 (length (slice_range xs i j)) n → Passes (is_byte 10) (slice_range xs i j) n
    → IsFed xs i j n before after
fed xs i j n before after grown first passes =
    let bytes = slice_range xs i j in
    let front = take n bytes in
    let few : n < j - i = omega (arith, first.high, length-take (j - i) (drop i xs)) in
    let whole : after ≡ before ++ take (n + 1) bytes =
    grown ∙ ap (λ (l : List ℕ). before ++ l) (range_cut xs i j (n + 1) (i + n + 1) (omega arith) (omega arith)) in
    let same : after ≡ (before ++ front) ++ 10 ∷ [] =
    whole ∙ ap (λ (l : List ℕ). before ++ l) (take_fed bytes n first.high passes) ∙ sym (append_assoc before front (10 ∷ [])) in
    record {
      within = omega arith;
      lines =
          ap whole_lines same ∙ lines_fed (before ++ front)
          ∙ ap (λ (s : List (List ℕ) × List ℕ). s.0 ++ s.1 ∷ []) (split_lines-part before front (no_feed-before bytes n first))
          ∙ ap (λ (l : List ℕ). whole_lines before ++ (last_part before ++ l) ∷ [])
          (sym (range_cut xs i j n (i + n) (omega arith) (omega arith)));
      part = ap last_part same ∙ part_fed (before ++ front);
      whole =
          ap (λ (l : List ℕ). l ++ slice_range xs (i + n + 1) j) grown
          ∙ append_assoc before (slice_range xs i (i + n + 1)) (slice_range xs (i + n + 1) j)
          ∙ ap (λ (l : List ℕ). before ++ l) (sym (range_more xs i (i + n + 1) j (omega arith) (omega arith)));
    }

pub fed_count : (xs : List ℕ) (i j n : ℕ) (before after : List ℕ) → IsFed xs i j n before after
    → length (whole_lines after) ≡ length (whole_lines before) + 1
fed_count xs i j n before after is =
    ap (length {A = List ℕ}) is.lines ∙ length_push (whole_lines before) (last_part before ++ slice_range xs i (i + n))

-- the line that it ends is given next
pub fed_line : (xs : List ℕ) (i j n : ℕ) (before after line : List ℕ) → IsFed xs i j n before after
    → line ≡ take 4097 (last_part before ++ slice_range xs i (i + n))
    → IsLineAt (whole_lines (before ++ slice_range xs i j)) (length (whole_lines before)) line
fed_line xs i j n before after line is front =
    let more = slice_range xs (i + n + 1) j in
    let extra = whole_lines-append after more in
    let last = last_part before ++ slice_range xs i (i + n) in
    let lines : whole_lines (before ++ slice_range xs i j) ≡ (whole_lines before ++ last ∷ []) ++ extra.0 =
    ap whole_lines (sym is.whole) ∙ extra.1 ∙ ap (λ (l : List (List ℕ)). l ++ extra.0) is.lines in
    record {
      whole = last;
      stands =
          ap (λ (l : List (List ℕ)). slice_get l (length (whole_lines before))) lines
          ∙ slice_get-next (whole_lines before) last extra.0;
      front = front;
    }
