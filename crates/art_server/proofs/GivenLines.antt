-- Lines that are given one after another.
use Rattle.std.proofs.Common.{◌≡◌, ℕ, zero, suc, ◌+◌, ◌<◌, List, [], ◌∷◌, ◌++◌, get_or, length, take, drop, take-append-drop, Some, refl, sym, ap, ◌∙◌, append_assoc, append-nil}
use Rattle.std.specs.List.{slice_get}
use Rattle.std.proofs.lemmas.List.{take_more}
use Rattle.std.proofs.lemmas.Option.{slice_get-get_or, slice_get_within}
use Rattle.art_server.specs.Lines.{AllAreGiven, IsLineAt, LinesRead}
use Rattle.art_server.specs.Streams.{last_part, lines_of, whole_lines}
use Rattle.art_server.proofs.StreamLaws.{lines_of-last}

-- the first so many, and the next
pub take_next : {A : Type 0} (xs : List A) (n : ℕ) (x : A) → slice_get xs n ≡ Some x → take (n + 1) xs ≡ take n xs ++ x ∷ []
take_next {A} xs n x stands =
    let within : n < length xs = slice_get_within xs n x stands in
    let read = slice_get-get_or xs n x within in
    let same : get_or xs n x ≡ x = cc in
    take_more xs n x within ∙ ap (λ (y : A). take n xs ++ y ∷ []) same

-- those before it, it, and those behind it
pub split_at : {A : Type 0} (xs : List A) (n : ℕ) (x : A) → slice_get xs n ≡ Some x → xs ≡ take n xs ++ x ∷ drop (n + 1) xs
split_at {A} xs n x stands =
    sym (take-append-drop (n + 1) xs)
    ∙ ap (λ (l : List A). l ++ drop (n + 1) xs) (take_next xs n x stands)
    ∙ append_assoc (take n xs) (x ∷ []) (drop (n + 1) xs)

-- it stays where it is as more come behind
pub slice_get-longer : {A : Type 0} (xs ys : List A) (n : ℕ) (x : A) → slice_get xs n ≡ Some x → slice_get (xs ++ ys) n ≡ Some x
slice_get-longer [] ys n x stands = absurd cc
slice_get-longer (y ∷ xs) ys zero x stands = stands
slice_get-longer (y ∷ xs) ys (suc n) x stands = slice_get-longer xs ys n x stands

-- the one that comes next
pub slice_get-next : {A : Type 0} (xs : List A) (x : A) (ys : List A) → slice_get ((xs ++ x ∷ []) ++ ys) (length xs) ≡ Some x
slice_get-next [] x ys = refl
slice_get-next (y ∷ xs) x ys = slice_get-next xs x ys

-- what stands after the last line feed is the last line
pub last_line_at : (at : LinesRead) (n : ℕ) (line : List ℕ) → AllAreGiven at → n ≡ at.given → line ≡ take 4097 (last_part at.taken)
    → 0 < length line → IsLineAt (lines_of at.taken) n line
last_line_at at n line all same front some =
    let lines = whole_lines at.taken in
    let last = last_part at.taken in
    record {
      whole = last;
      stands =
          ap (slice_get (lines_of at.taken)) (same ∙ all)
          ∙ ap (λ (l : List (List ℕ)). slice_get l (length lines))
          (lines_of-last at.taken line front some ∙ sym (append-nil (lines ++ last ∷ [])))
          ∙ slice_get-next lines last [];
      front = front;
    }

pub line_within : (lines : List (List ℕ)) (n : ℕ) (line : List ℕ) → IsLineAt lines n line → n < length lines
line_within lines n line at = slice_get_within lines n at.whole at.stands
