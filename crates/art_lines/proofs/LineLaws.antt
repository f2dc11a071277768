-- What a line says, where it is long or short, and where it is read or not.
use Rattle.std.proofs.Common.{◌≡◌, ◌≢◌, ℕ, ◌<◌, ◌≤◌, nat_lt, Bool, true, false, List, [], ◌∷◌, length, take, get_or, Option, Some, None, Err, IsUtf8, refl, sym, ap, ◌∙◌, arith}
use Rattle.std.proofs.lemmas.Bool.Decides.{Decides-ltb, nat_tests}
use Rattle.std.proofs.lemmas.List.{length-take, take_all}
use Rattle.std.proofs.lemmas.Str.{IsUtf8-from_is_utf8, is_utf8-from_IsUtf8}
use Rattle.std.specs.Str.{is_utf8}
use Rattle.serde_json.proofs.OnLiterals.{serde_json_on_literals}
use Rattle.serde_json.specs.Data.{Data}
use Rattle.serde_json.specs.Read.{read}
use Rattle.serde_json.specs.View.{view, items_view}
use Rattle.serde_json.specs.declared.value.Value.{Value}
use Rattle.art_lines.specs.declared.lines.LineFault.TheVariants.{BadLine, LineTooLong, BadCommand}
use Rattle.art_lines.specs.Lines.{data_of_line, data_says, command_said, line_says, insert_said, insert_of, scan_said, scan_of, tuple_alone, elements_in, tuple_in, number_said}

-- a line too long is so, whatever it says
pub line_says-long : (line : List ℕ) → 4096 < length line → line_says line ≡ Err LineTooLong
line_says-long line long = rw ((Decides-ltb 4096 (length line)).1 long)

not_long : (line : List ℕ) (b : Bool) → nat_lt 4096 (length line) ≡ b → length line ≤ 4096 → b ≡ false
not_long line false e short = refl
not_long line true e short = let long = (Decides-ltb 4096 (length line)).0 e in absurd (omega arith)

line_says-short : (line : List ℕ) → length line ≤ 4096 → line_says line ≡ data_says (data_of_line line)
line_says-short line short = rw (not_long line _ refl short)

-- a line that is read says what its data says
pub line_says-read : (line : List ℕ) (d : Data) → length line ≤ 4096 → IsUtf8 line → read line ≡ Some d → line_says line ≡ command_said d
line_says-read line d short text is = line_says-short line short ∙ rw (is_utf8-from_IsUtf8 line text, is)

-- no text is empty
pub read_some : (line : List ℕ) (d : Data) → read line ≡ Some d → 0 < length line
unfolding serde_json_on_literals
read_some [] d is = let none : ◌≡◌ {A = Option Data} None (Some d) = is in absurd cc
read_some (b ∷ line) d _ = omega arith

data_of_line-refused : (line : List ℕ) (b : Bool) → is_utf8 line ≡ b → (IsUtf8 line → read line ≡ None) → data_of_line line ≡ None
data_of_line-refused line true e none = rw (e, none (IsUtf8-from_is_utf8 line e))
data_of_line-refused line false e none = rw e

-- a line that is not read is bad
pub line_says-refused : (line : List ℕ) → length line ≤ 4096 → (IsUtf8 line → read line ≡ None) → line_says line ≡ Err BadLine
line_says-refused line short none = line_says-short line short ∙ ap data_says (data_of_line-refused line _ refl none)

alike_at : (line : List ℕ) (b : Bool) → nat_lt 4096 (length line) ≡ b → line_says (take 4097 line) ≡ line_says line
alike_at line true e =
    let long = (Decides-ltb 4096 (length line)).0 e in
    let kept : 4096 < length (take 4097 line) = omega (arith, length-take 4097 line) in
    line_says-long (take 4097 line) kept ∙ sym (line_says-long line long)
alike_at line false e =
    let short : length line ≤ 4097 = grind (arith, nat_tests) in
    ap line_says (take_all 4097 line short)

-- what stands after the first 4,097 bytes changes nothing
pub line_says-take : (line : List ℕ) → line_says (take 4097 line) ≡ line_says line
line_says-take line = alike_at line _ refl

-- ---- what stands in arrays of one length or another

pub tuple_alone-other : (vs : List Value) → length vs ≢ 1 → tuple_alone (items_view vs) ≡ Err BadCommand
tuple_alone-other [] other = refl
tuple_alone-other (v ∷ []) other = absurd (other refl)
tuple_alone-other (v ∷ w ∷ vs) other = refl

pub tuple_alone-one : (vs : List Value) (v : Value) → length vs ≡ 1 → v ≡ get_or vs 0 v → tuple_alone (items_view vs) ≡ tuple_in (view v)
tuple_alone-one [] v one is = absurd (omega arith)
tuple_alone-one (w ∷ []) v one is = rw is
tuple_alone-one (w ∷ x ∷ vs) v one is = absurd (omega arith)

pub insert_said-other : (vs : List Value) → length vs ≢ 2 → insert_said (items_view vs) ≡ Err BadCommand
insert_said-other [] other = refl
insert_said-other (v ∷ []) other = refl
insert_said-other (v ∷ w ∷ []) other = absurd (other refl)
insert_said-other (v ∷ w ∷ x ∷ vs) other = refl

pub insert_said-two : (vs : List Value) (v w : Value) → length vs ≡ 2 → v ≡ get_or vs 0 v → w ≡ get_or vs 1 w
    → insert_said (items_view vs) ≡ insert_of (number_said (view w)) (tuple_in (view v))
insert_said-two [] v w two is also = absurd (omega arith)
insert_said-two (x ∷ []) v w two is also = absurd (omega arith)
insert_said-two (x ∷ y ∷ []) v w two is also = rw (is, also)
insert_said-two (x ∷ y ∷ z ∷ vs) v w two is also = absurd (omega arith)

pub scan_said-other : (vs : List Value) → length vs ≢ 3 → scan_said (items_view vs) ≡ Err BadCommand
scan_said-other [] other = refl
scan_said-other (v ∷ []) other = refl
scan_said-other (v ∷ w ∷ []) other = refl
scan_said-other (v ∷ w ∷ x ∷ []) other = absurd (other refl)
scan_said-other (v ∷ w ∷ x ∷ y ∷ vs) other = refl

pub scan_said-three : (vs : List Value) (u v w : Value) → length vs ≡ 3 → u ≡ get_or vs 0 u → v ≡ get_or vs 1 v → w ≡ get_or vs 2 w
    → scan_said (items_view vs) ≡ scan_of (elements_in (view u)) (elements_in (view v)) (number_said (view w))
scan_said-three [] u v w three first second third = absurd (omega arith)
scan_said-three (x ∷ []) u v w three first second third = absurd (omega arith)
scan_said-three (x ∷ y ∷ []) u v w three first second third = absurd (omega arith)
scan_said-three (x ∷ y ∷ z ∷ []) u v w three first second third = rw (first, second, third)
scan_said-three (x ∷ y ∷ z ∷ more ∷ vs) u v w three first second third = absurd (omega arith)

pub ruleset lone_items = (tuple_alone-other, tuple_alone-one)

pub ruleset insert_items = (insert_said-other, insert_said-two)

pub ruleset scan_items = (scan_said-other, scan_said-three)
