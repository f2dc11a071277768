-- What a line of a schedule says.
use Rattle.std.specs.Prelude.{⊤, ◌<◌, ℕ, ◌+◌, ◌-◌, ◌^◌, ◌==◌, ◌&&◌, nat_lt, nat_le, Bool, if◌then◌else◌, List, [], ◌∷◌, length, drop, map, codes, bytes_eq, Option, Some, None, option_map}
use Rattle.std.specs.Char.{is_ascii_digit}
use Rattle.std.specs.Int.Digits.{number_from_digits}
use Rattle.std.specs.List.{before_first, find, list_all, position_from}
use Rattle.art_schedule.specs.declared.lines.Line.{Line}
use Rattle.art_schedule.specs.declared.lines.Mark.{Mark}
use Rattle.art_schedule.specs.declared.lines.Mark.TheVariants.{Kind, Event}
use Rattle.art_schedule.specs.declared.lines.Order.{Order}
use Rattle.art_schedule.specs.declared.lines.Order.TheVariants.{Start, Until, Step, End}
use Rattle.art_step.specs.StepNames.{step_name}
use Rattle.art_step.specs.declared.step_kinds.StepKind.TheVariants as kind

-- ---- what can be said

-- what a pass is to do: a command is started in so many turns, by its text; steps are made until so many have the mark; so many steps
-- are made; or all that are left
pub data Said : Type 0 where
  start : ℕ → List ℕ → Said
  until : Mark → ℕ → Said
  step : ℕ → Said
  end : Said

-- what an order says, whose text stands in the line
abbrev pub said_by : Order → Said
said_by (Start turns text) = start turns text.now
said_by (Until mark times) = until mark times
said_by (Step times) = step times
said_by End = end

-- the pass by its place, and what it is to do
abbrev pub told_by : Line → ℕ × Said
told_by line = (line.pass, said_by line.order)

-- ---- words and numbers

abbrev pub is_blank : ℕ → Bool
is_blank b = b == 32

-- what stands before the first blank, or all
abbrev pub first_word : List ℕ → List ℕ
first_word line = before_first is_blank line

-- what stands after the first blank, where there is one
abbrev pub after_word : List ℕ → Option (List ℕ)
after_word line = option_map (λ i. drop (i + 1) line) (position_from is_blank 0 line)

infixl 10 ◌>>=◌
-- the next part, where there is this one
abbrev pub ◌>>=◌ : {A B : Type 0} → Option A → (A → Option B) → Option B
None >>= next = None
Some a >>= next = next a

-- the number that digits are, read in tens
abbrev pub number_of : List ℕ → ℕ
number_of digits = number_from_digits 10 (map (λ b. b - 48) digits)

-- a number below the limit, if there is one
abbrev pub number_below : ℕ → ℕ → Option ℕ
number_below limit n = if nat_lt n limit then Some n else None

-- a row of digits, of which there is one at least, is a number of 32 bits
abbrev pub number_said : List ℕ → Option ℕ
number_said [] = None
number_said (b ∷ bs) = if list_all is_ascii_digit (b ∷ bs) then number_below (2 ^ 32) (number_of (b ∷ bs)) else None

-- a number from 1 on
abbrev pub some_times : ℕ → Option ℕ
some_times n = if nat_lt 0 n then Some n else None

abbrev pub times_said : List ℕ → Option ℕ
times_said digits = do
  n ← number_said digits
  some_times n

-- ---- names

-- the name of a kind of step, or the word for a step that makes an event
abbrev pub mark_word : Mark → List ℕ
mark_word (Kind kind) = step_name kind
mark_word Event = codes "event"

--- all that a line can wait for
abbrev pub marks : List Mark
marks = Kind kind.Begin ∷ Kind kind.Read ∷ Kind kind.Check ∷ Kind kind.Upgrade ∷ Kind kind.Write ∷ Kind kind.Commit ∷
    Kind kind.Release ∷ Kind kind.Claim ∷ Kind kind.Take ∷ Kind kind.Give ∷ Kind kind.Epoch ∷ Kind kind.Pin ∷ Kind kind.Advance ∷
    Kind kind.Watch ∷ Kind kind.Anchor ∷ Event ∷ []

abbrev pub mark_said : List ℕ → Option Mark
mark_said word = find (λ mark. bytes_eq (mark_word mark) word) marks

-- the eight passes have the names A to H
abbrev pub pass_said : List ℕ → Option ℕ
pass_said [] = None
pass_said (b ∷ []) = if nat_le 65 b && nat_le b 72 then Some (b - 65) else None
pass_said (b ∷ c ∷ cs) = None

-- ---- orders: the word, and what stands after it

-- TURNS JSON
abbrev pub start_said : List ℕ → Option Said
start_said rest = do
  turns ← number_said (first_word rest)
  text ← after_word rest
  Some (start turns text)

-- how often a mark is waited for: once, where no number stands after it
abbrev pub often_said : Option (List ℕ) → Option ℕ
often_said None = Some 1
often_said (Some digits) = times_said digits

-- WORD or WORD n
abbrev pub until_said : List ℕ → Option Said
until_said rest = do
  mark ← mark_said (first_word rest)
  times ← often_said (after_word rest)
  Some (until mark times)

-- n
abbrev pub step_said : List ℕ → Option Said
step_said rest = do
  times ← times_said rest
  Some (step times)

-- nothing stands after `end`; after each other word something does
abbrev pub word_said : List ℕ → Option (List ℕ) → Option Said
word_said word None = if bytes_eq word (codes "end") then Some end else None
word_said word (Some rest) =
    if bytes_eq word (codes "start") then start_said rest
    else if bytes_eq word (codes "until") then until_said rest
    else if bytes_eq word (codes "step") then step_said rest
    else None

abbrev pub order_said : List ℕ → Option Said
order_said line = word_said (first_word line) (after_word line)

-- the name of a pass, and its order
abbrev pub line_said : List ℕ → Option (ℕ × Said)
line_said line = do
  pass ← pass_said (first_word line)
  rest ← after_word line
  said ← order_said rest
  Some (pass, said)

-- a line that says an order has at most 4,096 bytes
abbrev pub line_order : List ℕ → Option (ℕ × Said)
line_order line = if nat_le (length line) 4096 then line_said line else None

-- a mark is waited for once at least
abbrev pub HasTimes : Order → Type 0
HasTimes (Start turns text) = ⊤
HasTimes (Until mark times) = 0 < times
HasTimes (Step times) = ⊤
HasTimes End = ⊤
