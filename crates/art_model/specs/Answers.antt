-- What the sorted map answers to a command: the reply, and the rows after it.
use Rattle.std.specs.Prelude.{ℕ, List, ◌≤◌, ◌==◌, Option, Some, None, length, take, ⊤}
use Rattle.art_model.specs.declared.commands.Answer.{Answer}
use Rattle.art_model.specs.declared.commands.Answer.TheVariants as short
use Rattle.art_model.specs.declared.commands.Command.{Command}
use Rattle.art_model.specs.declared.commands.Command.TheVariants.{Insert, Remove, Get, Scan}
use Rattle.art_model.specs.declared.commands.Reply.{Reply}
use Rattle.art_model.specs.declared.commands.Reply.TheVariants.{Inserted, Present, Removed, Absent, Found, Rows}
use Rattle.art_model.specs.declared.rows.Row.{Row}
use Rattle.art_model.specs.Rows.{Order, Tuple, value_at, with_row, without_row, rows_between}

-- a reply, and the rows after it
abbrev pub Outcome : Type 0
Outcome = Reply × List Row

-- An insert adds its row where none with the tuple stands; one that stands stays.
abbrev pub insert_answer : Order → List Row → Tuple → ℕ → Option ℕ → Outcome
insert_answer order rows t v None = (Inserted, with_row order rows t v)
insert_answer order rows t v (Some there) = (Present there, rows)

-- A remove takes the row with the tuple out, where one stands.
abbrev pub remove_answer : Order → List Row → Tuple → Option ℕ → Outcome
remove_answer order rows t None = (Absent, rows)
remove_answer order rows t (Some there) = (Removed there, without_row order rows t)

abbrev pub get_answer : List Row → Option ℕ → Outcome
get_answer rows None = (Absent, rows)
get_answer rows (Some there) = (Found there, rows)

-- A scan lists the first rows of its range, and says whether there are as many as the limit.
abbrev pub scan_answer : List Row → List Row → ℕ → Outcome
scan_answer rows listed limit = (Rows (record { items = listed }) (length listed == limit), rows)

abbrev pub answer : Order → Command → List Row → Outcome
answer order (Insert t v) rows = insert_answer order rows t v (value_at rows t)
answer order (Remove t) rows = remove_answer order rows t (value_at rows t)
answer order (Get t) rows = get_answer rows (value_at rows t)
answer order (Scan lo hi limit) rows = scan_answer rows (take limit (rows_between order rows lo hi)) limit

-- a scan asks for at most so many rows as a reply has places for
abbrev pub HasRoomFor : Command → Type 0
HasRoomFor (Insert t v) = ⊤
HasRoomFor (Remove t) = ⊤
HasRoomFor (Get t) = ⊤
HasRoomFor (Scan lo hi limit) = limit ≤ 100

-- the reply that an answer is
abbrev pub reply_of_answer : Answer → Reply
reply_of_answer short.Inserted = Inserted
reply_of_answer (short.Present value) = Present value
reply_of_answer (short.Removed value) = Removed value
reply_of_answer short.Absent = Absent
reply_of_answer (short.Found value) = Found value
