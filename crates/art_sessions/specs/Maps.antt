-- What one sorted map answers to lines, where the table may refuse a command for want of room or of turns.
use Rattle.std.specs.Prelude.{◌≡◌, ℕ, List, [], ◌∷◌, Option, Some, None, Result, Ok, Err, ⊤}
use Rattle.std.specs.Option.{option_map}
use Rattle.art_key.specs.Columns.{order_of, tuple_fault}
use Rattle.art_key.specs.declared.columns.Column.{Column}
use Rattle.art_model.specs.Answers.{answer}
use Rattle.art_model.specs.declared.commands.Command.{Command}
use Rattle.art_model.specs.declared.commands.Command.TheVariants.{Insert, Remove, Get, Scan}
use Rattle.art_model.specs.declared.commands.Reply.{Reply}
use Rattle.art_model.specs.declared.rows.Row.{Row}
use Rattle.art_server.specs.ArtScan.Scans.{scan_fault}
use Rattle.art_lines.specs.Lines.{line_says}
use Rattle.art_lines.specs.Refusals.{line_refusal}
use Rattle.art_server.specs.ArtScan.Refusals.{scan_refusal}
use Rattle.art_server.specs.ArtRefusal.Refusals.{value_refusal}
use Rattle.art_lines.specs.declared.lines.LineFault.{LineFault}
use Rattle.art_server.specs.ArtRefusal.declared.refusals.Refusal.{Refusal}
use Rattle.art_server.specs.ArtRefusal.declared.refusals.Refusal.TheVariants.{Busy, Full, Crowded, Exhausted}

-- what is wrong with the command itself: its tuples, its range, its limit
abbrev pub command_fault : List Column → Command → Option Refusal
command_fault schema (Insert t value) = option_map value_refusal (tuple_fault schema t.items)
command_fault schema (Remove t) = option_map value_refusal (tuple_fault schema t.items)
command_fault schema (Get t) = option_map value_refusal (tuple_fault schema t.items)
command_fault schema (Scan lo hi limit) = option_map scan_refusal (scan_fault schema lo hi limit)

-- a refusal for want of turns or of room
abbrev pub IsWant : Refusal → Type 0
IsWant Busy = ⊤
IsWant Full = ⊤
IsWant Crowded = ⊤
IsWant Exhausted = ⊤
IsWant refusal = ⊥

-- a command that is wrong is refused for that; another may be refused for want
abbrev pub IsGround : Option Refusal → Refusal → Type 0
IsGround (Some fault) refusal = refusal ≡ fault
IsGround None refusal = IsWant refusal

-- the sorted map answers the command; or it is refused, and the map stays
abbrev pub MapAnswers : List Column → Command → List Row → Result Reply Refusal → List Row → Type 0
MapAnswers schema command rows (Ok reply) after =
    (command_fault schema command ≡ None) × (reply ≡ (answer (order_of schema) command rows).0)
    × (after ≡ (answer (order_of schema) command rows).1)
MapAnswers schema command rows (Err refusal) after = IsGround (command_fault schema command) refusal × (after ≡ rows)

abbrev pub MapAnswersSaid : List Column → Result Command LineFault → List Row → Result Reply Refusal → List Row → Type 0
MapAnswersSaid schema (Ok command) rows reply after = MapAnswers schema command rows reply after
MapAnswersSaid schema (Err fault) rows reply after = (reply ≡ Err (line_refusal fault)) × (after ≡ rows)

-- lines one after another, each answered by the map as the line before left it
abbrev pub MapAnswersLines : List Column → List (List ℕ) → List Row → List (Result Reply Refusal) → List Row → Type 0
MapAnswersLines schema [] rows replies after = (replies ≡ []) × (after ≡ rows)
MapAnswersLines schema (line ∷ lines) rows replies after =
    (reply : Result Reply Refusal) × (others : List (Result Reply Refusal)) × (between : List Row)
    × (replies ≡ reply ∷ others) × MapAnswersSaid schema (line_says line) rows reply between × MapAnswersLines schema lines between others after
