-- What commands are answered at points of a history, by one sorted map.
use Rattle.std.specs.Prelude.{◌≡◌, ◌⊎◌, ℕ, ◌+◌, ◌<◌, ◌≤◌, ◌==◌, List, [], ◌∷◌, ◌++◌, length, map, take, Some, None, Result, Ok, Err}
use Rattle.std.specs.List.{AllByRecursion, slice_get}
use Rattle.art_key.specs.Columns.{order_of}
use Rattle.art_key.specs.Histories.{bound_at, replay}
use Rattle.art_key.specs.declared.bounds.Bound.{Bound}
use Rattle.art_key.specs.declared.columns.Column.{Column}
use Rattle.art_key.specs.declared.events.Deed.{Deed}
use Rattle.art_key.specs.declared.events.Deed.TheVariants.{Done, Look}
use Rattle.art_key.specs.declared.events.Event.{Event}
use Rattle.art_lines.specs.Lines.{line_says}
use Rattle.art_lines.specs.declared.lines.LineFault.{LineFault}
use Rattle.art_model.specs.Rows.{Tuple}
use Rattle.art_model.specs.Scans.{IsScanOf}
use Rattle.art_model.specs.declared.commands.Command.{Command}
use Rattle.art_model.specs.declared.commands.Command.TheVariants.{Insert, Remove, Get, Scan}
use Rattle.art_model.specs.declared.commands.Reply.{Reply}
use Rattle.art_model.specs.declared.commands.Reply.TheVariants.{Rows}
use Rattle.art_model.specs.declared.rows.Row.{Row}
use Rattle.art_server.specs.ArtScan.Scans.{HasListed}
use Rattle.art_server.specs.ArtScan.Tiles.{AreTiles, Tile}
use Rattle.art_server.specs.ArtScan.declared.scans.More.{More}
use Rattle.art_lines.specs.Refusals.{line_refusal}
use Rattle.art_server.specs.Sessions.{AnswersCommandIn, most_turns}
use Rattle.art_server.specs.ArtRefusal.declared.refusals.Refusal.{Refusal}
use Rattle.art_server.specs.ArtRefusal.declared.refusals.Refusal.TheVariants.{Busy}
use Rattle.art_sessions.specs.Maps.{IsGround, MapAnswers, command_fault}
use Rattle.art_server.specs.ArtTable.Marks.{StartsWith}
use Rattle.art_server.specs.ArtTable.Tables.{IsPassOf, number_of, own_of, schema_in, seen_by}
use Rattle.art_server.specs.ArtTable.declared.passes.Pass.{Pass}
use Rattle.art_server.specs.ArtTable.declared.tables.Table.{Table}

-- ---- points of a history

-- the rows just before a place
abbrev pub rows_at : List Column → List Event → ℕ → List Row
rows_at schema log k = replay schema (take k log)

-- at the place stands this event of the pass n
abbrev pub StandsAt : List Event → ℕ → ℕ → Deed → Type 0
StandsAt log n k what = slice_get log k ≡ Some (record { pass = n; what = what })

-- ---- one command

-- An insert, a removal or a get. Its one event stands at the place with this reply: that is what the map answers there, and the map goes on
-- as that says. Or it was refused with its ground, and made no event.
abbrev pub CallAt : List Column → List Event → ℕ → Command → Result Reply Refusal → List ℕ → Type 0
CallAt schema log n c (Ok reply) places =
    (k : ℕ) × (places ≡ k ∷ []) × StandsAt log n k (Done c reply)
    × MapAnswers schema c (rows_at schema log k) (Ok reply) (rows_at schema log (k + 1))
CallAt schema log n c (Err refusal) places = (places ≡ []) × IsGround (command_fault schema c) refusal

-- looks stand at these places, each after the events up to its place
abbrev pub AreAt : List Event → ℕ → List Tile → List ℕ → Type 0
AreAt log n [] places = places ≡ []
AreAt log n (tile ∷ tiles) [] = ⊥
AreAt log n (tile ∷ tiles) (k ∷ ks) =
    (tile.before ≡ take k log) × StandsAt log n k (Look tile.lo tile.hi tile.row) × AreAt log n tiles ks

-- they tile a range from the tuple lo on
pub record TilesAt (schema : List Column) (log : List Event) (n : ℕ) (lo : Tuple) (reached : Bound) (tiles : List Tile) (places : List ℕ)
    : Type 0 where
  pub at : AreAt log n tiles places
  pub tiled : AreTiles schema (bound_at schema lo) reached tiles

-- a scan that lists these rows: its looks found them, and they are what it owes over the rows at the places of its looks
pub record ListsAt (schema : List Column) (log : List Event) (n : ℕ) (lo hi : Tuple) (limit : ℕ) (rows : List Row) (places : List ℕ)
    : Type 0 where
  pub tiles : List Tile
  pub reached : Bound
  pub more : More
  pub looks : TilesAt schema log n lo reached tiles places
  pub listed : HasListed schema lo hi limit reached tiles rows more
  pub owed : IsScanOf (order_of schema) (map (rows_at schema log) places) lo hi limit rows

-- a scan that was refused: it is wrong, and made no look; or its turns were used after some looks
abbrev pub LeavesOffAt : List Column → List Event → ℕ → Tuple → Tuple → ℕ → Refusal → List ℕ → Type 0
LeavesOffAt schema log n lo hi limit refusal places =
    ((command_fault schema (Scan lo hi limit) ≡ Some refusal) × (places ≡ []))
    ⊎ ((command_fault schema (Scan lo hi limit) ≡ None) × (refusal ≡ Busy)
    × ((tiles : List Tile) × (reached : Bound) × TilesAt schema log n lo reached tiles places))

abbrev pub ScanAt : List Column → List Event → ℕ → Tuple → Tuple → ℕ → Result Reply Refusal → List ℕ → Type 0
ScanAt schema log n lo hi limit (Ok reply) places =
    (command_fault schema (Scan lo hi limit) ≡ None)
    × ((rows : List Row) × (reply ≡ Rows (record { items = rows }) (length rows == limit)) × ListsAt schema log n lo hi limit rows places)
ScanAt schema log n lo hi limit (Err refusal) places = LeavesOffAt schema log n lo hi limit refusal places

abbrev pub CommandAt : List Column → List Event → ℕ → Command → Result Reply Refusal → List ℕ → Type 0
CommandAt schema log n (Insert t v) reply places = CallAt schema log n (Insert t v) reply places
CommandAt schema log n (Remove t) reply places = CallAt schema log n (Remove t) reply places
CommandAt schema log n (Get t) reply places = CallAt schema log n (Get t) reply places
CommandAt schema log n (Scan lo hi limit) reply places = ScanAt schema log n lo hi limit reply places

-- what says no command has its refusal, and makes no event
abbrev pub SaidAt : List Column → List Event → ℕ → Result Command LineFault → Result Reply Refusal → List ℕ → Type 0
SaidAt schema log n (Ok command) reply places = CommandAt schema log n command reply places
SaidAt schema log n (Err fault) reply places = (reply ≡ Err (line_refusal fault)) × (places ≡ [])

-- ---- commands one after another

-- what a pass is asked: a command, or what is wrong with the line that should say one; and the turns that it gets
pub record Asked : Type 0 where
  pub says : Result Command LineFault
  pub turns : ℕ

-- lines, as a session asks them
abbrev pub asked_by : List (List ℕ) → List Asked
asked_by lines = map (λ line. record { says = line_says line; turns = most_turns }) lines

-- the pass p did the command in so many turns, was told this reply, and is q then
abbrev pub AnswersSaidIn : Table → Result Command LineFault → ℕ → Pass → Result Reply Refusal → Pass → Type 0
AnswersSaidIn t (Ok command) turns p reply q = AnswersCommandIn t command turns p reply q
AnswersSaidIn t (Err fault) turns p reply q = (reply ≡ Err (line_refusal fault)) × (q ≡ p)

-- one after another, each by the pass as the one before left it
abbrev pub AnswersAll : Table → List Asked → Pass → List (Result Reply Refusal) → Pass → Type 0
AnswersAll t [] p replies q = (replies ≡ []) × (q ≡ p)
AnswersAll t (ask ∷ asks) p replies q =
    (reply : Result Reply Refusal) × (others : List (Result Reply Refusal)) × (m : Pass)
    × (replies ≡ reply ∷ others) × AnswersSaidIn t ask.says ask.turns p reply m × AnswersAll t asks m others q

-- at places of a history, those of each before those of the next
abbrev pub AllAt : List Column → List Event → ℕ → List Asked → List (Result Reply Refusal) → List ℕ → Type 0
AllAt schema log n [] replies places = (replies ≡ []) × (places ≡ [])
AllAt schema log n (ask ∷ asks) replies places =
    (reply : Result Reply Refusal) × (others : List (Result Reply Refusal)) × (here : List ℕ) × (later : List ℕ)
    × (replies ≡ reply ∷ others) × (places ≡ here ++ later) × SaidAt schema log n ask.says reply here
    × AllAt schema log n asks others later

-- ---- the events of a pass

-- from one place on, and before another
abbrev pub IsWithin : ℕ → ℕ → ℕ → Type 0
IsWithin from to k = (from ≤ k) × (k < to)

-- The pass p goes on as q, whose new events are at these places of the history, and no others: after all that p had seen, and among what q
-- has seen.
pub record GoesOnAt (t : Table) (log : List Event) (p q : Pass) (places : List ℕ) : Type 0 where
  pub pass : IsPassOf t q
  pub number : number_of q ≡ number_of p
  pub begins : StartsWith log (seen_by t q)
  pub own : own_of q ≡ own_of p ++ places
  pub within : AllByRecursion (IsWithin (length (seen_by t p)) (length (seen_by t q))) places

-- A pass that was p was asked commands and is q then; a history begins with what q has seen. The new events of the pass are at places at
-- which one sorted map gives its replies.
abbrev pub CommandsArePoints : Type 0
CommandsArePoints = (t : Table) (asks : List Asked) (p q : Pass) (replies : List (Result Reply Refusal)) (log : List Event)
    → IsPassOf t p → AnswersAll t asks p replies q → StartsWith log (seen_by t q)
    → (places : List ℕ) × GoesOnAt t log p q places × AllAt (schema_in t) log (number_of p) asks replies places
