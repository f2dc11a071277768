-- What a pass told in a load: its new own events, by the kinds of their replies.
use Rattle.std.specs.Prelude.{◌≡◌, ℕ, List, length, Option, Some, None, Result, Ok}
use Rattle.std.specs.List.{AllByRecursion, slice_get, sum_by}
use Rattle.art_key.specs.declared.events.Deed.{Deed}
use Rattle.art_key.specs.declared.events.Deed.TheVariants.{Done, Look}
use Rattle.art_key.specs.declared.events.Event.{Event}
use Rattle.art_load.specs.Counts.{absent_in, answered_of, found_in, inserted_in, present_in, removed_in}
use Rattle.art_load.specs.Loads.{IsCall, Loads}
use Rattle.art_load.specs.declared.counts.Counts.{Counts}
use Rattle.art_model.specs.declared.commands.Command.{Command}
use Rattle.art_model.specs.declared.commands.Reply.{Reply}
use Rattle.art_sessions.specs.ArtServer.ArtRefusal.declared.refusals.Refusal.{Refusal}
use Rattle.art_sessions.specs.Points.{GoesOnAt}
use Rattle.art_table.specs.Marks.{StartsWith}
use Rattle.art_table.specs.Tables.{IsPassOf, seen_by}
use Rattle.art_table.specs.declared.passes.Pass.{Pass}
use Rattle.art_table.specs.declared.tables.Table.{Table}

-- what f says of an event's reply: a look has none
abbrev pub told_of : (Result Reply Refusal → ℕ) → Deed → ℕ
told_of f (Done command reply) = f (Ok reply)
told_of f (Look lo hi row) = 0

-- the same of an event
abbrev pub told_by : (Result Reply Refusal → ℕ) → Event → ℕ
told_by f e = told_of f e.what

-- the same of an event, if there is one
abbrev pub told_in : (Result Reply Refusal → ℕ) → Option Event → ℕ
told_in f None = 0
told_in f (Some e) = told_by f e

-- what f says of the reply of the event at a place
abbrev pub told_at : (Result Reply Refusal → ℕ) → List Event → ℕ → ℕ
told_at f log k = told_in f (slice_get log k)

-- the events at these places: of each kind as many as were counted, and no others
pub record AreTold (log : List Event) (places : List ℕ) (c : Counts) : Type 0 where
  pub inserted : c.inserted ≡ sum_by (told_at inserted_in log) places
  pub present : c.present ≡ sum_by (told_at present_in log) places
  pub removed : c.removed ≡ sum_by (told_at removed_in log) places
  pub absent : c.absent ≡ sum_by (told_at absent_in log) places
  pub found : c.found ≡ sum_by (told_at found_in log) places
  pub all : length places ≡ answered_of c

-- A pass that was p and is q then has its new own events at places of a history, and they are what was counted.
pub record TellsOwn (t : Table) (log : List Event) (p q : Pass) (c : Counts) : Type 0 where
  pub places : List ℕ
  pub goes : GoesOnAt t log p q places
  pub told : AreTold log places c

-- A thread that made calls told them as events of its own, in each history that begins with what its pass has seen.
abbrev pub LoadsTellOwn : Type 0
LoadsTellOwn = (t : Table) (commands : List Command) (p : Pass) (c : Counts) (q : Pass) (log : List Event)
    → IsPassOf t p → AllByRecursion IsCall commands → Loads t commands p c q → StartsWith log (seen_by t q) → TellsOwn t log p q c
