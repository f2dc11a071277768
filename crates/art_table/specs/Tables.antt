-- What contracts see of a table, and of a pass.
use Rattle.std.specs.List.{All}
use Rattle.std.specs.Prelude.{◌≡◌, ℕ, List}
use Rattle.art_change.specs.ArtAttempt.Trying.{IsLimited}
use Rattle.art_change.specs.Calls.{IsCaller, turns_left_in}
use Rattle.art_change.specs.declared.callers.Caller.{Caller}
use Rattle.art_key.specs.declared.columns.Column.{Column}
use Rattle.art_key.specs.declared.events.Event.{Event}
use Rattle.art_shared.specs.Tables as shared
use Rattle.art_shared.specs.Tables.{view_of_pass}
use Rattle.art_step.specs.Histories.{IsLegal, places}
use Rattle.art_step.specs.declared.views.Sizes.{Sizes}
use Rattle.art_step.specs.declared.views.View.{View}
use Rattle.art_table.specs.declared.passes.Pass.{Pass}
use Rattle.art_table.specs.declared.tables.Table.{Table}
use Rattle.art_typed.specs.Typed.{typed}

abbrev pub schema_in : Table → List Column
schema_in t = shared.schema_in t.shared

-- how many numbers each pool has, and how many passes there are
abbrev pub sizes_in : Table → Sizes
sizes_in t = shared.sizes_in t.shared

-- the counter at which the anchor's version word began
abbrev pub counter_in : Table → ℕ
counter_in t = shared.counter_in t.shared

-- what a pass knows of the words
abbrev pub view_of : Pass → View
view_of p = view_of_pass p.seat

abbrev pub number_of : Pass → ℕ
number_of p = (view_of p).pass

-- the call that it makes, and what that needs
abbrev pub caller_of : Pass → Caller
caller_of p = p.caller.value

-- how many turns were left of the get or the look that it made last, step by step or as a look
abbrev pub turns_left_by : Pass → ℕ
turns_left_by p = turns_left_in (caller_of p)

-- what it has seen: events of typed rows
abbrev pub seen_by : Table → Pass → List Event
seen_by t p = typed (schema_in t) (view_of p).seen

-- the places of its own events there
abbrev pub own_of : Pass → List ℕ
own_of p = (view_of p).own

-- the pass is one of the table, by the table's identity, whose pools are no larger than a table's may be; it is idle, holds nothing and has
-- nothing in hand; what it has seen is a legal history of keys that spell tuples, with its own events at their places
pub record IsPassOf (t : Table) (p : Pass) : Type 0 where
  pub of : shared.IsPassOf t.shared p.seat
  pub limited : IsLimited (sizes_in t)
  pub caller : IsCaller (sizes_in t) (view_of p) (caller_of p)
  pub legal : IsLegal (view_of p).seen
  pub all : places (number_of p) (view_of p).seen ≡ own_of p

-- passes of the table, whatever each of them did
abbrev pub AreOf : Table → List Pass → Type 0
AreOf t passes = All (IsPassOf t) passes
