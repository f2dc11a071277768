-- A step of an attempt.
use Rattle.std.specs.Option.{option_map}
use Rattle.std.specs.Prelude.{◌≡◌, ◌⊎◌, ℕ, ◌+◌, ◌≤◌, List, Option, Some, None, Result, Err}
use Rattle.art_change.specs.Calls.{outcome_at, restarts_in}
use Rattle.art_change.specs.Made.{MakesStep}
use Rattle.art_change.specs.declared.outcomes.Outcome.{Outcome}
use Rattle.art_key.specs.declared.columns.Column.{Column}
use Rattle.art_key.specs.declared.faults.ValueFault.{ValueFault}
use Rattle.art_shared.specs.SamePass.{SamePass}
use Rattle.art_step.specs.declared.views.Sizes.{Sizes}
use Rattle.art_step.specs.declared.views.View.{View}
use Rattle.art_table.specs.Jobs as jobs
use Rattle.art_table.specs.Calls.{Sees}
use Rattle.art_table.specs.Tables.{IsPassOf, caller_of, schema_in, view_of}
use Rattle.art_table.specs.declared.attempts.Attempt.{Attempt}
use Rattle.art_table.specs.declared.attempts.Progress.{Progress}
use Rattle.art_table.specs.declared.attempts.Progress.TheVariants.{Made, Ended}
use Rattle.art_table.specs.declared.faults.Fault.{Fault}
use Rattle.art_table.specs.declared.faults.Fault.TheVariants.{Value}
use Rattle.art_table.specs.declared.jobs.Outcome.{Outcome as Answer}
use Rattle.art_table.specs.declared.passes.Pass.{Pass}
use Rattle.art_table.specs.declared.tables.Table.{Table}

-- from the view v to w one step was made, of this kind, with an event or without; or none
abbrev pub Progresses : Sizes → View → View → Progress → Type 0
Progresses z v w (Made kind event) = MakesStep z v w (record { kind = kind; event = event })
Progresses z v w Ended = w ≡ v

-- no step is left: its tuple was refused, or its call has ended
abbrev pub HasStopped : Attempt → Type 0
HasStopped a = ((f : ValueFault) × (a.refused ≡ Some f)) ⊎ ((o : Outcome) × (outcome_at (caller_of a.pass) ≡ Some o))

abbrev pub answer_after : List Column → Pass → Option ValueFault → Option (Result Answer Fault)
answer_after schema p (Some fault) = Some (Err (Value fault))
answer_after schema p None = option_map (jobs.result_of schema) (outcome_at (caller_of p))

-- how it ended, if no step is left
abbrev pub answer_of : Table → Attempt → Option (Result Answer Fault)
answer_of t a = answer_after (schema_in t) a.pass a.refused

abbrev pub restarts_unless_refused : Pass → Option ValueFault → ℕ
restarts_unless_refused p (Some fault) = 0
restarts_unless_refused p None = restarts_in (caller_of p)

-- how often it began anew: never, where its tuple was refused, as no step was made
abbrev pub restarts_of : Attempt → ℕ
restarts_of a = restarts_unless_refused a.pass a.refused

-- the call of the pass p was given up, in so many turns: the pass is q then, with nothing told
pub record IsGivenUp (t : Table) (turns : ℕ) (p q : Pass) : Type 0 where
  pub pass : IsPassOf t q
  pub same : SamePass p.seat q.seat
  pub sees : Sees t p q None
  pub steps : (view_of q).steps ≤ (view_of p).steps + turns + 1000
