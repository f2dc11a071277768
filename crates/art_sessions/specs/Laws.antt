-- The laws of a table of one pass.
use Rattle.std.specs.Prelude.{◌≡◌, ℕ, List, [], ◌∷◌, Result}
use Rattle.std.specs.List.{AllByRecursion}
use Rattle.art_sessions.specs.Maps.{MapAnswersLines}
use Rattle.art_key.specs.Histories.{replay}
use Rattle.art_model.specs.declared.commands.Reply.{Reply}
use Rattle.art_server.specs.Sessions.{AnswersLines}
use Rattle.art_server.specs.ArtRefusal.declared.refusals.Refusal.{Refusal}
use Rattle.art_server.specs.ArtTable.Closing.{IsClosed}
use Rattle.art_server.specs.ArtTable.Tables.{IsPassOf, number_of, schema_in, seen_by, sizes_in}
use Rattle.art_server.specs.ArtTable.declared.closing.Closed.{Closed}
use Rattle.art_server.specs.ArtTable.declared.passes.Pass.{Pass}
use Rattle.art_server.specs.ArtTable.declared.tables.Table.{Table}

-- the pass has seen its own events alone
abbrev pub SawItselfAlone : Table → Pass → Type 0
SawItselfAlone t q = AllByRecursion (λ e. e.pass ≡ number_of q) (seen_by t q)

-- the table has one pass, which is this
pub record IsOnlyPass (t : Table) (p : Pass) : Type 0 where
  pub pass : IsPassOf t p
  pub one : (sizes_in t).passes ≡ 1
  pub first : number_of p ≡ 0

-- The only pass of its table, p, answered lines and is q then: that is its only pass still, has seen its own events alone, and one sorted
-- map gives these replies, from the rows that what p had seen leaves to those that what q has seen leaves.
pub record IsOneMap (t : Table) (lines : List (List ℕ)) (p q : Pass) (replies : List (Result Reply Refusal)) : Type 0 where
  pub only : IsOnlyPass t q
  pub alone : SawItselfAlone t q
  pub map : MapAnswersLines (schema_in t) lines (replay (schema_in t) (seen_by t p)) replies (replay (schema_in t) (seen_by t q))

abbrev pub SessionsAloneAreOneMap : Type 0
SessionsAloneAreOneMap = (t : Table) (lines : List (List ℕ)) (p q : Pass) (replies : List (Result Reply Refusal))
    → IsOnlyPass t p → AnswersLines t lines p replies q → IsOneMap t lines p q replies

-- A table was closed with its one pass: that has seen its own events alone, and the rows are those that they leave.
abbrev pub ClosedAlone : Type 0
ClosedAlone = (t : Table) (q : Pass) (closed : Closed) → IsPassOf t q → IsClosed t (q ∷ []) closed
    → SawItselfAlone t q × (closed.rows.items ≡ replay (schema_in t) (seen_by t q))
