-- Sessions of the passes of one table, and the one history that all of them are of.
use Rattle.std.specs.Prelude.{◌≡◌, ◌≢◌, ℕ, ◌≤◌, List, [], ◌∷◌, ◌++◌, length, map, take, Result}
use Rattle.art_key.specs.Histories.{IsLegal, replay}
use Rattle.art_key.specs.declared.columns.Column.{Column}
use Rattle.art_key.specs.declared.events.Event.{Event}
use Rattle.art_model.specs.declared.commands.Reply.{Reply}
use Rattle.art_server.specs.Sessions.{EndsBy, IsSession, begun, texts}
use Rattle.art_server.specs.Streams.{lines_of}
use Rattle.art_server.specs.ArtRefusal.declared.refusals.Refusal.{Refusal}
use Rattle.art_server.specs.declared.sessions.EndCause.TheVariants.{WriteFault}
use Rattle.art_server.specs.declared.sessions.SessionEnd.{SessionEnd}
use Rattle.art_sessions.specs.Points.{AllAt, GoesOnAt, asked_by}
use Rattle.art_step.specs.Views.{Member}
use Rattle.art_server.specs.ArtTable.Closing.{IsClosed, IsHere, places_from}
use Rattle.art_server.specs.ArtTable.Marks.{StartsWith}
use Rattle.art_server.specs.ArtTable.Tables.{IsPassOf, number_of, own_of, schema_in, seen_by}
use Rattle.art_server.specs.ArtTable.declared.closing.Closed.{Closed}
use Rattle.art_server.specs.ArtTable.declared.passes.Pass.{Pass}
use Rattle.art_server.specs.ArtTable.declared.tables.Table.{Table}

-- ---- sessions of a pass

-- what a session read, what it wrote, and how it ended
pub record Talk : Type 0 where
  pub read : List ℕ
  pub written : List ℕ
  pub end : SessionEnd

-- the pass p had these sessions, one after another, and is q then
abbrev pub HasTalks : Table → Pass → List Talk → Pass → Type 0
HasTalks t p [] q = q ≡ p
HasTalks t p (s ∷ ss) q = (m : Pass) × IsSession t s.read s.written p m s.end × HasTalks t m ss q

-- a pass before its sessions and after them
pub record Worker : Type 0 where
  pub before : Pass
  pub talks : List Talk
  pub after : Pass

-- ---- at places of a history

-- What was written are the texts of the replies to the lines that were begun, of which the last may be cut; and these are what one sorted
-- map answers at the places.
pub record PrintsAt (schema : List Column) (log : List Event) (n : ℕ) (s : Talk) (places : List ℕ) : Type 0 where
  pub replies : List (Result Reply Refusal)
  pub points : AllAt schema log n (asked_by (take (begun s.end) (lines_of s.read))) replies places
  pub within : begun s.end ≤ length (lines_of s.read)
  pub answered : (cut : List ℕ) × (s.written ≡ texts (take s.end.answered replies) ++ cut)
  pub begins : (rest : List ℕ) × (s.written ++ rest ≡ texts replies)
  pub whole : s.end.why ≢ WriteFault → s.written ≡ texts (take s.end.answered replies)
  pub cause : EndsBy s.end.why s.end.answered s.end.pending s.read

-- sessions one after another, each at the new places of its pass, after all that this had seen when the session began
abbrev pub AllPrintAt : Table → List Event → Pass → List Talk → Pass → List ℕ → Type 0
AllPrintAt t log p [] q places = (q ≡ p) × (places ≡ [])
AllPrintAt t log p (s ∷ ss) q places =
    (m : Pass) × (here : List ℕ) × (later : List ℕ) × (places ≡ here ++ later)
    × GoesOnAt t log p m here × PrintsAt (schema_in t) log (number_of p) s here × AllPrintAt t log m ss q later

-- the history has the events of the worker's sessions at these places, after those that its pass had made before, and no others of the pass
pub record SharesIn (t : Table) (log : List Event) (w : Worker) : Type 0 where
  pub places : List ℕ
  pub own : places_from (number_of w.before) 0 log ≡ own_of w.before ++ places
  pub begins : StartsWith log (seen_by t w.before)
  pub prints : AllPrintAt t log w.before w.talks w.after places

-- ---- the headline

-- One legal history, which leaves the rows of the close and has events of these passes alone. Each session's bytes print what one sorted
-- map answers to its lines at points of it.
pub record AreOneMap (t : Table) (workers : List Worker) (closed : Closed) : Type 0 where
  pub log : List Event
  pub legal : IsLegal (schema_in t) log
  pub rows : closed.rows.items ≡ replay (schema_in t) log
  pub each : (w : Worker) → Member w workers → SharesIn t log w
  pub whole : (e : Event) → Member e log → IsHere e.pass (map (λ (w : Worker). w.after) workers)

-- A table was closed with its passes, each of which had sessions.
abbrev pub SessionsAreOneMap : Type 0
SessionsAreOneMap = (t : Table) (workers : List Worker) (closed : Closed)
    → ((w : Worker) → Member w workers → IsPassOf t w.before × HasTalks t w.before w.talks w.after)
    → IsClosed t (map (λ (w : Worker). w.after) workers) closed
    → AreOneMap t workers closed
