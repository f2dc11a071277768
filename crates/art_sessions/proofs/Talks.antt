-- Sessions of passes of one table are of one map.
use Rattle.std.proofs.Common.{◌≡◌, ℕ, List, [], ◌∷◌, ◌++◌, map, append-nil, append_assoc, inl, inr, refl, sym, ap, ◌∙◌}
use Rattle.art_key.specs.declared.events.Event.{Event}
use Rattle.art_sessions.proofs.Goes.{GoesOn, lines_asked, lines_go, starts_on, then_on}
use Rattle.art_sessions.proofs.Points.{commands_are_points}
use Rattle.art_sessions.specs.Points.{asked_by}
use Rattle.art_sessions.specs.Talks.{AllPrintAt, HasTalks, SessionsAreOneMap, Talk, Worker}
use Rattle.art_step.specs.Views.{Member}
use Rattle.art_server.specs.ArtTable.Closing.{places_from}
use Rattle.art_server.specs.ArtTable.Marks.{StartsWith}
use Rattle.art_server.specs.ArtTable.Tables.{IsPassOf, own_of, schema_in, seen_by}
use Rattle.art_server.specs.ArtTable.declared.passes.Pass.{Pass}
use Rattle.art_server.specs.ArtTable.declared.tables.Table.{Table}
use Rattle.art_typed.specs.Typed.{typed}

-- ---- the sessions of a pass

pub talks_go : (t : Table) (talks : List Talk) (p q : Pass) → IsPassOf t p → HasTalks t p talks q → GoesOn t p q
talks_go t [] p q was same = lines_go t [] p [] q was (refl, same)
talks_go t (s ∷ ss) p q was (m, session, rest) =
    let first = lines_go t _ p session.lines.replies m was session.lines.answers in
    then_on t p m q first (talks_go t ss m q first.pass rest)

talks_at : (t : Table) (talks : List Talk) (p q : Pass) (log : List Event) → IsPassOf t p → HasTalks t p talks q → StartsWith log (seen_by t q)
    → (places : List ℕ) × (own_of q ≡ own_of p ++ places) × AllPrintAt t log p talks q places
talks_at t [] p q log was same starts = ([], ap own_of same ∙ sym (append-nil (own_of p)), (same, refl))
talks_at t (s ∷ ss) p q log was (m, session, rest) starts =
    let first = lines_go t _ p session.lines.replies m was session.lines.answers in
    let others_go = talks_go t ss m q first.pass rest in
    let there = starts_on (seen_by t m) (seen_by t q) log others_go.starts starts in
    let here = commands_are_points t (asked_by _) p m session.lines.replies log was (lines_asked t _ p session.lines.replies m session.lines.answers) there in
    let later = talks_at t ss m q log first.pass rest starts in (
      here.0 ++ later.0,
      later.1 ∙ (ap (λ (l : List ℕ). l ++ later.0) here.1.own ∙ append_assoc (own_of p) here.0 later.0),
      (
        m,
        here.0,
        later.0,
        refl,
        here.1,
        record {
          replies = session.lines.replies;
          points = here.2;
          within = session.lines.within;
          answered = session.lines.answered;
          begins = session.lines.begins;
          whole = session.lines.whole;
          cause = session.cause;
        },
        later.2,
      ),
    )

-- ---- the close

is_among : (w : Worker) (ws : List Worker) → Member w ws → Member w.after (map (λ (x : Worker). x.after) ws)
is_among w [] none = none
is_among w (x ∷ ws) (inl same) = inl (ap (λ (y : Worker). y.after) same)
is_among w (x ∷ ws) (inr rest) = inr (is_among w ws rest)

pub sessions_are_one_map : SessionsAreOneMap
sessions_are_one_map t workers closed had c =
    let log = typed (schema_in t) c.log in
    record {
      log = log;
      legal = c.tells.legal;
      rows = c.rows;
      each = λ w i.
          let was = (had w i).0 in
          let talked = (had w i).1 in
          let among = is_among w workers i in
          let starts = c.tells.begins w.after among in
          let goes = talks_go t w.talks w.before w.after was talked in
          let at = talks_at t w.talks w.before w.after log was talked starts in
          record {
            places = at.0;
            own = ap (λ (n : ℕ). places_from n 0 log) (sym goes.number) ∙ (c.tells.own w.after among ∙ at.1);
            begins = starts_on (seen_by t w.before) (seen_by t w.after) log goes.starts starts;
            prints = at.2;
          };
      whole = c.tells.whole;
    }
