-- What a pass has seen begins with what it had seen before its commands.
use Rattle.std.proofs.Common.{◌≡◌, ℕ, List, [], ◌∷◌, ◌++◌, length, append-nil, append_assoc, Option, Some, None, refl, sym, ap, ◌∙◌, subst}
use Rattle.std.specs.Prelude.{Result, Ok, Err}
use Rattle.art_key.specs.declared.events.Deed.{Deed}
use Rattle.art_key.specs.declared.events.Deed.TheVariants.{Look}
use Rattle.art_key.specs.declared.events.Event.{Event}
use Rattle.art_key.specs.declared.faults.ValueFault.{ValueFault}
use Rattle.art_model.specs.declared.commands.Command.{Command}
use Rattle.art_model.specs.declared.commands.Command.TheVariants.{Insert, Remove, Get, Scan}
use Rattle.art_model.specs.declared.commands.Reply.{Reply}
use Rattle.art_server.specs.ArtScan.Scans.{MakesLooks, scan_fault}
use Rattle.art_server.specs.ArtScan.Tiles.{Tile}
use Rattle.art_server.specs.ArtScan.declared.faults.ScanFault.{ScanFault}
use Rattle.art_lines.specs.Lines.{line_says}
use Rattle.art_server.specs.Sessions.{AnswersCommandIn, AnswersJobIn, AnswersLine, AnswersLines, AnswersSaid, AnswersScanIn, most_turns}
use Rattle.art_lines.specs.declared.lines.LineFault.{LineFault}
use Rattle.art_server.specs.ArtRefusal.declared.refusals.Refusal.{Refusal}
use Rattle.art_sessions.specs.Points.{AnswersAll, AnswersSaidIn, Asked, asked_by}
use Rattle.art_server.specs.ArtTable.Calls.{Sees}
use Rattle.art_server.specs.ArtTable.Jobs.{job_fault, told_by}
use Rattle.art_server.specs.ArtTable.Marks.{StartsWith}
use Rattle.art_server.specs.ArtTable.Tables.{IsPassOf, number_of, own_of, schema_in, seen_by}
use Rattle.art_server.specs.ArtTable.declared.jobs.Job.{Job}
use Rattle.art_server.specs.ArtTable.declared.passes.Pass.{Pass}
use Rattle.art_server.specs.ArtTable.declared.tables.Table.{Table}

-- the pass p goes on as q: it is one of the table, with p's number, and has seen what p had seen, and what came after
pub record GoesOn (t : Table) (p q : Pass) : Type 0 where
  pub pass : IsPassOf t q
  pub number : number_of q ≡ number_of p
  pub starts : StartsWith (seen_by t q) (seen_by t p)

pub starts_itself : (log : List Event) → StartsWith log log
starts_itself log = ([], sym (append-nil log))

pub starts_on : (a b c : List Event) → StartsWith b a → StartsWith c b → StartsWith c a
starts_on a b c x y = (x.0 ++ y.0, y.1 ∙ (ap (λ (l : List Event). l ++ y.0) x.1 ∙ append_assoc a x.0 y.0))

starts_same : (a b : List Event) → b ≡ a → StartsWith b a
starts_same a b same = subst (λ (l : List Event). StartsWith l a) (sym same) (starts_itself a)

pub looks_start : (n : ℕ) (tiles : List Tile) (seen own : _) (seen' own' : _) → MakesLooks n seen own tiles seen' own' → StartsWith seen' seen
looks_start n [] seen own seen' own' made = starts_same seen seen' made.0
looks_start n (tile ∷ tiles) seen own seen' own' made =
    let event : Event = record { pass = n; what = Look tile.lo tile.hi tile.row } in
    let rest = looks_start n tiles (tile.before ++ event ∷ []) (own ++ length tile.before ∷ []) seen' own' made.2 in
    starts_on seen tile.before seen' (made.0, made.1) (starts_on tile.before (tile.before ++ event ∷ []) seen' (event ∷ [], refl) rest)

module _ (t : Table) where
  stays : (p q : Pass) → IsPassOf t p → q ≡ p → GoesOn t p q
  stays p q was same = record {
    pass = subst (IsPassOf t) (sym same) was;
    number = ap number_of same;
    starts = starts_same (seen_by t p) (seen_by t q) (ap (seen_by t) same);
  }

  pub then_on : (p m q : Pass) → GoesOn t p m → GoesOn t m q → GoesOn t p q
  then_on p m q x y = record { pass = y.pass; number = y.number ∙ x.number; starts = starts_on (seen_by t p) (seen_by t m) (seen_by t q) x.starts y.starts }

  sees_start : (p q : Pass) (told : Option Deed) → Sees t p q told → StartsWith (seen_by t q) (seen_by t p)
  sees_start p q None sees = starts_same (seen_by t p) (seen_by t q) sees.0
  sees_start p q (Some what) made =
      let event : Event = record { pass = number_of p; what = what } in
      (made.between ++ event ∷ [], made.seen ∙ append_assoc (seen_by t p) made.between (event ∷ []))

  job_goes : (j : Job) (turns : ℕ) (p : Pass) (reply : Result Reply Refusal) (q : Pass) → IsPassOf t p → (fault : Option ValueFault) → job_fault (schema_in t) j ≡ fault
      → AnswersJobIn t j turns p reply q → GoesOn t p q
  job_goes j turns p reply q was (Some fault) is a = stays p q was (a.ends.fault fault is).1
  job_goes j turns p reply q was None is a =
      let e = a.ends.called is in
      record { pass = e.pass; number = sym q.seat.own ∙ (e.same.number ∙ p.seat.own); starts = sees_start p q (told_by j a.result) e.sees }

  scan_goes : (lo hi : _) (limit turns : ℕ) (p : Pass) (reply : Result Reply Refusal) (q : Pass) → IsPassOf t p → (fault : Option ScanFault) → scan_fault (schema_in t) lo hi limit ≡ fault
      → AnswersScanIn t lo hi limit turns p reply q → GoesOn t p q
  scan_goes lo hi limit turns p reply q was (Some fault) is a = stays p q was (a.scans.fault fault is).2
  scan_goes lo hi limit turns p reply q was None is a =
      let e = (a.scans.scanned is).tiled in
      record {
        pass = e.pass;
        number = sym q.seat.own ∙ (e.same.number ∙ p.seat.own);
        starts = looks_start (number_of p) (a.scans.scanned is).tiles (seen_by t p) (own_of p) (seen_by t q) (own_of q) e.looks;
      }

  command_goes : (c : Command) (turns : ℕ) (p : Pass) (reply : Result Reply Refusal) (q : Pass) → IsPassOf t p → AnswersCommandIn t c turns p reply q → GoesOn t p q
  command_goes (Insert tuple value) turns p reply q was a = job_goes _ turns p reply q was _ refl a
  command_goes (Remove tuple) turns p reply q was a = job_goes _ turns p reply q was _ refl a
  command_goes (Get tuple) turns p reply q was a = job_goes _ turns p reply q was _ refl a
  command_goes (Scan lo hi limit) turns p reply q was a = scan_goes lo hi limit turns p reply q was _ refl a

  pub said_goes : (said : Result Command LineFault) (turns : ℕ) (p : Pass) (reply : Result Reply Refusal) (q : Pass) → IsPassOf t p → AnswersSaidIn t said turns p reply q → GoesOn t p q
  said_goes (Ok command) turns p reply q was a = command_goes command turns p reply q was a
  said_goes (Err fault) turns p reply q was a = stays p q was a.1

  pub all_go : (asks : List Asked) (p : Pass) (replies : List (Result Reply Refusal)) (q : Pass) → IsPassOf t p → AnswersAll t asks p replies q → GoesOn t p q
  all_go [] p replies q was a = stays p q was a.1
  all_go (ask ∷ asks) p replies q was (reply, others, m, is, one, rest) =
      let first = said_goes ask.says ask.turns p reply m was one in
      then_on p m q first (all_go asks m others q first.pass rest)

  -- lines are asked in the turns of a session
  said_in : (said : Result Command LineFault) (p : Pass) (reply : Result Reply Refusal) (q : Pass) → AnswersSaid t said p reply q → AnswersSaidIn t said most_turns p reply q
  said_in (Ok command) p reply q a = a
  said_in (Err fault) p reply q a = a

  line_asked : (line : List ℕ) (p : Pass) (reply : Result Reply Refusal) (q : Pass) → AnswersLine t line p reply q → AnswersSaidIn t (line_says line) most_turns p reply q
  unfolding AnswersLine
  line_asked line p reply q a = said_in (line_says line) p reply q a

  pub lines_asked : (lines : List (List ℕ)) (p : Pass) (replies : List (Result Reply Refusal)) (q : Pass) → AnswersLines t lines p replies q → AnswersAll t (asked_by lines) p replies q
  lines_asked [] p replies q a = a
  lines_asked (line ∷ lines) p replies q (reply, others, m, is, one, rest) =
      (reply, others, m, is, line_asked line p reply m one, lines_asked lines m others q rest)

  pub lines_go : (lines : List (List ℕ)) (p : Pass) (replies : List (Result Reply Refusal)) (q : Pass) → IsPassOf t p → AnswersLines t lines p replies q → GoesOn t p q
  lines_go lines p replies q was a = all_go (asked_by lines) p replies q was (lines_asked lines p replies q a)
