-- What a pass was asked, one thing after another, is answered at points of a history.
use Rattle.std.proofs.Common.{◌≡◌, ℕ, List, [], ◌∷◌, ◌++◌, length, append-nil, append_assoc, refl, sym, ap, ◌∙◌, subst, arith}
use Rattle.std.specs.List.{AllByRecursion}
use Rattle.std.specs.Prelude.{Result, Ok, Err}
use Rattle.art_key.specs.declared.events.Event.{Event}
use Rattle.art_lines.specs.declared.lines.LineFault.{LineFault}
use Rattle.art_model.proofs.Parts.{All-both}
use Rattle.art_model.specs.declared.commands.Command.{Command}
use Rattle.art_model.specs.declared.commands.Command.TheVariants.{Insert, Remove, Get, Scan}
use Rattle.art_model.specs.declared.commands.Reply.{Reply}
use Rattle.art_server.specs.Sessions.{AnswersCommandIn}
use Rattle.art_server.specs.ArtRefusal.declared.refusals.Refusal.{Refusal}
use Rattle.art_sessions.proofs.Calls.{got, inserted, removed}
use Rattle.art_sessions.proofs.Goes.{GoesOn, all_go, said_goes, starts_on}
use Rattle.art_sessions.proofs.Places.{all_within, no_shorter}
use Rattle.art_sessions.proofs.Scans.{scanned}
use Rattle.art_sessions.specs.Points.{AllAt, AnswersSaidIn, CommandAt, CommandsArePoints, GoesOnAt, IsWithin, SaidAt}
use Rattle.art_server.specs.ArtTable.Marks.{StartsWith}
use Rattle.art_server.specs.ArtTable.Tables.{number_of, own_of, schema_in, seen_by}
use Rattle.art_server.specs.ArtTable.declared.passes.Pass.{Pass}
use Rattle.art_server.specs.ArtTable.declared.tables.Table.{Table}

-- ---- one thing

module _ (t : Table) (p q : Pass) (log : List Event) (starts : StartsWith log (seen_by t q)) (turns : ℕ) (reply : Result Reply Refusal) where
  -- the new places of the pass, at which it is answered
  abbrev pub Answered : (List ℕ → Type 0) → Type 0
  Answered At =
      (places : List ℕ) × (own_of q ≡ own_of p ++ places) × AllByRecursion (IsWithin (length (seen_by t p)) (length (seen_by t q))) places
      × At places

  command_at : (c : Command) → AnswersCommandIn t c turns p reply q → Answered (CommandAt (schema_in t) log (number_of p) c reply)
  command_at (Insert tuple value) a = inserted t p q log starts turns reply tuple value a
  command_at (Remove tuple) a = removed t p q log starts turns reply tuple a
  command_at (Get tuple) a = got t p q log starts turns reply tuple a
  command_at (Scan lo hi limit) a = scanned t p q log starts turns reply lo hi limit a

  said_at : (said : Result Command LineFault) → AnswersSaidIn t said turns p reply q → Answered (SaidAt (schema_in t) log (number_of p) said reply)
  said_at (Ok command) a = command_at command a
  said_at (Err fault) a = ([], ap own_of a.1 ∙ sym (append-nil (own_of p)), tt, (a.0, refl))

-- ---- one after another

-- what a pass that goes on has at its new places
pub goes_at : (t : Table) (log : List Event) (p q : Pass) (places : List ℕ) → GoesOn t p q → StartsWith log (seen_by t q) → own_of q ≡ own_of p ++ places
    → AllByRecursion (IsWithin (length (seen_by t p)) (length (seen_by t q))) places → GoesOnAt t log p q places
goes_at t log p q places goes begins own within =
    record { pass = goes.pass; number = goes.number; begins = begins; own = own; within = within }

-- the places of what came first, and of what came then
pub then_at : (t : Table) (log : List Event) (p m q : Pass) (here later : List ℕ) → GoesOn t p m → GoesOn t m q → GoesOnAt t log p m here → GoesOnAt t log m q later → GoesOnAt t log p q (here ++ later)
then_at t log p m q here later first rest x y =
    let low = no_shorter (seen_by t p) (seen_by t m) first.starts in
    let high = no_shorter (seen_by t m) (seen_by t q) rest.starts in
    let within_first = all_within (length (seen_by t p)) (length (seen_by t m)) (length (seen_by t p)) (length (seen_by t q)) (omega arith) high here x.within in
    let within_rest = all_within (length (seen_by t m)) (length (seen_by t q)) (length (seen_by t p)) (length (seen_by t q)) low (omega arith) later y.within in
    record {
      pass = y.pass;
      number = y.number ∙ x.number;
      begins = y.begins;
      own = y.own ∙ (ap (λ (l : List ℕ). l ++ later) x.own ∙ append_assoc (own_of p) here later);
      within = All-both (IsWithin (length (seen_by t p)) (length (seen_by t q))) here later within_first within_rest;
    }

pub commands_are_points : CommandsArePoints
commands_are_points t [] p q replies log was answers starts = (
  [],
  goes_at t log p q [] (all_go t [] p replies q was answers) starts (ap own_of answers.1 ∙ sym (append-nil (own_of p))) tt,
  (answers.0, refl),
)
commands_are_points t (ask ∷ asks) p q replies log was (reply, others, m, is, one, rest) starts =
    let first = said_goes t ask.says ask.turns p reply m was one in
    let others_go = all_go t asks m others q first.pass rest in
    let there = starts_on (seen_by t m) (seen_by t q) log others_go.starts starts in
    let here = said_at t p m log there ask.turns reply ask.says one in
    let at = goes_at t log p m here.0 first there here.1 here.2 in
    let later = commands_are_points t asks m q others log first.pass rest starts in (
      here.0 ++ later.0,
      then_at t log p m q here.0 later.0 first others_go at later.1,
      (reply, others, here.0, later.0, is, refl, here.3, subst (λ (n : ℕ). AllAt (schema_in t) log n asks others later.0) first.number later.2),
    )
