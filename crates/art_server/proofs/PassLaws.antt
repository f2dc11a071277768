-- A pass that has answered is the same pass, of the same table.
use Rattle.std.proofs.Common.{◌≡◌, ℕ, List, [], ◌∷◌, Option, Some, None, Result, Ok, Err, refl, sym, subst, ◌∙◌}
use Rattle.art_key.specs.declared.faults.ValueFault.{ValueFault}
use Rattle.art_model.specs.declared.commands.Command.{Command}
use Rattle.art_model.specs.declared.commands.Command.TheVariants.{Insert, Remove, Get, Scan}
use Rattle.art_model.specs.declared.commands.Reply.{Reply}
use Rattle.art_model.specs.Rows.{Tuple}
use Rattle.art_scan.specs.Scans.{scan_fault}
use Rattle.art_scan.specs.declared.faults.ScanFault.{ScanFault}
use Rattle.art_scan.specs.ArtTable.Jobs.{job_fault}
use Rattle.art_scan.specs.ArtTable.Tables.{schema_in}
use Rattle.art_scan.specs.ArtTable.declared.jobs.Job.{Job}
use Rattle.art_scan.specs.ArtTable.declared.passes.Pass.{Pass}
use Rattle.art_scan.specs.ArtTable.declared.tables.Table.{Table}
use Rattle.art_lines.specs.declared.lines.LineFault.{LineFault}
use Rattle.art_scan.specs.ArtRefusal.declared.refusals.Refusal.{Refusal}
use Rattle.art_server.specs.declared.sessions.SessionEnd.{SessionEnd}
use Rattle.art_lines.specs.Lines.{line_says}
use Rattle.art_server.specs.Sessions.{IsSamePass, AnswersJob, AnswersScan, AnswersCommand, AnswersSaid, AnswersLine, AnswersLines, RunsSession}

IsSamePass-refl : (p : Pass) → IsSamePass p p
IsSamePass-refl p = record { number = refl; table = refl; seat = refl; basis = refl; told = refl }

IsSamePass-trans : (p m q : Pass) → IsSamePass p m → IsSamePass m q → IsSamePass p q
IsSamePass-trans p m q before after = record {
  number = after.number ∙ before.number;
  table = after.table ∙ before.table;
  seat = after.seat ∙ before.seat;
  basis = after.basis ∙ before.basis;
  told = after.told ∙ before.told;
}

-- one that made no step
unmoved : (p q : Pass) → q ≡ p → IsSamePass p q
unmoved p q same = subst (IsSamePass p) (sym same) (IsSamePass-refl p)

module _ (t : Table) where
  job_same : (job : Job) (p : Pass) (reply : Result Reply Refusal) (q : Pass) (fault : Option ValueFault)
      → job_fault (schema_in t) job ≡ fault
      → AnswersJob t job p reply q → IsSamePass p q
  job_same job p reply q (Some fault) is answers = unmoved p q (answers.ends.fault fault is).1
  job_same job p reply q None is answers = (answers.ends.called is).same

  scan_same : (lo hi : Tuple) (limit : ℕ) (p : Pass) (reply : Result Reply Refusal) (q : Pass) → AnswersScan t lo hi limit p reply q
      → (fault : Option ScanFault) → scan_fault (schema_in t) lo hi limit ≡ fault → IsSamePass p q
  scan_same lo hi limit p reply q answers (Some fault) is = unmoved p q (answers.scans.fault fault is).2
  scan_same lo hi limit p reply q answers None is = (answers.scans.scanned is).tiled.same

  command_same : (command : Command) (p : Pass) (reply : Result Reply Refusal) (q : Pass) → AnswersCommand t command p reply q
      → IsSamePass p q
  command_same (Insert tuple value) p reply q answers = job_same _ p reply q _ refl answers
  command_same (Remove tuple) p reply q answers = job_same _ p reply q _ refl answers
  command_same (Get tuple) p reply q answers = job_same _ p reply q _ refl answers
  command_same (Scan lo hi limit) p reply q answers = scan_same lo hi limit p reply q answers _ refl

  said_same : (said : Result Command LineFault) (p : Pass) (reply : Result Reply Refusal) (q : Pass) → AnswersSaid t said p reply q
      → IsSamePass p q
  said_same (Ok command) p reply q answers = command_same command p reply q answers
  said_same (Err fault) p reply q answers = unmoved p q answers.1

  line_same : (line : List ℕ) (p : Pass) (reply : Result Reply Refusal) (q : Pass) → AnswersLine t line p reply q → IsSamePass p q
  unfolding AnswersLine
  line_same line p reply q answers = said_same (line_says line) p reply q answers

  lines_same : (lines : List (List ℕ)) (p : Pass) (replies : List (Result Reply Refusal)) (q : Pass) → AnswersLines t lines p replies q
      → IsSamePass p q
  lines_same [] p replies q (none, same) = unmoved p q same
  lines_same (line ∷ lines) p replies q (told, others, mid, is, one, rest) =
      IsSamePass-trans p mid q (line_same line p told mid one) (lines_same lines mid others q rest)

  -- a session gives the pass back that it was given
  pub IsSamePass-session : (left left_after held held_after : Option (List ℕ)) (p q : Pass) (end : SessionEnd)
      → RunsSession left left_after held held_after t p q end → IsSamePass p q
  IsSamePass-session left left_after held held_after p q end (read, written, consumes, appends, is) =
      lines_same _ p is.lines.replies q is.lines.answers
