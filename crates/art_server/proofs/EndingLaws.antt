-- The end of a command that was made step by step is an answer of that command, and can be printed.
use Rattle.std.proofs.Common.{◌≡◌, ℕ, List, Option, Some, None, Result, Ok, Err, refl, subst, sym}
use Rattle.art_key.specs.declared.faults.ValueFault.{ValueFault}
use Rattle.art_model.specs.declared.commands.Command.{Command}
use Rattle.art_model.specs.declared.commands.Command.TheVariants.{Insert, Remove, Get, Scan as scan}
use Rattle.art_model.specs.declared.rows.Row.{Row}
use Rattle.art_scan.specs.Endings.{CommandEnds}
use Rattle.art_scan.specs.declared.running.Ending.{Ending}
use Rattle.art_scan.specs.declared.running.Ending.TheVariants.{Call, Scan}
use Rattle.art_scan.proofs.ArtTable.Answered.{get_ends, insert_ends, remove_ends}
use Rattle.art_scan.specs.ArtTable.Calls.{Ends, HasEnded}
use Rattle.art_scan.specs.ArtTable.Jobs.{IsOf, job_fault, of_got, of_inserted, of_removed}
use Rattle.art_scan.specs.ArtTable.Tables.{schema_in}
use Rattle.art_scan.specs.ArtTable.declared.calls.Inserted.TheVariants as inserted
use Rattle.art_scan.specs.ArtTable.declared.faults.Fault.{Fault}
use Rattle.art_scan.specs.ArtTable.declared.jobs.Job.{Job}
use Rattle.art_scan.specs.ArtTable.declared.jobs.Job.TheVariants as jobs
use Rattle.art_scan.specs.ArtTable.declared.jobs.Outcome.{Outcome}
use Rattle.art_scan.specs.ArtTable.declared.jobs.Outcome.TheVariants.{New, Present, Removed, Absent, Found, Seen}
use Rattle.art_scan.specs.ArtTable.declared.passes.Pass.{Pass}
use Rattle.art_scan.specs.ArtTable.declared.tables.Table.{Table}
use Rattle.art_server.specs.Endings.{EndsCommand, IsAnswer, reply_of_ending}
use Rattle.art_server.specs.Replies.{IsPrintable}
use Rattle.art_server.specs.Sessions.{AnswersCommandIn, IsReplyOf}
use Rattle.art_server.proofs.Printable.{listed_printable}

-- ---- no command ends with what a look has seen

inserted_answer : (o : Outcome) → IsOf of_inserted o → IsAnswer o
inserted_answer o (inserted.New, is) = subst IsAnswer (sym is) tt
inserted_answer o (inserted.Present value, is) = subst IsAnswer (sym is) tt

removed_answer : (o : Outcome) → IsOf of_removed o → IsAnswer o
removed_answer o (Some had, is) = subst IsAnswer (sym is) tt
removed_answer o (None, is) = subst IsAnswer (sym is) tt

got_answer : (o : Outcome) → IsOf of_got o → IsAnswer o
got_answer o (Some value, is) = subst IsAnswer (sym is) tt
got_answer o (None, is) = subst IsAnswer (sym is) tt

-- an answer is one, where it is one of each call that was made
answered : (t : Table) (job : Job) (turns : ℕ) (p : Pass) (r : Result Outcome Fault) (q : Pass)
    → ((o : Outcome) → HasEnded t job turns turns p (Ok o) q → IsAnswer o) → Ends t job turns p r q → EndsCommand (Call r)
answered t job turns p (Err fault) q each ends = tt
answered t job turns p (Ok o) q each ends = by (job_fault (schema_in t) job) refl
  where
    by : (fault : Option ValueFault) → job_fault (schema_in t) job ≡ fault → IsAnswer o
    by (Some fault) is = absurd (let told = (ends.fault fault is).0 in cc)
    by None is = each o (ends.called is)

module _ (t : Table) (turns : ℕ) (p : Pass) (rows : List Row) (q : Pass) where
  pub ends_command : (c : Command) (ending : Ending) → CommandEnds t c turns p rows ending q → EndsCommand ending
  ends_command (Insert tuple value) (Call r) ends =
      answered t (jobs.Insert tuple value) turns p r q (λ o e. inserted_answer o (insert_ends t turns p o q tuple value e)) ends
  ends_command (Insert tuple value) (Scan r) ends = absurd ends
  ends_command (Remove tuple) (Call r) ends =
      answered t (jobs.Remove tuple) turns p r q (λ o e. removed_answer o (remove_ends t turns p o q tuple e)) ends
  ends_command (Remove tuple) (Scan r) ends = absurd ends
  ends_command (Get tuple) (Call r) ends = answered t (jobs.Get tuple) turns p r q (λ o e. got_answer o (get_ends t turns p o q tuple e)) ends
  ends_command (Get tuple) (Scan r) ends = absurd ends
  ends_command (scan lo hi limit) (Call r) ends = absurd ends
  ends_command (scan lo hi limit) (Scan (Ok more)) ends = tt
  ends_command (scan lo hi limit) (Scan (Err fault)) ends = tt

-- ---- its reply

call_told : (rows : List Row) (r : Result Outcome Fault) → EndsCommand (Call r) → IsReplyOf r (reply_of_ending rows (Call r))
call_told rows (Ok New) is = refl
call_told rows (Ok (Present value)) is = refl
call_told rows (Ok (Removed value)) is = refl
call_told rows (Ok Absent) is = refl
call_told rows (Ok (Found value)) is = refl
call_told rows (Ok (Seen seen)) is = absurd is
call_told rows (Err fault) is = refl

call_printable : (rows : List Row) (r : Result Outcome Fault) → IsPrintable (reply_of_ending rows (Call r))
call_printable rows (Ok New) = tt
call_printable rows (Ok (Present value)) = tt
call_printable rows (Ok (Removed value)) = tt
call_printable rows (Ok Absent) = tt
call_printable rows (Ok (Found value)) = tt
call_printable rows (Ok (Seen seen)) = tt
call_printable rows (Err fault) = tt

module _ (t : Table) (turns : ℕ) (p : Pass) (rows : List Row) (q : Pass) where
  pub reply_answers : (c : Command) (ending : Ending) → CommandEnds t c turns p rows ending q
      → AnswersCommandIn t c turns p (reply_of_ending rows ending) q
  reply_answers (Insert tuple value) (Call r) ends =
      record { result = r; ends = ends; told = call_told rows r (ends_command t turns p rows q (Insert tuple value) (Call r) ends) }
  reply_answers (Insert tuple value) (Scan r) ends = absurd ends
  reply_answers (Remove tuple) (Call r) ends =
      record { result = r; ends = ends; told = call_told rows r (ends_command t turns p rows q (Remove tuple) (Call r) ends) }
  reply_answers (Remove tuple) (Scan r) ends = absurd ends
  reply_answers (Get tuple) (Call r) ends =
      record { result = r; ends = ends; told = call_told rows r (ends_command t turns p rows q (Get tuple) (Call r) ends) }
  reply_answers (Get tuple) (Scan r) ends = absurd ends
  reply_answers (scan lo hi limit) (Call r) ends = absurd ends
  reply_answers (scan lo hi limit) (Scan (Ok more)) ends = record { rows = rows; result = Ok more; scans = ends; told = refl }
  reply_answers (scan lo hi limit) (Scan (Err fault)) ends = record { rows = rows; result = Err fault; scans = ends; told = refl }

  pub reply_printable : (c : Command) (ending : Ending) → CommandEnds t c turns p rows ending q → IsPrintable (reply_of_ending rows ending)
  reply_printable c (Call r) ends = call_printable rows r
  reply_printable (scan lo hi limit) (Scan (Ok more)) ends = listed_printable t lo hi limit turns p rows more q ends
  reply_printable (Insert tuple value) (Scan (Ok more)) ends = absurd ends
  reply_printable (Remove tuple) (Scan (Ok more)) ends = absurd ends
  reply_printable (Get tuple) (Scan (Ok more)) ends = absurd ends
  reply_printable c (Scan (Err fault)) ends = tt
