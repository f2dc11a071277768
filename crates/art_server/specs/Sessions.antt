-- What a session of lines means: each line is answered by the pass as the line before left it.
use Rattle.std.specs.Prelude.{◌≡◌, ◌≢◌, ℕ, ◌+◌, ◌*◌, ◌<◌, ◌≤◌, Bool, true, false, if◌then◌else◌, List, [], ◌∷◌, ◌++◌, length, take, Option, Result, Ok, Err}
use Rattle.std.specs.List.{flat_map}
use Rattle.std.specs.Io.KnownBytes.{Appends, Consumes}
use Rattle.art_model.specs.declared.commands.Command.{Command}
use Rattle.art_model.specs.declared.commands.Command.TheVariants.{Insert, Remove, Get, Scan}
use Rattle.art_model.specs.declared.commands.Reply.{Reply}
use Rattle.art_model.specs.declared.commands.Reply.TheVariants.{Inserted, Present, Removed, Absent, Found, Rows}
use Rattle.art_model.specs.declared.rows.Row.{Row}
use Rattle.art_model.specs.Rows.{Tuple}
use Rattle.art_scan.specs.Scans.{Scans}
use Rattle.art_scan.specs.declared.faults.ScanFault.{ScanFault}
use Rattle.art_scan.specs.declared.scans.More.{More}
use Rattle.art_scan.specs.declared.scans.More.TheVariants.{Limit, End}
use Rattle.art_shared.specs.SamePass.{SamePass}
use Rattle.art_scan.specs.ArtTable.Calls.{Ends}
use Rattle.art_scan.specs.ArtTable.declared.faults.Fault.{Fault}
use Rattle.art_scan.specs.ArtTable.declared.jobs.Job.{Job}
use Rattle.art_scan.specs.ArtTable.declared.jobs.Job.TheVariants as jobs
use Rattle.art_scan.specs.ArtTable.declared.jobs.Outcome.{Outcome}
use Rattle.art_scan.specs.ArtTable.declared.jobs.Outcome.TheVariants as outcome
use Rattle.art_scan.specs.ArtTable.declared.passes.Pass.{Pass}
use Rattle.art_scan.specs.ArtTable.declared.tables.Table.{Table}
use Rattle.art_lines.specs.declared.lines.LineFault.{LineFault}
use Rattle.art_scan.specs.ArtRefusal.declared.refusals.Refusal.{Refusal}
use Rattle.art_server.specs.declared.sessions.EndCause.{EndCause}
use Rattle.art_server.specs.declared.sessions.EndCause.TheVariants.{Ended, ReadFault, WriteFault, NoMemory, ReadsUsed}
use Rattle.art_server.specs.declared.sessions.SessionEnd.{SessionEnd}
use Rattle.art_lines.specs.Lines.{line_says}
use Rattle.art_lines.specs.Refusals.{line_refusal}
use Rattle.art_scan.specs.ArtTable.Refusals.{fault_refusal}
use Rattle.art_scan.specs.Refusals.{scan_refusal}
use Rattle.art_server.specs.Replies.{text_of_reply}
use Rattle.art_server.specs.Streams.{whole_lines, lines_of}

-- q is the pass p after some steps of its own: it has p's number, and is of p's table
abbrev pub IsSamePass : Pass → Pass → Type 0
IsSamePass p q = SamePass p.seat q.seat

-- ---- what a command is answered

-- the most turns of one command
abbrev pub most_turns : ℕ
most_turns = 1000000

-- the reply to a call that ended so: its answer, or the refusal of its fault. A look is no command, and has no reply.
abbrev pub IsReplyOf : Result Outcome Fault → Result Reply Refusal → Type 0
IsReplyOf (Ok outcome.New) reply = reply ≡ Ok Inserted
IsReplyOf (Ok (outcome.Present value)) reply = reply ≡ Ok (Present value)
IsReplyOf (Ok (outcome.Removed value)) reply = reply ≡ Ok (Removed value)
IsReplyOf (Ok outcome.Absent) reply = reply ≡ Ok Absent
IsReplyOf (Ok (outcome.Found value)) reply = reply ≡ Ok (Found value)
IsReplyOf (Ok (outcome.Seen seen)) reply = ⊥
IsReplyOf (Err fault) reply = reply ≡ Err (fault_refusal fault)

-- the pass p made a call of the job in so many turns, whose reply is this, and is q then
pub record AnswersJobIn (t : Table) (job : Job) (turns : ℕ) (p : Pass) (reply : Result Reply Refusal) (q : Pass) : Type 0 where
  pub result : Result Outcome Fault
  pub ends : Ends t job turns p result q
  pub told : IsReplyOf result reply

-- whether as many rows as the limit were listed
abbrev pub is_limit : More → Bool
is_limit Limit = true
is_limit End = false

-- the reply to a scan that ended so, with these rows listed
abbrev pub IsReplyOfScan : List Row → Result More ScanFault → Result Reply Refusal → Type 0
IsReplyOfScan rows (Ok more) reply = reply ≡ Ok (Rows (record { items = rows }) (is_limit more))
IsReplyOfScan rows (Err fault) reply = reply ≡ Err (scan_refusal fault)

-- the pass p made a scan from the one tuple to the other in so many turns, whose reply is this, and is q then
pub record AnswersScanIn (t : Table) (lo hi : Tuple) (limit turns : ℕ) (p : Pass) (reply : Result Reply Refusal) (q : Pass) : Type 0 where
  pub rows : List Row
  pub result : Result More ScanFault
  pub scans : Scans t lo hi limit turns p rows result q
  pub told : IsReplyOfScan rows result reply

-- the pass p did the command in so many turns, was told this reply, and is q then
abbrev pub AnswersCommandIn : Table → Command → ℕ → Pass → Result Reply Refusal → Pass → Type 0
AnswersCommandIn t (Insert tuple value) turns p reply q = AnswersJobIn t (jobs.Insert tuple value) turns p reply q
AnswersCommandIn t (Remove tuple) turns p reply q = AnswersJobIn t (jobs.Remove tuple) turns p reply q
AnswersCommandIn t (Get tuple) turns p reply q = AnswersJobIn t (jobs.Get tuple) turns p reply q
AnswersCommandIn t (Scan lo hi limit) turns p reply q = AnswersScanIn t lo hi limit turns p reply q

-- the same, in the turns that a session gives
abbrev pub AnswersJob : Table → Job → Pass → Result Reply Refusal → Pass → Type 0
AnswersJob t job p reply q = AnswersJobIn t job most_turns p reply q

abbrev pub AnswersScan : Table → Tuple → Tuple → ℕ → Pass → Result Reply Refusal → Pass → Type 0
AnswersScan t lo hi limit p reply q = AnswersScanIn t lo hi limit most_turns p reply q

abbrev pub AnswersCommand : Table → Command → Pass → Result Reply Refusal → Pass → Type 0
AnswersCommand t command p reply q = AnswersCommandIn t command most_turns p reply q

-- ---- what lines are answered

-- a line that says no command has its refusal, and the pass makes no step
abbrev pub AnswersSaid : Table → Result Command LineFault → Pass → Result Reply Refusal → Pass → Type 0
AnswersSaid t (Ok command) p reply q = AnswersCommand t command p reply q
AnswersSaid t (Err fault) p reply q = (reply ≡ Err (line_refusal fault)) × (q ≡ p)

-- the pass p was handed the line, gave this reply, and is q then
unfoldable pub AnswersLine : Table → List ℕ → Pass → Result Reply Refusal → Pass → Type 0
AnswersLine t line p reply q = AnswersSaid t (line_says line) p reply q

-- lines one after another, each by the pass as the line before left it
abbrev pub AnswersLines : Table → List (List ℕ) → Pass → List (Result Reply Refusal) → Pass → Type 0
AnswersLines t [] p replies q = (replies ≡ []) × (q ≡ p)
AnswersLines t (line ∷ lines) p replies q =
    (reply : Result Reply Refusal) × (others : List (Result Reply Refusal)) × (m : Pass)
    × (replies ≡ reply ∷ others) × AnswersLine t line p reply m × AnswersLines t lines m others q

-- the texts of the replies, one after another
abbrev pub texts : List (Result Reply Refusal) → List ℕ
texts replies = flat_map text_of_reply replies

-- ---- sessions

-- how many lines were begun: those answered, and the one whose reply was not wholly written
abbrev pub begun : SessionEnd → ℕ
begun end = end.answered + (if end.pending then 1 else 0)

-- Lines from the front were begun. The texts of their replies were written, but that the last may be cut.
pub record AnswersFront (t : Table) (lines : List (List ℕ)) (written : List ℕ) (p q : Pass) (end : SessionEnd) : Type 0 where
  pub within : begun end ≤ length lines
  pub replies : List (Result Reply Refusal)
  pub answers : AnswersLines t (take (begun end) lines) p replies q
  pub answered : (cut : List ℕ) × (written ≡ texts (take end.answered replies) ++ cut)
  pub begins : (rest : List ℕ) × (written ++ rest ≡ texts replies)
  pub whole : end.why ≢ WriteFault → written ≡ texts (take end.answered replies)

-- how many lines are answered where a session ends for a cause
abbrev pub EndsBy : EndCause → ℕ → Bool → List ℕ → Type 0
EndsBy Ended answered pending read = (answered ≡ length (lines_of read)) × (pending ≡ false)
EndsBy ReadFault answered pending read = (answered ≡ length (whole_lines read)) × (pending ≡ false)
EndsBy WriteFault answered pending read = pending ≡ true
EndsBy NoMemory answered pending read = answered < length (lines_of read)
EndsBy ReadsUsed answered pending read = (answered ≡ length (whole_lines read)) × (pending ≡ false) × (1000000 ≤ length read)

-- the bytes that were read, the bytes that were written, and the pass before and after
pub record IsSession (t : Table) (read written : List ℕ) (p q : Pass) (end : SessionEnd) : Type 0 where
  pub lines : AnswersFront t (lines_of read) written p q end
  pub cause : EndsBy end.why end.answered end.pending read
  pub most : length read ≤ 1000000 * 4096

-- A session with the reader, from what it had left to what it has left, and the writer, from what it held to what it holds.
abbrev pub RunsSession : (left left_after held held_after : Option (List ℕ)) → Table → Pass → Pass → SessionEnd → Type 0
RunsSession left left_after held held_after t p q end =
    (read : List ℕ) × (written : List ℕ)
    × Consumes left left_after read × Appends held held_after written × IsSession t read written p q end
