-- The reply to a command that was made step by step.
use Rattle.std.specs.Prelude.{List, Result, Ok, Err, ⊤}
use Rattle.art_model.specs.declared.commands.Answer.{Answer}
use Rattle.art_model.specs.declared.commands.Answer.TheVariants as answer
use Rattle.art_model.specs.declared.commands.Reply.{Reply}
use Rattle.art_model.specs.declared.rows.Row.{Row}
use Rattle.art_scan.specs.declared.running.Ending.{Ending}
use Rattle.art_scan.specs.declared.running.Ending.TheVariants.{Call, Scan}
use Rattle.art_scan.specs.ArtTable.declared.jobs.Outcome.{Outcome}
use Rattle.art_scan.specs.ArtTable.declared.jobs.Outcome.TheVariants.{New, Present, Removed, Absent, Found, Seen}
use Rattle.art_scan.specs.ArtRefusal.declared.refusals.Refusal.{Refusal}
use Rattle.art_server.specs.declared.replies.ReplyHead.{ReplyHead}
use Rattle.art_server.specs.declared.replies.ReplyHead.TheVariants as head
use Rattle.art_scan.specs.ArtTable.Refusals.{fault_refusal}
use Rattle.art_scan.specs.Refusals.{scan_refusal}
use Rattle.art_server.specs.Replies.{reply_with}
use Rattle.art_server.specs.Sessions.{is_limit}

-- the answer that an outcome is; what a look has seen is none, and no command ends with it
abbrev pub answer_of : Outcome → Answer
answer_of New = answer.Inserted
answer_of (Present value) = answer.Present value
answer_of (Removed value) = answer.Removed value
answer_of Absent = answer.Absent
answer_of (Found value) = answer.Found value
answer_of (Seen seen) = answer.Absent

-- the reply of a command that ended so, but for its rows, or the refusal of its fault
abbrev pub head_of : Ending → Result ReplyHead Refusal
head_of (Call (Ok outcome)) = Ok (head.Answer (answer_of outcome))
head_of (Call (Err fault)) = Err (fault_refusal fault)
head_of (Scan (Ok more)) = Ok (head.Rows (is_limit more))
head_of (Scan (Err fault)) = Err (scan_refusal fault)

-- the reply with the rows that stand beside the end
abbrev pub reply_of_ending : List Row → Ending → Result Reply Refusal
reply_of_ending rows ending = reply_with rows (head_of ending)

-- it is not what a look has seen
abbrev pub IsAnswer : Outcome → Type 0
IsAnswer (Seen seen) = ⊥
IsAnswer outcome = ⊤

-- it is not the end of a look
abbrev pub EndsCommand : Ending → Type 0
EndsCommand (Call (Ok outcome)) = IsAnswer outcome
EndsCommand ending = ⊤
