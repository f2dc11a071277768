-- A session that came to the end of its input wrote the output, and which end of a session, or of a schedule, a fault tells of.
use Rattle.std.proofs.Common.{◌≡◌, ℕ, ◌+◌, Bool, false, if◌then◌else◌, List, [], ◌∷◌, ◌++◌, length, Option, Some, None, Result, Ok, Err, IfErr, OnOk, take, refl, sym, ap, subst, ◌∙◌, append-nil, arith}
use Rattle.std.proofs.Math.Seq.{take-length}
use Rattle.std.specs.Option.{option_or}
use Rattle.std.specs.Io.KnownBytes.{IsAtEnd}
use Rattle.art_workers.proofs.ArtSessions.OneMap.{sessions_alone_are_one_map}
use Rattle.art_workers.proofs.ArtSessions.Alone.{closed_alone}
use Rattle.art_workers.specs.ArtSessions.Laws.{IsOneMap, IsOnlyPass}
use Rattle.art_workers.specs.ArtSessions.Maps.{MapAnswersLines}
use Rattle.art_key.specs.Histories.{replay}
use Rattle.art_key.specs.declared.columns.Column.{Column}
use Rattle.art_key.specs.declared.events.Event.{Event}
use Rattle.art_model.specs.declared.commands.Reply.{Reply}
use Rattle.art_schedule.specs.declared.stops.ScheduleEnd.{ScheduleEnd}
use Rattle.art_schedule.specs.declared.stops.ScheduleEnd.TheVariants as schedule
use Rattle.art_server.specs.ArtRefusal.declared.refusals.Refusal.{Refusal}
use Rattle.art_server.specs.declared.sessions.EndCause.{EndCause}
use Rattle.art_server.specs.declared.sessions.EndCause.TheVariants as end
use Rattle.art_server.specs.declared.sessions.SessionEnd.{SessionEnd}
use Rattle.art_server.specs.Sessions.{AnswersLines, EndsBy, IsSession, RunsSession, begun, texts}
use Rattle.art_server.specs.Streams.{lines_of}
use Rattle.art_server.specs.ArtTable.Tables.{schema_in, seen_by}
use Rattle.art_server.specs.ArtTable.Closing.{IsClosed}
use Rattle.art_server.specs.ArtTable.declared.closing.Closed.{Closed}
use Rattle.art_server.specs.ArtTable.declared.passes.Pass.{Pass}
use Rattle.art_server.specs.ArtTable.declared.tables.Table.{Table}
use Rattle.art_tools.specs.Outputs.{HasOutput, Outputs}
use Rattle.art_tools.specs.declared.run_faults.RunFault.{RunFault}
use Rattle.art_tools.specs.declared.run_faults.RunFault.TheVariants.{ReadFailed, WriteFailed, Refused, NoMemory, ReadsUsed, BadLine, CannotListen}
use Rattle.art_tools.specs.Statuses.{fault_at, fault_in, schedule_fault, status_after, status_told}

-- no fault is told only where there was none before the closing
pub where_ended : {A B : Type 0} (r : Result A RunFault) (told : Option RunFault) (closed : Result B RunFault) (Q : Type 0)
    → fault_in r ≡ option_or told (fault_in closed) → (told ≡ None → Q) → OnOk r Q
where_ended (Err fault) told closed Q e ended = tt
where_ended (Ok a) None closed Q e ended = ended refl
where_ended (Ok a) (Some fault) closed Q e ended = absurd (cc)

-- a session that tells none came to the end of the input
pub session_ended : (why : EndCause) → fault_at why ≡ None → why ≡ end.Ended
session_ended end.Ended e = refl
session_ended end.ReadFault e = absurd (cc)
session_ended end.WriteFault e = absurd (cc)
session_ended end.NoMemory e = absurd (cc)
session_ended end.ReadsUsed e = absurd (cc)

-- what was read to the end is what the reader had left
all_was_read : (input rest read : List ℕ) → input ≡ read ++ rest → rest ≡ [] → read ≡ input
all_was_read input rest read whole none = sym (append-nil read) ∙ sym (whole ∙ ap (λ xs. read ++ xs) none)

-- ---- the output

-- each line has a reply
lines_counted : (t : Table) (lines : List (List ℕ)) (p : Pass) (replies : List (Result Reply Refusal)) (q : Pass) → AnswersLines t lines p replies q → length replies ≡ length lines
lines_counted t [] p replies q answers = ap (length {A = Result Reply Refusal}) answers.0
lines_counted t (line ∷ lines) p replies q (reply, others, m, is, one, rest) =
    let more = lines_counted t lines m others q rest in
    let whole = ap (length {A = Result Reply Refusal}) is in
    omega (arith, more, whole)

all_begun : (e : SessionEnd) (n : ℕ) → e.answered ≡ n → e.pending ≡ false → begun e ≡ n
all_begun e n answered pending =
    ap (λ (b : Bool). e.answered + (if b then 1 else 0)) pending ∙ (let same = answered in omega (arith, same))

module _ (t : Table) (p q : Pass) (only : IsOnlyPass t p) (new : seen_by t p ≡ []) (read written : List ℕ) (e : SessionEnd) (is : IsSession t read written p q e) where
  one_map : IsOneMap t (take (begun e) (lines_of read)) p q is.lines.replies
  one_map = sessions_alone_are_one_map t (take (begun e) (lines_of read)) p q is.lines.replies only is.lines.answers

  -- one sorted map gives the session's replies to the lines that were begun
  pub map_answers : (schema : List Column) → schema_in t ≡ schema → MapAnswersLines schema (take (begun e) (lines_of read)) [] is.lines.replies (replay (schema_in t) (seen_by t q))
  map_answers schema schema_is =
      subst (λ (s : List Column). MapAnswersLines s (take (begun e) (lines_of read)) [] is.lines.replies (replay (schema_in t) (seen_by t q))) schema_is
      (subst (λ (log : List Event). MapAnswersLines (schema_in t) (take (begun e) (lines_of read)) (replay (schema_in t) log) is.lines.replies (replay (schema_in t) (seen_by t q))) new one_map.map)

  -- and the rows at the close are that map's
  pub closed_rows : (closed : Closed) → IsClosed t (q ∷ []) closed → closed.rows.items ≡ replay (schema_in t) (seen_by t q)
  closed_rows closed shut = (closed_alone t q closed one_map.only.pass shut).1

module _ (t : Table) (p q : Pass) (only : IsOnlyPass t p) (new : seen_by t p ≡ []) (read written : List ℕ) (e : SessionEnd) (is : IsSession t read written p q e) (ended : e.why ≡ end.Ended) where
  lines : List (List ℕ)
  lines = lines_of read

  cause : EndsBy end.Ended e.answered e.pending read
  cause = subst (λ (why : EndCause). EndsBy why e.answered e.pending read) ended is.cause

  answers : AnswersLines t lines p is.lines.replies q
  unfolding lines
  answers =
      subst (λ (l : List (List ℕ)). AnswersLines t l p is.lines.replies q) (take-length (lines_of read))
      (subst (λ (n : ℕ). AnswersLines t (take n (lines_of read)) p is.lines.replies q) (all_begun e (length (lines_of read)) cause.0 cause.1) is.lines.answers)

  wrote : written ≡ texts is.lines.replies
  unfolding lines
  wrote =
      let count = lines_counted t (lines_of read) p is.lines.replies q answers in
      is.lines.whole (λ other. absurd (apart (sym ended ∙ other)))
      ∙ ap (λ (n : ℕ). texts (take n is.lines.replies)) (cause.0 ∙ sym count)
      ∙ ap texts (take-length is.lines.replies)
    where
      apart : end.Ended ≡ end.WriteFault → ⊥
      apart h = cc

  pub has_output : (schema : List Column) → schema_in t ≡ schema → HasOutput schema read written
  unfolding lines
  has_output schema schema_is =
      let map = (sessions_alone_are_one_map t (lines_of read) p q is.lines.replies only answers).map in
      let from_none = subst (λ (log : List Event). MapAnswersLines (schema_in t) (lines_of read) (replay (schema_in t) log) is.lines.replies (replay (schema_in t) (seen_by t q))) new map in
      record {
        replies = is.lines.replies;
        rows = replay (schema_in t) (seen_by t q);
        answers = subst (λ (s : List Column). MapAnswersLines s (lines_of read) [] is.lines.replies (replay (schema_in t) (seen_by t q))) schema_is from_none;
        text = wrote;
      }

pub session_outputs : (schema : List Column) (left left_after held held_after : Option (List ℕ)) (t : Table) (p q : Pass) (e : SessionEnd) → schema_in t ≡ schema → IsOnlyPass t p → seen_by t p ≡ []
    → RunsSession left left_after held held_after t p q e → IsAtEnd left_after → e.why ≡ end.Ended → Outputs (Ok schema) left held held_after
session_outputs schema None left_after held held_after t p q e schema_is only new runs at_end ended = tt
session_outputs schema (Some input) None held held_after t p q e schema_is only new runs at_end ended = absurd runs.2
session_outputs schema (Some input) (Some rest) held held_after t p q e schema_is only new runs at_end ended =
    let same = all_was_read input rest runs.0 runs.2 at_end in
    let output = has_output t p q only new runs.0 runs.1 e runs.4 ended schema schema_is in
    (runs.1, subst (λ (bytes : List ℕ). HasOutput schema bytes runs.1) same output, runs.3)

-- ---- which end a fault tells of

told_before : (fault : RunFault) (told closing : Option RunFault) → Some fault ≡ option_or told closing → (closing ≡ Some fault → ⊥) → told ≡ Some fault
told_before fault None closing e other = absurd (other (sym e))
told_before fault (Some first) closing e other = sym e

not_closing : {B : Type 0} (closed : Result B RunFault) (fault : RunFault) → IfErr closed (λ f. f ≡ NoMemory) → (fault ≡ NoMemory → ⊥) → fault_in closed ≡ Some fault → ⊥
not_closing (Ok b) fault memory other e = cc
not_closing (Err f) fault memory other e = let same : fault ≡ NoMemory = cc in other same

-- where closing can only want memory, another fault is that of the end before it
pub told_first : {A B : Type 0} (r : Result A RunFault) (closed : Result B RunFault) (told : Option RunFault) (fault : RunFault) → fault_in r ≡ option_or told (fault_in closed)
    → IfErr closed (λ f. f ≡ NoMemory) → (fault ≡ NoMemory → ⊥) → r ≡ Err fault → told ≡ Some fault
told_first r closed told fault outcome memory other is =
    told_before fault told (fault_in closed) (ap fault_in (sym is) ∙ outcome) (not_closing closed fault memory other)

pub used_up : (why : EndCause) → fault_at why ≡ Some ReadsUsed → why ≡ end.ReadsUsed
used_up end.Ended e = absurd (cc)
used_up end.ReadFault e = absurd (cc)
used_up end.WriteFault e = absurd (cc)
used_up end.NoMemory e = absurd (cc)
used_up end.ReadsUsed e = refl

pub read_failed : (why : EndCause) → fault_at why ≡ Some ReadFailed → why ≡ end.ReadFault
read_failed end.Ended e = absurd (cc)
read_failed end.ReadFault e = refl
read_failed end.WriteFault e = absurd (cc)
read_failed end.NoMemory e = absurd (cc)
read_failed end.ReadsUsed e = absurd (cc)

-- no session ends at a line of a schedule
pub no_line : (why : EndCause) (line : ℕ) → fault_at why ≡ Some (BadLine line) → ⊥
no_line end.Ended line e = cc
no_line end.ReadFault line e = cc
no_line end.WriteFault line e = cc
no_line end.NoMemory line e = cc
no_line end.ReadsUsed line e = cc

-- ---- the same of a schedule

pub schedule_ended : (end : ScheduleEnd) → schedule_fault end ≡ None → end ≡ schedule.Ended
schedule_ended schedule.Ended e = refl
schedule_ended (schedule.BadLine line) e = absurd (cc)
schedule_ended schedule.ReadFault e = absurd (cc)
schedule_ended schedule.WriteFault e = absurd (cc)
schedule_ended schedule.NoMemory e = absurd (cc)
schedule_ended schedule.ReadsUsed e = absurd (cc)

pub schedule_read_failed : (end : ScheduleEnd) → schedule_fault end ≡ Some ReadFailed → end ≡ schedule.ReadFault
schedule_read_failed schedule.Ended e = absurd (cc)
schedule_read_failed (schedule.BadLine line) e = absurd (cc)
schedule_read_failed schedule.ReadFault e = refl
schedule_read_failed schedule.WriteFault e = absurd (cc)
schedule_read_failed schedule.NoMemory e = absurd (cc)
schedule_read_failed schedule.ReadsUsed e = absurd (cc)

pub schedule_used_up : (end : ScheduleEnd) → schedule_fault end ≡ Some ReadsUsed → end ≡ schedule.ReadsUsed
schedule_used_up schedule.Ended e = absurd (cc)
schedule_used_up (schedule.BadLine line) e = absurd (cc)
schedule_used_up schedule.ReadFault e = absurd (cc)
schedule_used_up schedule.WriteFault e = absurd (cc)
schedule_used_up schedule.NoMemory e = absurd (cc)
schedule_used_up schedule.ReadsUsed e = refl

-- no schedule is refused
pub not_refused : (end : ScheduleEnd) (refusal : Refusal) → schedule_fault end ≡ Some (Refused refusal) → ⊥
not_refused schedule.Ended refusal e = cc
not_refused (schedule.BadLine line) refusal e = cc
not_refused schedule.ReadFault refusal e = cc
not_refused schedule.WriteFault refusal e = cc
not_refused schedule.NoMemory refusal e = cc
not_refused schedule.ReadsUsed refusal e = cc

-- ---- what is told of a result

pub ok_untold : {A P : Type 0} (r : Result A RunFault) → OnOk r P → fault_in r ≡ None → P
ok_untold (Ok a) holds none = holds
ok_untold (Err fault) holds none = absurd (cc)

pub err_told : {A : Type 0} (r : Result A RunFault) (fault : RunFault) → fault_in r ≡ Some fault → r ≡ Err fault
err_told (Ok a) fault is = absurd (cc)
err_told (Err other) fault is = let same : other ≡ fault = cc in ap (λ (f : RunFault). Err f) same

-- ---- the statuses that say so

pub status_tells : {A : Type 0} (r : Result A RunFault) (status n : ℕ) → status ≡ status_after r → status ≡ n → status_told (fault_in r) ≡ n
status_tells (Ok a) status n of is = sym of ∙ is
status_tells (Err fault) status n of is = sym of ∙ is

pub zero_tells : (told : Option RunFault) → status_told told ≡ 0 → told ≡ None
zero_tells None e = refl
zero_tells (Some ReadFailed) e = absurd (cc)
zero_tells (Some WriteFailed) e = absurd (cc)
zero_tells (Some (Refused refusal)) e = absurd (cc)
zero_tells (Some NoMemory) e = absurd (cc)
zero_tells (Some ReadsUsed) e = absurd (cc)
zero_tells (Some (BadLine line)) e = absurd (cc)
zero_tells (Some CannotListen) e = absurd (cc)

pub three_tells : (told : Option RunFault) → status_told told ≡ 3 → (refusal : Refusal) × (told ≡ Some (Refused refusal))
three_tells None e = absurd (cc)
three_tells (Some ReadFailed) e = absurd (cc)
three_tells (Some WriteFailed) e = absurd (cc)
three_tells (Some (Refused refusal)) e = (refusal, refl)
three_tells (Some NoMemory) e = absurd (cc)
three_tells (Some ReadsUsed) e = absurd (cc)
three_tells (Some (BadLine line)) e = absurd (cc)
three_tells (Some CannotListen) e = absurd (cc)

pub five_tells : (told : Option RunFault) → status_told told ≡ 5 → told ≡ Some ReadsUsed
five_tells None e = absurd (cc)
five_tells (Some ReadFailed) e = absurd (cc)
five_tells (Some WriteFailed) e = absurd (cc)
five_tells (Some (Refused refusal)) e = absurd (cc)
five_tells (Some NoMemory) e = absurd (cc)
five_tells (Some ReadsUsed) e = refl
five_tells (Some (BadLine line)) e = absurd (cc)
five_tells (Some CannotListen) e = absurd (cc)

pub six_tells : (told : Option RunFault) → status_told told ≡ 6 → (line : ℕ) × (told ≡ Some (BadLine line))
six_tells None e = absurd (cc)
six_tells (Some ReadFailed) e = absurd (cc)
six_tells (Some WriteFailed) e = absurd (cc)
six_tells (Some (Refused refusal)) e = absurd (cc)
six_tells (Some NoMemory) e = absurd (cc)
six_tells (Some ReadsUsed) e = absurd (cc)
six_tells (Some (BadLine line)) e = (line, refl)
six_tells (Some CannotListen) e = absurd (cc)

pub seven_tells : (told : Option RunFault) → status_told told ≡ 7 → told ≡ Some CannotListen
seven_tells None e = absurd (cc)
seven_tells (Some ReadFailed) e = absurd (cc)
seven_tells (Some WriteFailed) e = absurd (cc)
seven_tells (Some (Refused refusal)) e = absurd (cc)
seven_tells (Some NoMemory) e = absurd (cc)
seven_tells (Some ReadsUsed) e = absurd (cc)
seven_tells (Some (BadLine line)) e = absurd (cc)
seven_tells (Some CannotListen) e = refl
