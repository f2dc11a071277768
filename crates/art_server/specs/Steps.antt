-- The steps of a session, for its own functions.
use Rattle.std.specs.Prelude.{◌≡◌, ◌≢◌, ◌≤◌, ℕ, Bool, true, false, List, [], ◌++◌, length, take, ⊤, Option, Result, Ok, Err}
use Rattle.std.specs.Io.KnownBytes.{Appends}
use Rattle.art_model.specs.declared.commands.Reply.{Reply}
use Rattle.art_scan.specs.ArtTable.declared.passes.Pass.{Pass}
use Rattle.art_scan.specs.ArtTable.declared.tables.Table.{Table}
use Rattle.art_scan.specs.ArtRefusal.declared.refusals.Refusal.{Refusal}
use Rattle.art_server.specs.declared.sessions.EndCause.{EndCause}
use Rattle.art_server.specs.declared.sessions.EndCause.TheVariants.{Ended, ReadFault, WriteFault, NoMemory, ReadsUsed}
use Rattle.art_server.specs.declared.sessions.SessionEnd.{SessionEnd}
use Rattle.art_server.specs.declared.sessions.Stop.{Stop}
use Rattle.art_server.specs.Replies.{text_of_reply}
use Rattle.art_server.specs.Sessions.{AnswersLine, AnswersLines, texts, AnswersFront, EndsBy}
use Rattle.art_server.specs.Lines.{AllAreGiven, LinesRead}
use Rattle.art_server.specs.Reads.{EndsAtInput}
use Rattle.art_server.specs.Streams.{whole_lines, lines_of}

-- a line stops a session by want of memory, or by a write, after its command was run
abbrev pub StopsBy : EndCause → Bool → Type 0
StopsBy Ended pending = ⊥
StopsBy ReadFault pending = ⊥
StopsBy WriteFault pending = pending ≡ true
StopsBy NoMemory pending = ⊤
StopsBy ReadsUsed pending = ⊥

-- the reply was cut
pub record IsReplyCut (reply : Result Reply Refusal) (written : List ℕ) (stop : Stop) : Type 0 where
  pub pending : stop.pending ≡ true
  pub front : (rest : List ℕ) × (written ++ rest ≡ text_of_reply reply)
  pub whole : stop.why ≢ WriteFault → written ≡ []
  pub cause : StopsBy stop.why stop.pending

-- the text of the reply was written, or the reply was cut
abbrev pub SendsText : {A : Type 0} → Result Reply Refusal → List ℕ → Result A Stop → Type 0
SendsText reply written (Ok _) = written ≡ text_of_reply reply
SendsText reply written (Err stop) = IsReplyCut reply written stop

-- what sending the reply appended to the writer
pub record SendsReply {A : Type 0} (reply : Result Reply Refusal) (held held_after : Option (List ℕ)) (result : Result A Stop)
    : Type 0 where
  pub written : List ℕ
  pub appends : Appends held held_after written
  pub sends : SendsText reply written result

-- the whole reply of the line was written
pub record AnswersWhole (t : Table) (line written : List ℕ) (p q : Pass) : Type 0 where
  pub reply : Result Reply Refusal
  pub answers : AnswersLine t line p reply q
  pub text : written ≡ text_of_reply reply

-- the line was answered, and a front of its reply was written
pub record AnswersInPart (t : Table) (line written : List ℕ) (p q : Pass) : Type 0 where
  pub reply : Result Reply Refusal
  pub answers : AnswersLine t line p reply q
  pub front : (rest : List ℕ) × (written ++ rest ≡ text_of_reply reply)

-- the line was begun so, or nothing was done
abbrev pub BeginsLine : Bool → Table → List ℕ → List ℕ → Pass → Pass → Type 0
BeginsLine true t line written p q = AnswersInPart t line written p q
BeginsLine false t line written p q = (written ≡ []) × (q ≡ p)

-- the line's reply was cut, or nothing was done
pub record IsCutShort (t : Table) (line written : List ℕ) (p q : Pass) (stop : Stop) : Type 0 where
  pub begins : BeginsLine stop.pending t line written p q
  pub whole : stop.why ≢ WriteFault → written ≡ []
  pub cause : StopsBy stop.why stop.pending

-- the line was answered, or it stopped the session
abbrev pub AnswersOrStops : {A : Type 0} → Table → List ℕ → List ℕ → Pass → Pass → Result A Stop → Type 0
AnswersOrStops t line written p q (Ok _) = AnswersWhole t line written p q
AnswersOrStops t line written p q (Err stop) = IsCutShort t line written p q stop

-- what answering the line appended to the writer
pub record SendsLine {A : Type 0} (t : Table) (line : List ℕ) (held held_after : Option (List ℕ)) (p q : Pass)
    (result : Result A Stop) : Type 0 where
  pub written : List ℕ
  pub appends : Appends held held_after written
  pub answers : AnswersOrStops t line written p q result

-- ---- a session under way

-- lines from the front were answered, and the texts of their replies were written
pub record IsUnderWay (t : Table) (lines : List (List ℕ)) (held held_after : Option (List ℕ)) (start now : Pass) (answered : ℕ)
    : Type 0 where
  pub within : answered ≤ length lines
  pub replies : List (Result Reply Refusal)
  pub answers : AnswersLines t (take answered lines) start replies now
  pub appends : Appends held held_after (texts replies)

-- a session that took these bytes has ended so
pub record EndsSession (t : Table) (taken : List ℕ) (held held_after : Option (List ℕ)) (start last : Pass) (end : SessionEnd)
    : Type 0 where
  pub written : List ℕ
  pub appends : Appends held held_after written
  pub lines : AnswersFront t (lines_of taken) written start last end
  pub cause : EndsBy end.why end.answered end.pending taken

-- a session under way, of which each line that was given is answered, went on with lines that were left
pub record AnswersMore (t : Table) (old new : LinesRead) (before after : Option (List ℕ)) (p q : Pass) (answered : ℕ) : Type 0 where
  pub taken : new.taken ≡ old.taken
  pub given : new.given ≡ answered
  pub reaches : (held : Option (List ℕ)) (start : Pass) → IsUnderWay t (whole_lines old.taken) held before start p old.given
      → IsUnderWay t (whole_lines old.taken) held after start q answered

-- it was brought to its end
abbrev pub EndsThere : Table → LinesRead → Option (List ℕ) → Option (List ℕ) → Pass → Pass → SessionEnd → Type 0
EndsThere t at before after p q end =
    (held : Option (List ℕ)) (start : Pass) → IsUnderWay t (whole_lines at.taken) held before start p at.given
    → EndsSession t at.taken held after start q end

-- one of the lines that were left stopped it
pub record StopsAmong (t : Table) (at : LinesRead) (before after : Option (List ℕ)) (p q : Pass) (end : SessionEnd) : Type 0 where
  pub cause : StopsBy end.why end.pending
  pub reaches : EndsThere t at before after p q end

-- each line that was left was answered, or one of them stopped it
abbrev pub AnswersLeft : Table → LinesRead → LinesRead → Option (List ℕ) → Option (List ℕ) → Pass → Pass → Result ℕ SessionEnd → Type 0
AnswersLeft t old new before after p q (Ok count) = AnswersMore t old new before after p q count × AllAreGiven new
AnswersLeft t old new before after p q (Err end) = StopsAmong t old before after p q end

-- where the input ended, the line without a line feed was answered, if there was one
pub record Finishes (t : Table) (at : LinesRead) (before after : Option (List ℕ)) (p q : Pass) (end : SessionEnd) : Type 0 where
  pub cause : EndsAtInput end.why
  pub reaches : EndsThere t at before after p q end
