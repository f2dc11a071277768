-- What a thread of a load does, and what all of them do.
use Rattle.std.specs.Prelude.{◌≡◌, ℕ, ◌+◌, ◌*◌, List, [], ◌∷◌, length, map, Some, Result, Ok, ⊤}
use Rattle.art_load.specs.Commands.{load_commands}
use Rattle.art_load.specs.Counts.{AreCounts, kind_of, sum_of, total_of}
use Rattle.art_load.specs.declared.counts.Counts.{Counts}
use Rattle.art_load.specs.declared.counts.Kind.{Kind}
use Rattle.art_model.specs.declared.commands.Command.{Command}
use Rattle.art_model.specs.declared.commands.Command.TheVariants.{Scan}
use Rattle.art_model.specs.declared.commands.Reply.{Reply}
use Rattle.art_sessions.specs.ArtServer.Sessions.{AnswersCommand, IsReplyOf, most_turns}
use Rattle.art_sessions.specs.ArtServer.ArtRefusal.declared.refusals.Refusal.{Refusal}
use Rattle.art_sessions.specs.Points.{AnswersAll, Asked}
use Rattle.art_table.specs.Tables.{IsPassOf}
use Rattle.art_table.specs.declared.faults.Fault.{Fault}
use Rattle.art_table.specs.declared.jobs.Outcome.{Outcome}
use Rattle.art_table.specs.declared.passes.Pass.{Pass}
use Rattle.art_table.specs.declared.tables.Table.{Table}

-- it is no scan
abbrev pub IsCall : Command → Type 0
IsCall (Scan lo hi limit) = ⊥
IsCall command = ⊤

-- ---- one command

-- a call that ended so has a reply of this kind
abbrev pub HasReplyOf : Result Outcome Fault → Kind → Type 0
HasReplyOf ended kind = (reply : Result Reply Refusal) × IsReplyOf ended reply × (kind_of reply ≡ Some kind)

-- the pass p did the command, was told a reply of this kind, and is q then
abbrev pub AnswersAs : Table → Command → Pass → Kind → Pass → Type 0
AnswersAs t command p kind q = (reply : Result Reply Refusal) × AnswersCommand t command p reply q × (kind_of reply ≡ Some kind)

-- ---- the commands of a thread

-- commands as a session asks them, each in 1,000,000 turns
abbrev pub asks_of : List Command → List Asked
asks_of commands = map (λ (c : Command). record { says = Ok c; turns = most_turns }) commands

-- a thread made these commands by the pass p, and counted their replies: the pass is q then
pub record Loads (t : Table) (commands : List Command) (p : Pass) (c : Counts) (q : Pass) : Type 0 where
  pub pass : IsPassOf t q
  pub replies : List (Result Reply Refusal)
  pub answers : AnswersAll t (asks_of commands) p replies q
  pub counts : AreCounts c replies
  pub total : total_of c ≡ length commands

-- ---- all threads

-- one thread for each of the passes, numbered from a number on
abbrev pub LoadEach : Table → ℕ → ℕ → ℕ → ℕ → List Pass → List Counts → List Pass → Type 0
LoadEach t seed keys ops thread [] [] [] = ⊤
LoadEach t seed keys ops thread (p ∷ ps) (c ∷ cs) (q ∷ qs) =
    Loads t (load_commands seed keys thread ops) p c q × LoadEach t seed keys ops (thread + 1) ps cs qs
LoadEach t seed keys ops thread ps cs qs = ⊥

-- A load by these passes, which are those then: each thread counted the replies to its commands, and these are the sums. They add up to
-- all commands.
pub record LoadsAll (t : Table) (seed keys ops : ℕ) (passes : List Pass) (counts : Counts) (passes_after : List Pass) : Type 0 where
  pub each : List Counts
  pub loads : LoadEach t seed keys ops 0 passes each passes_after
  pub sums : counts ≡ sum_of each
  pub total : total_of counts ≡ length passes * ops
