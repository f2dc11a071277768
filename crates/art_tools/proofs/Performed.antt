-- What the settings come to is what the words ask for: what was done by them, and which faults each subcommand tells.
use Rattle.std.proofs.Common.{◌≡◌, ◌∙◌, ◌≤◌, ℕ, List, [], Option, Some, None, Result, Ok, Err, IsErr, inl, inr, refl, sym, ap, subst, append-nil, lit≤}
use Rattle.std.specs.Prelude.{◌-◌, ◌^◌, ⊤}
use Rattle.std.specs.Borrow.{Bor}
use Rattle.std.specs.Io.KnownBytes.{IsAtEnd}
use Rattle.clap.specs.Kinds.{Kinds}
use Rattle.clap.specs.Words.{Text}
use Rattle.art_key.specs.Schemas.{schema_of}
use Rattle.art_key.specs.declared.columns.Column.{Column}
use Rattle.art_key.specs.declared.faults.SchemaFault.{SchemaFault}
use Rattle.art_server.specs.ArtTable.Sizes.{IsConfig}
use Rattle.art_server.specs.ArtTable.declared.configs.Config.{Config}
use Rattle.art_server.specs.Reads.{AddsReads, MakesReads}
use Rattle.art_server.specs.ArtRefusal.Refusals.{schema_refusal}
use Rattle.art_server.specs.ArtRefusal.declared.refusals.Refusal.{Refusal}
use Rattle.art_server.specs.declared.sessions.EndCause.{EndCause}
use Rattle.art_server.specs.declared.sessions.EndCause.TheVariants as cause
use Rattle.art_schedule.specs.declared.stops.ScheduleEnd.{ScheduleEnd}
use Rattle.art_schedule.specs.declared.stops.ScheduleEnd.TheVariants as schedule
use Rattle.art_tools.proofs.Backs.{many_valid}
use Rattle.art_tools.specs.Faults.{Explains}
use Rattle.art_tools.specs.Loads.{RunsLoad}
use Rattle.art_tools.specs.Options.{Given, schema_given}
use Rattle.art_tools.specs.Outputs.{Outputs, of_one_pass}
use Rattle.art_tools.specs.Programs.{Begins, Does, HasDone, IsReady, ReadsLines}
use Rattle.art_tools.specs.Ranges.{IsLoad}
use Rattle.art_tools.specs.Schedules.{Steps}
use Rattle.art_tools.specs.Servers.{RunsServer}
use Rattle.art_tools.specs.Sessions.{Runs}
use Rattle.art_tools.specs.Settings.{AreInRange, IsSetting, Subcommand, option_given, run, step, load, serve, sizes_asked, texts_of}
use Rattle.art_tools.specs.Statuses.{fault_at, schedule_fault}
use Rattle.art_tools.specs.Tables.{Prints}
use Rattle.art_tools.specs.Told.{AreReadsTold, IsUnopened}
use Rattle.art_tools.specs.declared.run_faults.RunFault.{RunFault}
use Rattle.art_tools.specs.declared.run_faults.RunFault.TheVariants.{ReadFailed, WriteFailed, Refused, NoMemory, ReadsUsed, BadLine, CannotListen}
use Rattle.art_tools.specs.declared.settings.LoadSettings.{LoadSettings}
use Rattle.art_tools.specs.declared.settings.ServeSettings.{ServeSettings}
use Rattle.art_tools.specs.declared.settings.Settings.{Settings}
use Rattle.art_tools.specs.declared.settings.Settings.TheVariants.{Run, Step, Load, Serve}
use Rattle.art_tools.specs.declared.settings.SettingsFault.{SettingsFault}
use Rattle.art_tools.specs.declared.settings.SettingsFault.TheVariants.{Range}

-- ---- which faults a subcommand tells

abbrev pub MayTell : Subcommand → Option RunFault → Type 0
MayTell run (Some (BadLine line)) = ⊥
MayTell run (Some CannotListen) = ⊥
MayTell step (Some CannotListen) = ⊥
MayTell load (Some ReadFailed) = ⊥
MayTell load (Some (Refused refusal)) = ⊥
MayTell load (Some ReadsUsed) = ⊥
MayTell load (Some (BadLine line)) = ⊥
MayTell load (Some CannotListen) = ⊥
MayTell serve (Some ReadFailed) = ⊥
MayTell serve (Some ReadsUsed) = ⊥
MayTell serve (Some (BadLine line)) = ⊥
MayTell subcommand told = ⊤

ends_tell : (why : EndCause) → MayTell run (fault_at why)
ends_tell cause.Ended = tt
ends_tell cause.ReadFault = tt
ends_tell cause.WriteFault = tt
ends_tell cause.NoMemory = tt
ends_tell cause.ReadsUsed = tt

schedules_tell : (end : ScheduleEnd) → MayTell step (schedule_fault end)
schedules_tell schedule.Ended = tt
schedules_tell (schedule.BadLine line) = tt
schedules_tell schedule.ReadFault = tt
schedules_tell schedule.WriteFault = tt
schedules_tell schedule.NoMemory = tt
schedules_tell schedule.ReadsUsed = tt

unopened_tells : (s : Subcommand) (told : Option RunFault) → MayTell s (Some NoMemory) → ((refusal : Refusal) → MayTell s (Some (Refused refusal)))
    → IsUnopened told → MayTell s told
unopened_tells s told memory refused (inl is) = subst (MayTell s) (sym is) memory
unopened_tells s told memory refused (inr why) = subst (MayTell s) (sym why.1) (refused why.0)

module _ (left left_after held held_after : Option (List ℕ)) where
  runs_tell : (schema : Result (List Column) SchemaFault) (sizes : Config) (told : Option RunFault)
      → Runs schema sizes left left_after held held_after told → MayTell run told
  runs_tell (Ok schema) sizes told (inl ran) = elim ran.told_is [
    | inl is ↦ subst (MayTell run) (sym is) (ends_tell ran.end.why)
    | inr memory ↦ subst (MayTell run) (sym memory.1) tt
  ]
  runs_tell (Ok schema) sizes told (inr none) = unopened_tells run told tt (λ refusal. tt) none.1
  runs_tell (Err fault) sizes told none = unopened_tells run told tt (λ refusal. tt) none.1

  steps_tell : (schema : Result (List Column) SchemaFault) (sizes : Config) (told : Option RunFault)
      → Steps schema sizes left left_after held held_after told → MayTell step told
  steps_tell (Ok schema) sizes told (inl ran) = elim ran.told_is [
    | inl is ↦ subst (MayTell step) (sym is) (schedules_tell ran.end)
    | inr memory ↦ subst (MayTell step) (sym memory.1) tt
  ]
  steps_tell (Ok schema) sizes told (inr none) = unopened_tells step told tt (λ refusal. tt) none.1
  steps_tell (Err fault) sizes told none = unopened_tells step told tt (λ refusal. tt) none.1

module _ (held held_after : Option (List ℕ)) where
  prints_tell : (text : List ℕ) (told : Option RunFault) → Prints text held held_after told → MayTell load told × MayTell serve told
  prints_tell text None prints = (tt, tt)
  prints_tell text (Some ReadFailed) prints = absurd prints
  prints_tell text (Some WriteFailed) prints = (tt, tt)
  prints_tell text (Some (Refused refusal)) prints = absurd prints
  prints_tell text (Some NoMemory) prints = (tt, tt)
  prints_tell text (Some ReadsUsed) prints = absurd prints
  prints_tell text (Some (BadLine line)) prints = absurd prints
  prints_tell text (Some CannotListen) prints = absurd prints

  pub loads_tell : (asked : LoadSettings) (told : Option RunFault) → RunsLoad asked held held_after told → MayTell load told
  loads_tell asked told (inl has) = (prints_tell _ told has.prints).0
  loads_tell asked told (inr none) = subst (MayTell load) (sym none.why) tt

  pub servers_tell : (schema : Result (List Column) SchemaFault) (asked : ServeSettings) (told : Option RunFault)
      → RunsServer schema asked held held_after told → MayTell serve told
  servers_tell (Ok schema) asked told (inl has) = (prints_tell _ told has.prints).1
  servers_tell (Ok schema) asked told (inr none) = elim none.why [
    | inl is ↦ subst (MayTell serve) (sym is) tt
    | inr is ↦ subst (MayTell serve) (sym is) tt
  ]
  servers_tell (Err fault) asked told none = subst (MayTell serve) (sym none.why) tt

  -- what a server refuses is the schema
  server_refused : (schema : Result (List Column) SchemaFault) (asked : ServeSettings) (told : Option RunFault) (refusal : Refusal)
      → told ≡ Some (Refused refusal) → RunsServer schema asked held held_after told → IsErr schema
  server_refused (Ok schema) asked told refusal is (inl has) =
      absurd (subst (Prints _ held held_after) is has.prints)
  server_refused (Ok schema) asked told refusal is (inr none) = elim none.why [
    | inl memory ↦ absurd (cc)
    | inr listener ↦ absurd (cc)
  ]
  server_refused (Err fault) asked told refusal is none = refl

  -- and a schema that is none is refused
  server_unnamed : (schema : Result (List Column) SchemaFault) (asked : ServeSettings) (told : Option RunFault) (fault : SchemaFault)
      → schema ≡ Err fault → RunsServer schema asked held held_after told → told ≡ Some (Refused (schema_refusal fault))
  server_unnamed schema asked told fault is runs =
      (subst (λ (s : Result (List Column) SchemaFault). RunsServer s asked held held_after told) is runs).why

-- no read is told of where none was made
pub unread : (told : Option RunFault) (old new : List (Option ℕ)) → (told ≡ Some ReadFailed → ⊥) → (told ≡ Some ReadsUsed → ⊥)
    → AreReadsTold told old new
unread None old new failed used = tt
unread (Some ReadFailed) old new failed used = absurd (failed refl)
unread (Some WriteFailed) old new failed used = tt
unread (Some (Refused refusal)) old new failed used = tt
unread (Some NoMemory) old new failed used = tt
unread (Some ReadsUsed) old new failed used = absurd (used refl)
unread (Some (BadLine line)) old new failed used = tt
unread (Some CannotListen) old new failed used = tt

-- and the account of the reader stays
pub no_read : (old : List (Option ℕ)) → AddsReads old old
no_read old = record { made = []; account = sym (append-nil old); most = lit≤ tt }

pub used_told : (told : Option RunFault) (old new : List (Option ℕ)) → told ≡ Some ReadsUsed → AreReadsTold told old new
    → MakesReads old new cause.ReadsUsed
used_told told old new is reads = subst (λ (t : Option RunFault). AreReadsTold t old new) is reads

-- ---- the settings that the words come to

-- their numbers are in their ranges
pub ready : (s : Subcommand) (given : Given) (asked : Settings) → IsSetting s given asked → AreInRange s given → IsReady asked
ready run given (Run table) has fits = tt
ready step given (Step table) has fits = tt
ready load given (Load asked) has fits = subst IsLoad (sym has) fits
ready serve given (Serve asked) has fits = record {
  table = subst IsConfig (sym has.table.1) fits.table;
  ports = subst (λ (n : ℕ). (1 ≤ n) × (n ≤ 2 ^ 16 - 1)) (sym has.port) fits.ports;
  staff = subst (λ (n : ℕ). (1 ≤ n) × (n ≤ 32)) (sym has.workers) fits.staff;
  most = subst (λ (n : ℕ). n ≤ 2 ^ 32 - 1) (sym has.sessions) fits.most;
}
ready s given asked has fits = absurd has

module _ (left left_after held held_after : Option (List ℕ)) (told : Option RunFault) where
  tells : (s : Subcommand) (given : Given) (asked : Settings) → IsSetting s given asked → Does asked left left_after held held_after told
      → MayTell s told
  tells run given (Run table) has does = runs_tell left left_after held held_after _ table.sizes told does.runs
  tells step given (Step table) has does = steps_tell left left_after held held_after _ table.sizes told does.steps
  tells load given (Load asked) has does = loads_tell held held_after asked told does.1
  tells serve given (Serve asked) has does = servers_tell held held_after _ asked told does.1
  tells s given asked has does = absurd has

  -- a line of a schedule is told of by `step`, and the want of a listener by `serve`
  pub of_step : (s : Subcommand) (given : Given) (asked : Settings) (line : ℕ) → told ≡ Some (BadLine line) → IsSetting s given asked
      → Does asked left left_after held held_after told → s ≡ step
  of_step s given asked line is has does = steps s (subst (MayTell s) is (tells s given asked has does))
    where
      steps : (s : Subcommand) → MayTell s (Some (BadLine line)) → s ≡ step
      steps run may = absurd may
      steps step may = refl
      steps load may = absurd may
      steps serve may = absurd may

  pub of_serve : (s : Subcommand) (given : Given) (asked : Settings) → told ≡ Some CannotListen → IsSetting s given asked
      → Does asked left left_after held held_after told → s ≡ serve
  of_serve s given asked is has does = serves s (subst (MayTell s) is (tells s given asked has does))
    where
      serves : (s : Subcommand) → MayTell s (Some CannotListen) → s ≡ serve
      serves run may = absurd may
      serves step may = absurd may
      serves load may = absurd may
      serves serve may = refl

  -- where nothing is told, what reads lines read them all
  pub reads_all : (s : Subcommand) (given : Given) (asked : Settings) → told ≡ None → ReadsLines s → IsSetting s given asked
      → Does asked left left_after held held_after told → IsAtEnd left_after
  reads_all run given (Run table) none lines has does = does.input.ended none
  reads_all step given (Step table) none lines has does = does.input.ended none
  reads_all load given asked none lines has does = absurd lines
  reads_all serve given asked none lines has does = absurd lines
  reads_all s given asked none lines has does = absurd has

  -- a schema that is none is told, by all that have one
  pub tells_schema : (s : Subcommand) (given : Given) (asked : Settings) (fault : SchemaFault) → schema_of (schema_given given) ≡ Err fault
      → (s ≡ load → ⊥) → IsSetting s given asked → Does asked left left_after held held_after told
      → told ≡ Some (Refused (schema_refusal fault))
  tells_schema run given (Run table) fault is other has does = does.input.unnamed fault (ap schema_of has.0 ∙ is)
  tells_schema step given (Step table) fault is other has does = does.input.unnamed fault (ap schema_of has.0 ∙ is)
  tells_schema load given asked fault is other has does = absurd (other refl)
  tells_schema serve given (Serve asked) fault is other has does =
      server_unnamed held held_after _ asked told fault (ap schema_of has.table.0 ∙ is) does.1
  tells_schema s given asked fault is other has does = absurd has

  -- with all numbers in their ranges nothing else is refused
  pub refuses_schema : (s : Subcommand) (given : Given) (asked : Settings) (refusal : Refusal) → told ≡ Some (Refused refusal)
      → AreInRange s given → IsSetting s given asked → Does asked left left_after held held_after told
      → IsErr (schema_of (schema_given given))
  refuses_schema run given (Run table) refusal is fits has does = elim (does.input.refused refusal is) [
    | inl none ↦ subst (λ (x : Text). IsErr (schema_of x)) has.0 none
    | inr wide ↦ absurd (wide (subst (λ (z : Config). IsConfig (of_one_pass z)) (sym has.1) fits))
  ]
  refuses_schema step given (Step table) refusal is fits has does = elim (does.input.refused refusal is) [
    | inl none ↦ subst (λ (x : Text). IsErr (schema_of x)) has.0 none
    | inr wide ↦ absurd (wide (many_valid 8 table.sizes (subst IsConfig (sym has.1) fits) (lit≤ tt) (lit≤ tt)))
  ]
  refuses_schema load given (Load asked) refusal is fits has does = absurd (subst (MayTell load) is (loads_tell held held_after asked told does.1))
  refuses_schema serve given (Serve asked) refusal is fits has does =
      subst (λ (x : Text). IsErr (schema_of x)) has.table.0 (server_refused held held_after _ asked told refusal is does.1)
  refuses_schema s given asked refusal is fits has does = absurd has

  -- where nothing is told of a run, its output is that of its whole input
  pub outputs : (s : Subcommand) (given : Given) (asked : Settings) → told ≡ None → s ≡ run → IsSetting s given asked
      → Does asked left left_after held held_after told → Outputs (schema_of (schema_given given)) left held held_after
  outputs run given (Run table) none is has does =
      subst (λ (x : Text). Outputs (schema_of x) left held held_after) has.0 (does.output none)
  outputs step given asked none is has does = absurd (cc)
  outputs load given asked none is has does = absurd (cc)
  outputs serve given asked none is has does = absurd (cc)
  outputs s given asked none is has does = absurd has

  -- what was done is what the words ask for
  pub begins : (words : List (Bor Text)) (s : Subcommand) (asked : Settings) → IsSetting s (option_given (texts_of words)) asked
      → Does asked left left_after held held_after told → Begins s words left left_after held held_after told
  begins words run (Run table) has does =
      subst (λ (x : Text). Runs (schema_of x) (sizes_asked words) left left_after held held_after told) has.0
      (subst (λ (z : Config). Runs (schema_of table.schema.now) z left left_after held held_after told) has.1 does.runs)
  begins words step (Step table) has does =
      subst (λ (x : Text). Steps (schema_of x) (sizes_asked words) left left_after held held_after told) has.0
      (subst (λ (z : Config). Steps (schema_of table.schema.now) z left left_after held held_after told) has.1 does.steps)
  begins words load (Load asked) has does =
      (does.0, subst (λ (l : LoadSettings). RunsLoad l held held_after told) has does.1)
  begins words serve (Serve asked) has does = (
    does.0,
    record {
      asked = asked;
      has = has;
      runs = subst (λ (x : Text). RunsServer (schema_of x) asked held held_after told) has.table.0 does.1;
    },
  )
  begins words s asked has does = absurd has

-- ---- for the code

-- what was done by these settings was done by what they are
pub done_by : (asked x : Settings) (left left_after held held_after : Option (List ℕ)) (old new : List (Option ℕ)) (told : Option RunFault)
    → asked ≡ x → Does x left left_after held held_after told → AddsReads old new → AreReadsTold told old new
    → HasDone asked left left_after held held_after old new told
done_by asked x left left_after held held_after old new told is does adds reads = record {
  does = subst (λ (s : Settings). Does s left left_after held held_after told) (sym is) does;
  adds = adds;
  reads = reads;
}

-- a range is told only where a number is out of it
pub out_of_range : (kinds : Kinds) (fits : Type 0) (fault : SettingsFault) → fault ≡ Range → Explains kinds fits fault → fits → ⊥
out_of_range kinds fits fault is why = (subst (Explains kinds fits) is why).1
