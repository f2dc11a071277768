-- What is told of a session or a schedule is told of its end, or of the closing of its table.
use Rattle.std.proofs.Common.{◌≡◌, ℕ, List, [], ◌∷◌, Option, Some, None, Result, Ok, Err, IfErr, OnOk, inl, inr, refl, ap, subst, ◌∙◌}
use Rattle.std.specs.Option.{option_or}
use Rattle.std.proofs.KnownBytes.{Appends-nil, Consumes-nil}
use Rattle.art_key.specs.declared.columns.Column.{Column}
use Rattle.art_key.specs.declared.faults.SchemaFault.{SchemaFault}
use Rattle.art_schedule.specs.Schedules.{ComeBack, RunsSchedule}
use Rattle.art_schedule.specs.declared.stops.ScheduleEnd.{ScheduleEnd}
use Rattle.art_key.specs.Histories.{replay}
use Rattle.art_server.specs.ArtTable.Closing.{IsClosed}
use Rattle.art_server.specs.ArtTable.Tables.{schema_in, seen_by}
use Rattle.art_server.specs.ArtTable.Opening.{IsOpened}
use Rattle.art_server.specs.ArtTable.declared.closing.Closed.{Closed}
use Rattle.art_server.specs.ArtTable.declared.configs.Config.{Config}
use Rattle.art_server.specs.ArtTable.declared.faults.OpenFault.{OpenFault}
use Rattle.art_server.specs.ArtTable.declared.faults.OpenFault.TheVariants as opening
use Rattle.art_server.specs.ArtTable.declared.passes.Pass.{Pass}
use Rattle.art_server.specs.ArtTable.declared.tables.Table.{Table}
use Rattle.art_server.specs.Reads.{MakesReads}
use Rattle.art_server.specs.Sessions.{RunsSession}
use Rattle.art_server.specs.declared.sessions.EndCause.TheVariants as cause
use Rattle.art_server.specs.declared.sessions.SessionEnd.{SessionEnd}
use Rattle.art_schedule.proofs.OneHistory.{schedules_are_one_map}
use Rattle.art_tools.proofs.Passes.{new_passes, opened_only}
use Rattle.art_tools.proofs.Runs.{closed_rows, map_answers}
use Rattle.art_tools.specs.Outputs.{of_one_pass}
use Rattle.art_tools.specs.Schedules.{Steps, of_eight_passes}
use Rattle.art_tools.specs.Sessions.{Runs}
use Rattle.art_tools.specs.Told.{AreReadsTold, IsClosedBy, IsToldOf, IsUnopened, NothingRead}
use Rattle.art_tools.specs.Statuses.{fault_at, fault_in, schedule_fault, status_after, status_told, unopened}
use Rattle.art_tools.specs.declared.run_faults.RunFault.{RunFault}
use Rattle.art_tools.specs.declared.run_faults.RunFault.TheVariants as fault

pub nothing_read : (left held : Option (List ℕ)) → NothingRead left left held held
nothing_read left held = record { consumes = Consumes-nil left; appends = Appends-nil held }

pub unopened_fault : (why : OpenFault) → IsUnopened (Some (unopened why))
unopened_fault opening.BadConfig = inr (_, refl)
unopened_fault opening.NoMemory = inl refl

told_of : {A B : Type 0} (r : Result A RunFault) (why : Option RunFault) (closed : Result B RunFault)
    → fault_in r ≡ option_or why (fault_in closed) → IfErr closed (λ f. f ≡ fault.NoMemory) → IsToldOf why (fault_in r)
told_of r None (Ok b) e none = inl e
told_of r None (Err f) e none = inr (refl, e ∙ ap Some none)
told_of r (Some f) closed e none = inl e

-- where nothing is told, the table was closed
closed_by : {A B : Type 0} (r : Result A RunFault) (why : Option RunFault) (closed : Result B RunFault) (t : Table) (passes : List Pass)
    → fault_in r ≡ option_or why (fault_in closed) → OnOk closed ((c : Closed) × IsClosed t passes c) → IsClosedBy (fault_in r) t passes
closed_by (Err f) why closed t passes e is = tt
closed_by (Ok a) None (Ok b) t passes e is = is
closed_by (Ok a) None (Err f) t passes e is = absurd (cc)
closed_by (Ok a) (Some f) closed t passes e is = absurd (cc)

same_columns : (columns schema : List Column) → ◌≡◌ {A = Result (List Column) SchemaFault} (Ok schema) (Ok columns) → columns ≡ schema
same_columns columns schema is = cc

-- a schedule was run, and the table closed
pub steps_ran : {A B : Type 0} (schema : Result (List Column) SchemaFault) (columns : List Column) (sizes : Config)
    (left left_after held held_after : Option (List ℕ)) (t : Table) (passes back : List Pass) (end : ScheduleEnd) (r : Result A RunFault)
    (closed : Result B RunFault)
    → schema ≡ Ok columns → IsOpened columns (of_eight_passes sizes) t passes → RunsSchedule left left_after held held_after t passes back end
    → ComeBack t passes back → OnOk closed ((c : Closed) × IsClosed t back c)
    → fault_in r ≡ option_or (schedule_fault end) (fault_in closed) → IfErr closed (λ why. why ≡ fault.NoMemory)
    → Steps schema sizes left left_after held held_after (fault_in r)
steps_ran (Ok schema) columns sizes left left_after held held_after t passes back end r closed is opened runs come shut told none = inl (record {
  table = t;
  passes = passes;
  back = back;
  end = end;
  opened = subst (λ (s : List Column). IsOpened s (of_eight_passes sizes) t passes) (same_columns columns schema is) opened;
  runs = runs;
  come = come;
  history = (
      let of = new_passes columns (of_eight_passes sizes) t passes opened in
      λ shut_with is_shut. schedules_are_one_map t passes back runs.0 runs.1 end shut_with opened.count (λ n p found. (of n p found).0) runs.4 is_shut
      );
  told_is = told_of r (schedule_fault end) closed told none;
  closed = closed_by r (schedule_fault end) closed t back told shut;
})
steps_ran (Err fault) columns sizes left left_after held held_after t passes back end r closed is opened runs come shut told none = absurd (cc)

-- the same of a session
pub runs_ran : {A B : Type 0} (schema : Result (List Column) SchemaFault) (columns : List Column) (sizes : Config)
    (left left_after held held_after : Option (List ℕ)) (t : Table) (p q : Pass) (end : SessionEnd) (r : Result A RunFault)
    (closed : Result B RunFault)
    → schema ≡ Ok columns → IsOpened columns (of_one_pass sizes) t (p ∷ []) → RunsSession left left_after held held_after t p q end
    → OnOk closed ((c : Closed) × IsClosed t (q ∷ []) c)
    → fault_in r ≡ option_or (fault_at end.why) (fault_in closed) → IfErr closed (λ why. why ≡ fault.NoMemory)
    → Runs schema sizes left left_after held held_after (fault_in r)
runs_ran (Ok schema) columns sizes left left_after held held_after t p q end r closed is opened runs shut told none =
    let same = same_columns columns schema is in
    let new = opened.each 0 p refl in
    let only = opened_only columns sizes t p opened in
    inl (record {
      table = t;
      pass = p;
      back = q;
      end = end;
      opened = subst (λ (s : List Column). IsOpened s (of_one_pass sizes) t (p ∷ [])) same opened;
      runs = runs;
      rows = replay (schema_in t) (seen_by t q);
      answers = map_answers t p q only new.seen runs.0 runs.1 end runs.4 schema (opened.schema_is ∙ same);
      closes = closed_rows t p q only new.seen runs.0 runs.1 end runs.4;
      told_is = told_of r (fault_at end.why) closed told none;
      closed = closed_by r (fault_at end.why) closed t (q ∷ []) told shut;
    })
runs_ran (Err fault) columns sizes left left_after held held_after t p q end r closed is opened runs shut told none = absurd (cc)

-- the status tells the fault
pub status_of_fault : {A : Type 0} (r : Result A RunFault) → status_after r ≡ status_told (fault_in r)
status_of_fault (Ok a) = refl
status_of_fault (Err why) = refl

-- what a result tells of the reads
pub reads_told : {A : Type 0} (r : Result A RunFault) (old new : List (Option ℕ)) → (r ≡ Err fault.ReadFailed → MakesReads old new cause.ReadFault)
    → (r ≡ Err fault.ReadsUsed → MakesReads old new cause.ReadsUsed) → AreReadsTold (fault_in r) old new
reads_told (Ok a) old new failed used = tt
reads_told (Err fault.ReadFailed) old new failed used = failed refl
reads_told (Err fault.WriteFailed) old new failed used = tt
reads_told (Err (fault.Refused refusal)) old new failed used = tt
reads_told (Err fault.NoMemory) old new failed used = tt
reads_told (Err fault.ReadsUsed) old new failed used = used refl
reads_told (Err (fault.BadLine line)) old new failed used = tt
reads_told (Err fault.CannotListen) old new failed used = tt
