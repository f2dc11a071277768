-- A schedule did some of its tasks, told one thing of each, and then what was under way was run to its end.
use Rattle.std.proofs.Common.{◌≡◌, ℕ, ◌+◌, ◌<◌, List, [], ◌∷◌, ◌++◌, length, map, refl, sym, ap, subst, ◌∙◌, append-nil, append_assoc, arith}
use Rattle.std.proofs.lemmas.List.{length-set}
use Rattle.art_schedule.specs.Desks.{Places}
use Rattle.art_schedule.specs.Points.{Telling, WasWritten, WereDone, texts_of_tellings}
use Rattle.art_schedule.specs.Schedules.{EndsBy, end_of, rest_tasks, tasks_of, whole_tasks}
use Rattle.art_schedule.specs.Tasks.{AdvancesAt, DoesAll, IsBad, IsUntold, StopsAt, Task, end_at, obey}
use Rattle.art_schedule.specs.declared.seats.Seat.{Seat}
use Rattle.art_schedule.specs.declared.stops.ScheduleEnd.{ScheduleEnd}
use Rattle.art_schedule.specs.declared.stops.ScheduleEnd.TheVariants as ends
use Rattle.art_schedule.specs.declared.stops.Stop.{Stop}
use Rattle.art_schedule.specs.declared.stops.Stop.TheVariants.{BadLine, WriteFault, NoMemory}
use Rattle.art_server.specs.ArtTable.declared.tables.Table.{Table}
use Rattle.art_server.specs.Streams.{lines_of}
use Rattle.art_schedule.proofs.Comings.{AdvanceAll, AdvanceAll-at, AdvanceAll-none}
use Rattle.art_schedule.proofs.Rests.{IsIdleAt, idle_at_end, length-SpeakAll}
use Rattle.art_schedule.proofs.Tellings.{SpeakAll, SpeakAll-push, SpeakAll-split, speak_all, speaks}

-- the tasks that were done led to some places, and from these what was under way went on to the last ones
pub record Played (t : Table) (read written : List ℕ) (end : ScheduleEnd) (start last : Places) : Type 0 where
  pub done : List Task
  pub were_done : WereDone read end done
  pub tellings : List Telling
  pub was_written : WasWritten end tellings written
  pub mid : Places
  pub speak : SpeakAll t done start tellings mid
  pub advance : AdvanceAll t mid last
  pub many : length last.seats ≡ length mid.seats
  pub idle : end ≡ ends.Ended → (k : ℕ) → k < 8 → k < length start.seats → IsIdleAt k mid

module _ (t : Table) where
  -- one that was stopped at a task
  stopped : (why : Stop) (read written : List ℕ) (count : ℕ) (end : ScheduleEnd) (start last : Places)
      → StopsAt t why (tasks_of read) start written count last → end ≡ end_of why (count + 1) → Played t read written end start last
  stopped BadLine read written count end start last s is =
      let (bad, none, same) = s.stops in
      let spoken = speak_all t s.before start s.text s.m s.done in
      let line = bad_line s.at s.m bad in
      subst (λ (x : ScheduleEnd). Played t read written x start last) (sym is)
      (record {
        done = s.before;
        were_done = (
          line.0,
          s.after,
          s.split ∙ ap (λ (task : Task). s.before ++ task ∷ s.after) line.1,
          ap (λ (n : ℕ). n + 1) s.count_is,
        );
        tellings = spoken.0;
        was_written = s.whole ∙ ap (λ (l : List ℕ). s.text ++ l) none ∙ append-nil s.text ∙ spoken.2;
        mid = s.m;
        speak = spoken.1;
        advance = subst (AdvanceAll t s.m) (sym same) (AdvanceAll-none t s.m);
        many = ap (λ (x : Places). length x.seats) same;
        idle = λ e. absurd (cc);
      })
    where
      bad_line : (task : Task) (now : Places) → IsBad task now → (line : List ℕ) × (task ≡ obey line)
      bad_line (obey line) now bad = (line, refl)
      bad_line (end_at place) now bad = absurd bad
  stopped WriteFault read written count end start last s is =
      let cut = s.stops in
      let spoken = speak_all t s.before start s.text s.m s.done in
      let final = speaks t s.at s.m cut.text last cut.done in
      subst (λ (x : ScheduleEnd). Played t read written x start last) (sym is)
      (record {
        done = s.before ++ s.at ∷ [];
        were_done = (s.after, s.split ∙ sym (append_assoc s.before (s.at ∷ []) s.after));
        tellings = spoken.0 ++ final.0 ∷ [];
        was_written = record {
          whole = spoken.0;
          last = final.0;
          part = s.part;
          rest = cut.rest;
          split = refl;
          some = λ none. cut.some (final.2 ∙ none);
          cut = sym final.2 ∙ cut.whole;
          written_is = s.whole ∙ ap (λ (l : List ℕ). l ++ s.part) spoken.2;
        };
        mid = last;
        speak = SpeakAll-push t s.before s.at start s.m spoken.0 final.0 last spoken.1 final.1;
        advance = AdvanceAll-none t last;
        many = refl;
        idle = λ e. absurd (cc);
      })
  stopped NoMemory read written count end start last s is =
      let spoken = speak_all t s.before start s.text s.m s.done in
      subst (λ (x : ScheduleEnd). Played t read written x start last) (sym is)
      (record {
        done = s.before;
        were_done = (s.at, s.after, s.split);
        tellings = spoken.0;
        was_written = s.whole ∙ ap (λ (l : List ℕ). s.text ++ l) s.stops.1 ∙ append-nil s.text ∙ spoken.2;
        mid = s.m;
        speak = spoken.1;
        advance = (untold s.at s.m last s.stops.0).0;
        many = (untold s.at s.m last s.stops.0).1;
        idle = λ e. absurd (cc);
      })
    where
      on : (place : ℕ) (old new : Places) → AdvancesAt t place old new → AdvanceAll t old new × (length new.seats ≡ length old.seats)
      on place old new a =
          (AdvanceAll-at t place old new a, ap (length {A = Seat}) a.seats ∙ length-set old.seats place a.seat_after)

      untold : (task : Task) (old new : Places) → IsUntold t task old new → AdvanceAll t old new × (length new.seats ≡ length old.seats)
      untold (obey line) old new it = on it.place old new it.advances
      untold (end_at place) old new it = on place old new it.1

  -- one that was not
  did_all : (read written : List ℕ) (end : ScheduleEnd) (tasks : List Task) (start last : Places) → DoesAll t tasks start written last
      → WereDone read end tasks → ((tellings : List Telling) → written ≡ texts_of_tellings tellings → WasWritten end tellings written)
      → ((tellings : List Telling) → SpeakAll t tasks start tellings last
      → end ≡ ends.Ended → (k : ℕ) → k < 8 → k < length start.seats → IsIdleAt k last)
      → Played t read written end start last
  did_all read written end tasks start last does were was idle =
      let spoken = speak_all t tasks start written last does in
      record {
        done = tasks;
        were_done = were;
        tellings = spoken.0;
        was_written = was spoken.0 spoken.2;
        mid = last;
        speak = spoken.1;
        advance = AdvanceAll-none t last;
        many = refl;
        idle = idle spoken.0 spoken.1;
      }

  all_idle : (read : List ℕ) (start last : Places) (tellings : List Telling) → SpeakAll t (tasks_of read) start tellings last
      → (k : ℕ) → k < 8 → k < length start.seats → IsIdleAt k last
  all_idle read start last tellings speak k below within =
      let lines = map obey (lines_of read) in
      let split = SpeakAll-split t lines rest_tasks start tellings last speak in
      let many = length-SpeakAll t lines start split.1 split.0 split.3 in
      idle_at_end t k split.0 split.2 last split.4 (omega arith) below

  pub played : (read written : List ℕ) (end : ScheduleEnd) (start last : Places) → EndsBy t read start written last end
      → Played t read written end start last
  played read written ends.Ended start last does =
      did_all read written ends.Ended (tasks_of read) start last does refl (λ _ is. is)
      (λ tellings speak _ k below within. all_idle read start last tellings speak k below within)
  played read written (ends.BadLine number) start last s = stopped s.why read written s.count _ start last s.stops s.end_is
  played read written ends.ReadFault start last does =
      did_all read written ends.ReadFault (whole_tasks read) start last does refl (λ _ is. is) (λ _ _ e. absurd (cc))
  played read written ends.WriteFault start last s = stopped s.why read written s.count _ start last s.stops s.end_is
  played read written ends.NoMemory start last s = stopped s.why read written s.count _ start last s.stops s.end_is
  played read written ends.ReadsUsed start last (does, used) =
      did_all read written ends.ReadsUsed (whole_tasks read) start last does refl (λ _ is. is) (λ _ _ e. absurd (cc))
