-- How a schedule under way goes on line by line, and what it is at its end.
use Rattle.std.proofs.Common.{◌≡◌, ◌≢◌, ℕ, ◌+◌, ◌<◌, ◌≤◌, Bool, true, false, List, [], ◌∷◌, ◌++◌, length, map, take, drop, take-append-drop, Option, Ok, Err, inl, inr, Result, IfErr, refl, sym, ap, subst, ◌∙◌, arith, append_assoc, length-append, length-take}
use Rattle.std.specs.Io.KnownBytes.{Appends}
use Rattle.std.specs.List.{range_with_len}
use Rattle.std.proofs.KnownBytes.{Appends-nil, Appends-trans, Consumes-nil}
use Rattle.std.proofs.lemmas.List.{length-map, length_push, map-append, take-append-le, take_all}
use Rattle.std.proofs.lemmas.List.FromFn.{length-map-range_with_len, map-range_with_len_more, take-map-range_with_len}
use Rattle.art_schedule.specs.Desks.{Places, Settles}
use Rattle.art_schedule.specs.Lines.{line_order}
use Rattle.art_schedule.specs.Schedules.{EndsBy, IsStop, IsStopped, RunsSchedule, end_of, rest_tasks, tasks_of}
use Rattle.art_schedule.specs.Tasks.{Does, DoesAll, IsBad, LineCan, LineIsUntold, StopsFor, Task, end_at, obey}
use Rattle.art_schedule.specs.Ways.{ComesOfAll, EndsSchedule, EndsThere, IsUnderWay, ObeysMore, RunsFrom, StopsAmong, Tries, TriesAll, end_by}
use Rattle.art_schedule.specs.declared.stops.ScheduleEnd.{ScheduleEnd}
use Rattle.art_schedule.specs.declared.stops.ScheduleEnd.TheVariants as ends
use Rattle.art_schedule.specs.declared.stops.Stop.{Stop}
use Rattle.art_schedule.specs.declared.stops.Stop.TheVariants.{BadLine, WriteFault, NoMemory}
use Rattle.art_schedule.specs.declared.seats.Seat.TheVariants.{Idle}
use Rattle.art_server.specs.ArtTable.declared.passes.Pass.{Pass}
use Rattle.art_server.specs.ArtTable.declared.tables.Table.{Table}
use Rattle.art_server.specs.Lines.{AllAreGiven, GoesOn, IsLineAt, LinesRead}
use Rattle.art_server.specs.Streams.{last_line, last_part, lines_of, whole_lines}
use Rattle.art_server.proofs.GivenLines.{last_line_at, line_within, slice_get-longer, split_at, take_next}
use Rattle.art_server.proofs.ReadLaws.{HasRead}
use Rattle.art_server.proofs.StreamLaws.{lines_of-last, lines_of-short, part_none, whole_lines-append}
use Rattle.art_schedule.proofs.TaskLaws.{DoesAll-append, DoesAll-push, StopsAt-later, line_order-take}

same_order : (line part : List ℕ) → line ≡ take 4097 part → line_order part ≡ line_order line
same_order line part kept = sym (line_order-take part) ∙ ap line_order (sym kept)

count_tasks : (lines : List (List ℕ)) → length (map obey lines) ≡ length lines
count_tasks lines = length-map {A = List ℕ} {B = Task} lines (λ line. obey line)

module _ (t : Table) where
  -- ---- a line as far as it was kept is the line

  Does-kept : (line part : List ℕ) (old : Places) (text : List ℕ) (new : Places) → line ≡ take 4097 part → Does t (obey line) old text new
      → Does t (obey part) old text new
  Does-kept line part old text new kept does = record {
    place = does.place;
    said = does.said;
    says = same_order line part kept ∙ does.says;
    obeys = does.obeys;
  }

  LineCan-kept : (line part : List ℕ) (old : Places) (can : Bool) → line ≡ take 4097 part → LineCan line old can → LineCan part old can
  LineCan-kept line part old can kept it = record {
    place = it.place;
    said = it.said;
    says = same_order line part kept ∙ it.says;
    can_do = it.can_do;
  }

  IsBad-kept : (line part : List ℕ) (old : Places) → line ≡ take 4097 part → IsBad (obey line) old → IsBad (obey part) old
  IsBad-kept line part old kept (inl none) = inl (same_order line part kept ∙ none)
  IsBad-kept line part old kept (inr bad) = inr (LineCan-kept line part old false kept bad)

  LineIsUntold-kept : (line part : List ℕ) (old new : Places) → line ≡ take 4097 part → LineIsUntold t line old new
      → LineIsUntold t part old new
  LineIsUntold-kept line part old new kept it = record {
    place = it.place;
    said = it.said;
    says = same_order line part kept ∙ it.says;
    can_do = it.can_do;
    advances = it.advances;
  }

  StopsFor-kept : (stop : Stop) (line part : List ℕ) (old : Places) (written : List ℕ) (new : Places) → line ≡ take 4097 part
      → StopsFor t stop (obey line) old written new → StopsFor t stop (obey part) old written new
  StopsFor-kept BadLine line part old written new kept (bad, none, same) = (IsBad-kept line part old kept bad, none, same)
  StopsFor-kept WriteFault line part old written new kept cut = record {
    text = cut.text;
    rest = cut.rest;
    done = Does-kept line part old cut.text new kept cut.done;
    some = cut.some;
    whole = cut.whole;
  }
  StopsFor-kept NoMemory line part old written new kept (untold, none) = (LineIsUntold-kept line part old new kept untold, none)

  -- ---- lines one after another

  pub IsUnderWay-none : (held : Option (List ℕ)) (start : Places) → IsUnderWay t [] held held start start 0
  IsUnderWay-none held start = record { within = omega arith; written = []; appends = Appends-nil held; done = (refl, refl) }

  -- one line more
  pub IsUnderWay-line : {A : Type 0} (lines : List (List ℕ)) (held held_mid held_after : Option (List ℕ)) (start p q : Places) (n : ℕ)
      (line : List ℕ) (a : A)
      → IsUnderWay t lines held held_mid start p n → IsLineAt lines n line → Tries t (obey line) p q held_mid held_after (Ok a)
      → IsUnderWay t lines held held_after start q (n + 1)
  IsUnderWay-line lines held held_mid held_after start p q n line a way at tries =
      let within = line_within lines n line at in
      let tasks : map obey (take (n + 1) lines) ≡ map obey (take n lines) ++ obey at.whole ∷ [] =
      ap (λ (l : List (List ℕ)). map obey l) (take_next lines n at.whole at.stands) ∙ map-append obey (take n lines) (at.whole ∷ []) in
      let does = Does-kept line at.whole p tries.written q at.front tries.comes in
      record {
        within = omega arith;
        written = way.written ++ tries.written;
        appends = Appends-trans held held_mid held_after way.written tries.written way.appends tries.appends;
        done =
            subst (λ (l : List Task). DoesAll t l start (way.written ++ tries.written) q) (sym tasks)
            (DoesAll-push t (map obey (take n lines)) (obey at.whole) start p q way.written tries.written way.done does);
      }

  -- lines behind them change nothing
  pub IsUnderWay-longer : (lines more all : List (List ℕ)) (held held_after : Option (List ℕ)) (start now : Places) (n : ℕ)
      → all ≡ lines ++ more → IsUnderWay t lines held held_after start now n → IsUnderWay t all held held_after start now n
  IsUnderWay-longer lines more all held held_after start now n split way =
      let within = way.within in
      let front : take n lines ≡ take n all = sym (ap (take n) split ∙ take-append-le n lines more within) in
      record {
        within = omega (arith, ap (length {A = List ℕ}) split, length-append lines more);
        written = way.written;
        appends = way.appends;
        done = subst (λ (l : List (List ℕ)). DoesAll t (map obey l) start way.written now) front way.done;
      }

  -- bytes behind them change nothing
  pub IsUnderWay-read : (taken more taken_after : List ℕ) (held held_after : Option (List ℕ)) (start now : Places) (n m : ℕ)
      → taken_after ≡ taken ++ more → m ≡ n → IsUnderWay t (whole_lines taken) held held_after start now n
      → IsUnderWay t (whole_lines taken_after) held held_after start now m
  IsUnderWay-read taken more taken_after held held_after start now n m grown same way =
      let extra = whole_lines-append taken more in
      rw same (IsUnderWay-longer (whole_lines taken) extra.0 (whole_lines taken_after) held held_after start now n
      (ap whole_lines grown ∙ extra.1) way)

  -- all whole lines are lines
  pub IsUnderWay-lines : (taken : List ℕ) (held held_after : Option (List ℕ)) (start now : Places) (n : ℕ)
      → IsUnderWay t (whole_lines taken) held held_after start now n → IsUnderWay t (lines_of taken) held held_after start now n
  IsUnderWay-lines taken held held_after start now n way =
      IsUnderWay-longer (whole_lines taken) (last_line (last_part taken)) (lines_of taken) held held_after start now n refl way

  -- where each of them was obeyed
  pub all_done : (lines : List (List ℕ)) (held held_after : Option (List ℕ)) (start now : Places) (n : ℕ) → n ≡ length lines
      → (way : IsUnderWay t lines held held_after start now n) → DoesAll t (map obey lines) start way.written now
  all_done lines held held_after start now n all way =
      subst (λ (l : List (List ℕ)). DoesAll t (map obey l) start way.written now) (take_all n lines (omega arith)) way.done

  -- ---- a line stops it

  stopped_ends : (stop : Stop) (number : ℕ) (read : List ℕ) (start : Places) (written : List ℕ) (last : Places)
      → IsStopped t read start written last (end_of stop number) → EndsBy t read start written last (end_of stop number)
  stopped_ends BadLine number read start written last stopped = stopped
  stopped_ends WriteFault number read start written last stopped = stopped
  stopped_ends NoMemory number read start written last stopped = stopped

  -- the next line stops it
  EndsSchedule-cut : {A : Type 0} (taken : List ℕ) (held held_mid held_after : Option (List ℕ)) (start p q : Places) (n : ℕ)
      (line : List ℕ) (stop : Stop)
      → IsUnderWay t (lines_of taken) held held_mid start p n → IsLineAt (lines_of taken) n line
      → Tries {A = A} t (obey line) p q held_mid held_after (Err stop)
      → EndsSchedule t taken held held_after start q (end_of stop (n + 1))
  EndsSchedule-cut taken held held_mid held_after start p q n line stop way at tries =
      let before = take n (lines_of taken) in
      let after = drop (n + 1) (lines_of taken) in
      let within = line_within (lines_of taken) n line at in
      let tasks : tasks_of taken ≡ map obey before ++ obey at.whole ∷ (map obey after ++ rest_tasks) =
      ap (λ (l : List (List ℕ)). map obey l ++ rest_tasks) (split_at (lines_of taken) n at.whole at.stands)
      ∙ ap (λ (l : List Task). l ++ rest_tasks) (map-append obey before (at.whole ∷ after))
      ∙ append_assoc (map obey before) (obey at.whole ∷ map obey after) rest_tasks in
      record {
        written = way.written ++ tries.written;
        appends = Appends-trans held held_mid held_after way.written tries.written way.appends tries.appends;
        ends = stopped_ends stop (n + 1) taken start (way.written ++ tries.written) q (record {
          why = stop;
          count = n;
          stops = record {
            before = map obey before;
            at = obey at.whole;
            after = map obey after ++ rest_tasks;
            split = tasks;
            count_is = omega (arith, count_tasks before, length-take n (lines_of taken));
            text = way.written;
            part = tries.written;
            m = p;
            done = way.done;
            stops = StopsFor-kept stop line at.whole p tries.written q at.front tries.comes;
            whole = refl;
          };
          end_is = refl;
        });
      }

  -- ---- the lines that were left

  pub ObeysMore-none : (at : LinesRead) (held : Option (List ℕ)) (p : Places) (n : ℕ) → n ≡ at.given → ObeysMore t at at held held p p n
  ObeysMore-none at held p n same = record { taken = refl; given = sym same; reaches = λ before start way. rw same way }

  pub ObeysMore-line : {A : Type 0} (old now new : LinesRead) (held held_mid held_after : Option (List ℕ)) (p m q : Places) (n : ℕ) (a : A)
      → ObeysMore t old now held held_mid p m n → GoesOn now new true → Tries t (obey new.line) m q held_mid held_after (Ok a)
      → ObeysMore t old new held held_after p q (n + 1)
  ObeysMore-line old now new held held_mid held_after p m q n a so_far (taken, given, line) tries = record {
    taken = taken ∙ so_far.taken;
    given = given ∙ ap (λ (k : ℕ). k + 1) so_far.given;
    reaches = λ before start way.
        IsUnderWay-line (whole_lines old.taken) before held_mid held_after start m q n new.line a (so_far.reaches before start way)
        (rw (so_far.taken, so_far.given) at line) tries;
  }

  line_stop : (stop : Stop) (n : ℕ) → IsStop (end_of stop n)
  line_stop BadLine n = tt
  line_stop WriteFault n = tt
  line_stop NoMemory n = tt

  pub StopsAmong-line : {A : Type 0} (old now new : LinesRead) (held held_mid held_after : Option (List ℕ)) (p m q : Places) (n : ℕ)
      (stop : Stop) (end : ScheduleEnd)
      → ObeysMore t old now held held_mid p m n → GoesOn now new true → Tries {A = A} t (obey new.line) m q held_mid held_after (Err stop)
      → end ≡ end_of stop (n + 1)
      → StopsAmong t old held held_after p q end
  StopsAmong-line old now new held held_mid held_after p m q n stop end so_far (taken, given, line) tries is =
      let at : IsLineAt (whole_lines old.taken) n new.line = rw (so_far.taken, so_far.given) at line in
      let more = last_line (last_part old.taken) in
      rw is (record {
        stop = line_stop stop (n + 1);
        reaches = λ before start way.
            EndsSchedule-cut old.taken before held_mid held_after start m q n new.line stop
            (IsUnderWay-lines old.taken before held_mid start m n (so_far.reaches before start way))
            (record { whole = at.whole; stands = slice_get-longer (whole_lines old.taken) more n at.whole at.stands; front = at.front })
            tries;
      })

  -- ---- the end of the input, where each whole line was obeyed

  -- where there was a last line without a line feed, that was obeyed too
  abbrev pub HasObeyed : LinesRead → Option (List ℕ) → Option (List ℕ) → Places → Places → Type 0
  HasObeyed at held held_after p q =
      (before : Option (List ℕ)) (start : Places) → IsUnderWay t (whole_lines at.taken) before held start p at.given
      → IsUnderWay t (lines_of at.taken) before held_after start q (length (lines_of at.taken))

  pub HasObeyed-none : (at : LinesRead) (held : Option (List ℕ)) (p : Places) (line : List ℕ) → AllAreGiven at
      → line ≡ take 4097 (last_part at.taken) → length line ≡ 0 → HasObeyed at held held p p
  HasObeyed-none at held p line all front empty before start way =
      let lines = lines_of-short at.taken _ refl (part_none (last_part at.taken) line front empty) in
      let count : at.given ≡ length (lines_of at.taken) = all ∙ ap (length {A = List ℕ}) (sym lines) in
      subst (IsUnderWay t (lines_of at.taken) before held start p) count (IsUnderWay-lines at.taken before held start p at.given way)

  pub HasObeyed-last : {A : Type 0} (at : LinesRead) (held held_after : Option (List ℕ)) (p q : Places) (line : List ℕ) (a : A)
      → AllAreGiven at → line ≡ take 4097 (last_part at.taken) → 0 < length line → Tries t (obey line) p q held held_after (Ok a)
      → HasObeyed at held held_after p q
  HasObeyed-last at held held_after p q line a all front some tries before start way =
      let lines = lines_of-last at.taken line front some in
      let count : at.given + 1 ≡ length (lines_of at.taken) =
      omega (arith, all, ap (length {A = List ℕ}) lines, length_push (whole_lines at.taken) (last_part at.taken)) in
      subst (IsUnderWay t (lines_of at.taken) before held_after start q) count
      (IsUnderWay-line (lines_of at.taken) before held held_after start p q at.given line a
      (IsUnderWay-lines at.taken before held start p at.given way) (last_line_at at at.given line all refl front some) tries)

  -- the last line had no line feed, and stops the schedule
  pub EndsThere-stopped : {A : Type 0} (at : LinesRead) (held held_after : Option (List ℕ)) (p q : Places) (line : List ℕ) (stop : Stop)
      → AllAreGiven at → line ≡ take 4097 (last_part at.taken) → 0 < length line
      → Tries {A = A} t (obey line) p q held held_after (Err stop)
      → EndsThere t at held held_after p q (end_of stop (at.given + 1))
  EndsThere-stopped at held held_after p q line stop all front some tries before start way =
      EndsSchedule-cut at.taken before held held_after start p q at.given line stop
      (IsUnderWay-lines at.taken before held start p at.given way) (last_line_at at at.given line all refl front some) tries

  same_end : (stop : Stop) (a b : ℕ) → stop ≢ BadLine → end_of stop a ≡ end_of stop b
  same_end BadLine a b good = absurd (good refl)
  same_end WriteFault a b good = refl
  same_end NoMemory a b good = refl

  -- after all lines, what was under way was run to its end, or one of these ends stops the schedule
  rest_comes : {A : Type 0} (m q : Places) (count : ℕ) (r : Result A Stop) (read sent written : List ℕ) (start : Places)
      → DoesAll t (map obey (lines_of read)) start sent m → ComesOfAll t rest_tasks m q written r → IfErr r (λ stop. stop ≢ BadLine)
      → EndsBy t read start (sent ++ written) q (end_by r count)
  rest_comes m q count (Ok a) read sent written start lines ends good =
      DoesAll-append t (map obey (lines_of read)) rest_tasks start m q sent written lines ends
  rest_comes m q count (Err stop) read sent written start lines (k, stops) good =
      let tasks = map obey (lines_of read) in
      stopped_ends stop count read start (sent ++ written) q (record {
        why = stop;
        count = length tasks + k;
        stops = StopsAt-later t stop tasks rest_tasks start m sent written k q lines stops;
        end_is = same_end stop count (length tasks + k + 1) good;
      })

  pub EndsThere-ends : {A : Type 0} (at : LinesRead) (held held_mid held_after : Option (List ℕ)) (p m q : Places) (r : Result A Stop)
      → HasObeyed at held held_mid p m → TriesAll t rest_tasks m q held_mid held_after r → IfErr r (λ stop. stop ≢ BadLine)
      → EndsThere t at held held_after p q (end_by r (at.given + 1))
  EndsThere-ends at held held_mid held_after p m q r has tries good before start way =
      let done = has before start way in
      record {
        written = done.written ++ tries.written;
        appends = Appends-trans before held_mid held_after done.written tries.written done.appends tries.appends;
        ends =
            rest_comes m q (at.given + 1) r at.taken done.written tries.written start
            (all_done (lines_of at.taken) before held_mid start m (length (lines_of at.taken)) refl done) tries.comes good;
      }

  -- ---- what is under way at the places, one after another

  -- at the places before one, all that was under way was run to its end
  pub record HasEnded (place : ℕ) (held held_after : Option (List ℕ)) (old new : Places) : Type 0 where
    pub written : List ℕ
    pub appends : Appends held held_after written
    pub done : DoesAll t (map end_at (range_with_len 0 place)) old written new

  pub HasEnded-none : (held : Option (List ℕ)) (p : Places) → HasEnded 0 held held p p
  HasEnded-none held p = record { written = []; appends = Appends-nil held; done = (refl, refl) }

  pub HasEnded-more : {A : Type 0} (place : ℕ) (held held_mid held_after : Option (List ℕ)) (p m q : Places) (a : A)
      → HasEnded place held held_mid p m → Tries t (end_at place) m q held_mid held_after (Ok a)
      → HasEnded (place + 1) held held_after p q
  HasEnded-more place held held_mid held_after p m q a has tries = record {
    written = has.written ++ tries.written;
    appends = Appends-trans held held_mid held_after has.written tries.written has.appends tries.appends;
    done =
        subst (λ (l : List Task). DoesAll t l p (has.written ++ tries.written) q)
        (sym (map-range_with_len_more end_at 0 place place (omega arith)))
        (DoesAll-push t (map end_at (range_with_len 0 place)) (end_at place) p m q has.written tries.written has.done tries.comes);
  }

  pub TriesAll-ended : {A : Type 0} (held held_after : Option (List ℕ)) (p q : Places) (a : A) → HasEnded 8 held held_after p q
      → TriesAll t rest_tasks p q held held_after (Ok a)
  TriesAll-ended held held_after p q a has = record { written = has.written; appends = has.appends; comes = has.done }

  rest_split : (place : ℕ) → place < 8
      → rest_tasks ≡ map end_at (range_with_len 0 place) ++ end_at place ∷ drop (place + 1) rest_tasks
  rest_split place within =
      sym (take-append-drop (place + 1) rest_tasks)
      ∙ ap (λ (l : List Task). l ++ drop (place + 1) rest_tasks)
      (take-map-range_with_len end_at 0 8 (place + 1) (omega arith) ∙ map-range_with_len_more end_at 0 place place (omega arith))
      ∙ append_assoc (map end_at (range_with_len 0 place)) (end_at place ∷ []) (drop (place + 1) rest_tasks)

  pub TriesAll-stopped : {A B : Type 0} (place : ℕ) (held held_mid held_after : Option (List ℕ)) (p m q : Places) (stop : Stop)
      → place < 8 → HasEnded place held held_mid p m → Tries {A = A} t (end_at place) m q held_mid held_after (Err stop)
      → TriesAll {A = B} t rest_tasks p q held held_after (Err stop)
  TriesAll-stopped place held held_mid held_after p m q stop within has tries = record {
    written = has.written ++ tries.written;
    appends = Appends-trans held held_mid held_after has.written tries.written has.appends tries.appends;
    comes = (
      place,
      record {
        before = map end_at (range_with_len 0 place);
        at = end_at place;
        after = drop (place + 1) rest_tasks;
        split = rest_split place within;
        count_is = sym (length-map-range_with_len end_at 0 place);
        text = has.written;
        part = tries.written;
        m = m;
        done = has.done;
        stops = tries.comes;
        whole = refl;
      },
    );
  }

  -- ---- the whole

  -- the schedule that has ended so, with the bytes that its reads took
  pub RunsFrom-ends : (reads : ℕ) (left left_after held held_after : Option (List ℕ)) (start last : Places) (taken : List ℕ)
      (end : ScheduleEnd)
      → HasRead reads left left_after taken → reads ≤ 1000000 → EndsSchedule t taken held held_after start last end
      → RunsFrom left left_after held held_after t start last end
  RunsFrom-ends reads left left_after held held_after start last taken end has bound ends =
      let most = has.at_most in
      record {
        read = taken;
        written = ends.written;
        consumes = has.consumes;
        appends = ends.appends;
        ends = ends.ends;
        most = omega arith;
      }

  -- a read failed
  pub EndsSchedule-fault : (taken : List ℕ) (held held_after : Option (List ℕ)) (start now : Places) (n : ℕ)
      → n ≡ length (whole_lines taken) → IsUnderWay t (whole_lines taken) held held_after start now n
      → EndsSchedule t taken held held_after start now ends.ReadFault
  EndsSchedule-fault taken held held_after start now n all way = record {
    written = way.written;
    appends = way.appends;
    ends = all_done (whole_lines taken) held held_after start now n all way;
  }

  -- the reads are used up
  pub EndsSchedule-used : (taken : List ℕ) (held held_after : Option (List ℕ)) (start now : Places) (n : ℕ)
      → n ≡ length (whole_lines taken) → IsUnderWay t (whole_lines taken) held held_after start now n → 1000000 ≤ length taken
      → EndsSchedule t taken held held_after start now ends.ReadsUsed
  EndsSchedule-used taken held held_after start now n all way used = record {
    written = way.written;
    appends = way.appends;
    ends = (all_done (whole_lines taken) held held_after start now n all way, used);
  }

  pub RunsSchedule-from : (left left_after held held_after : Option (List ℕ)) (passes back : List Pass) (start last : Places)
      (end : ScheduleEnd)
      → start.seats ≡ map Idle passes → length start.rooms ≡ length passes → RunsFrom left left_after held held_after t start last end
      → Settles t last back → RunsSchedule left left_after held held_after t passes back end
  RunsSchedule-from left left_after held held_after passes back start last end idle rooms runs settles = (
    runs.read,
    runs.written,
    runs.consumes,
    runs.appends,
    inl (record { start = start; last = last; idle = idle; rooms = rooms; ends = runs.ends; settles = settles; most = runs.most }),
  )

  -- there was no memory for the places
  pub RunsSchedule-none : (left held : Option (List ℕ)) (passes : List Pass)
      → RunsSchedule left left held held t passes passes ends.NoMemory
  RunsSchedule-none left held passes =
      ([], [], Consumes-nil left, Appends-nil held, inr (record { unread = refl; unwritten = refl; stay = refl; end_is = refl }))
