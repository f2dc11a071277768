-- What a schedule comes to is of one history.
use Rattle.std.proofs.Common.{◌≡◌, ℕ, suc, zero, List, [], ◌∷◌, ◌++◌, length, map, take, get_or, Some, inl, inr, refl, sym, ap, subst, ◌∙◌, arith}
use Rattle.std.specs.List.{range_with_len, slice_get}
use Rattle.std.specs.Option.{option_map}
use Rattle.std.proofs.lemmas.List.{length-map}
use Rattle.std.proofs.lemmas.Option.{get_or_from_slice_get, slice_get-map, slice_get_within}
use Rattle.art_key.specs.Histories.{replay}
use Rattle.art_key.specs.declared.events.Event.{Event}
use Rattle.art_schedule.specs.Desks.{Places}
use Rattle.art_schedule.specs.Points.{AnswersInTurn, AreOneHistory, IsInTurn, PlaysAt, SchedulesAreOneMap, Telling, WasWritten, WereDone, asked_at, replies_at}
use Rattle.art_schedule.specs.Schedules.{ArePassesOf, HasNoPlaces, IsSchedule, tasks_of}
use Rattle.art_schedule.specs.Tasks.{Task, end_at}
use Rattle.art_schedule.specs.declared.seats.Seat.{Seat}
use Rattle.art_schedule.specs.declared.seats.Seat.TheVariants.{Idle}
use Rattle.art_schedule.specs.declared.stops.ScheduleEnd.{ScheduleEnd}
use Rattle.art_server.specs.ArtTable.Closing.{TellsAll, places_from}
use Rattle.art_server.specs.ArtTable.Tables.{schema_in}
use Rattle.art_server.specs.ArtTable.declared.closing.Closed.{Closed}
use Rattle.art_server.specs.ArtTable.declared.passes.Pass.{Pass}
use Rattle.art_server.specs.ArtTable.declared.tables.Table.{Table}
use Rattle.art_step.specs.Views.{Member}
use Rattle.art_schedule.proofs.Comings.{comes_back_at, length-AreSettled}
use Rattle.art_schedule.proofs.Doings.{Played, played}
use Rattle.art_schedule.proofs.Rests.{length-SpeakAll}
use Rattle.art_schedule.proofs.Places.{StandsAt, after_all, in_turn}
use Rattle.art_schedule.proofs.Tellings.{tell_each}
use Rattle.art_sessions.proofs.Points.{commands_are_points}

is_among : (back : List Pass) (k : ℕ) (q : Pass) → slice_get back k ≡ Some q → Member q back
is_among [] k q at = absurd (cc)
is_among (x ∷ back) zero q at = inl (cc)
is_among (x ∷ back) (suc k) q at = inr (is_among back k q at)

-- nothing was asked
nothing_yet : (k n : ℕ) → IsInTurn (length (asked_at k (take n []))) (length (replies_at k (take n [])))
nothing_yet k zero = inl refl
nothing_yet k (suc n) = inl refl

module _ (t : Table) where
  -- an idle pass, of which nothing was asked
  stands_first : (passes : List Pass) (start : Places) (k : ℕ) (p : Pass) → start.seats ≡ map Idle passes
      → length start.rooms ≡ length passes → slice_get passes k ≡ Some p → StandsAt t k p [] [] start
  stands_first passes start k p seats rooms at =
      let within = slice_get_within passes k p at in
      let many : length start.seats ≡ length passes =
      ap (length {A = Seat}) seats ∙ length-map {A = Pass} {B = Seat} passes (λ p. Idle p) in
      let here : slice_get (map Idle passes) k ≡ Some (Idle p) = slice_get-map Idle passes k ∙ ap (option_map Idle) at in
      record {
        within = omega arith;
        within_room = omega arith;
        stands = λ d e.
            let idle : get_or start.seats k d ≡ Idle p =
            ap (λ (l : List Seat). get_or l k d) seats ∙ get_or_from_slice_get (map Idle passes) k (Idle p) d here in
            rw idle (refl, refl);
      }

  module _ (passes back : List Pass) (read written : List ℕ) (end : ScheduleEnd) (closed : Closed) (eight : length passes ≡ 8)
      (are : ArePassesOf t passes) where
    in_turns : (s : IsSchedule t passes back read written end) (did : Played t read written end s.start s.last) (k : ℕ) (p q : Pass)
        → slice_get passes k ≡ Some p → slice_get back k ≡ Some q → AnswersInTurn t k did.done did.tellings end p q
    in_turns s did k p q at there =
        let within = slice_get_within passes k p at in
        let first = stands_first passes s.start k p s.idle s.rooms at in
        let after = after_all t k p [] [] did.done s.start did.tellings did.mid did.speak first in
        let asks = asked_at k did.done in
        let last = comes_back_at t k p q asks after.fresh did.mid s.last back (Idle p) after.at did.advance s.settles there in
        let first_within = first.within in
        record {
          told = after.fresh;
          untold = last.untold;
          answers = last.answers;
          prints = after.tells;
          in_turn = in_turn t k p did.done s.start did.tellings did.mid did.speak first;
          few = last.few;
          all_told = λ e. last.idle (did.idle e k (omega arith) first_within (Idle p));
        }

    -- at points of the history
    plays_at : (log : List Event) (tells : TellsAll t back log) (done : List Task) (tellings : List Telling) (k : ℕ) (p q : Pass)
        → slice_get passes k ≡ Some p → slice_get back k ≡ Some q → AnswersInTurn t k done tellings end p q
        → PlaysAt t log k done tellings end p q
    plays_at log tells done tellings k p q at there answered =
        let among = is_among back k q there in
        let replies = answered.told ++ answered.untold in
        let points = commands_are_points t (asked_at k done) p q replies log (are k p at) answered.answers (tells.begins q among) in
        record {
          answered = answered;
          places = points.0;
          points = points.2;
          goes = points.1;
          own = ap (λ (n : ℕ). places_from n 0 log) (sym points.1.number) ∙ (tells.own q among ∙ points.1.own);
        }

    of_schedule : (log : List Event) → TellsAll t back log → closed.rows.items ≡ replay (schema_in t) log
        → IsSchedule t passes back read written end → AreOneHistory t passes back read written end closed
    of_schedule log tells rows s =
        let did = played t read written end s.start s.last s.ends in
        let many = did.many in
        let rooms = s.rooms in
        let come : length back ≡ length passes =
        omega (
          arith,
          length-AreSettled t s.last.seats s.last.rooms back s.settles,
          length-SpeakAll t did.done s.start did.tellings did.mid did.speak,
          ap (length {A = Seat}) s.idle,
          length-map {A = Pass} {B = Seat} passes (λ p. Idle p),
        ) in
        record {
          log = log;
          legal = tells.legal;
          rows = rows;
          whole = tells.whole;
          done = did.done;
          did = did.were_done;
          tellings = did.tellings;
          tells = tell_each t did.done s.start did.tellings did.mid did.speak;
          wrote = did.was_written;
          many = come;
          each = λ k p q at there. plays_at log tells did.done did.tellings k p q at there (in_turns s did k p q at there);
        }

    -- nothing was done
    rests : (none : HasNoPlaces passes back read written end) (k : ℕ) (p q : Pass) → slice_get passes k ≡ Some p
        → slice_get back k ≡ Some q → AnswersInTurn t k [] [] end p q
    rests none k p q at there =
        let some : Some q ≡ Some p = sym there ∙ (ap (λ (l : List Pass). slice_get l k) none.stay ∙ at) in
        let same : q ≡ p = cc in
        record {
          told = [];
          untold = [];
          answers = (refl, same);
          prints = refl;
          in_turn = nothing_yet k;
          few = omega arith;
          all_told = λ _. refl;
        }

    of_none : (log : List Event) → TellsAll t back log → closed.rows.items ≡ replay (schema_in t) log
        → HasNoPlaces passes back read written end → AreOneHistory t passes back read written end closed
    of_none log tells rows none = record {
      log = log;
      legal = tells.legal;
      rows = rows;
      whole = tells.whole;
      done = [];
      did =
          subst (λ (x : ScheduleEnd). WereDone read x []) (sym none.end_is)
          (end_at 0, map end_at (range_with_len 1 7), ap tasks_of none.unread);
      tellings = [];
      tells = tt;
      wrote = subst (λ (x : ScheduleEnd). WasWritten x [] written) (sym none.end_is) none.unwritten;
      many = ap (length {A = Pass}) none.stay;
      each = λ k p q at there. plays_at log tells [] [] k p q at there (rests none k p q at there);
    }

pub schedules_are_one_map : SchedulesAreOneMap
schedules_are_one_map t passes back read written end closed eight are (inl s) c =
    of_schedule t passes back read written end closed eight are _ c.tells c.rows s
schedules_are_one_map t passes back read written end closed eight are (inr none) c =
    of_none t passes back read written end closed eight are _ c.tells c.rows none
