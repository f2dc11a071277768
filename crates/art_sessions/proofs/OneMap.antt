-- Where a pass is alone its places are all there are, so its commands are answered by one sorted map, from the first to the last.
use Rattle.std.proofs.Common.{◌≡◌, ℕ, zero, suc, ◌+◌, ◌<◌, ◌==◌, Bool, true, false, if◌then◌else◌, List, [], ◌∷◌, ◌++◌, length, take, length-append, nat_lt, Option, Some, None, inl, inr, refl, sym, ap, ◌∙◌, subst, arith}
use Rattle.std.proofs.Math.Seq.{take-append_seam}
use Rattle.std.proofs.lemmas.Bool.Decides.{nat_tests}
use Rattle.std.specs.List.{AllByRecursion, slice_get}
use Rattle.std.specs.Option.{option_map}
use Rattle.std.specs.Ordering.{is_le}
use Rattle.std.specs.Prelude.{Result, Ok, Err}
use Rattle.art_key.specs.Bounds.{is_before}
use Rattle.art_key.specs.Columns.{order_of, tuple_fault}
use Rattle.art_key.specs.Histories.{IsLegal, becomes, bound_at, replay, run}
use Rattle.art_key.specs.declared.columns.Column.{Column}
use Rattle.art_key.specs.declared.events.Event.{Event}
use Rattle.art_key.specs.declared.faults.ValueFault.{ValueFault}
use Rattle.art_lines.specs.Lines.{line_says}
use Rattle.art_lines.specs.declared.lines.LineFault.{LineFault}
use Rattle.art_model.specs.Rows.{Order, Tuple, tuple_cmp}
use Rattle.art_model.specs.declared.commands.Command.{Command}
use Rattle.art_model.specs.declared.commands.Command.TheVariants.{Insert, Remove, Get, Scan}
use Rattle.art_model.specs.declared.commands.Reply.{Reply}
use Rattle.art_model.specs.declared.commands.Reply.TheVariants.{Rows}
use Rattle.art_model.specs.declared.rows.Row.{Row}
use Rattle.art_server.proofs.ArtScan.Alone.{looks_at_one_state_are_answers}
use Rattle.art_server.specs.ArtScan.Scans.{limit_fault, or_value, range_fault, scan_fault}
use Rattle.art_server.specs.ArtScan.Tiles.{Tile, states_of}
use Rattle.art_server.specs.ArtScan.declared.faults.ScanFault.{ScanFault}
use Rattle.art_server.specs.ArtScan.declared.faults.ScanFault.TheVariants.{BadLimit, BadRange}
use Rattle.art_server.specs.ArtScan.Refusals.{scan_refusal}
use Rattle.art_server.specs.ArtRefusal.declared.refusals.Refusal.{Refusal}
use Rattle.art_sessions.proofs.Alone.{next_own, only_alone, own_all, seen_legal}
use Rattle.art_sessions.proofs.Goes.{all_go, lines_asked, starts_itself}
use Rattle.art_sessions.proofs.Points.{commands_are_points}
use Rattle.art_sessions.proofs.Standing.{rows_stand_at}
use Rattle.art_sessions.proofs.Steps.{AreNext, next_first, next_second}
use Rattle.art_sessions.specs.Laws.{IsOnlyPass, SawItselfAlone, SessionsAloneAreOneMap}
use Rattle.art_sessions.specs.Maps.{IsGround, IsWant, MapAnswers, MapAnswersLines, MapAnswersSaid}
use Rattle.art_sessions.specs.Points.{AllAt, AreAt, CallAt, CommandAt, SaidAt, ScanAt, asked_by, rows_at}
use Rattle.art_server.specs.ArtTable.Marks.{StartsWith}
use Rattle.art_server.specs.ArtTable.Tables.{IsPassOf, number_of, own_of, schema_in, seen_by}
use Rattle.art_server.specs.ArtTable.declared.passes.Pass.{Pass}
use Rattle.art_server.specs.ArtTable.declared.tables.Table.{Table}

-- ---- nothing is wrong with a scan

no_refusal : (o : Option ScanFault) → option_map scan_refusal o ≡ None → o ≡ None
no_refusal None is = refl
no_refusal (Some fault) is = cc

no_value : (o : Option ValueFault) (others : Option ScanFault) → or_value o others ≡ None → (o ≡ None) × (others ≡ None)
no_value None others is = (refl, is)
no_value (Some fault) others is = cc

in_range : (order : Order) (lo hi : Tuple) (limit : ℕ) → range_fault order lo hi limit ≡ None → (is_le (tuple_cmp order lo hi) ≡ true) × (limit_fault limit ≡ None)
in_range order lo hi limit is = by (is_le (tuple_cmp order lo hi)) refl
  where
    by : (b : Bool) → is_le (tuple_cmp order lo hi) ≡ b → (is_le (tuple_cmp order lo hi) ≡ true) × (limit_fault limit ≡ None)
    by true e = (e, sym (ap (λ (c : Bool). if c then limit_fault limit else Some BadRange) e) ∙ is)
    by false e = let wrong = sym (ap (λ (c : Bool). if c then limit_fault limit else Some BadRange) e) ∙ is in cc

some_limit : (limit : ℕ) → limit_fault limit ≡ None → 0 < limit
some_limit limit is = by (limit == 0) refl
  where
    by : (b : Bool) → (limit == 0) ≡ b → 0 < limit
    by true e = let wrong = sym (ap (λ (c : Bool). if c then Some BadLimit else if nat_lt 100 limit then Some BadLimit else None) e) ∙ is in cc
    by false e = grind (arith, nat_tests)

-- ---- the rows after an event

module _ (schema : List Column) where
  run_at : (rows : List Row) (log : List Event) (k : ℕ) (e : Event) → slice_get log k ≡ Some e → run schema rows (take (suc k) log) ≡ becomes schema (run schema rows (take k log)) e.what
  run_at rows [] k e is = absurd (cc)
  run_at rows (d ∷ ds) zero e is = let same : d ≡ e = cc in ap (λ (x : Event). becomes schema rows x.what) same
  run_at rows (d ∷ ds) (suc k) e is = run_at (becomes schema rows d.what) ds k e is

  rows_after : (log : List Event) (k : ℕ) (e : Event) → slice_get log k ≡ Some e → rows_at schema log (k + 1) ≡ becomes schema (rows_at schema log k) e.what
  rows_after log k e is =
      let next : k + 1 ≡ suc k = omega arith in
      ap (λ (n : ℕ). rows_at schema log n) next ∙ run_at [] log k e is

module _ (schema : List Column) (log : List Event) (n : ℕ) (legal : IsLegal schema log) where
  stays : (k : ℕ) (places : List ℕ) → places ≡ [] → rows_at schema log (k + length places) ≡ rows_at schema log k
  stays k places none =
      let long = ap (length {A = ℕ}) none in
      let same : k + length places ≡ k = omega (arith, long) in
      ap (rows_at schema log) same

  -- looks change no rows
  looks_stay : (tiles : List Tile) (places : List ℕ) (k : ℕ) → AreAt log n tiles places → AreNext k places
      → AllByRecursion (λ state. state ≡ rows_at schema log k) (states_of schema tiles) × (rows_at schema log (k + length places) ≡ rows_at schema log k)
  looks_stay [] places k none next = (tt, stays k places none)
  looks_stay (tile ∷ tiles) [] k there next = absurd there
  looks_stay (tile ∷ tiles) (x ∷ xs) k there next =
      let here = ap (replay schema) there.0 ∙ ap (rows_at schema log) next.0 in
      let same : rows_at schema log (k + 1) ≡ rows_at schema log k = ap (λ (j : ℕ). rows_at schema log (j + 1)) (sym next.0) ∙ (rows_after schema log x _ there.1 ∙ ap (rows_at schema log) next.0) in
      let rest = looks_stay tiles xs (k + 1) there.2 next.1 in
      let end : k + length (x ∷ xs) ≡ k + 1 + length xs = omega arith in (
        (here, subst (λ (l : List Row). AllByRecursion (λ state. state ≡ l) (states_of schema tiles)) same rest.0),
        ap (rows_at schema log) end ∙ (rest.1 ∙ same),
      )

  -- a call is answered as the map stands
  call_map : (c : Command) (reply : Result Reply Refusal) (places : List ℕ) (k : ℕ) → CallAt schema log n c reply places → AreNext k places
      → MapAnswers schema c (rows_at schema log k) reply (rows_at schema log (k + length places))
  call_map c (Ok reply) places k (j, is, stands, map) next =
      let same : j ≡ k = (subst (AreNext k) is next).0 in
      let long = ap (length {A = ℕ}) is in
      let end : j + 1 ≡ k + length places = omega (arith, same, long) in
      subst (λ (i : ℕ). MapAnswers schema c (rows_at schema log i) (Ok reply) (rows_at schema log (k + length places))) same
      (subst (λ (i : ℕ). MapAnswers schema c (rows_at schema log j) (Ok reply) (rows_at schema log i)) end map)
  call_map c (Err refusal) places k (none, ground) next = (ground, stays k places none)

  scan_map : (lo hi : Tuple) (limit : ℕ) (reply : Result Reply Refusal) (places : List ℕ) (k : ℕ) → ScanAt schema log n lo hi limit reply places → AreNext k places
      → MapAnswers schema (Scan lo hi limit) (rows_at schema log k) reply (rows_at schema log (k + length places))
  scan_map lo hi limit (Ok reply) places k (none, (rows, is, lists)) next =
      let fits = no_refusal (scan_fault schema lo hi limit) none in
      let first = no_value (tuple_fault schema lo.items) _ fits in
      let second = no_value (tuple_fault schema hi.items) _ first.1 in
      let third = in_range (order_of schema) lo hi limit second.1 in
      let listed = lists.listed in
      let stay = looks_stay lists.tiles places k lists.looks.at next in
      let standing = rows_stand_at schema log k legal in
      let low : is_before (bound_at schema lo) listed.end ≡ true = listed.ends lo first.0 ∙ third.0 in
      let rows_are = listed.rows_are
      ∙ looks_at_one_state_are_answers schema (rows_at schema log k) lo hi listed.end lists.reached limit lists.tiles standing.sorted standing.stand first.0 listed.ends low
      lists.looks.tiled stay.0 listed.stops (some_limit limit third.1) in
      (none, is ∙ ap (λ (l : List Row). Rows (record { items = l }) (length l == limit)) rows_are, stay.1)
  scan_map lo hi limit (Err refusal) places k (inl (is, none)) next =
      (subst (λ (o : Option Refusal). IsGround o refusal) (sym is) refl, stays k places none)
  scan_map lo hi limit (Err refusal) places k (inr (none, busy, (tiles, reached, looks))) next = (
    subst (λ (o : Option Refusal). IsGround o refusal) (sym none) (subst IsWant (sym busy) tt),
    (looks_stay tiles places k looks.at next).1,
  )

  command_map : (c : Command) (reply : Result Reply Refusal) (places : List ℕ) (k : ℕ) → CommandAt schema log n c reply places → AreNext k places
      → MapAnswers schema c (rows_at schema log k) reply (rows_at schema log (k + length places))
  command_map (Insert t v) reply places k there next = call_map (Insert t v) reply places k there next
  command_map (Remove t) reply places k there next = call_map (Remove t) reply places k there next
  command_map (Get t) reply places k there next = call_map (Get t) reply places k there next
  command_map (Scan lo hi limit) reply places k there next = scan_map lo hi limit reply places k there next

  said_map : (said : Result Command LineFault) (reply : Result Reply Refusal) (places : List ℕ) (k : ℕ) → SaidAt schema log n said reply places → AreNext k places
      → MapAnswersSaid schema said (rows_at schema log k) reply (rows_at schema log (k + length places))
  said_map (Ok command) reply places k there next = command_map command reply places k there next
  said_map (Err fault) reply places k there next = (there.0, stays k places there.1)

  lines_map : (lines : List (List ℕ)) (replies : List (Result Reply Refusal)) (places : List ℕ) (k : ℕ) → AllAt schema log n (asked_by lines) replies places → AreNext k places
      → MapAnswersLines schema lines (rows_at schema log k) replies (rows_at schema log (k + length places))
  lines_map [] replies places k there next = (there.0, stays k places there.1)
  lines_map (line ∷ lines) replies places k (reply, others, here, later, is, split, said, rest) next =
      let all = subst (AreNext k) split next in
      let m = k + length here in
      let long = ap (length {A = ℕ}) split in
      let parts = length-append here later in
      let end : m + length later ≡ k + length places = omega (arith, long, parts) in (
        reply,
        others,
        rows_at schema log m,
        is,
        said_map (line_says line) reply here k said (next_first k here later all),
        subst (λ (i : ℕ). MapAnswersLines schema lines (rows_at schema log m) others (rows_at schema log i)) end
            (lines_map lines others later m rest (next_second k here later all)),
      )

-- ---- the only pass of a table

-- its new places come one after another, from what it had seen to what it has seen
module _ (t : Table) (p q : Pass) (was : IsPassOf t p) (is : IsPassOf t q) (alone_then : SawItselfAlone t p) (alone : SawItselfAlone t q) (places : List ℕ) (own : own_of q ≡ own_of p ++ places) where
  long_before : length (own_of p) ≡ length (seen_by t p)
  long_before = own_all t p was alone_then

  next_places : AreNext (length (seen_by t p)) places
  next_places =
      let all = subst (AreNext 0) own (next_own t q is alone) in
      subst (λ (k : ℕ). AreNext k places) (omega (arith, long_before)) (next_second 0 (own_of p) places all)

  reach_all : length (seen_by t p) + length places ≡ length (seen_by t q)
  reach_all =
      let after = own_all t q is alone in
      let long = ap (length {A = ℕ}) own in
      let parts = length-append (own_of p) places in
      omega (arith, long_before, after, long, parts)

rows_before : (t : Table) (p q : Pass) → StartsWith (seen_by t q) (seen_by t p) → rows_at (schema_in t) (seen_by t q) (length (seen_by t p)) ≡ replay (schema_in t) (seen_by t p)
rows_before t p q starts = ap (λ (l : List Event). replay (schema_in t) (take (length (seen_by t p)) l)) starts.1 ∙ ap (replay (schema_in t)) (take-append_seam (seen_by t p) starts.0)

pub sessions_alone_are_one_map : SessionsAloneAreOneMap
sessions_alone_are_one_map t lines p q replies was answers =
    let asked = lines_asked t lines p replies q answers in
    let goes = all_go t (asked_by lines) p replies q was.pass asked in
    let only : IsOnlyPass t q = record { pass = goes.pass; one = was.one; first = goes.number ∙ was.first } in
    let alone = only_alone t q only in
    let alone_then = only_alone t p was in
    let log = seen_by t q in
    let points = commands_are_points t (asked_by lines) p q replies log was.pass asked (starts_itself log) in
    let places = points.0 in
    let own = points.1.own in
    let next = next_places t p q was.pass goes.pass alone_then alone places own in
    let map = lines_map (schema_in t) log (number_of p) (seen_legal t q goes.pass) lines replies places (length (seen_by t p)) points.2 next in
    let before = rows_before t p q goes.starts in
    let after : rows_at (schema_in t) log (length (seen_by t p) + length places) ≡ replay (schema_in t) log
    = ap (rows_at (schema_in t) log) (reach_all t p q was.pass goes.pass alone_then alone places own) ∙ rows_before t q q (starts_itself log) in
    record {
      only = only;
      alone = alone;
      map = subst (λ (l : List Row). MapAnswersLines (schema_in t) lines l replies (replay (schema_in t) log)) before
          (subst (λ (l : List Row). MapAnswersLines (schema_in t) lines (rows_at (schema_in t) log (length (seen_by t p))) replies l) after map);
    }
