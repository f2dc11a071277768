-- What is told of tasks that were done, one thing of each.
use Rattle.std.proofs.Common.{◌≡◌, ◌⊎◌, ℕ, suc, zero, List, [], ◌∷◌, ◌++◌, take, get_or, Some, inl, inr, refl, sym, ap, subst, ◌∙◌}
use Rattle.std.specs.Prelude.{IsErr, IsOk}
use Rattle.arrayvec.specs.ArrayVec.{ArrayVec}
use Rattle.art_model.specs.declared.rows.Row.{Row}
use Rattle.art_schedule.specs.Desks.{Places}
use Rattle.art_schedule.specs.Lines.{Said, start, until, step, end, line_order}
use Rattle.art_schedule.specs.Orders.{Obeys}
use Rattle.art_schedule.specs.Points.{CanTell, CanTellLast, CanTellOf, TellEach, Telling, text_of_telling, texts_of_tellings}
use Rattle.art_schedule.specs.Seats.{IsIdle}
use Rattle.art_schedule.specs.Tasks.{Does, DoesAll, ObeysAt, Task, end_at, obey}
use Rattle.art_schedule.specs.declared.orders.Told.{Told}
use Rattle.art_schedule.specs.declared.orders.Told.TheVariants.{Nothing, At, Stepped, Ended}
use Rattle.art_schedule.specs.declared.seats.Seat.{Seat}
use Rattle.art_server.specs.ArtTable.declared.tables.Table.{Table}
use Rattle.art_schedule.proofs.TaskLaws.{ChangesAt}

-- the pass at the place obeyed, and this is told of it
pub record FollowsAt (t : Table) (place : ℕ) (said : Said) (old : Places) (told : Told) (new : Places) : Type 0 where
  pub seat : Seat
  pub room : ArrayVec Row
  pub seat_after : Seat
  pub room_after : ArrayVec Row
  pub changes : ChangesAt t place old new seat room seat_after room_after
  pub obeys : Obeys t said seat room.items seat_after room_after.items told

-- the pass at the place is idle, so nothing is done and nothing told
pub record RestsAt (place : ℕ) (old : Places) (told : Told) (new : Places) : Type 0 where
  pub seat : Seat
  pub seat_is : seat ≡ get_or old.seats place seat
  pub idle : IsIdle seat
  pub none : told ≡ Nothing
  pub same : new ≡ old

-- the task was done, and this is told of it
abbrev pub Speaks : Table → Task → Places → Telling → Places → Type 0
Speaks t (obey line) old telling new =
    (said : Said) × (line_order line ≡ Some (telling.place, said)) × FollowsAt t telling.place said old telling.told new
Speaks t (end_at place) old telling new =
    (telling.place ≡ place) × (RestsAt place old telling.told new ⊎ FollowsAt t place end old telling.told new)

-- tasks one after another, of each of which one thing is told
abbrev pub SpeakAll : Table → List Task → Places → List Telling → Places → Type 0
SpeakAll t [] old [] new = new ≡ old
SpeakAll t (task ∷ tasks) old (telling ∷ tellings) new = (m : Places) × Speaks t task old telling m × SpeakAll t tasks m tellings new
SpeakAll t tasks old tellings new = ⊥

module _ (t : Table) where
  -- ---- of what is done something is told

  follows : (place : ℕ) (said : Said) (old : Places) (text : List ℕ) (new : Places) → (obeys : ObeysAt t place said old text new)
      → FollowsAt t place said old obeys.told new
  follows place said old text new obeys = record {
    seat = obeys.seat;
    room = obeys.room;
    seat_after = obeys.seat_after;
    room_after = obeys.room_after;
    changes = record { seat_is = obeys.seat_is; room_is = obeys.room_is; seats = obeys.seats; rooms = obeys.rooms };
    obeys = obeys.obeys;
  }

  pub speaks : (task : Task) (old : Places) (text : List ℕ) (new : Places) → Does t task old text new
      → (telling : Telling) × Speaks t task old telling new × (text ≡ text_of_telling telling)
  speaks (obey line) old text new does = (
    record { place = does.place; told = does.obeys.told },
    (does.said, does.says, follows does.place does.said old text new does.obeys),
    does.obeys.prints,
  )
  speaks (end_at place) old text new (inl stays) = (
    record { place = place; told = Nothing },
    (refl, inl (record { seat = stays.seat; seat_is = stays.seat_is; idle = stays.idle; none = refl; same = stays.same })),
    stays.none,
  )
  speaks (end_at place) old text new (inr obeys) =
      (record { place = place; told = obeys.told }, (refl, inr (follows place end old text new obeys)), obeys.prints)

  pub speak_all : (tasks : List Task) (old : Places) (text : List ℕ) (new : Places) → DoesAll t tasks old text new
      → (tellings : List Telling) × SpeakAll t tasks old tellings new × (text ≡ texts_of_tellings tellings)
  speak_all [] old text new (none, same) = ([], same, none)
  speak_all (task ∷ tasks) old text new (one, others, m, split, does, rest) =
      let first = speaks task old one m does in
      let later = speak_all tasks m others new rest in (
        first.0 ∷ later.0,
        (m, first.1, later.1),
        split ∙ ap (λ (l : List ℕ). l ++ others) first.2 ∙ ap (λ (l : List ℕ). text_of_telling first.0 ++ l) later.2,
      )

  -- one task more
  pub SpeakAll-push : (tasks : List Task) (task : Task) (old m : Places) (tellings : List Telling) (telling : Telling) (new : Places)
      → SpeakAll t tasks old tellings m → Speaks t task m telling new → SpeakAll t (tasks ++ task ∷ []) old (tellings ++ telling ∷ []) new
  SpeakAll-push [] task old m [] telling new same speaks =
      (new, subst (λ (p : Places). Speaks t task p telling new) same speaks, refl)
  SpeakAll-push [] task old m (x ∷ tellings) telling new all speaks = absurd all
  SpeakAll-push (a ∷ tasks) task old m [] telling new all speaks = absurd all
  SpeakAll-push (a ∷ tasks) task old m (x ∷ tellings) telling new (n, one, rest) speaks =
      (n, one, SpeakAll-push tasks task n m tellings telling new rest speaks)

  -- some tasks, and those behind them
  pub SpeakAll-split : (xs ys : List Task) (old : Places) (tellings : List Telling) (new : Places) → SpeakAll t (xs ++ ys) old tellings new
      → (m : Places) × (first : List Telling) × (later : List Telling) × SpeakAll t xs old first m × SpeakAll t ys m later new
  SpeakAll-split [] ys old tellings new all = (old, [], tellings, refl, all)
  SpeakAll-split (x ∷ xs) ys old [] new all = absurd all
  SpeakAll-split (x ∷ xs) ys old (telling ∷ tellings) new (n, one, rest) =
      let others = SpeakAll-split xs ys n tellings new rest in
      (others.0, telling ∷ others.1, others.2, (n, one, others.3), others.4)

  -- the first tasks
  pub SpeakAll-take : (n : ℕ) (tasks : List Task) (old : Places) (tellings : List Telling) (new : Places)
      → SpeakAll t tasks old tellings new → (m : Places) × SpeakAll t (take n tasks) old (take n tellings) m
  SpeakAll-take zero tasks old tellings new all = (old, refl)
  SpeakAll-take (suc n) [] old [] new all = (old, refl)
  SpeakAll-take (suc n) [] old (telling ∷ tellings) new all = absurd all
  SpeakAll-take (suc n) (task ∷ tasks) old [] new all = absurd all
  SpeakAll-take (suc n) (task ∷ tasks) old (telling ∷ tellings) new (m, one, rest) =
      let others = SpeakAll-take n tasks m tellings new rest in
      (others.0, (m, one, others.1))

  -- ---- it is what can be told

  can_tell : (said : Said) (old new : Seat) (rows rows_after : List Row) (told : Told) → Obeys t said old rows new rows_after told
      → CanTell said told
  can_tell (start turns text) old new rows rows_after Nothing obeys = subst IsOk (sym obeys.says) refl
  can_tell (start turns text) old new rows rows_after (At m) obeys = absurd obeys
  can_tell (start turns text) old new rows rows_after Stepped obeys = absurd obeys
  can_tell (start turns text) old new rows rows_after (Ended reply restarts) obeys = subst IsErr (sym obeys.says) refl
  can_tell (until mark times) old new rows rows_after Nothing obeys = absurd obeys
  can_tell (until mark times) old new rows rows_after (At m) obeys = obeys.0
  can_tell (until mark times) old new rows rows_after Stepped obeys = absurd obeys
  can_tell (until mark times) old new rows rows_after (Ended reply restarts) obeys = tt
  can_tell (step times) old new rows rows_after Nothing obeys = absurd obeys
  can_tell (step times) old new rows rows_after (At m) obeys = absurd obeys
  can_tell (step times) old new rows rows_after Stepped obeys = tt
  can_tell (step times) old new rows rows_after (Ended reply restarts) obeys = tt
  can_tell end old new rows rows_after Nothing obeys = absurd obeys
  can_tell end old new rows rows_after (At m) obeys = absurd obeys
  can_tell end old new rows rows_after Stepped obeys = absurd obeys
  can_tell end old new rows rows_after (Ended reply restarts) obeys = tt

  last_of_end : (told : Told) → CanTell end told → CanTellLast told
  last_of_end Nothing can = absurd can
  last_of_end (At m) can = absurd can
  last_of_end Stepped can = absurd can
  last_of_end (Ended reply restarts) can = tt

  can_tell_of : (task : Task) (old : Places) (telling : Telling) (new : Places) → Speaks t task old telling new → CanTellOf task telling
  can_tell_of (obey line) old telling new (said, says, at) =
      (said, says, can_tell said at.seat at.seat_after at.room.items at.room_after.items telling.told at.obeys)
  can_tell_of (end_at place) old telling new (is, inl rests) = (is, subst CanTellLast (sym rests.none) tt)
  can_tell_of (end_at place) old telling new (is, inr at) =
      (is, last_of_end telling.told (can_tell end at.seat at.seat_after at.room.items at.room_after.items telling.told at.obeys))

  pub tell_each : (tasks : List Task) (old : Places) (tellings : List Telling) (new : Places) → SpeakAll t tasks old tellings new
      → TellEach tasks tellings
  tell_each [] old [] new all = tt
  tell_each [] old (telling ∷ tellings) new all = absurd all
  tell_each (task ∷ tasks) old [] new all = absurd all
  tell_each (task ∷ tasks) old (telling ∷ tellings) new (m, one, rest) =
      (can_tell_of task old telling m one, tell_each tasks m tellings new rest)
