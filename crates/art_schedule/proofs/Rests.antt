-- After the last tasks of an input that ended nothing is under way.
use Rattle.std.proofs.Common.{◌≡◌, ◌⊎◌, ℕ, suc, zero, ◌+◌, ◌<◌, ◌≤◌, List, [], ◌∷◌, length, map, get_or, get_or-set_other, get_or-set_same, inl, inr, sym, ap, subst, ◌∙◌, arith}
use Rattle.std.specs.List.{range_with_len}
use Rattle.std.proofs.lemmas.Bool.{cases_eq}
use Rattle.std.proofs.lemmas.List.{get_or_default, length-set}
use Rattle.art_model.specs.declared.rows.Row.{Row}
use Rattle.art_schedule.specs.Desks.{Places}
use Rattle.art_schedule.specs.Lines.{end}
use Rattle.art_schedule.specs.Orders.{Obeys}
use Rattle.art_schedule.specs.Points.{Telling}
use Rattle.art_schedule.specs.Seats.{IsIdle, is_idle}
use Rattle.art_schedule.specs.Schedules.{rest_tasks}
use Rattle.art_schedule.specs.Tasks.{Task, end_at, obey}
use Rattle.art_schedule.specs.declared.orders.Told.{Told}
use Rattle.art_schedule.specs.declared.orders.Told.TheVariants.{Nothing, At, Stepped, Ended}
use Rattle.art_schedule.specs.declared.seats.Seat.{Seat}
use Rattle.art_step.specs.Views.{Member}
use Rattle.art_server.specs.ArtTable.declared.tables.Table.{Table}
use Rattle.art_schedule.proofs.Tellings.{SpeakAll, Speaks}

-- nothing is under way at the place k
abbrev pub IsIdleAt : ℕ → Places → Type 0
IsIdleAt k places = (d : Seat) → IsIdle (get_or places.seats k d)

in_range : (a n k : ℕ) → a ≤ k → k < a + n → Member k (range_with_len a n)
in_range a zero k from below = absurd (omega arith)
in_range a (suc n) k from below =
    elim (cases_eq k a) [ inl same ↦ inl same | inr other ↦ inr (in_range (a + 1) n k (omega arith) (omega arith)) ]

module _ (t : Table) where
  length-Speaks : (task : Task) (old : Places) (telling : Telling) (new : Places) → Speaks t task old telling new
      → length new.seats ≡ length old.seats
  length-Speaks (obey line) old telling new (said, says, f) =
      ap (length {A = Seat}) f.changes.seats ∙ length-set old.seats telling.place f.seat_after
  length-Speaks (end_at place) old telling new (is, inl rests) = ap (λ (x : Places). length x.seats) rests.same
  length-Speaks (end_at place) old telling new (is, inr f) =
      ap (length {A = Seat}) f.changes.seats ∙ length-set old.seats place f.seat_after

  pub length-SpeakAll : (tasks : List Task) (old : Places) (tellings : List Telling) (new : Places) → SpeakAll t tasks old tellings new
      → length new.seats ≡ length old.seats
  length-SpeakAll [] old [] new same = ap (λ (x : Places). length x.seats) same
  length-SpeakAll [] old (telling ∷ tellings) new all = absurd all
  length-SpeakAll (task ∷ tasks) old [] new all = absurd all
  length-SpeakAll (task ∷ tasks) old (telling ∷ tellings) new (m, one, rest) =
      length-SpeakAll tasks m tellings new rest ∙ length-Speaks task old telling m one

  -- what is run to its end is idle then
  end_idle : (old new : Seat) (rows rows_after : List Row) (told : Told) → Obeys t end old rows new rows_after told → IsIdle new
  end_idle old new rows rows_after Nothing obeys = absurd obeys
  end_idle old new rows rows_after (At m) obeys = absurd obeys
  end_idle old new rows rows_after Stepped obeys = absurd obeys
  end_idle old new rows rows_after (Ended reply restarts) obeys = ap is_idle obeys.there.now

  module _ (k : ℕ) where
    -- the end at a place leaves it idle, and another one as it is
    after_end : (place : ℕ) (old : Places) (telling : Telling) (new : Places) → Speaks t (end_at place) old telling new
        → k < length old.seats → (k ≡ place) ⊎ IsIdleAt k old → IsIdleAt k new
    after_end place old telling new (is, inl rests) within (inl here) d =
        let idle : IsIdle (get_or old.seats place rests.seat) = subst IsIdle rests.seat_is rests.idle in
        let idle_here : IsIdle (get_or old.seats k rests.seat) =
        subst (λ (n : ℕ). IsIdle (get_or old.seats n rests.seat)) (sym here) idle in
        subst (λ (x : Places). IsIdle (get_or x.seats k d)) (sym rests.same)
        (subst IsIdle (get_or_default old.seats k rests.seat d within) idle_here)
    after_end place old telling new (is, inl rests) within (inr idle) d =
        subst (λ (x : Places). IsIdle (get_or x.seats k d)) (sym rests.same) (idle d)
    after_end place old telling new (is, inr f) within known d =
        subst (λ (l : List Seat). IsIdle (get_or l k d)) (sym f.changes.seats)
        (elim (cases_eq k place) [
          | inl here ↦ (
              let idle = end_idle f.seat f.seat_after f.room.items f.room_after.items telling.told f.obeys in
              rw (sym here) (rw get_or-set_same idle))
          | inr other ↦ rw get_or-set_other (elim known [ inl here ↦ absurd (other here) | inr idle ↦ idle d ])
        ])

    after_ends : (places : List ℕ) (old : Places) (tellings : List Telling) (new : Places)
        → SpeakAll t (map end_at places) old tellings new → k < length old.seats → Member k places ⊎ IsIdleAt k old → IsIdleAt k new
    after_ends [] old [] new same within (inl none) = absurd none
    after_ends [] old [] new same within (inr idle) = subst (IsIdleAt k) (sym same) idle
    after_ends [] old (telling ∷ tellings) new all within known = absurd all
    after_ends (place ∷ places) old [] new all within known = absurd all
    after_ends (place ∷ places) old (telling ∷ tellings) new (m, one, rest) within known =
        let many = length-Speaks (end_at place) old telling m one in
        after_ends places m tellings new rest (omega arith) (elim known [
          | inl (inl here) ↦ inr (after_end place old telling m one within (inl here))
          | inl (inr later) ↦ inl later
          | inr idle ↦ inr (after_end place old telling m one within (inr idle))
        ])

    pub idle_at_end : (old : Places) (tellings : List Telling) (new : Places) → SpeakAll t rest_tasks old tellings new
        → k < length old.seats → k < 8 → IsIdleAt k new
    idle_at_end old tellings new all within below =
        after_ends (range_with_len 0 8) old tellings new all within (inl (in_range 0 8 k (omega arith) (omega arith)))
