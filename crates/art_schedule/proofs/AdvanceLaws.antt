-- What is under way goes on or is run to its end, also from where some steps of it brought it.
use Rattle.std.proofs.Common.{◌≡◌, ◌≢◌, ◌↔◌, ℕ, false, true, List, [], ◌++◌, Result, Ok, Err, IfErr, refl, sym, subst, ap}
use Rattle.arrayvec.specs.ArrayVec.{ArrayVec}
use Rattle.art_model.specs.declared.rows.Row.{Row}
use Rattle.art_server.specs.ArtScan.Running.{view_in}
use Rattle.art_server.specs.ArtScan.declared.running.Ending.{Ending}
use Rattle.art_server.specs.ArtScan.declared.running.Running.{Running}
use Rattle.art_schedule.specs.Lines.{Said, start, until, step, end}
use Rattle.art_schedule.specs.Orders.{EndsAfter, GoesOn, Leaves, Obeys}
use Rattle.art_schedule.specs.Seats.{Advances, EndsThere, Finishes, IsIdle, MakesSome, RunsOut, is_idle}
use Rattle.art_schedule.specs.Steps.{MakesSteps}
use Rattle.art_schedule.specs.Tells.{told_text}
use Rattle.art_schedule.specs.declared.orders.Told.{Told}
use Rattle.art_schedule.specs.declared.orders.Told.TheVariants.{Nothing, At, Stepped, Ended}
use Rattle.art_schedule.specs.declared.seats.Seat.{Seat}
use Rattle.art_schedule.specs.declared.seats.Seat.TheVariants.{Idle, Going, Away}
use Rattle.art_schedule.specs.declared.stops.Stop.{Stop}
use Rattle.art_schedule.specs.declared.stops.Stop.TheVariants.{BadLine, WriteFault, NoMemory}
use Rattle.art_server.specs.ArtTable.Steps.{Made}
use Rattle.art_server.specs.ArtTable.Tables.{sizes_in}
use Rattle.art_server.specs.ArtTable.declared.passes.Pass.{Pass}
use Rattle.art_server.specs.ArtTable.declared.tables.Table.{Table}
use Rattle.art_schedule.proofs.StepLaws.{KeepsRunning-none, KeepsRunning-step, MakesSteps-append}

module _ (t : Table) where
  -- some steps lead from one to the other
  abbrev pub Leads : Running → Running → Type 0
  Leads r s = (made : List Made) × MakesSteps (sizes_in t) (view_in r) made (view_in s)

  MakesSome-none : (r : Running) (rows : List Row) → MakesSome t r rows r rows
  MakesSome-none r rows = record { made = []; steps = refl; keeps = KeepsRunning-none t r rows }

  MakesSome-trans : (r m s : Running) (rows rows_mid rows_after : List Row) → MakesSome t r rows m rows_mid → MakesSome t m rows_mid s rows_after
      → MakesSome t r rows s rows_after
  MakesSome-trans r m s rows rows_mid rows_after before after = record {
    made = before.made ++ after.made;
    steps = MakesSteps-append (sizes_in t) (view_in r) (view_in m) (view_in s) before.made after.made before.steps after.steps;
    keeps = KeepsRunning-step t r m s rows rows_mid rows_after before.keeps after.keeps.keeps;
  }

  Finishes-later : (r m : Running) (rows rows_mid : List Row) (pass : Pass) (ending : Ending) (restarts : ℕ) (rows_after : List Row)
      → MakesSome t r rows m rows_mid → Finishes t m rows_mid pass ending restarts rows_after → Finishes t r rows pass ending restarts rows_after
  Finishes-later r m rows rows_mid pass ending restarts rows_after before after = record {
    made = before.made ++ after.made;
    last = after.last;
    between = after.between;
    steps = MakesSteps-append (sizes_in t) (view_in r) (view_in m) (view_in after.last) before.made after.made before.steps after.steps;
    keeps = KeepsRunning-step t r m after.last rows rows_mid after.between before.keeps after.keeps.keeps;
    none = after.none;
    restarted = after.restarted;
    of = after.of;
    ends = λ c turns p runs. after.ends c turns p (before.keeps.keeps c turns p runs);
  }

  RunsOut-later : (r m : Running) (rows rows_mid : List Row) (pass : Pass) → MakesSome t r rows m rows_mid → RunsOut t m rows_mid pass
      → RunsOut t r rows pass
  RunsOut-later r m rows rows_mid pass before out = record {
    ending = out.ending;
    restarts = out.restarts;
    rows_after = out.rows_after;
    finishes = Finishes-later r m rows rows_mid pass out.ending out.restarts out.rows_after before out.finishes;
  }

  -- ---- what stands at a place

  pub Advances-none : (s : Seat) (rows : List Row) → Advances t s rows s rows
  Advances-none (Idle q) rows = refl
  Advances-none (Going r) rows = MakesSome-none r rows
  Advances-none Away rows = refl

  -- an idle pass that stays
  Advances-idle : (s : Seat) (rows rows_after : List Row) → IsIdle s → Advances t s rows s rows_after
  Advances-idle (Idle q) rows rows_after idle = refl
  Advances-idle (Going r) rows rows_after idle = absurd (cc)
  Advances-idle Away rows rows_after idle = absurd (cc)

  Advances-later : (r m : Running) (rows rows_mid : List Row) (new : Seat) (rows_after : List Row) → MakesSome t r rows m rows_mid
      → Advances t (Going m) rows_mid new rows_after → Advances t (Going r) rows new rows_after
  Advances-later r m rows rows_mid (Idle q) rows_after before after = RunsOut-later r m rows rows_mid q before after
  Advances-later r m rows rows_mid (Going s) rows_after before after = MakesSome-trans r m s rows rows_mid rows_after before after
  Advances-later r m rows rows_mid Away rows_after before after = absurd after

  module _ (old new : Seat) (rows rows_after : List Row) where
    pub Advances-on : (made : Running → Running → Type 0) → GoesOn t old rows new rows_after made
        → ((r s : Running) → made r s → Leads r s) → Advances t old rows new rows_after
    Advances-on made on leads =
        let all = leads on.running on.running_after on.steps in
        subst (λ (s : Seat). Advances t s rows new rows_after) (sym on.was)
        (subst (λ (s : Seat). Advances t (Going on.running) rows s rows_after) (sym on.now)
        (record { made = all.0; steps = all.1; keeps = on.keeps }))

    pub Advances-end : (ending : Ending) (restarts : ℕ) → EndsThere t old rows new rows_after ending restarts → Advances t old rows new rows_after
    Advances-end ending restarts ends =
        subst (λ (s : Seat). Advances t s rows new rows_after) (sym ends.was)
        (subst (λ (s : Seat). Advances t (Going ends.running) rows s rows_after) (sym ends.now)
        (record { ending = ending; restarts = restarts; rows_after = rows_after; finishes = ends.finishes }))

  Advances-after : (old new : Seat) (rows rows_after : List Row) (made : Running → Running → List Row → Type 0) (reply : List ℕ) (restarts : ℕ)
      → EndsAfter t old rows made new rows_after reply restarts → ((r s : Running) (between : List Row) → made r s between → Leads r s)
      → Advances t old rows new rows_after
  Advances-after old new rows rows_after made reply restarts ends leads =
      let all = leads ends.running ends.between ends.rows_between ends.steps in
      subst (λ (s : Seat). Advances t s rows new rows_after) (sym ends.was)
      (Advances-later ends.running ends.between rows ends.rows_between new rows_after (record { made = all.0; steps = all.1; keeps = ends.keeps })
      (Advances-end (Going ends.between) new ends.rows_between rows_after ends.ends.ending restarts ends.ends.there))

  -- ---- an order

  -- one that was obeyed, and of which something is told
  pub Advances-obeyed : (said : Said) (old new : Seat) (rows rows_after : List Row) (told : Told) (place : ℕ)
      → Obeys t said old rows new rows_after told → told_text place told ≢ [] → Advances t old rows new rows_after
  Advances-obeyed (start turns text) old new rows rows_after Nothing place obeys some = absurd (some refl)
  Advances-obeyed (start turns text) old new rows rows_after (At m) place obeys some = absurd obeys
  Advances-obeyed (start turns text) old new rows rows_after Stepped place obeys some = absurd obeys
  Advances-obeyed (start turns text) old new rows rows_after (Ended reply restarts) place obeys some =
      subst (λ (s : Seat). Advances t old rows s rows_after) (sym obeys.stays) (Advances-idle old rows rows_after obeys.idle)
  Advances-obeyed (until mark n) old new rows rows_after Nothing place obeys some = absurd obeys
  Advances-obeyed (until mark n) old new rows rows_after (At m) place obeys some =
      Advances-on old new rows rows_after _ obeys.1 (λ r s reaches. (_, reaches.steps))
  Advances-obeyed (until mark n) old new rows rows_after Stepped place obeys some = absurd obeys
  Advances-obeyed (until mark n) old new rows rows_after (Ended reply restarts) place obeys some =
      Advances-after old new rows rows_after _ reply.items restarts obeys (λ r s between misses. (misses.made, misses.steps))
  Advances-obeyed (step n) old new rows rows_after Nothing place obeys some = absurd obeys
  Advances-obeyed (step n) old new rows rows_after (At m) place obeys some = absurd obeys
  Advances-obeyed (step n) old new rows rows_after Stepped place obeys some =
      Advances-on old new rows rows_after _ obeys (λ r s many. (many.made, many.steps))
  Advances-obeyed (step n) old new rows rows_after (Ended reply restarts) place obeys some =
      Advances-after old new rows rows_after _ reply.items restarts obeys (λ r s between fewer. (fewer.made, fewer.steps))
  Advances-obeyed end old new rows rows_after Nothing place obeys some = absurd obeys
  Advances-obeyed end old new rows rows_after (At m) place obeys some = absurd obeys
  Advances-obeyed end old new rows rows_after Stepped place obeys some = absurd obeys
  Advances-obeyed end old new rows rows_after (Ended reply restarts) place obeys some =
      Advances-end old new rows rows_after obeys.ending restarts obeys.there

  -- one that its pass cannot do
  pub Leaves-unfit : (stop : Stop) (old new : Seat) (room room_after : ArrayVec Row) → stop ≡ BadLine → new ≡ old → room_after ≡ room
      → Leaves t stop old room new room_after
  Leaves-unfit BadLine old new room room_after is seat rooms = (seat, rooms)
  Leaves-unfit WriteFault old new room room_after is seat rooms = absurd (cc)
  Leaves-unfit NoMemory old new room room_after is seat rooms = absurd (cc)

  -- steps were made, and then the command ended, or its reply was not told
  pub Leaves-later : {A : Type 0} (old mid new : Seat) (room room_mid room_after : ArrayVec Row) (made : Running → Running → Type 0)
      → GoesOn t old room.items mid room_mid.items made → ((r s : Running) → made r s → Leads r s) → (r : Result A Stop)
      → (r ≡ Err BadLine) ↔ (is_idle mid ≡ true) → IfErr r (λ stop. Leaves t stop mid room_mid new room_after)
      → IfErr r (λ stop. Leaves t stop old room new room_after)
  Leaves-later old mid new room room_mid room_after made on leads (Ok a) bad leaves = tt
  Leaves-later old mid new room room_mid room_after made on leads (Err BadLine) bad leaves =
      let idle = bad.0 refl in
      let going : is_idle mid ≡ false = ap is_idle on.now in
      absurd (cc)
  Leaves-later old mid new room room_mid room_after made on leads (Err WriteFault) bad leaves = absurd leaves
  Leaves-later old mid new room room_mid room_after made on leads (Err NoMemory) bad leaves =
      let all = leads on.running on.running_after on.steps in
      subst (λ (s : Seat). Advances t s room.items new room_after.items) (sym on.was)
      (Advances-later on.running on.running_after room.items room_mid.items new room_after.items
      (record { made = all.0; steps = all.1; keeps = on.keeps })
      (subst (λ (s : Seat). Advances t s room_mid.items new room_after.items) on.now leaves))
