-- What comes back of a place has answered all that was asked there.
use Rattle.std.proofs.Common.{◌≡◌, ℕ, suc, zero, ◌<◌, ◌≤◌, List, [], ◌∷◌, ◌++◌, length, get_or, get_or-set_other, get_or-set_same, Some, inl, inr, refl, sym, ap, subst, ◌∙◌, append-nil, arith}
use Rattle.std.specs.List.{slice_get}
use Rattle.std.proofs.Math.ListN.{set}
use Rattle.std.proofs.lemmas.Bool.{cases_eq}
use Rattle.std.proofs.lemmas.List.{get_or_default}
use Rattle.arrayvec.specs.ArrayVec.{ArrayVec}
use Rattle.art_model.specs.declared.rows.Row.{Row}
use Rattle.art_schedule.specs.Desks.{AreSettled, Places, Settles}
use Rattle.art_schedule.specs.Seats.{Advances, IsIdle, SettlesTo}
use Rattle.art_schedule.specs.Tasks.{AdvancesAt}
use Rattle.art_schedule.specs.declared.seats.Seat.{Seat}
use Rattle.art_schedule.specs.declared.seats.Seat.TheVariants.{Idle, Going, Away}
use Rattle.art_server.specs.ArtScan.declared.running.Running.{Running}
use Rattle.art_server.specs.ArtTable.declared.passes.Pass.{Pass}
use Rattle.art_server.specs.ArtTable.declared.tables.Table.{Table}
use Rattle.art_server.specs.Endings.{reply_of_ending}
use Rattle.art_sessions.specs.Points.{AnswersAll, Asked}
use Rattle.art_schedule.proofs.AdvanceLaws.{Advances-none}
use Rattle.art_schedule.proofs.Standings.{IsAsked, Replies, Stands, ends_answered, keeps_asked}
use Rattle.art_schedule.proofs.Places.{StandsAt, some_of}

module _ (t : Table) where
  -- ---- what is under way goes on, or is run to its end

  -- at each place
  abbrev pub AdvanceAll : Places → Places → Type 0
  AdvanceAll old new =
      (k : ℕ) (d : Seat) (e : ArrayVec Row) → k < length old.seats → k < length old.rooms
      → Advances t (get_or old.seats k d) (get_or old.rooms k e).items (get_or new.seats k d) (get_or new.rooms k e).items

  pub AdvanceAll-none : (places : Places) → AdvanceAll places places
  AdvanceAll-none places k d e within within_room = Advances-none t (get_or places.seats k d) (get_or places.rooms k e).items

  pub AdvanceAll-at : (place : ℕ) (old new : Places) → AdvancesAt t place old new → AdvanceAll old new
  AdvanceAll-at place old new a k d e within within_room =
      let Goal : List Seat → List (ArrayVec Row) → Type 0 =
      λ (ss : List Seat) (rs : List (ArrayVec Row)).
      Advances t (get_or old.seats k d) (get_or old.rooms k e).items (get_or ss k d) (get_or rs k e).items in
      subst (λ (ss : List Seat). Goal ss new.rooms) (sym a.seats)
      (subst (λ (rs : List (ArrayVec Row)). Goal (set old.seats place a.seat_after) rs) (sym a.rooms)
      (elim (cases_eq k place) [
        | inl here ↦ (
            let seat : a.seat ≡ get_or old.seats k d =
            a.seat_is ∙ ap (λ (n : ℕ). get_or old.seats n a.seat) (sym here) ∙ get_or_default old.seats k a.seat d within in
            let room : a.room ≡ get_or old.rooms k e =
            a.room_is ∙ ap (λ (n : ℕ). get_or old.rooms n a.room) (sym here) ∙ get_or_default old.rooms k a.room e within_room in
            let seat_then = get_or-set_same old.seats k a.seat_after d within in
            let room_then = get_or-set_same old.rooms k a.room_after e within_room in
            rw (sym here, seat_then, room_then, sym seat, sym room) a.advances)
        | inr other ↦ (
            rw (get_or-set_other old.seats place k a.seat_after d other, get_or-set_other old.rooms place k a.room_after e other)
            (AdvanceAll-none old k d e within within_room))
      ]))

  -- ---- what comes back of one place

  module _ (p : Pass) (asks : List Asked) (replies : Replies) where
    -- all was answered, and one reply at most was not told: none, where nothing was under way
    pub record ComesBack (seat : Seat) (q : Pass) : Type 0 where
      pub untold : Replies
      pub answers : AnswersAll t asks p (replies ++ untold) q
      pub few : length untold ≤ 1
      pub idle : IsIdle seat → untold ≡ []

    none_untold : (m q : Pass) → AnswersAll t asks p replies m → q ≡ m → ComesBack (Idle m) q
    none_untold m q answers same = record {
      untold = [];
      answers =
          subst (λ (x : Pass). AnswersAll t asks p (replies ++ []) x) (sym same)
          (subst (λ (l : Replies). AnswersAll t asks p l m) (sym (append-nil replies)) answers);
      few = omega arith;
      idle = λ _. refl;
    }

    -- what is under way there is run to its end, and its reply is not told
    run_out : (r s : Running) (rows rows_after : List Row) (q : Pass) → IsAsked t p asks replies s rows_after
        → SettlesTo t (Going s) rows_after q → ComesBack (Going r) q
    run_out r s rows rows_after q is out = record {
      untold = reply_of_ending out.rows_after out.ending ∷ [];
      answers = ends_answered t p asks replies s rows_after q out.ending out.restarts out.rows_after out.finishes is;
      few = omega arith;
      idle = λ idle. absurd (cc);
    }

    pub comes_back : (seat new : Seat) (rows rows_after : List Row) (q : Pass) → Stands t p asks replies seat rows
        → Advances t seat rows new rows_after → SettlesTo t new rows_after q → ComesBack seat q
    comes_back (Idle m) new rows rows_after q stands same settles =
        none_untold m q stands (subst (λ (s : Seat). SettlesTo t s rows_after q) same settles)
    comes_back (Going r) (Idle m) rows rows_after q stands out settles = run_out r r rows rows q stands (rw settles out)
    comes_back (Going r) (Going s) rows rows_after q stands some settles =
        run_out r s rows rows_after q (keeps_asked t p asks replies r s rows rows_after some.keeps stands) settles
    comes_back (Going r) Away rows rows_after q stands advances settles = absurd advances
    comes_back Away new rows rows_after q stands advances settles = absurd stands

  -- ---- at each place

  pub length-AreSettled : (ss : List Seat) (rs : List (ArrayVec Row)) (back : List Pass) → AreSettled t ss rs back
      → length back ≡ length ss
  length-AreSettled [] [] [] settled = refl
  length-AreSettled [] [] (q ∷ back) settled = absurd settled
  length-AreSettled [] (r ∷ rs) back settled = absurd settled
  length-AreSettled (s ∷ ss) [] back settled = absurd settled
  length-AreSettled (s ∷ ss) (r ∷ rs) [] settled = absurd settled
  length-AreSettled (s ∷ ss) (r ∷ rs) (q ∷ back) settled = ap suc (length-AreSettled ss rs back settled.1)

  same_some : (p q : Pass) → Some p ≡ Some q → p ≡ q
  same_some p q e = cc

  settled_at : (ss : List Seat) (rs : List (ArrayVec Row)) (back : List Pass) (k : ℕ) (q : Pass) (d : Seat) (e : ArrayVec Row)
      → AreSettled t ss rs back → slice_get back k ≡ Some q → SettlesTo t (get_or ss k d) (get_or rs k e).items q
  settled_at ss rs [] k q d e settled at = absurd (cc)
  settled_at [] [] (x ∷ back) k q d e settled at = absurd settled
  settled_at [] (r ∷ rs) (x ∷ back) k q d e settled at = absurd settled
  settled_at (s ∷ ss) [] (x ∷ back) k q d e settled at = absurd settled
  settled_at (s ∷ ss) (r ∷ rs) (x ∷ back) zero q d e settled at =
      subst (λ (y : Pass). SettlesTo t s r.items y) (same_some x q at) settled.0
  settled_at (s ∷ ss) (r ∷ rs) (x ∷ back) (suc k) q d e settled at = settled_at ss rs back k q d e settled.1 at

  pub comes_back_at : (k : ℕ) (p q : Pass) (asks : List Asked) (replies : Replies) (mid last : Places) (back : List Pass) (d : Seat)
      → StandsAt t k p asks replies mid → AdvanceAll mid last → Settles t last back → slice_get back k ≡ Some q
      → ComesBack p asks replies (get_or mid.seats k d) q
  comes_back_at k p q asks replies mid last back d at advance settles there =
      let e = some_of mid.rooms k at.within_room in
      comes_back p asks replies (get_or mid.seats k d) (get_or last.seats k d) (get_or mid.rooms k e).items (get_or last.rooms k e).items q
      (at.stands d e) (advance k d e at.within at.within_room)
      (settled_at last.seats last.rooms back k q d e settles there)
